-- A follower binds what is next in the line: what it has of itself then.
use Rattle.std.proofs.Common.{◌≡◌, ◌⊎◌, ℕ, ◌+◌, ◌≤◌, List, [], ◌∷◌, ◌++◌, length, take, Some, true, false, not, inl, inr, sym, ap, ◌∙◌, subst, arith, append_assoc, append-nil}
use Rattle.std.specs.Prelude.{filter}
use Rattle.std.proofs.lemmas.Bool.{cases_lt}
use Rattle.list_facts.specs.Lists.{Distinct, Each, In, Precedes}
use Rattle.list_facts.proofs.Members.{in_cases, in_filter, in_last, in_left, in_more, in_right}
use Rattle.list_facts.proofs.Precedence.{precedes_left}
use Rattle.rec_id.specs.History.{finished_id}
use Rattle.rec_id.specs.Identity.{Identity, has_id}
use Rattle.rec_id.specs.declared.event.Event.{Event}
use Rattle.rec_id.specs.declared.event.Event.TheVariants.{Invoke}
use Rattle.rec_id.specs.declared.item.Item.{Item}
use Rattle.rec_id.specs.declared.marks.Marks.{Marks}
use Rattle.view_config.specs.Shape.{Dimensions}
use Rattle.lazy_rules.specs.Ids.{ids_of}
use Rattle.lazy_rules.specs.Roles.{is_first}
use Rattle.lazy_rules.specs.SeqRules.{is_leader, with_bound}
use Rattle.lazy_rules.specs.SeqState.{SeqState}
use Rattle.lazy_rules.specs.Windows.{marked_all, marked_in}
use Rattle.log_facts.specs.Finality.{line_ids}
use Rattle.log_facts.specs.Ghosts.{Ghost, Views}
use Rattle.log_facts.specs.Good.{Moment}
use Rattle.log_facts.specs.Growth.{SeqGrows}
use Rattle.log_facts.specs.Parts.{Parts}
use Rattle.log_facts.specs.Past.{HasEnded, IsBegun}
use Rattle.log_facts.specs.Signs.{IsPiece}
use Rattle.log_facts.specs.facts.OfLine.{EndedFacts, Held, IsWhole, MemberFacts, SeesFacts, WindowFacts}
use Rattle.log_facts.specs.facts.OfSeqs.{SeqFacts}
use Rattle.seq_rows.proofs.Active.{IsActive, IsFollowing, live, member, never_sealed}
use Rattle.seq_rows.proofs.Appending.{begun_client, begun_number, line_begun}
use Rattle.seq_rows.proofs.GoingOn.{some_first}
use Rattle.seq_rows.proofs.Longer.{in_whole, take_whole}
use Rattle.seq_rows.proofs.Marking.{marked_formed, marked_sees}
use Rattle.seq_rows.proofs.Reordering.{after, after_distinct, after_precedes, distinct_take, each_filter, front_precedes, ids_filter, lacks, new_in, piece_take, piece_within, stays_in, was_in}
use Rattle.seq_rows.proofs.Stale.{stale_ended}

module _ (shape : Dimensions) (g : Ghost) (a : Parts) (me : ℕ) (moment : Moment shape g a) where
  abbrev s : SeqState
  s = a.seqs me

  abbrev v : Views
  v = g.views

  -- ---- the marks of several identities
  all_formed : (ids : List Identity) (window : List Marks) → Each (IsBegun a.history) ids → WindowFacts shape window → WindowFacts shape (marked_all window ids)
  all_formed [] window begun formed = formed
  all_formed (id ∷ ids) window begun formed = all_formed ids (marked_in window id) begun.1 (marked_formed shape a.history window formed id (begun_client shape g a me moment id begun.0))

  all_seen :
      (ids had : List Identity) (window : List Marks) → Each (IsBegun a.history) ids → ((x : Identity) → In x had → IsBegun a.history x) → ((x : Identity) → HasEnded a.history x → In x had) →
      WindowFacts shape window → SeesFacts shape a.history window had → SeesFacts shape a.history (marked_all window ids) (had ++ ids)
  all_seen [] had window begun had_begun ended formed sees = subst (SeesFacts shape a.history window) (sym (append-nil had)) sees
  all_seen (id ∷ ids) had window begun had_begun ended formed sees =
      let inside = begun_client shape g a me moment id begun.0 in
      let more_begun : (x : Identity) → In x (had ++ id ∷ []) → IsBegun a.history x = λ x i. elim (in_more x id had i) [ inl old ↦ had_begun x old | inr is ↦ subst (IsBegun a.history) is begun.0 ] in
      subst (SeesFacts shape a.history (marked_all (marked_in window id) ids)) (append_assoc had (id ∷ []) ids)
      (all_seen ids (had ++ id ∷ []) (marked_in window id) begun.1 more_begun (λ x e. in_left x had (id ∷ []) (ended x e))
      (marked_formed shape a.history window formed id inside)
      (marked_sees shape a.history window formed id inside had (had ++ id ∷ []) (λ x i. in_left x had (id ∷ []) i) (λ x i. in_more x id had i) (in_last id had)
      (λ x i. begun_number shape g a me moment x (more_begun x i)) (λ x same some far. ended x (stale_ended shape g a moment id x same begun.0 some far)) begun.0 sees))

  -- the same members are seen alike
  seen_same : (window : List Marks) (had now : List Identity) → ((x : Identity) → In x had → In x now) → ((x : Identity) → In x now → In x had) → SeesFacts shape a.history window had → SeesFacts shape a.history window now
  seen_same window had now to back f = record { known = λ x i. f.known x (back x i); seen = λ x there some h. to x (f.seen x there some h); tops = f.tops }

  -- ---- the line of a view that lives has all that ended, in front of what began afterwards
  module _ (view : ℕ) (act : IsActive s view) (now : view ≡ v.cur) where
    pub line_past : EndedFacts a.history g.log.line
    line_past = by (some_first (v.cf v.cur).seq me (subst (λ (w : ℕ). In me (v.cf w).seq) now (member shape g a me moment view act)))
      where
        by : ((n : ℕ) × (is_first (v.cf v.cur).seq n ≡ true) × In n (v.cf v.cur).seq) → EndedFacts a.history g.log.line
        by p =
            let alive = moment.agreed.line.live (live shape g a me moment view act now) in
            let lead = alive.leader p.0 p.1 in
            elim (cases_lt (a.seqs p.0).view v.cur) [
              | inl below ↦
                  let base = alive.absent p.0 p.2 below in
                  let long = lead.absent below in
                  subst (EndedFacts a.history) (append-nil (take (v.bs v.lv) g.log.line) ∙ take_whole (v.bs v.lv) g.log.line (omega arith)) base.held.past
              | inr not ↦
                  let known = (moment.agreed.seqs p.0).known in
                  let latest = moment.agreed.views.started.latest in
                  let own : (a.seqs p.0).view ≡ v.cur = omega arith in
                  subst (EndedFacts a.history) (lead.taken own) (moment.agreed.line.members p.0 own).held.past
            ]

  -- ---- the follower
  module _ (view : ℕ) (ids : List Identity) (fol : IsFollowing s view) where
    abbrev t : SeqState
    t = with_bound s ids

    pub bound_grows : SeqGrows s t
    bound_grows = record {
      view = omega arith;
      barred = omega arith;
      unbarred = λ below. absurd (omega arith);
      bound = λ same. omega arith;
      sealed = λ same sealed. never_sealed s view fol.active sealed;
    }

    pub leads_not : {A : Type 0} → is_leader s ≡ true → A
    leads_not leads = let wrong : true ≡ false = sym leads ∙ fol.follows in cc

    pub bound_facts : SeqFacts shape v a.history me t
    bound_facts =
        let f = moment.agreed.seqs me in
        record {
          known = f.known;
          joined = λ some. let j = f.joined some in record { started = j.started; member = j.member; config = j.config };
          items = each_filter (IsWhole shape a.history) (λ (item : Item). not (has_id ids item.id)) s.pending f.items;
          based = let based = f.based in omega arith;
          leads = λ leads. leads_not leads;
          unled = f.unled;
          unasked = f.unasked;
          closed = λ leads below. leads_not leads;
        }

    -- in the view that lives these are the next of the line
    module _ (now : view ≡ v.cur) (begun : Each (IsBegun a.history) ids) (piece : IsPiece g.log.line s.bound ids) where
      member_before : MemberFacts shape v g.log a.history s
      member_before = moment.agreed.line.members me (fol.active.own ∙ now)

      abbrev front : List Identity
      front = take s.bound g.log.line

      abbrev rest : List Identity
      rest = ids_of s.pending

      pub bound_within : s.bound + length ids ≤ length g.log.line
      bound_within = piece_within s.bound g.log.line ids member_before.held.short piece

      front_is : take (s.bound + length ids) g.log.line ≡ front ++ ids
      front_is = piece_take s.bound g.log.line ids member_before.held.short piece

      line_is : line_ids g.log.line t ≡ after front rest ids
      line_is = ap (λ (list : List Identity). list ++ ids_of t.pending) front_is ∙ ap (λ (list : List Identity). (front ++ ids) ++ list) (ids_filter ids s.pending)

      pub bound_has : (x : Identity) → In x (line_ids g.log.line s) → In x (line_ids g.log.line t)
      bound_has x i = subst (λ (list : List Identity). In x list) (sym line_is) (stays_in front rest ids x i)

      ended_in : (x : Identity) → HasEnded a.history x → In x (line_ids g.log.line s)
      ended_in = member_before.held.past.ended

      sees_then : SeesFacts shape a.history t.window (after front rest ids)
      sees_then = seen_same t.window (line_ids g.log.line s ++ ids) (after front rest ids)
          (λ x i. elim (in_cases x (line_ids g.log.line s) ids i) [ inl old ↦ stays_in front rest ids x old | inr new ↦ new_in front rest ids x new ])
          (λ x i. elim (was_in front rest ids x i) [ inl old ↦ in_left x (line_ids g.log.line s) ids old | inr new ↦ in_right x (line_ids g.log.line s) ids new ])
          (all_seen ids (line_ids g.log.line s) s.window begun (line_begun shape g a me moment) ended_in member_before.held.window_formed member_before.held.sees)

      past_then : EndedFacts a.history (after front rest ids)
      past_then = record {
        ended = λ x e. stays_in front rest ids x (ended_in x e);
        ordered = λ x y bytes last ends before i. by x y bytes last ends before (in_cases y (front ++ ids) (filter (lacks ids) rest) i);
      }
        where
          by : (x y : Identity) (bytes : List ℕ) (last : Event) → finished_id last ≡ Some x → Precedes last (Invoke y bytes) a.history → In y (front ++ ids) ⊎ In y (filter (lacks ids) rest) → Precedes x y (after front rest ids)
          by x y bytes last ends before (inl first) =
              let whole : Precedes x y g.log.line = (line_past view fol.active now).ordered x y bytes last ends before (in_whole (s.bound + length ids) g.log.line y (subst (λ (list : List Identity). In y list) (sym front_is) first)) in
              let cut : Precedes x y (take (s.bound + length ids) g.log.line) = front_precedes (s.bound + length ids) g.log.line x y moment.agreed.line.distinct (subst (λ (list : List Identity). In y list) (sym front_is) first) whole in
              precedes_left x y (front ++ ids) (filter (lacks ids) rest) (subst (λ (list : List Identity). Precedes x y list) front_is cut)
          by x y bytes last ends before (inr later) = after_precedes front rest ids member_before.held.distinct x y later
              (member_before.held.past.ordered x y bytes last ends before (in_right y front rest (in_filter (lacks ids) rest y later).0))

      pub bound_held : Held shape a.history g.log.line t.bound t.window t.pending
      bound_held = record {
        short = bound_within;
        distinct = subst (λ (list : List Identity). Distinct list) (sym line_is) (after_distinct front rest ids member_before.held.distinct
            (subst (λ (list : List Identity). Distinct list) front_is (distinct_take (s.bound + length ids) g.log.line moment.agreed.line.distinct)));
        window_formed = all_formed ids s.window begun member_before.held.window_formed;
        sees = subst (SeesFacts shape a.history t.window) (sym line_is) sees_then;
        past = subst (EndedFacts a.history) (sym line_is) past_then;
      }
