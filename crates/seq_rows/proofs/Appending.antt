-- A replica takes a new append: what it has of itself then.
use Rattle.std.proofs.Common.{◌≡◌, ℕ, ◌+◌, ◌<◌, ◌≤◌, List, [], ◌∷◌, ◌++◌, length, take, Option, true, false, inl, inr, sym, ap, ◌∙◌, subst, arith, append_assoc}
use Rattle.std.proofs.lemmas.List.{length-append, map-append}
use Rattle.list_facts.specs.Lists.{Distinct, In}
use Rattle.list_facts.proofs.Distinctness.{distinct_more}
use Rattle.list_facts.proofs.Members.{each_append, each_in, each_weaker, in_cases, in_last, in_left, in_mapped, in_more}
use Rattle.list_facts.proofs.Precedence.{precedes_across, precedes_first, precedes_left}
use Rattle.rec_id.specs.Identity.{Identity}
use Rattle.rec_id.specs.declared.event.Event.TheVariants.{Invoke}
use Rattle.rec_id.specs.declared.item.Item.{Item}
use Rattle.view_config.specs.Shape.{Dimensions}
use Rattle.lazy_rules.specs.Flight.{Batch}
use Rattle.lazy_rules.specs.Ids.{ids_of}
use Rattle.lazy_rules.specs.SeqRules.{with_item}
use Rattle.lazy_rules.specs.SeqState.{SeqState}
use Rattle.lazy_rules.specs.Windows.{has_seen}
use Rattle.world_facts.specs.SizesOf.{AreFlying}
use Rattle.log_facts.specs.Finality.{line_ids}
use Rattle.log_facts.specs.Ghosts.{Ghost}
use Rattle.log_facts.specs.Good.{Moment}
use Rattle.log_facts.specs.Growth.{SeqGrows}
use Rattle.log_facts.specs.Parts.{Parts}
use Rattle.log_facts.specs.Past.{IsBegun}
use Rattle.log_facts.specs.Says.{AppendSays}
use Rattle.log_facts.specs.facts.OfLine.{EndedFacts, Held, IsWhole, SeesFacts}
use Rattle.log_facts.specs.facts.OfSeqs.{FlightFacts, SeqFacts, WaitsFor}
use Rattle.seq_rows.proofs.Active.{IsActive, never_sealed}
use Rattle.seq_rows.proofs.Longer.{in_whole}
use Rattle.seq_rows.proofs.Marking.{marked_formed, marked_sees}
use Rattle.seq_rows.proofs.Stale.{stale_ended}

-- batches that end within a limit end within a greater one
pub flying_more : (from limit more : ℕ) (flight : List Batch) → limit ≤ more → AreFlying from limit flight → AreFlying from more flight
flying_more from limit more [] le h = tt
flying_more from limit more (batch ∷ others) le (f, c, m, w, r) = (f, c, m, (let within = w in omega arith), flying_more (from + batch.count) limit more others le r)

module _ (shape : Dimensions) (g : Ghost) (a : Parts) (me : ℕ) (moment : Moment shape g a) where
  abbrev s : SeqState
  s = a.seqs me

  -- all that a line has began
  pub line_begun : (id : Identity) → In id (line_ids g.log.line s) → IsBegun a.history id
  line_begun id i = elim (in_cases id (take s.bound g.log.line) (ids_of s.pending) i) [
    | inl bound ↦ moment.agreed.line.begun id (in_whole s.bound g.log.line id bound)
    | inr pending ↦
        let item = in_mapped (λ (item : Item). item.id) id s.pending pending in
        let whole = each_in (IsWhole shape a.history) s.pending (moment.agreed.seqs me).items item.0 item.1 in
        subst (IsBegun a.history) item.2 (record { bytes = whole.own; stands = whole.begun })
  ]

  pub begun_number : (id : Identity) → IsBegun a.history id → 1 ≤ id.number
  begun_number id begun = moment.agreed.history.appends.numbers id begun.bytes begun.stands

  pub begun_client : (id : Identity) → IsBegun a.history id → id.client < shape.clients
  begun_client id begun = moment.agreed.history.appends.clients id begun.bytes begun.stands

  module _ (view : ℕ) (id : Identity) (bytes : Option (List ℕ)) (act : IsActive s view) (says : AppendSays shape a.history id bytes) where
    abbrev t : SeqState
    t = with_item s id bytes

    abbrev item : Item
    item = record { id = id; bytes = bytes }

    pub begun : IsBegun a.history id
    begun = record { bytes = says.own; stands = says.begun }

    pub pending_more : length t.pending ≡ length s.pending + 1
    pending_more = length-append s.pending (item ∷ [])

    pub item_grows : SeqGrows s t
    item_grows = record {
      view = omega arith;
      barred = omega arith;
      unbarred = λ below. absurd (omega arith);
      bound = λ same. omega arith;
      sealed = λ same sealed. never_sealed s view act sealed;
    }

    flight_more : FlightFacts a.history s → FlightFacts a.history t
    flight_more f =
        let more = pending_more in
        record {
          follow = flying_more s.bound (s.bound + length s.pending) (s.bound + length t.pending) s.flight (omega arith) f.follow;
          sorted = f.sorted;
          placed = f.placed;
          waiting = each_weaker (WaitsFor a.history s) (WaitsFor a.history t) (λ probe w. let within = w.within in record { begun = w.begun; above = w.above; within = omega arith }) s.probes f.waiting;
        }

    pub item_facts : SeqFacts shape g.views a.history me t
    item_facts =
        let f = moment.agreed.seqs me in
        record {
          known = f.known;
          joined = λ some. let j = f.joined some in record { started = j.started; member = j.member; config = j.config };
          items = each_append (IsWhole shape a.history) s.pending (item ∷ []) f.items (record { own = says.own; begun = says.begun; has = says.has }, tt);
          based = f.based;
          leads = λ leads. flight_more (f.leads leads);
          unled = f.unled;
          unasked = f.unasked;
          closed = f.closed;
        }

    -- its line has one identity more
    pub ids_more : (line : List Identity) → line_ids line t ≡ line_ids line s ++ id ∷ []
    ids_more line =
        ap (λ (ids : List Identity). take s.bound line ++ ids) (map-append (λ (x : Item). x.id) s.pending (item ∷ []))
        ∙ sym (append_assoc (take s.bound line) (ids_of s.pending) (id ∷ []))

    module _ (new : has_seen s.window id ≡ false) (h : Held shape a.history g.log.line s.bound s.window s.pending) where
      abbrev ids : List Identity
      ids = line_ids g.log.line s

      pub unknown : ¬ In id ids
      unknown i = let wrong : true ≡ false = sym (h.sees.known id i) ∙ new in cc

      more_begun : (x : Identity) → In x (ids ++ id ∷ []) → IsBegun a.history x
      more_begun x i = elim (in_more x id ids i) [ inl old ↦ line_begun x old | inr is ↦ subst (IsBegun a.history) is begun ]

      past_more : EndedFacts a.history (ids ++ id ∷ [])
      past_more = record {
        ended = λ x e. in_left x ids (id ∷ []) (h.past.ended x e);
        ordered = λ x y own last ends before i. elim (in_more y id ids i) [
          | inl old ↦ precedes_left x y ids (id ∷ []) (h.past.ordered x y own last ends before old)
          | inr is ↦ precedes_across x y ids (id ∷ []) (h.past.ended x (record { event = last; ends = ends; stands = precedes_first last (Invoke y own) a.history before })) (inl is)
        ];
      }

      sees_more : SeesFacts shape a.history t.window (ids ++ id ∷ [])
      sees_more = marked_sees shape a.history s.window h.window_formed id (begun_client id begun) ids (ids ++ id ∷ []) (λ x i. in_left x ids (id ∷ []) i) (λ x i. in_more x id ids i) (in_last id ids)
          (λ x i. begun_number x (more_begun x i)) (λ x same some far. h.past.ended x (stale_ended shape g a moment id x same begun some far)) begun h.sees

      pub held_more : (line : List Identity) → take s.bound line ≡ take s.bound g.log.line → s.bound ≤ length line → Held shape a.history line t.bound t.window t.pending
      held_more line same short =
          let is : ids ++ id ∷ [] ≡ line_ids line t = ap (λ (front : List Identity). (front ++ ids_of s.pending) ++ id ∷ []) (sym same) ∙ sym (ids_more line) in
          record {
            short = short;
            distinct = subst (λ (list : List Identity). Distinct list) is (distinct_more id ids h.distinct unknown);
            window_formed = marked_formed shape a.history s.window h.window_formed id (begun_client id begun);
            sees = subst (SeesFacts shape a.history t.window) is sees_more;
            past = subst (EndedFacts a.history) is past_more;
          }
