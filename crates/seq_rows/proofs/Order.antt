-- Order at a follower: what is next in the line is bound, and what was bound before it says again. In the view that
-- lives all shard replicas have settled it, so as much is bound in that view.
use Rattle.std.proofs.Common.{◌≡◌, ℕ, ◌+◌, ◌^◌, ◌<◌, ◌≤◌, List, [], ◌∷◌, length, max, true, false, not, nat_lt, nat_le, inl, inr, refl, sym, ◌∙◌, subst, arith}
use Rattle.std.specs.Prelude.{◌==◌, if◌then◌else◌}
use Rattle.std.proofs.lemmas.Bool.{cases_lt, eqb-true, leb-true, not-false}
use Rattle.list_facts.specs.Lists.{Each, put}
use Rattle.list_facts.proofs.Cases.{either}
use Rattle.list_facts.proofs.Fronts.{front_same}
use Rattle.list_facts.proofs.Members.{each_weaker}
use Rattle.rec_id.specs.Identity.{Identity}
use Rattle.view_config.specs.Shape.{Dimensions}
use Rattle.lazy_msgs.specs.declared.msg.Msg.TheVariants.{Order, Ordered}
use Rattle.lazy_rules.specs.Roles.{is_first}
use Rattle.lazy_rules.specs.Rows.{answers, stays}
use Rattle.lazy_rules.specs.SeqRules.{binds, is_following, on_order, with_bound}
use Rattle.lazy_rules.specs.SeqState.{SeqState}
use Rattle.lazy_rules.specs.ShardState.{ShardState}
use Rattle.log_facts.specs.Finality.{AllSettledIn, IsSettled}
use Rattle.log_facts.specs.Ghosts.{Ghost, Log, Views}
use Rattle.log_facts.specs.Good.{GoodSeq, Heard, Moment}
use Rattle.log_facts.specs.Parts.{Parts}
use Rattle.log_facts.specs.Says.{OrderedSays}
use Rattle.log_facts.specs.Signs.{IsPiece}
use Rattle.log_facts.specs.facts.OfSeqs.{BatchNoted}
use Rattle.seq_rows.proofs.Active.{IsActive, IsFollowing, first_is, following, known, live, no_closer}
use Rattle.seq_rows.proofs.Binding.{bound_facts, bound_grows, bound_has, bound_held, bound_within, leads_not}
use Rattle.seq_rows.proofs.GoingOn.{GoesOn}
use Rattle.seq_rows.proofs.Lifting.{Grown, flight_on}
use Rattle.seq_rows.proofs.Stepping.{Keeps, Steps, answers_good, at_me, keeps_goes_on, keeps_grown, stays_good, steps_good}

-- what is settled up to two places is settled up to the greater one
settled_max : (s : ShardState) (view m n : ℕ) → IsSettled s view m → IsSettled s view n → IsSettled s view (max m n)
settled_max s view m n one two = elim (cases_lt m n) [
  | inl below ↦ let is : n ≡ max m n = omega arith in subst (IsSettled s view) is two
  | inr not ↦ let is : m ≡ max m n = omega arith in subst (IsSettled s view) is one
]

module _ (shape : Dimensions) (g : Ghost) (a : Parts) (sender me : ℕ) (view from : ℕ) (ids : List Identity) (moment : Moment shape g a) (heard : Heard shape g a sender me (Order view from ids)) where
  abbrev s : SeqState
  s = a.seqs me

  abbrev v : Views
  v = g.views

  module _ (fol : IsFollowing s view) where
    act : IsActive s view
    act = fol.active

    -- ---- it was bound before
    again_says : from + length ids ≤ s.bound → OrderedSays v s me view (from + length ids)
    again_says within = record {
      own = let own = fol.active.own in omega arith;
      has = λ same. within;
      closed = λ below closer. absurd (no_closer shape g a me moment view act below closer);
    }

    -- ---- it is next
    module _ (next : from ≡ s.bound) where
      abbrev t : SeqState
      t = with_bound s ids

      next_says : OrderedSays v t me view (s.bound + length ids)
      next_says = record {
        own = let own = fol.active.own in omega arith;
        has = λ same. omega arith;
        closed = λ below closer. absurd (no_closer shape g a me moment view act below closer);
      }

      next_good : (later : Log) → Steps shape g a me moment t later → GoodSeq shape g a me (answers t sender (Ordered view (s.bound + length ids)))
      next_good later step = steps_good shape g a me moment t later step ((sender, Ordered view (s.bound + length ids)) ∷ []) (at_me (λ (x : SeqState). OrderedSays v x me view (s.bound + length ids)) a me t next_says, tt)

      noted : (later : Log) → Grown g a me t later → Each (BatchNoted v (put a.seqs me t) a.shards t) s.flight
      noted later grown = each_weaker (BatchNoted v (put a.seqs me t) a.shards s) (BatchNoted v (put a.seqs me t) a.shards t) (λ batch n. record { placed = n.placed; ordered = n.ordered }) s.flight
          (flight_on shape g a me moment.agreed t later grown s s.flight (moment.agreed.among_seqs.noted me))

      -- in a closed view nothing of the log changes
      module _ (before : view < v.cur) where
        keeps : Keeps shape g a me moment t g.log.probed
        keeps = record {
          grows = bound_grows shape g a me moment view ids fol;
          has = λ x current i. let own = fol.active.own in absurd (omega arith);
          more = λ one i. i;
          silent = λ one i. inl i;
          probed_begun = moment.agreed.among_seqs.probed;
        }

        old_good : GoodSeq shape g a me (answers t sender (Ordered view (s.bound + length ids)))
        old_good =
            let own = fol.active.own in
            let grown : Grown g a me t g.log = keeps_grown shape g a me moment t g.log.probed keeps in
            next_good g.log (record {
              grown = grown;
              goes_on = keeps_goes_on shape g a me moment t g.log.probed keeps (λ now. absurd (omega arith))
                  (λ lives first. let l = (moment.agreed.line.live lives).leader me first in record { taken = λ now. absurd (omega arith); low = λ now. absurd (omega arith); absent = l.absent });
              facts = bound_facts shape g a me moment view ids fol;
              noted = noted g.log grown;
              reads = λ some leads. leads_not shape g a me moment view ids fol leads;
              probed = moment.agreed.among_seqs.probed;
            })

      -- in the view that lives more is bound
      module _ (now : view ≡ v.cur) where
        piece : IsPiece g.log.line s.bound ids
        piece = subst (λ (n : ℕ). IsPiece g.log.line n ids) next (heard.said.piece now)

        abbrev later : Log
        later = record g.log { high = max g.log.high (s.bound + length ids) }

        follows : is_first (v.cf v.cur).seq me ≡ false
        follows = subst (λ (w : ℕ). is_first (v.cf w).seq me ≡ false) now (sym (first_is shape g a me moment view act) ∙ fol.follows)

        grown : Grown g a me t later
        grown = record {
          grows = bound_grows shape g a me moment view ids fol;
          logs = record { line = front_same g.log.line; low = omega arith; given = λ one i. i; probed = λ one i. i; silent = λ one i. inl i };
          given = refl;
          has = λ x current i. bound_has shape g a me moment view ids fol now heard.said.begun piece x i;
        }

        settled : v.lv ≡ v.cur → (shard : ℕ) → AllSettledIn v a.shards v.cur shard (max g.log.high (s.bound + length ids))
        settled lives shard d i =
            let said : AllSettledIn v a.shards v.cur shard (s.bound + length ids) = subst (λ (n : ℕ). AllSettledIn v a.shards v.cur shard (n + length ids)) next (subst (λ (w : ℕ). AllSettledIn v a.shards w shard (from + length ids)) now (heard.said.settled now shard)) in
            settled_max (a.shards d) v.cur g.log.high (s.bound + length ids) ((moment.agreed.line.live lives).settled shard d i) (said d i)

        goes_on : GoesOn shape g a me moment.agreed t later
        goes_on =
            let lives = live shape g a me moment view act now in
            let within = bound_within shape g a me moment view ids fol now heard.said.begun piece in
            let low = moment.agreed.line.low in
            let high = moment.agreed.line.high in
            let own : s.view ≡ v.cur = fol.active.own ∙ now in
            record {
              asleep = λ asleep. absurd (omega arith);
              front = front_same g.log.line;
              distinct = moment.agreed.line.distinct;
              begun = moment.agreed.line.begun;
              low = omega arith;
              high = omega arith;
              within = omega arith;
              most = omega arith;
              behind = moment.agreed.line.behind;
              least = λ node other taken. (moment.agreed.line.members node taken).least;
              absent = λ node listed below who. refl;
              settled = settled;
              unled = λ none. (refl, refl);
              member = λ same. let least = (moment.agreed.line.members me own).least in record { held = bound_held shape g a me moment view ids fol now heard.said.begun piece; least = omega arith; most = omega arith };
              leader = λ lives first. let wrong : true ≡ false = sym first ∙ follows in cc;
            }

        new_good : GoodSeq shape g a me (answers t sender (Ordered view (s.bound + length ids)))
        new_good = next_good later (record {
          grown = grown;
          goes_on = goes_on;
          facts = bound_facts shape g a me moment view ids fol;
          noted = noted later grown;
          reads = λ some leads. leads_not shape g a me moment view ids fol leads;
          probed = moment.agreed.among_seqs.probed;
        })

      bound_good : GoodSeq shape g a me (answers t sender (Ordered view (s.bound + length ids)))
      bound_good = elim (cases_lt view v.cur) [
        | inl before ↦ old_good before
        | inr not ↦ let within = known shape g a me moment view act in new_good (omega arith)
      ]

      binds_good : GoodSeq shape g a me (binds s sender view ids)
      binds_good = either (GoodSeq shape g a me) (nat_lt (s.bound + length ids) (2 ^ 32)) (answers t sender (Ordered view (s.bound + length ids))) (stays s) (λ e. bound_good) (λ e. stays_good shape g a me moment)

  pub order_good : GoodSeq shape g a me (on_order s sender view from ids)
  order_good =
      let stayed : GoodSeq shape g a me (stays s) = stays_good shape g a me moment in
      either (GoodSeq shape g a me) (not (is_following s view)) (stays s) (if from == s.bound then binds s sender view ids else (if nat_le (from + length ids) s.bound then answers s sender (Ordered view (from + length ids)) else stays s)) (λ e. stayed)
      (λ e. let fol = following s view (not-false (is_following s view) e) in
      either (GoodSeq shape g a me) (from == s.bound) (binds s sender view ids) (if nat_le (from + length ids) s.bound then answers s sender (Ordered view (from + length ids)) else stays s)
      (λ f. binds_good fol (eqb-true from s.bound f))
      (λ f. either (GoodSeq shape g a me) (nat_le (from + length ids) s.bound) (answers s sender (Ordered view (from + length ids))) (stays s)
      (λ h. answers_good shape g a me moment sender (Ordered view (from + length ids)) (again_says fol (leb-true (from + length ids) s.bound h))) (λ h. stayed)))
