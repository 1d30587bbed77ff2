-- The step of a part of a node is a step of the node.
use Rattle.std.proofs.Common.{Result, Ok, Err, refl, ap, arith}
use Rattle.lazy_msgs.specs.Outbox.{Out}
use Rattle.lazy_msgs.specs.Step.{Row, StepsTo}
use Rattle.lazy_rules.specs.Rows.{stays}
use Rattle.lazy_core.proofs.Outboxes.{nothing_put}

-- the row of a part, as one of the whole
abbrev pub part_row : {S T : Type 0} → (S → T) → Row S → Row T
part_row into row = record { next = into row.next; sends = row.sends; events = row.events }

module _ {S T : Type 0} (into : S → T) (row : Row S) (before after : S) (out out_after : Out) where
  pub part_steps : {R E : Type 0} (outcome : Result R E) (over : E) → StepsTo row before after out out_after outcome over → StepsTo (part_row into row) (into before) (into after) out out_after outcome over
  part_steps (Ok x) over h = record { state = ap into h.state; sent = h.sent; fits = h.fits; room = h.room; few = h.few; unchanged = tt; unsent = tt }
  part_steps (Err e) over h = record { state = tt; sent = tt; fits = tt; room = h.room; few = tt; unchanged = ap into h.unchanged; unsent = h.unsent }

-- nothing is to be done
pub stays_so : {S R E : Type 0} (s : S) (out : Out) (x : R) (over : E) → StepsTo (stays s) s s out out (Ok x) over
stays_so s out x over = record {
  state = refl;
  sent = nothing_put out;
  fits = record { in_number = omega arith; in_weight = omega arith };
  room = λ e. cc;
  few = omega arith;
  unchanged = tt;
  unsent = tt;
}
