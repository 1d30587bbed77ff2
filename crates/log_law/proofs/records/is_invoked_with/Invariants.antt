use Rattle.std.proofs.Common.{◌≡◌, ◌≤◌, ◌<◌, ◌-◌, ℕ, Some, slice_get, length}
use Rattle.rec_id.specs.declared.event.Event.TheVariants.{Invoke}
use Rattle.log_law.specs.Keys.{key_at}
use Rattle.log_law.proofs.records.is_invoked_with.Given as goal

abbrev pub invariant-loop-i : goal.invariant-loop-i
invariant-loop-i l = record {
  within : l.i ≤ length l.invoked;
  stands : l.i < length l.invoked → key_at l.invoked l.i ≡ Some l.key;
  none : (k : ℕ) → k < l.i → slice_get l.history k ≡ Some (Invoke l.id l.bytes) → ⊥;
}

abbrev pub decreases-loop-i : goal.decreases-loop-i
decreases-loop-i l = length l.history - l.i
