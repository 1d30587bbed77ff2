use Rattle.std.proofs.Common.{◌≡◌, ◌<◌, ℕ, length}
use Rattle.std.specs.Prelude.{slice_index}
use Rattle.log_law.specs.Keys.{key_at}
use Rattle.log_law.specs.Places.{IsLowestOf}
use Rattle.log_law.proofs.places.lowest_places.Given as goal

abbrev pub invariant-loop-i : goal.invariant-loop-i
invariant-loop-i l = record {
  long : length l.made.items ≡ l.i;
  each : (k : ℕ) → k < l.i → IsLowestOf l.named (key_at l.told k) (slice_index l.made.items k);
}
