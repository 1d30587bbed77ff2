use Rattle.std.proofs.Common.{◌≡◌, ◌+◌, ◌<◌, ℕ, Some, slice_get}
use Rattle.rec_id.specs.Identity.{Identity}
use Rattle.rec_id.specs.Line.{id_at}
use Rattle.log_law.proofs.slices.are_named.Given as goal

abbrev pub invariant-loop-k : goal.invariant-loop-k
invariant-loop-k l = (i : ℕ) (id : Identity) → i < l.k → slice_get l.ids i ≡ Some id → id_at l.line (l.from + i) ≡ Some id
