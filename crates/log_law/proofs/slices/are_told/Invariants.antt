use Rattle.std.proofs.Common.{◌≡◌, ◌+◌, ◌<◌, ℕ, Some, slice_get}
use Rattle.rec_id.specs.Line.{IsToldAt}
use Rattle.rec_id.specs.declared.entry.Entry.{Entry}
use Rattle.log_law.proofs.slices.are_told.Given as goal

abbrev pub invariant-loop-k : goal.invariant-loop-k
invariant-loop-k l = (i : ℕ) (entry : Entry) → i < l.k → slice_get l.entries i ≡ Some entry → IsToldAt l.history l.line (l.from + i) entry
