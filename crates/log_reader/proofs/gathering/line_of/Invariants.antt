use Rattle.std.proofs.Common.{◌≡◌, ◌≤◌, ℕ, length, take}
use Rattle.std.specs.Prelude.{slice_get}
use Rattle.std.specs.List.{flat_map}
use Rattle.std.specs.Option.{option_to_list}
use Rattle.log_reader.proofs.gathering.line_of.Given as goal

abbrev pub invariant-loop-i : goal.invariant-loop-i
invariant-loop-i l = record {
  made : l.line.items ≡ flat_map option_to_list (take l.i l.fn.slots.items);
  long : length l.slots.items ≡ length l.fn.slots.items;
  left : (k : ℕ) → l.i ≤ k → slice_get l.slots.items k ≡ slice_get l.fn.slots.items k;
}
