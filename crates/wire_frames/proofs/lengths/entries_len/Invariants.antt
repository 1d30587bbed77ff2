use Rattle.std.proofs.Common.{◌≡◌, ◌+◌, ◌*◌, ◌≤◌, length, take}
use Rattle.std.specs.List.{flat_map}
use Rattle.lazy_msgs.specs.Frame.{placed_form}
use Rattle.wire_frames.specs.declared.sizes.TheConstants.{MEMBER_MOST}
use Rattle.wire_frames.proofs.lengths.entries_len.Given as goal

abbrev pub invariant-loop-placed : goal.invariant-loop-placed
invariant-loop-placed l = record {
  so_far : l.sum ≡ 2 + length (flat_map (placed_form l.edition) (take l.placed-index l.placed-items));
  bounded : l.sum ≤ MEMBER_MOST * l.placed-index + 2;
}
