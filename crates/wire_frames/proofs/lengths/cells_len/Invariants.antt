use Rattle.std.proofs.Common.{◌≡◌, ◌+◌, ◌*◌, ◌≤◌, length, take}
use Rattle.std.specs.List.{flat_map}
use Rattle.lazy_msgs.specs.Frame.{cell_form}
use Rattle.wire_frames.specs.declared.sizes.TheConstants.{MEMBER_MOST}
use Rattle.wire_frames.proofs.lengths.cells_len.Given as goal

abbrev pub invariant-loop-cell : goal.invariant-loop-cell
invariant-loop-cell l = record {
  so_far : l.sum ≡ 2 + length (flat_map (cell_form l.edition) (take l.cell-index l.cell-items));
  bounded : l.sum ≤ MEMBER_MOST * l.cell-index + 2;
}
