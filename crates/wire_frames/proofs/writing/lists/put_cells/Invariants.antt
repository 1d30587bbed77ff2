use Rattle.std.proofs.Common.{◌≡◌, ◌++◌, length, take}
use Rattle.std.specs.List.{flat_map}
use Rattle.lazy_msgs.specs.Frame.{two, cell_form}
use Rattle.wire_frames.proofs.writing.lists.put_cells.Given as goal

abbrev pub invariant-loop-cell : goal.invariant-loop-cell
invariant-loop-cell l = l.out.items ≡ l.fn.out.items ++ two (length l.cell-items) ++ flat_map (cell_form l.edition) (take l.cell-index l.cell-items)
