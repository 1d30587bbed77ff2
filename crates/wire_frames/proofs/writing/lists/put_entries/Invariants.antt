use Rattle.std.proofs.Common.{◌≡◌, ◌++◌, length, take}
use Rattle.std.specs.List.{flat_map}
use Rattle.lazy_msgs.specs.Frame.{two, placed_form}
use Rattle.wire_frames.proofs.writing.lists.put_entries.Given as goal

abbrev pub invariant-loop-placed : goal.invariant-loop-placed
invariant-loop-placed l = l.out.items ≡ l.fn.out.items ++ two (length l.placed-items) ++ flat_map (placed_form l.edition) (take l.placed-index l.placed-items)
