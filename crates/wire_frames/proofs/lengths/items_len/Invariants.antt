use Rattle.std.proofs.Common.{◌≡◌, ◌+◌, ◌*◌, ◌≤◌, length, take}
use Rattle.std.specs.List.{flat_map}
use Rattle.lazy_msgs.specs.Frame.{item_form}
use Rattle.wire_frames.specs.declared.sizes.TheConstants.{MEMBER_MOST}
use Rattle.wire_frames.proofs.lengths.items_len.Given as goal

abbrev pub invariant-loop-item : goal.invariant-loop-item
invariant-loop-item l = record {
  so_far : l.sum ≡ 2 + length (flat_map (item_form l.edition) (take l.item-index l.item-items));
  bounded : l.sum ≤ MEMBER_MOST * l.item-index + 2;
}
