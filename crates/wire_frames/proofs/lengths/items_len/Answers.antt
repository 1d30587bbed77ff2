use Rattle.lazy_msgs.specs.Frame.{item_form}
use Rattle.wire_frames.proofs.FieldLengths.{length-list_form}
use Rattle.wire_frames.proofs.lengths.items_len.Goals as goal

pub returns-clause-exact : goal.returns-clause-exact
returns-clause-exact c =
    length-list_form (item_form c.args.edition) c.args.items.now c.as_slice-item-items.result.now c.loop-item.item-index _ c.as_slice-item-items.ensures c.loop-item-test.false c.loop-item.invariant.so_far
