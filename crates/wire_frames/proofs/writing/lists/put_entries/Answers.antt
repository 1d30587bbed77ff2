use Rattle.std.proofs.lemmas.List.Elements.{All-from_recursion}
use Rattle.lazy_msgs.specs.FrameLimits.{PlacedFits}
use Rattle.wire_frames.proofs.writing.lists.put_entries.Goals as goal

pub put_placed-requires : goal.put_placed-requires
put_placed-requires c =
    let same = c.as_slice-placed-items.ensures in
    rw c.placed-item.is (All-from_recursion (PlacedFits c.args.edition) c.as_slice-placed-items.result.now (rw same c.requires.each) c.loop-placed.placed-index _ c.loop-placed-test.true)
