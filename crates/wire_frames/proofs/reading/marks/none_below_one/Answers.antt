use Rattle.wire_frames.proofs.Bits.{end_at_is}
use Rattle.wire_frames.proofs.reading.marks.none_below_one.Goals as goal

pub returns : goal.returns
returns c = end_at_is c.words_end.result c.args.top c.args.words.now c.words_end.ensures
