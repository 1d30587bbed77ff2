use Rattle.std.proofs.Common.{arith}
use Rattle.wire_frames.specs.Readers.{words_in}
use Rattle.wire_frames.proofs.Bits.{one_more_word}
use Rattle.wire_frames.proofs.reading.marks.words_in.Goals as goal

pub loop-preserved : goal.loop-preserved
loop-preserved c = record {
  so_far = rw (c.in_ok-push.ensures.ok, c.word_of.ensures, c.split_at.ensures.front, c.split_at.ensures.back) (one_more_word c.loop.words c.args.count c.loop.counter c.loop.left.now (words_in c.args.count c.args.bytes.now) c.loop-test.true c.loop.invariant.so_far);
  whole = omega (arith, c.split_at.ensures.back_len);
}
