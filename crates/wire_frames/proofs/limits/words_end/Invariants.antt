use Rattle.std.proofs.Common.{drop, ◌↔◌}
use Rattle.lazy_msgs.specs.FrameLimits.{EndAt}
use Rattle.wire_frames.proofs.limits.words_end.Given as goal

-- the words so far end as they must, so all depends on the rest
abbrev pub invariant-loop-word : goal.invariant-loop-word
invariant-loop-word l = EndAt l.left (drop l.word-index l.word-items) ↔ EndAt l.fn.top l.words
