use Rattle.wire_frames.proofs.MarkBits.{marks_by_bit, none_below_one}
use Rattle.wire_frames.proofs.laws.marks_by_bit.Goals as goal

pub returns-clause-bits : goal.returns-clause-bits
returns-clause-bits c = marks_by_bit

pub returns-clause-below_one : goal.returns-clause-below_one
returns-clause-below_one c = none_below_one
