use Rattle.frame_recode.proofs.Recoding.{one_is_brought_over, only_frames, others_are_refused, two_stays}
use Rattle.frame_recode.proofs.laws.frames_are_brought_over.Goals as goal

pub returns : goal.returns
returns c = record { one = one_is_brought_over; two = two_stays; only = only_frames; others = others_are_refused }
