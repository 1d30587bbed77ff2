use Rattle.wire_frames.proofs.AgainFrame.{frame_alone}
use Rattle.wire_frames.proofs.laws.one_form.Goals as goal

pub returns : goal.returns
returns c = frame_alone
