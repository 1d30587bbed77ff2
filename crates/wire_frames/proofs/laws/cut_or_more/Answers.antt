use Rattle.wire_frames.proofs.Fronts.{cut_is_short, more_is_trailing}
use Rattle.wire_frames.proofs.laws.cut_or_more.Goals as goal

pub returns-clause-cut : goal.returns-clause-cut
returns-clause-cut c = cut_is_short

pub returns-clause-more : goal.returns-clause-more
returns-clause-more c = more_is_trailing
