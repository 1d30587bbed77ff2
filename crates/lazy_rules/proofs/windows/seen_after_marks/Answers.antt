use Rattle.lazy_rules.proofs.SeenAfter.{has_seen-marked_all, seen_one_more}
use Rattle.lazy_rules.proofs.windows.seen_after_marks.Goals as goal

pub returns-clause-all : goal.returns-clause-all
returns-clause-all c = has_seen-marked_all

pub returns-clause-one : goal.returns-clause-one
returns-clause-one c = seen_one_more
