use Rattle.seen_window.proofs.LawLemmas.{stands_for_none, stands_marked_more, seen_marked}
use Rattle.seen_window.proofs.laws.marks_add_up.Goals as goal

pub returns-clause-none : goal.returns-clause-none
returns-clause-none c = stands_for_none

pub returns-clause-more : goal.returns-clause-more
returns-clause-more c = stands_marked_more

pub returns-clause-seen : goal.returns-clause-seen
returns-clause-seen c image id other is inside within some = seen_marked image id is inside other within some
