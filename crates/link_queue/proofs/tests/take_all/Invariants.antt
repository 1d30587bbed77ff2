use Rattle.std.proofs.Common.{◌≡◌, ◌≤◌, length}
use Rattle.link_queue.proofs.tests.take_all.Given as goal

abbrev pub invariant-loop : goal.invariant-loop
invariant-loop g l = (l.take.link ≡ l.fn.take.link) × (length l.take.taken ≡ l.next) × (l.next ≤ l.count) × (l.in_place ≤ l.next)
