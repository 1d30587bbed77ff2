use Rattle.std.proofs.Common.{◌≡◌, length}
use Rattle.link_queue_bench.proofs.put_all.Given as goal

abbrev pub invariant-loop : goal.invariant-loop
invariant-loop g l = (l.send.link ≡ l.fn.send.link) × (length l.send.sent ≡ l.next)
