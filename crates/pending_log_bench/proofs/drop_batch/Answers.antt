use Rattle.pending_log_bench.proofs.Dropped.{fresh_drop}
use Rattle.pending_log_bench.proofs.drop_batch.Goals as goal

pub returns-then-len : goal.returns-then-len
returns-then-len c = rw c.drop_front.ensures (fresh_drop c.args.next 64 c.args.log.now c.requires)
