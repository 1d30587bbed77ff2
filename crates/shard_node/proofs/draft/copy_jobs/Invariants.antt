use Rattle.std.proofs.Common.{◌≡◌, take}
use Rattle.shard_node.proofs.draft.copy_jobs.Given as goal

abbrev pub invariant-loop-job : goal.invariant-loop-job
invariant-loop-job l = l.made.items ≡ take l.job-index l.jobs
