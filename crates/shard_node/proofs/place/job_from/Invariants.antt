use Rattle.std.proofs.Common.{◌≡◌, drop}
use Rattle.std.specs.Prelude.{◌==◌, find}
use Rattle.shard_node.proofs.place.job_from.Given as goal

abbrev pub invariant-loop-job : goal.invariant-loop-job
invariant-loop-job l = find (λ job. job.from == l.from) (drop l.job-index l.jobs) ≡ find (λ job. job.from == l.from) l.jobs
