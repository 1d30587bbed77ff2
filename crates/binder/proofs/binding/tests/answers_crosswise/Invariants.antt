use Rattle.std.proofs.Common.{◌≡◌}
use Rattle.binder.proofs.binding.tests.answers_crosswise.Given as goal

abbrev pub invariant-loop-placing : goal.invariant-loop-placing
invariant-loop-placing g l = (l.binder.shards ≡ 2) × (l.binder.followers ≡ 2)
