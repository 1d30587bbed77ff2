use Rattle.std.proofs.Common.{◌≡◌, drop}
use Rattle.lazy_rules.specs.Flight.{greatest_from}
use Rattle.binder.proofs.waiting.greatest_from.Given as goal

abbrev pub invariant-loop-read : goal.invariant-loop-read
invariant-loop-read l = greatest_from l.greatest (drop l.read-index l.waiting) ≡ greatest_from l.fn.target l.waiting
