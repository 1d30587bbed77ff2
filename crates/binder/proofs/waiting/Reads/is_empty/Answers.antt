use Rattle.std.proofs.Common.{◌≤◌, List, length, subst}
use Rattle.view_config.specs.declared.limits.TheConstants.{MAX_CLIENTS}
use Rattle.lazy_rules.specs.Flight.{Probe}
use Rattle.binder.proofs.Waits.{few_reads}
use Rattle.binder.proofs.waiting.Reads.is_empty.Goals as goal

pub returns-clause-few : goal.returns-clause-few
returns-clause-few c =
    subst (λ (l : List Probe). length l ≤ MAX_CLIENTS) c.self.view_is (few_reads c.self.inside.waiting.items _ c.self.invariant)
