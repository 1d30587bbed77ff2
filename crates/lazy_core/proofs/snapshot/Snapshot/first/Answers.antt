use Rattle.std.proofs.Common.{List, sym, subst}
use Rattle.lazy_core.specs.declared.node_state.NodeState.{NodeState}
use Rattle.lazy_core.specs.Standing.{IsLaid}
use Rattle.lazy_core.proofs.FirstStates.{first_laid}
use Rattle.lazy_core.proofs.snapshot.Snapshot.first.Goals as goal

pub invariant_of-result : goal.invariant_of-result
invariant_of-result c = subst (λ (states : List NodeState). IsLaid c.args.shape.now states) (sym c.in_ok-first_states.ensures) (first_laid c.args.shape.now)
