-- Each started view but the latest has a member that does nothing more in it.
use Rattle.std.proofs.Common.{ℕ, subst, arith}
use Rattle.list_facts.specs.Lists.{In}
use Rattle.view_config.specs.Shape.{Dimensions}
use Rattle.lazy_rules.specs.WorldState.{WorldState}
use Rattle.log_facts.specs.Finality.{IsShut}
use Rattle.log_facts.specs.Ghosts.{Ghost}
use Rattle.log_facts.specs.Parts.{parts_of}
use Rattle.log_facts.specs.Promises.{Sealed}
use Rattle.log_facts.proofs.lines.Finals.{IsAgreed}

pub sealed : (shape : Dimensions) (g : Ghost) (w : WorldState) → IsAgreed shape g w → Sealed w g.views
sealed shape g w is = record {
  member = λ view started before.
      let latest = is.agreed.views.started.latest in
      let closer = is.agreed.among_seqs.closers view started.some (omega arith) in (
        g.views.cx view,
        subst (λ (n : ℕ). In (g.views.cx view) (g.views.cf n).seq) started.is closer.member,
        subst (λ (n : ℕ). IsShut ((parts_of w).seqs (g.views.cx view)) n) started.is closer.shut,
      );
}
