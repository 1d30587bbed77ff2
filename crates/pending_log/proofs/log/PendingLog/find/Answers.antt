use Rattle.std.proofs.Common.{ap, ◌∙◌}
use Rattle.std.specs.Prelude.{is_some}
use Rattle.pending_log.specs.Pending.{Pending, has_item}
use Rattle.rec_id.specs.Identity.{same_id}
use Rattle.list_facts.proofs.Positions.{position_any}
use Rattle.pending_log.proofs.log.PendingLog.find.Goals as goal

pub returns-clause-found : goal.returns-clause-found
returns-clause-found c =
    ap is_some c.find.ensures ∙ position_any (λ item. same_id item.id c.args.id) c.self.inside.ring.items
    ∙ ap (λ (log : Pending). has_item log.items c.args.id) c.self.view_is
