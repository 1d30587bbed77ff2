use Rattle.std.proofs.Common.{ap, ◌∙◌, sym}
use Rattle.rec_id.specs.declared.item.Body.{Body}
use Rattle.shard_store.specs.Settling.{settled_body}
use Rattle.lazy_rules.specs.Store.{held_beside}
use Rattle.shard_store.proofs.Holdings.{drawn_rest}
use Rattle.shard_store.proofs.settling.settle.Goals as goal

pub returns-in-Open-clause-held : goal.returns-in-Open-clause-held
returns-in-Open-clause-held c =
    c.take.ensures.rest ∙ drawn_rest c.args.held.now.records c.args.cell.id
    ∙ ap (λ (body : Body). held_beside (settled_body c.args.held.now.records c.args.cell.id body) c.args.held.now.records c.args.cell.id) (sym c.in-Open.is)
