use Rattle.std.proofs.Common.{sym, ap, ◌∙◌}
use Rattle.lazy_rules.specs.Store.{held_bytes}
use Rattle.shard_store.specs.Holding.{Holding}
use Rattle.shard_store.proofs.Searches.{kept_found, kept_none}
use Rattle.shard_store.proofs.HeldCells.{held_is_kept}
use Rattle.shard_store.proofs.held.Held.get.Goals as goal

pub returns-in-Some : goal.returns-in-Some
returns-in-Some c =
    let cells = c.self.inside.cells.cells in
    c.bytes_in.ensures ∙ kept_found cells c.args.id c.in-Some.place c.cell.result.now (sym c.in-Some.is ∙ c.first.ensures) c.cell.ensures
    ∙ sym (held_is_kept cells c.args.id) ∙ ap (λ (held : Holding). held_bytes held.records c.args.id) c.self.view_is

pub returns-in-None : goal.returns-in-None
returns-in-None c =
    let cells = c.self.inside.cells.cells in
    sym (kept_none cells c.args.id (sym c.in-None.is ∙ c.first.ensures))
    ∙ sym (held_is_kept cells c.args.id) ∙ ap (λ (held : Holding). held_bytes held.records c.args.id) c.self.view_is
