use Rattle.std.proofs.Common.{◌≡◌, false, sym, ap, ◌∙◌}
use Rattle.std.specs.Prelude.{is_some}
use Rattle.lazy_rules.specs.Store.{is_cell_of, has_data, held_bytes}
use Rattle.list_facts.proofs.Positions.{position_any}
use Rattle.shard_store.proofs.Searches.{is_some_map}
use Rattle.shard_store.proofs.searching.has_data.Goals as goal

pub returns : goal.returns
returns c =
    let none : is_some (held_bytes c.args.held.now.records c.args.id) ≡ false =
    ap is_some (sym c.get.ensures) ∙ is_some_map _ c.get.result ∙ sym c.is_some.ensures ∙ c.if-is_some.false in
    rw none (c.is_some-2.ensures ∙ ap is_some c.first.ensures ∙ position_any (is_cell_of has_data c.args.id) c.args.order.now.cells)
