use Rattle.std.proofs.Common.{List, sym, ap, ◌∙◌}
use Rattle.std.specs.List.{position}
use Rattle.rec_id.specs.declared.item.Cell.{Cell}
use Rattle.shard_store.proofs.CellBodies.{is_open_cell}
use Rattle.shard_node.proofs.Stores.{first_before, first_behind, none_behind, past_first}
use Rattle.shard_node.proofs.ahead.first_open_after.Goals as goal

pub returns-then-has_open_below : goal.returns-then-has_open_below
returns-then-has_open_below c =
    c.first_open.ensures
    ∙ first_before is_open_cell c.args.from c.args.store.now.order c.args.cells.now (sym c.has_open_below.ensures ∙ c.if-has_open_below.true) c.requires.from

pub returns-in-Some : goal.returns-in-Some
returns-in-Some c =
    first_behind is_open_cell c.args.from c.args.store.now.order c.args.cells.now c.in-Some.place
    (past_first is_open_cell c.args.from c.args.store.now.order (sym c.has_open_below.ensures ∙ c.if-has_open_below.false) c.requires.from)
    c.requires.from
    (sym c.in-Some.is ∙ c.first_open_in.ensures.place ∙ ap (λ (l : List Cell). position is_open_cell l) c.as_slice.ensures)

pub returns-in-None : goal.returns-in-None
returns-in-None c =
    none_behind is_open_cell c.args.from c.args.store.now.order c.args.cells.now
    (past_first is_open_cell c.args.from c.args.store.now.order (sym c.has_open_below.ensures ∙ c.if-has_open_below.false) c.requires.from)
    c.requires.from
    (sym c.in-None.is ∙ c.first_open_in.ensures.place ∙ ap (λ (l : List Cell). position is_open_cell l) c.as_slice.ensures)
