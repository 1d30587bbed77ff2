use Rattle.std.proofs.Common.{List, sym, ap, ◌∙◌}
use Rattle.std.specs.List.{position}
use Rattle.rec_id.specs.declared.item.Cell.{Cell}
use Rattle.shard_store.proofs.CellBodies.{is_open_cell}
use Rattle.shard_node.proofs.Stores.{recut_order}
use Rattle.shard_node.proofs.ahead.Ahead.recut.Goals as goal

pub invariant_of-result : goal.invariant_of-result
invariant_of-result c = record {
  possible = (c.requires.from, c.requires.short);
  open_is = c.first_open_after-open.ensures ∙ ap (λ (l : List Cell). position is_open_cell l) (sym (recut_order c.args.store.now c.args.from c.args.cells));
}
