use Rattle.std.proofs.Common.{sym, ◌∙◌}
use Rattle.shard_store.proofs.Searches.{kept_found, kept_none}
use Rattle.shard_store.proofs.searching.kept_of.Goals as goal

pub returns-in-Some : goal.returns-in-Some
returns-in-Some c =
    c.bytes_in.ensures ∙ kept_found c.args.order.now.cells c.args.id c.in-Some.place c.cell.result.now (sym c.in-Some.is ∙ c.first.ensures) c.cell.ensures

pub returns-in-None : goal.returns-in-None
returns-in-None c = sym (kept_none c.args.order.now.cells c.args.id (sym c.in-None.is ∙ c.first.ensures))
