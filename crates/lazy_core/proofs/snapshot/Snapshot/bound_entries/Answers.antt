use Rattle.std.proofs.Common.{◌∙◌, ap, sym}
use Rattle.lazy_rules.specs.Lines.{entry_of}
use Rattle.lazy_core.specs.LinesOf.{stores_at}
use Rattle.lazy_core.specs.Standing.{world_of_standing}
use Rattle.lazy_core.proofs.Lines.{bound_step}
use Rattle.lazy_core.proofs.snapshot.Snapshot.bound_entries.Goals as goal

pub loop-place-preserved : goal.loop-place-preserved
loop-place-preserved c =
    c.in_ok-push.ensures.ok
    ∙ bound_step c.args.self.now.shape (stores_at (world_of_standing c.args.self.now) c.args.first.now) c.in-Some.store.now c.loop-place.place c.cell.result.now c.loop-place.line c.in_ok-bound_entry.field-0
    (sym c.in-Some.ensures) c.cell.ensures c.loop-place.invariant (c.in_ok-bound_entry.ensures ∙ ap (entry_of c.cell.result.now.id) c.body_at.ensures)
