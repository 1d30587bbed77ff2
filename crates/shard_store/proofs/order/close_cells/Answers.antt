use Rattle.std.proofs.Common.{ℕ, ◌+◌, ◌<◌, ◌∷◌, List, length, drop, get_or, subst, sym}
use Rattle.std.proofs.lemmas.List.{drop_more}
use Rattle.rec_id.specs.declared.item.Cell.{Cell}
use Rattle.shard_store.specs.Places.{IsClosing}
use Rattle.shard_store.proofs.CellBodies.{closing_inside, closing_step}
use Rattle.shard_store.proofs.order.close_cells.Goals as goal

next_closing : (before now : List Cell) (opens : List ℕ) (i : ℕ) → i < length opens → IsClosing before now (drop i opens) → IsClosing before now (get_or opens i 0 ∷ drop (i + 1) opens)
next_closing before now opens i inside closing = subst (λ (l : List ℕ). IsClosing before now l) (drop_more opens i 0 inside) closing

pub set_body-requires : goal.set_body-requires
set_body-requires c =
    closing_inside c.args.cells.now c.loop-place.cells _ _
    (next_closing c.args.cells.now c.loop-place.cells c.args.opens.now c.loop-place.place-index c.loop-place-test.true c.loop-place.invariant)

pub loop-place-preserved : goal.loop-place-preserved
loop-place-preserved c =
    subst (λ (l : List Cell). IsClosing c.args.cells.now l (drop (c.loop-place.place-index + 1) c.args.opens.now)) (sym c.set_body.ensures)
    (closing_step c.args.cells.now c.loop-place.cells _ _
    (next_closing c.args.cells.now c.loop-place.cells c.args.opens.now c.loop-place.place-index c.loop-place-test.true c.loop-place.invariant))
