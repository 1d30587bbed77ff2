use Rattle.std.proofs.Common.{get_or, sym, ap, ◌∙◌, arith}
use Rattle.std.proofs.Math.ListN.{length-set}
use Rattle.std.proofs.lemmas.List.{length_push}
use Rattle.rec_id.specs.declared.item.Cell.{Cell}
use Rattle.rec_id.specs.declared.item.Body.TheVariants.{Kept}
use Rattle.lazy_rules.specs.Store.{given_up_cell}
use Rattle.shard_store.specs.Links.{blank}
use Rattle.shard_store.specs.Places.{Places}
use Rattle.shard_store.proofs.HeldCells.{moved, passed}
use Rattle.shard_store.proofs.held.move_kept.Goals as goal
use Rattle.shard_store.proofs.held.move_kept.Goals.{in-Some, in_default}

pub loop-place-preserved : goal.loop-place-preserved
loop-place-preserved c =
    let from = c.loop-place.from.cells in
    let to = c.loop-place.to.cells in
    let place = c.loop-place.place in
    let gone : Cell = given_up_cell (get_or from place blank) in
    let from_is = ap (λ (o : Places). o.cells) c.take_data.ensures.cells in
    let len = length-set from place gone in
    elim c.match-take_data.branch [
      | in-Some w ↦
          let cell : Cell = record { id = c.cell.result.now.id; body = Kept w.in-Some.bytes } in
          rw (w.to-is, w.push.ensures, c.take_data.ensures.cells) (record {
            all = moved to from place c.cell.result.now w.in-Some.bytes gone c.cell.ensures (sym c.take_data.ensures.bytes ∙ w.in-Some.is) ∙ c.loop-place.invariant.all;
            len = len ∙ c.loop-place.invariant.len;
            room = omega (arith, length_push to cell, c.loop-place.invariant.room, c.loop-place.invariant.left, c.loop-place.invariant.len, c.requires.room, c.loop-place-test);
            left = omega (arith, c.loop-place.invariant.left);
          })
      | in_default w ↦
          rw (w.to-is, c.take_data.ensures.cells) (record {
            all = passed to from place gone c.cell.result.now c.cell.ensures (sym c.take_data.ensures.bytes ∙ w.in_default.is) ∙ c.loop-place.invariant.all;
            len = len ∙ c.loop-place.invariant.len;
            room = c.loop-place.invariant.room;
            left = omega (arith, c.loop-place.invariant.left);
          })
    ]
