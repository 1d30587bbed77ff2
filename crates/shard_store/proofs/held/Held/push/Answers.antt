use Rattle.std.proofs.Common.{◌-◌, ◌∷◌, [], List, sym, ap, ◌∙◌, arith}
use Rattle.std.proofs.lemmas.List.{length_push}
use Rattle.rec_id.specs.declared.item.Cell.{Cell}
use Rattle.rec_id.specs.declared.item.Body.TheVariants.{Kept}
use Rattle.lazy_rules.specs.Store.{held_bytes}
use Rattle.shard_store.specs.Holding.{Holding, records_in, is_distinct}
use Rattle.shard_store.proofs.Holdings.{Pair, no_bytes_absent, distinct_push}
use Rattle.shard_store.proofs.HeldCells.{records_in-append}
use Rattle.shard_store.proofs.held.Held.push.Goals as goal

pub invariant_of-self : goal.invariant_of-self
invariant_of-self c =
    let cells = c.self.inside.cells.cells in
    let cell : Cell = record { id = c.args.id; body = Kept c.args.bytes } in
    let none = ap (λ (held : Holding). held_bytes held.records c.args.id) c.self.view_is ∙ c.requires.new in
    let more = records_in-append cells (cell ∷ []) in
    rw c.push.ensures (
      ap is_distinct more ∙ distinct_push (records_in cells) c.args.id c.args.bytes c.self.invariant.0 (no_bytes_absent (records_in cells) c.args.id none),
      omega (arith, length_push cells cell, c.self.invariant.1, c.requires.room, ap (λ (held : Holding). held.spare) c.self.view_is),
    )

pub returns : goal.returns
returns c =
    let cells = c.self.inside.cells.cells in
    let cell : Cell = record { id = c.args.id; body = Kept c.args.bytes } in
    rw (sym c.self.view_is, c.push.ensures) (ap (λ (l : List Pair). record { records = l; spare = c.self.inside.cells.spare - 1 }) (records_in-append cells (cell ∷ [])))
