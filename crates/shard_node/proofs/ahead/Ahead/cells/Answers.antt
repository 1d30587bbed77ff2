use Rattle.std.proofs.Common.{◌≡◌, ℕ, ◌-◌, ◌<◌, ◌++◌, ◌∷◌, [], List, length, get_or, take, drop, min, inl, inr, sym, ap, ◌∙◌, arith}
use Rattle.std.specs.List.{between}
use Rattle.std.proofs.lemmas.Bool.{cases_lt}
use Rattle.std.proofs.lemmas.List.Edits.{between_more}
use Rattle.std.proofs.lemmas.Option.{get_or_from_slice_get}
use Rattle.rec_id.specs.declared.item.Cell.{Cell}
use Rattle.shard_node.proofs.Stores.{range_clipped}
use Rattle.shard_node.proofs.ahead.Ahead.cells.Goals as goal

pub loop-place-preserved : goal.loop-place-preserved
loop-place-preserved c =
    let cells = c.args.self.now.order in
    let place = c.loop-place.place in
    let cell = c.in_ok-cell.field-0 in
    let inside : place < length cells = omega (arith, c.loop-place-test.true, c.min-end.ensures, c.len.ensures) in
    let read : get_or cells place cell ≡ cell = get_or_from_slice_get cells place cell cell c.in_ok-cell.ensures in
    record {
      made = c.in_ok-push.ensures.ok
          ∙ ap (λ (l : List Cell). l ++ cell ∷ []) c.loop-place.invariant.made
          ∙ ap (λ (x : Cell). between c.args.from place cells ++ x ∷ []) (sym read)
          ∙ sym (between_more cells c.args.from place cell c.loop-place.auto.place inside);
      still = λ back. absurd (omega arith);
    }

pub returns : goal.returns
returns c =
    let cells = c.args.self.now.order in
    let end = c.min-end.result in
    let width : c.loop-place.place - c.args.from ≡ end - c.args.from = elim (cases_lt c.args.from end) [
      | inl ahead ↦ omega (arith, c.loop-place.auto.place-end)
      | inr back ↦ omega (arith, c.loop-place.invariant.still back)
    ] in
    let clipped : end ≡ min c.args.to (length cells) = c.min-end.ensures ∙ ap (λ (n : ℕ). min c.args.to n) c.len.ensures in
    c.loop-place.invariant.made
    ∙ ap (λ (n : ℕ). take n (drop c.args.from cells)) width
    ∙ ap (λ (n : ℕ). between c.args.from n cells) clipped
    ∙ range_clipped cells c.args.from c.args.to
