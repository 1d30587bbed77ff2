use Rattle.std.proofs.Common.{◌≡◌, ℕ, ◌-◌, ◌<◌, ◌++◌, List, Option, length, get_or, take, drop, inl, inr, sym, ap, ◌∙◌, arith}
use Rattle.std.specs.List.{between}
use Rattle.std.proofs.lemmas.Bool.{cases_lt}
use Rattle.std.proofs.lemmas.Option.{get_or_from_slice_get}
use Rattle.rec_id.specs.declared.entry.Entry.{Entry}
use Rattle.lazy_rules.specs.Store.{Store, placed_entry, entries_from, part}
use Rattle.shard_store.proofs.StoreFacts.{entries_more}
use Rattle.shard_store.proofs.store.ShardStore.part.Goals as goal

pub loop-place-preserved : goal.loop-place-preserved
loop-place-preserved c =
    let cells = c.self.inside.order.cells in
    let place = c.loop-place.place in
    let cell = c.cell.result.now in
    let inside : place < length cells = omega (arith, c.requires.to, c.self.invariant.stable_is, ap (λ (s : Store). s.stable) c.self.view_is) in
    let read : get_or cells place cell ≡ cell = get_or_from_slice_get cells place cell cell c.cell.ensures in
    record {
      made = c.in_ok-push_entry.ensures
          ∙ ap (λ (l : List (ℕ × Entry)). l ++ placed_entry place c.in_ok-entry_in.field-0) c.loop-place.invariant.made
          ∙ ap (λ (e : Option Entry). entries_from c.args.from (between c.args.from place cells) ++ placed_entry place e) c.in_ok-entry_in.ensures
          ∙ sym (entries_more cells c.args.from place cell c.loop-place.auto.place inside read);
      still = λ back. absurd (omega arith);
    }

pub returns : goal.returns
returns c =
    let cells = c.self.inside.order.cells in
    let width : c.loop-place.place - c.args.from ≡ c.args.to - c.args.from = elim (cases_lt c.args.from c.args.to) [
      | inl ahead ↦ omega (arith, c.loop-place.auto.place-end)
      | inr back ↦ omega (arith, c.loop-place.invariant.still back)
    ] in
    c.loop-place.invariant.made
    ∙ ap (λ (n : ℕ). entries_from c.args.from (take n (drop c.args.from cells))) width
    ∙ ap (λ (s : Store). part s c.args.from c.args.to) c.self.view_is
