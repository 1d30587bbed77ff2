use Rattle.std.proofs.Common.{◌≡◌, ◌+◌, ◌<◌, ℕ, List, true, eqb, length, get_or, sym, ap, ◌∙◌, refl, arith}
use Rattle.std.specs.List.{position, position_or_len, remove, slice_get}
use Rattle.std.proofs.Math.ListN.{set}
use Rattle.rec_id.specs.declared.item.Cell.{Cell}
use Rattle.lazy_rules.specs.Store.{is_open}
use Rattle.shard_store.specs.Links.{blank}
use Rattle.shard_store.specs.Places.{Places, open_from}
use Rattle.shard_store.proofs.CellBodies.{is_open_cell, first_open_place, closed_one}
use Rattle.shard_store.proofs.order.Order.first_open_but.Goals as goal

pub returns : goal.returns
returns c = λ cell shut.
    let place = c.args.place in
    let cells = c.self.inside.cells.items in
    let opened : is_open (get_or cells place blank).body ≡ true = ap (λ (o : Places). is_open (get_or o.cells place blank).body) c.self.view_is ∙ c.requires.open_ in
    let inside : place < length cells = omega (arith, c.requires.inside, ap (λ (o : Places). length o.cells) c.self.view_is) in
    let there : 0 + place ≡ place = omega arith in
    let removed : open_from 0 (set cells place cell) ≡ remove (open_from 0 cells) (position_or_len (λ (other : ℕ). eqb other (0 + place)) (open_from 0 cells)) = closed_one 0 cells place cell inside opened shut in
    let left : open_from 0 (set cells place cell) ≡ remove (open_from 0 cells) (position_or_len (λ (other : ℕ). eqb other place) (open_from 0 cells)) =
    removed ∙ ap (λ (k : ℕ). remove (open_from 0 cells) (position_or_len (λ (other : ℕ). eqb other k) (open_from 0 cells))) there in
    c.first_but.ensures
    ∙ ap (λ (l : List ℕ). slice_get (remove l (position_or_len (λ (other : ℕ). eqb other place) l)) 0) (c.deref.ensures.value ∙ c.self.invariant.open_is)
    ∙ ap (λ (l : List ℕ). slice_get l 0) (sym left)
    ∙ first_open_place (open_from 0 (set cells place cell)) (set cells place cell) refl
    ∙ ap (λ (o : Places). position is_open_cell (set o.cells place cell)) c.self.view_is
