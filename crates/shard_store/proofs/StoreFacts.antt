-- What stays true of a store, and what its parts are.
use Rattle.std.proofs.Common.{◌≡◌, ℕ, suc, ◌+◌, ◌-◌, ◌<◌, ◌≤◌, List, [], ◌∷◌, ◌++◌, true, false, max, length, get_or, map, take, drop, inl, inr, sym, ap, ◌∙◌, refl, arith}
use Rattle.std.specs.List.{between}
use Rattle.std.proofs.lemmas.Bool.{cases_lt}
use Rattle.std.proofs.lemmas.List.{append_assoc, append-nil, get_or-map, get_or-take, get_or-drop, get_or_append_left, get_or-append_right, length-append, length-map, length-take-le, length-drop, ext_get_or}
use Rattle.std.proofs.lemmas.List.Edits.{between_more, length-between}
use Rattle.rec_id.specs.declared.entry.Entry.{Entry}
use Rattle.rec_id.specs.declared.item.Body.{Body}
use Rattle.rec_id.specs.declared.item.Body.TheVariants.{Elsewhere, Kept, Noop, Open, Gone}
use Rattle.rec_id.specs.declared.item.Cell.{Cell}
use Rattle.lazy_rules.specs.Store.{Store, is_open, closed, closed_cell, given_up, given_up_cell, open_to_noop, entry_in, placed_entry, entries_from, trim}
use Rattle.shard_store.specs.Kinds.{is_kept}
use Rattle.shard_store.specs.Links.{blank}
use Rattle.shard_store.specs.Places.{IsGivenUp}
use Rattle.shard_store.specs.Sound.{IsSound}
use Rattle.shard_store.proofs.Extensions.{Pairs, grown}

-- ---- all open cells become no-ops
open_closed : (body : Body) → is_open (closed body) ≡ false
open_closed Elsewhere = refl
open_closed (Kept bytes) = refl
open_closed Noop = refl
open_closed Open = refl
open_closed Gone = refl

kept_closed : (body : Body) → is_kept (closed body) ≡ is_kept body
kept_closed Elsewhere = refl
kept_closed (Kept bytes) = refl
kept_closed Noop = refl
kept_closed Open = refl
kept_closed Gone = refl

pub sound_closed : (store : Store) → IsSound store → IsSound (open_to_noop store)
sound_closed store sound = record {
  shard_is = sound.shard_is;
  floor_is = sound.floor_is;
  stable_is = omega (arith, length-map store.order closed_cell, sound.stable_is);
  closed = λ k below.
      ap (λ (c : Cell). is_open c.body) (get_or-map closed_cell store.order k blank blank (omega (arith, sound.stable_is)))
      ∙ open_closed (get_or store.order k blank).body;
  given_up = λ k below.
      ap (λ (c : Cell). is_kept c.body) (get_or-map closed_cell store.order k blank blank (omega (arith, sound.stable_is, sound.floor_is)))
      ∙ kept_closed (get_or store.order k blank).body ∙ sound.given_up k below;
}

-- ---- entries of some cells
entries_from-append : (place : ℕ) (xs ys : List Cell) → entries_from place (xs ++ ys) ≡ entries_from place xs ++ entries_from (place + length xs) ys
entries_from-append place [] ys = ap (λ (n : ℕ). entries_from n ys) (omega arith)
entries_from-append place (x ∷ xs) ys =
    let first = placed_entry place (entry_in x.id x.body) in
    ap (λ (l : List (ℕ × Entry)). first ++ l) (entries_from-append (place + 1) xs ys
    ∙ ap (λ (n : ℕ). entries_from (place + 1) xs ++ entries_from n ys) (omega arith))
    ∙ sym (append_assoc first (entries_from (place + 1) xs) (entries_from (place + suc (length xs)) ys))

pub entries_more : (cells : List Cell) (from place : ℕ) (cell : Cell) → from ≤ place → place < length cells → get_or cells place cell ≡ cell
    → entries_from from (between from (place + 1) cells) ≡ entries_from from (between from place cells) ++ placed_entry place (entry_in cell.id cell.body)
entries_more cells from place cell start inside read =
    let part = between from place cells in
    let count : from + length part ≡ place = omega (arith, length-between cells from place (omega arith)) in
    ap (entries_from from) (between_more cells from place cell start inside ∙ ap (λ (c : Cell). part ++ c ∷ []) read)
    ∙ entries_from-append from part (cell ∷ [])
    ∙ ap (λ (n : ℕ). entries_from from part ++ (placed_entry n (entry_in cell.id cell.body) ++ [])) count
    ∙ ap (λ (l : List (ℕ × Entry)). entries_from from part ++ l) (append-nil (placed_entry place (entry_in cell.id cell.body)))

-- ---- kept data below a place is given up
given_up_same : (cell : Cell) → is_kept cell.body ≡ false → given_up_cell cell ≡ cell
given_up_same cell none = ap (λ (body : Body). let made : Cell = record { id = cell.id; body = body } in made) (by_body cell.body none)
  where
    by_body : (body : Body) → is_kept body ≡ false → given_up body ≡ body
    by_body Elsewhere none = refl
    by_body (Kept bytes) none = let wrong : true ≡ false = none in absurd cc
    by_body Noop none = refl
    by_body Open none = refl
    by_body Gone none = refl

pub trimmed : (floor to : ℕ) (before after : List Cell) → floor ≤ to → to ≤ length before → ((k : ℕ) → k < floor → is_kept (get_or before k blank).body ≡ false)
    → IsGivenUp floor to before after → after ≡ map given_up_cell (take to before) ++ drop to before
trimmed floor to before after start inside none given =
    ext_get_or blank after (map given_up_cell (take to before) ++ drop to before)
    (omega (arith, given.len, length-append (map given_up_cell (take to before)) (drop to before), count, length-drop to before))
    (λ k within. elim (cases_lt k to) [
      | inl early ↦
          let here : get_or after k blank ≡ given_up_cell (get_or before k blank) = elim (cases_lt k floor) [
            | inl low ↦ given.below k low ∙ sym (given_up_same (get_or before k blank) (none k low))
            | inr high ↦ given.within k high early
          ] in
          here
          ∙ ap given_up_cell (sym (get_or-take to before k blank early))
          ∙ sym (get_or-map given_up_cell (take to before) k blank blank (omega (arith, length-take-le to before inside)))
          ∙ sym (get_or_append_left (map given_up_cell (take to before)) (drop to before) blank k (omega (arith, count)))
      | inr late ↦
          given.above k late
          ∙ ap (λ (n : ℕ). get_or before n blank) (omega arith)
          ∙ sym (get_or-drop to before (k - to) blank)
          ∙ sym (get_or-append_right (map given_up_cell (take to before)) (drop to before) to k blank count late)
    ])
  where
    count : length (map given_up_cell (take to before)) ≡ to
    count = length-map (take to before) given_up_cell ∙ length-take-le to before inside

pub nothing_given_up : (floor : ℕ) (cells : List Cell) → IsGivenUp floor floor cells cells
nothing_given_up floor cells = record { len = refl; within = λ k late early. absurd (omega arith); below = λ k early. refl; above = λ k late. refl }

abbrev pub with_trim : Store → List Cell → ℕ → Store
with_trim store cells floor = record store { order = cells; floor = floor }

pub trim_is : (store : Store) (to : ℕ) (after : List Cell) → IsSound store → store.floor ≤ to → to ≤ store.stable → IsGivenUp store.floor to store.order after
    → with_trim store after to ≡ trim store to
trim_is store to after sound start inside given =
    let top : max store.floor to ≡ to = omega arith in
    ap (λ (l : List Cell). with_trim store l to) (trimmed store.floor to store.order after start (omega (arith, sound.stable_is)) sound.given_up given)
    ∙ ap (λ (n : ℕ). with_trim store (map given_up_cell (take n store.order) ++ drop n store.order) n) (sym top)

pub trim_none : (store : Store) (to : ℕ) → IsSound store → to ≤ store.floor → store ≡ trim store to
trim_none store to sound low =
    let top : max store.floor to ≡ store.floor = omega arith in
    ap (λ (l : List Cell). with_trim store l store.floor) (trimmed store.floor store.floor store.order store.order (omega arith) (omega (arith, sound.stable_is, sound.floor_is)) sound.given_up (nothing_given_up store.floor store.order))
    ∙ ap (λ (n : ℕ). with_trim store (map given_up_cell (take n store.order) ++ drop n store.order) n) (sym top)

-- ---- another order from a place on that isn't final
pub sound_recut : (store : Store) (from : ℕ) (rest : List Cell) (held : Pairs) → IsSound store → store.stable ≤ from → from ≤ length store.order
    → IsSound (grown store (take from store.order ++ rest) held)
sound_recut store from rest held sound above inside = record {
  shard_is = sound.shard_is;
  floor_is = sound.floor_is;
  stable_is = omega (arith, length-append (take from store.order) rest, count);
  closed = λ k below. ap (λ (c : Cell). is_open c.body) (same k (omega arith)) ∙ sound.closed k below;
  given_up = λ k below. ap (λ (c : Cell). is_kept c.body) (same k (omega (arith, sound.floor_is))) ∙ sound.given_up k below;
}
  where
    count : length (take from store.order) ≡ from
    count = length-take-le from store.order inside

    same : (k : ℕ) → k < from → get_or (take from store.order ++ rest) k blank ≡ get_or store.order k blank
    same k below = get_or_append_left (take from store.order) rest blank k (omega (arith, count)) ∙ get_or-take from store.order k blank below
