-- Parts of a store that grows.
use Rattle.std.proofs.Common.{◌≡◌, ℕ, suc, ◌+◌, ◌-◌, ◌^◌, ◌≤◌, ◌<◌, true, false, List, [], ◌∷◌, ◌++◌, length, take, drop, Option, None, Some, refl, sym, ap, ◌∙◌, subst, append_assoc, arith, length-append}
use Rattle.std.specs.Prelude.{slice_range}
use Rattle.std.specs.List.{AllByRecursion, list_all, list_any}
use Rattle.std.proofs.lemmas.Bool.{lt-ltb, le-leb}
use Rattle.std.proofs.lemmas.List.{drop-take, length-take, length-take-le, take-append-drop, take-append-le, take-take}
use Rattle.rec_id.specs.declared.entry.Entry.{Entry}
use Rattle.rec_id.specs.declared.item.Body.{Body}
use Rattle.rec_id.specs.declared.item.Body.TheVariants.{Elsewhere, Kept, Noop, Open, Gone}
use Rattle.rec_id.specs.declared.item.Cell.{Cell}
use Rattle.view_config.specs.declared.edition.Edition.TheVariants.{One}
use Rattle.view_config.specs.declared.limits.TheConstants.{RECORD_LIMIT_ONE}
use Rattle.lazy_msgs.specs.FrameLimits.{BodyFits, CellFits, PlacedFits}
use Rattle.lazy_rules.specs.Store.{Store, entries_from, entry_in, has_open_below, is_open, part, placed_entry}
use Rattle.shard_journal.specs.Blocks.{BlockFits, rises_within}
use Rattle.shard_journal.specs.State.{CanKeep, body_is_short, is_short, next_block, next_to}
use Rattle.journal_top.specs.Sound.{IsPlain}

-- ---- entries of some cells and of others behind them

entries_append : (place : ℕ) (xs ys : List Cell) → entries_from place (xs ++ ys) ≡ entries_from place xs ++ entries_from (place + length xs) ys
entries_append place [] ys = ap (λ (n : ℕ). entries_from n ys) (omega arith)
entries_append place (x ∷ xs) ys =
    let first = placed_entry place (entry_in x.id x.body) in
    ap (λ (l : List (ℕ × Entry)). first ++ l) (entries_append (place + 1) xs ys
    ∙ ap (λ (n : ℕ). entries_from (place + 1) xs ++ entries_from n ys) (omega arith))
    ∙ sym (append_assoc first (entries_from (place + 1) xs) (entries_from (place + suc (length xs)) ys))

from_first : (store : Store) (to : ℕ) → part store 0 to ≡ entries_from 0 (take to store.order)
from_first store to = ap (λ (n : ℕ). entries_from 0 (take n store.order)) (omega arith)

take_two : (n m : ℕ) (xs : List Cell) → take (n + m) xs ≡ take n xs ++ take m (drop n xs)
take_two n m xs =
    sym (take-append-drop n (take (n + m) xs)) ∙ ap (λ (l : List Cell). l ++ drop n (take (n + m) xs)) (take-take n (n + m) xs (omega arith))
    ∙ ap (λ (l : List Cell). take n xs ++ l) (drop-take n m xs)

pub part_split : (store : Store) (mid to : ℕ) → mid ≤ to → mid ≤ length store.order → part store 0 to ≡ part store 0 mid ++ part store mid to
part_split store mid to le within =
    let all : take to store.order ≡ take mid store.order ++ take (to - mid) (drop mid store.order) = ap (λ (n : ℕ). take n store.order) (let e : to ≡ mid + (to - mid) = omega (arith, le) in e) ∙ take_two mid (to - mid) store.order in
    let place : 0 + length (take mid store.order) ≡ mid = omega (arith, length-take-le mid store.order within) in
    from_first store to ∙ ap (entries_from 0) all ∙ entries_append 0 (take mid store.order) (take (to - mid) (drop mid store.order))
    ∙ ap (λ (n : ℕ). entries_from 0 (take mid store.order) ++ entries_from n (take (to - mid) (drop mid store.order))) place
    ∙ ap (λ (l : List (ℕ × Entry)). l ++ part store mid to) (sym (from_first store mid))

pub part_stays : (store more : Store) (cells : List Cell) (to : ℕ) → more.order ≡ store.order ++ cells → to ≤ length store.order → part more 0 to ≡ part store 0 to
part_stays store more cells to order_is within =
    from_first more to ∙ ap (λ (l : List Cell). entries_from 0 (take to l)) order_is ∙ ap (entries_from 0) (take-append-le to store.order cells within) ∙ sym (from_first store to)

pub part_same : (one other : Store) (to : ℕ) → take to one.order ≡ take to other.order → part one 0 to ≡ part other 0 to
part_same one other to is = from_first one to ∙ ap (entries_from 0) is ∙ sym (from_first other to)

-- ---- what holds of all cells holds of some

all_append : (P : Cell → Type 0) (xs ys : List Cell) → AllByRecursion P xs → AllByRecursion P ys → AllByRecursion P (xs ++ ys)
all_append P [] ys all more = more
all_append P (x ∷ xs) ys all more = (all.0, all_append P xs ys all.1 more)

pub one_fits_more : (cells : List Cell) (cell : Cell) → AllByRecursion (CellFits One) cells → CellFits One cell → AllByRecursion (CellFits One) (cells ++ cell ∷ [])
one_fits_more cells cell all one = all_append (CellFits One) cells (cell ∷ []) all (one, tt)

all_split : (P : Cell → Type 0) (xs ys : List Cell) → AllByRecursion P (xs ++ ys) → AllByRecursion P xs × AllByRecursion P ys
all_split P [] ys all = (tt, all)
all_split P (x ∷ xs) ys all = let rest = all_split P xs ys all.1 in ((all.0, rest.0), rest.1)

all_of : (P : Cell → Type 0) (cells : List Cell) (from to : ℕ) → AllByRecursion P cells → AllByRecursion P (slice_range cells from to)
all_of P cells from to all =
    let behind = (all_split P (take from cells) (drop from cells) (subst (AllByRecursion P) (sym (take-append-drop from cells)) all)).1 in
    (all_split P (take (to - from) (drop from cells)) (drop (to - from) (drop from cells)) (subst (AllByRecursion P) (sym (take-append-drop (to - from) (drop from cells))) behind)).0

front_of : (P : Cell → Type 0) (cells : List Cell) (to : ℕ) → AllByRecursion P cells → AllByRecursion P (take to cells)
front_of P cells to all = (all_split P (take to cells) (drop to cells) (subst (AllByRecursion P) (sym (take-append-drop to cells)) all)).0

-- ---- no cell is open, and all are short

body_short : (body : Body) → BodyFits One body → body_is_short body ≡ true
body_short Elsewhere fits = refl
body_short (Kept bytes) fits = le-leb (length bytes) RECORD_LIMIT_ONE fits
body_short Noop fits = refl
body_short Open fits = absurd fits
body_short Gone fits = absurd fits

are_short : (cells : List Cell) → AllByRecursion (CellFits One) cells → list_all is_short cells ≡ true
are_short [] all = refl
are_short (cell ∷ cells) all = rw (body_short cell.body all.0.body, are_short cells all.1) refl

body_closed : (body : Body) → BodyFits One body → is_open body ≡ false
body_closed Elsewhere fits = refl
body_closed (Kept bytes) fits = refl
body_closed Noop fits = refl
body_closed Open fits = absurd fits
body_closed Gone fits = absurd fits

none_open : (cells : List Cell) → AllByRecursion (CellFits One) cells → list_any (λ cell. is_open cell.body) cells ≡ false
none_open [] all = refl
none_open (cell ∷ cells) all = rw (body_closed cell.body all.0.body, none_open cells all.1) refl

pub closed_below : (store : Store) (to : ℕ) → IsPlain store → has_open_below store to ≡ false
closed_below store to plain = none_open (take to store.order) (front_of (CellFits One) store.order to plain.fit)

pub can_keep : (store : Store) (kept : ℕ) → IsPlain store → kept ≤ store.stable → CanKeep store kept
can_keep store kept plain le = record {
  floor_is = omega (arith, plain.floor_is);
  stable_is = le;
  short = are_short (slice_range store.order kept (next_to store kept)) (all_of (CellFits One) store.order kept (next_to store kept) plain.fit);
}

-- ---- the next block fits

entry_fits : (place : ℕ) (cell : Cell) (rest : List (ℕ × Entry)) → place < 2 ^ 32 → CellFits One cell → AllByRecursion (PlacedFits One) rest → AllByRecursion (PlacedFits One) (placed_entry place (entry_in cell.id cell.body) ++ rest)
entry_fits place cell rest word fits all = by cell.body fits.body
  where
    by : (body : Body) → BodyFits One body → AllByRecursion (PlacedFits One) (placed_entry place (entry_in cell.id body) ++ rest)
    by (Kept bytes) short = (record { place = word; entry = (fits.id, short) }, all)
    by Noop none = (record { place = word; entry = fits.id }, all)
    by Elsewhere none = all
    by Open none = absurd none
    by Gone none = absurd none

entries_fit : (place : ℕ) (cells : List Cell) → place + length cells ≤ 2 ^ 32 → AllByRecursion (CellFits One) cells → AllByRecursion (PlacedFits One) (entries_from place cells)
entries_fit place [] word all = tt
entries_fit place (cell ∷ cells) word all = entry_fits place cell (entries_from (place + 1) cells) (omega (arith, word)) all.0 (entries_fit (place + 1) cells (omega (arith, word)) all.1)

rises_on : (from place to : ℕ) (entry : Option Entry) (rest : List (ℕ × Entry)) → from ≤ place → place < to → rises_within from to rest ≡ true → rises_within (place + 1) to rest ≡ true → rises_within from to (placed_entry place entry ++ rest) ≡ true
rises_on from place to None rest le below same more = same
rises_on from place to (Some entry) rest le below same more = rw (le-leb from place le, lt-ltb place to below, more) refl

rises_from : (from place to : ℕ) (cells : List Cell) → from ≤ place → place + length cells ≤ to → rises_within from to (entries_from place cells) ≡ true
rises_from from place to [] le most = refl
rises_from from place to (cell ∷ cells) le most =
    rises_on from place to (entry_in cell.id cell.body) (entries_from (place + 1) cells) le (omega arith)
    (rises_from from (place + 1) to cells (omega arith) (omega arith)) (rises_from (place + 1) (place + 1) to cells (omega arith) (omega arith))

one_most : (place : ℕ) (entry : Option Entry) → length (placed_entry place entry) ≤ 1
one_most place None = omega arith
one_most place (Some entry) = omega arith

count_most : (place : ℕ) (cells : List Cell) → length (entries_from place cells) ≤ length cells
count_most place [] = omega arith
count_most place (cell ∷ cells) =
    omega (arith, length-append (placed_entry place (entry_in cell.id cell.body)) (entries_from (place + 1) cells), one_most place (entry_in cell.id cell.body), count_most (place + 1) cells)

pub next_fits : (store : Store) (kept : ℕ) → IsPlain store → kept < store.stable → BlockFits (next_block store kept)
next_fits store kept plain below =
    let to = next_to store kept in
    let cells = slice_range store.order kept to in
    let few : length cells ≤ to - kept = omega (arith, length-take (to - kept) (drop kept store.order)) in
    record {
      least = omega arith;
      most = omega arith;
      word = omega (arith, plain.stable_is, plain.places);
      entries_fit = record { count = omega (arith, count_most kept cells, few); each = entries_fit kept cells (omega (arith, few, plain.stable_is, plain.places)) (all_of (CellFits One) store.order kept to plain.fit) };
      rising = rises_from kept kept to cells (omega arith) (omega (arith, few));
    }
