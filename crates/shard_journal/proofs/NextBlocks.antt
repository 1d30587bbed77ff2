-- The block that has the next positions of a store.
use Rattle.std.proofs.Common.{◌≡◌, ℕ, zero, suc, ◌+◌, ◌-◌, ◌^◌, ◌≤◌, ◌<◌, min, Bool, true, false, List, [], ◌∷◌, ◌++◌, length, take, drop, Option, None, Some, refl, sym, subst, ap, ◌∙◌, arith, length-append}
use Rattle.std.specs.Prelude.{slice_range, slice_get}
use Rattle.std.specs.List.{AllByRecursion, list_all}
use Rattle.std.proofs.lemmas.Bool.{lt-ltb, le-leb, leb-true}
use Rattle.std.proofs.lemmas.List.{length-take, length-drop, drop_more}
use Rattle.std.proofs.lemmas.Option.{get_or_from_slice_get}
use Rattle.rec_id.specs.Identity.{Identity}
use Rattle.rec_id.specs.declared.entry.Entry.{Entry}
use Rattle.rec_id.specs.declared.item.Body.{Body}
use Rattle.rec_id.specs.declared.item.Body.TheVariants.{Elsewhere, Kept, Noop, Open, Gone}
use Rattle.rec_id.specs.declared.item.Cell.{Cell}
use Rattle.rec_id.specs.declared.limits.TheConstants.{READ_LIMIT}
use Rattle.view_config.specs.declared.edition.Edition.TheVariants.{One}
use Rattle.view_config.specs.declared.limits.TheConstants.{RECORD_LIMIT_ONE}
use Rattle.lazy_msgs.specs.FrameLimits.{PlacedFits}
use Rattle.wire_frames.proofs.Bits.{both_true}
use Rattle.lazy_rules.specs.Store.{Store, entry_in, placed_entry, entries_from, part}
use Rattle.shard_journal.specs.Blocks.{rises_within, BlockFits}
use Rattle.shard_journal.specs.State.{body_is_short, is_short, EntryIsShort, next_to, next_block}

-- ---- places rise

rises_on : (from place to : ℕ) (entry : Option Entry) (rest : List (ℕ × Entry)) → from ≤ place → place < to → rises_within from to rest ≡ true → rises_within (place + 1) to rest ≡ true → rises_within from to (placed_entry place entry ++ rest) ≡ true
rises_on from place to None rest le below same more = same
rises_on from place to (Some entry) rest le below same more = rw (le-leb from place le, lt-ltb place to below, more) refl

rises_from : (from place to : ℕ) (cells : List Cell) → from ≤ place → place + length cells ≤ to → rises_within from to (entries_from place cells) ≡ true
rises_from from place to [] le most = refl
rises_from from place to (cell ∷ cells) le most =
    rises_on from place to (entry_in cell.id cell.body) (entries_from (place + 1) cells) le (omega arith)
    (rises_from from (place + 1) to cells (omega arith) (omega arith)) (rises_from (place + 1) (place + 1) to cells (omega arith) (omega arith))

one_most : (place : ℕ) (entry : Option Entry) → length (placed_entry place entry) ≤ 1
one_most place None = omega arith
one_most place (Some entry) = omega arith

count_most : (place : ℕ) (cells : List Cell) → length (entries_from place cells) ≤ length cells
count_most place [] = omega arith
count_most place (cell ∷ cells) =
    omega (arith, length-append (placed_entry place (entry_in cell.id cell.body)) (entries_from (place + 1) cells), one_most place (entry_in cell.id cell.body), count_most (place + 1) cells)

-- ---- data is short

short_one : (place : ℕ) (id : Identity) (body : Body) (rest : List (ℕ × Entry)) → body_is_short body ≡ true → AllByRecursion EntryIsShort rest → AllByRecursion EntryIsShort (placed_entry place (entry_in id body) ++ rest)
short_one place id (Kept bytes) rest short all = (record { data_is = leb-true (length bytes) RECORD_LIMIT_ONE short }, all)
short_one place id Noop rest short all = (record { data_is = tt }, all)
short_one place id Elsewhere rest short all = all
short_one place id Open rest short all = all
short_one place id Gone rest short all = all

short_from : (place : ℕ) (cells : List Cell) → list_all is_short cells ≡ true → AllByRecursion EntryIsShort (entries_from place cells)
short_from place [] short = tt
short_from place (cell ∷ cells) short =
    let both = both_true (body_is_short cell.body) (list_all is_short cells) short in
    short_one place cell.id cell.body (entries_from (place + 1) cells) both.0 (short_from (place + 1) cells both.1)

pub short_part : (store : Store) (from to : ℕ) → list_all is_short (slice_range store.order from to) ≡ true → AllByRecursion EntryIsShort (part store from to)
short_part store from to short = short_from from (slice_range store.order from to) short

-- ---- the block fits

pub next_fits : (store : Store) (kept : ℕ) → kept < store.stable → store.stable < 2 ^ 32 → AllByRecursion (PlacedFits One) (part store kept (next_to store kept)) → BlockFits (next_block store kept)
next_fits store kept below word fits =
    let to = next_to store kept in
    let cells = slice_range store.order kept to in
    let few : length cells ≤ to - kept = omega (arith, length-take (to - kept) (drop kept store.order)) in
    record {
      least = omega arith;
      most = omega arith;
      word = omega arith;
      entries_fit = record { count = omega (arith, count_most kept cells, few); each = fits };
      rising = rises_from kept kept to cells (omega arith) (omega (arith, few));
    }

pub next_fits_at : (store : Store) (kept to : ℕ) (entries : List (ℕ × Entry)) → kept < store.stable → store.stable < 2 ^ 32 → to ≡ next_to store kept → entries ≡ part store kept to → AllByRecursion (PlacedFits One) entries
    → BlockFits (record { from = kept; to = to; entries = entries })
next_fits_at store kept to entries below word to_is entries_are fits =
    rw (entries_are, to_is) (next_fits store kept below word (subst (λ (l : List (ℕ × Entry)). AllByRecursion (PlacedFits One) l) (entries_are ∙ ap (part store kept) to_is) fits))

-- ---- one cell of a range

range_step : (xs : List Cell) (i j : ℕ) (cell : Cell) → i < j → slice_get xs i ≡ Some cell → i < length xs → slice_range xs i j ≡ cell ∷ slice_range xs (i + 1) j
range_step xs i j cell below is within =
    let more : j - i ≡ suc (j - (i + 1)) = omega arith in
    let here : drop i xs ≡ cell ∷ drop (i + 1) xs = drop_more xs i cell within ∙ ap (λ (x : Cell). x ∷ drop (i + 1) xs) (get_or_from_slice_get xs i cell cell is) in
    rw (more, here) refl

-- so far all cells are short, and the next one is or isn't
pub short_on : (xs : List Cell) (from i j : ℕ) (cell : Cell) → i < j → j ≤ length xs → slice_get xs i ≡ Some cell → list_all is_short (slice_range xs i j) ≡ list_all is_short (slice_range xs from j) → is_short cell ≡ true
    → list_all is_short (slice_range xs (i + 1) j) ≡ list_all is_short (slice_range xs from j)
short_on xs from i j cell below most is so_far short =
    let step : list_all is_short (slice_range xs i j) ≡ list_all is_short (slice_range xs (i + 1) j) = ap (list_all is_short) (range_step xs i j cell below is (omega arith)) ∙ rw short refl in
    sym step ∙ so_far

pub not_short : (xs : List Cell) (from i j : ℕ) (cell : Cell) → i < j → j ≤ length xs → slice_get xs i ≡ Some cell → list_all is_short (slice_range xs i j) ≡ list_all is_short (slice_range xs from j) → is_short cell ≡ false
    → false ≡ list_all is_short (slice_range xs from j)
not_short xs from i j cell below most is so_far long =
    let step : list_all is_short (slice_range xs i j) ≡ false = ap (list_all is_short) (range_step xs i j cell below is (omega arith)) ∙ rw long refl in
    sym step ∙ so_far
