-- A removal that stops when as many items were met as there are identities.
use Rattle.std.proofs.Common.{◌≡◌, ℕ, suc, ◌+◌, ◌-◌, ◌<◌, ◌≤◌, List, [], ◌∷◌, ◌++◌, Bool, true, false, not, cond, ◌||◌, ◌⊎◌, get_or, length, take, drop, inl, inr, sym, ap, ◌∙◌, refl, arith}
use Rattle.std.specs.List.{list_all, filter}
use Rattle.std.proofs.lemmas.Bool.{and_parts, and_from, or_left, or_right, or_cases, or_parts, not-true}
use Rattle.std.proofs.lemmas.List.{append-nil, append_assoc, drop_all, drop_more, length_push, take-append-drop, take_at, drop_at, length-append, length-drop, length-take-le}
use Rattle.std.proofs.lemmas.List.Elements.{filter-append, filter_more}
use Rattle.std.proofs.lemmas.List.Filters.{length-filter_both}
use Rattle.rec_id.specs.Identity.{Identity}
use Rattle.rec_id.specs.declared.item.Item.{Item}
use Rattle.pending_log.specs.Pending.{Pending, has_item, is_distinct, without}
use Rattle.rec_id.specs.Identity.{same_id, has_id}
use Rattle.pending_log.proofs.Identities.{same_by, not_same_turned, distinct_filter}

-- the identities but the first that is this one
minus : List Identity → Identity → List Identity
minus [] id = []
minus (other ∷ ids) id = cond (same_id other id) ids (other ∷ minus ids id)

length-minus : (ids : List Identity) (id : Identity) → has_id ids id ≡ true → length (minus ids id) + 1 ≡ length ids
unfolding minus
length-minus [] id has = let wrong : false ≡ true = has in cc
length-minus (other ∷ ids) id has = by_test (same_id other id) (length-minus ids id) has
  where
    by_test : (same : Bool) → (has_id ids id ≡ true → length (minus ids id) + 1 ≡ length ids) → (same || has_id ids id) ≡ true → length (cond same ids (other ∷ minus ids id)) + 1 ≡ suc (length ids)
    by_test true later has = omega arith
    by_test false later has = omega (arith, later has)

has_id-minus : (ids : List Identity) (id kept : Identity) → same_id id kept ≡ false → has_id ids kept ≡ true → has_id (minus ids id) kept ≡ true
unfolding minus
has_id-minus [] id kept apart has = has
has_id-minus (other ∷ ids) id kept apart has = by_test (same_id other id) (has_id-minus ids id kept apart) refl
  where
    by_test : (same : Bool) → (has_id ids kept ≡ true → has_id (minus ids id) kept ≡ true) → same_id other id ≡ same → has_id (cond same ids (other ∷ minus ids id)) kept ≡ true
    by_test true more is = elim (or_cases (same_id other kept) (has_id ids kept) has) [
      | inl one ↦ let wrong : true ≡ false = sym (same_by other id kept is one) ∙ apart in cc
      | inr later ↦ later
    ]
    by_test false more is = elim (or_cases (same_id other kept) (has_id ids kept) has) [
      | inl one ↦ or_left (same_id other kept) (has_id (minus ids id) kept) one
      | inr later ↦ or_right (same_id other kept) (has_id (minus ids id) kept) (more later)
    ]

abbrev met : List Identity → Item → Bool
met ids item = has_id ids item.id

all_minus : (xs : List Item) (ids : List Identity) (id : Identity) → has_item xs id ≡ false → list_all (met ids) xs ≡ true → list_all (met (minus ids id)) xs ≡ true
all_minus [] ids id absent all = refl
all_minus (x ∷ xs) ids id absent all =
    let apart = or_parts (same_id x.id id) (has_item xs id) absent in
    let parts = and_parts (met ids x) (list_all (met ids) xs) all in
    and_from (met (minus ids id) x) (list_all (met (minus ids id)) xs)
    (has_id-minus ids id x.id (not_same_turned x.id id apart.0) parts.0) (all_minus xs ids id apart.1 parts.1)

-- distinct items whose identities are all among some are no more than those
few : (xs : List Item) (ids : List Identity) → is_distinct xs ≡ true → list_all (met ids) xs ≡ true → length xs ≤ length ids
few [] ids distinct all = omega arith
few (x ∷ xs) ids distinct all =
    let apart = and_parts (not (has_item xs x.id)) (is_distinct xs) distinct in
    let parts = and_parts (met ids x) (list_all (met ids) xs) all in
    let rest = few xs (minus ids x.id) apart.1 (all_minus xs ids x.id (not-true (has_item xs x.id) apart.0) parts.1) in
    omega (arith, rest, length-minus ids x.id parts.0)

all_filter : (p : Item → Bool) (xs : List Item) → list_all p (filter p xs) ≡ true
all_filter p [] = refl
all_filter p (x ∷ xs) = by_test (p x) refl (all_filter p xs)
  where
    by_test : (kept : Bool) → p x ≡ kept → list_all p (filter p xs) ≡ true → list_all p (cond kept (x ∷ filter p xs) (filter p xs)) ≡ true
    by_test true is rest = and_from (p x) (list_all p (filter p xs)) is rest
    by_test false is rest = rest

none_met : (ids : List Identity) (xs : List Item) → length (filter (met ids) xs) ≡ 0 → without ids xs ≡ xs
none_met ids [] none = refl
none_met ids (x ∷ xs) none = by_test (met ids x) (none_met ids xs) none
  where
    by_test : (b : Bool) → (length (filter (met ids) xs) ≡ 0 → without ids xs ≡ xs) → length (cond b (x ∷ filter (met ids) xs) (filter (met ids) xs)) ≡ 0
        → cond (not b) (x ∷ without ids xs) (without ids xs) ≡ x ∷ xs
    by_test true rest none = absurd (omega arith)
    by_test false rest none = ap (λ (l : List Item). x ∷ l) (rest none)

-- where as many were met as there are identities, the rest has none of them
pub rest_stays : (ids : List Identity) (front rest : List Item) → is_distinct (front ++ rest) ≡ true → length front ≡ length ids + length (without ids front) → without ids rest ≡ rest
rest_stays ids front rest distinct met_all =
    let all = few (filter (met ids) (front ++ rest)) ids (distinct_filter (met ids) (front ++ rest) distinct) (all_filter (met ids) (front ++ rest)) in
    let parts : length (filter (met ids) (front ++ rest)) ≡ length (filter (met ids) front) + length (filter (met ids) rest) =
    ap length (filter-append (met ids) front rest) ∙ length-append (filter (met ids) front) (filter (met ids) rest) in
    let both = length-filter_both (met ids) (λ item. not (met ids item)) (λ item. refl) front in
    none_met ids rest (omega (arith, all, parts, both))

-- ---- the loop
abbrev stays : List Identity → Item → Bool
stays ids item = not (has_id ids item.id)

-- after so many items: the others, and behind them those of these that stay
pub record Turned (ids : List Identity) (before : List Item) (room count unmet kept : ℕ) (now : Pending) : Type 0 where
  pub within : count ≤ length before
  pub items : now.items ≡ drop count before ++ without ids (take count before)
  pub kept_is : kept ≡ length (without ids (take count before))
  pub met_is : unmet + count ≡ length ids + kept
  pub room_is : now.capacity ≡ room

module _ (ids : List Identity) (before : List Item) (room count unmet kept : ℕ) (now : Pending) (turned : Turned ids before room count unmet kept now) where
  pub turned_length : length now.items + count ≡ length before + kept
  turned_length =
      omega (arith, ap length turned.items, length-append (drop count before) (without ids (take count before)), length-drop count before, turned.kept_is, turned.within)

  pub turned_kept : kept ≤ count
  turned_kept =
      omega (arith, length-filter_both (stays ids) (λ item. not (stays ids item)) (λ item. refl) (take count before), length-take-le count before turned.within, turned.kept_is)

  module _ (inside : count < length before) (item : Item) (after : Pending) (popped : now.items ≡ item ∷ after.items) (same_room : after.capacity ≡ now.capacity) where
    first : now.items ≡ get_or before count item ∷ (drop (count + 1) before ++ without ids (take count before))
    first = turned.items ∙ ap (λ (l : List Item). l ++ without ids (take count before)) (drop_more before count item inside)

    item_is : item ≡ get_or before count item
    item_is = let both : item ∷ after.items ≡ get_or before count item ∷ (drop (count + 1) before ++ without ids (take count before)) = sym popped ∙ first in cc

    rest_is : after.items ≡ drop (count + 1) before ++ without ids (take count before)
    rest_is = let both : item ∷ after.items ≡ get_or before count item ∷ (drop (count + 1) before ++ without ids (take count before)) = sym popped ∙ first in cc

    more : without ids (take (count + 1) before) ≡ without ids (take count before) ++ cond (stays ids item) (item ∷ []) []
    more =
        filter_more (stays ids) before count item inside
        ∙ ap (λ (x : Item). without ids (take count before) ++ cond (stays ids x) (x ∷ []) []) (sym item_is)

    -- what was taken out leaves room
    pub turned_room : length before ≤ room → length after.items < after.capacity
    turned_room short = omega (arith, turned_length, turned_kept, ap length popped, same_room, turned.room_is)

    pub turned_met : has_id ids item.id ≡ true → 1 ≤ unmet → Turned ids before room (count + 1) (unmet - 1) kept after
    turned_met met some =
        let same : without ids (take (count + 1) before) ≡ without ids (take count before) =
        more ∙ ap (λ (b : Bool). without ids (take count before) ++ cond (not b) (item ∷ []) []) met ∙ append-nil (without ids (take count before)) in
        record {
          within = omega arith;
          items = rest_is ∙ ap (λ (l : List Item). drop (count + 1) before ++ l) (sym same);
          kept_is = turned.kept_is ∙ ap length (sym same);
          met_is = omega (arith, turned.met_is);
          room_is = same_room ∙ turned.room_is;
        }

    pub turned_stays : has_id ids item.id ≡ false → Turned ids before room (count + 1) unmet (kept + 1) (record after { items = after.items ++ item ∷ [] })
    turned_stays other =
        let same : without ids (take (count + 1) before) ≡ without ids (take count before) ++ item ∷ [] =
        more ∙ ap (λ (b : Bool). without ids (take count before) ++ cond (not b) (item ∷ []) []) other in
        record {
          within = omega arith;
          items =
              ap (λ (l : List Item). l ++ item ∷ []) rest_is ∙ append_assoc (drop (count + 1) before) (without ids (take count before)) (item ∷ [])
              ∙ ap (λ (l : List Item). drop (count + 1) before ++ l) (sym same);
          kept_is = omega (arith, turned.kept_is, ap length same, length_push (without ids (take count before)) item);
          met_is = omega (arith, turned.met_is);
          room_is = same_room ∙ turned.room_is;
        }

  -- in the end the items that stay are turned before the others
  pub turned_back : is_distinct before ≡ true → (unmet ≡ 0) ⊎ (length before ≤ count)
      → drop (length now.items - kept) now.items ++ take (length now.items - kept) now.items ≡ without ids before
  turned_back distinct done =
      let others = drop count before in
      let staying = without ids (take count before) in
      let place : length now.items - kept ≡ length others =
      omega (arith, turned_length, length-drop count before, turned.within) in
      let split : drop (length now.items - kept) now.items ++ take (length now.items - kept) now.items ≡ staying ++ others =
      ap (λ (l : List Item). drop (length now.items - kept) l ++ take (length now.items - kept) l) turned.items
      ∙ ap (λ (n : ℕ). drop n (others ++ staying) ++ take n (others ++ staying)) place
      ∙ ap (λ (l : List Item). l ++ take (length others) (others ++ staying)) (drop_at others staying (length others) refl)
      ∙ ap (λ (l : List Item). staying ++ l) (take_at others staying (length others) refl) in
      let whole : take count before ++ others ≡ before = take-append-drop count before in
      let same : without ids others ≡ others = elim done [
        | inl none ↦
            rest_stays ids (take count before) others (ap is_distinct whole ∙ distinct)
            (omega (arith, length-take-le count before turned.within, turned.met_is, turned.kept_is))
        | inr past ↦
            let empty : others ≡ [] = drop_all count before past in
            ap (without ids) empty ∙ sym empty
      ] in
      split ∙ ap (λ (l : List Item). staying ++ l) (sym same) ∙ sym (filter-append (stays ids) (take count before) others) ∙ ap (without ids) whole
