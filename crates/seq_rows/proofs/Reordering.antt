-- A list whose front becomes longer by some members, and the rest of which loses these and keeps its order.
use Rattle.std.proofs.Common.{◌≡◌, ◌⊎◌, ℕ, zero, suc, ◌+◌, ◌≤◌, List, [], ◌∷◌, ◌++◌, length, take, Bool, true, false, cond, not, ◌||◌, Some, None, slice_get, inl, inr, refl, sym, ap, ◌∙◌, subst, arith}
use Rattle.std.specs.Prelude.{filter}
use Rattle.std.proofs.lemmas.Bool.{cases_Bool, not-true, or_right}
use Rattle.list_facts.specs.Lists.{Distinct, Each, In, Precedes}
use Rattle.list_facts.proofs.Distinctness.{distinct_append}
use Rattle.list_facts.proofs.Members.{filter_in, in_cases, in_filter, in_left, in_right}
use Rattle.list_facts.proofs.Precedence.{precedes_across, precedes_cases}
use Rattle.rec_id.specs.Identity.{Identity, has_id, same_id}
use Rattle.rec_id.specs.declared.item.Item.{Item}
use Rattle.lazy_rules.specs.Ids.{ids_of}
use Rattle.log_facts.specs.Signs.{IsPiece}
use Rattle.log_facts.proofs.Identities.{is_same, same_is}
use Rattle.log_facts.proofs.telling.Past.{precedes_second}
use Rattle.seq_rows.proofs.Longer.{in_whole}
use Rattle.seq_rows.proofs.Marking.{or_cases}

module _ {A : Type 0} where
  pub distinct_right : (xs ys : List A) → Distinct (xs ++ ys) → Distinct ys
  distinct_right [] ys h = h
  distinct_right (z ∷ zs) ys h = distinct_right zs ys h.1

  pub distinct_apart : (xs ys : List A) → Distinct (xs ++ ys) → (x : A) → In x xs → In x ys → ⊥
  distinct_apart [] ys h x m n = absurd m
  distinct_apart (z ∷ zs) ys h x (inl e) n = h.0 (subst (λ (y : A). In y (zs ++ ys)) (sym e) (in_right x zs ys n))
  distinct_apart (z ∷ zs) ys h x (inr m) n = distinct_apart zs ys h.1 x m n

  pub distinct_take : (n : ℕ) (xs : List A) → Distinct xs → Distinct (take n xs)
  distinct_take zero xs h = tt
  distinct_take (suc n) [] h = tt
  distinct_take (suc n) (z ∷ zs) h = (λ m. h.0 (in_whole n zs z m), distinct_take n zs h.1)

  pub distinct_filter : (p : A → Bool) (xs : List A) → Distinct xs → Distinct (filter p xs)
  distinct_filter p [] h = tt
  distinct_filter p (z ∷ zs) h = by (distinct_filter p zs h.1) (p z)
    where
      by : Distinct (filter p zs) → (b : Bool) → Distinct (cond b (z ∷ filter p zs) (filter p zs))
      by later true = (λ m. h.0 (in_filter p zs z m).0, later)
      by later false = later

  pub each_filter : (P : A → Type 0) (p : A → Bool) (xs : List A) → Each P xs → Each P (filter p xs)
  each_filter P p [] h = tt
  each_filter P p (z ∷ zs) h = by (each_filter P p zs h.1) (p z)
    where
      by : Each P (filter p zs) → (b : Bool) → Each P (cond b (z ∷ filter p zs) (filter p zs))
      by later true = (h.0, later)
      by later false = later

  pub precedes_right : (x y : A) (xs ys : List A) → Precedes x y ys → Precedes x y (xs ++ ys)
  precedes_right x y [] ys h = h
  precedes_right x y (z ∷ zs) ys h = inr (precedes_right x y zs ys h)

  -- what passes a test keeps its order
  pub filter_precedes : (p : A → Bool) (xs : List A) (x y : A) → p x ≡ true → p y ≡ true → Precedes x y xs → Precedes x y (filter p xs)
  filter_precedes p [] x y px py h = absurd h
  filter_precedes p (z ∷ zs) x y px py (inl first) = by (p z) refl
    where
      by : (b : Bool) → p z ≡ b → Precedes x y (cond b (z ∷ filter p zs) (filter p zs))
      by true e = inl (first.0, filter_in p zs y first.1 py)
      by false e = let wrong : true ≡ false = sym px ∙ ap p (sym first.0) ∙ e in cc
  filter_precedes p (z ∷ zs) x y px py (inr later) = by (filter_precedes p zs x y px py later) (p z)
    where
      by : Precedes x y (filter p zs) → (b : Bool) → Precedes x y (cond b (z ∷ filter p zs) (filter p zs))
      by h true = inr h
      by h false = h

  -- where no member stands twice, who comes before one of the front is in front of it there
  pub front_precedes : (n : ℕ) (xs : List A) (x y : A) → Distinct xs → In y (take n xs) → Precedes x y xs → Precedes x y (take n xs)
  front_precedes zero xs x y d i h = absurd i
  front_precedes (suc n) [] x y d i h = absurd h
  front_precedes (suc n) (z ∷ zs) x y d (inl own) (inl first) = absurd (d.0 (subst (λ (w : A). In w zs) (sym own) first.1))
  front_precedes (suc n) (z ∷ zs) x y d (inl own) (inr later) = absurd (d.0 (subst (λ (w : A). In w zs) (sym own) (precedes_second x y zs later)))
  front_precedes (suc n) (z ∷ zs) x y d (inr i) (inl first) = inl (first.0, i)
  front_precedes (suc n) (z ∷ zs) x y d (inr i) (inr later) = inr (front_precedes n zs x y d.1 i later)

  -- a list that has these members from a place on
  piece_tail : (x : A) (xs : List A) (y : A) (ys : List A) → IsPiece (x ∷ xs) 0 (y ∷ ys) → IsPiece xs 0 ys
  piece_tail x xs y ys h k z e = let is : 0 + suc k ≡ suc (0 + k) = omega arith in subst (λ (n : ℕ). slice_get (x ∷ xs) n ≡ Some z) is (h (suc k) z e)

  piece_front : (xs ys : List A) → IsPiece xs 0 ys → take (length ys) xs ≡ ys
  piece_front xs [] h = refl
  piece_front [] (y ∷ ys) h = let wrong : None ≡ Some y = h 0 y refl in cc
  piece_front (x ∷ xs) (y ∷ ys) h =
      let first : x ≡ y = let e : Some x ≡ Some y = h 0 y refl in cc in
      ap (λ (zs : List A). x ∷ zs) (piece_front xs ys (piece_tail x xs y ys h)) ∙ ap (λ (z : A). z ∷ ys) first

  piece_later : (from : ℕ) (x : A) (xs ys : List A) → IsPiece (x ∷ xs) (suc from) ys → IsPiece xs from ys
  piece_later from x xs ys h k z e = let is : suc from + k ≡ suc (from + k) = omega arith in subst (λ (n : ℕ). slice_get (x ∷ xs) n ≡ Some z) is (h k z e)

  pub piece_take : (from : ℕ) (xs ys : List A) → from ≤ length xs → IsPiece xs from ys → take (from + length ys) xs ≡ take from xs ++ ys
  piece_take zero xs ys le h = let is : 0 + length ys ≡ length ys = omega arith in ap (λ (n : ℕ). take n xs) is ∙ piece_front xs ys h
  piece_take (suc from) [] ys le h = absurd (omega arith)
  piece_take (suc from) (x ∷ xs) ys le h =
      let is : suc from + length ys ≡ suc (from + length ys) = omega arith in
      ap (λ (n : ℕ). take n (x ∷ xs)) is ∙ ap (λ (zs : List A). x ∷ zs) (piece_take from xs ys (omega arith) (piece_later from x xs ys h))

  pub piece_within : (from : ℕ) (xs ys : List A) → from ≤ length xs → IsPiece xs from ys → from + length ys ≤ length xs
  piece_within zero xs [] le h = omega arith
  piece_within zero [] (y ∷ ys) le h = let wrong : None ≡ Some y = h 0 y refl in cc
  piece_within zero (x ∷ xs) (y ∷ ys) le h = let rest = piece_within 0 xs ys (omega arith) (piece_tail x xs y ys h) in omega arith
  piece_within (suc from) [] ys le h = absurd (omega arith)
  piece_within (suc from) (x ∷ xs) ys le h = let rest = piece_within from xs ys (omega arith) (piece_later from x xs ys h) in omega arith

-- ---- identities that others have
pub has_in : (ids : List Identity) (id : Identity) → has_id ids id ≡ true → In id ids
has_in [] id h = let wrong : false ≡ true = h in cc
has_in (one ∷ ids) id h = elim (or_cases (same_id one id) (has_id ids id) h) [ inl own ↦ inl (same_is one id own) | inr later ↦ inr (has_in ids id later) ]

pub in_has : (ids : List Identity) (id : Identity) → In id ids → has_id ids id ≡ true
in_has [] id i = absurd i
in_has (one ∷ ids) id (inl e) = subst (λ (x : Identity). (same_id one x || has_id ids x) ≡ true) e (ap (λ (b : Bool). b || has_id ids one) (is_same one))
in_has (one ∷ ids) id (inr i) = or_right (same_id one id) (has_id ids id) (in_has ids id i)

abbrev pub lacks : List Identity → Identity → Bool
lacks ids id = not (has_id ids id)

pub ids_filter : (ids : List Identity) (items : List Item) → ids_of (filter (λ (item : Item). not (has_id ids item.id)) items) ≡ filter (lacks ids) (ids_of items)
ids_filter ids [] = refl
ids_filter ids (item ∷ items) = by (ids_filter ids items) (not (has_id ids item.id))
  where
    by : ids_of (filter (λ (item : Item). not (has_id ids item.id)) items) ≡ filter (lacks ids) (ids_of items)
        → (b : Bool) → ids_of (cond b (item ∷ filter (λ (item : Item). not (has_id ids item.id)) items) (filter (λ (item : Item). not (has_id ids item.id)) items)) ≡ cond b (item.id ∷ filter (lacks ids) (ids_of items)) (filter (lacks ids) (ids_of items))
    by same true = ap (λ (rest : List Identity). item.id ∷ rest) same
    by same false = same

-- ---- the list then
module _ (front rest ids : List Identity) where
  abbrev pub before : List Identity
  before = front ++ rest

  abbrev pub after : List Identity
  after = (front ++ ids) ++ filter (lacks ids) rest

  pub stays_in : (x : Identity) → In x before → In x after
  stays_in x i = elim (in_cases x front rest i) [
    | inl first ↦ in_left x (front ++ ids) (filter (lacks ids) rest) (in_left x front ids first)
    | inr later ↦ elim (cases_Bool (has_id ids x)) [
      | inl has ↦ in_left x (front ++ ids) (filter (lacks ids) rest) (in_right x front ids (has_in ids x has))
      | inr none ↦ in_right x (front ++ ids) (filter (lacks ids) rest) (filter_in (lacks ids) rest x later (ap not none))
    ]
  ]

  pub new_in : (x : Identity) → In x ids → In x after
  new_in x i = in_left x (front ++ ids) (filter (lacks ids) rest) (in_right x front ids i)

  pub was_in : (x : Identity) → In x after → In x before ⊎ In x ids
  was_in x i = elim (in_cases x (front ++ ids) (filter (lacks ids) rest) i) [
    | inl first ↦ elim (in_cases x front ids first) [ inl old ↦ inl (in_left x front rest old) | inr new ↦ inr new ]
    | inr later ↦ inl (in_right x front rest (in_filter (lacks ids) rest x later).0)
  ]

  pub after_distinct : Distinct before → Distinct (front ++ ids) → Distinct after
  after_distinct was bound = distinct_append (front ++ ids) (filter (lacks ids) rest) bound (distinct_filter (lacks ids) rest (distinct_right front rest was))
      (λ x i j.
      let later = in_filter (lacks ids) rest x j in
      elim (in_cases x front ids i) [
        | inl old ↦ distinct_apart front rest was x old later.0
        | inr new ↦ let wrong : true ≡ false = sym (in_has ids x new) ∙ not-true (has_id ids x) later.1 in cc
      ])

  -- who comes before one of the rest does so then, or went to the front
  pub after_precedes : Distinct before → (x y : Identity) → In y (filter (lacks ids) rest) → Precedes x y before → Precedes x y after
  after_precedes was x y i p = by (precedes_cases x y front rest p)
    where
      by : Precedes x y front ⊎ ((In x front × In y rest) ⊎ Precedes x y rest) → Precedes x y after
      by (inl both) = absurd (distinct_apart front rest was y (precedes_second x y front both) (in_filter (lacks ids) rest y i).0)
      by (inr (inl across)) = precedes_across x y (front ++ ids) (filter (lacks ids) rest) (in_left x front ids across.0) i
      by (inr (inr later)) = elim (cases_Bool (has_id ids x)) [
        | inl has ↦ precedes_across x y (front ++ ids) (filter (lacks ids) rest) (in_right x front ids (has_in ids x has)) i
        | inr none ↦ precedes_right x y (front ++ ids) (filter (lacks ids) rest) (filter_precedes (lacks ids) rest x y (ap not none) (in_filter (lacks ids) rest y i).1 later)
      ]
