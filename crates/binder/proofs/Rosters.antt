-- The answers of nodes that are numbered below a count: all answered where there are as many answers.
use Rattle.std.proofs.Common.{◌≡◌, ℕ, zero, suc, ◌+◌, ◌-◌, ◌<◌, ◌≤◌, ◌⊎◌, List, [], ◌∷◌, ◌++◌, Bool, true, false, ◌||◌, eqb, length, get_or, inl, inr, sym, ap, ◌∙◌, refl, arith}
use Rattle.std.specs.List.{IsDistinct, list_all, range_with_len}
use Rattle.std.specs.Set.{is_member}
use Rattle.std.proofs.lemmas.Bool.{cases_eq, cases_Bool, and_parts, and_from, or_cases, or_left, or_right, eqb-true, eq-eqb, ne_eqb, both_ways}
use Rattle.std.proofs.lemmas.Cmp.{nat_eq_equiv}
use Rattle.std.proofs.lemmas.List.{length_push}
use Rattle.std.proofs.lemmas.List.Folds.{list_any-append}
use Rattle.std.proofs.lemmas.List.FromFn.{length-range_with_len, get_or-range_with_len}
use Rattle.std.proofs.lemmas.Map.Keys.{IsDistinct-push, IsDistinct-from_apart}
use Rattle.std.proofs.lemmas.Map.Made.{length-le_from_is_member}
use Rattle.lazy_rules.specs.Flight.{has_all}
use Rattle.lazy_rules.specs.Rows.{has_node}
use Rattle.binder.specs.Held.{IsRoster}

member_is : (xs : List ℕ) (q : ℕ) → is_member eqb xs q ≡ has_node xs q
member_is [] q = refl
member_is (x ∷ xs) q = ap (λ (b : Bool). b || is_member eqb xs q) (nat_eq_equiv.symm q x) ∙ ap (λ (b : Bool). eqb x q || b) (member_is xs q)

-- ---- the numbers from a on
in_range : (a n k : ℕ) → a ≤ k → k < a + n → has_node (range_with_len a n) k ≡ true
in_range a zero k from below = absurd (omega arith)
in_range a (suc n) k from below = elim (cases_eq a k) [
  | inl here ↦ or_left (eqb a k) (has_node (range_with_len (a + 1) n) k) (eq-eqb a k here)
  | inr other ↦
      or_right (eqb a k) (has_node (range_with_len (a + 1) n) k) (in_range (a + 1) n k (omega arith) (omega arith))
]

of_range : (a n k : ℕ) → has_node (range_with_len a n) k ≡ true → (a ≤ k) × (k < a + n)
of_range a zero k is = let wrong : false ≡ true = is in cc
of_range a (suc n) k is = elim (or_cases (eqb a k) (has_node (range_with_len (a + 1) n) k) is) [
  | inl here ↦ let same = eqb-true a k here in (omega arith, omega arith)
  | inr later ↦ let rest = of_range (a + 1) n k later in (omega arith, omega arith)
]

push_distinct : (xs : List ℕ) (node : ℕ) → IsDistinct eqb xs → has_node xs node ≡ false → IsDistinct eqb (xs ++ node ∷ [])
push_distinct xs node distinct new =
    IsDistinct-push nat_eq_equiv xs node distinct (member_is xs node ∙ new)

all_range : (p : ℕ → Bool) (a n : ℕ) → ((k : ℕ) → a ≤ k → k < a + n → p k ≡ true) → list_all p (range_with_len a n) ≡ true
all_range p a zero each = refl
all_range p a (suc n) each =
    and_from (p a) (list_all p (range_with_len (a + 1) n)) (each a (omega arith) (omega arith))
    (all_range p (a + 1) n (λ k from below. each k (omega arith) (omega arith)))

all_at : (p : ℕ → Bool) (a n k : ℕ) → list_all p (range_with_len a n) ≡ true → a ≤ k → k < a + n → p k ≡ true
all_at p a zero k all from below = absurd (omega arith)
all_at p a (suc n) k all from below =
    let parts = and_parts (p a) (list_all p (range_with_len (a + 1) n)) all in
    elim (cases_eq a k) [
      | inl here ↦ ap p (sym here) ∙ parts.0
      | inr other ↦ all_at p (a + 1) n k parts.1 (omega arith) (omega arith)
    ]

-- answers of distinct nodes below a count are no more than that
pub few : (count : ℕ) (given : List ℕ) → IsDistinct eqb given → ((node : ℕ) → has_node given node ≡ true → node < count) → length given ≤ count
few count given once below =
    let range = range_with_len 0 count in
    let fewer = length-le_from_is_member nat_eq_equiv given range once (λ q is.
    let inside = below q (sym (member_is given q) ∙ is) in
    member_is range q ∙ in_range 0 count q (omega arith) (omega arith)) in
    omega (arith, fewer, length-range_with_len 0 count)

distinct_range : (a n : ℕ) → IsDistinct eqb (range_with_len a n)
distinct_range a n =
    IsDistinct-from_apart eqb (range_with_len a n) (λ i j d less inside.
    ne_eqb _ _ (λ one. less_apart i j d less (omega (arith, inside, length-range_with_len a n)) one))
  where
    less_apart : (i j d : ℕ) → i < j → j < n → get_or (range_with_len a n) i d ≡ get_or (range_with_len a n) j d → ⊥
    less_apart i j d less inside one =
        let first = get_or-range_with_len a n i d (omega arith) in
        let second = get_or-range_with_len a n j d inside in
        omega arith

-- where all answered, there are as many answers
many : (count : ℕ) (given : List ℕ) → has_all count given ≡ true → count ≤ length given
many count given all =
    let range = range_with_len 0 count in
    let fewer = length-le_from_is_member nat_eq_equiv range given (distinct_range 0 count) (λ q is.
    let inside = of_range 0 count q (sym (member_is range q) ∙ is) in
    member_is given q ∙ all_at (has_node given) 0 count q all inside.0 inside.1) in
    omega (arith, fewer, length-range_with_len 0 count)

module _ (count : ℕ) (given : List ℕ) (room : ℕ) (are : IsRoster count given room) where
  pub with_answer : (node : ℕ) → node < count → has_node given node ≡ false → IsRoster count (given ++ node ∷ []) room
  with_answer node inside new = record {
    once = push_distinct given node are.once new;
    below = λ other is. by_part other (or_cases (has_node given other) (has_node (node ∷ []) other) (sym (list_any-append (λ n. eqb n other) given (node ∷ [])) ∙ is));
    fits = are.fits;
  }
    where
      by_part : (other : ℕ) → (has_node given other ≡ true) ⊎ (has_node (node ∷ []) other ≡ true) → other < count
      by_part other (inl old) = are.below other old
      by_part other (inr one) = elim (or_cases (eqb node other) false one) [
        | inl same ↦ let is = eqb-true node other same in omega arith
        | inr never ↦ let wrong : false ≡ true = never in cc
      ]

  -- there is room for another answer
  pub room_for : (node : ℕ) → node < count → has_node given node ≡ false → length given < room
  room_for node inside new =
      let next = with_answer node inside new in
      omega (arith, few count (given ++ node ∷ []) next.once next.below, length_push given node, are.fits)

  -- where there are as many answers, all answered: another one would be one too many
  all_given : length given ≡ count → has_all count given ≡ true
  all_given full = all_range (has_node given) 0 count (λ node from inside. elim (cases_Bool (has_node given node)) [
    | inl there ↦ there
    | inr new ↦
        let next = with_answer node (omega arith) new in
        absurd (omega (arith, few count (given ++ node ∷ []) next.once next.below, length_push given node))
  ])

  pub all_there : eqb (length given) count ≡ has_all count given
  all_there = elim (cases_Bool (has_all count given)) [
    | inl all ↦
        eq-eqb (length given) count (omega (arith, few count given are.once are.below, many count given all)) ∙ sym all
    | inr not_all ↦ ne_eqb (length given) count (λ full. both_ways (has_all count given) not_all (all_given full)) ∙ sym not_all
  ]

none_distinct : IsDistinct eqb []
unfolding IsDistinct
none_distinct = tt

pub no_answers : (count room : ℕ) → count ≤ room → IsRoster count [] room
no_answers count room fits = record {
  once = none_distinct;
  below = λ node is. let wrong : false ≡ true = is in cc;
  fits = fits;
}

-- ---- as many answers as are awaited, with one more
one_less : (n count m : ℕ) → 1 ≤ count → m ≡ suc n → eqb n (count - 1) ≡ eqb m count
one_less n count m some is = elim (cases_eq n (count - 1)) [
  | inl same ↦ eq-eqb n (count - 1) same ∙ sym (eq-eqb m count (omega (arith, same, some, is)))
  | inr apart ↦ ne_eqb n (count - 1) apart ∙ sym (ne_eqb m count (λ same. apart (omega (arith, same, some, is))))
]

pub all_there_with : (count : ℕ) (given : List ℕ) (room : ℕ) → IsRoster count given room → (node : ℕ) → node < count → has_node given node ≡ false
    → eqb (length given) (count - 1) ≡ has_all count (given ++ node ∷ [])
all_there_with count given room are node inside new =
    let next : IsRoster count (given ++ node ∷ []) room = with_answer count given room are node inside new in
    let long : length (given ++ node ∷ []) ≡ suc (length given) = omega (arith, length_push given node) in
    one_less (length given) count (length (given ++ node ∷ [])) (omega (arith, inside)) long ∙ all_there count (given ++ node ∷ []) room next

-- no answers are all, where none are awaited
pub none_there : (count : ℕ) → eqb count 0 ≡ has_all count []
none_there count =
    let all : eqb 0 count ≡ has_all count [] = all_there count [] count (no_answers count count (omega arith)) in
    elim (cases_eq count 0) [
      | inl none ↦ eq-eqb count 0 none ∙ sym (eq-eqb 0 count (sym none)) ∙ all
      | inr some ↦ ne_eqb count 0 some ∙ sym (ne_eqb 0 count (λ same. some (sym same))) ∙ all
    ]
