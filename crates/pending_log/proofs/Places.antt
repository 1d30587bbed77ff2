-- The first place of a word or of an identity.
use Rattle.std.proofs.Common.{◌≡◌, ℕ, ◌+◌, ◌-◌, ◌<◌, ◌≤◌, List, [], ◌∷◌, ◌++◌, Bool, false, not, cond, eqb, ltb, Some, None, length, get_or, map, inl, inr, sym, ap, ◌∙◌, refl, arith}
use Rattle.std.specs.List.{position, position_or_len}
use Rattle.std.proofs.lemmas.Bool.{cases_lt, lt-ltb}
use Rattle.std.proofs.lemmas.List.{length-append, length-map, get_or_append_left, get_or-append_right}
use Rattle.std.proofs.lemmas.List.Quantifiers.{position-Some}
use Rattle.std.proofs.lemmas.List.Sums.{fails_before_first}
use Rattle.lane_scan.proofs.First.{NoneBelow, position_found, position_none}
use Rattle.rec_id.specs.Identity.{Identity, IsIdentity, packed}
use Rattle.rec_id.specs.declared.item.Item.{Item}
use Rattle.rec_id.specs.Identity.{same_id}
use Rattle.pending_log.specs.Kept.{AllValid}
use Rattle.pending_log.proofs.Identities.{same_packed}

-- where there is no place, no word passes
fails_all : (p : ℕ → Bool) (xs : List ℕ) → None ≡ position p xs → (k : ℕ) → k < length xs → p (get_or xs k 0) ≡ false
fails_all p xs none k inside = elim (cases_lt (position_or_len p xs) (length xs)) [
  | inl found ↦
      let some : position p xs ≡ Some (position_or_len p xs) =
      ap (λ (b : Bool). cond b (Some (position_or_len p xs)) None) (lt-ltb (position_or_len p xs) (length xs) found) in
      let wrong : None ≡ Some (position_or_len p xs) = none ∙ some in
      cc
  | inr past ↦ fails_before_first p xs k 0 (omega arith)
]

module _ (p : ℕ → Bool) (xs ys : List ℕ) where
  front_fails : None ≡ position p xs → NoneBelow p (xs ++ ys) (length xs)
  front_fails none = record {
    within = omega (arith, length-append xs ys);
    fails = λ k below. ap p (get_or_append_left xs ys 0 k below) ∙ fails_all p xs none k below;
  }

  pub found_in_front : (i : ℕ) → Some i ≡ position p xs → Some i ≡ position p (xs ++ ys)
  found_in_front i found =
      let facts = position-Some p xs i 0 (sym found) in
      position_found p (xs ++ ys) i
      (record {
        within = omega (arith, length-append xs ys, facts.0);
        fails = λ k below. ap p (get_or_append_left xs ys 0 k (omega (arith, facts.0))) ∙ facts.2 k below;
      })
      (omega (arith, length-append xs ys, facts.0)) (ap p (get_or_append_left xs ys 0 i facts.0) ∙ facts.1)

  pub found_in_back : (i : ℕ) → None ≡ position p xs → Some i ≡ position p ys → Some (length xs + i) ≡ position p (xs ++ ys)
  found_in_back i none found =
      let facts = position-Some p ys i 0 (sym found) in
      let before = front_fails none in
      let right : (k : ℕ) → length xs ≤ k → get_or (xs ++ ys) k 0 ≡ get_or ys (k - length xs) 0 =
      λ k past. get_or-append_right xs ys (length xs) k 0 refl past in
      let back : length xs + i - length xs ≡ i = omega arith in
      position_found p (xs ++ ys) (length xs + i)
      (record {
        within = omega (arith, length-append xs ys, facts.0);
        fails = λ k below. elim (cases_lt k (length xs)) [
          | inl early ↦ before.fails k early
          | inr late ↦ ap p (right k late) ∙ facts.2 (k - length xs) (omega arith)
        ];
      })
      (omega (arith, length-append xs ys, facts.0))
      (ap p (right (length xs + i) (omega arith)) ∙ ap (λ (k : ℕ). p (get_or ys k 0)) back ∙ facts.1)

  pub found_nowhere : None ≡ position p xs → None ≡ position p ys → None ≡ position p (xs ++ ys)
  found_nowhere none_xs none_ys =
      let before = front_fails none_xs in
      position_none p (xs ++ ys) (length xs + length ys)
      (record {
        within = omega (arith, length-append xs ys);
        fails = λ k below. elim (cases_lt k (length xs)) [
          | inl early ↦ before.fails k early
          | inr late ↦ ap p (get_or-append_right xs ys (length xs) k 0 refl late) ∙ fails_all p ys none_ys (k - length xs) (omega arith)
        ];
      })
      (omega (arith, length-append xs ys))

-- ---- the place of an identity is that of its word
abbrev pub word_of : Item → ℕ
word_of item = packed item.id

first_word : (items : List Item) (id : Identity) → AllValid items → IsIdentity id
    → position_or_len (λ word. eqb word (packed id)) (map word_of items) ≡ position_or_len (λ item. same_id item.id id) items
first_word [] id valid valid_id = refl
first_word (x ∷ xs) id valid valid_id =
    let words = position_or_len (λ word. eqb word (packed id)) (map word_of xs) in
    let items = position_or_len (λ item. same_id item.id id) xs in
    ap (λ (b : Bool). cond (not b) (1 + words) 0) (same_packed x.id id valid.0 valid_id)
    ∙ ap (λ (n : ℕ). cond (not (same_id x.id id)) (1 + n) 0) (first_word xs id valid.1 valid_id)

pub place_of : (items : List Item) (id : Identity) → AllValid items → IsIdentity id
    → position (λ word. eqb word (packed id)) (map word_of items) ≡ position (λ item. same_id item.id id) items
place_of items id valid valid_id =
    let words = map word_of items in
    let test : ℕ → Bool = λ word. eqb word (packed id) in
    ap (λ (n : ℕ). cond (ltb (position_or_len test words) n) (Some (position_or_len test words)) None) (length-map items word_of)
    ∙ ap (λ (n : ℕ). cond (ltb n (length items)) (Some n) None) (first_word items id valid valid_id)
