-- What the tests of a window's form say.
use Rattle.std.proofs.Common.{◌≡◌, ℕ, zero, suc, ◌+◌, ◌<◌, ◌≤◌, ◌⊎◌, List, [], ◌∷◌, Bool, true, false, not, ◌||◌, eqb, ltb, leb, length, get_or, inl, inr, ap, ◌∙◌, refl, arith}
use Rattle.std.specs.List.{list_all, range_with_len}
use Rattle.std.proofs.lemmas.Bool.{cases_lt, and_parts, and_from, or_cases, or_left, or_right, not-true, not_from_false, eqb-true, eq-eqb, ltb-true, lt-ltb, leb-true, le-leb}
use Rattle.rec_id.specs.declared.marks.Marks.{Marks}
use Rattle.rec_id.specs.Marks.{span_of, bit_of, no_marks}
use Rattle.seen_window.specs.Image.{marks_of, words_of, is_formed, is_image}
use Rattle.rec_id.proofs.MarkBits.{bit_of-past}

pub all_at : {X : Type 0} (p : X → Bool) (xs : List X) (i : ℕ) (d : X) → list_all p xs ≡ true → i < length xs → p (get_or xs i d) ≡ true
all_at p [] i d all inside = absurd (omega arith)
all_at p (x ∷ xs) zero d all inside = (and_parts (p x) (list_all p xs) all).0
all_at p (x ∷ xs) (suc i) d all inside = all_at p xs i d (and_parts (p x) (list_all p xs) all).1 (omega arith)

pub all_from : {X : Type 0} (p : X → Bool) (xs : List X) (d : X) → ((i : ℕ) → i < length xs → p (get_or xs i d) ≡ true) → list_all p xs ≡ true
all_from p [] d each = refl
all_from p (x ∷ xs) d each = and_from (p x) (list_all p xs) (each 0 (omega arith)) (all_from p xs d (λ i inside. each (suc i) (omega arith)))

range_at : (p : ℕ → Bool) (count low : ℕ) → list_all p (range_with_len low count) ≡ true → (i : ℕ) → i < count → p (low + i) ≡ true
range_at p zero low all i inside = absurd (omega arith)
range_at p (suc count) low all zero inside =
    ap p (omega arith) ∙ (and_parts (p low) (list_all p (range_with_len (low + 1) count)) all).0
range_at p (suc count) low all (suc i) inside =
    ap p (omega arith) ∙ range_at p count (low + 1) (and_parts (p low) (list_all p (range_with_len (low + 1) count)) all).1 i (omega arith)

range_from : (p : ℕ → Bool) (count low : ℕ) → ((i : ℕ) → i < count → p (low + i) ≡ true) → list_all p (range_with_len low count) ≡ true
range_from p zero low each = refl
range_from p (suc count) low each =
    and_from (p low) (list_all p (range_with_len (low + 1) count)) (ap p (omega arith) ∙ each 0 (omega arith))
    (range_from p count (low + 1) (λ i inside. ap p (omega arith) ∙ each (suc i) (omega arith)))

-- so many words, no bit for a number below 1, and the bit of the greatest marked number, if there is one
pub record IsFormed (words : ℕ) (marks : Marks) : Type 0 where
  pub long : length marks.bits ≡ words
  pub low : (i : ℕ) → marks.top ≤ i → bit_of marks.bits i ≡ false
  pub high : 1 ≤ marks.top → bit_of marks.bits 0 ≡ true

abbrev no_low : Marks → ℕ → Bool
no_low marks i = ltb i marks.top || not (bit_of marks.bits i)

pub formed_facts : (words : ℕ) (marks : Marks) → is_formed words marks ≡ true → IsFormed words marks
unfolding is_formed
formed_facts words marks formed =
    let parts = and_parts (eqb (length marks.bits) words) _ formed in
    let rest = and_parts (list_all (no_low marks) (range_with_len 0 (span_of marks))) (eqb marks.top 0 || bit_of marks.bits 0) parts.1 in
    record {
      long = eqb-true (length marks.bits) words parts.0;
      low = λ i past. elim (cases_lt i (span_of marks)) [
        | inl inside ↦ elim (or_cases (ltb i marks.top) (not (bit_of marks.bits i)) (ap (no_low marks) (omega arith) ∙ range_at (no_low marks) (span_of marks) 0 rest.0 i inside)) [
          | inl below ↦ absurd (omega (arith, ltb-true i marks.top below))
          | inr none ↦ not-true (bit_of marks.bits i) none
        ]
        | inr outside ↦ bit_of-past marks.bits i outside
      ];
      high = λ some. elim (or_cases (eqb marks.top 0) (bit_of marks.bits 0) rest.1) [
        | inl none ↦ absurd (omega (arith, eqb-true marks.top 0 none))
        | inr set ↦ set
      ];
    }

pub formed_test : (words : ℕ) (marks : Marks) → IsFormed words marks → is_formed words marks ≡ true
unfolding is_formed
formed_test words marks facts =
    and_from (eqb (length marks.bits) words) _ (eq-eqb (length marks.bits) words facts.long)
    (and_from (list_all (no_low marks) (range_with_len 0 (span_of marks))) (eqb marks.top 0 || bit_of marks.bits 0)
    (range_from (no_low marks) (span_of marks) 0 (λ i inside. ap (no_low marks) (omega arith) ∙ elim (cases_lt i marks.top) [
      | inl below ↦ or_left (ltb i marks.top) (not (bit_of marks.bits i)) (lt-ltb i marks.top below)
      | inr past ↦ or_right (ltb i marks.top) (not (bit_of marks.bits i)) (not_from_false (bit_of marks.bits i) (facts.low i past))
    ]))
    (elim (cases_lt 0 marks.top) [
      | inl some ↦ or_right (eqb marks.top 0) (bit_of marks.bits 0) (facts.high (omega arith))
      | inr none ↦ or_left (eqb marks.top 0) (bit_of marks.bits 0) (eq-eqb marks.top 0 (omega arith))
    ]))

-- the marks of 1 to 256 clients, all of 4 words or all of 64, in the form of a window
pub record IsImage (image : List Marks) : Type 0 where
  pub known : (words_of image ≡ 4) ⊎ (words_of image ≡ 64)
  pub some : 1 ≤ length image
  pub few : length image ≤ 256
  pub each : (client : ℕ) → client < length image → IsFormed (words_of image) (marks_of image client)

pub image_facts : (image : List Marks) → is_image image ≡ true → IsImage image
unfolding is_image
image_facts image is =
    let size = and_parts (eqb (words_of image) 4 || eqb (words_of image) 64) _ is in
    let some = and_parts (leb 1 (length image)) _ size.1 in
    let few = and_parts (leb (length image) 256) (list_all (is_formed (words_of image)) image) some.1 in
    record {
      known = elim (or_cases (eqb (words_of image) 4) (eqb (words_of image) 64) size.0) [
        | inl narrow ↦ inl (eqb-true (words_of image) 4 narrow)
        | inr wide ↦ inr (eqb-true (words_of image) 64 wide)
      ];
      some = leb-true 1 (length image) some.0;
      few = leb-true (length image) 256 few.0;
      each = λ client inside.
          formed_facts (words_of image) (marks_of image client) (all_at (is_formed (words_of image)) image client (no_marks 0) few.1 inside);
    }

pub image_test : (image : List Marks) → IsImage image → is_image image ≡ true
unfolding is_image
image_test image facts =
    and_from (eqb (words_of image) 4 || eqb (words_of image) 64) _
    (elim facts.known [
      | inl narrow ↦ or_left (eqb (words_of image) 4) (eqb (words_of image) 64) (eq-eqb (words_of image) 4 narrow)
      | inr wide ↦ or_right (eqb (words_of image) 4) (eqb (words_of image) 64) (eq-eqb (words_of image) 64 wide)
    ])
    (and_from (leb 1 (length image)) _ (le-leb 1 (length image) facts.some)
    (and_from (leb (length image) 256) (list_all (is_formed (words_of image)) image) (le-leb (length image) 256 facts.few)
    (all_from (is_formed (words_of image)) image (no_marks 0) (λ client inside.
    formed_test (words_of image) (marks_of image client) (facts.each client inside)))))
