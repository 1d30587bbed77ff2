-- The bits of the wider marks.
use Rattle.std.proofs.Common.{◌≡◌, ℕ, zero, suc, ◌+◌, ◌-◌, ◌*◌, ◌/◌, ◌%◌, ◌^◌, ◌<◌, ◌≤◌, List, [], ◌∷◌, ◌++◌, Bool, true, false, ◌&&◌, ◌||◌, eqb, ltb, leb, length, get_or, min, w64, Fits, bit_and, inl, inr, sym, ap, ◌∙◌, refl, arith}
use Rattle.std.specs.Int.{bit_at}
use Rattle.std.proofs.lemmas.Bool.{cases_lt, cases_Bool, and_right, or_right, eqb-true, eqb-false, ne_eqb, lt-ltb, le-ltb, le-leb, lt-leb}
use Rattle.std.proofs.lemmas.List.{get_or_append_left, get_or-append_right, length_push}
use Rattle.std.proofs.lemmas.Nat.{one_shl}
use Rattle.std.proofs.lemmas.Nat.Bits.{bit_at-lt, bit_at_and, bit_at_ones, bit_at_ones_above}
use Rattle.rec_id.specs.declared.marks.Marks.{Marks}
use Rattle.rec_id.specs.Marks.{span_of, bit_of, is_marked, is_seen, stands_marked}
use Rattle.seen_window.specs.Image.{widened}
use Rattle.rec_id.proofs.MarkBits.{bit_in, bit_of-low}
use Rattle.seen_window.proofs.OneMark.{marks_are}

-- ---- the words of ones
module _ (i k top : ℕ) (low : k < 64) where
  pub all_ones : 64 ≤ top - 64 * i → bit_of ((2 ^ 64 - 1) ∷ []) k ≡ ltb (64 * i + k) top
  all_ones many =
      bit_of-low (2 ^ 64 - 1) [] k low ∙ ap (λ (n : ℕ). eqb n 1) (bit_at_ones 64 k low) ∙ sym (lt-ltb (64 * i + k) top (omega arith))

  pub some_ones : top - 64 * i < 64 → bit_of ((1 * 2 ^ (top - 64 * i) % 2 ^ 64 - 1) ∷ []) k ≡ ltb (64 * i + k) top
  some_ones few =
      let count = top - 64 * i in
      bit_of-low (1 * 2 ^ count % 2 ^ 64 - 1) [] k low ∙ ap (λ (n : ℕ). bit_in (n - 1) k) (one_shl count 64 few) ∙ elim (cases_lt k count) [
        | inl below ↦ ap (λ (n : ℕ). eqb n 1) (bit_at_ones count k below) ∙ sym (lt-ltb (64 * i + k) top (omega arith))
        | inr past ↦ ap (λ (n : ℕ). eqb n 1) (bit_at_ones_above count k past) ∙ sym (le-ltb (64 * i + k) top (omega arith))
      ]

least : (a b : ℕ) → a < 2 → b < 2 → eqb (min a b) 1 ≡ (eqb a 1 && eqb b 1)
least a b small_a small_b = elim (cases_Bool (eqb a 1)) [
  | inl one ↦
      let is : a ≡ 1 = eqb-true a 1 one in
      let same : min a b ≡ b = omega arith in
      ap (λ (n : ℕ). eqb n 1) same ∙ sym (ap (λ (t : Bool). t && eqb b 1) one)
  | inr none ↦
      ne_eqb (min a b) 1 (λ met. eqb-false a 1 none (omega arith)) ∙ sym (ap (λ (t : Bool). t && eqb b 1) none)
]

module _ (marks : Marks) (narrow : length marks.bits ≡ 4) (i k : ℕ) (low : k < 64) where
  abbrev place : ℕ
  place = 64 * i + k

  -- a number that has a bit is seen where its bit is set, and one below those is seen
  seen_near : place < marks.top → i < 4 → is_seen marks (marks.top - place) ≡ bit_of marks.bits place
  seen_near below near =
      let here : marks.top - (marks.top - place) ≡ place = omega arith in
      ap (λ (b : Bool). (b && bit_of marks.bits (marks.top - (marks.top - place))) || leb (marks.top - place + span_of marks) marks.top) (le-leb (marks.top - place) marks.top (omega arith))
      ∙ ap (λ (b : Bool). bit_of marks.bits (marks.top - (marks.top - place)) || b) (lt-leb (marks.top - place + span_of marks) marks.top (omega arith))
      ∙ ap (λ (n : ℕ). bit_of marks.bits n || false) here ∙ or_none (bit_of marks.bits place)
    where
      or_none : (b : Bool) → (b || false) ≡ b
      or_none true = refl
      or_none false = refl

  seen_far : place < marks.top → 4 ≤ i → is_seen marks (marks.top - place) ≡ true
  seen_far below far =
      or_right (is_marked marks (marks.top - place)) (leb (marks.top - place + span_of marks) marks.top)
      (le-leb (marks.top - place + span_of marks) marks.top (omega arith))

  module _ (ones : ℕ) (numbered : bit_of (ones ∷ []) k ≡ ltb place marks.top) where
    abbrev told : Bool
    told = stands_marked marks.top (is_seen marks) place

    pub far_word : 4 ≤ i → bit_of (ones ∷ []) k ≡ told
    far_word far = numbered ∙ elim (cases_lt place marks.top) [
      | inl below ↦
          lt-ltb place marks.top below ∙ sym (seen_far below far)
          ∙ sym (ap (λ (b : Bool). b && is_seen marks (marks.top - place)) (lt-ltb place marks.top below))
      | inr past ↦
          le-ltb place marks.top past
          ∙ sym (ap (λ (b : Bool). b && is_seen marks (marks.top - place)) (le-ltb place marks.top past))
    ]

    pub near_word : i < 4 → bit_of (bit_and (get_or marks.bits i 0) ones ∷ []) k ≡ told
    near_word near =
        let word = get_or marks.bits i 0 in
        let row : (64 * i + k) / 64 ≡ i = omega arith in
        let column : (64 * i + k) % 64 ≡ k = omega arith in
        let own : bit_of marks.bits place ≡ bit_in word k =
        ap (λ (q : ℕ). bit_in (get_or marks.bits q 0) (place % 64)) row ∙ ap (bit_in word) column in
        let both : bit_of (bit_and word ones ∷ []) k ≡ (bit_of marks.bits place && ltb place marks.top) =
        bit_of-low (bit_and word ones) [] k low ∙ ap (λ (n : ℕ). eqb n 1) (bit_at_and word ones k)
        ∙ least (bit_at word k) (bit_at ones k) (bit_at-lt word k) (bit_at-lt ones k)
        ∙ ap (λ (b : Bool). b && bit_in ones k) (sym own)
        ∙ ap (λ (b : Bool). bit_of marks.bits place && b) (sym (bit_of-low ones [] k low) ∙ numbered) in
        both ∙ elim (cases_lt place marks.top) [
          | inl below ↦
              ap (λ (b : Bool). bit_of marks.bits place && b) (lt-ltb place marks.top below)
              ∙ and_all (bit_of marks.bits place) ∙ sym (seen_near below near)
              ∙ sym (ap (λ (b : Bool). b && is_seen marks (marks.top - place)) (lt-ltb place marks.top below))
          | inr past ↦
              and_right (bit_of marks.bits place) (ltb place marks.top) (le-ltb place marks.top past)
              ∙ sym (ap (λ (b : Bool). b && is_seen marks (marks.top - place)) (le-ltb place marks.top past))
        ]
      where
        and_all : (b : Bool) → (b && true) ≡ b
        and_all true = refl
        and_all false = refl

-- so many words were made, whose bits are as told
pub record Made (told : ℕ → Bool) (count : ℕ) (words : List ℕ) : Type 0 where
  pub long : length words ≡ count
  pub fits : (i : ℕ) → Fits w64 (get_or words i 0)
  pub each : (k : ℕ) → k < 64 * count → bit_of words k ≡ told k

pub made_none : (told : ℕ → Bool) → Made told 0 []
made_none told = record { long = refl; fits = λ i. record { fits = omega arith }; each = λ k below. absurd (omega arith) }

pub made_more : (told : ℕ → Bool) (count : ℕ) (words : List ℕ) (word : ℕ) → Made told count words → word < 2 ^ 64
    → ((k : ℕ) → k < 64 → bit_of (word ∷ []) k ≡ told (64 * count + k)) → Made told (count + 1) (words ++ word ∷ [])
made_more told count words word made small bits = record {
  long = omega (arith, length_push words word, made.long);
  fits = λ i. elim (cases_lt i count) [
    | inl early ↦ record { fits = omega (arith, get_or_append_left words (word ∷ []) 0 i (omega (arith, made.long)), (made.fits i).fits) }
    | inr late ↦ record { fits = omega (arith, get_or-append_right words (word ∷ []) count i 0 made.long late, one_word (i - count)) }
  ];
  each = λ k below. elim (cases_lt k (64 * count)) [
    | inl early ↦
        ap (λ (n : ℕ). bit_in n (k % 64)) (get_or_append_left words (word ∷ []) 0 (k / 64) (omega (arith, made.long)))
        ∙ made.each k early
    | inr late ↦
        let j = k - 64 * count in
        let row : k / 64 - count ≡ j / 64 = omega arith in
        let column : k % 64 ≡ j % 64 = omega arith in
        let split : 64 * count + j ≡ k = omega arith in
        ap (λ (n : ℕ). bit_in n (k % 64)) (get_or-append_right words (word ∷ []) count (k / 64) 0 made.long (omega arith))
        ∙ ap (λ (q : ℕ). bit_in (get_or (word ∷ []) q 0) (k % 64)) row
        ∙ ap (bit_in (get_or (word ∷ []) (j / 64) 0)) column
        ∙ bits j (omega arith) ∙ ap told split
  ];
}
  where
    one_word : (i : ℕ) → get_or (word ∷ []) i 0 < 2 ^ 64
    one_word zero = small
    one_word (suc i) = omega arith

pub widened_is : (marks : Marks) (words : List ℕ) → Made (stands_marked marks.top (is_seen marks)) 64 words → record { top = marks.top; bits = words } ≡ widened marks
unfolding widened
widened_is marks words made =
    marks_are marks.top words (is_seen marks) made.fits (λ i inside. made.each i (omega (arith, made.long))) 64 made.long
