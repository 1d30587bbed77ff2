-- What marking one number does to a client's marks.
use Rattle.std.proofs.Common.{◌≡◌, ℕ, zero, suc, ◌-◌, ◌*◌, ◌/◌, ◌%◌, ◌^◌, ◌<◌, ◌≤◌, List, Bool, false, ◌&&◌, ◌||◌, eqb, ltb, leb, length, get_or, replicate, max, w64, Fits, inl, inr, sym, ap, ◌∙◌, refl, arith}
use Rattle.std.proofs.lemmas.Bool.{cases_lt, cases_eq, and_right, or_from, eq-eqb, ne_eqb, lt-ltb, le-ltb, le-leb, lt-leb}
use Rattle.std.proofs.lemmas.List.{length-replicate}
use Rattle.std.proofs.lemmas.Nat.Bits.{bit_at-zero}
use Rattle.rec_id.specs.declared.marks.Marks.{Marks}
use Rattle.rec_id.specs.Marks.{bit_of, is_marked, words_where, stands_marked, marks_where, mark, no_marks}
use Rattle.seen_window.proofs.BitLemmas.{words_are}
use Rattle.seen_window.proofs.Formed.{IsFormed}

eqb_same : (a b c d : ℕ) → (a ≡ b → c ≡ d) → (c ≡ d → a ≡ b) → eqb a b ≡ eqb c d
eqb_same a b c d to back = elim (cases_eq a b) [
  | inl same ↦ eq-eqb a b same ∙ sym (eq-eqb c d (to same))
  | inr other ↦ ne_eqb a b other ∙ sym (ne_eqb c d (λ same. other (back same)))
]

-- the marks with these bits are the marks whose numbers are as told
pub marks_are : (top : ℕ) (bits : List ℕ) (told : ℕ → Bool) → ((i : ℕ) → Fits w64 (get_or bits i 0)) → ((i : ℕ) → i < 64 * length bits → bit_of bits i ≡ stands_marked top told i)
    → (words : ℕ) → length bits ≡ words → record { top = top; bits = bits } ≡ marks_where words top told
marks_are top bits told fits each words long =
    ap (λ (list : List ℕ). let made : Marks = record { top = top; bits = list } in made)
    (words_are bits 0 (stands_marked top told) fits (λ i inside. each i inside ∙ ap (stands_marked top told) (omega arith))
    ∙ ap (λ (n : ℕ). words_where n 0 (stands_marked top told)) long)

module _ (marks : Marks) (number : ℕ) (some : 1 ≤ number) (formed : IsFormed (length marks.bits) marks) where
  abbrev top : ℕ
  top = max marks.top number

  abbrev by : ℕ
  by = top - marks.top

  abbrev told : ℕ → Bool
  told other = eqb other number || is_marked marks other

  abbrev came : ℕ → Bool
  came j = leb by j && bit_of marks.bits (j - by)

  same_number : (j : ℕ) → j < top → eqb j (top - number) ≡ eqb (top - j) number
  same_number j below = eqb_same j (top - number) (top - j) number (λ here. omega arith) (λ here. omega arith)

  same_mark : (j : ℕ) → j < top → came j ≡ is_marked marks (top - j)
  same_mark j below = elim (cases_lt j by) [
    | inl low ↦
        ap (λ (b : Bool). b && bit_of marks.bits (j - by)) (lt-leb by j low)
        ∙ sym (ap (λ (b : Bool). b && bit_of marks.bits (marks.top - (top - j))) (lt-leb (top - j) marks.top (omega arith)))
    | inr high ↦
        ap (λ (b : Bool). b && bit_of marks.bits (j - by)) (le-leb by j high)
        ∙ ap (bit_of marks.bits) (omega arith)
        ∙ sym (ap (λ (b : Bool). b && bit_of marks.bits (marks.top - (top - j))) (le-leb (top - j) marks.top (omega arith)))
  ]

  each_bit : (j : ℕ) → (eqb j (top - number) || came j) ≡ stands_marked top told j
  each_bit j = elim (cases_lt j top) [
    | inl below ↦
        ap (λ (b : Bool). b || came j) (same_number j below) ∙ ap (λ (b : Bool). eqb (top - j) number || b) (same_mark j below)
        ∙ sym (ap (λ (b : Bool). b && told (top - j)) (lt-ltb j top below))
    | inr past ↦
        or_from (eqb j (top - number)) (came j) (ne_eqb j (top - number) (λ here. omega arith))
        (and_right (leb by j) (bit_of marks.bits (j - by)) (formed.low (j - by) (omega arith)))
        ∙ sym (ap (λ (b : Bool). b && told (top - j)) (le-ltb j top past))
  ]

  -- moved up by as much as the greatest marked number rises, with the number's bit set
  pub mark_is : (moved bits : List ℕ) → ((i : ℕ) → Fits w64 (get_or bits i 0)) → length bits ≡ length marks.bits
      → ((j : ℕ) → j < 64 * length marks.bits → bit_of moved j ≡ came j)
      → ((j : ℕ) → j < 64 * length marks.bits → bit_of bits j ≡ (eqb j (top - number) || bit_of moved j))
      → record { top = top; bits = bits } ≡ mark marks number
  mark_is moved bits fits long moved_is set_is =
      marks_are top bits told fits (λ j inside.
      set_is j (omega arith) ∙ ap (λ (b : Bool). eqb j (top - number) || b) (moved_is j (omega arith)) ∙ each_bit j)
      (length marks.bits) long

zero_read : (words i : ℕ) → ◌≡◌ {A = ℕ} (get_or (replicate words 0) i 0) 0
zero_read zero i = refl
zero_read (suc words) zero = refl
zero_read (suc words) (suc i) = zero_read words i

pub no_marks_are : (words : ℕ) → record { top = 0; bits = replicate words 0 } ≡ no_marks words
no_marks_are words =
    marks_are 0 (replicate words 0) (λ other. false) (λ i. record { fits = omega (arith, zero_read words i) }) (λ i inside.
    ap (λ (word : ℕ). eqb (word / 2 ^ (i % 64) % 2) 1) (zero_read words (i / 64)) ∙ ap (λ (n : ℕ). eqb n 1) (bit_at-zero (i % 64))
    ∙ sym (and_right (ltb i 0) false refl)) words (length-replicate words 0)
