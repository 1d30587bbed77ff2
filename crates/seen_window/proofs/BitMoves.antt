-- A move by whole words and then within words is a move by both together.
use Rattle.std.proofs.Common.{◌≡◌, ℕ, ◌+◌, ◌-◌, ◌*◌, ◌/◌, ◌%◌, ◌<◌, List, ◌++◌, Bool, false, ◌&&◌, leb, length, take, replicate, min, inl, inr, sym, ap, ◌∙◌, arith}
use Rattle.std.proofs.lemmas.Bool.{cases_lt, le-leb, lt-leb}
use Rattle.rec_id.specs.Marks.{bit_of}
use Rattle.seen_window.proofs.BitLemmas.{bit_of-moved}

-- the test of a bit that was moved up
abbrev came : ℕ → List ℕ → ℕ → Bool
came by words j = leb by j && bit_of words (j - by)

came_not : (by : ℕ) (words : List ℕ) (j : ℕ) → j < by → came by words j ≡ false
came_not by words j low = ap (λ (b : Bool). b && bit_of words (j - by)) (lt-leb by j low)

came_from : (by : ℕ) (words : List ℕ) (j k : ℕ) → by + k ≡ j → came by words j ≡ bit_of words k
came_from by words j k split =
    ap (λ (b : Bool). b && bit_of words (j - by)) (le-leb by j (omega arith)) ∙ ap (bit_of words) (omega arith)

module _ (words : List ℕ) (by whole : ℕ) (counted : whole ≡ min (by / 64) (length words)) (j : ℕ) (inside : j < 64 * length words) where
  abbrev moved : List ℕ
  moved = replicate whole 0 ++ take (length words - whole) words

  moved_bit : (k : ℕ) → k < 64 * length words → bit_of moved k ≡ came (64 * whole) words k
  moved_bit k within = bit_of-moved words whole k (omega arith) within

  pub came_both : came (by % 64) moved j ≡ came by words j
  came_both = elim (cases_lt j (by % 64)) [
    | inl low ↦ came_not (by % 64) moved j low ∙ sym (came_not by words j (omega arith))
    | inr high ↦
        let k = j - by % 64 in
        came_from (by % 64) moved j k (omega arith) ∙ moved_bit k (omega arith) ∙ elim (cases_lt k (64 * whole)) [
          | inl early ↦ came_not (64 * whole) words k early ∙ sym (came_not by words j (omega arith))
          | inr late ↦
              came_from (64 * whole) words k (k - 64 * whole) (omega arith)
              ∙ sym (came_from by words j (k - 64 * whole) (omega arith))
        ]
  ]
