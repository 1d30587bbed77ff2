-- Pieces of what was read ahead.
use Rattle.std.proofs.Common.{◌≡◌, ℕ, zero, suc, ◌+◌, ◌-◌, ◌<◌, ◌≤◌, Bool, false, List, [], ◌∷◌, ◌++◌, length, take, drop, get_or, None, Some, refl, sym, ap, subst, ◌∙◌, arith, drop-cons, inl, inr}
use Rattle.std.specs.Prelude.{position, not, cond}
use Rattle.std.specs.List.{list_any}
use Rattle.std.proofs.lemmas.Bool.{cases_lt, eqb-true, lt-ltb, not-true, or_from}
use Rattle.std.proofs.lemmas.List.{drop-drop, drop-take, take-append-drop, take_all}
use Rattle.std.proofs.lemmas.List.Folds.{list_any-append}
use Rattle.std.proofs.lemmas.List.Quantifiers.{position-Some}
use Rattle.std.proofs.lemmas.List.Sums.{prefix_len_passes}
use Rattle.std.specs.List.{position_or_len}
use Rattle.script_streams.specs.Lines.{IsPlain, is_newline}

-- what is left of a piece of the buffer
pub piece_rest : (buffer : List ℕ) (from to count : ℕ) → from + count ≤ to →
    take (to - (from + count)) (drop (from + count) buffer) ≡ drop count (take (to - from) (drop from buffer))
piece_rest buffer from to count within =
    let size : to - from ≡ count + (to - (from + count)) = omega arith in
    rw size (sym (drop-take count (to - (from + count)) (drop from buffer) ∙ ap (take (to - (from + count))) (drop-drop count from buffer)))

-- ---- bytes without a newline

pub plain_append : (first second : List ℕ) → IsPlain first → IsPlain second → IsPlain (first ++ second)
plain_append first second one two = list_any-append is_newline first second ∙ or_from (list_any is_newline first) (list_any is_newline second) one two

plain_front : (xs : List ℕ) (i : ℕ) → ((k : ℕ) → k < i → is_newline (get_or xs k 0) ≡ false) → IsPlain (take i xs)
plain_front xs zero each = refl
plain_front [] (suc i) each = refl
plain_front (x ∷ xs) (suc i) each = or_from (is_newline x) (list_any is_newline (take i xs)) (each 0 (omega arith)) (plain_front xs i (λ k below. each (suc k) (omega arith)))

-- the bytes before the first newline, it, and those behind it
pub record AtNewline (bytes : List ℕ) (i : ℕ) : Type 0 where
  pub within : i < length bytes
  pub plain : IsPlain (take i bytes)
  pub parts : bytes ≡ take i bytes ++ 10 ∷ drop (i + 1) bytes

pub newline_at : (bytes : List ℕ) (i : ℕ) → position is_newline bytes ≡ Some i → AtNewline bytes i
newline_at bytes i found =
    let at = position-Some is_newline bytes i 0 found in
    let is : get_or bytes i 0 ≡ 10 = eqb-true (get_or bytes i 0) 10 at.1 in
    let next : suc i ≡ i + 1 = omega arith in
    let rest : drop i bytes ≡ 10 ∷ drop (i + 1) bytes = drop-cons bytes i 0 at.0 ∙ ap (λ (b : ℕ). b ∷ drop (suc i) bytes) is ∙ ap (λ (n : ℕ). 10 ∷ drop n bytes) next in
    record {
      within = at.0;
      plain = plain_front bytes i at.2;
      parts = sym (take-append-drop i bytes) ∙ ap (λ (xs : List ℕ). take i bytes ++ xs) rest;
    }

pub no_newline : (bytes : List ℕ) → position is_newline bytes ≡ None → IsPlain bytes
no_newline bytes none = elim (cases_lt (position_or_len is_newline bytes) (length bytes)) [
  | inl some ↦
      let found : position is_newline bytes ≡ Some (position_or_len is_newline bytes) = ap (λ (b : Bool). cond b (Some (position_or_len is_newline bytes)) None) (lt-ltb (position_or_len is_newline bytes) (length bytes) some) in
      let wrong : None ≡ Some (position_or_len is_newline bytes) = sym none ∙ found in
      cc
  | inr past ↦
      let each : (k : ℕ) → k < length bytes → is_newline (get_or bytes k 0) ≡ false = λ k below. not-true (is_newline (get_or bytes k 0)) (prefix_len_passes (λ (x : ℕ). not (is_newline x)) bytes k 0 (omega arith)) in
      subst IsPlain (take_all (length bytes) bytes (omega arith)) (plain_front bytes (length bytes) each)
]
