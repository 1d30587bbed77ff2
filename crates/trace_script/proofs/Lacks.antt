-- Texts that don't hold some byte.
use Rattle.std.proofs.Common.{◌≡◌, ℕ, zero, suc, ◌+◌, ◌<◌, ◌≤◌, List, [], ◌∷◌, ◌++◌, Bool, true, false, not, refl, ap, ◌∙◌, arith}
use Rattle.std.specs.Prelude.{◌==◌, nat_le, nat_lt, ◌/◌, ◌%◌, decimal}
use Rattle.std.specs.List.{list_all}
use Rattle.std.specs.Fmt.{digits, digits_onto, digit_glyph}
use Rattle.std.proofs.lemmas.Bool.{and_from, and_parts, leb-true, ne_eqb}
use Rattle.std.proofs.lemmas.List.Folds.{list_all-append}
use Rattle.list_facts.proofs.Cases.{either}
use Rattle.trace_script.specs.Script.{is_visible}

abbrev pub lacks : ℕ → List ℕ → Bool
lacks byte text = list_all (λ other. not (other == byte)) text

abbrev pub Lacks : ℕ → List ℕ → Type 0
Lacks byte text = lacks byte text ≡ true

pub lacks_append : (byte : ℕ) (text more : List ℕ) → Lacks byte text → Lacks byte more → Lacks byte (text ++ more)
lacks_append byte text more first next = list_all-append (λ other. not (other == byte)) text more ∙ and_from (lacks byte text) (lacks byte more) first next

module _ (byte : ℕ) (low : byte < 48) where
  -- the text of a number has digits alone
  glyph_lacks : (d : ℕ) → not (digit_glyph false d == byte) ≡ true
  glyph_lacks d = either (λ (n : ℕ). not (n == byte) ≡ true) (nat_lt d 10) (48 + d) (87 + d) (λ e. ap (λ (b : Bool). not b) (ne_eqb (48 + d) byte (omega arith))) (λ e. ap (λ (b : Bool). not b) (ne_eqb (87 + d) byte (omega arith)))

  onto_lacks : (k n : ℕ) (after : List ℕ) → Lacks byte after → Lacks byte (digits_onto k 10 false n after)
  onto_lacks zero n after h = h
  onto_lacks (suc k) n after h =
      let next : Lacks byte (digit_glyph false (n % 10) ∷ after) = and_from (not (digit_glyph false (n % 10) == byte)) (lacks byte after) (glyph_lacks (n % 10)) h in
      either (Lacks byte) (n / 10 == 0) (digit_glyph false (n % 10) ∷ after) (digits_onto k 10 false (n / 10) (digit_glyph false (n % 10) ∷ after)) (λ e. next) (λ e. onto_lacks k (n / 10) (digit_glyph false (n % 10) ∷ after) next)

  pub decimal_lacks : (n : ℕ) → Lacks byte (decimal n)
  unfolding digits
  decimal_lacks n = onto_lacks 64 n [] refl

-- visible bytes are none of those below them
pub visible_lacks : (byte : ℕ) → byte < 33 → (bytes : List ℕ) → list_all is_visible bytes ≡ true → Lacks byte bytes
visible_lacks byte low [] h = refl
visible_lacks byte low (other ∷ bytes) h =
    let parts = and_parts (is_visible other) (list_all is_visible bytes) h in
    let bounds = and_parts (nat_le 33 other) (nat_le other 126) parts.0 in
    let least : 33 ≤ other = leb-true 33 other bounds.0 in
    and_from (not (other == byte)) (lacks byte bytes) (ap (λ (b : Bool). not b) (ne_eqb other byte (omega arith))) (visible_lacks byte low bytes parts.1)
