-- A row of ends that grows by one.
use Rattle.std.proofs.Common.{◌≡◌, ℕ, ◌+◌, List, [], ◌∷◌, ◌++◌, length, length-append, sym, ap, ◌∙◌, ⊎_elim, arith, Some}
use Rattle.std.specs.Prelude.{slice_get}
use Rattle.stable_board.specs.Keeping.{IsRow}
use Rattle.stable_board.proofs.BoardSteps.{at_more_cases}

module _ {A : Type 0} (made : ℕ → A) where
  pub row_none : (row : List A) → row ≡ [] → IsRow 0 made row
  row_none row is = record { count_is = ap (λ (l : List A). length l) is; each = λ n x at. let e : slice_get [] n ≡ Some x = ap (λ (l : List A). slice_get l n) (sym is) ∙ at in absurd (cc) }

  pub row_more : (n : ℕ) (row more : List A) (x : A) → IsRow n made row → x ≡ made n → more ≡ row ++ x ∷ [] → IsRow (n + 1) made more
  row_more n row more x h is grown = record {
    count_is = ap (λ (l : List A). length l) grown ∙ omega (arith, length-append row (x ∷ []), h.count_is);
    each = λ m y at. ⊎_elim
        (λ old. h.each m y old)
        (λ new. sym new.1 ∙ (is ∙ ap made (sym (new.0 ∙ h.count_is))))
        (at_more_cases row x m y (ap (λ (l : List A). slice_get l m) (sym grown) ∙ at));
  }
