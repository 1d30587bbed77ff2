-- What is told at a place, and the event behind it.
use Rattle.std.proofs.Common.{◌≡◌, ℕ, Option, Some, None, List, slice_get, refl, sym, ◌∙◌, ap}
use Rattle.std.specs.Prelude.{option_and_then}
use Rattle.rec_id.specs.History.{told_at}

-- the event behind what is told
pub told_cases : {A B : Type 0} (f : A → Option B) (xs : List A) (i : ℕ) (b : B) → told_at f xs i ≡ Some b → (x : A) × (slice_get xs i ≡ Some x) × (f x ≡ Some b)
told_cases f xs i b h = by (slice_get xs i) refl
  where
    by : (o : Option _) → slice_get xs i ≡ o → (x : _) × (slice_get xs i ≡ Some x) × (f x ≡ Some b)
    by None e = let g : option_and_then f None ≡ Some b = ap (option_and_then f) (sym e) ∙ h in cc
    by (Some x) e = (x, e, ap (option_and_then f) (sym e) ∙ h)

pub told_from : {A B : Type 0} (f : A → Option B) (xs : List A) (i : ℕ) (x : A) (b : B) → slice_get xs i ≡ Some x → f x ≡ Some b → told_at f xs i ≡ Some b
told_from f xs i x b e h = ap (option_and_then f) e ∙ h
