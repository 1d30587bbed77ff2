-- The cases of a choice.
use Rattle.std.proofs.Common.{◌≡◌, Bool, true, false, Option, None, Some, refl}
use Rattle.std.specs.Prelude.{if◌then◌else◌}
use Rattle.std.specs.Option.{option_map_or}

-- what holds of both outcomes of a choice, each under its test, holds of the choice
pub either : {A : Type 0} (P : A → Type 0) (b : Bool) (x y : A) → (b ≡ true → P x) → (b ≡ false → P y) → P (if b then x else y)
either P true x y f g = f refl
either P false x y f g = g refl

-- what holds of what is made of a value, and of what stands for none, holds of the choice between them
pub some_or_none : {A B : Type 0} (P : B → Type 0) (f : A → B) (o : Option A) (d : B) → ((x : A) → o ≡ Some x → P (f x)) → (o ≡ None → P d) → P (option_map_or f o d)
some_or_none P f None d there none = none refl
some_or_none P f (Some x) d there none = there x refl

-- a test passes or fails
pub by_test : {P : Type 0} (b : Bool) → (b ≡ true → P) → (b ≡ false → P) → P
by_test true f g = f refl
by_test false f g = g refl
