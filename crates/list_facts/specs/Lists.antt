use Rattle.std.specs.Prelude.{ℕ, ◌≡◌, ◌⊎◌, ◌++◌, ◌==◌, List, [], ◌∷◌, if◌then◌else◌}

-- x stands in the list
abbrev pub In : {A : Type 0} → A → List A → Type 0
In x [] = ⊥
In x (z ∷ zs) = (z ≡ x) ⊎ In x zs

-- P holds of each member
abbrev pub Each : {A : Type 0} → (A → Type 0) → List A → Type 0
Each P [] = Unit {0}
Each P (z ∷ zs) = P z × Each P zs

-- x stands in the list with y somewhere behind it
abbrev pub Precedes : {A : Type 0} → A → A → List A → Type 0
Precedes x y [] = ⊥
Precedes x y (z ∷ zs) = ((z ≡ x) × In y zs) ⊎ Precedes x y zs

-- no member stands at two places
abbrev pub Distinct : {A : Type 0} → List A → Type 0
Distinct [] = Unit {0}
Distinct (z ∷ zs) = (¬ In z zs) × Distinct zs

-- the first list is how the second one begins
pub record Front {A : Type 0} (xs ys : List A) : Type 0 where
  pub rest : List A
  pub is : ys ≡ xs ++ rest

-- a function with another value at one number
abbrev pub put : {A : Type 0} → (ℕ → A) → ℕ → A → ℕ → A
put f me x n = if n == me then x else f n
