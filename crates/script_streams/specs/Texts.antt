-- Texts that are written one after the other.
use Rattle.std.specs.Prelude.{◌≡◌, ℕ, List, [], ◌∷◌, ◌++◌, flat_map, Option}
use Rattle.std.specs.Io.KnownBytes.{append_known}
use Rattle.io_edges.specs.Telling.{Fails}

abbrev pub with_newline : List ℕ → List ℕ
with_newline text = text ++ 10 ∷ []

-- texts behind each other
abbrev pub printed : List (List ℕ) → List ℕ
printed texts = flat_map (λ text. text) texts

-- a write failed: the texts before it were written, and not all of its own
pub record FailsAt (texts : List (List ℕ)) (before after : Option (List ℕ)) : Type 0 where
  pub earlier : List (List ℕ)
  pub text : List ℕ
  pub later : List (List ℕ)
  pub are : texts ≡ earlier ++ text ∷ later
  pub fails : Fails (append_known before (printed earlier)) after text
