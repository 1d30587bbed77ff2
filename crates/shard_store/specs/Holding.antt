use Rattle.std.specs.Prelude.{ℕ, List, [], ◌∷◌, ◌++◌, Bool, true, not, ◌&&◌}
use Rattle.std.specs.List.{list_any}
use Rattle.rec_id.specs.Identity.{Identity}
use Rattle.rec_id.specs.declared.item.Cell.{Cell}
use Rattle.rec_id.specs.declared.item.Body.{Body}
use Rattle.rec_id.specs.declared.item.Body.TheVariants.{Kept}
use Rattle.rec_id.specs.Identity.{same_id}

-- records that are held, and for how many more there is room
pub record Holding : Type 0 where
  pub records : List (Identity × List ℕ)
  pub spare : ℕ

-- a record of this identity is held
abbrev pub is_held : List (Identity × List ℕ) → Identity → Bool
is_held held id = list_any (λ one. same_id one.0 id) held

-- no two records have one identity
abbrev pub is_distinct : List (Identity × List ℕ) → Bool
is_distinct [] = true
is_distinct (one ∷ others) = not (is_held others one.0) && is_distinct others

-- the records whose data is in these cells
abbrev pub record_in : Identity → Body → List (Identity × List ℕ)
record_in id (Kept bytes) = (id, bytes) ∷ []
record_in id _ = []

abbrev pub records_in : List Cell → List (Identity × List ℕ)
records_in [] = []
records_in (cell ∷ cells) = record_in cell.id cell.body ++ records_in cells
