use Rattle.std.specs.Prelude.{ℕ, List, [], ◌∷◌, ◌++◌, codes, decimal}
use Rattle.rec_id.specs.Identity.{Identity}
use Rattle.rec_id.specs.declared.entry.Entry.{Entry}
use Rattle.rec_id.specs.declared.entry.Entry.TheVariants.{Kept, Noop, Gone}

-- an identity
abbrev pub id_text : Identity → List ℕ
id_text id = codes "c" ++ (decimal id.client ++ (codes "#" ++ decimal id.number))

-- an entry
abbrev pub entry_text : Entry → List ℕ
entry_text (Kept id bytes) = id_text id ++ (codes "=" ++ bytes)
entry_text (Noop id) = id_text id ++ codes "!"
entry_text (Gone id) = id_text id ++ codes "~"

-- these, each behind a space
abbrev pub spaced : {A : Type 0} → (A → List ℕ) → List A → List ℕ
spaced text [] = []
spaced text (x ∷ xs) = codes " " ++ (text x ++ spaced text xs)

-- these, parted by spaces, `-` where there are none
abbrev pub parted : {A : Type 0} → (A → List ℕ) → List A → List ℕ
parted text [] = codes "-"
parted text (x ∷ xs) = text x ++ spaced text xs
