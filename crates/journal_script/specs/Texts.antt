use Rattle.std.specs.Prelude.{ℕ, List, ◌++◌, codes, decimal}
use Rattle.hex.specs.Hex.{encode_lower}
use Rattle.rec_id.specs.declared.entry.Entry.{Entry}
use Rattle.trace_script.specs.EntryTexts.{entry_text, parted}
use Rattle.journal_script.specs.declared.texts.Refusal.{Refusal}
use Rattle.journal_script.specs.declared.texts.Refusal.TheVariants.{Place, Stable, DiskFault, Closed, Full}

-- The texts that are printed.

-- up to where all is kept
abbrev pub kept_text : ℕ → List ℕ
kept_text kept = codes "kept to " ++ decimal kept

-- an entry, without its place
abbrev pub placed_text : ℕ × Entry → List ℕ
placed_text placed = entry_text placed.1

-- what an opened file has, and up to where
abbrev pub opened_text : ℕ → List (ℕ × Entry) → List ℕ
opened_text kept entries = codes "opened: kept to " ++ (decimal kept ++ (codes ": " ++ parted placed_text entries))

-- why nothing was done
abbrev pub reason : Refusal → List ℕ
reason Place = codes "place"
reason Stable = codes "stable"
reason DiskFault = codes "disk fault"
reason Closed = codes "closed"
reason Full = codes "full"

abbrev pub refused_text : Refusal → List ℕ
refused_text refusal = codes "refused: " ++ reason refusal

-- bytes in hexadecimal
abbrev pub bytes_text : List ℕ → List ℕ
bytes_text bytes = encode_lower bytes

-- the last text of a script that was read to its end
abbrev pub end_text : ℕ → List ℕ
end_text kept = codes "end: " ++ (decimal kept ++ codes " kept")
