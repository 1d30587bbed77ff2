use Rattle.std.specs.Prelude.{ℕ, List, ◌++◌, codes, decimal}
use Rattle.rec_id.specs.declared.entry.Entry.{Entry}
use Rattle.trace_script.specs.EntryTexts.{entry_text, parted}
use Rattle.trace_script.specs.Names.{holder_name}

-- the line of a holder
abbrev pub line_text : ℕ → List Entry → List ℕ
line_text holder line = codes "line " ++ (holder_name holder ++ (codes ": " ++ parted entry_text line))

-- the lost line of a holder, by the first shard that is gone
abbrev pub lost_text : ℕ → ℕ → List ℕ
lost_text holder shard = codes "line " ++ (holder_name holder ++ (codes ": lost shard " ++ decimal shard))

-- where nobody holds a line
abbrev pub no_holder_text : List ℕ
no_holder_text = codes "no holder"
