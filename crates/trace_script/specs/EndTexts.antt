use Rattle.std.specs.Prelude.{ℕ, List, ◌++◌, codes, decimal}

-- the last text of a script that was read to its end
abbrev pub end_text : ℕ → ℕ → List ℕ
end_text events messages = codes "end: " ++ (decimal events ++ (codes " events, " ++ (decimal messages ++ codes " messages")))

-- the last text of a script that was stopped: at a line outside the grammar, at a limit, or by its source
abbrev pub bad_line_text : ℕ → List ℕ
bad_line_text number = codes "stopped: bad line " ++ decimal number

abbrev pub limit_text : ℕ → List ℕ
limit_text number = codes "stopped: limit at " ++ decimal number

abbrev pub read_fault_text : List ℕ
read_fault_text = codes "stopped: read fault"
