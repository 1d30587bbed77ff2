use Rattle.std.specs.Prelude.{ℕ, List, ◌++◌, ◌==◌, if◌then◌else◌, codes, decimal}
use Rattle.hex.specs.Hex.{encode_lower}
use Rattle.view_config.specs.declared.nodes.TheConstants.{BOARD}
use Rattle.trace_script.specs.Names.{node_name}

-- who a message is from or for: a node, or the board
abbrev pub end_name : ℕ → List ℕ
end_name node = if node == BOARD then codes "board" else node_name node

-- a message by its number, its sender and its addressee, and its frame in hexadecimal
abbrev pub frame_text : ℕ → ℕ → ℕ → List ℕ → List ℕ
frame_text number from to frame =
    codes "message " ++ (decimal number ++ (codes ": " ++ (end_name from ++ (codes " to " ++ (end_name to ++ (codes ": " ++ encode_lower frame))))))
