use Rattle.std.specs.Prelude.{ℕ, ◌-◌, ◌/◌, ◌%◌, List, ◌++◌, ◌==◌, nat_lt, if◌then◌else◌, Option, Some, None, codes, decimal}
use Rattle.view_config.specs.Nodes.{taken_state}
use Rattle.view_config.specs.declared.limits.TheConstants.{MAX_COPIES}
use Rattle.view_config.specs.declared.nodes.TheConstants.{BOARD, CONTROLLER, FIRST_SEQ, FIRST_SHARD}
use Rattle.trace_script.specs.declared.node_word.NodeWord.{NodeWord}
use Rattle.trace_script.specs.declared.node_word.NodeWord.TheVariants.{Client, Controller, Seq, Shard}

-- The names of nodes, and of holders of a line.

-- the word of a node
abbrev pub word_text : NodeWord → List ℕ
word_text (Client c) = codes "c" ++ decimal c
word_text Controller = codes "k"
word_text (Seq i) = codes "s" ++ decimal i
word_text (Shard i j) = codes "d" ++ (decimal i ++ (codes "." ++ decimal j))

-- the word of the node with this number, if it is a node's
abbrev pub word_of_node : ℕ → Option NodeWord
word_of_node node =
    if nat_lt node CONTROLLER then Some (Client node)
    else (if node == CONTROLLER then Some Controller
    else (if nat_lt node FIRST_SHARD then Some (Seq (node - FIRST_SEQ))
    else (if nat_lt node BOARD then Some (Shard ((node - FIRST_SHARD) / MAX_COPIES) ((node - FIRST_SHARD) % MAX_COPIES))
    else None)))

-- a node by its word, and by its number where it has none
abbrev pub name_with : ℕ → Option NodeWord → List ℕ
name_with node (Some word) = word_text word
name_with node None = decimal node

abbrev pub node_name : ℕ → List ℕ
node_name node = name_with node (word_of_node node)

-- a holder by its name
abbrev pub holder_name : ℕ → List ℕ
holder_name holder = if holder == taken_state then codes "taken" else node_name holder
