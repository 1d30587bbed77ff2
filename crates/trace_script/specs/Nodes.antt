use Rattle.std.specs.Prelude.{ℕ, ◌&&◌, nat_lt, if◌then◌else◌, Option, Some, None}
use Rattle.view_config.specs.Nodes.{seq_id, shard_id}
use Rattle.view_config.specs.declared.limits.TheConstants.{MAX_CLIENTS, MAX_COPIES, MAX_SEQ, MAX_SHARDS}
use Rattle.view_config.specs.declared.nodes.TheConstants.{CONTROLLER}
use Rattle.trace_script.specs.declared.node_word.NodeWord.{NodeWord}
use Rattle.trace_script.specs.declared.node_word.NodeWord.TheVariants.{Client, Controller, Seq, Shard}

-- the number of the node of this word, if such a node may be
abbrev pub node_of_word : NodeWord → Option ℕ
node_of_word (Client c) = if nat_lt c MAX_CLIENTS then Some c else None
node_of_word Controller = Some CONTROLLER
node_of_word (Seq i) = if nat_lt i MAX_SEQ then Some (seq_id i) else None
node_of_word (Shard i j) = if nat_lt i MAX_SHARDS && nat_lt j MAX_COPIES then Some (shard_id i j) else None
