use Rattle.std.specs.Prelude.{ℕ, ◌+◌, ◌*◌}
use Rattle.view_config.specs.declared.limits.TheConstants.{MAX_COPIES}
use Rattle.view_config.specs.declared.nodes.TheConstants.{BOARD, CONTROLLER, FIRST_SEQ, FIRST_SHARD}

-- the number of sequencing replica i
abbrev pub seq_id : ℕ → ℕ
seq_id i = FIRST_SEQ + i

-- the number of replica j of shard i
abbrev pub shard_id : ℕ → ℕ → ℕ
shard_id i j = FIRST_SHARD + MAX_COPIES * i + j

-- one more than the greatest number of a node: the board isn't one
abbrev pub node_count : ℕ
node_count = BOARD

-- the number by which the taken state goes as a holder: that of the controller, which keeps it
abbrev pub taken_state : ℕ
taken_state = CONTROLLER
