use Rattle.std.specs.Prelude.{ℕ, ◌+◌, ◌-◌, ◌*◌, ◌/◌, ◌%◌, ◌≤◌, ◌&&◌, ◌==◌, nat_lt, nat_le, if◌then◌else◌, Option, Some, None}
use Rattle.view_config.specs.declared.edition.Edition.{Edition}
use Rattle.view_config.specs.declared.edition.Mode.{Mode}
use Rattle.view_config.specs.declared.nodes.Node.{Node}
use Rattle.view_config.specs.declared.nodes.Node.TheVariants.{Client, Controller, Seq, Shard}
use Rattle.view_config.specs.declared.limits.TheConstants.{MAX_CLIENTS, MAX_COPIES, MAX_SEQ, MAX_SHARDS}
use Rattle.view_config.specs.declared.nodes.TheConstants.{CONTROLLER, FIRST_SEQ, FIRST_SHARD}

-- how many nodes of each role a log has, in which edition and mode
pub record Dimensions : Type 0 where
  pub edition : Edition
  pub mode : Mode
  pub seq : ℕ
  pub spares : ℕ
  pub shards : ℕ
  pub copies : ℕ
  pub clients : ℕ

-- the numbers are within the limits
pub record IsShape (shape : Dimensions) : Type 0 where
  pub seq_least : 1 ≤ shape.seq
  pub seq_most : shape.seq + shape.spares ≤ MAX_SEQ
  pub shards_least : 1 ≤ shape.shards
  pub shards_most : shape.shards ≤ MAX_SHARDS
  pub copies_least : 1 ≤ shape.copies
  pub copies_most : shape.copies ≤ MAX_COPIES
  pub clients_least : 1 ≤ shape.clients
  pub clients_most : shape.clients ≤ MAX_CLIENTS

-- the shard replica of this number, if the shape has it
abbrev pub shard_node_of : Dimensions → ℕ → Option Node
shard_node_of shape number =
    if nat_le FIRST_SHARD number && nat_lt number (FIRST_SHARD + MAX_COPIES * shape.shards) && nat_lt ((number - FIRST_SHARD) % MAX_COPIES) shape.copies
    then Some (Shard ((number - FIRST_SHARD) / MAX_COPIES) ((number - FIRST_SHARD) % MAX_COPIES)) else None

-- the node of this number, if the shape has it
abbrev pub node_of : Dimensions → ℕ → Option Node
node_of shape number =
    if nat_lt number shape.clients then Some (Client number)
    else (if number == CONTROLLER then Some Controller
    else (if nat_le FIRST_SEQ number && nat_lt number (FIRST_SEQ + shape.seq + shape.spares) then Some (Seq (number - FIRST_SEQ))
    else shard_node_of shape number))
