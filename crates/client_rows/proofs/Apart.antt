-- A sequencing replica is no shard replica.
use Rattle.std.proofs.Common.{◌≡◌, ℕ, ◌+◌, ◌*◌, List, [], Option, Some, None, refl, arith}
use Rattle.std.specs.Prelude.{slice_get, unwrap_or}
use Rattle.list_facts.specs.Lists.{Each, In}
use Rattle.list_facts.proofs.Members.{each_in}
use Rattle.list_facts.proofs.Places.{each_at}
use Rattle.rec_id.specs.Identity.{Identity, shard_of}
use Rattle.view_config.specs.Shape.{Dimensions, IsShape}
use Rattle.view_config.specs.declared.limits.TheConstants.{MAX_COPIES}
use Rattle.view_config.specs.declared.nodes.TheConstants.{FIRST_SEQ, FIRST_SHARD}
use Rattle.world_facts.specs.Members.{IsGroup, IsSeqNode, IsShardNode}
use Rattle.lazy_rules.specs.ClientRules.{homes_of}
use Rattle.log_facts.specs.Ghosts.{Ghost}
use Rattle.log_facts.specs.Good.{Moment}
use Rattle.log_facts.specs.Parts.{Parts}

pub kinds_apart : (shape : Dimensions) (node : ℕ) → IsShape shape → IsSeqNode shape node → IsShardNode shape node → ⊥
kinds_apart shape node formed s d =
    let most = formed.seq_most in
    let few = s.few in
    let left : node ≡ FIRST_SEQ + s.place = s.is in
    let right : node ≡ FIRST_SHARD + MAX_COPIES * d.shard + d.copy = d.is in
    absurd (omega arith)

-- the replicas of a record's shard are shard replicas
home_is_replica : (shape : Dimensions) (groups : List (List ℕ)) (shard node : ℕ) → Each (IsGroup shape) groups → In node (unwrap_or (slice_get groups shard) []) → IsShardNode shape node
home_is_replica shape groups shard node each i = by (slice_get groups shard) refl i
  where
    by : (found : Option (List ℕ)) → slice_get groups shard ≡ found → In node (unwrap_or found []) → IsShardNode shape node
    by None is i = absurd i
    by (Some group) is i = each_in (IsShardNode shape) group (each_at (IsGroup shape) groups each shard group is).each node i

module _ (shape : Dimensions) (g : Ghost) (a : Parts) (c : ℕ) (moment : Moment shape g a) where
  pub home_is_shard : (id : Identity) (node : ℕ) → In node (homes_of (a.clients c) id) → IsShardNode shape node
  home_is_shard id node i = home_is_replica shape (a.clients c).config.shards (shard_of id (a.clients c).shape.shards) node (moment.formed.clients c).config.shards i

  pub seq_is_no_home : (id : Identity) (node : ℕ) → IsSeqNode shape node → In node (homes_of (a.clients c) id) → ⊥
  seq_is_no_home id node s i = kinds_apart shape node moment.is_shape s (home_is_shard id node i)

  pub shard_is_no_member : (node : ℕ) → IsShardNode shape node → In node (a.clients c).config.seq → ⊥
  shard_is_no_member node d i = kinds_apart shape node moment.is_shape (each_in (IsSeqNode shape) (a.clients c).config.seq (moment.formed.clients c).config.seq node i) d
