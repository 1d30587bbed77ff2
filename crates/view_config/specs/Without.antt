use Rattle.std.specs.Prelude.{ℕ, ◌+◌, ◌-◌, ◌^◌, min, List, ◌++◌, length, map, filter, take, position, Bool, not, ◌==◌, nat_lt, if◌then◌else◌, Option, Some, None}
use Rattle.std.specs.List.{list_any, list_all}
use Rattle.view_config.specs.declared.config.Config.{Config}
use Rattle.view_config.specs.declared.without.ConfigError.{ConfigError}
use Rattle.view_config.specs.declared.without.ConfigError.TheVariants.{LastSeq, LastOfShard, ViewsSpent}

-- the node is among these
abbrev pub is_among : List ℕ → ℕ → Bool
is_among nodes node = list_any (λ other. other == node) nodes

-- all of these nodes are suspects
abbrev pub all_suspected : List ℕ → List ℕ → Bool
all_suspected suspects nodes = list_all (is_among suspects) nodes

-- these nodes but the suspects, in their order
abbrev pub unsuspected : List ℕ → List ℕ → List ℕ
unsuspected suspects nodes = filter (λ node. not (is_among suspects node)) nodes

-- these nodes but the suspects, and in their places spares that aren't suspected, as far as there are any
abbrev pub replaced : List ℕ → List ℕ → List ℕ → List ℕ
replaced suspects spares nodes = take (length nodes) (unsuspected suspects nodes ++ unsuspected suspects spares)

-- the next configuration, without the suspects
abbrev pub without : Config → List ℕ → List ℕ → Config
without config suspects spares = record {
  view = config.view + 1;
  seq = replaced suspects spares config.seq;
  shards = map (unsuspected suspects) config.shards;
}

-- an index as a number of 32 bits, which it is in every shape
abbrev pub as_index : ℕ → ℕ
as_index i = min i (2 ^ 32 - 1)

-- a refusal for a shard that would be empty, or else for the number of the view
abbrev pub shard_refusal : ℕ → Option ℕ → Option ConfigError
shard_refusal view (Some shard) = Some (LastOfShard (as_index shard))
shard_refusal view None = if nat_lt (view + 1) (2 ^ 32) then None else Some ViewsSpent

-- why there is no next configuration without the suspects: no sequencing replica would be left, or
-- none of a shard
abbrev pub without_refusal : Config → List ℕ → List ℕ → Option ConfigError
without_refusal config suspects spares =
    if length (replaced suspects spares config.seq) == 0 then Some LastSeq
    else shard_refusal config.view (position (all_suspected suspects) config.shards)
