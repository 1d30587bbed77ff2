use Rattle.std.specs.Prelude.{ℕ, ◌+◌, List, [], ◌++◌, filter, Bool, not, ◌&&◌, ◌||◌, if◌then◌else◌, Option}
use Rattle.std.specs.Option.{is_none, is_some}
use Rattle.view_config.specs.declared.config.Config.{Config}
use Rattle.lazy_msgs.specs.declared.msg.Msg.{Msg}
use Rattle.lazy_msgs.specs.declared.msg.Msg.TheVariants.{Probe, Trim as TrimMsg}
use Rattle.lazy_rules.specs.ReaderRules.{fetch_msg, in_turn, lacks_part}
use Rattle.lazy_rules.specs.ReaderState.{Fetch, Force, Trimmer}
use Rattle.lazy_rules.specs.Roles.{first_of, is_first, replicas_of}
use Rattle.lazy_rules.specs.Rows.{has_node, to_each, each_numbered}

-- a forcing read waits for the word of this one of the nodes
abbrev pub is_awaited : List ℕ → List ℕ → Option ℕ → ℕ → Bool
is_awaited nodes acked tail node = not (has_node acked node) || (is_none tail && is_first nodes node)

-- what a fetch sends for a shard in this turn
abbrev pub turn_sends : Fetch → ℕ → ℕ → List ℕ → List (ℕ × Msg)
turn_sends fetch turn shard nodes = if lacks_part fetch shard then to_each (in_turn turn nodes) (fetch_msg fetch) else []

-- what a fetch sends for all shards in this turn
abbrev pub round_sends : Fetch → ℕ → Config → List (ℕ × Msg)
round_sends fetch turn config = each_numbered (turn_sends fetch turn) 0 config.shards

-- a trim for the replicas of a configuration that haven't acknowledged it
abbrev pub trims_lacking : Config → Trimmer → List (ℕ × Msg)
trims_lacking config trimmer =
    to_each (filter (λ node. not (has_node trimmer.acked node)) (replicas_of config)) (TrimMsg trimmer.number trimmer.floor)

-- a probe for those whose word a forcing read waits for
abbrev pub probes_lacking : Config → Force → List (ℕ × Msg)
probes_lacking config force = to_each (filter (is_awaited config.seq force.acked force.tail) config.seq) (Probe config.view force.number)

-- a probe of the leader, where a fetch has a tail
abbrev pub reminder : Config → Fetch → List (ℕ × Msg)
reminder config fetch = if is_some fetch.tail then to_each (first_of config.seq) (Probe config.view fetch.number) else []

-- what a fetch sends at a tick
abbrev pub asks_again : Config → Fetch → List (ℕ × Msg)
asks_again config fetch = round_sends fetch (fetch.turn + 1) config ++ reminder config fetch
