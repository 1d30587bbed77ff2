use Rattle.std.specs.Prelude.{ℕ, ◌+◌, ◌^◌, List, [], ◌∷◌, length, filter, Bool, not, ◌||◌, ◌==◌, nat_lt, if◌then◌else◌, Option, Some}
use Rattle.std.specs.Option.{is_none, option_map, option_map_or}
use Rattle.rec_id.specs.declared.item.Item.{Item}
use Rattle.rec_id.specs.declared.marks.Marks.{Marks}
use Rattle.view_config.specs.declared.config.Config.{Config}
use Rattle.view_config.specs.declared.without.ConfigError.{ConfigError}
use Rattle.view_config.specs.declared.without.ConfigError.TheVariants.{LastSeq as LastSeqError, LastOfShard as LastOfShardError, ViewsSpent as ViewsSpentError, Memory as MemoryError}
use Rattle.view_config.specs.Without.{without, without_refusal}
use Rattle.lazy_msgs.specs.declared.input.Input.{Input}
use Rattle.lazy_msgs.specs.declared.input.Input.TheVariants.{Take, Tick, Suspect}
use Rattle.lazy_msgs.specs.declared.msg.Msg.{Msg}
use Rattle.lazy_msgs.specs.declared.msg.Msg.TheVariants.{Flush, Flushed, Seal, Sealed, SealedEmpty, NewView, Started, AskView, ViewIs}
use Rattle.lazy_msgs.specs.declared.refused.SuspectRefused.{SuspectRefused}
use Rattle.lazy_msgs.specs.declared.refused.SuspectRefused.TheVariants.{NotInView, LastSeq, LastOfShard, ViewsSpent, Memory}
use Rattle.lazy_msgs.specs.Step.{Row}
use Rattle.lazy_rules.specs.ControlState.{ControlState, Reign, Taken, Phase, Running, Sealing, Flushing, newest}
use Rattle.lazy_rules.specs.ClientRules.{with_node}
use Rattle.lazy_rules.specs.Door.{is_turned_away}
use Rattle.lazy_rules.specs.Flight.{answered_by, has_all}
use Rattle.lazy_rules.specs.Items.{items_for}
use Rattle.lazy_rules.specs.Roles.{first_of, replicas_of, shard_led_by}
use Rattle.lazy_rules.specs.Rows.{stays, answers, sends_all, to_each, each_numbered, has_node}

-- the node is a replica of this configuration
abbrev pub is_named : Config → ℕ → Bool
is_named config node = has_node config.seq node || has_node (replicas_of config) node

-- why a configuration isn't made is why the controller doesn't replace a node
abbrev pub refusal_of : ConfigError → SuspectRefused
refusal_of LastSeqError = LastSeq
refusal_of (LastOfShardError shard) = LastOfShard shard
refusal_of ViewsSpentError = ViewsSpent
refusal_of MemoryError = Memory

-- why the controller doesn't replace this node, if it doesn't: it goes by the newest configuration
abbrev pub suspect_refusal : ControlState → ℕ → Option SuspectRefused
suspect_refusal k node =
    if is_named (newest k) node then option_map refusal_of (without_refusal (newest k) (node ∷ []) k.spares)
    else Some NotInView

-- the newest configuration without this node, and the spares that it doesn't name
abbrev pub next_config : ControlState → ℕ → Config
next_config k node = without (newest k) (node ∷ []) k.spares

abbrev pub unused : Config → List ℕ → List ℕ
unused config spares = filter (λ spare. not (has_node config.seq spare)) spares

-- the controller at another phase, with the spares that are left once this configuration is named
abbrev pub at_phase : ControlState → Phase → ControlState
at_phase k phase = record k { phase = phase }

abbrev pub naming : ControlState → Config → Phase → ControlState
naming k config phase = record k { spares = unused config k.spares; phase = phase }

-- the flush for one shard's primary, and for all
abbrev pub flush_msg : ControlState → Taken → ℕ → Msg
flush_msg k taken shard = Flush taken.config taken.from (items_for k.shape shard taken.from taken.items)

abbrev pub flush_to : ControlState → Taken → ℕ → List ℕ → List (ℕ × Msg)
flush_to k taken shard nodes = to_each (first_of nodes) (flush_msg k taken shard)

abbrev pub flush_sends : ControlState → Taken → List (ℕ × Msg)
flush_sends k taken = each_numbered (flush_to k taken) 0 taken.config.shards

-- Suspect: the node is replaced in the newest configuration. A running view is sealed first; a flush
-- begins anew, with what was taken
abbrev pub with_config : Taken → Config → Taken
with_config taken config = record taken { config = config; flushed = [] }

abbrev pub seals_view : ControlState → Config → Config → Row ControlState
seals_view k old coming =
    sends_all (naming k coming (Sealing (record { old = old; coming = coming }))) (to_each old.seq (Seal old.view))

abbrev pub renames : ControlState → Config → Config → Row ControlState
renames k old coming = stays (naming k coming (Sealing (record { old = old; coming = coming })))

abbrev pub flushes_anew : ControlState → Taken → Row ControlState
flushes_anew k taken = sends_all (naming k taken.config (Flushing taken)) (flush_sends k taken)

abbrev pub replaces : ControlState → ℕ → Row ControlState
replaces k node = elim k.phase [
  | Running reign ↦ seals_view k reign.config (next_config k node)
  | Sealing change ↦ renames k change.old (next_config k node)
  | Flushing taken ↦ flushes_anew k (with_config taken (next_config k node))
]

-- Sealed, of the view that is being sealed: what the replica had is taken, and flushed
abbrev pub takes_state : ControlState → Taken → Row ControlState
takes_state k taken = sends_all (at_phase k (Flushing taken)) (flush_sends k taken)

abbrev pub new_taken : Config → ℕ → List Item → List Marks → Taken
new_taken config from items window = record {
  config = config;
  from = from;
  items = items;
  window = window;
  flushed = [];
}

abbrev pub on_sealed : ControlState → ℕ → ℕ → List Marks → List Item → Row ControlState
on_sealed k view bound window items = elim k.phase [
  | Sealing change ↦
      if view == change.old.view then takes_state k (new_taken change.coming bound items window) else stays k
  | _ ↦ stays k
]

-- SealedEmpty: the same with what the view began with
abbrev pub on_sealed_empty : ControlState → ℕ → Row ControlState
on_sealed_empty k view = on_sealed k view k.base k.window []

-- the view starts where all shards have the flushed order
abbrev pub new_reign : Config → Reign
new_reign config = record { config = config; started = [] }

abbrev pub reigning : ControlState → Taken → ControlState
reigning k taken = record k {
  base = taken.from + length taken.items;
  window = taken.window;
  phase = Running (new_reign taken.config);
}

abbrev pub new_view_msg : ControlState → Config → Msg
new_view_msg k config = NewView config k.base k.window

abbrev pub starts_view : ControlState → Config → Row ControlState
starts_view k config = sends_all k (to_each config.seq (new_view_msg k config))

abbrev pub has_base : Taken → Bool
has_base taken = nat_lt (taken.from + length taken.items) (2 ^ 32)

abbrev pub ends_flush : ControlState → Taken → Row ControlState
ends_flush k taken = if has_base taken then starts_view (reigning k taken) taken.config else stays k

-- Flushed, of a primary of the view: its shard is noted
abbrev pub is_flushed_by_all : Taken → Bool
is_flushed_by_all taken = has_all (length taken.config.shards) taken.flushed

abbrev pub notes_flush : ControlState → Taken → Row ControlState
notes_flush k taken = if is_flushed_by_all taken then ends_flush k taken else stays (at_phase k (Flushing taken))

abbrev pub with_flushed : Taken → ℕ → Taken
with_flushed taken shard = record taken { flushed = answered_by taken.flushed shard }

abbrev pub on_flushed : ControlState → ℕ → ℕ → Row ControlState
on_flushed k sender view = elim k.phase [
  | Flushing taken ↦
      if view == taken.config.view
      then option_map_or (λ shard. notes_flush k (with_flushed taken shard)) (shard_led_by taken.config sender) (stays k)
      else stays k
  | _ ↦ stays k
]

-- Started, of the running view: the sender is noted
abbrev pub with_started : Reign → ℕ → Reign
with_started reign node = record reign { started = with_node reign.started node }

abbrev pub on_started : ControlState → ℕ → ℕ → Row ControlState
on_started k sender view = elim k.phase [
  | Running reign ↦
      if view == reign.config.view then stays (at_phase k (Running (with_started reign sender))) else stays k
  | _ ↦ stays k
]

-- AskView: the running view is told
abbrev pub on_ask_view : ControlState → ℕ → Row ControlState
on_ask_view k sender = elim k.phase [ Running reign ↦ answers k sender (ViewIs reign.config) | _ ↦ stays k ]

-- Tick: what isn't answered is sent again
abbrev pub not_started : Reign → List ℕ
not_started reign = filter (λ node. not (has_node reign.started node)) reign.config.seq

abbrev pub flush_again_to : ControlState → Taken → ℕ → List ℕ → List (ℕ × Msg)
flush_again_to k taken shard nodes = if has_node taken.flushed shard then [] else flush_to k taken shard nodes

abbrev pub again_sends : ControlState → List (ℕ × Msg)
again_sends k = elim k.phase [
  | Running reign ↦ to_each (not_started reign) (new_view_msg k reign.config)
  | Sealing change ↦ to_each change.old.seq (Seal change.old.view)
  | Flushing taken ↦ each_numbered (flush_again_to k taken) 0 taken.config.shards
]

abbrev pub on_control_tick : ControlState → Row ControlState
on_control_tick k = sends_all k (again_sends k)

-- Suspect, where it isn't refused
abbrev pub on_suspect : ControlState → ℕ → Row ControlState
on_suspect k node = if is_none (suspect_refusal k node) then replaces k node else stays k

-- what a message does, where it isn't turned away
abbrev pub control_row : ControlState → ℕ → Msg → Row ControlState
control_row k sender (Sealed view bound window items) = on_sealed k view bound window items
control_row k sender (SealedEmpty view) = on_sealed_empty k view
control_row k sender (Flushed view) = on_flushed k sender view
control_row k sender (Started view) = on_started k sender view
control_row k sender AskView = on_ask_view k sender
control_row k sender _ = stays k

-- what a message from this node does
abbrev pub control_took : ControlState → ℕ → Msg → Row ControlState
control_took k sender msg = if is_turned_away k.shape sender msg then stays k else control_row k sender msg

-- what an input does
abbrev pub control_step : ControlState → Input → Row ControlState
control_step k (Take envelope) = control_took k envelope.from envelope.msg
control_step k Tick = on_control_tick k
control_step k (Suspect node) = on_suspect k node
control_step k _ = stays k
