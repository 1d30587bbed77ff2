use Rattle.std.specs.Prelude.{ℕ, ◌+◌, ◌-◌, ◌≤◌, List, [], ◌∷◌, ◌++◌, length, map, max, sum_by, ◌==◌, nat_lt, if◌then◌else◌, Option, Some, None, slice_get, slice_set, slice_index, slice_range}
use Rattle.rec_id.specs.Identity.{Identity}
use Rattle.rec_id.specs.declared.event.Ask.{Ask as AskOf}
use Rattle.rec_id.specs.declared.event.Event.{Event}
use Rattle.rec_id.specs.declared.item.Cell.{Cell}
use Rattle.view_config.specs.declared.nodes.Node.{Node}
use Rattle.view_config.specs.declared.nodes.Node.TheVariants.{Client, Controller, Seq, Shard}
use Rattle.view_config.specs.declared.edition.Edition.{Edition}
use Rattle.view_config.specs.declared.edition.Edition.TheVariants.{One, Two}
use Rattle.view_config.specs.Shape.{node_of}
use Rattle.lazy_msgs.specs.declared.input.Input.{Input}
use Rattle.lazy_msgs.specs.declared.input.Input.TheVariants.{Tick as TickInput, Grace as GraceInput, Peek as PeekInput}
use Rattle.lazy_msgs.specs.declared.input.WorldEvent.{WorldEvent}
use Rattle.lazy_msgs.specs.declared.input.WorldEvent.TheVariants.{Post, Ask, Trim, Peek, Deliver, Tick, Grace, Crash, Suspect}
use Rattle.lazy_msgs.specs.declared.msg.Envelope.{Envelope}
use Rattle.lazy_msgs.specs.declared.msg.Msg.{Msg}
use Rattle.lazy_msgs.specs.declared.msg.Msg.TheVariants.{Claim}
use Rattle.lazy_msgs.specs.declared.refused.EventRefused.{EventRefused}
use Rattle.lazy_msgs.specs.declared.refused.EventRefused.TheVariants.{NoNode, NoMessage, IsClaim, NotClaim, Crashed, NoTrim, Backward, Wide, NotYet, Post as PostRefusedSo, Begin as BeginRefusedSo, Suspect as SuspectRefusedSo, Trim as TrimRefusedSo}
use Rattle.lazy_msgs.specs.declared.refused.BeginRefused.{BeginRefused}
use Rattle.lazy_msgs.specs.declared.refused.PostRefused.{PostRefused}
use Rattle.lazy_msgs.specs.declared.refused.SuspectRefused.{SuspectRefused}
use Rattle.lazy_msgs.specs.declared.refused.TrimRefused.{TrimRefused}
use Rattle.lazy_msgs.specs.Step.{Row}
use Rattle.lazy_msgs.specs.Weight.{weight_of}
use Rattle.lazy_rules.specs.ClientRules.{client_took, invokes, post_refusal}
use Rattle.lazy_rules.specs.ClientNode.{ClientNode, Half, Appends, Reads, Both, half_of, half_took, client_node_step}
use Rattle.lazy_rules.specs.ClientState.{ClientState}
use Rattle.lazy_rules.specs.ControlRules.{control_took, control_step, replaces, suspect_refusal}
use Rattle.lazy_rules.specs.ControlState.{ControlState}
use Rattle.lazy_rules.specs.ReaderRules.{begins_read, begin_refusal, begins_trim, trim_refusal, reader_took}
use Rattle.lazy_rules.specs.ReaderState.{ReaderState}
use Rattle.lazy_rules.specs.Rows.{has_node}
use Rattle.lazy_rules.specs.SeqRules.{seq_took, seq_step}
use Rattle.lazy_rules.specs.SeqState.{SeqState}
use Rattle.lazy_rules.specs.ShardRules.{shard_took, shard_step}
use Rattle.lazy_rules.specs.ShardState.{ShardState}
use Rattle.lazy_rules.specs.WorldState.{WorldState, shard_place}
use Rattle.lazy_rules.specs.declared.limits.TheConstants.{MESSAGES_LIMIT, WEIGHT_LIMIT}
use Rattle.rec_id.specs.declared.limits.TheConstants.{READ_LIMIT}
use Rattle.view_config.specs.declared.nodes.TheConstants.{CONTROLLER, FIRST_SHARD}

-- What events do to a world, and why they are refused.

-- the time of a step of this node that receives a message of this time, 0 where it receives none
abbrev pub step_time : WorldState → ℕ → ℕ → ℕ
step_time w node received = max (slice_index w.times node) received + 1

-- messages in their envelopes
abbrev pub enveloped : ℕ → ℕ → List (ℕ × Msg) → List Envelope
enveloped sender time sends = map (λ send. record { from = sender; to = send.0; time = time; msg = send.1 }) sends

-- the world after a step of this node that sent and told this
abbrev pub stepped : WorldState → ℕ → ℕ → List (ℕ × Msg) → List Event → WorldState
stepped w node received sends told = record w {
  times = slice_set w.times node (step_time w node received);
  sent = w.sent ++ enveloped node (step_time w node received) sends;
  history = w.history ++ told;
  events = w.events + 1;
}

-- the world after a step of client c's appends, of its reads, and of both
abbrev pub client_did : WorldState → ℕ → ℕ → Row ClientState → WorldState
client_did w c received row = stepped (record w { clients = slice_set w.clients c row.next }) c received row.sends row.events

abbrev pub reader_did : WorldState → ℕ → ℕ → Row ReaderState → WorldState
reader_did w c received row = stepped (record w { readers = slice_set w.readers c row.next }) c received row.sends row.events

abbrev pub with_client_node : WorldState → ℕ → ClientNode → WorldState
with_client_node w c n = record w {
  clients = slice_set w.clients c n.appends;
  readers = slice_set w.readers c n.reads;
}

abbrev pub client_node_did : WorldState → ℕ → ℕ → Row ClientNode → WorldState
client_node_did w c received row = stepped (with_client_node w c row.next) c received row.sends row.events

-- the world after a step of the controller
abbrev pub control_did : WorldState → ℕ → Row ControlState → WorldState
control_did w received row = stepped (record w { control = row.next }) CONTROLLER received row.sends row.events

-- the world after a step of sequencing replica i, whose number is `node`
abbrev pub seq_did : WorldState → ℕ → ℕ → ℕ → Row SeqState → WorldState
seq_did w node i received row = stepped (record w { seqs = slice_set w.seqs i row.next }) node received row.sends row.events

-- the world after a step of the shard replica that stands at place k, whose number is `node`
abbrev pub shard_did : WorldState → ℕ → ℕ → ℕ → Row ShardState → WorldState
shard_did w node k received row = stepped (record w { shards = slice_set w.shards k row.next }) node received row.sends row.events

-- Post
abbrev pub posted : WorldState → ℕ → List ℕ → Option ClientState → WorldState
posted w c bytes None = w
posted w c bytes (Some client) = client_did w c 0 (invokes client bytes)

-- Ask
abbrev pub asked : WorldState → ℕ → AskOf → Option ReaderState → WorldState
asked w c ask None = w
asked w c ask (Some reader) = reader_did w c 0 (begins_read reader ask)

-- Trim
abbrev pub trimmed : WorldState → ℕ → ℕ → Option ReaderState → WorldState
trimmed w c floor None = w
trimmed w c floor (Some reader) = reader_did w c 0 (begins_trim reader floor)

-- Suspect
abbrev pub suspected : WorldState → ℕ → WorldState
suspected w node = control_did w 0 (replaces w.control node)

-- both halves of client c
abbrev pub halves : Option ClientState → Option ReaderState → Option ClientNode
halves (Some client) (Some reader) = Some (record { appends = client; reads = reader })
halves _ _ = None

abbrev pub client_node : WorldState → ℕ → Option ClientNode
client_node w c = halves (slice_get w.clients c) (slice_get w.readers c)

-- Deliver, to a client's appends, to its reads, and to both
abbrev pub appends_received : WorldState → ℕ → Envelope → Option ClientState → WorldState
appends_received w c envelope None = w
appends_received w c envelope (Some client) = client_did w c envelope.time (client_took client envelope.from envelope.msg)

abbrev pub reads_received : WorldState → ℕ → Envelope → Option ReaderState → WorldState
reads_received w c envelope None = w
reads_received w c envelope (Some reader) = reader_did w c envelope.time (reader_took reader envelope.from envelope.msg)

abbrev pub both_received : WorldState → ℕ → Envelope → Option ClientNode → WorldState
both_received w c envelope None = w
both_received w c envelope (Some n) = client_node_did w c envelope.time (half_took Both n envelope.from envelope.msg)

-- Deliver, to a client: the half that a message isn't for stays as it is
abbrev pub client_received : WorldState → ℕ → Envelope → Half → WorldState
client_received w c envelope Appends = appends_received w c envelope (slice_get w.clients c)
client_received w c envelope Reads = reads_received w c envelope (slice_get w.readers c)
client_received w c envelope Both = both_received w c envelope (client_node w c)

-- Deliver, to the controller
abbrev pub control_received : WorldState → Envelope → WorldState
control_received w envelope = control_did w envelope.time (control_took w.control envelope.from envelope.msg)

-- Deliver, to a sequencing replica
abbrev pub seq_received : WorldState → ℕ → Envelope → Option SeqState → WorldState
seq_received w i envelope None = w
seq_received w i envelope (Some seq) = seq_did w envelope.to i envelope.time (seq_took seq envelope.from envelope.msg)

-- Deliver, to a shard replica
abbrev pub shard_received : WorldState → ℕ → Envelope → Option ShardState → WorldState
shard_received w k envelope None = w
shard_received w k envelope (Some shard) =
    shard_did w envelope.to k envelope.time (shard_took shard envelope.from envelope.msg)

-- Deliver, to a node
abbrev pub received : WorldState → Envelope → Option Node → WorldState
received w envelope (Some (Client c)) = client_received w c envelope (half_of envelope.msg)
received w envelope (Some (Seq i)) = seq_received w i envelope (slice_get w.seqs i)
received w envelope (Some (Shard i j)) =
    shard_received w (shard_place w.shape i j) envelope (slice_get w.shards (shard_place w.shape i j))
received w envelope (Some Controller) = control_received w envelope
received w envelope None = w

-- Deliver
abbrev pub delivered : WorldState → Option Envelope → WorldState
delivered w None = w
delivered w (Some envelope) = received w envelope (node_of w.shape envelope.to)

-- message k of a list, counted from 1
abbrev pub envelope_at : List Envelope → ℕ → Option Envelope
envelope_at sent k = if k == 0 then None else slice_get sent (k - 1)

-- message k of a world
abbrev pub message_at : WorldState → ℕ → Option Envelope
message_at w k = envelope_at w.sent k

-- an input that comes from outside, for a client's node, the controller, a sequencing replica and a
-- shard replica
abbrev pub client_given : WorldState → ℕ → Input → Option ClientNode → WorldState
client_given w c input None = w
client_given w c input (Some n) = client_node_did w c 0 (client_node_step n input)

abbrev pub control_given : WorldState → Input → WorldState
control_given w input = control_did w 0 (control_step w.control input)

abbrev pub seq_given : WorldState → ℕ → ℕ → Input → Option SeqState → WorldState
seq_given w node i input None = w
seq_given w node i input (Some seq) = seq_did w node i 0 (seq_step seq input)

abbrev pub shard_given : WorldState → ℕ → ℕ → Input → Option ShardState → WorldState
shard_given w node k input None = w
shard_given w node k input (Some shard) = shard_did w node k 0 (shard_step shard input)

-- an input that comes from outside, for a node
abbrev pub given : WorldState → ℕ → Input → Option Node → WorldState
given w node input (Some (Client c)) = client_given w c input (client_node w c)
given w node input (Some (Seq i)) = seq_given w node i input (slice_get w.seqs i)
given w node input (Some (Shard i j)) =
    shard_given w node (shard_place w.shape i j) input (slice_get w.shards (shard_place w.shape i j))
given w node input (Some Controller) = control_given w input
given w node input None = w

-- the identities that a shard replica has in its order in [from, to)
abbrev pub ids_in : List Cell → List Identity
ids_in cells = map (λ cell. cell.id) cells

abbrev pub ids_of_shard : ℕ → ℕ → Option ShardState → List Identity
ids_of_shard from to None = []
ids_of_shard from to (Some shard) = ids_in (slice_range shard.store.order from to)

abbrev pub ids_at : WorldState → ℕ → ℕ → Option Node → List Identity
ids_at w from to (Some (Shard i j)) = ids_of_shard from to (slice_get w.shards (shard_place w.shape i j))
ids_at w from to _ = []

-- the stable number of a Claim
abbrev pub claimed : Msg → ℕ
claimed (Claim stable) = stable
claimed _ = 0

-- Peek: the client is told what the Claim's sender has
abbrev pub peeked : WorldState → ℕ → ℕ → ℕ → Option Envelope → WorldState
peeked w c from to None = w
peeked w c from to (Some envelope) =
    client_given w c
    (PeekInput (claimed envelope.msg) envelope.time (envelope.from - FIRST_SHARD) from (ids_at w from to (node_of w.shape envelope.from)))
    (client_node w c)

-- Crash
abbrev pub crashes : WorldState → ℕ → WorldState
crashes w node = stepped (record w { crashed = w.crashed ++ node ∷ [] }) node 0 [] []

-- the world after an event that isn't refused
abbrev pub after : WorldState → WorldEvent → WorldState
after w (Post c bytes) = posted w c bytes (slice_get w.clients c)
after w (Peek c k from to) = peeked w c from to (message_at w k)
after w (Deliver k) = delivered w (message_at w k)
after w (Tick node) = given w node TickInput (node_of w.shape node)
after w (Grace node) = given w node GraceInput (node_of w.shape node)
after w (Crash node) = crashes w node
after w (Ask c ask) = asked w c ask (slice_get w.readers c)
after w (Trim c floor) = trimmed w c floor (slice_get w.readers c)
after w (Suspect node) = suspected w node

-- why a client's post is refused, if it is
abbrev pub posting_refused : Option PostRefused → Option EventRefused
posting_refused None = None
posting_refused (Some refused) = Some (PostRefusedSo refused)

abbrev pub post_refused_at : WorldState → ℕ → List ℕ → Option ClientState → Option EventRefused
post_refused_at w c bytes None = Some (NoNode c)
post_refused_at w c bytes (Some client) =
    if has_node w.crashed c then Some (Crashed c) else posting_refused (post_refusal client (length bytes))

-- why the delivery of this message is refused, if it is: nobody is delivered a Claim
abbrev pub delivery_to_refused : WorldState → ℕ → ℕ → Msg → Option EventRefused
delivery_to_refused w k to (Claim stable) = Some (IsClaim k)
delivery_to_refused w k to _ = if has_node w.crashed to then Some (Crashed to) else None

-- why a delivery is refused, if it is
abbrev pub delivery_refused : WorldState → ℕ → Option Envelope → Option EventRefused
delivery_refused w k None = Some (NoMessage k)
delivery_refused w k (Some envelope) = delivery_to_refused w k envelope.to envelope.msg

-- why a step of this node is refused, if it is
abbrev pub step_refused_at : WorldState → ℕ → Option Node → Option EventRefused
step_refused_at w node None = Some (NoNode node)
step_refused_at w node (Some role) = if has_node w.crashed node then Some (Crashed node) else None

-- why a crash is refused, if it is: the controller doesn't crash
abbrev pub crash_refused_at : WorldState → ℕ → Option Node → Option EventRefused
crash_refused_at w node (Some Controller) = Some (NoNode node)
crash_refused_at w node role = step_refused_at w node role

-- why the controller doesn't replace this node, if it doesn't
abbrev pub suspecting_refused : Option SuspectRefused → Option EventRefused
suspecting_refused None = None
suspecting_refused (Some refused) = Some (SuspectRefusedSo refused)

abbrev pub suspect_refused_at : WorldState → ℕ → Option Node → Option EventRefused
suspect_refused_at w node None = Some (NoNode node)
suspect_refused_at w node (Some role) = suspecting_refused (suspect_refusal w.control node)

-- why a client's read is refused, if it is
abbrev pub asking_refused : Option BeginRefused → Option EventRefused
asking_refused None = None
asking_refused (Some refused) = Some (BeginRefusedSo refused)

abbrev pub ask_refused_at : WorldState → ℕ → AskOf → Option ReaderState → Option EventRefused
ask_refused_at w c ask None = Some (NoNode c)
ask_refused_at w c ask (Some reader) =
    if has_node w.crashed c then Some (Crashed c) else asking_refused (begin_refusal reader ask)

-- why a client's trim is refused, if it is: edition One has none
abbrev pub trimming_refused : Option TrimRefused → Option EventRefused
trimming_refused None = None
trimming_refused (Some refused) = Some (TrimRefusedSo refused)

abbrev pub trim_refused_in : Edition → ReaderState → ℕ → Option EventRefused
trim_refused_in One reader floor = Some NoTrim
trim_refused_in Two reader floor = trimming_refused (trim_refusal reader floor)

abbrev pub trim_refused_at : WorldState → ℕ → ℕ → Option ReaderState → Option EventRefused
trim_refused_at w c floor None = Some (NoNode c)
trim_refused_at w c floor (Some reader) =
    if has_node w.crashed c then Some (Crashed c) else trim_refused_in w.shape.edition reader floor

-- why a peek at positions [from, to) of a claim is refused, if it is
abbrev pub range_refused : ℕ → ℕ → ℕ → Option EventRefused
range_refused from to stable =
    if nat_lt to from then Some Backward
    else (if nat_lt READ_LIMIT (to - from) then Some Wide
    else (if nat_lt stable to then Some (NotYet stable)
    else None))

abbrev pub claim_refused : WorldState → ℕ → ℕ → ℕ → ℕ → Msg → Option EventRefused
claim_refused w c k from to (Claim stable) =
    if has_node w.crashed c then Some (Crashed c) else range_refused from to stable
claim_refused w c k from to _ = Some (NotClaim k)

-- why a peek is refused, if it is
abbrev pub peek_refused : WorldState → ℕ → ℕ → ℕ → ℕ → Option Envelope → Option EventRefused
peek_refused w c k from to None = Some (NoMessage k)
peek_refused w c k from to (Some envelope) = claim_refused w c k from to envelope.msg

abbrev pub peek_refused_at : WorldState → ℕ → ℕ → ℕ → ℕ → Option ClientState → Option EventRefused
peek_refused_at w c k from to None = Some (NoNode c)
peek_refused_at w c k from to (Some client) = peek_refused w c k from to (message_at w k)

-- why an event is refused, if it is, the limits on messages and memory aside
abbrev pub refusal : WorldState → WorldEvent → Option EventRefused
refusal w (Post c bytes) = post_refused_at w c bytes (slice_get w.clients c)
refusal w (Ask c ask) = ask_refused_at w c ask (slice_get w.readers c)
refusal w (Trim c floor) = trim_refused_at w c floor (slice_get w.readers c)
refusal w (Peek c k from to) = peek_refused_at w c k from to (slice_get w.clients c)
refusal w (Deliver k) = delivery_refused w k (message_at w k)
refusal w (Tick node) = step_refused_at w node (node_of w.shape node)
refusal w (Grace node) = step_refused_at w node (node_of w.shape node)
refusal w (Crash node) = crash_refused_at w node (node_of w.shape node)
refusal w (Suspect node) = suspect_refused_at w node (node_of w.shape node)

abbrev pub sent_weight : List Envelope → ℕ
sent_weight sent = sum_by (λ envelope. weight_of envelope.msg) sent

-- the world's messages are within the limits
pub record IsWithinLimits (w : WorldState) : Type 0 where
  pub in_number : length w.sent ≤ MESSAGES_LIMIT
  pub in_weight : sent_weight w.sent ≤ WEIGHT_LIMIT

-- a refused event changes nothing
abbrev pub accepted : WorldState → WorldEvent → Option EventRefused → WorldState
accepted w event None = after w event
accepted w event (Some refused) = w

-- the world after an event, refused or not
abbrev pub happened : WorldState → WorldEvent → WorldState
happened w event = accepted w event (refusal w event)

-- the world after a list of events
abbrev pub run : List WorldEvent → WorldState → WorldState
run [] w = w
run (event ∷ events) w = run events (happened w event)
