use Rattle.std.specs.Prelude.{ℕ, List, [], ◌∷◌, length, Bool, ◌||◌, nat_lt, if◌then◌else◌}
use Rattle.rec_id.specs.Identity.{Identity}
use Rattle.rec_id.specs.declared.event.Event.TheVariants.{Seen}
use Rattle.lazy_msgs.specs.declared.input.Input.{Input}
use Rattle.lazy_msgs.specs.declared.input.Input.TheVariants.{Take, Tick, Post, Ask, Trim, Peek}
use Rattle.lazy_msgs.specs.declared.msg.Msg.{Msg}
use Rattle.lazy_msgs.specs.declared.msg.Msg.TheVariants.{AppendAck, DataAck, Rejected, AskView, ViewIs}
use Rattle.lazy_msgs.specs.Step.{Row}
use Rattle.lazy_rules.specs.ClientRules.{client_took, on_client_tick, on_post}
use Rattle.lazy_rules.specs.ClientState.{ClientState}
use Rattle.lazy_rules.specs.ReaderRules.{reader_took, on_reader_tick, on_ask, on_trim_input}
use Rattle.lazy_rules.specs.ReaderState.{ReaderState, is_at_work}
use Rattle.lazy_rules.specs.Rows.{stays, answers, followed}
use Rattle.view_config.specs.declared.nodes.TheConstants.{CONTROLLER}

-- A client's node: a half that appends, and a half that reads and trims.

pub record ClientNode : Type 0 where
  pub appends : ClientState
  pub reads : ReaderState

-- the step of one half, as the node's
abbrev pub with_appends : ClientNode → ClientState → ClientNode
with_appends n appends = record n { appends = appends }

abbrev pub with_reads : ClientNode → ReaderState → ClientNode
with_reads n reads = record n { reads = reads }

abbrev pub in_appends : ClientNode → Row ClientState → Row ClientNode
in_appends n row = record { next = with_appends n row.next; sends = row.sends; events = row.events }

abbrev pub in_reads : ClientNode → Row ReaderState → Row ClientNode
in_reads n row = record { next = with_reads n row.next; sends = row.sends; events = row.events }

-- which half a message is for
pub data Half : Type 0 where
  Appends : Half
  Reads : Half
  Both : Half

abbrev pub half_of : Msg → Half
half_of (AppendAck view id) = Appends
half_of (DataAck view id) = Appends
half_of (Rejected id place) = Appends
half_of (ViewIs config) = Both
half_of _ = Reads

-- what a message from a node does: one for both halves is first the appends'
abbrev pub appends_took : ClientNode → ℕ → Msg → Row ClientNode
appends_took n sender msg = in_appends n (client_took n.appends sender msg)

abbrev pub reads_took : ClientNode → ℕ → Msg → Row ClientNode
reads_took n sender msg = in_reads n (reader_took n.reads sender msg)

abbrev pub half_took : Half → ClientNode → ℕ → Msg → Row ClientNode
half_took Appends n sender msg = appends_took n sender msg
half_took Reads n sender msg = reads_took n sender msg
half_took Both n sender msg = followed (appends_took n sender msg) (λ after. reads_took after sender msg)

abbrev pub client_node_took : ClientNode → ℕ → Msg → Row ClientNode
client_node_took n sender msg = half_took (half_of msg) n sender msg

-- some append isn't finished, or a read or trim isn't
abbrev pub is_appending : ClientState → Bool
is_appending c = nat_lt 0 (length c.unfinished)

abbrev pub is_reading : ReaderState → Bool
is_reading r = is_at_work r.stage

abbrev pub is_busy : ClientNode → Bool
is_busy n = is_appending n.appends || is_reading n.reads

-- Tick: first the appends, then the reads, and a client that was busy also asks for the latest
-- configuration
abbrev pub appends_tick : ClientNode → Row ClientNode
appends_tick n = in_appends n (on_client_tick n.appends)

abbrev pub reads_tick : ClientNode → Row ClientNode
reads_tick n = in_reads n (on_reader_tick n.reads)

abbrev pub asks_view : Bool → ClientNode → Row ClientNode
asks_view was_busy n = if was_busy then answers n CONTROLLER AskView else stays n

abbrev pub on_node_tick : ClientNode → Row ClientNode
on_node_tick n = followed (followed (appends_tick n) reads_tick) (asks_view (is_busy n))

-- Peek: the client is told the order. Which claim it was read from is for diaries alone
abbrev pub sees : ClientNode → ℕ → List Identity → Row ClientNode
sees n from ids = record { next = n; sends = []; events = Seen n.appends.client from ids ∷ [] }

-- what an input does to a client's node
abbrev pub client_node_step : ClientNode → Input → Row ClientNode
client_node_step n (Take envelope) = client_node_took n envelope.from envelope.msg
client_node_step n Tick = on_node_tick n
client_node_step n (Post bytes) = in_appends n (on_post n.appends bytes)
client_node_step n (Ask ask) = in_reads n (on_ask n.reads ask)
client_node_step n (Trim floor) = in_reads n (on_trim_input n.reads floor)
client_node_step n (Peek stable time replica from ids) = sees n from ids
client_node_step n _ = stays n
