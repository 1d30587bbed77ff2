use Rattle.std.specs.Prelude.{◌≡◌, ◌≤◌, ℕ, List, [], ◌∷◌, ◌++◌, Option, slice_range}
use Rattle.list_facts.specs.Lists.{Each}
use Rattle.rec_id.specs.Identity.{Identity}
use Rattle.rec_id.specs.declared.entry.Entry.{Entry}
use Rattle.rec_id.specs.declared.event.Ask.{Ask as AskOf}
use Rattle.rec_id.specs.declared.event.Event.TheVariants.{Seen}
use Rattle.rec_id.specs.declared.item.Cell.{Cell}
use Rattle.rec_id.specs.declared.item.Item.{Item}
use Rattle.rec_id.specs.declared.marks.Marks.{Marks}
use Rattle.view_config.specs.Shape.{Dimensions, IsShape}
use Rattle.view_config.specs.declared.config.Config.{Config}
use Rattle.view_config.specs.declared.nodes.TheConstants.{CONTROLLER}
use Rattle.lazy_msgs.specs.Step.{Row}
use Rattle.lazy_msgs.specs.declared.input.Input.{Input}
use Rattle.lazy_msgs.specs.declared.input.Input.TheVariants.{Tick, Grace, Post, Ask, Trim, Suspect}
use Rattle.lazy_msgs.specs.declared.msg.Msg.{Msg}
use Rattle.lazy_msgs.specs.declared.msg.Msg.TheVariants.{Append, AppendAck, Put, DataAck, Rejected, Place, Placed, Copy, Copied, Order, Ordered, Stable, Probe, ProbeAck, TailReady, Fetch, Part, Flush, FlushCopy, Flushed, Seal, Sealed, SealedEmpty, NewView, Started, AskView, ViewIs, Trim as TrimMsg, TrimAck, TrimmedAt}
use Rattle.lazy_rules.specs.ClientRules.{client_row, client_step}
use Rattle.lazy_rules.specs.ClientState.{ClientState}
use Rattle.lazy_rules.specs.ControlRules.{control_row, control_step}
use Rattle.lazy_rules.specs.ControlState.{ControlState}
use Rattle.lazy_rules.specs.ReaderRules.{reader_row, reader_step}
use Rattle.lazy_rules.specs.ReaderState.{ReaderState}
use Rattle.lazy_rules.specs.SeqRules.{seq_row, seq_step}
use Rattle.lazy_rules.specs.SeqState.{SeqState}
use Rattle.lazy_rules.specs.ShardRules.{shard_row, shard_step}
use Rattle.lazy_rules.specs.ShardState.{ShardState}
use Rattle.lazy_rules.specs.WorldRules.{ids_in}
use Rattle.world_facts.specs.Members.{Goes, IsClientNode, IsSeqNode, IsShardNode}
use Rattle.log_facts.specs.Agreed.{Agreed}
use Rattle.log_facts.specs.Ghosts.{Ghost}
use Rattle.log_facts.specs.Parts.{Formed, Parts, with_client, with_control, with_reader, with_seq, with_shard}
use Rattle.log_facts.specs.Said.{Said}
use Rattle.log_facts.specs.Says.{ClaimSays}

-- What is to be shown of a step of a node, and of which steps.

-- a step from the one to the other parts, by which this node sends this, is good: with some ghost the facts hold after it,
-- all that was said goes on being said, and what is sent says what it should
pub record Good (shape : Dimensions) (g : Ghost) (a : Parts) (me : ℕ) (b : Parts) (sends : List (ℕ × Msg)) : Type 0 where
  pub ghost : Ghost
  pub agreed : Agreed shape ghost b
  pub lifts : (node to : ℕ) (msg : Msg) → Said shape g a node to msg → Said shape ghost b node to msg
  pub said : Each (λ (send : ℕ × Msg). Said shape ghost b me send.0 send.1) sends

-- what is known where a step begins
pub record Moment (shape : Dimensions) (g : Ghost) (a : Parts) : Type 0 where
  pub is_shape : IsShape shape
  pub formed : Formed shape a
  pub agreed : Agreed shape g a

-- what is known of a message that is taken
pub record Heard (shape : Dimensions) (g : Ghost) (a : Parts) (sender me : ℕ) (msg : Msg) : Type 0 where
  pub goes : Goes shape sender me msg
  pub said : Said shape g a sender me msg

-- the row of a node of each role is good
abbrev pub GoodSeq : Dimensions → Ghost → Parts → ℕ → Row SeqState → Type 0
GoodSeq shape g a me row = Good shape g a me (with_seq a me row.next) row.sends

abbrev pub GoodShard : Dimensions → Ghost → Parts → ℕ → Row ShardState → Type 0
GoodShard shape g a me row = Good shape g a me (with_shard a me row.next) row.sends

abbrev pub GoodClient : Dimensions → Ghost → Parts → ℕ → Row ClientState → Type 0
GoodClient shape g a c row = Good shape g a c (with_client a c row.next row.events) row.sends

abbrev pub GoodReader : Dimensions → Ghost → Parts → ℕ → Row ReaderState → Type 0
GoodReader shape g a c row = Good shape g a c (with_reader a c row.next row.events) row.sends

abbrev pub GoodControl : Dimensions → Ghost → Parts → Row ControlState → Type 0
GoodControl shape g a row = Good shape g a CONTROLLER (with_control a row.next) row.sends

-- ---- sequencing replicas

-- a message that a replica takes, and an input from outside
abbrev pub SeqTakes : Dimensions → Msg → Type 0
SeqTakes shape msg =
    (g : Ghost) (a : Parts) (sender me : ℕ) → Moment shape g a → IsSeqNode shape me → Heard shape g a sender me msg →
    GoodSeq shape g a me (seq_row (a.seqs me) sender msg)

abbrev pub SeqGets : Dimensions → Input → Type 0
SeqGets shape input = (g : Ghost) (a : Parts) (me : ℕ) → Moment shape g a → IsSeqNode shape me → GoodSeq shape g a me (seq_step (a.seqs me) input)

pub record SeqRows (shape : Dimensions) : Type 0 where
  pub append : (view : ℕ) (id : Identity) (bytes : Option (List ℕ)) → SeqTakes shape (Append view id bytes)
  pub placed : (view upto : ℕ) → SeqTakes shape (Placed view upto)
  pub order : (view from : ℕ) (ids : List Identity) → SeqTakes shape (Order view from ids)
  pub ordered : (view upto : ℕ) → SeqTakes shape (Ordered view upto)
  pub probe : (view read : ℕ) → SeqTakes shape (Probe view read)
  pub seal : (view : ℕ) → SeqTakes shape (Seal view)
  pub new_view : (config : Config) (base : ℕ) (window : List Marks) → SeqTakes shape (NewView config base window)
  pub tick : SeqGets shape Tick

-- ---- shard replicas

abbrev pub ShardTakes : Dimensions → Msg → Type 0
ShardTakes shape msg =
    (g : Ghost) (a : Parts) (sender me : ℕ) → Moment shape g a → IsShardNode shape me → Heard shape g a sender me msg →
    GoodShard shape g a me (shard_row (a.shards me) sender msg)

abbrev pub ShardGets : Dimensions → Input → Type 0
ShardGets shape input = (g : Ghost) (a : Parts) (me : ℕ) → Moment shape g a → IsShardNode shape me → GoodShard shape g a me (shard_step (a.shards me) input)

pub record ShardRows (shape : Dimensions) : Type 0 where
  pub place : (view from : ℕ) (items : List Item) → ShardTakes shape (Place view from items)
  pub copy : (view from : ℕ) (cells : List Cell) → ShardTakes shape (Copy view from cells)
  pub copied : (view upto : ℕ) → ShardTakes shape (Copied view upto)
  pub stable : (view upto : ℕ) → ShardTakes shape (Stable view upto)
  pub put : (id : Identity) (bytes : List ℕ) → ShardTakes shape (Put id bytes)
  pub fetch : (read from end : ℕ) → ShardTakes shape (Fetch read from end)
  pub flush : (config : Config) (from : ℕ) (items : List Item) → ShardTakes shape (Flush config from items)
  pub flush_copy : (view from : ℕ) (cells : List Cell) → ShardTakes shape (FlushCopy view from cells)
  pub trim : (read floor : ℕ) → ShardTakes shape (TrimMsg read floor)
  pub grace : ShardGets shape Grace

-- ---- clients, the half that appends

abbrev pub ClientTakes : Dimensions → Msg → Type 0
ClientTakes shape msg =
    (g : Ghost) (a : Parts) (sender c : ℕ) → Moment shape g a → IsClientNode shape c → Heard shape g a sender c msg →
    GoodClient shape g a c (client_row (a.clients c) sender msg)

abbrev pub ClientGets : Dimensions → Input → Type 0
ClientGets shape input = (g : Ghost) (a : Parts) (c : ℕ) → Moment shape g a → IsClientNode shape c → GoodClient shape g a c (client_step (a.clients c) input)

pub record ClientRows (shape : Dimensions) : Type 0 where
  pub append_ack : (view : ℕ) (id : Identity) → ClientTakes shape (AppendAck view id)
  pub data_ack : (view : ℕ) (id : Identity) → ClientTakes shape (DataAck view id)
  pub rejected : (id : Identity) (place : ℕ) → ClientTakes shape (Rejected id place)
  pub view_is : (config : Config) → ClientTakes shape (ViewIs config)
  pub tick : ClientGets shape Tick
  pub post : (bytes : List ℕ) → ClientGets shape (Post bytes)

-- ---- clients, the half that reads and trims

abbrev pub ReaderTakes : Dimensions → Msg → Type 0
ReaderTakes shape msg =
    (g : Ghost) (a : Parts) (sender c : ℕ) → Moment shape g a → IsClientNode shape c → Heard shape g a sender c msg →
    GoodReader shape g a c (reader_row (a.readers c) sender msg)

abbrev pub ReaderGets : Dimensions → Input → Type 0
ReaderGets shape input = (g : Ghost) (a : Parts) (c : ℕ) → Moment shape g a → IsClientNode shape c → GoodReader shape g a c (reader_step (a.readers c) input)

pub record ReaderRows (shape : Dimensions) : Type 0 where
  pub probe_ack : (view read : ℕ) → ReaderTakes shape (ProbeAck view read)
  pub tail_ready : (view read tail : ℕ) → ReaderTakes shape (TailReady view read tail)
  pub part : (read from end : ℕ) (entries : List (ℕ × Entry)) → ReaderTakes shape (Part read from end entries)
  pub view_is : (config : Config) → ReaderTakes shape (ViewIs config)
  pub trim_ack : (read : ℕ) → ReaderTakes shape (TrimAck read)
  pub trimmed_at : (read floor : ℕ) → ReaderTakes shape (TrimmedAt read floor)
  pub tick : ReaderGets shape Tick
  pub ask : (ask : AskOf) → ReaderGets shape (Ask ask)
  pub trim : (floor : ℕ) → ReaderGets shape (Trim floor)

-- ---- the controller

abbrev pub ControlTakes : Dimensions → Msg → Type 0
ControlTakes shape msg =
    (g : Ghost) (a : Parts) (sender : ℕ) → Moment shape g a → Heard shape g a sender CONTROLLER msg → GoodControl shape g a (control_row a.control sender msg)

abbrev pub ControlGets : Dimensions → Input → Type 0
ControlGets shape input = (g : Ghost) (a : Parts) → Moment shape g a → GoodControl shape g a (control_step a.control input)

pub record ControlRows (shape : Dimensions) : Type 0 where
  pub sealed : (view bound : ℕ) (window : List Marks) (items : List Item) → ControlTakes shape (Sealed view bound window items)
  pub sealed_empty : (view : ℕ) → ControlTakes shape (SealedEmpty view)
  pub flushed : (view : ℕ) → ControlTakes shape (Flushed view)
  pub started : (view : ℕ) → ControlTakes shape (Started view)
  pub ask_view : ControlTakes shape AskView
  pub tick : ControlGets shape Tick
  pub suspect : (node : ℕ) → ControlGets shape (Suspect node)

-- ---- what a client is shown of the order: what the sender of a claim has in it, below what that claimed

pub record IsShown (shape : Dimensions) (a : Parts) (from : ℕ) (ids : List Identity) : Type 0 where
  pub node : ℕ
  pub replica : IsShardNode shape node
  pub stable : ℕ
  pub claimed : ClaimSays (a.shards node) stable
  pub to : ℕ
  pub forward : from ≤ to
  pub within : to ≤ stable
  pub is : ids ≡ ids_in (slice_range (a.shards node).store.order from to)

pub record SeenRows (shape : Dimensions) : Type 0 where
  pub seen :
      (g : Ghost) (a : Parts) (c from : ℕ) (ids : List Identity) → Moment shape g a → IsClientNode shape c → IsShown shape a from ids →
      Good shape g a c (record a { history = a.history ++ Seen c from ids ∷ [] }) []

-- all rows are good
pub record AllRows (shape : Dimensions) : Type 0 where
  pub seqs : SeqRows shape
  pub shards : ShardRows shape
  pub clients : ClientRows shape
  pub readers : ReaderRows shape
  pub control : ControlRows shape
  pub seen : SeenRows shape
