use Rattle.std.specs.Prelude.{◌≡◌, ◌<◌, ◌≤◌, ◌⊎◌, ℕ, List, Some, None, slice_get}
use Rattle.list_facts.specs.Lists.{In}
use Rattle.rec_id.specs.Identity.{Identity}
use Rattle.view_config.specs.Nodes.{seq_id, shard_id}
use Rattle.view_config.specs.Shape.{node_of}
use Rattle.view_config.specs.declared.nodes.TheConstants.{CONTROLLER}
use Rattle.lazy_msgs.specs.declared.input.Input.{Input}
use Rattle.lazy_msgs.specs.declared.input.Input.TheVariants.{Take, Post, Ask, Trim, Suspect, Peek}
use Rattle.lazy_msgs.specs.declared.input.WorldEvent.{WorldEvent}
use Rattle.lazy_msgs.specs.declared.input.WorldEvent.TheVariants.{Post as PostEvent, Ask as AskEvent, Trim as TrimEvent, Suspect as SuspectEvent}
use Rattle.lazy_msgs.specs.declared.msg.Envelope.{Envelope}
use Rattle.lazy_msgs.specs.declared.msg.Msg.{Msg}
use Rattle.lazy_msgs.specs.declared.msg.Msg.TheVariants.{Claim}
use Rattle.lazy_rules.specs.ClientNode.{ClientNode, client_node_step}
use Rattle.lazy_rules.specs.ControlRules.{control_step}
use Rattle.lazy_rules.specs.SeqRules.{seq_step}
use Rattle.lazy_rules.specs.SeqState.{SeqState}
use Rattle.lazy_rules.specs.ShardRules.{shard_step}
use Rattle.lazy_rules.specs.ShardState.{ShardState}
use Rattle.lazy_rules.specs.WorldState.{WorldState, shard_place}
use Rattle.lazy_rules.specs.WorldRules.{client_node, client_node_did, control_did, seq_did, shard_did, crashes, ids_at}

-- What one event comes to: one input at one node, or a crash.

-- the node, its state, and the input that it is given
pub data Turn : Type 0 where
  ClientTurn : ℕ → ClientNode → Input → Turn
  ControlTurn : Input → Turn
  SeqTurn : ℕ → SeqState → Input → Turn
  ShardTurn : ℕ → ℕ → ShardState → Input → Turn
  CrashTurn : ℕ → Turn

-- the time of what is received, 0 where nothing is
abbrev pub time_in : Input → ℕ
time_in (Take envelope) = envelope.time
time_in _ = 0

-- the world after a turn
abbrev pub turned : WorldState → Turn → WorldState
turned w (ClientTurn c n input) = client_node_did w c (time_in input) (client_node_step n input)
turned w (ControlTurn input) = control_did w (time_in input) (control_step w.control input)
turned w (SeqTurn i s input) = seq_did w (seq_id i) i (time_in input) (seq_step s input)
turned w (ShardTurn i j s input) = shard_did w (shard_id i j) (shard_place w.shape i j) (time_in input) (shard_step s input)
turned w (CrashTurn node) = crashes w node

-- the order from here on, as the sender of some Claim has it below what that claimed
pub record IsPeeked (w : WorldState) (from : ℕ) (ids : List Identity) : Type 0 where
  pub envelope : Envelope
  pub sent : In envelope w.sent
  pub stable : ℕ
  pub claims : envelope.msg ≡ Claim stable
  pub to : ℕ
  pub forward : from ≤ to
  pub within : to ≤ stable
  pub is : ids ≡ ids_at w from to (node_of w.shape envelope.from)

-- what a node takes was sent to it, what it is asked from outside meets this, and what it is shown is what some claim's
-- sender has
abbrev pub IsGiven : (Input → Type 0) → WorldState → ℕ → Input → Type 0
IsGiven Asked w node (Take envelope) = (envelope.to ≡ node) × In envelope w.sent
IsGiven Asked w node (Post bytes) = Asked (Post bytes)
IsGiven Asked w node (Ask ask) = Asked (Ask ask)
IsGiven Asked w node (Trim floor) = Asked (Trim floor)
IsGiven Asked w node (Suspect other) = Asked (Suspect other)
IsGiven Asked w node (Peek stable time replica from ids) = IsPeeked w from ids
IsGiven Asked w node _ = Unit {0}

-- the node has this state, and is given this input
pub record IsShardTurn (Asked : Input → Type 0) (w : WorldState) (i j : ℕ) (s : ShardState) (input : Input) : Type 0 where
  pub shard : i < w.shape.shards
  pub copy : j < w.shape.copies
  pub here : slice_get w.shards (shard_place w.shape i j) ≡ Some s
  pub given : IsGiven Asked w (shard_id i j) input

abbrev pub IsTurn : (Input → Type 0) → WorldState → Turn → Type 0
IsTurn Asked w (ClientTurn c n input) = (client_node w c ≡ Some n) × IsGiven Asked w c input
IsTurn Asked w (ControlTurn input) = IsGiven Asked w CONTROLLER input
IsTurn Asked w (SeqTurn i s input) = (slice_get w.seqs i ≡ Some s) × IsGiven Asked w (seq_id i) input
IsTurn Asked w (ShardTurn i j s input) = IsShardTurn Asked w i j s input
IsTurn Asked w (CrashTurn node) = Unit {0}

-- a world is the next one by one turn
pub record IsNext (Asked : Input → Type 0) (w next : WorldState) : Type 0 where
  pub turn : Turn
  pub is : IsTurn Asked w turn
  pub did : next ≡ turned w turn

-- any message but a Claim
abbrev pub IsMail : Msg → Type 0
IsMail (Claim stable) = ⊥
IsMail _ = Unit {0}

-- a message that is delivered to a number that no node has changes nothing
pub record IsLost (w next : WorldState) : Type 0 where
  pub envelope : Envelope
  pub sent : In envelope w.sent
  pub mail : IsMail envelope.msg
  pub nowhere : node_of w.shape envelope.to ≡ None
  pub same : next ≡ w

-- one turn, or a delivery to nobody
abbrev pub IsStep : WorldState → WorldState → Type 0
IsStep w next = IsNext (λ input. Unit {0}) w next ⊎ IsLost w next

-- what an event asks of a node from outside meets this
abbrev pub Meets : (Input → Type 0) → WorldEvent → Type 0
Meets Asked (PostEvent c bytes) = Asked (Post bytes)
Meets Asked (AskEvent c ask) = Asked (Ask ask)
Meets Asked (TrimEvent c floor) = Asked (Trim floor)
Meets Asked (SuspectEvent node) = Asked (Suspect node)
Meets Asked _ = Unit {0}
