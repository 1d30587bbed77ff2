-- What can be claimed of every world: something of the state of each node, by its role, and of each message
-- that was sent. And what is to be shown for it, role by role.
use Rattle.std.proofs.Common.{◌≡◌, ℕ, ◌+◌, ◌<◌, List}
use Rattle.std.specs.Prelude.{◌/◌, ◌%◌, Some, slice_get}
use Rattle.list_facts.specs.Lists.{Each}
use Rattle.view_config.specs.Nodes.{seq_id, shard_id}
use Rattle.view_config.specs.Shape.{Dimensions}
use Rattle.view_config.specs.declared.nodes.TheConstants.{CONTROLLER}
use Rattle.lazy_msgs.specs.declared.input.Input.{Input}
use Rattle.lazy_msgs.specs.declared.input.Input.TheVariants.{Take, Post, Ask, Trim, Suspect}
use Rattle.lazy_msgs.specs.declared.input.WorldEvent.{WorldEvent}
use Rattle.lazy_msgs.specs.declared.msg.Envelope.{Envelope}
use Rattle.lazy_msgs.specs.declared.msg.Msg.{Msg}
use Rattle.lazy_msgs.specs.declared.msg.Msg.TheVariants.{AskView}
use Rattle.lazy_msgs.specs.Step.{Row}
use Rattle.lazy_rules.specs.ClientRules.{client_step}
use Rattle.lazy_rules.specs.ClientState.{ClientState, first_client}
use Rattle.lazy_rules.specs.ControlRules.{control_step}
use Rattle.lazy_rules.specs.ControlState.{ControlState, first_control}
use Rattle.lazy_rules.specs.ReaderRules.{reader_step}
use Rattle.lazy_rules.specs.ReaderState.{ReaderState, first_reader}
use Rattle.lazy_rules.specs.SeqRules.{seq_step}
use Rattle.lazy_rules.specs.SeqState.{SeqState, first_seq}
use Rattle.lazy_rules.specs.ShardRules.{shard_step}
use Rattle.lazy_rules.specs.ShardState.{ShardState, first_shard}
use Rattle.lazy_rules.specs.WorldState.{WorldState, first_world}
use Rattle.lazy_rules.specs.WorldRules.{run}
use Rattle.world_facts.specs.Turns.{Meets}

-- each claim is of a world of so many events; of a client's halves by its number, of a sequencing replica by its
-- place, of a shard replica by its shard and its place there, and of a message by its sender and its addressee
pub record Claims : Type 1 where
  pub client : ℕ → ℕ → ClientState → Type 0
  pub reader : ℕ → ℕ → ReaderState → Type 0
  pub control : ℕ → ControlState → Type 0
  pub seq : ℕ → ℕ → SeqState → Type 0
  pub shard : ℕ → ℕ → ℕ → ShardState → Type 0
  pub sent : ℕ → ℕ → ℕ → Msg → Type 0

-- the claims hold of all parts of a world
pub record Holds (shape : Dimensions) (claims : Claims) (w : WorldState) : Type 0 where
  pub clients : (c : ℕ) (s : ClientState) → slice_get w.clients c ≡ Some s → claims.client w.events c s
  pub readers : (c : ℕ) (s : ReaderState) → slice_get w.readers c ≡ Some s → claims.reader w.events c s
  pub control : claims.control w.events w.control
  pub seqs : (i : ℕ) (s : SeqState) → slice_get w.seqs i ≡ Some s → claims.seq w.events i s
  pub shards : (k : ℕ) (s : ShardState) → slice_get w.shards k ≡ Some s → claims.shard w.events (k / shape.copies) (k % shape.copies) s
  pub sent : Each (λ (e : Envelope). claims.sent w.events e.from e.to e.msg) w.sent

-- what holds of a part stays so while other parts change
pub record Lasting (claims : Claims) : Type 0 where
  pub client : (n c : ℕ) (s : ClientState) → claims.client n c s → claims.client (n + 1) c s
  pub reader : (n c : ℕ) (s : ReaderState) → claims.reader n c s → claims.reader (n + 1) c s
  pub control : (n : ℕ) (s : ControlState) → claims.control n s → claims.control (n + 1) s
  pub seq : (n i : ℕ) (s : SeqState) → claims.seq n i s → claims.seq (n + 1) i s
  pub shard : (n i j : ℕ) (s : ShardState) → claims.shard n i j s → claims.shard (n + 1) i j s
  pub sent : (n sender to : ℕ) (msg : Msg) → claims.sent n sender to msg → claims.sent (n + 1) sender to msg

-- a row leaves a state of which this holds, and sends messages of which that holds
pub record Keeps {S : Type 0} (State : S → Type 0) (Send : ℕ → Msg → Type 0) (row : Row S) : Type 0 where
  pub next : State row.next
  pub sends : Each (λ (send : ℕ × Msg). Send send.0 send.1) row.sends

-- a message that a node takes: what is known of it, and what is claimed
pub record Heard (known claims : Claims) (n me sender : ℕ) (msg : Msg) : Type 0 where
  pub knew : known.sent n sender me msg
  pub said : claims.sent n sender me msg

-- an input that a node is given: from outside, it meets this
abbrev pub Given : (Input → Type 0) → Claims → Claims → ℕ → ℕ → Input → Type 0
Given Asked known claims n me (Take envelope) = Heard known claims n me envelope.from envelope.msg
Given Asked known claims n me (Post bytes) = Asked (Post bytes)
Given Asked known claims n me (Ask ask) = Asked (Ask ask)
Given Asked known claims n me (Trim floor) = Asked (Trim floor)
Given Asked known claims n me (Suspect node) = Asked (Suspect node)
Given Asked known claims n me _ = Unit {0}

-- the case of one node, whose number is `me`: its first state, and each of its steps
pub record Case {S : Type 0} (Known Claimed : ℕ → S → Type 0) (Gets : ℕ → Input → Type 0) (Send : ℕ → ℕ → Msg → Type 0) (start : S) (step : S → Input → Row S) : Type 0 where
  pub first : Claimed 0 start
  pub steps : (n : ℕ) (s : S) (input : Input) → Known n s → Claimed n s → Gets n input → Keeps (Claimed (n + 1)) (Send (n + 1)) (step s input)

-- what is to be shown for the claims, where others are known to hold
pub record Cases (shape : Dimensions) (Asked : Input → Type 0) (known claims : Claims) : Type 0 where
  pub lasting : Lasting claims
  pub client : (c : ℕ) → c < shape.clients → Case (λ (n : ℕ). known.client n c) (λ (n : ℕ). claims.client n c) (λ (n : ℕ). Given Asked known claims n c) (λ (n : ℕ). claims.sent n c) (first_client shape c) client_step
  pub reader : (c : ℕ) → c < shape.clients → Case (λ (n : ℕ). known.reader n c) (λ (n : ℕ). claims.reader n c) (λ (n : ℕ). Given Asked known claims n c) (λ (n : ℕ). claims.sent n c) (first_reader shape c) reader_step
  -- a client that was busy asks for the latest view
  pub asking : (n c : ℕ) → c < shape.clients → claims.sent n c CONTROLLER AskView
  pub control : Case known.control claims.control (λ (n : ℕ). Given Asked known claims n CONTROLLER) (λ (n : ℕ). claims.sent n CONTROLLER) (first_control shape) control_step
  pub seq : (i : ℕ) → i < shape.seq + shape.spares → Case (λ (n : ℕ). known.seq n i) (λ (n : ℕ). claims.seq n i) (λ (n : ℕ). Given Asked known claims n (seq_id i)) (λ (n : ℕ). claims.sent n (seq_id i)) (first_seq shape i) seq_step
  pub shard : (i j : ℕ) → i < shape.shards → j < shape.copies → Case (λ (n : ℕ). known.shard n i j) (λ (n : ℕ). claims.shard n i j) (λ (n : ℕ). Given Asked known claims n (shard_id i j)) (λ (n : ℕ). claims.sent n (shard_id i j)) (first_shard shape i j) shard_step

-- the claims hold of every world, where what is asked from outside meets this
pub record Always (shape : Dimensions) (Asked : Input → Type 0) (claims : Claims) : Type 0 where
  pub holds : (events : List WorldEvent) → Each (Meets Asked) events → Holds shape claims (run events (first_world shape))

-- nothing is claimed
abbrev pub nothing : Claims
nothing = record {
  client = λ n c s. Unit {0};
  reader = λ n c s. Unit {0};
  control = λ n s. Unit {0};
  seq = λ n i s. Unit {0};
  shard = λ n i j s. Unit {0};
  sent = λ n sender to msg. Unit {0};
}

-- the one claims and the other
abbrev pub both : Claims → Claims → Claims
both a b = record {
  client = λ n c s. a.client n c s × b.client n c s;
  reader = λ n c s. a.reader n c s × b.reader n c s;
  control = λ n s. a.control n s × b.control n s;
  seq = λ n i s. a.seq n i s × b.seq n i s;
  shard = λ n i j s. a.shard n i j s × b.shard n i j s;
  sent = λ n sender to msg. a.sent n sender to msg × b.sent n sender to msg;
}
