-- A step that is entered in the ledger is a step of the world.
use Rattle.std.proofs.Common.{◌≡◌, ℕ, List, refl}
use Rattle.rec_id.specs.declared.event.Event.{Event}
use Rattle.view_config.specs.declared.nodes.Node.{Node}
use Rattle.view_config.specs.declared.nodes.Node.TheVariants.{Client as ClientNode, Controller, Seq as SeqNode, Shard as ShardNode}
use Rattle.lazy_msgs.specs.declared.msg.Msg.{Msg}
use Rattle.lazy_rules.specs.WorldRules.{stepped}
use Rattle.lazy_rules.specs.WorldState.{WorldState}
use Rattle.lazy_core.specs.declared.node_state.NodeState.{NodeState}
use Rattle.lazy_core.specs.declared.node_state.NodeState.TheVariants.{Seq, Shard, Client, Control}
use Rattle.lazy_core.specs.Ledger.{Adds, Keeps, LedgerState}
use Rattle.lazy_core.specs.States.{set_state, state_at}

-- a world with what was sent and told
abbrev pub with_ledger : WorldState → LedgerState → WorldState
with_ledger v l = record v { times = l.times; sent = l.sent; history = l.history; events = l.events }

-- the state of a node hangs on the states alone
pub state_with : (v : WorldState) (l : LedgerState) (role : Node) → state_at (with_ledger v l) role ≡ state_at v role
state_with v l (ClientNode c) = refl
state_with v l Controller = refl
state_with v l (SeqNode i) = refl
state_with v l (ShardNode i j) = refl

pub set_with : (v : WorldState) (l : LedgerState) (role : Node) (next : NodeState) → set_state (with_ledger v l) role next ≡ with_ledger (set_state v role next) l
set_with v l (ClientNode c) (Client a r) = refl
set_with v l (ClientNode c) (Seq t) = refl
set_with v l (ClientNode c) (Shard t) = refl
set_with v l (ClientNode c) (Control k) = refl
set_with v l Controller (Client a r) = refl
set_with v l Controller (Seq t) = refl
set_with v l Controller (Shard t) = refl
set_with v l Controller (Control k) = refl
set_with v l (SeqNode i) (Client a r) = refl
set_with v l (SeqNode i) (Seq t) = refl
set_with v l (SeqNode i) (Shard t) = refl
set_with v l (SeqNode i) (Control k) = refl
set_with v l (ShardNode i j) (Client a r) = refl
set_with v l (ShardNode i j) (Seq t) = refl
set_with v l (ShardNode i j) (Shard t) = refl
set_with v l (ShardNode i j) (Control k) = refl

-- nothing happened
pub kept_world : (v : WorldState) (l m : LedgerState) → Keeps l m → with_ledger v m ≡ with_ledger v l
kept_world v l m keeps = rw (keeps.times, keeps.sent, keeps.history, keeps.events)

-- a step was entered
pub entered_world : (v : WorldState) (l m n : LedgerState) (node received : ℕ) (sends : List (ℕ × Msg)) (told : List Event) → Keeps l m → Adds node received sends told m n → with_ledger v n ≡ stepped (with_ledger v l) node received sends told
entered_world v l m n node received sends told keeps adds =
    rw (adds.times, adds.sent, adds.history, adds.events, keeps.times, keeps.sent, keeps.history, keeps.events)
