-- No message is lost: each that isn't a Claim goes to a node.
use Rattle.world_facts.specs.Members.{IsSeqNode, IsShardNode, IsClientNode, Goes}
use Rattle.view_config.specs.declared.nodes.Node.TheVariants.{Client, Controller, Seq, Shard}
use Rattle.lazy_msgs.specs.declared.msg.Msg.TheVariants.{Append, AppendAck, Put, DataAck, Rejected, Place, Placed, Copy, Copied, Order, Ordered, Stable, Probe, ProbeAck, TailReady, Fetch, Part, Flush, FlushCopy, Flushed, Seal, Sealed, SealedEmpty, NewView, Started, AskView, ViewIs, Claim, Trim, TrimAck, TrimmedAt}
use Rattle.view_config.specs.declared.nodes.TheConstants.{CONTROLLER}
use Rattle.view_config.specs.Shape.{Dimensions, IsShape, node_of}
use Rattle.list_facts.specs.Lists.{Each}
use Rattle.lazy_msgs.specs.declared.msg.Envelope.{Envelope}
use Rattle.lazy_msgs.specs.declared.input.Input.{Input}
use Rattle.world_facts.specs.Turns.{IsMail, IsNext, IsStep}
use Rattle.lazy_msgs.specs.declared.msg.Msg.{Msg}
use Rattle.view_config.specs.declared.nodes.Node.{Node}
use Rattle.lazy_rules.specs.WorldState.{WorldState, first_world}
use Rattle.world_facts.proofs.Nodes.{client_node_of, control_node_of, seq_node_of, shard_node_at}
use Rattle.list_facts.proofs.Members.{each_in}
use Rattle.world_facts.proofs.Runs.{form_of_run, step_of_run}
use Rattle.world_facts.proofs.goes.All.{members_of_run}
use Rattle.std.proofs.Common.{◌≡◌, ◌∙◌, ℕ, inl, Some, ap, inr, None, sym}
use Rattle.lazy_rules.specs.WorldRules.{run, after}
use Rattle.world_facts.specs.Reached.{InEveryWorld, TurnsByEvents}

module _ (shape : Dimensions) (formed : IsShape shape) where
  -- a number that some node has
  abbrev pub IsOne : ℕ → Type 0
  IsOne node = (role : Node) × (node_of shape node ≡ Some role)

  client_one : (node : ℕ) → IsClientNode shape node → IsOne node
  client_one node h = (Client node, client_node_of shape formed node h)

  control_one : (node : ℕ) → node ≡ CONTROLLER → IsOne node
  control_one node h = (Controller, ap (node_of shape) h ∙ control_node_of shape formed)

  seq_one : (node : ℕ) → IsSeqNode shape node → IsOne node
  seq_one node h = (Seq h.place, ap (node_of shape) h.is ∙ seq_node_of shape formed h.place h.few)

  shard_one : (node : ℕ) → IsShardNode shape node → IsOne node
  shard_one node h = (Shard h.shard h.copy, ap (node_of shape) h.is ∙ shard_node_at shape formed h.shard h.copy h.row h.column)

  pub goes_to_one : (sender to : ℕ) (msg : Msg) → IsMail msg → Goes shape sender to msg → IsOne to
  goes_to_one sender to (Append view id bytes) mail h = seq_one to h.1
  goes_to_one sender to (AppendAck view id) mail h = client_one to h.1
  goes_to_one sender to (Put id bytes) mail h = shard_one to h.1
  goes_to_one sender to (DataAck view id) mail h = client_one to h.1
  goes_to_one sender to (Rejected id place) mail h = client_one to h.1
  goes_to_one sender to (Place view from items) mail h = shard_one to h.1
  goes_to_one sender to (Placed view upto) mail h = seq_one to h.1
  goes_to_one sender to (Copy view from cells) mail h = shard_one to h.1
  goes_to_one sender to (Copied view upto) mail h = shard_one to h.1
  goes_to_one sender to (Order view from ids) mail h = seq_one to h.1
  goes_to_one sender to (Ordered view upto) mail h = seq_one to h.1
  goes_to_one sender to (Stable view upto) mail h = shard_one to h.1
  goes_to_one sender to (Probe view read) mail h = seq_one to h.1
  goes_to_one sender to (ProbeAck view read) mail h = client_one to h.1
  goes_to_one sender to (TailReady view read tail) mail h = client_one to h.1
  goes_to_one sender to (Fetch read from end) mail h = shard_one to h.1
  goes_to_one sender to (Part read from end entries) mail h = client_one to h.1
  goes_to_one sender to (Flush config from items) mail h = shard_one to h.1
  goes_to_one sender to (FlushCopy view from cells) mail h = shard_one to h.1
  goes_to_one sender to (Flushed view) mail h = control_one to h.1
  goes_to_one sender to (Seal view) mail h = seq_one to h.1
  goes_to_one sender to (Sealed view bound window items) mail h = control_one to h.1
  goes_to_one sender to (SealedEmpty view) mail h = control_one to h.1
  goes_to_one sender to (NewView config base window) mail h = seq_one to h.1
  goes_to_one sender to (Started view) mail h = control_one to h.1
  goes_to_one sender to AskView mail h = control_one to h.1
  goes_to_one sender to (ViewIs config) mail h = client_one to h.1
  goes_to_one sender to (Claim stable) mail h = absurd mail
  goes_to_one sender to (Trim read floor) mail h = shard_one to h.1
  goes_to_one sender to (TrimAck read) mail h = client_one to h.1
  goes_to_one sender to (TrimmedAt read floor) mail h = client_one to h.1

  none_lost : (w next : WorldState) → w.shape ≡ shape → Each (λ (e : Envelope). Goes shape e.from e.to e.msg) w.sent → IsStep w next → IsNext (λ (input : Input). Unit {0}) w next
  none_lost w next shaped goes (inl is) = is
  none_lost w next shaped goes (inr lost) =
      let e = lost.envelope in
      let one = goes_to_one e.from e.to e.msg lost.mail (each_in (λ (x : Envelope). Goes shape x.from x.to x.msg) w.sent goes e lost.sent) in
      let wrong : None ≡ Some one.0 = sym lost.nowhere ∙ ap (λ (d : Dimensions). node_of d e.to) shaped ∙ one.1 in
      absurd (let no : ⊥ = cc in no)

-- in every world an event that isn't refused is one turn of one node
pub turn_of_run : InEveryWorld (λ shape w. TurnsByEvents w)
turn_of_run shape events formed event free =
    none_lost shape formed (run events (first_world shape)) (after (run events (first_world shape)) event) (form_of_run shape events).shaped (members_of_run shape events formed).sent (step_of_run shape events event free)
