-- A delivery is a turn of the addressee.
use Rattle.std.proofs.Common.{◌≡◌, ◌≤◌, ℕ, Bool, true, false, Option, Some, None, refl, sym, ap, ◌∙◌, subst}
use Rattle.std.specs.Prelude.{if◌then◌else◌}
use Rattle.list_facts.specs.Lists.{In}
use Rattle.list_facts.proofs.Members.{each_in}
use Rattle.view_config.specs.Shape.{node_of}
use Rattle.view_config.specs.declared.nodes.Node.{Node}
use Rattle.view_config.specs.declared.nodes.Node.TheVariants.{Client as ClientNode, Controller, Seq as SeqNode, Shard as ShardNode}
use Rattle.lazy_msgs.specs.declared.input.Input.TheVariants.{Take}
use Rattle.lazy_msgs.specs.declared.input.WorldEvent.TheVariants.{Deliver}
use Rattle.lazy_msgs.specs.declared.msg.Envelope.{Envelope}
use Rattle.lazy_msgs.specs.declared.msg.Msg.{Msg}
use Rattle.lazy_msgs.specs.declared.msg.Msg.TheVariants.{Claim}
use Rattle.lazy_msgs.specs.declared.refused.EventRefused.TheVariants.{Crashed}
use Rattle.lazy_rules.specs.ClientNode.{Half, Appends, Both, Reads, half_of, half_took}
use Rattle.lazy_rules.specs.ClientRules.{client_took}
use Rattle.lazy_rules.specs.ControlRules.{control_took}
use Rattle.lazy_rules.specs.ReaderRules.{reader_took}
use Rattle.lazy_rules.specs.Rows.{has_node}
use Rattle.lazy_rules.specs.WorldState.{WorldState, shard_place}
use Rattle.lazy_rules.specs.WorldRules.{appends_received, both_received, client_node_did, client_received, delivered, delivery_refused, delivery_to_refused, message_at, reads_received, received, seq_received, shard_received, stepped, with_client_node}
use Rattle.world_facts.specs.Members.{Goes}
use Rattle.world_facts.specs.Turns.{IsMail}
use Rattle.world_facts.proofs.Lists.{numbered_in}
use Rattle.world_facts.proofs.Nodes.{client_is, controller_is, seq_is, shard_is}
use Rattle.world_facts.proofs.goes.Lost.{goes_to_one}
use Rattle.lazy_core.specs.declared.node_state.NodeState.TheVariants.{Client, Control, Seq, Shard}
use Rattle.lazy_core.specs.declared.turns.Turn.{Turn}
use Rattle.lazy_core.specs.States.{client_there, seq_there, shard_there}
use Rattle.lazy_core.specs.Turning.{IsKnown, IsTurnIn, IsTurnOf, turn_after, turn_refusal}
use Rattle.lazy_core.proofs.RoleStates.{HasHalves, appends_did, halves_at, node, node_here, reads_did, seq_at, shard_at}

pub mail_of : (msg : Msg) → ((stable : ℕ) → msg ≡ Claim stable → ⊥) → IsMail msg
mail_of (Claim stable) h = h stable refl
mail_of _ h = tt

-- a message that isn't a Claim is refused where its addressee is crashed
mail_refused : (w : WorldState) (k to : ℕ) (msg : Msg) → IsMail msg → delivery_to_refused w k to msg ≡ (if has_node w.crashed to then Some (Crashed to) else None)
mail_refused w k to (Claim stable) mail = absurd mail
mail_refused w k to _ mail = refl

module _ (w : WorldState) (known : IsKnown w) (k : ℕ) (e : Envelope) (said : message_at w k ≡ Some e) (mail : IsMail e.msg) where
  abbrev turn : Turn
  turn = record { node = e.to; input = Take e; received = e.time }

  among : In e w.sent
  among = numbered_in w.sent k e said

  early : e.time ≤ w.events
  early = each_in (λ (x : Envelope). x.time ≤ w.events) w.sent known.form.sent_past e among

  -- the node of this role takes the message
  pub record IsDeliveredTo (role : Option Node) : Type 0 where
    pub is : IsTurnIn w turn
    pub next : received w e role ≡ turn_after w turn is
    pub reason : turn_refusal w turn is ≡ None

  -- by the half that it is for
  client_took_it : (c : ℕ) (own : HasHalves w c) (h : Half) → half_of e.msg ≡ h → client_received w c e h ≡ client_node_did w c e.time (half_took (half_of e.msg) (node w c own) e.from e.msg)
  client_took_it c own Appends is =
      ap (appends_received w c e) own.as_client
      ∙ appends_did w c own e.time (client_took own.appends e.from e.msg)
      ∙ ap (λ (h : Half). client_node_did w c e.time (half_took h (node w c own) e.from e.msg)) (sym is)
  client_took_it c own Reads is =
      ap (reads_received w c e) own.as_reader
      ∙ reads_did w c own e.time (reader_took own.reads e.from e.msg)
      ∙ ap (λ (h : Half). client_node_did w c e.time (half_took h (node w c own) e.from e.msg)) (sym is)
  client_took_it c own Both is =
      ap (both_received w c e) (node_here w c own)
      ∙ ap (λ (h : Half). client_node_did w c e.time (half_took h (node w c own) e.from e.msg)) (sym is)

  to_client : (c : ℕ) → node_of w.shape e.to ≡ Some (ClientNode c) → IsDeliveredTo (Some (ClientNode c))
  to_client c is =
      let k = client_is w.shape e.to c is in
      let own = halves_at w known c k.1 in
      record {
        is = record { role = ClientNode c; seated = is; state = Client own.appends own.reads; there = ap client_there (node_here w c own); past = early };
        next = client_took_it c own (half_of e.msg) refl
            ∙ ap (λ (m : ℕ). stepped (with_client_node w c (half_took (half_of e.msg) (node w c own) e.from e.msg).next) m e.time (half_took (half_of e.msg) (node w c own) e.from e.msg).sends (half_took (half_of e.msg) (node w c own) e.from e.msg).events) (sym k.0);
        reason = refl;
      }

  to_control : node_of w.shape e.to ≡ Some Controller → IsDeliveredTo (Some Controller)
  to_control is = record {
    is = record { role = Controller; seated = is; state = Control w.control; there = refl; past = early };
    next = ap (λ (m : ℕ). stepped (record w { control = (control_took w.control e.from e.msg).next }) m e.time (control_took w.control e.from e.msg).sends (control_took w.control e.from e.msg).events) (sym (controller_is w.shape e.to is));
    reason = refl;
  }

  to_seq : (i : ℕ) → node_of w.shape e.to ≡ Some (SeqNode i) → IsDeliveredTo (Some (SeqNode i))
  to_seq i is =
      let at = seq_at w known i (seq_is w.shape e.to i is).1 in
      record {
        is = record { role = SeqNode i; seated = is; state = Seq at.0; there = ap seq_there at.1; past = early };
        next = ap (seq_received w i e) at.1;
        reason = refl;
      }

  to_shard : (i j : ℕ) → node_of w.shape e.to ≡ Some (ShardNode i j) → IsDeliveredTo (Some (ShardNode i j))
  to_shard i j is =
      let k = shard_is w.shape e.to i j is in
      let at = shard_at w known i j k.1 k.2 in
      record {
        is = record { role = ShardNode i j; seated = is; state = Shard at.0; there = ap shard_there at.1; past = early };
        next = ap (shard_received w (shard_place w.shape i j) e) at.1;
        reason = refl;
      }

  to_node : (role : Node) → node_of w.shape e.to ≡ Some role → IsDeliveredTo (Some role)
  to_node (ClientNode c) is = to_client c is
  to_node Controller is = to_control is
  to_node (SeqNode i) is = to_seq i is
  to_node (ShardNode i j) is = to_shard i j is

  delivered_so : (role : Node) → node_of w.shape e.to ≡ Some role → IsDeliveredTo (node_of w.shape e.to)
  delivered_so role is = subst IsDeliveredTo (sym is) (to_node role is)

  pub delivery_turn : has_node w.crashed e.to ≡ false → IsTurnOf w (Deliver k) turn
  delivery_turn alive =
      let one = goes_to_one w.shape known.formed e.from e.to e.msg mail (each_in (λ (x : Envelope). Goes w.shape x.from x.to x.msg) w.sent known.members.sent e among) in
      let h = delivered_so one.0 one.1 in
      record {
        is = h.is;
        next = ap (delivered w) said ∙ h.next;
        reason = ap (delivery_refused w k) said ∙ mail_refused w k e.to e.msg mail ∙ ap (λ (dead : Bool). if dead then Some (Crashed e.to) else None) alive ∙ sym h.reason;
      }

  pub delivery_crashed : has_node w.crashed e.to ≡ true → delivery_refused w k (message_at w k) ≡ Some (Crashed e.to)
  delivery_crashed dead =
      ap (delivery_refused w k) said ∙ mail_refused w k e.to e.msg mail ∙ ap (λ (b : Bool). if b then Some (Crashed e.to) else None) dead
