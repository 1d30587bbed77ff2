-- Ticks, graces and suspicions are turns of their node.
use Rattle.std.proofs.Common.{◌≡◌, ℕ, Option, Some, None, refl, sym, ap, ◌∙◌, arith}
use Rattle.view_config.specs.Shape.{node_of}
use Rattle.view_config.specs.declared.edition.Edition.{Edition}
use Rattle.view_config.specs.declared.nodes.Node.{Node}
use Rattle.view_config.specs.declared.nodes.Node.TheVariants.{Client as ClientNode, Controller, Seq as SeqNode, Shard as ShardNode}
use Rattle.view_config.specs.declared.nodes.TheConstants.{CONTROLLER}
use Rattle.lazy_msgs.specs.declared.input.Input.{Input}
use Rattle.lazy_msgs.specs.declared.input.Input.TheVariants.{Tick as TickInput, Grace as GraceInput, Suspect as SuspectInput}
use Rattle.lazy_msgs.specs.declared.input.WorldEvent.TheVariants.{Tick, Grace, Suspect}
use Rattle.lazy_msgs.specs.Step.{Row}
use Rattle.lazy_msgs.specs.declared.refused.EventRefused.TheVariants.{NoNode}
use Rattle.lazy_rules.specs.ClientNode.{ClientNode as Halves, client_node_step}
use Rattle.lazy_rules.specs.ControlRules.{control_step}
use Rattle.lazy_rules.specs.ControlState.{ControlState}
use Rattle.lazy_rules.specs.WorldState.{WorldState, shard_place}
use Rattle.lazy_rules.specs.WorldRules.{client_given, client_node_did, given, seq_given, shard_given, step_refused_at, stepped, suspect_refused_at, with_client_node}
use Rattle.world_facts.proofs.Nodes.{client_is, control_node_of, controller_is, seq_is, shard_is}
use Rattle.lazy_core.specs.declared.node_state.NodeState.TheVariants.{Client, Control, Seq, Shard}
use Rattle.lazy_core.specs.declared.turns.Turn.{Turn}
use Rattle.lazy_core.specs.NodeCall.{client_call, client_refusal, control_call, control_refusal}
use Rattle.lazy_core.specs.States.{client_there, seq_there, shard_there}
use Rattle.lazy_core.specs.Turning.{IsKnown, IsTurnIn, IsTurnOf, turn_after, turn_refusal}
use Rattle.lazy_core.proofs.RoleStates.{halves_at, node, node_here, seq_at, shard_at}

-- an input that no node's call refuses: it is a step
pub record IsStepped (input : Input) : Type 0 where
  pub client : (n : Halves) → client_call n input ≡ client_node_step n input
  pub control : (k : ControlState) → control_call k input ≡ control_step k input
  pub client_takes : (edition : Edition) (n : Halves) → client_refusal edition n input ≡ None
  pub control_takes : (k : ControlState) → control_refusal k input ≡ None

pub tick_stepped : IsStepped TickInput
tick_stepped = record { client = λ n. refl; control = λ k. refl; client_takes = λ edition n. refl; control_takes = λ k. refl }

pub grace_stepped : IsStepped GraceInput
grace_stepped = record { client = λ n. refl; control = λ k. refl; client_takes = λ edition n. refl; control_takes = λ k. refl }

module _ (w : WorldState) (known : IsKnown w) (number : ℕ) (input : Input) (steps : IsStepped input) where
  abbrev turn : Turn
  turn = record { node = number; input = input; received = 0 }

  -- the node of this role takes the input
  pub record IsGivenTo (role : Option Node) : Type 0 where
    pub is : IsTurnIn w turn
    pub next : given w number input role ≡ turn_after w turn is
    pub reason : turn_refusal w turn is ≡ None

  client_takes_it : (c : ℕ) → node_of w.shape number ≡ Some (ClientNode c) → IsGivenTo (Some (ClientNode c))
  client_takes_it c is =
      let k = client_is w.shape number c is in
      let own = halves_at w known c k.1 in
      record {
        is = record { role = ClientNode c; seated = is; state = Client own.appends own.reads; there = ap client_there (node_here w c own); past = omega arith };
        next = ap (client_given w c input) (node_here w c own)
            ∙ ap (λ (row : Row Halves). client_node_did w c 0 row) (sym (steps.client (node w c own)))
            ∙ ap (λ (m : ℕ). stepped (with_client_node w c (client_call (node w c own) input).next) m 0 (client_call (node w c own) input).sends (client_call (node w c own) input).events) (sym k.0);
        reason = steps.client_takes w.shape.edition (node w c own);
      }

  control_takes_it : node_of w.shape number ≡ Some Controller → IsGivenTo (Some Controller)
  control_takes_it is = record {
    is = record { role = Controller; seated = is; state = Control w.control; there = refl; past = omega arith };
    next = ap (λ (row : Row ControlState). stepped (record w { control = row.next }) CONTROLLER 0 row.sends row.events) (sym (steps.control w.control))
        ∙ ap (λ (m : ℕ). stepped (record w { control = (control_call w.control input).next }) m 0 (control_call w.control input).sends (control_call w.control input).events) (sym (controller_is w.shape number is));
    reason = steps.control_takes w.control;
  }

  seq_takes_it : (i : ℕ) → node_of w.shape number ≡ Some (SeqNode i) → IsGivenTo (Some (SeqNode i))
  seq_takes_it i is =
      let at = seq_at w known i (seq_is w.shape number i is).1 in
      record {
        is = record { role = SeqNode i; seated = is; state = Seq at.0; there = ap seq_there at.1; past = omega arith };
        next = ap (seq_given w number i input) at.1;
        reason = refl;
      }

  shard_takes_it : (i j : ℕ) → node_of w.shape number ≡ Some (ShardNode i j) → IsGivenTo (Some (ShardNode i j))
  shard_takes_it i j is =
      let k = shard_is w.shape number i j is in
      let at = shard_at w known i j k.1 k.2 in
      record {
        is = record { role = ShardNode i j; seated = is; state = Shard at.0; there = ap shard_there at.1; past = omega arith };
        next = ap (shard_given w number (shard_place w.shape i j) input) at.1;
        reason = refl;
      }

  node_takes_it : (role : Option Node) → node_of w.shape number ≡ role → step_refused_at w number role ≡ None → IsGivenTo role
  node_takes_it None is free = let wrong : Some (NoNode number) ≡ None = free in cc
  node_takes_it (Some (ClientNode c)) is free = client_takes_it c is
  node_takes_it (Some Controller) is free = control_takes_it is
  node_takes_it (Some (SeqNode i)) is free = seq_takes_it i is
  node_takes_it (Some (ShardNode i j)) is free = shard_takes_it i j is

module _ (w : WorldState) (known : IsKnown w) (number : ℕ) where
  module _ (free : step_refused_at w number (node_of w.shape number) ≡ None) where
    pub tick_turn : IsTurnOf w (Tick number) (record { node = number; input = TickInput; received = 0 })
    tick_turn =
        let h = node_takes_it w known number TickInput tick_stepped (node_of w.shape number) refl free in
        record { is = h.is; next = h.next; reason = free ∙ sym h.reason }

    pub grace_turn : IsTurnOf w (Grace number) (record { node = number; input = GraceInput; received = 0 })
    grace_turn =
        let h = node_takes_it w known number GraceInput grace_stepped (node_of w.shape number) refl free in
        record { is = h.is; next = h.next; reason = free ∙ sym h.reason }

  -- the controller suspects a node of the shape
  pub suspicion_turn : (role : Node) → node_of w.shape number ≡ Some role → IsTurnOf w (Suspect number) (record { node = CONTROLLER; input = SuspectInput number; received = 0 })
  suspicion_turn role is = record {
    is = record { role = Controller; seated = control_node_of w.shape known.formed; state = Control w.control; there = refl; past = omega arith };
    next = refl;
    reason = ap (suspect_refused_at w number) is;
  }
