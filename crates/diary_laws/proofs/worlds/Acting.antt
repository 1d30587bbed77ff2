-- A node's event, whatever its role, is its step.
use Rattle.std.proofs.Common.{◌≡◌, ℕ, ◌<◌, Option, Some, None, false, refl, sym, subst}
use Rattle.std.specs.Prelude.{slice_get}
use Rattle.std.specs.Option.{option_map}
use Rattle.view_config.specs.Nodes.{seq_id, shard_id}
use Rattle.view_config.specs.Shape.{Dimensions, node_of}
use Rattle.view_config.specs.declared.nodes.Node.{Node}
use Rattle.view_config.specs.declared.nodes.Node.TheVariants.{Client, Controller, Seq, Shard}
use Rattle.view_config.specs.declared.nodes.TheConstants.{CONTROLLER}
use Rattle.lazy_msgs.specs.declared.input.Input.{Input}
use Rattle.lazy_msgs.specs.declared.input.WorldEvent.{WorldEvent}
use Rattle.lazy_rules.specs.ClientNode.{ClientNode}
use Rattle.lazy_rules.specs.Rows.{has_node}
use Rattle.lazy_rules.specs.SeqState.{SeqState}
use Rattle.lazy_rules.specs.ShardState.{ShardState}
use Rattle.lazy_rules.specs.WorldRules.{client_node}
use Rattle.lazy_rules.specs.WorldState.{WorldState, shard_place}
use Rattle.world_facts.specs.Forms.{HasForm}
use Rattle.world_facts.proofs.Nodes.{client_is, controller_is, seq_is, shard_is}
use Rattle.diary_laws.specs.Nodes.{NodeState, OfClient, OfControl, OfSeq, OfShard, NodeAllows, node_step, state_of, state_at}
use Rattle.diary_laws.proofs.worlds.Clients.{client_acts}
use Rattle.diary_laws.proofs.worlds.Ready.{Acts, IsReady, gone_by}
use Rattle.diary_laws.proofs.worlds.Replicas.{control_acts, seq_acts, shard_acts}

module _ (shape : Dimensions) (w : WorldState) (form : HasForm shape w) where
  abbrev Goal : ℕ → NodeState → Type 0
  Goal me s = state_at w me ≡ Some s → has_node w.crashed me ≡ false → (input : Input) (event : WorldEvent) → NodeAllows shape s input → IsReady w me input event → Acts shape w me (node_step s input) (gone_by me input) event

  as_client : (me : ℕ) → node_of w.shape me ≡ Some (Client me) → (o : Option ClientNode) → client_node w me ≡ o → (s : NodeState) → option_map OfClient o ≡ Some s → Goal me s
  as_client me role None here s is = let wrong : None ≡ Some s = is in cc
  as_client me role (Some n) here s is =
      let same : OfClient n ≡ s = cc in
      subst (Goal me) same (λ own alive input event allowed ready. client_acts shape w form me n role here alive own input event allowed ready)

  as_seq : (i : ℕ) → node_of w.shape (seq_id i) ≡ Some (Seq i) → (o : Option SeqState) → slice_get w.seqs i ≡ o → (s : NodeState) → option_map OfSeq o ≡ Some s → Goal (seq_id i) s
  as_seq i role None here s is = let wrong : None ≡ Some s = is in cc
  as_seq i role (Some n) here s is =
      let same : OfSeq n ≡ s = cc in
      subst (Goal (seq_id i)) same (λ own alive input event allowed ready. seq_acts shape w form i n role here alive input event own allowed ready)

  as_shard : (i j : ℕ) → i < w.shape.shards → j < w.shape.copies → node_of w.shape (shard_id i j) ≡ Some (Shard i j) → (o : Option ShardState) → slice_get w.shards (shard_place w.shape i j) ≡ o → (s : NodeState) → option_map OfShard o ≡ Some s → Goal (shard_id i j) s
  as_shard i j row column role None here s is = let wrong : None ≡ Some s = is in cc
  as_shard i j row column role (Some n) here s is =
      let same : OfShard n ≡ s = cc in
      subst (Goal (shard_id i j)) same (λ own alive input event allowed ready. shard_acts shape w form i j n row column role here alive input event own allowed ready)

  as_control : node_of w.shape CONTROLLER ≡ Some Controller → (s : NodeState) → Some (OfControl w.control) ≡ Some s → Goal CONTROLLER s
  as_control role s is =
      let same : OfControl w.control ≡ s = cc in
      subst (Goal CONTROLLER) same (λ own alive input event allowed ready. control_acts shape w form role alive input event allowed ready)

  by_role : (me : ℕ) (s : NodeState) (o : Option Node) → node_of w.shape me ≡ o → state_of w o ≡ Some s → Goal me s
  by_role me s (Some (Client c)) is has =
      let own = (client_is w.shape me c is).0 in
      subst (λ (m : ℕ). Goal m s) (sym own) (as_client c (subst (λ (m : ℕ). node_of w.shape m ≡ Some (Client c)) own is) (client_node w c) refl s has)
  by_role me s (Some Controller) is has =
      let own = controller_is w.shape me is in
      subst (λ (m : ℕ). Goal m s) (sym own) (as_control (subst (λ (m : ℕ). node_of w.shape m ≡ Some Controller) own is) s has)
  by_role me s (Some (Seq i)) is has =
      let own = (seq_is w.shape me i is).0 in
      subst (λ (m : ℕ). Goal m s) (sym own) (as_seq i (subst (λ (m : ℕ). node_of w.shape m ≡ Some (Seq i)) own is) (slice_get w.seqs i) refl s has)
  by_role me s (Some (Shard i j)) is has =
      let own = shard_is w.shape me i j is in
      subst (λ (m : ℕ). Goal m s) (sym own.0) (as_shard i j own.1 own.2 (subst (λ (m : ℕ). node_of w.shape m ≡ Some (Shard i j)) own.0 is) (slice_get w.shards (shard_place w.shape i j)) refl s has)
  by_role me s None is has = let wrong : None ≡ Some s = has in cc

  pub node_acts : (me : ℕ) (s : NodeState) → state_at w me ≡ Some s → has_node w.crashed me ≡ false → (input : Input) (event : WorldEvent) → NodeAllows shape s input → IsReady w me input event → Acts shape w me (node_step s input) (gone_by me input) event
  node_acts me s here alive input event allowed ready = by_role me s (node_of w.shape me) refl here here alive input event allowed ready
