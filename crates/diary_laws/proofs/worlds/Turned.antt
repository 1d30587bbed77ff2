-- What a turn of each role does to a world.
use Rattle.std.proofs.Common.{◌≡◌, ℕ, ◌<◌, [], ◌∷◌, ◌++◌, map, Option, Some, None, true, false, refl, sym, ap, ◌∙◌, append-nil, eq-eqb}
use Rattle.std.specs.Prelude.{◌==◌, ◌/◌, ◌%◌, slice_get}
use Rattle.std.specs.Option.{option_map}
use Rattle.std.proofs.lemmas.Nat.{div-mul-add, mod-mul-add}
use Rattle.view_config.specs.Nodes.{seq_id, shard_id}
use Rattle.view_config.specs.Shape.{Dimensions, node_of}
use Rattle.view_config.specs.declared.nodes.Node.{Node}
use Rattle.view_config.specs.declared.nodes.Node.TheVariants.{Client, Controller, Seq, Shard}
use Rattle.view_config.specs.declared.nodes.TheConstants.{CONTROLLER}
use Rattle.lazy_msgs.specs.declared.input.Input.{Input}
use Rattle.lazy_msgs.specs.declared.input.Input.TheVariants.{Crash}
use Rattle.lazy_rules.specs.ClientNode.{ClientNode, client_node_step}
use Rattle.lazy_rules.specs.ClientState.{ClientState}
use Rattle.lazy_rules.specs.ControlRules.{control_step}
use Rattle.lazy_rules.specs.ReaderState.{ReaderState}
use Rattle.lazy_rules.specs.SeqRules.{seq_step}
use Rattle.lazy_rules.specs.SeqState.{SeqState}
use Rattle.lazy_rules.specs.ShardRules.{shard_step}
use Rattle.lazy_rules.specs.ShardState.{ShardState}
use Rattle.lazy_rules.specs.WorldRules.{client_node, crashes, enveloped, halves, step_time}
use Rattle.lazy_rules.specs.WorldState.{WorldState, shard_place}
use Rattle.world_facts.specs.Forms.{HasForm}
use Rattle.world_facts.specs.Turns.{ClientTurn, ControlTurn, SeqTurn, ShardTurn, CrashTurn, IsGiven, time_in, turned}
use Rattle.world_facts.proofs.ClientTurns.{appends_of, reads_of}
use Rattle.world_facts.proofs.Forming.{turn_formed}
use Rattle.world_facts.proofs.Nodes.{client_is, controller_is, seq_is, shard_is}
use Rattle.diary_laws.specs.Nodes.{NodeState, OfClient, OfControl, OfSeq, OfShard, state_of, state_at, as_row, node_step}
use Rattle.diary_laws.proofs.worlds.Did.{Did, bare, sent_more, set_own, set_other}

-- of what is asked from outside nothing is needed
abbrev pub Any : Input → Type 0
Any input = Unit {0}

module _ (shape : Dimensions) (w : WorldState) (form : HasForm shape w) where
  apart : (n me : ℕ) → (n == me) ≡ false → ¬ (n ≡ me)
  apart n me h e = let wrong : true ≡ false = sym (eq-eqb n me e) ∙ h in cc

  module _ (c : ℕ) (n : ClientNode) (input : Input) (role : node_of w.shape c ≡ Some (Client c)) (here : client_node w c ≡ Some n) (given : IsGiven Any w c input) where
    abbrev by_client : WorldState
    by_client = turned w (ClientTurn c n input)

    client_others : (k : ℕ) → ¬ (k ≡ c) → (o : Option Node) → node_of w.shape k ≡ o → state_of by_client o ≡ state_of w o
    client_others k other (Some (Client d)) is =
        let own = (client_is w.shape k d is).0 in
        let away : ¬ (d ≡ c) = λ e. other (own ∙ e) in
        ap (λ (o : Option ClientState). option_map OfClient (halves o (slice_get by_client.readers d))) (set_other w.clients c d (client_node_step n input).next.appends away)
        ∙ ap (λ (o : Option ReaderState). option_map OfClient (halves (slice_get w.clients d) o)) (set_other w.readers c d (client_node_step n input).next.reads away)
    client_others k other (Some Controller) is = refl
    client_others k other (Some (Seq i)) is = refl
    client_others k other (Some (Shard i j)) is = refl
    client_others k other None is = refl

    pub client_did : Did shape w (turned w (ClientTurn c n input)) c (as_row OfClient (client_node_step n input)) []
    client_did = record {
      form = turn_formed shape Any w form (ClientTurn c n input) (here, given);
      own = ap (state_of by_client) role
          ∙ ap (λ (o : Option ClientState). option_map OfClient (halves o (slice_get by_client.readers c))) (set_own w.clients c n.appends (client_node_step n input).next.appends (appends_of w c n here))
          ∙ ap (λ (o : Option ReaderState). option_map OfClient (halves (Some (client_node_step n input).next.appends) o)) (set_own w.readers c n.reads (client_node_step n input).next.reads (reads_of w c n here));
      others = λ k other. client_others k (apart k c other) (node_of w.shape k) refl;
      sent = sent_more w.sent c (step_time w c (time_in input)) 0 (client_node_step n input).sends;
      history = refl;
      crashed = sym (append-nil w.crashed);
    }

  module _ (input : Input) (role : node_of w.shape CONTROLLER ≡ Some Controller) (given : IsGiven Any w CONTROLLER input) where
    abbrev by_control : WorldState
    by_control = turned w (ControlTurn input)

    control_others : (k : ℕ) → ¬ (k ≡ CONTROLLER) → (o : Option Node) → node_of w.shape k ≡ o → state_of by_control o ≡ state_of w o
    control_others k other (Some (Client d)) is = refl
    control_others k other (Some Controller) is = absurd (other (controller_is w.shape k is))
    control_others k other (Some (Seq i)) is = refl
    control_others k other (Some (Shard i j)) is = refl
    control_others k other None is = refl

    pub control_did : Did shape w (turned w (ControlTurn input)) CONTROLLER (as_row OfControl (control_step w.control input)) []
    control_did = record {
      form = turn_formed shape Any w form (ControlTurn input) given;
      own = ap (state_of by_control) role;
      others = λ k other. control_others k (apart k CONTROLLER other) (node_of w.shape k) refl;
      sent = sent_more w.sent CONTROLLER (step_time w CONTROLLER (time_in input)) 0 (control_step w.control input).sends;
      history = refl;
      crashed = sym (append-nil w.crashed);
    }

  module _ (i : ℕ) (s : SeqState) (input : Input) (role : node_of w.shape (seq_id i) ≡ Some (Seq i)) (here : slice_get w.seqs i ≡ Some s) (given : IsGiven Any w (seq_id i) input) where
    abbrev by_seq : WorldState
    by_seq = turned w (SeqTurn i s input)

    seq_others : (k : ℕ) → ¬ (k ≡ seq_id i) → (o : Option Node) → node_of w.shape k ≡ o → state_of by_seq o ≡ state_of w o
    seq_others k other (Some (Client d)) is = refl
    seq_others k other (Some Controller) is = refl
    seq_others k other (Some (Seq d)) is =
        let own = (seq_is w.shape k d is).0 in
        ap (option_map OfSeq) (set_other w.seqs i d (seq_step s input).next (λ e. other (own ∙ ap seq_id e)))
    seq_others k other (Some (Shard a b)) is = refl
    seq_others k other None is = refl

    pub seq_did : Did shape w (turned w (SeqTurn i s input)) (seq_id i) (as_row OfSeq (seq_step s input)) []
    seq_did = record {
      form = turn_formed shape Any w form (SeqTurn i s input) (here, given);
      own = ap (state_of by_seq) role ∙ ap (option_map OfSeq) (set_own w.seqs i s (seq_step s input).next here);
      others = λ k other. seq_others k (apart k (seq_id i) other) (node_of w.shape k) refl;
      sent = sent_more w.sent (seq_id i) (step_time w (seq_id i) (time_in input)) 0 (seq_step s input).sends;
      history = refl;
      crashed = sym (append-nil w.crashed);
    }

  -- two places are of one replica
  same_place : (a b i j : ℕ) → b < w.shape.copies → j < w.shape.copies → shard_place w.shape a b ≡ shard_place w.shape i j → shard_id a b ≡ shard_id i j
  same_place a b i j few some e =
      let row : a ≡ i = sym (div-mul-add a w.shape.copies b few) ∙ ap (λ p. p / w.shape.copies) e ∙ div-mul-add i w.shape.copies j some in
      let column : b ≡ j = sym (mod-mul-add a w.shape.copies b few) ∙ ap (λ p. p % w.shape.copies) e ∙ mod-mul-add i w.shape.copies j some in
      ap (λ p. shard_id p b) row ∙ ap (shard_id i) column

  module _ (i j : ℕ) (s : ShardState) (input : Input) (row : i < w.shape.shards) (column : j < w.shape.copies) (role : node_of w.shape (shard_id i j) ≡ Some (Shard i j)) (here : slice_get w.shards (shard_place w.shape i j) ≡ Some s) (given : IsGiven Any w (shard_id i j) input) where
    abbrev by_shard : WorldState
    by_shard = turned w (ShardTurn i j s input)

    shard_others : (k : ℕ) → ¬ (k ≡ shard_id i j) → (o : Option Node) → node_of w.shape k ≡ o → state_of by_shard o ≡ state_of w o
    shard_others k other (Some (Client d)) is = refl
    shard_others k other (Some Controller) is = refl
    shard_others k other (Some (Seq d)) is = refl
    shard_others k other (Some (Shard a b)) is =
        let own = shard_is w.shape k a b is in
        ap (option_map OfShard) (set_other w.shards (shard_place w.shape i j) (shard_place w.shape a b) (shard_step s input).next (λ e. other (own.0 ∙ same_place a b i j own.2 column e)))
    shard_others k other None is = refl

    pub shard_did : Did shape w (turned w (ShardTurn i j s input)) (shard_id i j) (as_row OfShard (shard_step s input)) []
    shard_did = record {
      form = turn_formed shape Any w form (ShardTurn i j s input) (record { shard = row; copy = column; here = here; given = given });
      own = ap (state_of by_shard) role ∙ ap (option_map OfShard) (set_own w.shards (shard_place w.shape i j) s (shard_step s input).next here);
      others = λ k other. shard_others k (apart k (shard_id i j) other) (node_of w.shape k) refl;
      sent = sent_more w.sent (shard_id i j) (step_time w (shard_id i j) (time_in input)) 0 (shard_step s input).sends;
      history = refl;
      crashed = sym (append-nil w.crashed);
    }

  -- a crash changes no state
  crash_states : (me : ℕ) (o : Option Node) → state_of (crashes w me) o ≡ state_of w o
  crash_states me (Some (Client d)) = refl
  crash_states me (Some Controller) = refl
  crash_states me (Some (Seq i)) = refl
  crash_states me (Some (Shard i j)) = refl
  crash_states me None = refl

  crash_step : (s : NodeState) → (node_step s Crash).next ≡ s
  crash_step (OfClient n) = refl
  crash_step (OfControl k) = refl
  crash_step (OfSeq s) = refl
  crash_step (OfShard s) = refl

  crash_quiet : (s : NodeState) → ((node_step s Crash).sends ≡ []) × ((node_step s Crash).events ≡ [])
  crash_quiet (OfClient n) = (refl, refl)
  crash_quiet (OfControl k) = (refl, refl)
  crash_quiet (OfSeq s) = (refl, refl)
  crash_quiet (OfShard s) = (refl, refl)

  pub crash_did : (me : ℕ) (s : NodeState) → state_at w me ≡ Some s → Did shape w (crashes w me) me (node_step s Crash) (me ∷ [])
  crash_did me s here = record {
    form = turn_formed shape Any w form (CrashTurn me) tt;
    own = crash_states me (node_of w.shape me) ∙ here ∙ ap Some (sym (crash_step s));
    others = λ k other. crash_states me (node_of w.shape k);
    sent = sent_more w.sent me (step_time w me 0) 0 [] ∙ ap (λ sends. map bare w.sent ++ map bare (enveloped me 0 sends)) (sym (crash_quiet s).0);
    history = ap (λ told. w.history ++ told) (sym (crash_quiet s).1);
    crashed = refl;
  }
