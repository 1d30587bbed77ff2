-- The events that are steps of the controller, of a sequencing replica and of a shard replica.
use Rattle.std.proofs.Common.{◌≡◌, ℕ, ◌<◌, [], ◌∷◌, Bool, true, false, not, Option, Some, None, refl, sym, ap, ◌∙◌, subst}
use Rattle.std.specs.Prelude.{if◌then◌else◌, slice_get}
use Rattle.std.specs.Option.{is_none}
use Rattle.view_config.specs.Nodes.{seq_id, shard_id}
use Rattle.view_config.specs.Shape.{Dimensions, node_of}
use Rattle.view_config.specs.declared.nodes.Node.{Node}
use Rattle.view_config.specs.declared.nodes.Node.TheVariants.{Controller, Seq, Shard}
use Rattle.view_config.specs.declared.nodes.TheConstants.{CONTROLLER}
use Rattle.lazy_msgs.specs.declared.input.Input.{Input}
use Rattle.lazy_msgs.specs.declared.input.Input.TheVariants.{Take, Tick, Grace, Crash, Post, Ask, Trim, Suspect, Peek}
use Rattle.lazy_msgs.specs.declared.input.WorldEvent.{WorldEvent}
use Rattle.lazy_msgs.specs.declared.input.WorldEvent.TheVariants.{Deliver, Tick as TickEvent, Grace as GraceEvent, Crash as CrashEvent, Suspect as SuspectEvent}
use Rattle.lazy_msgs.specs.declared.msg.Envelope.{Envelope}
use Rattle.lazy_msgs.specs.declared.msg.Msg.{Msg}
use Rattle.lazy_msgs.specs.declared.refused.EventRefused.TheVariants.{Crashed}
use Rattle.lazy_msgs.specs.declared.refused.SuspectRefused.{SuspectRefused}
use Rattle.lazy_rules.specs.ControlRules.{control_step, control_took, replaces, suspect_refusal}
use Rattle.lazy_rules.specs.Door.{is_node}
use Rattle.lazy_rules.specs.Rows.{stays, has_node}
use Rattle.lazy_rules.specs.SeqRules.{seq_step, seq_took}
use Rattle.lazy_rules.specs.SeqState.{SeqState}
use Rattle.lazy_rules.specs.ShardRules.{shard_step, shard_took}
use Rattle.lazy_rules.specs.ShardState.{ShardState}
use Rattle.lazy_rules.specs.WorldRules.{after, refusal, control_did, delivered, received, given, seq_did, seq_given, seq_received, shard_did, shard_given, shard_received, suspect_refused_at, suspecting_refused, crash_refused_at, crashes}
use Rattle.lazy_rules.specs.WorldState.{WorldState, shard_place}
use Rattle.world_facts.specs.Forms.{HasForm}
use Rattle.world_facts.specs.Turns.{ControlTurn, SeqTurn, ShardTurn, IsGiven, turned}
use Rattle.world_facts.proofs.Lists.{numbered_in}
use Rattle.diary_laws.specs.Nodes.{OfControl, OfSeq, OfShard, ControlAllows, ReplicaAllows, as_row, node_step, state_at}
use Rattle.diary_laws.proofs.worlds.Ready.{Acts, IsHeard, IsReady, acts_by, gone_by, heard_free, step_free}
use Rattle.diary_laws.proofs.worlds.Turned.{Any, control_did as control_turn_did, seq_did as seq_turn_did, shard_did as shard_turn_did, crash_did}

-- a node of the shape that the controller may replace
suspect_free : (w : WorldState) (other : ℕ) (o : Option Node) → not (is_none o) ≡ true → suspect_refusal w.control other ≡ None → suspect_refused_at w other o ≡ None
suspect_free w other None some allowed = let wrong : false ≡ true = some in cc
suspect_free w other (Some role) some allowed = ap suspecting_refused allowed

module _ (shape : Dimensions) (w : WorldState) (form : HasForm shape w) where
  module _ (role : node_of w.shape CONTROLLER ≡ Some Controller) (alive : has_node w.crashed CONTROLLER ≡ false) where
    abbrev ActsControl : Input → WorldEvent → Type 0
    ActsControl input event = Acts shape w CONTROLLER (as_row OfControl (control_step w.control input)) [] event

    control_turn : (input : Input) (event : WorldEvent) → IsGiven Any w CONTROLLER input → refusal w event ≡ None → after w event ≡ turned w (ControlTurn input) → ActsControl input event
    control_turn input event given free is = acts_by shape w CONTROLLER (as_row OfControl (control_step w.control input)) [] event free (turned w (ControlTurn input)) is (control_turn_did shape w form input role given)

    control_hears : (envelope : Envelope) (event : WorldEvent) → IsHeard w envelope event → envelope.to ≡ CONTROLLER → ActsControl (Take envelope) event
    control_hears envelope event h own =
        let to : h.found.to ≡ CONTROLLER = ap (λ (t : ℕ × ℕ × Msg). t.1) h.like ∙ own in
        let acts : ActsControl (Take h.found) (Deliver h.number) =
        control_turn (Take h.found) (Deliver h.number) (to, numbered_in w.sent h.number h.found h.there)
        (heard_free shape w CONTROLLER envelope event h own alive)
        (ap (delivered w) h.there ∙ ap (λ (m : ℕ). received w h.found (node_of w.shape m)) to ∙ ap (received w h.found) role) in
        subst (ActsControl (Take envelope)) (sym h.is)
        (subst (λ (t : ℕ × ℕ × Msg). Acts shape w CONTROLLER (as_row OfControl (control_took w.control t.0 t.2)) [] (Deliver h.number)) h.like acts)

    suspects : (other : ℕ) → is_node shape other ≡ true → suspect_refusal w.control other ≡ None → ActsControl (Suspect other) (SuspectEvent other)
    suspects other there allowed =
        control_turn (Suspect other) (SuspectEvent other) tt
        (suspect_free w other (node_of w.shape other) (ap (λ (d : Dimensions). is_node d other) form.shaped ∙ there) allowed)
        (ap (λ (o : Option SuspectRefused). control_did w 0 (if is_none o then replaces w.control other else stays w.control)) (sym allowed))

    pub control_acts : (input : Input) (event : WorldEvent) → ControlAllows shape w.control input → IsReady w CONTROLLER input event → Acts shape w CONTROLLER (node_step (OfControl w.control) input) (gone_by CONTROLLER input) event
    control_acts (Take envelope) event allowed ready = control_hears envelope event ready.0 ready.1
    control_acts Tick event allowed ready = subst (ActsControl Tick) (sym ready) (control_turn Tick (TickEvent CONTROLLER) tt (step_free shape w CONTROLLER Controller role alive) (ap (given w CONTROLLER Tick) role))
    control_acts Grace event allowed ready = subst (ActsControl Grace) (sym ready) (control_turn Grace (GraceEvent CONTROLLER) tt (step_free shape w CONTROLLER Controller role alive) (ap (given w CONTROLLER Grace) role))
    control_acts (Suspect other) event allowed ready = subst (ActsControl (Suspect other)) (sym ready) (suspects other allowed.0 allowed.1)
    control_acts Crash event allowed ready = absurd allowed
    control_acts (Post bytes) event allowed ready = absurd allowed
    control_acts (Ask ask) event allowed ready = absurd allowed
    control_acts (Trim floor) event allowed ready = absurd allowed
    control_acts (Peek stable time replica from ids) event allowed ready = absurd allowed

  module _ (i : ℕ) (s : SeqState) (role : node_of w.shape (seq_id i) ≡ Some (Seq i)) (here : slice_get w.seqs i ≡ Some s) (alive : has_node w.crashed (seq_id i) ≡ false) where
    abbrev ActsSeq : Input → WorldEvent → Type 0
    ActsSeq input event = Acts shape w (seq_id i) (as_row OfSeq (seq_step s input)) [] event

    seq_turn : (input : Input) (event : WorldEvent) → IsGiven Any w (seq_id i) input → refusal w event ≡ None → after w event ≡ turned w (SeqTurn i s input) → ActsSeq input event
    seq_turn input event given free is = acts_by shape w (seq_id i) (as_row OfSeq (seq_step s input)) [] event free (turned w (SeqTurn i s input)) is (seq_turn_did shape w form i s input role here given)

    seq_hears : (envelope : Envelope) (event : WorldEvent) → IsHeard w envelope event → envelope.to ≡ seq_id i → ActsSeq (Take envelope) event
    seq_hears envelope event h own =
        let to : h.found.to ≡ seq_id i = ap (λ (t : ℕ × ℕ × Msg). t.1) h.like ∙ own in
        let acts : ActsSeq (Take h.found) (Deliver h.number) =
        seq_turn (Take h.found) (Deliver h.number) (to, numbered_in w.sent h.number h.found h.there)
        (heard_free shape w (seq_id i) envelope event h own alive)
        (ap (delivered w) h.there
        ∙ ap (λ (m : ℕ). received w h.found (node_of w.shape m)) to
        ∙ ap (received w h.found) role
        ∙ ap (seq_received w i h.found) here
        ∙ ap (λ (m : ℕ). seq_did w m i h.found.time (seq_took s h.found.from h.found.msg)) to) in
        subst (ActsSeq (Take envelope)) (sym h.is)
        (subst (λ (t : ℕ × ℕ × Msg). Acts shape w (seq_id i) (as_row OfSeq (seq_took s t.0 t.2)) [] (Deliver h.number)) h.like acts)

    pub seq_acts : (input : Input) (event : WorldEvent) → state_at w (seq_id i) ≡ Some (OfSeq s) → ReplicaAllows input → IsReady w (seq_id i) input event → Acts shape w (seq_id i) (node_step (OfSeq s) input) (gone_by (seq_id i) input) event
    seq_acts (Take envelope) event own allowed ready = seq_hears envelope event ready.0 ready.1
    seq_acts Tick event own allowed ready = subst (ActsSeq Tick) (sym ready) (seq_turn Tick (TickEvent (seq_id i)) tt (step_free shape w (seq_id i) (Seq i) role alive) (ap (given w (seq_id i) Tick) role ∙ ap (seq_given w (seq_id i) i Tick) here))
    seq_acts Grace event own allowed ready = subst (ActsSeq Grace) (sym ready) (seq_turn Grace (GraceEvent (seq_id i)) tt (step_free shape w (seq_id i) (Seq i) role alive) (ap (given w (seq_id i) Grace) role ∙ ap (seq_given w (seq_id i) i Grace) here))
    seq_acts Crash event own allowed ready =
        subst (Acts shape w (seq_id i) (node_step (OfSeq s) Crash) (seq_id i ∷ [])) (sym ready)
        (acts_by shape w (seq_id i) (node_step (OfSeq s) Crash) (seq_id i ∷ []) (CrashEvent (seq_id i))
        (ap (crash_refused_at w (seq_id i)) role ∙ ap (λ (b : Bool). if b then Some (Crashed (seq_id i)) else None) alive)
        (crashes w (seq_id i)) refl (crash_did shape w form (seq_id i) (OfSeq s) own))
    seq_acts (Post bytes) event own allowed ready = absurd allowed
    seq_acts (Ask ask) event own allowed ready = absurd allowed
    seq_acts (Trim floor) event own allowed ready = absurd allowed
    seq_acts (Suspect other) event own allowed ready = absurd allowed
    seq_acts (Peek stable time replica from ids) event own allowed ready = absurd allowed

  module _ (i j : ℕ) (s : ShardState) (row : i < w.shape.shards) (column : j < w.shape.copies) (role : node_of w.shape (shard_id i j) ≡ Some (Shard i j)) (here : slice_get w.shards (shard_place w.shape i j) ≡ Some s) (alive : has_node w.crashed (shard_id i j) ≡ false) where
    abbrev me : ℕ
    me = shard_id i j

    abbrev ActsShard : Input → WorldEvent → Type 0
    ActsShard input event = Acts shape w me (as_row OfShard (shard_step s input)) [] event

    shard_turn : (input : Input) (event : WorldEvent) → IsGiven Any w me input → refusal w event ≡ None → after w event ≡ turned w (ShardTurn i j s input) → ActsShard input event
    shard_turn input event given free is = acts_by shape w me (as_row OfShard (shard_step s input)) [] event free (turned w (ShardTurn i j s input)) is (shard_turn_did shape w form i j s input row column role here given)

    shard_hears : (envelope : Envelope) (event : WorldEvent) → IsHeard w envelope event → envelope.to ≡ me → ActsShard (Take envelope) event
    shard_hears envelope event h own =
        let to : h.found.to ≡ me = ap (λ (t : ℕ × ℕ × Msg). t.1) h.like ∙ own in
        let acts : ActsShard (Take h.found) (Deliver h.number) =
        shard_turn (Take h.found) (Deliver h.number) (to, numbered_in w.sent h.number h.found h.there)
        (heard_free shape w me envelope event h own alive)
        (ap (delivered w) h.there
        ∙ ap (λ (m : ℕ). received w h.found (node_of w.shape m)) to
        ∙ ap (received w h.found) role
        ∙ ap (shard_received w (shard_place w.shape i j) h.found) here
        ∙ ap (λ (m : ℕ). shard_did w m (shard_place w.shape i j) h.found.time (shard_took s h.found.from h.found.msg)) to) in
        subst (ActsShard (Take envelope)) (sym h.is)
        (subst (λ (t : ℕ × ℕ × Msg). Acts shape w me (as_row OfShard (shard_took s t.0 t.2)) [] (Deliver h.number)) h.like acts)

    pub shard_acts : (input : Input) (event : WorldEvent) → state_at w me ≡ Some (OfShard s) → ReplicaAllows input → IsReady w me input event → Acts shape w me (node_step (OfShard s) input) (gone_by me input) event
    shard_acts (Take envelope) event own allowed ready = shard_hears envelope event ready.0 ready.1
    shard_acts Tick event own allowed ready = subst (ActsShard Tick) (sym ready) (shard_turn Tick (TickEvent me) tt (step_free shape w me (Shard i j) role alive) (ap (given w me Tick) role ∙ ap (shard_given w me (shard_place w.shape i j) Tick) here))
    shard_acts Grace event own allowed ready = subst (ActsShard Grace) (sym ready) (shard_turn Grace (GraceEvent me) tt (step_free shape w me (Shard i j) role alive) (ap (given w me Grace) role ∙ ap (shard_given w me (shard_place w.shape i j) Grace) here))
    shard_acts Crash event own allowed ready =
        subst (Acts shape w me (node_step (OfShard s) Crash) (me ∷ [])) (sym ready)
        (acts_by shape w me (node_step (OfShard s) Crash) (me ∷ []) (CrashEvent me)
        (ap (crash_refused_at w me) role ∙ ap (λ (b : Bool). if b then Some (Crashed me) else None) alive)
        (crashes w me) refl (crash_did shape w form me (OfShard s) own))
    shard_acts (Post bytes) event own allowed ready = absurd allowed
    shard_acts (Ask ask) event own allowed ready = absurd allowed
    shard_acts (Trim floor) event own allowed ready = absurd allowed
    shard_acts (Suspect other) event own allowed ready = absurd allowed
    shard_acts (Peek stable time replica from ids) event own allowed ready = absurd allowed
