-- What the controller sends, and to whom.
use Rattle.std.proofs.Common.{◌≡◌, ℕ, List, [], refl, ◌<◌, Option, Bool, option_map, is_none, not, true, None, ◌∷◌, Some, false}
use Rattle.list_facts.specs.Lists.{Each}
use Rattle.list_facts.proofs.Cases.{either, some_or_none}
use Rattle.list_facts.proofs.Members.{each_weaker}
use Rattle.rec_id.specs.declared.marks.Marks.{Marks}
use Rattle.view_config.specs.Shape.{Dimensions}
use Rattle.view_config.specs.declared.config.Config.{Config}
use Rattle.view_config.specs.declared.nodes.TheConstants.{CONTROLLER}
use Rattle.lazy_msgs.specs.declared.msg.Msg.{Msg}
use Rattle.lazy_msgs.specs.declared.msg.Msg.TheVariants.{Seal, NewView}
use Rattle.lazy_rules.specs.ControlRules.{flush_msg, flush_to, flush_sends, flush_again_to, unused, at_phase, naming, seals_view, renames, flushes_anew, takes_state, starts_view, ends_flush, notes_flush, next_config, on_flushed, on_started, again_sends, on_suspect, control_row, control_took, reigning, has_base, is_flushed_by_all, replaces, on_sealed, on_ask_view, not_started, control_step, with_config, new_taken, with_started, refusal_of, suspect_refusal, with_flushed, is_named}
use Rattle.lazy_rules.specs.ControlState.{ControlState, Taken, Phase, Running, Sealing, Flushing, newest}
use Rattle.lazy_msgs.specs.declared.input.Input.{Input}
use Rattle.lazy_msgs.specs.declared.input.Input.TheVariants.{Take, Tick, Suspect}
use Rattle.lazy_msgs.specs.declared.msg.Msg.TheVariants.{Seal, NewView, Sealed, SealedEmpty, Flushed, Started, AskView}
use Rattle.lazy_msgs.specs.declared.refused.SuspectRefused.{SuspectRefused}
use Rattle.lazy_msgs.specs.declared.refused.SuspectRefused.TheVariants.{NotInView}
use Rattle.view_config.specs.declared.without.ConfigError.{ConfigError}
use Rattle.view_config.specs.Without.{without_refusal}
use Rattle.lazy_rules.specs.Roles.{first_of, shard_led_by}
use Rattle.lazy_rules.specs.Rows.{to_each, each_numbered, has_node, stays}
use Rattle.world_facts.specs.MembersOf.{PhaseNamed, ControlOf}
use Rattle.world_facts.specs.Members.{IsGroup, IsNamed, IsSeqNode, IsShardNode, Goes}
use Rattle.world_facts.proofs.Rows.{sends_each}
use Rattle.world_facts.proofs.goes.Sends.{each_first, each_of_numbered, GivenTo, each_filter}
use Rattle.lazy_msgs.specs.Step.{Row}
use Rattle.rec_id.specs.declared.item.Item.{Item}
use Rattle.world_facts.proofs.Claims.{Keeps}
use Rattle.std.specs.Prelude.{◌==◌, if◌then◌else◌}
use Rattle.lazy_rules.specs.Door.{is_turned_away}
use Rattle.std.specs.Option.{option_map_or}
use Rattle.world_facts.proofs.goes.WithoutNamed.{without_named}

module _ (shape : Dimensions) where
  abbrev Sent : List (ℕ × Msg) → Type 0
  Sent sends = Each (λ (send : ℕ × Msg). Goes shape CONTROLLER send.0 send.1) sends

  pub seals : (config : Config) → IsNamed shape config → (view : ℕ) → Sent (to_each config.seq (Seal view))
  seals config named view = sends_each (Goes shape CONTROLLER) config.seq (Seal view) (each_weaker (IsSeqNode shape) (λ (node : ℕ). Goes shape CONTROLLER node (Seal view)) (λ node h. (refl, h)) config.seq named.seq)

  pub new_views : (nodes : List ℕ) → Each (IsSeqNode shape) nodes → (config : Config) → IsNamed shape config → (base : ℕ) (window : List Marks) → Sent (to_each nodes (NewView config base window))
  new_views nodes h config named base window = sends_each (Goes shape CONTROLLER) nodes (NewView config base window) (each_weaker (IsSeqNode shape) (λ (node : ℕ). Goes shape CONTROLLER node (NewView config base window)) (λ node k. (refl, k, named)) nodes h)

  flush_one : (k : ControlState) (taken : Taken) → IsNamed shape taken.config → (shard : ℕ) (nodes : List ℕ) → IsGroup shape nodes → Sent (flush_to k taken shard nodes)
  flush_one k taken named shard nodes h =
      sends_each (Goes shape CONTROLLER) (first_of nodes) (flush_msg k taken shard)
      (each_weaker (IsShardNode shape) (λ (node : ℕ). Goes shape CONTROLLER node (flush_msg k taken shard)) (λ node m. (refl, m, named)) (first_of nodes) (each_first (IsShardNode shape) nodes h.each))

  pub flushes : (k : ControlState) (taken : Taken) → IsNamed shape taken.config → Sent (flush_sends k taken)
  flushes k taken named = each_of_numbered (λ (send : ℕ × Msg). Goes shape CONTROLLER send.0 send.1) (flush_to k taken) (IsGroup shape) (flush_one k taken named) 0 taken.config.shards named.shards

  flush_one_again : (k : ControlState) (taken : Taken) → IsNamed shape taken.config → (shard : ℕ) (nodes : List ℕ) → IsGroup shape nodes → Sent (flush_again_to k taken shard nodes)
  flush_one_again k taken named shard nodes h = either Sent (has_node taken.flushed shard) [] (flush_to k taken shard nodes) (λ m. tt) (λ m. flush_one k taken named shard nodes h)

  pub flushes_again : (k : ControlState) (taken : Taken) → IsNamed shape taken.config → Sent (each_numbered (flush_again_to k taken) 0 taken.config.shards)
  flushes_again k taken named = each_of_numbered (λ (send : ℕ × Msg). Goes shape CONTROLLER send.0 send.1) (flush_again_to k taken) (IsGroup shape) (flush_one_again k taken named) 0 taken.config.shards named.shards

  spares_left : (config : Config) (spares : List ℕ) → Each (IsSeqNode shape) spares → Each (IsSeqNode shape) (unused config spares)
  spares_left config spares h = each_filter (IsSeqNode shape) (λ (spare : ℕ). not (has_node config.seq spare)) spares h

  abbrev pub KeptControl : Row ControlState → Type 0
  KeptControl = Keeps (ControlOf shape) (Goes shape CONTROLLER)

  abbrev Going : Row ControlState → Type 0
  Going = KeptControl

  module _ (k : ControlState) (ok : ControlOf shape k) where
    stay : Going (stays k)
    stay = record { next = ok; sends = tt }

    at : (phase : Phase) → PhaseNamed shape phase → ControlOf shape (at_phase k phase)
    at phase named = record { shaped = ok.shaped; spares = ok.spares; phase = named }

    -- Suspect
    named_next : (config : Config) (phase : Phase) → PhaseNamed shape phase → ControlOf shape (naming k config phase)
    named_next config phase named = record { shaped = ok.shaped; spares = spares_left config k.spares ok.spares; phase = named }

    seals_now : (old coming : Config) → IsNamed shape old → IsNamed shape coming → Going (seals_view k old coming)
    seals_now old coming first second = record { next = named_next coming (Sealing (record { old = old; coming = coming })) (first, second); sends = seals old first old.view }

    renames_now : (old coming : Config) → IsNamed shape old → IsNamed shape coming → Going (renames k old coming)
    renames_now old coming first second = record { next = named_next coming (Sealing (record { old = old; coming = coming })) (first, second); sends = tt }

    flushes_now : (taken : Taken) → IsNamed shape taken.config → Going (flushes_anew k taken)
    flushes_now taken named = record { next = named_next taken.config (Flushing taken) named; sends = flushes k taken named }

    -- Sealed
    takes_now : (taken : Taken) → IsNamed shape taken.config → Going (takes_state k taken)
    takes_now taken named = record { next = at (Flushing taken) named; sends = flushes k taken named }

    -- Flushed
    starts_now : (taken : Taken) → IsNamed shape taken.config → Going (starts_view (reigning k taken) taken.config)
    starts_now taken named = record {
      next = record { shaped = ok.shaped; spares = ok.spares; phase = named };
      sends = new_views taken.config.seq named.seq taken.config named (reigning k taken).base (reigning k taken).window;
    }

    ends_now : (taken : Taken) → IsNamed shape taken.config → Going (ends_flush k taken)
    ends_now taken named =
        either Going (has_base taken) (starts_view (reigning k taken) taken.config) (stays k)
        (λ h. starts_now taken named) (λ h. stay)

    notes_now : (taken : Taken) → IsNamed shape taken.config → Going (notes_flush k taken)
    notes_now taken named =
        either Going (is_flushed_by_all taken) (ends_flush k taken) (stays (at_phase k (Flushing taken)))
        (λ h. ends_now taken named) (λ h. record { next = at (Flushing taken) named; sends = tt })

  named_newest : (k : ControlState) (phase : Phase) → PhaseNamed shape phase → IsNamed shape (newest (record k { phase = phase }))
  named_newest k (Running reign) named = named
  named_newest k (Sealing change) named = named.1
  named_newest k (Flushing taken) named = named

  -- the phase is given apart, so that a row is by cases on it
  replaced_in : (k : ControlState) (phase : Phase) → ControlOf shape (record k { phase = phase }) → (node : ℕ) → IsNamed shape (next_config (record k { phase = phase }) node) → Going (replaces (record k { phase = phase }) node)
  replaced_in k (Running reign) ok node named = seals_now (record k { phase = Running reign }) ok reign.config (next_config (record k { phase = Running reign }) node) ok.phase named
  replaced_in k (Sealing change) ok node named = renames_now (record k { phase = Sealing change }) ok change.old (next_config (record k { phase = Sealing change }) node) ok.phase.0 named
  replaced_in k (Flushing taken) ok node named = flushes_now (record k { phase = Flushing taken }) ok (with_config taken (next_config (record k { phase = Flushing taken }) node)) named

  sealed_in : (k : ControlState) (phase : Phase) → ControlOf shape (record k { phase = phase }) → (view bound : ℕ) (window : List Marks) (items : List Item) → Going (on_sealed (record k { phase = phase }) view bound window items)
  sealed_in k (Running reign) ok view bound window items = stay (record k { phase = Running reign }) ok
  sealed_in k (Sealing change) ok view bound window items =
      either Going (view == change.old.view) (takes_state (record k { phase = Sealing change }) (new_taken change.coming bound items window)) (stays (record k { phase = Sealing change }))
      (λ h. takes_now (record k { phase = Sealing change }) ok (new_taken change.coming bound items window) ok.phase.1)
      (λ h. stay (record k { phase = Sealing change }) ok)
  sealed_in k (Flushing taken) ok view bound window items = stay (record k { phase = Flushing taken }) ok

  flushed_in : (k : ControlState) (phase : Phase) → ControlOf shape (record k { phase = phase }) → (sender view : ℕ) → Going (on_flushed (record k { phase = phase }) sender view)
  flushed_in k (Running reign) ok sender view = stay (record k { phase = Running reign }) ok
  flushed_in k (Sealing change) ok sender view = stay (record k { phase = Sealing change }) ok
  flushed_in k (Flushing taken) ok sender view =
      let own = record k { phase = Flushing taken } in
      either Going (view == taken.config.view) (option_map_or (λ (shard : ℕ). notes_flush own (with_flushed taken shard)) (shard_led_by taken.config sender) (stays own)) (stays own)
      (λ h. some_or_none Going (λ (shard : ℕ). notes_flush own (with_flushed taken shard)) (shard_led_by taken.config sender) (stays own)
      (λ shard is. notes_now own ok (with_flushed taken shard) ok.phase) (λ none. stay own ok))
      (λ h. stay own ok)

  started_in : (k : ControlState) (phase : Phase) → ControlOf shape (record k { phase = phase }) → (sender view : ℕ) → Going (on_started (record k { phase = phase }) sender view)
  started_in k (Running reign) ok sender view =
      let own = record k { phase = Running reign } in
      either Going (view == reign.config.view) (stays (at_phase own (Running (with_started reign sender)))) (stays own)
      (λ h. record { next = at own ok (Running (with_started reign sender)) ok.phase; sends = tt })
      (λ h. stay own ok)
  started_in k (Sealing change) ok sender view = stay (record k { phase = Sealing change }) ok
  started_in k (Flushing taken) ok sender view = stay (record k { phase = Flushing taken }) ok

  asked_in : (k : ControlState) (phase : Phase) → ControlOf shape (record k { phase = phase }) → (sender : ℕ) → sender < shape.clients → Going (on_ask_view (record k { phase = phase }) sender)
  asked_in k (Running reign) ok sender there = record { next = ok; sends = ((refl, there, ok.phase), tt) }
  asked_in k (Sealing change) ok sender there = stay (record k { phase = Sealing change }) ok
  asked_in k (Flushing taken) ok sender there = stay (record k { phase = Flushing taken }) ok

  again_in : (k : ControlState) (phase : Phase) → ControlOf shape (record k { phase = phase }) → Sent (again_sends (record k { phase = phase }))
  again_in k (Running reign) ok =
      new_views (not_started reign) (each_filter (IsSeqNode shape) (λ (node : ℕ). not (has_node reign.started node)) reign.config.seq ok.phase.seq) reign.config ok.phase k.base k.window
  again_in k (Sealing change) ok = seals change.old ok.phase.0 change.old.view
  again_in k (Flushing taken) ok = flushes_again (record k { phase = Flushing taken }) taken ok.phase

  refused_no_more : (o : Option ConfigError) → option_map refusal_of o ≡ None → o ≡ None
  refused_no_more None h = refl
  refused_no_more (Some e) h = let wrong : Some (refusal_of e) ≡ None = h in cc

  named_no_more : (b : Bool) (o : Option SuspectRefused) → (if b then o else Some NotInView) ≡ None → o ≡ None
  named_no_more true o h = h
  named_no_more false o h = let wrong : Some NotInView ≡ None = h in cc

  not_refused : {A : Type 0} (o : Option A) → is_none o ≡ true → o ≡ None
  not_refused None h = refl
  not_refused (Some x) h = let wrong : false ≡ true = h in cc

  -- the next configuration, where the suspect isn't refused
  pub without_free : (k : ControlState) (node : ℕ) → is_none (suspect_refusal k node) ≡ true → without_refusal (newest k) (node ∷ []) k.spares ≡ None
  without_free k node allowed =
      refused_no_more (without_refusal (newest k) (node ∷ []) k.spares)
      (named_no_more (is_named (newest k) node) (option_map refusal_of (without_refusal (newest k) (node ∷ []) k.spares)) (not_refused (suspect_refusal k node) allowed))

  pub next_named : (k : ControlState) → ControlOf shape k → (node : ℕ) → is_none (suspect_refusal k node) ≡ true → IsNamed shape (next_config k node)
  next_named k ok node allowed = without_named shape (node ∷ []) (newest k) k.spares (named_newest k k.phase ok.phase) ok.spares (without_free k node allowed)

  module _ (k : ControlState) (ok : ControlOf shape k) where
    suspected : (node : ℕ) → Going (on_suspect k node)
    suspected node =
        either Going (is_none (suspect_refusal k node)) (replaces k node) (stays k)
        (λ allowed. replaced_in k k.phase ok node (next_named k ok node allowed))
        (λ h. stay k ok)

    rows : (sender : ℕ) (msg : Msg) → Goes shape sender CONTROLLER msg → Going (control_row k sender msg)
    rows sender (Sealed view bound window items) says = sealed_in k k.phase ok view bound window items
    rows sender (SealedEmpty view) says = sealed_in k k.phase ok view k.base k.window []
    rows sender (Flushed view) says = flushed_in k k.phase ok sender view
    rows sender (Started view) says = started_in k k.phase ok sender view
    rows sender AskView says = asked_in k k.phase ok sender says.0
    rows sender _ says = stay k ok

    takes : (sender : ℕ) (msg : Msg) → Goes shape sender CONTROLLER msg → Going (control_took k sender msg)
    takes sender msg says =
        either Going (is_turned_away k.shape sender msg) (stays k) (control_row k sender msg)
        (λ h. stay k ok) (λ h. rows sender msg says)

    pub control_kept : (input : Input) → GivenTo shape CONTROLLER input → Going (control_step k input)
    control_kept (Take e) given = takes e.from e.msg given
    control_kept Tick given = record { next = ok; sends = again_in k k.phase ok }
    control_kept (Suspect node) given = suspected node
    control_kept _ given = stay k ok
