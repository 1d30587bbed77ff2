-- The sizes of what the controller has and sends.
use Rattle.world_facts.specs.Sizes.{Sized, IsPending, AreHanded, DueBytes, IsWindow, line_limit}
use Rattle.lazy_msgs.specs.declared.msg.Msg.TheVariants.{Flush, Seal, NewView, Sealed, SealedEmpty, Flushed, Started, AskView}
use Rattle.lazy_msgs.specs.declared.input.Input.TheVariants.{Take, Tick, Suspect}
use Rattle.view_config.specs.declared.without.ConfigError.TheVariants.{LastOfShard, ViewsSpent}
use Rattle.world_facts.proofs.sizes.Sends.{AreSized, SizedInput, numbered_all, to_all}
use Rattle.view_config.specs.declared.nodes.TheConstants.{CONTROLLER}
use Rattle.view_config.specs.declared.config.Config.{Config}
use Rattle.world_facts.specs.MembersOf.{ControlOf}
use Rattle.world_facts.specs.SizesOf.{ControlSized, IsPhase, IsTaken}
use Rattle.lazy_rules.specs.ControlState.{ControlState, Flushing, Phase, Running, Sealing, Taken, newest}
use Rattle.view_config.specs.Shape.{Dimensions}
use Rattle.list_facts.specs.Lists.{Each}
use Rattle.view_config.specs.declared.edition.Edition.{Edition}
use Rattle.world_facts.proofs.goes.Sends.{GivenTo}
use Rattle.world_facts.specs.Members.{Goes, IsNamed}
use Rattle.lazy_msgs.specs.declared.input.Input.{Input}
use Rattle.lazy_msgs.specs.FrameLimits.{IsWord}
use Rattle.rec_id.specs.declared.item.Item.{Item}
use Rattle.world_facts.proofs.Claims.{Keeps}
use Rattle.rec_id.specs.declared.marks.Marks.{Marks}
use Rattle.lazy_msgs.specs.declared.msg.Msg.{Msg}
use Rattle.lazy_msgs.specs.declared.limits.TheConstants.{PENDING_LIMIT}
use Rattle.lazy_msgs.specs.Step.{Row}
use Rattle.lazy_rules.specs.ControlRules.{again_sends, at_phase, control_row, control_step, control_took, ends_flush, flush_again_to, flush_msg, flush_sends, flush_to, flushes_anew, has_base, is_flushed_by_all, new_taken, next_config, not_started, notes_flush, on_ask_view, on_flushed, on_sealed, on_started, on_suspect, seals_view, starts_view, suspect_refusal, takes_state, with_config, with_flushed, with_started, naming, renames, replaces, reigning}
use Rattle.view_config.specs.Without.{all_suspected, as_index, shard_refusal, without_refusal, replaced, without}
use Rattle.lazy_rules.specs.Roles.{first_of, shard_led_by}
use Rattle.lazy_rules.specs.Rows.{has_node, stays}
use Rattle.std.specs.Option.{is_none, option_map_or}
use Rattle.lazy_rules.specs.Door.{is_turned_away}
use Rattle.lazy_rules.specs.Items.{is_whole, items_for}
use Rattle.std.proofs.lemmas.Bool.{ltb-true}
use Rattle.std.specs.Prelude.{nat_lt, ◌&&◌, ◌==◌, ◌%◌, if◌then◌else◌}
use Rattle.world_facts.proofs.goes.Control.{next_named, without_free}
use Rattle.world_facts.proofs.goes.WithoutNamed.{seq_left}
use Rattle.list_facts.proofs.Cases.{some_or_none, either}
use Rattle.std.proofs.Common.{ap, arith, length, refl, subst, sym, ◌≡◌, ◌+◌, ◌≤◌, ◌∷◌, ◌^◌, [], true, false, suc, None, Some, ℕ, Bool, List, Option}
use Rattle.std.specs.List.{position}

-- items as a shard is given them
due_for : (whole own : Bool) (edition : Edition) (bytes : Option (List ℕ)) → DueBytes whole edition bytes → DueBytes (whole && own) edition (if whole && own then bytes else None)
due_for true true edition bytes h = h
due_for true false edition bytes h = tt
due_for false own edition bytes h = tt

module _ (shape : Dimensions) where
  pub handed : (shard place : ℕ) (items : List Item) → Each (IsPending shape) items → AreHanded shape shard place (items_for shape shard place items)
  handed shard place [] h = tt
  handed shard place (item ∷ items) h =
      (record { id = h.0.id; bytes = due_for (is_whole shape.mode) (place % shape.shards == shard) shape.edition item.bytes h.0.bytes }, handed shard (place + 1) items h.1)

  pub length-items_for : (shard place : ℕ) (items : List Item) → length (items_for shape shard place items) ≡ length items
  length-items_for shard place [] = refl
  length-items_for shard place (item ∷ items) = ap suc (length-items_for shard (place + 1) items)

  abbrev pub SizedControl : Row ControlState → Type 0
  SizedControl = Keeps (ControlSized shape) (λ (to : ℕ) (msg : Msg). Sized shape msg)

  -- Flush
  flush_says : (k : ControlState) (taken : Taken) → k.shape ≡ shape → IsNamed shape taken.config → IsTaken shape taken → (shard : ℕ) → Sized shape (flush_msg k taken shard)
  flush_says k taken shaped named h shard =
      subst (λ (d : Dimensions). Sized shape (Flush taken.config taken.from (items_for d shard taken.from taken.items))) (sym shaped) (
        record { least = named.view; word = h.view },
        record {
          stretch = let long = length-items_for shard taken.from taken.items in let few = h.few in let end = h.end in record { few = omega arith; end = omega arith };
          shard = shard;
          each = handed shard taken.from taken.items h.items;
        },
      )

  flush_one : (k : ControlState) (taken : Taken) → k.shape ≡ shape → IsNamed shape taken.config → IsTaken shape taken → (shard : ℕ) (nodes : List ℕ) → AreSized shape (flush_to k taken shard nodes)
  flush_one k taken shaped named h shard nodes = to_all shape (first_of nodes) (flush_msg k taken shard) (flush_says k taken shaped named h shard)

  flushes : (k : ControlState) (taken : Taken) → k.shape ≡ shape → IsNamed shape taken.config → IsTaken shape taken → AreSized shape (flush_sends k taken)
  flushes k taken shaped named h = numbered_all shape (flush_to k taken) (flush_one k taken shaped named h) 0 taken.config.shards

  flush_again : (k : ControlState) (taken : Taken) → k.shape ≡ shape → IsNamed shape taken.config → IsTaken shape taken → (shard : ℕ) (nodes : List ℕ) → AreSized shape (flush_again_to k taken shard nodes)
  flush_again k taken shaped named h shard nodes = either (AreSized shape) (has_node taken.flushed shard) [] (flush_to k taken shard nodes) (λ m. tt) (λ m. flush_one k taken shaped named h shard nodes)

  module _ (k : ControlState) (ok : ControlOf shape k) (own : ControlSized shape k) where
    stay : SizedControl (stays k)
    stay = record { next = own; sends = tt }

    at : (phase : Phase) → IsPhase shape phase → ControlSized shape (at_phase k phase)
    at phase h = record { base = own.base; window = own.window; phase = h }

    named_next : (config : Config) (phase : Phase) → IsPhase shape phase → ControlSized shape (naming k config phase)
    named_next config phase h = record { base = own.base; window = own.window; phase = h }

    seals_now : (old coming : Config) → IsNamed shape old → IsWord old.view → IsWord coming.view → SizedControl (seals_view k old coming)
    seals_now old coming named first second = record {
      next = named_next coming (Sealing (record { old = old; coming = coming })) (first, second);
      sends = to_all shape old.seq (Seal old.view) (record { least = named.view; word = first });
    }

    renames_now : (old coming : Config) → IsWord old.view → IsWord coming.view → SizedControl (renames k old coming)
    renames_now old coming first second = record { next = named_next coming (Sealing (record { old = old; coming = coming })) (first, second); sends = tt }

    flushes_now : (taken : Taken) → IsNamed shape taken.config → IsTaken shape taken → SizedControl (flushes_anew k taken)
    flushes_now taken named h = record { next = named_next taken.config (Flushing taken) h; sends = flushes k taken ok.shaped named h }

    takes_now : (taken : Taken) → IsNamed shape taken.config → IsTaken shape taken → SizedControl (takes_state k taken)
    takes_now taken named h = record { next = at (Flushing taken) h; sends = flushes k taken ok.shaped named h }

    starts_now : (taken : Taken) → IsNamed shape taken.config → IsTaken shape taken → SizedControl (starts_view (reigning k taken) taken.config)
    starts_now taken named h = record {
      next = record { base = h.end; window = h.window; phase = h.view };
      sends = to_all shape taken.config.seq (NewView taken.config (reigning k taken).base (reigning k taken).window) (record { least = named.view; word = h.view }, h.end, h.window);
    }

    ends_now : (taken : Taken) → IsNamed shape taken.config → IsTaken shape taken → SizedControl (ends_flush k taken)
    ends_now taken named h = either SizedControl (has_base taken) (starts_view (reigning k taken) taken.config) (stays k) (λ m. starts_now taken named h) (λ m. stay)

    notes_now : (taken : Taken) → IsNamed shape taken.config → IsTaken shape taken → SizedControl (notes_flush k taken)
    notes_now taken named h =
        either SizedControl (is_flushed_by_all taken) (ends_flush k taken) (stays (at_phase k (Flushing taken)))
        (λ m. ends_now taken named h) (λ m. record { next = at (Flushing taken) h; sends = tt })

  replaced_in : (k : ControlState) (phase : Phase) → ControlOf shape (record k { phase = phase }) → ControlSized shape (record k { phase = phase }) → (node : ℕ)
      → IsNamed shape (next_config (record k { phase = phase }) node) → IsWord (next_config (record k { phase = phase }) node).view → SizedControl (replaces (record k { phase = phase }) node)
  replaced_in k (Running reign) ok own node named word = seals_now (record k { phase = Running reign }) ok own reign.config (next_config (record k { phase = Running reign }) node) ok.phase own.phase word
  replaced_in k (Sealing change) ok own node named word = renames_now (record k { phase = Sealing change }) ok own change.old (next_config (record k { phase = Sealing change }) node) own.phase.0 word
  replaced_in k (Flushing taken) ok own node named word =
      flushes_now (record k { phase = Flushing taken }) ok own (with_config taken (next_config (record k { phase = Flushing taken }) node)) named
      (record { view = word; few = own.phase.few; end = own.phase.end; items = own.phase.items; window = own.phase.window })

  sealed_in : (k : ControlState) (phase : Phase) → ControlOf shape (record k { phase = phase }) → ControlSized shape (record k { phase = phase }) → (view bound : ℕ) (window : List Marks) (items : List Item)
      → length items ≤ PENDING_LIMIT → bound + length items ≤ line_limit → Each (IsPending shape) items → IsWindow shape window → SizedControl (on_sealed (record k { phase = phase }) view bound window items)
  sealed_in k (Running reign) ok own view bound window items few end each marks = stay (record k { phase = Running reign }) ok own
  sealed_in k (Sealing change) ok own view bound window items few end each marks =
      let here = record k { phase = Sealing change } in
      either SizedControl (view == change.old.view) (takes_state here (new_taken change.coming bound items window)) (stays here)
      (λ h. takes_now here ok own (new_taken change.coming bound items window) ok.phase.1 (record { view = own.phase.1; few = few; end = end; items = each; window = marks }))
      (λ h. stay here ok own)
  sealed_in k (Flushing taken) ok own view bound window items few end each marks = stay (record k { phase = Flushing taken }) ok own

  flushed_in : (k : ControlState) (phase : Phase) → ControlOf shape (record k { phase = phase }) → ControlSized shape (record k { phase = phase }) → (sender view : ℕ) → SizedControl (on_flushed (record k { phase = phase }) sender view)
  flushed_in k (Running reign) ok own sender view = stay (record k { phase = Running reign }) ok own
  flushed_in k (Sealing change) ok own sender view = stay (record k { phase = Sealing change }) ok own
  flushed_in k (Flushing taken) ok own sender view =
      let here = record k { phase = Flushing taken } in
      either SizedControl (view == taken.config.view) (option_map_or (λ (shard : ℕ). notes_flush here (with_flushed taken shard)) (shard_led_by taken.config sender) (stays here)) (stays here)
      (λ h. some_or_none SizedControl (λ (shard : ℕ). notes_flush here (with_flushed taken shard)) (shard_led_by taken.config sender) (stays here)
      (λ shard is. notes_now here ok own (with_flushed taken shard) ok.phase (record { view = own.phase.view; few = own.phase.few; end = own.phase.end; items = own.phase.items; window = own.phase.window }))
      (λ none. stay here ok own))
      (λ h. stay here ok own)

  started_in : (k : ControlState) (phase : Phase) → ControlOf shape (record k { phase = phase }) → ControlSized shape (record k { phase = phase }) → (sender view : ℕ) → SizedControl (on_started (record k { phase = phase }) sender view)
  started_in k (Running reign) ok own sender view =
      let here = record k { phase = Running reign } in
      either SizedControl (view == reign.config.view) (stays (at_phase here (Running (with_started reign sender)))) (stays here)
      (λ h. record { next = at here ok own (Running (with_started reign sender)) own.phase; sends = tt })
      (λ h. stay here ok own)
  started_in k (Sealing change) ok own sender view = stay (record k { phase = Sealing change }) ok own
  started_in k (Flushing taken) ok own sender view = stay (record k { phase = Flushing taken }) ok own

  asked_in : (k : ControlState) (phase : Phase) → ControlOf shape (record k { phase = phase }) → ControlSized shape (record k { phase = phase }) → (sender : ℕ) → SizedControl (on_ask_view (record k { phase = phase }) sender)
  asked_in k (Running reign) ok own sender = record { next = own; sends = (record { least = ok.phase.view; word = own.phase }, tt) }
  asked_in k (Sealing change) ok own sender = stay (record k { phase = Sealing change }) ok own
  asked_in k (Flushing taken) ok own sender = stay (record k { phase = Flushing taken }) ok own

  again_in : (k : ControlState) (phase : Phase) → ControlOf shape (record k { phase = phase }) → ControlSized shape (record k { phase = phase }) → AreSized shape (again_sends (record k { phase = phase }))
  again_in k (Running reign) ok own = to_all shape (not_started reign) (NewView reign.config k.base k.window) (record { least = ok.phase.view; word = own.phase }, own.base, own.window)
  again_in k (Sealing change) ok own = to_all shape change.old.seq (Seal change.old.view) (record { least = ok.phase.0.view; word = own.phase.0 })
  again_in k (Flushing taken) ok own = numbered_all shape (flush_again_to (record k { phase = Flushing taken }) taken) (flush_again (record k { phase = Flushing taken }) taken ok.shaped ok.phase own.phase) 0 taken.config.shards

  -- a view that isn't refused has a number
  shards_pass : (view : ℕ) (o : Option ℕ) → shard_refusal view o ≡ None → nat_lt (view + 1) (2 ^ 32) ≡ true
  shards_pass view (Some shard) h = let wrong : Some (LastOfShard (as_index shard)) ≡ None = h in cc
  shards_pass view None h = by (nat_lt (view + 1) (2 ^ 32)) h
    where
      by : (b : Bool) → (if b then None else Some ViewsSpent) ≡ None → b ≡ true
      by true e = refl
      by false e = let wrong : Some ViewsSpent ≡ None = e in absurd (let no : ⊥ = cc in no)

  view_word : (config : Config) (suspects spares : List ℕ) → without_refusal config suspects spares ≡ None → IsWord (without config suspects spares).view
  view_word config suspects spares allowed =
      let seq = seq_left (length (replaced suspects spares config.seq) == 0) (shard_refusal config.view (position (all_suspected suspects) config.shards)) allowed in
      ltb-true (config.view + 1) (2 ^ 32) (shards_pass config.view (position (all_suspected suspects) config.shards) seq.1)

  module _ (k : ControlState) (ok : ControlOf shape k) (own : ControlSized shape k) where
    suspected : (node : ℕ) → SizedControl (on_suspect k node)
    suspected node =
        either SizedControl (is_none (suspect_refusal k node)) (replaces k node) (stays k)
        (λ allowed.
        let free = without_free shape k node allowed in
        replaced_in k k.phase ok own node (next_named shape k ok node allowed) (view_word (newest k) (node ∷ []) k.spares free))
        (λ h. stay k ok own)

    rows : (sender : ℕ) (msg : Msg) → Goes shape sender CONTROLLER msg → Sized shape msg → SizedControl (control_row k sender msg)
    rows sender (Sealed view bound window items) goes says = sealed_in k k.phase ok own view bound window items says.1.stretch.few says.1.stretch.end says.1.each says.1.marks
    rows sender (SealedEmpty view) goes says = sealed_in k k.phase ok own view k.base k.window [] (omega arith) (let base = own.base in omega arith) tt own.window
    rows sender (Flushed view) goes says = flushed_in k k.phase ok own sender view
    rows sender (Started view) goes says = started_in k k.phase ok own sender view
    rows sender AskView goes says = asked_in k k.phase ok own sender
    rows sender _ goes says = stay k ok own

    takes : (sender : ℕ) (msg : Msg) → Goes shape sender CONTROLLER msg → Sized shape msg → SizedControl (control_took k sender msg)
    takes sender msg goes says =
        either SizedControl (is_turned_away k.shape sender msg) (stays k) (control_row k sender msg)
        (λ h. stay k ok own) (λ h. rows sender msg goes says)

    pub control_sized : (input : Input) → GivenTo shape CONTROLLER input → SizedInput shape input → SizedControl (control_step k input)
    control_sized (Take e) goes says = takes e.from e.msg goes says
    control_sized Tick goes says = record { next = own; sends = again_in k k.phase ok own }
    control_sized (Suspect node) goes says = suspected node
    control_sized _ goes says = stay k ok own
