-- Inputs by which the controller tells what it has: AskView, Started and Tick.
use Rattle.std.proofs.Common.{◌≡◌, ℕ, ◌+◌, ◌-◌, ◌≤◌, List, [], ◌∷◌, Some, refl, sym, ap, ◌∙◌, subst, arith}
use Rattle.std.specs.Prelude.{◌==◌, slice_get}
use Rattle.std.proofs.lemmas.List.{length-map}
use Rattle.list_facts.specs.Lists.{In, Each}
use Rattle.list_facts.proofs.Cases.{either}
use Rattle.list_facts.proofs.Members.{each_map, in_each}
use Rattle.rec_id.specs.Identity.{Identity}
use Rattle.rec_id.specs.declared.item.Item.{Item}
use Rattle.view_config.specs.Shape.{Dimensions}
use Rattle.view_config.specs.declared.config.Config.{Config}
use Rattle.lazy_msgs.specs.declared.msg.Msg.{Msg}
use Rattle.lazy_msgs.specs.declared.msg.Msg.TheVariants.{Seal, ViewIs}
use Rattle.lazy_rules.specs.ControlRules.{again_sends, at_phase, flush_again_to, flush_msg, flush_to, new_view_msg, not_started, on_ask_view, on_control_tick, on_started, with_started}
use Rattle.lazy_rules.specs.ControlState.{Change, ControlState, Phase, Reign, Taken, Flushing, Running, Sealing}
use Rattle.lazy_rules.specs.Ids.{ids_of}
use Rattle.lazy_rules.specs.Items.{items_for}
use Rattle.lazy_rules.specs.Roles.{first_of, replicas_at}
use Rattle.lazy_rules.specs.Rows.{has_node, sends_all, stays}
use Rattle.log_facts.specs.Ghosts.{Ghost}
use Rattle.log_facts.specs.Good.{GoodControl, Moment}
use Rattle.log_facts.specs.Handed.{EachFrom, ItemGiven}
use Rattle.log_facts.specs.Parts.{Parts, home_of}
use Rattle.log_facts.specs.Says.{FlushSays, IsFlush, NewViewSays, SealSays}
use Rattle.log_facts.specs.Signs.{IsPiece}
use Rattle.log_facts.specs.facts.OfLine.{TakenHeld}
use Rattle.log_facts.specs.facts.OfViews.{ControlFacts}
use Rattle.control_rows.proofs.Flushed.{taken_end}
use Rattle.control_rows.proofs.Handing.{each_numbered_at, ids_for, items_given}
use Rattle.control_rows.proofs.Held.{facts_in, formed_in, lv_number, reign_says, same_control, seal_says, stays_in}
use Rattle.control_rows.proofs.Lists.{first_in, first_is}
use Rattle.control_rows.proofs.Noting.{Told, good_noted, good_sends}
use Rattle.control_rows.proofs.Taking.{taken_piece}

module _ (shape : Dimensions) (g : Ghost) (a : Parts) (moment : Moment shape g a) where
  abbrev Sent : List (ℕ × Msg) → Type 0
  Sent sends = Each (Told shape g a) sends

  sends_in : (phase : Phase) → a.control.phase ≡ phase → (sends : List (ℕ × Msg)) → Sent sends → GoodControl shape g a (sends_all (record a.control { phase = phase }) sends)
  sends_in phase is sends said = subst (λ (s : ControlState). GoodControl shape g a (sends_all s sends)) (same_control shape g a moment phase is) (good_sends shape g a moment.agreed sends said)

  -- AskView
  asked_in : (sender : ℕ) (phase : Phase) → a.control.phase ≡ phase → GoodControl shape g a (on_ask_view (record a.control { phase = phase }) sender)
  asked_in sender (Running reign) is =
      sends_in (Running reign) is ((sender, ViewIs reign.config) ∷ []) (reign_says shape g a moment reign.config (facts_in shape g a moment (Running reign) is).phase.config, tt)
  asked_in sender (Sealing change) is = stays_in shape g a moment (Sealing change) is
  asked_in sender (Flushing taken) is = stays_in shape g a moment (Flushing taken) is

  pub good_ask_view : (sender : ℕ) → GoodControl shape g a (on_ask_view a.control sender)
  good_ask_view sender = asked_in sender a.control.phase refl

  -- Started
  notes_started : (reign now : Reign) → a.control.phase ≡ Running reign → now.config ≡ reign.config → GoodControl shape g a (stays (at_phase a.control (Running now)))
  notes_started reign now is same =
      let facts = facts_in shape g a moment (Running reign) is in
      good_noted shape g a moment.agreed (at_phase a.control (Running now)) []
      (record {
        phase = record { live = facts.phase.live; config = same ∙ facts.phase.config };
        base = facts.base;
        window = facts.window;
        spares = facts.spares;
        unnamed = subst (λ (config : Config). (node : ℕ) → In node a.control.spares → ¬ In node config.seq) (sym same) facts.unnamed;
      })
      (λ taken none. cc) tt tt

  started_in : (sender view : ℕ) (phase : Phase) → a.control.phase ≡ phase → GoodControl shape g a (on_started (record a.control { phase = phase }) sender view)
  started_in sender view (Running reign) is =
      either (GoodControl shape g a) (view == reign.config.view) (stays (at_phase (record a.control { phase = Running reign }) (Running (with_started reign sender)))) (stays (record a.control { phase = Running reign }))
      (λ e. notes_started reign (with_started reign sender) is refl)
      (λ e. stays_in shape g a moment (Running reign) is)
  started_in sender view (Sealing change) is = stays_in shape g a moment (Sealing change) is
  started_in sender view (Flushing taken) is = stays_in shape g a moment (Flushing taken) is

  pub good_started : (sender view : ℕ) → GoodControl shape g a (on_started a.control sender view)
  good_started sender view = started_in sender view a.control.phase refl

  -- Tick: the view that runs is told again to who didn't take it
  views_again : (reign : Reign) → a.control.phase ≡ Running reign → Sent (again_sends (record a.control { phase = Running reign }))
  views_again reign is =
      each_map (λ (to : ℕ). (to, new_view_msg a.control reign.config)) (Told shape g a) (not_started reign)
      (in_each (λ (to : ℕ). NewViewSays g.views g.log a.history a.seqs reign.config a.control.base a.control.window) (not_started reign) (λ to m. says))
    where
      says : NewViewSays g.views g.log a.history a.seqs reign.config a.control.base a.control.window
      says =
          let facts = facts_in shape g a moment (Running reign) is in
          let number = lv_number shape g a moment reign.config facts.phase.config in
          let live = facts.phase.live in
          record {
            reign = reign_says shape g a moment reign.config facts.phase.config;
            base_is = facts.base ∙ ap g.views.bs (sym number);
            window_is = facts.window ∙ ap g.views.wn (sym number);
            leaderless = λ lt. absurd (omega arith);
          }

  -- the sealed view is sealed again
  seals_again : (change : Change) → a.control.phase ≡ Sealing change → Sent (again_sends (record a.control { phase = Sealing change }))
  seals_again change is =
      each_map (λ (to : ℕ). (to, Seal change.old.view)) (Told shape g a) change.old.seq
      (in_each (λ (to : ℕ). SealSays g.views to change.old.view) change.old.seq (seal_says shape g a moment change.old (facts_in shape g a moment (Sealing change) is).phase.old))

  -- and what was taken is flushed again
  module _ (taken : Taken) (is : a.control.phase ≡ Flushing taken) where
    abbrev k : ControlState
    k = record a.control { phase = Flushing taken }

    facts : ControlFacts g.views k
    facts = facts_in shape g a moment (Flushing taken) is

    had : TakenHeld shape g.log a.history taken
    had = moment.agreed.line.taken taken is

    number : taken.config.view ≡ g.views.cur
    number = ap (λ (c : Config). c.view) facts.phase.config ∙ moment.agreed.views.configs.numbered g.views.cur

    is_flush : IsFlush g.views g.log.line g.views.cur taken.from (ids_of taken.items)
    is_flush =
        let first = moment.agreed.views.started.some in
        let unstarted = facts.phase.unstarted in
        let closing = moment.agreed.line.closing unstarted in
        let behind : g.views.lv ≤ g.views.cur - 1 = omega arith in
        let closed = closing.closed (g.views.cur - 1) behind in
        let ended = closing.ended (g.views.cur - 1) behind in
        let low = had.low in
        let count = length-map taken.items (λ (item : Item). item.id) in
        let end = taken_end shape g a moment taken is in
        record {
          before = g.views.cur - 1;
          some = omega arith;
          is = omega arith;
          known = omega arith;
          starts = omega arith;
          ends = omega arith;
          piece = subst (λ (line : List Identity). IsPiece line taken.from (ids_of taken.items)) had.line (taken_piece g.log.line taken.from taken.items had.held.short);
        }

    flush_says : (shard to : ℕ) → home_of to ≡ shard → FlushSays shape g.views g.log.line a.history to taken.config taken.from (items_for shape shard taken.from taken.items)
    flush_says shard to home = record {
      named = facts.phase.config ∙ ap g.views.cf (sym number);
      flush = subst (λ (view : ℕ). IsFlush g.views g.log.line view taken.from (ids_of (items_for shape shard taken.from taken.items))) (sym number)
          (subst (λ (ids : List Identity). IsFlush g.views g.log.line g.views.cur taken.from ids) (sym (ids_for shape shard taken.from taken.items)) is_flush);
      given = subst (λ (i : ℕ). EachFrom (ItemGiven shape a.history i) taken.from (items_for shape shard taken.from taken.items)) (sym home) (items_given shape a.history shard taken.from taken.items had.whole);
    }

    listed : (i : ℕ) (nodes : List ℕ) → slice_get taken.config.shards i ≡ Some nodes → (to : ℕ) → In to (first_of nodes) → In to (replicas_at taken.config i)
    listed i nodes at to m = rw at (first_in nodes to (first_is nodes to m))

    home : (i to : ℕ) → In to (replicas_at taken.config i) → home_of to ≡ i
    home i to m = (moment.agreed.views.configs.lists g.views.cur).homes i to (subst (λ (c : Config). In to (replicas_at c i)) facts.phase.config m)

    one_shard : (i : ℕ) (nodes : List ℕ) → slice_get taken.config.shards i ≡ Some nodes → Sent (flush_to k taken i nodes)
    one_shard i nodes at =
        each_map (λ (to : ℕ). (to, flush_msg k taken i)) (Told shape g a) (first_of nodes)
        (in_each (λ (to : ℕ). FlushSays shape g.views g.log.line a.history to taken.config taken.from (items_for k.shape i taken.from taken.items)) (first_of nodes)
        (λ to m. subst (λ (s : Dimensions). FlushSays shape g.views g.log.line a.history to taken.config taken.from (items_for s i taken.from taken.items)) (sym (formed_in shape g a moment (Flushing taken) is).shaped)
        (flush_says i to (home i to (listed i nodes at to m)))))

    again_to : (i : ℕ) (nodes : List ℕ) → slice_get taken.config.shards i ≡ Some nodes → Sent (flush_again_to k taken i nodes)
    again_to i nodes at = either Sent (has_node taken.flushed i) [] (flush_to k taken i nodes) (λ had_it. tt) (λ lacks. one_shard i nodes at)

    flushes_again : Sent (again_sends k)
    flushes_again =
        each_numbered_at (Told shape g a) (flush_again_to k taken) 0 taken.config.shards
        (λ i nodes at. let zero : i ≡ 0 + i = omega arith in subst (λ (shard : ℕ). Sent (flush_again_to k taken shard nodes)) zero (again_to i nodes at))

  ticks_in : (phase : Phase) → a.control.phase ≡ phase → Sent (again_sends (record a.control { phase = phase }))
  ticks_in (Running reign) is = views_again reign is
  ticks_in (Sealing change) is = seals_again change is
  ticks_in (Flushing taken) is = flushes_again taken is

  pub good_control_tick : GoodControl shape g a (on_control_tick a.control)
  good_control_tick = good_sends shape g a moment.agreed (again_sends a.control) (ticks_in a.control.phase refl)
