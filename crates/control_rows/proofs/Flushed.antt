-- Flushed: that a shard has the flushed line is noted, and with the last one the view starts.
use Rattle.std.proofs.Common.{◌≡◌, ℕ, ◌+◌, ◌<◌, ◌≤◌, List, [], length, true, Option, Some, None, inl, inr, refl, sym, ap, ◌∙◌, subst, arith}
use Rattle.std.specs.Prelude.{◌==◌, unwrap_or}
use Rattle.std.specs.Option.{option_map_or}
use Rattle.std.proofs.lemmas.Bool.{cases_lt, eqb-true}
use Rattle.std.proofs.lemmas.Option.{slice_get_past}
use Rattle.list_facts.specs.Lists.{In, Each}
use Rattle.list_facts.proofs.Cases.{either, some_or_none}
use Rattle.list_facts.proofs.Members.{each_in, in_each}
use Rattle.rec_id.specs.Identity.{Identity}
use Rattle.view_config.specs.Shape.{Dimensions}
use Rattle.view_config.specs.declared.config.Config.{Config}
use Rattle.lazy_rules.specs.ControlRules.{at_phase, ends_flush, has_base, is_flushed_by_all, notes_flush, on_flushed, reigning, starts_view, with_flushed}
use Rattle.lazy_rules.specs.ControlState.{ControlState, Phase, Taken, Flushing, Running, Sealing}
use Rattle.lazy_rules.specs.Roles.{is_first, replicas_at, shard_led_by}
use Rattle.lazy_rules.specs.Rows.{stays}
use Rattle.log_facts.specs.Finality.{AllSettledIn, IsSettled}
use Rattle.log_facts.specs.Ghosts.{Ghost}
use Rattle.log_facts.specs.Good.{GoodControl, Moment}
use Rattle.log_facts.specs.Parts.{Parts, home_of}
use Rattle.log_facts.specs.Says.{FlushedSays}
use Rattle.log_facts.specs.facts.OfLine.{TakenHeld}
use Rattle.log_facts.specs.facts.OfViews.{ControlFacts, NotedFlushed}
use Rattle.control_rows.proofs.Beginning.{one_first}
use Rattle.control_rows.proofs.Held.{facts_in, notes_in, stays_in}
use Rattle.control_rows.proofs.Lists.{all_answered, first_in, in_answered, led_first}
use Rattle.control_rows.proofs.Noting.{good_noted}
use Rattle.control_rows.proofs.Started.{good_started_view}
use Rattle.control_rows.proofs.Taking.{taken_length}

-- a shard that has replicas is one of the configuration's
pub shard_known : (config : Config) (shard d : ℕ) → In d (replicas_at config shard) → shard < length config.shards
shard_known config shard d m = elim (cases_lt shard (length config.shards)) [
  | inl lt ↦ lt
  | inr past ↦ absurd (subst (λ (o : Option (List ℕ)). In d (unwrap_or o [])) (slice_get_past config.shards shard past) m)
]

module _ (shape : Dimensions) (g : Ghost) (a : Parts) (moment : Moment shape g a) (taken : Taken) (is : a.control.phase ≡ Flushing taken) where
  abbrev k : ControlState
  k = record a.control { phase = Flushing taken }

  facts : ControlFacts g.views k
  facts = facts_in shape g a moment (Flushing taken) is

  had : TakenHeld shape g.log a.history taken
  had = moment.agreed.line.taken taken is

  -- the flushed line ends where the line does
  pub taken_end : taken.from + length taken.items ≡ length g.log.line
  taken_end = sym (taken_length g.log.line taken.from taken.items had.held.short) ∙ ap (λ (ids : List Identity). length ids) had.line

  abbrev Noted : ℕ → Type 0
  Noted shard = NotedFlushed g.views a.shards (taken.from + length taken.items) shard

  module _ (sender view shard : ℕ) (said : FlushedSays g.views a.shards sender view) (same : view ≡ taken.config.view) (led : shard_led_by taken.config sender ≡ Some shard) where
    number : view ≡ g.views.cur
    number = same ∙ ap (λ (c : Config). c.view) facts.phase.config ∙ moment.agreed.views.configs.numbered g.views.cur

    leads : is_first (replicas_at (g.views.cf g.views.cur) shard) sender ≡ true
    leads = subst (λ (c : Config). is_first (replicas_at c shard) sender ≡ true) facts.phase.config (led_first taken.config sender shard led)

    home : home_of sender ≡ shard
    home = (moment.agreed.views.configs.lists g.views.cur).homes shard sender (first_in (replicas_at (g.views.cf g.views.cur) shard) sender leads)

    noted_now : Noted shard
    noted_now =
        let numbered = number in
        let unstarted = facts.phase.unstarted in
        let after = said.is in
        let behind : g.views.lv ≤ said.before = omega arith in
        let end = (moment.agreed.line.closing unstarted).ended said.before behind ∙ sym taken_end in
        record {
          settled = subst (λ (n : ℕ). AllSettledIn g.views a.shards g.views.cur shard n) end
              (subst (λ (i : ℕ). AllSettledIn g.views a.shards g.views.cur i (g.views.le said.before)) home
              (subst (λ (w : ℕ). AllSettledIn g.views a.shards w (home_of sender) (g.views.le said.before)) number said.settled));
          ended = λ d first there.
              let one = one_first (replicas_at (g.views.cf g.views.cur) shard) sender d leads first in
              let own = subst (λ (w : ℕ). (a.shards sender).view ≡ w → (a.shards sender).flush ≡ None) number said.ended in
              subst (λ (n : ℕ). (a.shards n).view ≡ g.views.cur → (a.shards n).flush ≡ None) one own there;
        }

    abbrev after_note : Taken
    after_note = with_flushed taken shard

    notes_now : Each Noted after_note.flushed
    notes_now = in_each Noted after_note.flushed (λ x m. elim (in_answered taken.flushed shard x m) [
      | inl old ↦ each_in Noted taken.flushed (notes_in shape g a moment (Flushing taken) is) x old
      | inr own ↦ subst Noted own noted_now
    ])

    had_now : TakenHeld shape g.log a.history after_note
    had_now = record { held = had.held; whole = had.whole; low = had.low; line = had.line }

    waits : GoodControl shape g a (stays (at_phase k (Flushing after_note)))
    waits = good_noted shape g a moment.agreed (at_phase k (Flushing after_note)) []
        (record { phase = record { unstarted = facts.phase.unstarted; config = facts.phase.config }; base = facts.base; window = facts.window; spares = facts.spares; unnamed = facts.unnamed })
        (λ other now. let one : after_note ≡ other = cc in subst (λ (t : Taken). TakenHeld shape g.log a.history t) one had_now)
        notes_now tt

    -- with the last one every replica has the line
    module _ (every : is_flushed_by_all after_note ≡ true) where
      noted_all : (other d : ℕ) → In d (replicas_at (g.views.cf g.views.cur) other) → Noted other
      noted_all other d m =
          let within = shard_known taken.config other d (subst (λ (c : Config). In d (replicas_at c other)) (sym facts.phase.config) m) in
          each_in Noted after_note.flushed notes_now other (all_answered (length taken.config.shards) after_note.flushed every other within)

      settled_all : (other d : ℕ) → In d (replicas_at (g.views.cf g.views.cur) other) → IsSettled (a.shards d) g.views.cur (length g.log.line)
      settled_all other d m = subst (λ (n : ℕ). IsSettled (a.shards d) g.views.cur n) taken_end ((noted_all other d m).settled d m)

      ended_all : (other d : ℕ) → is_first (replicas_at (g.views.cf g.views.cur) other) d ≡ true → (a.shards d).view ≡ g.views.cur → (a.shards d).flush ≡ None
      ended_all other d first there = (noted_all other d (first_in (replicas_at (g.views.cf g.views.cur) other) d first)).ended d first there

      begins_now : GoodControl shape g a (starts_view (reigning k after_note) after_note.config)
      begins_now = good_started_view shape g a moment after_note facts.phase.unstarted facts.phase.config had_now settled_all ended_all taken_end k facts facts.unnamed

      ends_now : GoodControl shape g a (ends_flush k after_note)
      ends_now =
          either (GoodControl shape g a) (has_base after_note) (starts_view (reigning k after_note) after_note.config) (stays k)
          (λ fits. begins_now) (λ spent. stays_in shape g a moment (Flushing taken) is)

    notes : GoodControl shape g a (notes_flush k after_note)
    notes =
        either (GoodControl shape g a) (is_flushed_by_all after_note) (ends_flush k after_note) (stays (at_phase k (Flushing after_note)))
        (λ every. ends_now every) (λ some. waits)

  pub flushed_in : (sender view : ℕ) → FlushedSays g.views a.shards sender view → GoodControl shape g a (on_flushed k sender view)
  flushed_in sender view said =
      either (GoodControl shape g a) (view == taken.config.view) (option_map_or (λ (shard : ℕ). notes_flush k (with_flushed taken shard)) (shard_led_by taken.config sender) (stays k)) (stays k)
      (λ e. some_or_none (GoodControl shape g a) (λ (shard : ℕ). notes_flush k (with_flushed taken shard)) (shard_led_by taken.config sender) (stays k)
      (λ shard led. notes sender view shard said (eqb-true view taken.config.view e) led)
      (λ none. stays_in shape g a moment (Flushing taken) is))
      (λ e. stays_in shape g a moment (Flushing taken) is)

module _ (shape : Dimensions) (g : Ghost) (a : Parts) (moment : Moment shape g a) (sender view : ℕ) (said : FlushedSays g.views a.shards sender view) where
  by_phase : (phase : Phase) → a.control.phase ≡ phase → GoodControl shape g a (on_flushed (record a.control { phase = phase }) sender view)
  by_phase (Running reign) is = stays_in shape g a moment (Running reign) is
  by_phase (Sealing change) is = stays_in shape g a moment (Sealing change) is
  by_phase (Flushing taken) is = flushed_in shape g a moment taken is sender view said

  pub good_flushed : GoodControl shape g a (on_flushed a.control sender view)
  good_flushed = by_phase a.control.phase refl
