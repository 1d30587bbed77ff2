-- Suspect: a node is replaced. A view that runs is sealed, the configuration that comes after a sealed one changes, and a
-- flush is given up for that of the next view.
use Rattle.std.proofs.Common.{◌≡◌, ℕ, ◌<◌, ◌≤◌, List, [], length, take, true, inl, inr, refl, sym, ap, ◌∙◌, subst, arith}
use Rattle.std.specs.Prelude.{is_none}
use Rattle.std.proofs.lemmas.Bool.{cases_lt}
use Rattle.list_facts.specs.Lists.{In}
use Rattle.list_facts.proofs.Cases.{either}
use Rattle.list_facts.proofs.Members.{each_map, in_each}
use Rattle.rec_id.specs.Identity.{Identity}
use Rattle.view_config.specs.Shape.{Dimensions}
use Rattle.view_config.specs.declared.config.Config.{Config}
use Rattle.lazy_msgs.specs.declared.msg.Msg.TheVariants.{Seal}
use Rattle.lazy_rules.specs.ControlRules.{naming, next_config, on_suspect, replaces, suspect_refusal, with_config}
use Rattle.lazy_rules.specs.ControlState.{Change, ControlState, Phase, Reign, Taken, Flushing, Running, Sealing}
use Rattle.lazy_rules.specs.Roles.{replicas_at}
use Rattle.lazy_rules.specs.Rows.{stays, to_each}
use Rattle.world_facts.proofs.goes.Control.{next_named}
use Rattle.log_facts.proofs.growth.SaidControl.{said_control}
use Rattle.log_facts.specs.Finality.{IsShut}
use Rattle.log_facts.specs.Ghosts.{Ghost}
use Rattle.log_facts.specs.Good.{GoodControl, Moment}
use Rattle.log_facts.specs.Parts.{Parts, with_control}
use Rattle.log_facts.specs.Says.{SealSays}
use Rattle.log_facts.specs.facts.OfLine.{TakenHeld}
use Rattle.log_facts.specs.facts.OfViews.{ConfigFacts, ControlFacts, IsLater}
use Rattle.control_rows.proofs.Handing.{sublist_trans}
use Rattle.control_rows.proofs.Held.{allowed_in, facts_in, formed_in, lv_number, seal_says}
use Rattle.control_rows.proofs.Next.{next_later, next_lists, unused_distinct, unused_unnamed}
use Rattle.control_rows.proofs.Noting.{Told, good_noted, good_stays}
use Rattle.control_rows.proofs.Taking.{Takes, closed_ghost, good_taken, grows_now, taken_line}

module _ (shape : Dimensions) (g : Ghost) (a : Parts) (moment : Moment shape g a) (node : ℕ) (allowed : is_none (suspect_refusal a.control node) ≡ true) where
  -- a view is sealed, or goes on being sealed, and this configuration comes next
  changes : (k : ControlState) → ControlFacts g.views k → (old coming : Config) → g.views.cur ≡ g.views.lv → old ≡ g.views.cf g.views.lv → g.views.lv < coming.view → ConfigFacts coming → IsLater (g.views.cf g.views.lv) coming
      → ControlFacts g.views (naming k coming (Sealing (record { old = old; coming = coming })))
  changes k facts old coming live is after lists later = record {
    phase = record { live = live; old = is; after = after; lists = lists; later = later };
    base = facts.base;
    window = facts.window;
    spares = unused_distinct coming k.spares facts.spares;
    unnamed = unused_unnamed coming k.spares;
  }

  none_taken : (change : Change) (taken : Taken) → Sealing change ≡ Flushing taken → TakenHeld shape g.log a.history taken
  none_taken change taken is = cc

  running : (reign : Reign) → a.control.phase ≡ Running reign → GoodControl shape g a (replaces (record a.control { phase = Running reign }) node)
  running reign is =
      let k : ControlState = record a.control { phase = Running reign } in
      let facts = facts_in shape g a moment (Running reign) is in
      let config = facts.phase.config in
      let coming = next_config k node in
      let number = lv_number shape g a moment reign.config config in
      let lists = next_lists k node (subst (λ (c : Config). ConfigFacts c) (sym config) (moment.agreed.views.configs.lists g.views.lv)) facts.spares facts.unnamed in
      let later = subst (λ (c : Config). IsLater c coming) config (next_later k node) in
      good_noted shape g a moment.agreed (naming k coming (Sealing (record { old = reign.config; coming = coming }))) (to_each reign.config.seq (Seal reign.config.view))
      (changes k facts reign.config coming facts.phase.live config (omega arith) lists later)
      (none_taken (record { old = reign.config; coming = coming })) tt
      (each_map (λ (to : ℕ). (to, Seal reign.config.view)) (Told shape g (with_control a (naming k coming (Sealing (record { old = reign.config; coming = coming }))))) reign.config.seq
      (in_each (λ (to : ℕ). SealSays g.views to reign.config.view) reign.config.seq (seal_says shape g a moment reign.config config)))

  sealing : (change : Change) → a.control.phase ≡ Sealing change → GoodControl shape g a (replaces (record a.control { phase = Sealing change }) node)
  sealing change is =
      let k : ControlState = record a.control { phase = Sealing change } in
      let facts = facts_in shape g a moment (Sealing change) is in
      let f = facts.phase in
      let coming = next_config k node in
      let after = f.after in
      let later : IsLater (g.views.cf g.views.lv) coming = λ shard. sublist_trans (replicas_at coming shard) (replicas_at change.coming shard) (replicas_at (g.views.cf g.views.lv) shard) (next_later k node shard) (f.later shard) in
      good_noted shape g a moment.agreed (naming k coming (Sealing (record { old = change.old; coming = coming }))) []
      (changes k facts change.old coming f.live f.old (omega arith) (next_lists k node f.lists facts.spares facts.unnamed) later)
      (none_taken (record { old = change.old; coming = coming })) tt tt

  -- the flush is given up: the same is taken anew
  module _ (taken : Taken) (is : a.control.phase ≡ Flushing taken) where
    abbrev k : ControlState
    k = record a.control { phase = Flushing taken }

    abbrev coming : Config
    coming = next_config k node

    facts : ControlFacts g.views k
    facts = facts_in shape g a moment (Flushing taken) is

    had : TakenHeld shape g.log a.history taken
    had = moment.agreed.line.taken taken is

    number : taken.config.view ≡ g.views.cur
    number = ap (λ (c : Config). c.view) facts.phase.config ∙ moment.agreed.views.configs.numbered g.views.cur

    same_line : (w : ℕ) → g.views.lv ≤ w → (g.views.cl w ≡ taken.from) × (g.views.le w ≡ length (taken_line g.log.line taken.from taken.items))
    same_line w le = let closing = moment.agreed.line.closing facts.phase.unstarted in (closing.closed w le ∙ had.low, closing.ended w le ∙ sym (ap (λ (ids : List Identity). length ids) had.line))

    again : Takes shape g a coming taken.from taken.window taken.items (g.views.cx g.views.lv)
    again =
        let unstarted = facts.phase.unstarted in
        let numbered = number in
        let started = moment.agreed.views.started in
        let closer = moment.agreed.among_seqs.closers g.views.lv started.some unstarted in
        let own = started.last g.views.lv (omega arith) in
        let one = (moment.agreed.line.closing unstarted).one in
        let low = had.low in
        let at = same_line g.views.lv (omega arith) in
        let at_cl = at.0 in
        let at_le = at.1 in
        let based = moment.agreed.views.bounds.closed g.views.lv unstarted in
        record {
          after = omega arith;
          named = next_named shape k (formed_in shape g a moment (Flushing taken) is) node (allowed_in shape g a moment (Flushing taken) is node allowed);
          lists = next_lists k node (subst (λ (c : Config). ConfigFacts c) (sym facts.phase.config) (moment.agreed.views.configs.lists g.views.cur)) facts.spares facts.unnamed;
          later = subst (λ (c : Config). IsLater c coming) facts.phase.config (next_later k node);
          member = subst (λ (u : ℕ). In (g.views.cx g.views.lv) (g.views.cf u).seq) own closer.member;
          shut = subst (λ (u : ℕ). IsShut (a.seqs (g.views.cx g.views.lv)) u) own closer.shut;
          held = had.held;
          whole = had.whole;
          least = omega arith;
          most = omega arith;
          based = omega arith;
          ends = λ w lt. elim (cases_lt w g.views.lv) [
            | inl before ↦ let rise = moment.agreed.views.bounds.ends_rise w g.views.lv (omega arith) in omega arith
            | inr not ↦ let end = (same_line w not).1 in omega arith
          ];
          flushed = λ w lt. ap (λ (ids : List Identity). take (g.views.le w) ids) had.line;
          closing = λ w le lt. same_line w le;
          closes = λ s. let no = started.last g.views.cur (omega arith) in let is_own = s.is in absurd (omega arith);
        }

    flushing : GoodControl shape g a (replaces k node)
    flushing =
        good_taken shape g a moment coming taken.from taken.window taken.items (g.views.cx g.views.lv) again
        (naming k coming (Flushing (with_config taken coming))) refl facts.base facts.window
        (unused_distinct coming k.spares facts.spares) (unused_unnamed coming k.spares)
        (said_control shape g (closed_ghost g coming taken.from taken.items (g.views.cx g.views.lv)) a (naming k coming (Flushing (with_config taken coming))) moment.agreed
        (grows_now shape g a moment coming taken.from taken.window taken.items (g.views.cx g.views.lv) again))
        k (formed_in shape g a moment (Flushing taken) is).shaped

  by_phase : (phase : Phase) → a.control.phase ≡ phase → GoodControl shape g a (replaces (record a.control { phase = phase }) node)
  by_phase (Running reign) is = running reign is
  by_phase (Sealing change) is = sealing change is
  by_phase (Flushing taken) is = flushing taken is

  replaced : GoodControl shape g a (replaces a.control node)
  replaced = by_phase a.control.phase refl

pub good_suspect : (shape : Dimensions) (g : Ghost) (a : Parts) → Moment shape g a → (node : ℕ) → GoodControl shape g a (on_suspect a.control node)
good_suspect shape g a moment node =
    either (GoodControl shape g a) (is_none (suspect_refusal a.control node)) (replaces a.control node) (stays a.control)
    (λ allowed. replaced shape g a moment node allowed) (λ refused. good_stays shape g a moment.agreed)
