-- What the controller has of itself, by its phase.
use Rattle.std.proofs.Common.{◌≡◌, ℕ, true, sym, ap, ◌∙◌, subst, arith}
use Rattle.std.specs.Prelude.{is_none}
use Rattle.list_facts.specs.Lists.{In}
use Rattle.view_config.specs.Shape.{Dimensions}
use Rattle.view_config.specs.declared.config.Config.{Config}
use Rattle.lazy_rules.specs.ControlRules.{suspect_refusal}
use Rattle.lazy_rules.specs.ControlState.{ControlState, Phase}
use Rattle.lazy_rules.specs.Rows.{stays}
use Rattle.world_facts.specs.MembersOf.{ControlOf}
use Rattle.log_facts.specs.Ghosts.{Ghost, IsStarted}
use Rattle.log_facts.specs.Good.{GoodControl, Moment}
use Rattle.log_facts.specs.Parts.{Parts}
use Rattle.log_facts.specs.Says.{IsReign, SealSays}
use Rattle.log_facts.specs.facts.OfViews.{ControlFacts, ControlNotes}
use Rattle.control_rows.proofs.Noting.{good_stays}

module _ (shape : Dimensions) (g : Ghost) (a : Parts) (moment : Moment shape g a) where
  -- the latest started view
  pub lv_started : IsStarted g.views g.views.lv
  lv_started = record { some = moment.agreed.views.started.some; is = moment.agreed.views.started.last g.views.lv (omega arith) }

  pub lv_number : (config : Config) → config ≡ g.views.cf g.views.lv → config.view ≡ g.views.lv
  lv_number config is = ap (λ (c : Config). c.view) is ∙ moment.agreed.views.configs.numbered g.views.lv

  pub reign_says : (config : Config) → config ≡ g.views.cf g.views.lv → IsReign g.views config
  reign_says config is =
      let number = lv_number config is in
      record {
        started = subst (λ (view : ℕ). IsStarted g.views view) (sym number) lv_started;
        named = is ∙ ap g.views.cf (sym number);
      }

  pub seal_says : (config : Config) → config ≡ g.views.cf g.views.lv → (to : ℕ) → In to config.seq → SealSays g.views to config.view
  seal_says config is to m =
      let reign = reign_says config is in
      record { started = reign.started; member = subst (λ (c : Config). In to c.seq) reign.named m }

  -- its state, and its phase
  module _ (phase : Phase) (is : a.control.phase ≡ phase) where
    abbrev k : ControlState
    k = record a.control { phase = phase }

    pub same_control : a.control ≡ k
    same_control = ap (λ (p : Phase). record a.control { phase = p }) is

    pub facts_in : ControlFacts g.views k
    facts_in = subst (λ (s : ControlState). ControlFacts g.views s) same_control moment.agreed.views.control

    pub notes_in : ControlNotes g.views a.shards phase
    notes_in = subst (λ (p : Phase). ControlNotes g.views a.shards p) is moment.agreed.flushed

    pub formed_in : ControlOf shape k
    formed_in = subst (λ (s : ControlState). ControlOf shape s) same_control moment.formed.control

    pub stays_in : GoodControl shape g a (stays k)
    stays_in = subst (λ (s : ControlState). GoodControl shape g a (stays s)) same_control (good_stays shape g a moment.agreed)

    pub allowed_in : (node : ℕ) → is_none (suspect_refusal a.control node) ≡ true → is_none (suspect_refusal k node) ≡ true
    allowed_in node allowed = subst (λ (s : ControlState). is_none (suspect_refusal s node) ≡ true) same_control allowed
