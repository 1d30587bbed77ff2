-- Who the holders are and what they have, by the controller's phase.
use Rattle.std.proofs.Common.{◌≡◌, ℕ, [], ◌∷◌, Option, Some, None, ap}
use Rattle.std.specs.List.{filter}
use Rattle.std.specs.Option.{option_map_or}
use Rattle.view_config.specs.Nodes.{taken_state}
use Rattle.view_config.specs.declared.config.Config.{Config}
use Rattle.lazy_rules.specs.ControlState.{latest_started}
use Rattle.lazy_rules.specs.Holders.{holders, holding, holding_of, is_alive, member_holding, seq_numbered, shared_holding}
use Rattle.lazy_rules.specs.SeqState.{SeqState}
use Rattle.lazy_rules.specs.WorldState.{WorldState}

module _ (w : WorldState) where
  pub holders_in : (config : Config) → latest_started w.control.phase ≡ Some config → holders w ≡ filter (is_alive w) config.seq
  holders_in config is = ap (λ (o : Option Config). option_map_or (λ (c : Config). filter (is_alive w) c.seq) o (taken_state ∷ [])) is

  pub holders_taken : latest_started w.control.phase ≡ None → holders w ≡ taken_state ∷ []
  holders_taken is = ap (λ (o : Option Config). option_map_or (λ (c : Config). filter (is_alive w) c.seq) o (taken_state ∷ [])) is

  module _ (holder : ℕ) where
    pub holding_as : (config : Config) → latest_started w.control.phase ≡ Some config → holding w holder ≡ holding_of w holder config
    holding_as config is = ap (λ (o : Option Config). option_map_or (holding_of w holder) o (shared_holding w.control)) is

    pub holding_taken : latest_started w.control.phase ≡ None → holding w holder ≡ shared_holding w.control
    holding_taken is = ap (λ (o : Option Config). option_map_or (holding_of w holder) o (shared_holding w.control)) is

    pub member_has : (config : Config) (seq : SeqState) → seq_numbered w holder ≡ Some seq → holding_of w holder config ≡ member_holding (shared_holding w.control) config.view seq
    member_has config seq is = ap (λ (o : Option SeqState). option_map_or (member_holding (shared_holding w.control) config.view) o (shared_holding w.control)) is

    pub stranger_has : (config : Config) → seq_numbered w holder ≡ None → holding_of w holder config ≡ shared_holding w.control
    stranger_has config is = ap (λ (o : Option SeqState). option_map_or (member_holding (shared_holding w.control) config.view) o (shared_holding w.control)) is
