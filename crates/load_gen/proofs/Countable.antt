-- The world of a load can be counted: it has few holders, each with a lawful line.
use Rattle.std.proofs.Common.{◌≡◌, ℕ, ◌+◌, ◌≤◌, List, [], ◌∷◌, length, ap, sym, subst, arith}
use Rattle.std.specs.Prelude.{Bool, filter, Option, None, Err, Ok}
use Rattle.std.specs.Option.{option_map_or}
use Rattle.std.proofs.lemmas.List.Sums.{count_by-le-length, length-filter}
use Rattle.list_facts.specs.Lists.{Each, In}
use Rattle.list_facts.proofs.Members.{in_each}
use Rattle.view_config.specs.Nodes.{taken_state}
use Rattle.view_config.specs.Shape.{Dimensions, IsShape}
use Rattle.lazy_msgs.specs.declared.input.WorldEvent.{WorldEvent}
use Rattle.lazy_rules.specs.ControlState.{Phase, Flushing, Running, Sealing, latest_started}
use Rattle.lazy_rules.specs.Holders.{holders, is_alive}
use Rattle.lazy_rules.specs.Lines.{line_of, line_told, lost_shard}
use Rattle.lazy_rules.specs.WorldRules.{run}
use Rattle.lazy_rules.specs.WorldState.{WorldState, first_world}
use Rattle.world_facts.specs.MembersOf.{PhaseNamed}
use Rattle.world_facts.proofs.goes.All.{members_of_run}
use Rattle.all_rows.proofs.Everywhere.{lines_lawful}
use Rattle.all_rows.proofs.Rows.{all_rows}
use Rattle.load_gen.specs.Counting.{HasLawfulLine, IsCountable}
use Rattle.load_gen.specs.Loading.{IsCalm, IsLed}
use Rattle.load_gen.specs.declared.limits.TheConstants.{STEPS}
use Rattle.load_gen.proofs.NoneLost.{none_lost}

filter_few : (p : ℕ → Bool) (nodes : List ℕ) → length (filter p nodes) ≤ length nodes
filter_few p nodes = let kept = length-filter p nodes in let most = count_by-le-length p nodes in omega arith

-- the holders are members of a configuration, or the taken state alone
holders_few : (shape : Dimensions) (w : WorldState) (phase : Phase) → PhaseNamed shape phase → length (option_map_or (λ config. filter (is_alive w) config.seq) (latest_started phase) (taken_state ∷ [])) ≤ shape.seq + 1
holders_few shape w (Running reign) named = let few = named.few in let kept = filter_few (is_alive w) reign.config.seq in omega arith
holders_few shape w (Sealing change) named = let few = named.0.few in let kept = filter_few (is_alive w) change.old.seq in omega arith
holders_few shape w (Flushing taken) named = omega arith

module _ (shape : Dimensions) (events : List WorldEvent) (formed : IsShape shape) (calm : Each IsCalm events) where
  abbrev reached : WorldState
  reached = run events (first_world shape)

  spared_here : lost_shard reached ≡ None
  spared_here = none_lost shape events calm (members_of_run shape events formed).control.phase

  lawful_here : (holder : ℕ) → In holder (holders reached) → HasLawfulLine reached holder
  lawful_here holder among =
      let told : line_told reached holder ≡ Ok (line_of reached holder) = ap (λ (lost : Option ℕ). option_map_or Err lost (Ok (line_of reached holder))) spared_here in
      record { line = line_of reached holder; told = told; lawful = lines_lawful all_rows shape events formed holder (line_of reached holder) among told }

  countable_run : reached.events ≤ STEPS → IsCountable reached
  countable_run counted = record {
    events = counted;
    few =
        (let members = members_of_run shape events formed in
        let named = holders_few shape reached reached.control.phase members.control.phase in
        let most = formed.seq_most in
        omega arith);
    spared = spared_here;
    lawful = in_each (HasLawfulLine reached) (holders reached) lawful_here;
  }

pub countable : (w : WorldState) → IsLed w → w.events ≤ STEPS → IsCountable w
countable w led few =
    subst IsCountable (sym led.is)
    (countable_run led.shape led.events led.formed led.calm (subst (λ (x : WorldState). x.events ≤ STEPS) led.is few))
