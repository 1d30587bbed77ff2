use Rattle.std.specs.Prelude.{ℕ, List}
use Rattle.view_config.specs.declared.config.Config.{Config}
use Rattle.lazy_msgs.specs.declared.msg.Msg.{Msg}
use Rattle.lazy_msgs.specs.Step.{Row}
use Rattle.lazy_rules.specs.ControlRules.{flushes_anew, naming, renames, seals_view, with_config}
use Rattle.lazy_rules.specs.ControlState.{ControlState, Phase, Running, Sealing, Flushing}
use Rattle.lazy_rules.specs.Rows.{sends_all}

-- this configuration comes in place of the newest one
abbrev pub replaces_with : ControlState → Config → Row ControlState
replaces_with k coming = elim k.phase [
  | Running reign ↦ seals_view k reign.config coming
  | Sealing change ↦ renames k change.old coming
  | Flushing taken ↦ flushes_anew k (with_config taken coming)
]

-- the view that is to come has this configuration
abbrev pub renamed : Phase → Config → Phase
renamed (Running reign) coming = Running reign
renamed (Sealing change) coming = Sealing (record change { coming = coming })
renamed (Flushing taken) coming = Flushing (with_config taken coming)

-- the view that is to come has this configuration, and these messages are sent
abbrev pub renames_with : ControlState → Config → List (ℕ × Msg) → Row ControlState
renames_with k coming sends = sends_all (naming k coming (renamed k.phase coming)) sends
