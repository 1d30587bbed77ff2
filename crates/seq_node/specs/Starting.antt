use Rattle.std.specs.Prelude.{ℕ, List, [], ◌∷◌, if◌then◌else◌}
use Rattle.view_config.specs.declared.config.Config.{Config}
use Rattle.lazy_msgs.specs.declared.msg.Msg.{Msg}
use Rattle.lazy_msgs.specs.declared.msg.Msg.TheVariants.{Stable, Started}
use Rattle.lazy_rules.specs.Roles.{is_first, replicas_of}
use Rattle.lazy_rules.specs.Rows.{to_each}

-- what this node sends that takes a view
abbrev pub starting : ℕ → ℕ → Config → ℕ → List (ℕ × Msg)
starting node sender config base =
    if is_first config.seq node then (sender, Started config.view) ∷ to_each (replicas_of config) (Stable config.view base)
    else (sender, Started config.view) ∷ []
