use Rattle.std.specs.Prelude.{ℕ, []}
use Rattle.view_config.specs.declared.config.Config.{Config}
use Rattle.view_config.specs.Shape.{Dimensions}
use Rattle.lazy_rules.specs.ClientState.{ClientState}

-- of a client's state all that what it sends for an append depends on
abbrev pub sender : Dimensions → Config → ℕ → ClientState
sender shape config client = record { shape = shape; client = client; config = config; next = 0; unfinished = [] }
