use Rattle.std.specs.Prelude.{◌≡◌, ◌-◌, ℕ, Option, Some, None}
use Rattle.view_config.specs.Shape.{node_of}
use Rattle.view_config.specs.declared.nodes.TheConstants.{FIRST_SHARD}
use Rattle.lazy_msgs.specs.declared.input.Input.{Input}
use Rattle.lazy_msgs.specs.declared.input.Input.TheVariants.{Peek}
use Rattle.lazy_msgs.specs.declared.msg.Envelope.{Envelope}
use Rattle.lazy_rules.specs.WorldRules.{claimed, ids_at}
use Rattle.lazy_rules.specs.WorldState.{WorldState}

-- what a client is given that looks up the places [from, to) at the sender of this message
abbrev pub peek_input : WorldState → ℕ → ℕ → Envelope → Input
peek_input w from to envelope = Peek (claimed envelope.msg) envelope.time (envelope.from - FIRST_SHARD) from (ids_at w from to (node_of w.shape envelope.from))

abbrev pub IsGiven : WorldState → ℕ → ℕ → Option Envelope → Input → Type 0
IsGiven w from to None input = ⊥
IsGiven w from to (Some envelope) input = input ≡ peek_input w from to envelope
