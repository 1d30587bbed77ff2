use Rattle.std.specs.Prelude.{ℕ, List, [], ◌∷◌, remove, slice_set}
use Rattle.rec_id.specs.declared.event.Event.{Event}
use Rattle.lazy_msgs.specs.Step.{Row}
use Rattle.lazy_rules.specs.ClientRules.{noted}
use Rattle.lazy_rules.specs.ClientState.{ClientState, OpenAppend}

-- the unfinished append at a place is finished, and the client is told so
abbrev pub ends : ClientState → ℕ → Event → Row ClientState
ends c i event = record { next = record c { unfinished = remove c.unfinished i }; sends = []; events = event ∷ [] }

-- the unfinished append at a place is this one, acknowledged by one node more
abbrev pub with_noted : ClientState → ℕ → OpenAppend → ℕ → ClientState
with_noted c i append node = record c { unfinished = slice_set c.unfinished i (noted append node) }
