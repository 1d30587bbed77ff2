use Rattle.std.specs.Prelude.{ℕ, List, [], length, Bool, false, if◌then◌else◌}
use Rattle.rec_id.specs.declared.item.Item.{Item}
use Rattle.rec_id.specs.declared.marks.Marks.{Marks}
use Rattle.view_config.specs.declared.config.Config.{Config}
use Rattle.lazy_msgs.specs.Step.{Row}
use Rattle.lazy_rules.specs.ControlRules.{at_phase, ends_flush, new_reign}
use Rattle.lazy_rules.specs.ControlState.{ControlState, Phase, Running, Flushing, Taken}
use Rattle.lazy_rules.specs.Flight.{has_all}
use Rattle.lazy_rules.specs.Rows.{stays}

-- what of a taken state a flush tells: the items from this position on, for the shards that haven't answered
abbrev pub to_flush : Config → ℕ → List Item → List ℕ → Taken
to_flush config from items answered = record {
  config = config;
  from = from;
  items = items;
  window = [];
  flushed = answered;
}

-- the taken state is with these shards
abbrev pub with_answers : Phase → List ℕ → Phase
with_answers (Flushing taken) answers = Flushing (record taken { flushed = answers })
with_answers phase answers = phase

-- the view of this configuration runs, and none of its replicas has started it yet
abbrev pub started_at : ControlState → Config → ℕ → List Marks → ControlState
started_at k config base window = record k { base = base; window = window; phase = Running (new_reign config) }

-- the flush has ended, and where the taken state ends at a position the next view starts behind it
abbrev pub ends_taken : ControlState → Row ControlState
ends_taken k = elim k.phase [ Flushing taken ↦ ends_flush k taken | _ ↦ stays k ]

-- these are all shards that the taken state is flushed to
abbrev pub have_answered : Phase → List ℕ → Bool
have_answered (Flushing taken) answers = has_all (length taken.config.shards) answers
have_answered phase answers = false

-- these shards have the taken state
abbrev pub takes_answers : ControlState → List ℕ → Row ControlState
takes_answers k answers =
    if have_answered k.phase answers then ends_taken k else stays (at_phase k (with_answers k.phase answers))
