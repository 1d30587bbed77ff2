use Rattle.std.specs.Prelude.{◌≡◌, ◌≤◌, ◌*◌, length}
use Rattle.view_config.specs.Nodes.{node_count}
use Rattle.lazy_rules.specs.WorldRules.{IsWithinLimits}
use Rattle.lazy_rules.specs.WorldState.{WorldState}
use Rattle.lazy_core.specs.declared.nodes.Nodes.TheInside.{Inside}
use Rattle.lazy_core.specs.Standing.{world_of_standing}

-- what contracts see in a world
abbrev pub world_of : Inside → WorldState
world_of a = record (world_of_standing a.snapshot) {
  times = a.ledger.times;
  sent = a.ledger.sent;
  history = a.ledger.history;
  events = a.ledger.events;
}

-- what a world keeps of itself: a time for each number of a node, messages within the limits, and a history of at
-- most two told for each event
pub record IsKept (w : WorldState) : Type 0 where
  pub timed : length w.times ≡ node_count
  pub within : IsWithinLimits w
  pub told : length w.history ≤ 2 * w.events
