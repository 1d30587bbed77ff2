use Rattle.std.specs.Prelude.{ℕ, List, map, Option, Some, None}
use Rattle.std.specs.List.{range_with_len}
use Rattle.rec_id.specs.declared.item.Item.{Item}
use Rattle.rec_id.specs.declared.marks.Marks.{Marks}
use Rattle.view_config.specs.declared.config.Config.{Config}
use Rattle.view_config.specs.Config.{initial_config}
use Rattle.view_config.specs.Nodes.{seq_id}
use Rattle.view_config.specs.Shape.{Dimensions}
use Rattle.lazy_rules.specs.SeqState.{empty_window}

-- a view that has started: its configuration, and which of its sequencing replicas said so
pub record Reign : Type 0 where
  pub config : Config
  pub started : List ℕ

-- a view that is being sealed, and the configuration that comes after it
pub record Change : Type 0 where
  pub old : Config
  pub coming : Config

-- the taken state, which is being flushed to the shards of a configuration: how much of it is bound, what
-- follows, the marks of both, and which shards have it
pub record Taken : Type 0 where
  pub config : Config
  pub from : ℕ
  pub items : List Item
  pub window : List Marks
  pub flushed : List ℕ

-- what the controller is at
pub data Phase : Type 0 where
  Running : Reign → Phase
  Sealing : Change → Phase
  Flushing : Taken → Phase

-- the controller
pub record ControlState : Type 0 where
  pub shape : Dimensions
  -- the spares that no configuration has named
  pub spares : List ℕ
  -- how many positions were bound where the latest started view began, and its marks
  pub base : ℕ
  pub window : List Marks
  pub phase : Phase

-- the numbers of the spares
abbrev pub first_spares : Dimensions → List ℕ
first_spares shape = map seq_id (range_with_len shape.seq shape.spares)

-- view 1, in which all have started
abbrev pub first_reign : Dimensions → Reign
first_reign shape = record { config = initial_config shape; started = (initial_config shape).seq }

-- the controller at first
abbrev pub first_control : Dimensions → ControlState
first_control shape = record {
  shape = shape;
  spares = first_spares shape;
  base = 0;
  window = empty_window shape;
  phase = Running (first_reign shape);
}

-- the newest configuration
abbrev pub newest : ControlState → Config
newest k = elim k.phase [
  | Running reign ↦ reign.config
  | Sealing change ↦ change.coming
  | Flushing taken ↦ taken.config
]

-- the configuration of the latest started view, while no state is taken
abbrev pub latest_started : Phase → Option Config
latest_started (Running reign) = Some reign.config
latest_started (Sealing change) = Some change.old
latest_started (Flushing taken) = None

-- how many positions of the log are bound at least: of the taken state, or where the latest started view
-- began
abbrev pub base_of : ControlState → ℕ
base_of k = elim k.phase [ Flushing taken ↦ taken.from | _ ↦ k.base ]

-- the items of the taken state, while there is one
abbrev pub taken_items : Phase → Option (List Item)
taken_items (Flushing taken) = Some taken.items
taken_items _ = None
