use Rattle.std.specs.Prelude.{ℕ, ◌/◌, List, [], Bool, false, nat_lt, if◌then◌else◌, replicate}
use Rattle.rec_id.specs.declared.item.Item.{Item}
use Rattle.rec_id.specs.declared.marks.Marks.{Marks}
use Rattle.rec_id.specs.Marks.{no_marks}
use Rattle.view_config.specs.declared.config.Config.{Config}
use Rattle.view_config.specs.Config.{initial_config}
use Rattle.view_config.specs.Limits.{window_of}
use Rattle.view_config.specs.Nodes.{seq_id}
use Rattle.view_config.specs.Shape.{Dimensions}
use Rattle.lazy_rules.specs.Flight.{Batch, Probe}

-- a sequencing replica
pub record SeqState : Type 0 where
  pub shape : Dimensions
  -- its number
  pub node : ℕ
  -- its own view, 0 where it never started, and that view's configuration
  pub view : ℕ
  pub config : Config
  pub sealed : Bool
  -- the greatest view that it answered as never started
  pub barred : ℕ
  -- how many positions it knows to be bound
  pub bound : ℕ
  -- the marks of each client
  pub window : List Marks
  -- what isn't bound yet, in its order
  pub pending : List Item
  -- as leader: the batches on their way, and the reads that wait
  pub flight : List Batch
  pub probes : List Probe

-- the view that replica i is started in at first: the spares aren't
abbrev pub first_view : Dimensions → ℕ → ℕ
first_view shape i = if nat_lt i shape.seq then 1 else 0

-- no mark of any client
abbrev pub empty_window : Dimensions → List Marks
empty_window shape = replicate shape.clients (no_marks (window_of shape.edition / 64))

-- replica i at first
abbrev pub first_seq : Dimensions → ℕ → SeqState
first_seq shape i = record {
  shape = shape;
  node = seq_id i;
  view = first_view shape i;
  config = initial_config shape;
  sealed = false;
  barred = 0;
  bound = 0;
  window = empty_window shape;
  pending = [];
  flight = [];
  probes = [];
}
