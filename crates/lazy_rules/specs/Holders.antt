use Rattle.std.specs.Prelude.{ℕ, List, [], ◌∷◌, filter, Bool, not, ◌==◌, if◌then◌else◌, Option, Some, None, slice_get, unwrap_or}
use Rattle.std.specs.Option.{option_map_or}
use Rattle.rec_id.specs.declared.item.Item.{Item}
use Rattle.view_config.specs.declared.config.Config.{Config}
use Rattle.view_config.specs.declared.nodes.Node.{Node}
use Rattle.view_config.specs.declared.nodes.Node.TheVariants.{Seq}
use Rattle.view_config.specs.Shape.{node_of}
use Rattle.lazy_rules.specs.ControlState.{ControlState, base_of, latest_started, taken_items}
use Rattle.lazy_rules.specs.Rows.{has_node}
use Rattle.lazy_rules.specs.SeqState.{SeqState}
use Rattle.lazy_rules.specs.WorldState.{WorldState}
use Rattle.view_config.specs.Nodes.{taken_state}

-- Who holds the log at a moment, and what of it.

-- the node isn't crashed
abbrev pub is_alive : WorldState → ℕ → Bool
is_alive w node = not (has_node w.crashed node)

-- the holders: the sequencing replicas of the latest started view that aren't crashed, in its order; the
-- taken state while there is one
abbrev pub holders : WorldState → List ℕ
holders w =
    option_map_or (λ config. filter (is_alive w) config.seq) (latest_started w.control.phase) (taken_state ∷ [])

-- what a holder has: how many positions are bound, and the items that follow
pub record Holding : Type 0 where
  pub bound : ℕ
  pub items : List Item

-- what a holder has that has nothing of its own: what the latest started view began with, or the taken state
abbrev pub shared_holding : ControlState → Holding
shared_holding k = record { bound = base_of k; items = unwrap_or (taken_items k.phase) [] }

-- what a sequencing replica has in a view: its own once it is in that view, and else what is shared
abbrev pub member_holding : Holding → ℕ → SeqState → Holding
member_holding shared view seq = if seq.view == view then record { bound = seq.bound; items = seq.pending } else shared

-- the sequencing replica of this number
abbrev pub seq_at : WorldState → Option Node → Option SeqState
seq_at w (Some (Seq i)) = slice_get w.seqs i
seq_at w _ = None

abbrev pub seq_numbered : WorldState → ℕ → Option SeqState
seq_numbered w node = seq_at w (node_of w.shape node)

-- what a holder has as a member of this configuration
abbrev pub holding_of : WorldState → ℕ → Config → Holding
holding_of w holder config =
    option_map_or (member_holding (shared_holding w.control) config.view) (seq_numbered w holder) (shared_holding w.control)

-- what a holder has: as a member of the latest started view, or as the taken state
abbrev pub holding : WorldState → ℕ → Holding
holding w holder = option_map_or (holding_of w holder) (latest_started w.control.phase) (shared_holding w.control)
