use Rattle.std.specs.Prelude.{◌≡◌, ◌≤◌, ◌+◌, ◌*◌, ℕ, Some, true, length, slice_get}
use Rattle.list_facts.specs.Lists.{Each}
use Rattle.view_config.specs.Nodes.{node_count}
use Rattle.view_config.specs.Shape.{Dimensions}
use Rattle.lazy_rules.specs.Door.{is_node}
use Rattle.lazy_rules.specs.ReaderState.{ReaderState}
use Rattle.lazy_rules.specs.WorldState.{WorldState}

-- a world has the nodes of its shape, and no time in it is above the number of its events
pub record HasForm (shape : Dimensions) (w : WorldState) : Type 0 where
  pub shaped : w.shape ≡ shape
  pub clients : length w.clients ≡ shape.clients
  pub readers : length w.readers ≡ shape.clients
  pub seqs : length w.seqs ≡ shape.seq + shape.spares
  pub shards : length w.shards ≡ shape.shards * shape.copies
  pub times : length w.times ≡ node_count
  pub past : Each (λ time. time ≤ w.events) w.times
  pub sent_past : Each (λ envelope. envelope.time ≤ w.events) w.sent
  pub readers_shaped : (c : ℕ) (r : ReaderState) → slice_get w.readers c ≡ Some r → r.shape ≡ shape

-- each message comes of a node of the shape
pub record HasSenders (shape : Dimensions) (w : WorldState) : Type 0 where
  pub from_nodes : Each (λ envelope. is_node shape envelope.from ≡ true) w.sent
