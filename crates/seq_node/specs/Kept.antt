use Rattle.std.specs.Prelude.{ℕ, ◌≡◌, ◌+◌, ◌<◌, ◌≤◌, List, [], ◌∷◌, length, true, false}
use Rattle.rec_id.specs.declared.item.Item.{Item}
use Rattle.rec_id.specs.declared.marks.Marks.{Marks}
use Rattle.rec_id.specs.Identity.{Identity}
use Rattle.lazy_msgs.specs.declared.limits.TheConstants.{PENDING_LIMIT}
use Rattle.lazy_rules.specs.Flight.{Batch, flight_end}
use Rattle.lazy_rules.specs.Roles.{followers_of}
use Rattle.lazy_rules.specs.SeqRules.{is_leader}
use Rattle.lazy_rules.specs.SeqState.{SeqState}
use Rattle.lazy_rules.specs.Windows.{has_seen}

-- the identity is of a client that the window has, and the window has seen it
pub record IsKnown (window : List Marks) (id : Identity) : Type 0 where
  pub client : id.client < length window
  pub number : 1 ≤ id.number
  pub seen : has_seen window id ≡ true

-- what is pending was marked
abbrev pub AllKnown : List Marks → List Item → Type 0
AllKnown window [] = Unit {0}
AllKnown window (item ∷ items) = IsKnown window item.id × AllKnown window items

-- the flight begins here, if there is one
abbrev pub Starts : ℕ → List Batch → Type 0
Starts bound [] = Unit {0}
Starts bound (batch ∷ others) = batch.from ≡ bound

-- what is true of every sequencing replica, whose log has this room and whose binder awaits so many answers
pub record IsKept (s : SeqState) (room shards followers : ℕ) : Type 0 where
  pub clients : length s.window ≡ s.shape.clients
  pub room_is : room ≡ PENDING_LIMIT
  pub shards_are : shards ≡ length s.config.shards
  pub followers_are : followers ≡ length (followers_of s.config)
  pub known : AllKnown s.window s.pending
  pub starts : Starts s.bound s.flight
  pub ends : flight_end s.bound s.flight ≤ s.bound + length s.pending
  pub idle : is_leader s ≡ false → s.flight ≡ []
