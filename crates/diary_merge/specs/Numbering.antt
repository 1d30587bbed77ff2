use Rattle.std.specs.Prelude.{◌≡◌, ◌<◌, ℕ, List, Some, slice_get}
use Rattle.list_facts.specs.Lists.{In}
use Rattle.lazy_msgs.specs.declared.msg.Envelope.{Envelope}
use Rattle.lazy_msgs.specs.declared.msg.Msg.TheVariants.{Claim}
use Rattle.lazy_msgs.specs.declared.limits.TheConstants.{TIME_LIMIT}
use Rattle.diary_laws.specs.Merges.{IsFirstNumber}
use Rattle.diary_merge.specs.Acts.{key_at}
use Rattle.diary_merge.specs.declared.place.Place.{Place}
use Rattle.diary_merge.specs.declared.place.TheConstants.{NODES}

-- Which of several messages is meant.

-- the first place at which this holds
pub record IsFirstPlace {A : Type 0} (P : A → Type 0) (xs : List A) (at : ℕ) : Type 0 where
  pub member : A
  pub there : slice_get xs at ≡ Some member
  pub is : P member
  pub first : (j : ℕ) (x : A) → j < at → slice_get xs j ≡ Some x → ¬ P x

-- the first number of a Claim of this much, by this node at this time
pub record IsClaimNumber (sent : List Envelope) (stable time node number : ℕ) : Type 0 where
  pub claim : Envelope
  pub by : claim.from ≡ node
  pub at : claim.time ≡ time
  pub says : claim.msg ≡ Claim stable
  pub numbered : IsFirstNumber sent claim number

-- such a Claim was sent
pub record ClaimsThere (sent : List Envelope) (stable time node : ℕ) : Type 0 where
  pub claim : Envelope
  pub there : In claim sent
  pub by : claim.from ≡ node
  pub at : claim.time ≡ time
  pub says : claim.msg ≡ Claim stable

-- the key of this node and time stands at this place
pub record IsKeyed (places : List Place) (node time at : ℕ) : Type 0 where
  pub place : Place
  pub there : slice_get places at ≡ Some place
  pub keyed : place.key ≡ key_at time node
  pub early : time < TIME_LIMIT
  pub few : node < NODES
