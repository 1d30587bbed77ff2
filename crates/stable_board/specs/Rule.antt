-- The rule of a board, over its words, what the publishers did and what the peekers saw.
use Rattle.std.specs.Prelude.{ℕ, ◌+◌, ◌^◌, ◌<◌, ◌≤◌, ◌≡◌, ◌⊎◌, [], length, slice_get, Some}
use Rattle.list_facts.specs.Lists.{In}
use Rattle.rec_id.specs.Identity.{Identity, IsIdentity, packed}
use Rattle.stable_board.specs.declared.claim.BoardClaim.{BoardClaim}
use Rattle.stable_board.specs.declared.views.Published.{Published}
use Rattle.stable_board.specs.declared.views.Peeked.{Peeked}
use Rattle.stable_board.specs.Claims.{packed_claim, claim_in, no_claim}

-- the word of this place is this identity
abbrev pub IsAt : (ℕ → ℕ) → ℕ × Identity → Type 0
IsAt word noted = IsIdentity noted.1 × (word (noted.0 + 1) ≡ packed noted.1)

-- word 0 was raised to the claim of this replica, of places that it had verified
pub record IsRaised (word : ℕ → ℕ) (replica : ℕ) (published : Published) (raised : ℕ × ℕ) : Type 0 where
  pub verified : raised.0 ≤ length published.verified
  pub time : raised.1 < 2 ^ 40
  pub replica_is : replica < 2 ^ 5
  pub reached : packed_claim (record { stable = raised.0; time = raised.1; replica = replica }) ≤ word 0

-- the replica that the claim names raised word 0 to it
abbrev pub WasRaised : (ℕ → Published) → BoardClaim → Type 0
WasRaised published claim = In (claim.stable, claim.time) (published claim.replica).raised

-- what a peeker finds in word 0
pub record IsSeen (word : ℕ → ℕ) (published : ℕ → Published) (claim : BoardClaim) : Type 0 where
  pub raised : (claim ≡ no_claim) ⊎ WasRaised published claim
  pub reached : packed_claim claim ≤ word 0

-- some publisher verified the identity that is this place's word
pub record WasVerified (word : ℕ → ℕ) (published : ℕ → Published) (place : ℕ) : Type 0 where
  pub by : ℕ
  pub identity : Identity
  pub verified : slice_get (published by).verified place ≡ Some identity
  pub is : word (place + 1) ≡ packed identity

pub record IsBoard (word : ℕ → ℕ) (published : ℕ → Published) (peeked : ℕ → Peeked) : Type 0 where
  -- the word of a place that a publisher verified is the identity that it has there
  pub verified : (replica place : ℕ) (identity : Identity) → slice_get (published replica).verified place ≡ Some identity → IsAt word (place, identity) × (place < 65536)
  pub raised : (replica : ℕ) (claim : ℕ × ℕ) → In claim (published replica).raised → IsRaised word replica (published replica) claim
  -- the word of a place is 0, or what some publisher verified
  pub set : (place : ℕ) → (word (place + 1) ≡ 0) ⊎ WasVerified word published place
  -- word 0 is 0, or a claim that was raised
  pub claimed : (word 0 ≡ 0) ⊎ WasRaised published (claim_in (word 0))
  pub claims : (peeker : ℕ) (claim : BoardClaim) → In claim (peeked peeker).claims → IsSeen word published claim
  pub notes : (peeker : ℕ) (noted : ℕ × Identity) → In noted (peeked peeker).notes → IsAt word noted
  pub stops : (replica : ℕ) (noted : ℕ × Identity) → In noted (published replica).stops → IsAt word noted

abbrev pub no_published : Published
no_published = record { verified = []; raised = []; stops = [] }

abbrev pub no_peeked : Peeked
no_peeked = record { claims = []; notes = [] }
