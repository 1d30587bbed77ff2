-- What a claim does, by its outcome.
use Rattle.std.specs.Prelude.{ℕ, ◌<◌, ◌≤◌, ◌≡◌, ◌≢◌, List, [], ◌∷◌, ◌++◌, length, map, take, slice_get, Some}
use Rattle.lazy_rules.specs.Store.{Store}
use Rattle.rec_id.specs.Identity.{Identity, packed}
use Rattle.stable_board.specs.declared.publisher.Claimed.{Claimed}
use Rattle.stable_board.specs.declared.publisher.Claimed.TheVariants.{Done, Stopped}
use Rattle.stable_board.specs.declared.views.Published.{Published}
use Rattle.stable_board.specs.Claims.{identity_in}
use Rattle.stable_board.specs.Told.{IsFound}
use Rattle.stable_board.specs.Ends.{PublisherEnd, with_did}

-- the identities of the places that are final in a store
abbrev pub final_ids : Store → List Identity
final_ids store = take store.stable (map (λ cell. cell.id) store.order)

-- what was verified are the identities that the store has at its first final places
abbrev pub HasVerified : Published → Store → Type 0
HasVerified did store = did.verified ≡ take (length did.verified) (final_ids store)

-- all final places were verified, and word 0 was raised to the claim of them
abbrev pub claimed : Published → Store → ℕ → Published
claimed did store time = record { verified = final_ids store; raised = did.raised ++ (store.stable, time) ∷ []; stops = did.stops }

-- the final places below this one were verified, and its word is another identity
abbrev pub stopped : Published → Store → ℕ → ℕ → Published
stopped did store place found = record { verified = take place (final_ids store); raised = did.raised; stops = did.stops ++ (place, identity_in found) ∷ [] }

pub record IsStopped (before after : PublisherEnd) (store : Store) (place own found : ℕ) : Type 0 where
  pub new : length before.did.verified ≤ place
  pub final : place < store.stable
  pub identity : Identity
  pub here : slice_get (final_ids store) place ≡ Some identity
  pub own_is : own ≡ packed identity
  pub other : found ≢ own
  pub found_is : IsFound before.did.stops place found
  pub after_is : after ≡ with_did before (stopped before.did store place found)

-- what a claim of the store's final places at this time does
abbrev pub Claims : PublisherEnd → PublisherEnd → Store → ℕ → Claimed → Type 0
Claims before after store time Done = after ≡ with_did before (claimed before.did store time)
Claims before after store time (Stopped place own found) = IsStopped before after store place own found
