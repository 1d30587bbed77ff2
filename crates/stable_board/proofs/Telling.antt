-- What steps told, where the view before is known.
use Rattle.std.proofs.Common.{◌≡◌, ◌≢◌, ℕ, ◌<◌, ◌≤◌, List, [], ◌∷◌, ◌++◌, refl, sym, ◌∙◌, subst, inl, inr, arith}
use Rattle.list_facts.specs.Lists.{In, Each}
use Rattle.list_facts.proofs.Members.{in_each}
use Rattle.stable_board.specs.declared.claim.BoardClaim.{BoardClaim}
use Rattle.stable_board.specs.declared.views.Published.{Published}
use Rattle.stable_board.specs.declared.views.Peeked.{Peeked}
use Rattle.stable_board.specs.declared.views.View.{View}
use Rattle.stable_board.specs.declared.views.View.TheVariants.{Publishes, Peeks}
use Rattle.stable_board.specs.Claims.{packed_claim, claim_in, identity_in}
use Rattle.stable_board.specs.Steps.{with_raised, with_claim, with_note}
use Rattle.stable_board.specs.Told.{after_set, IsFound, IsTop, Looks, Notes, Sets, Raises}
use Rattle.atomic_table.specs.Seated.{TableId}
use Rattle.stable_board.specs.Ends.{publisher_of, with_did, last_claim}
use Rattle.stable_board.proofs.Packing.{packed_in}
use Rattle.stable_board.proofs.Ending.{publisher_table}

pub told_look : (v : View) (n : ℕ) (saw : Peeked) (found : ℕ) (w : View) → v ≡ Peeks n saw → Looks v found w → (w ≡ Peeks n (with_claim saw (claim_in found))) × IsTop saw.claims found
told_look v n saw found w is told = subst (λ (x : View). Looks x found w) is told

pub told_note : (v : View) (n place : ℕ) (saw : Peeked) (found : ℕ) (w : View) → v ≡ Peeks n saw → Notes place v found w → (w ≡ Peeks n (with_note saw (place, identity_in found))) × IsFound saw.notes place found
told_note v n place saw found w is told = subst (λ (x : View). Notes place x found w) is told

pub told_set : (v : View) (n place own : ℕ) (did : Published) (found : ℕ) (w : View) → v ≡ Publishes n did → Sets place own v found w
    → (w ≡ Publishes n (after_set place own found did)) × (found ≢ 0 → IsFound did.stops place found)
told_set v n place own did found w is told = subst (λ (x : View). Sets place own x found w) is told

pub told_raise : (v : View) (n word : ℕ) (did : Published) (w : View) → v ≡ Publishes n did → Raises word v w → w ≡ Publishes n (with_raised did ((claim_in word).stable, (claim_in word).time))
told_raise v n word did w is told = subst (λ (x : View). Raises word x w) is told

pub last_more : (claims : List BoardClaim) (claim : BoardClaim) → last_claim (claims ++ claim ∷ []) ≡ claim
last_more [] claim = refl
last_more (x ∷ []) claim = refl
last_more (x ∷ y ∷ claims) claim = last_more (y ∷ claims) claim

-- a last claim of some places was seen
pub last_seen : (claims : List BoardClaim) (place : ℕ) → place < (last_claim claims).stable → In (last_claim claims) claims
last_seen [] place below = absurd (omega (arith, below))
last_seen (x ∷ []) place below = inl refl
last_seen (x ∷ y ∷ claims) place below = inr (last_seen (y ∷ claims) place below)

pub risen : (claims : List BoardClaim) (found : ℕ) → IsTop claims found → Each (λ claim. packed_claim claim ≤ packed_claim (claim_in found)) claims
risen claims found top = in_each _ claims (λ claim at. subst (λ (k : ℕ). packed_claim claim ≤ k) (sym (packed_in found)) (top.up claim at))

-- a publisher whose view is now of what it did since
pub publisher_after : (table next : TableId) (v w : View) (did : Published) → next ≡ table → w ≡ Publishes (publisher_of table v).replica did → publisher_of next w ≡ with_did (publisher_of table v) did
publisher_after table next v w did same is =
    (λ i. publisher_of (same i) (is i)) ∙ (λ i. record { board = sym (publisher_table table v) i; replica = (publisher_of table v).replica; did = did })
