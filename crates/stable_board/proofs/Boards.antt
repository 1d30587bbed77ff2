-- A board that grows stays one, if what is new is true.
use Rattle.std.proofs.Common.{◌≡◌, ◌⊎◌, ℕ, ◌+◌, ◌<◌, ◌≤◌, length, sym, ◌∙◌, subst, ⊎_elim, inl, inr, le_trans, Some}
use Rattle.std.specs.Prelude.{slice_get}
use Rattle.list_facts.specs.Lists.{In}
use Rattle.rec_id.specs.Identity.{Identity}
use Rattle.stable_board.specs.declared.claim.BoardClaim.{BoardClaim}
use Rattle.stable_board.specs.declared.views.Published.{Published}
use Rattle.stable_board.specs.declared.views.Peeked.{Peeked}
use Rattle.stable_board.specs.Claims.{claim_in}
use Rattle.stable_board.specs.Rule.{IsAt, IsRaised, WasRaised, IsSeen, WasVerified, IsBoard}

-- nothing that a publisher did is taken back, no word that isn't 0 changes, and word 0 doesn't fall
pub record Grows (w x : ℕ → ℕ) (p q : ℕ → Published) : Type 0 where
  pub words : (noted : ℕ × Identity) → IsAt w noted → IsAt x noted
  pub top : w 0 ≤ x 0
  pub verified : (n place : ℕ) (id : Identity) → slice_get (p n).verified place ≡ Some id → slice_get (q n).verified place ≡ Some id
  pub longer : (n : ℕ) → length (p n).verified ≤ length (q n).verified
  pub raised : (n : ℕ) (claim : ℕ × ℕ) → In claim (p n).raised → In claim (q n).raised

-- what a publisher's step may add
pub record PublisherNews (w x : ℕ → ℕ) (p q : ℕ → Published) : Type 0 where
  pub verified : (n place : ℕ) (id : Identity) → slice_get (q n).verified place ≡ Some id → (slice_get (p n).verified place ≡ Some id) ⊎ (IsAt x (place, id) × (place < 65536))
  pub raised : (n : ℕ) (claim : ℕ × ℕ) → In claim (q n).raised → In claim (p n).raised ⊎ IsRaised x n (q n) claim
  pub set : (place : ℕ) → (x (place + 1) ≡ w (place + 1)) ⊎ WasVerified x q place
  pub claimed : (x 0 ≡ w 0) ⊎ WasRaised q (claim_in (x 0))
  pub stops : (n : ℕ) (noted : ℕ × Identity) → In noted (q n).stops → In noted (p n).stops ⊎ IsAt x noted

-- what a peeker's step may add
pub record PeekerNews (x : ℕ → ℕ) (q : ℕ → Published) (s t : ℕ → Peeked) : Type 0 where
  pub claims : (n : ℕ) (claim : BoardClaim) → In claim (t n).claims → In claim (s n).claims ⊎ IsSeen x q claim
  pub notes : (n : ℕ) (noted : ℕ × Identity) → In noted (t n).notes → In noted (s n).notes ⊎ IsAt x noted

module _ (w x : ℕ → ℕ) (p q : ℕ → Published) (s t : ℕ → Peeked) (b : IsBoard w p s) (g : Grows w x p q) where
  raised_still : (n : ℕ) (claim : ℕ × ℕ) → IsRaised w n (p n) claim → IsRaised x n (q n) claim
  raised_still n claim h = record { verified = le_trans h.verified (g.longer n); time = h.time; replica_is = h.replica_is; reached = le_trans h.reached g.top }

  seen_still : (claim : BoardClaim) → IsSeen w p claim → IsSeen x q claim
  seen_still claim h = record { raised = ⊎_elim inl (λ r. inr (g.raised claim.replica (claim.stable, claim.time) r)) h.raised; reached = le_trans h.reached g.top }

  verified_still : (place : ℕ) → WasVerified w p place → WasVerified x q place
  verified_still place h = record {
    by = h.by;
    identity = h.identity;
    verified = g.verified h.by place h.identity h.verified;
    is = (g.words (place, h.identity) ((b.verified h.by place h.identity h.verified).0)).1;
  }

  pub grows : PublisherNews w x p q → PeekerNews x q s t → IsBoard x q t
  grows new seen = record {
    verified = λ n place id at. ⊎_elim (λ old. let h = b.verified n place id old in (g.words (place, id) h.0, h.1)) (λ h. h) (new.verified n place id at);
    raised = λ n claim at. ⊎_elim (λ old. raised_still n claim (b.raised n claim old)) (λ h. h) (new.raised n claim at);
    set = λ place. ⊎_elim (λ same. ⊎_elim (λ none. inl (same ∙ none)) (λ h. inr (verified_still place h)) (b.set place)) inr (new.set place);
    claimed = ⊎_elim (λ same. ⊎_elim (λ none. inl (same ∙ none)) (λ h. inr (subst (λ (n : ℕ). WasRaised q (claim_in n)) (sym same) (g.raised (claim_in (w 0)).replica _ h))) b.claimed) inr new.claimed;
    claims = λ n claim at. ⊎_elim (λ old. seen_still claim (b.claims n claim old)) (λ h. h) (seen.claims n claim at);
    notes = λ n noted at. ⊎_elim (λ old. g.words noted (b.notes n noted old)) (λ h. h) (seen.notes n noted at);
    stops = λ n noted at. ⊎_elim (λ old. g.words noted (b.stops n noted old)) (λ h. h) (new.stops n noted at);
  }
