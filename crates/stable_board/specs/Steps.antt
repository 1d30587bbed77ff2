-- What one step adds to what an end did or saw.
use Rattle.std.specs.Prelude.{ℕ, [], ◌∷◌, ◌++◌}
use Rattle.rec_id.specs.Identity.{Identity}
use Rattle.stable_board.specs.declared.claim.BoardClaim.{BoardClaim}
use Rattle.stable_board.specs.declared.views.Published.{Published}
use Rattle.stable_board.specs.declared.views.Peeked.{Peeked}

abbrev pub with_verified : Published → Identity → Published
with_verified did identity = record { verified = did.verified ++ identity ∷ []; raised = did.raised; stops = did.stops }

abbrev pub with_raised : Published → ℕ × ℕ → Published
with_raised did claim = record { verified = did.verified; raised = did.raised ++ claim ∷ []; stops = did.stops }

abbrev pub with_stop : Published → ℕ × Identity → Published
with_stop did noted = record { verified = did.verified; raised = did.raised; stops = did.stops ++ noted ∷ [] }

abbrev pub with_claim : Peeked → BoardClaim → Peeked
with_claim saw claim = record { claims = saw.claims ++ claim ∷ []; notes = saw.notes }

abbrev pub with_note : Peeked → ℕ × Identity → Peeked
with_note saw noted = record { claims = saw.claims; notes = saw.notes ++ noted ∷ [] }
