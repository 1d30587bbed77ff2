use Rattle.std.specs.Prelude.{ℕ, ◌+◌, ◌*◌, ◌/◌, ◌%◌, ◌^◌}
use Rattle.rec_id.specs.Identity.{Identity}
use Rattle.stable_board.specs.declared.claim.BoardClaim.{BoardClaim}

-- a claim as one word
abbrev pub packed_claim : BoardClaim → ℕ
packed_claim claim = claim.stable * 2 ^ 45 + claim.time * 2 ^ 5 + claim.replica

-- the claim that a word is; of the word 0 it is none
abbrev pub claim_in : ℕ → BoardClaim
claim_in word = record { stable = word / 2 ^ 45; time = word / 2 ^ 5 % 2 ^ 40; replica = word % 2 ^ 5 }

abbrev pub no_claim : BoardClaim
no_claim = record { stable = 0; time = 0; replica = 0 }

-- the identity that a word is, where it is one
abbrev pub identity_in : ℕ → Identity
identity_in word = record { client = word / 2 ^ 32; number = word % 2 ^ 32 }
