-- Claims and identities come out of their words as they went in.
use Rattle.std.proofs.Common.{◌≡◌, ◌≢◌, ℕ, ◌/◌, ◌%◌, ◌^◌, ◌<◌, ◌≤◌, sym, ap, ◌∙◌, arith}
use Rattle.rec_id.specs.Identity.{Identity, IsIdentity, packed}
use Rattle.stable_board.specs.declared.claim.BoardClaim.{BoardClaim}
use Rattle.stable_board.specs.Claims.{packed_claim, claim_in, identity_in}

pub packed_in : (n : ℕ) → packed_claim (claim_in n) ≡ n
packed_in n = omega arith

pub in_packed : (c : BoardClaim) → c.time < 2 ^ 40 → c.replica < 2 ^ 5 → claim_in (packed_claim c) ≡ c
in_packed c time replica =
    let n : ℕ = packed_claim c in
    let s : n / 2 ^ 45 ≡ c.stable = omega arith in
    let t : n / 2 ^ 5 % 2 ^ 40 ≡ c.time = omega arith in
    let r : n % 2 ^ 5 ≡ c.replica = omega arith in
    λ i. record { stable = s i; time = t i; replica = r i }

pub packed_identity : (n : ℕ) → packed (identity_in n) ≡ n
packed_identity n = omega arith

pub identity_packed : (id : Identity) → IsIdentity id → identity_in (packed id) ≡ id
identity_packed id valid =
    let range : id.number < 2 ^ 32 = valid.number_in_range in
    let c : packed id / 2 ^ 32 ≡ id.client = omega arith in
    let m : packed id % 2 ^ 32 ≡ id.number = omega arith in
    λ i. record { client = c i; number = m i }

pub packed_positive : (id : Identity) → IsIdentity id → packed id ≢ 0
packed_positive id valid none = let positive : 1 ≤ id.number = valid.numbered in omega arith

pub packed_same : (a b : Identity) → IsIdentity a → IsIdentity b → packed a ≡ packed b → a ≡ b
packed_same a b of_a of_b same = sym (identity_packed a of_a) ∙ (ap identity_in same ∙ identity_packed b of_b)
