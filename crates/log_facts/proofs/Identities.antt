-- The test of identities tells whether they are one.
use Rattle.std.proofs.Common.{◌≡◌, ℕ, true, eqb, refl, ap, ◌∙◌}
use Rattle.std.proofs.lemmas.Bool.{and_parts, eqb-true, eq-eqb}
use Rattle.rec_id.specs.Identity.{Identity, same_id}

pub same_is : (a b : Identity) → same_id a b ≡ true → a ≡ b
same_is a b h =
    let parts = and_parts (eqb a.client b.client) (eqb a.number b.number) h in
    let c : a.client ≡ b.client = eqb-true a.client b.client parts.0 in
    let n : a.number ≡ b.number = eqb-true a.number b.number parts.1 in
    ap (λ (k : ℕ). record { client = k; number = a.number }) c ∙ ap (λ (k : ℕ). record { client = b.client; number = k }) n

pub is_same : (a : Identity) → same_id a a ≡ true
is_same a = rw (eq-eqb a.client a.client refl, eq-eqb a.number a.number refl) refl
