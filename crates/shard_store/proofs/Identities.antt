-- Identities that are one.
use Rattle.std.proofs.Common.{◌≡◌, ℕ, true, false, eqb, subst, sym, ap, ◌∙◌, refl}
use Rattle.std.proofs.lemmas.Bool.{and_parts, and_from, eqb-true, eq-eqb, false_from_ne_true, true≢false}
use Rattle.rec_id.specs.Identity.{Identity}
use Rattle.rec_id.specs.Identity.{same_id}

pub same_is : (a b : Identity) → same_id a b ≡ true → a ≡ b
same_is a b same =
    let parts = and_parts (eqb a.client b.client) (eqb a.number b.number) same in
    let client : a.client ≡ b.client = eqb-true a.client b.client parts.0 in
    let number : a.number ≡ b.number = eqb-true a.number b.number parts.1 in
    let swapped : a ≡ record { client = b.client; number = a.number } = ap (λ (c : ℕ). let id : Identity = record { client = c; number = a.number } in id) client in
    swapped ∙ ap (λ (n : ℕ). let id : Identity = record { client = b.client; number = n } in id) number

pub same_self : (a : Identity) → same_id a a ≡ true
same_self a = and_from (eqb a.client a.client) (eqb a.number a.number) (eq-eqb a.client a.client refl) (eq-eqb a.number a.number refl)

pub apart_turned : (a b : Identity) → same_id a b ≡ false → same_id b a ≡ false
apart_turned a b apart = false_from_ne_true (same_id b a) (λ same.
    true≢false (sym (subst (λ (x : Identity). same_id a x ≡ true) (sym (same_is b a same)) (same_self a)) ∙ apart))
