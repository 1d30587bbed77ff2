-- Taking out the first ready read again and again takes out all that are ready, in order.
use Rattle.std.proofs.Common.{◌≡◌, ℕ, suc, List, [], ◌∷◌, inl, inr, ap, refl, length, Some, None}
use Rattle.std.proofs.lemmas.Bool.{cases_Bool}
use Rattle.std.proofs.lemmas.Option.{same_Some}
use Rattle.lazy_rules.specs.Flight.{Probe, is_ready, ready, ready_probes, waiting_probes}
use Rattle.binder.specs.Binding.{after_ready}

module _ (bound : ℕ) where
  pub none_left : (probes : List Probe) → ready bound probes ≡ None → (ready_probes bound probes ≡ []) × (waiting_probes bound probes ≡ probes)
  none_left [] none = (refl, refl)
  none_left (x ∷ xs) none = elim (cases_Bool (is_ready bound x)) [
    | inl here ↦ let wrong : Some x ≡ None = rw here at none in cc
    | inr later ↦
        let rest = none_left xs (rw later at none) in
        rw later (rest.0, ap (λ (l : List Probe). x ∷ l) rest.1)
  ]

  pub one_taken : (probes : List Probe) (p : Probe) → ready bound probes ≡ Some p
      → (ready_probes bound probes ≡ p ∷ ready_probes bound (after_ready bound probes)) × (waiting_probes bound probes ≡ waiting_probes bound (after_ready bound probes))
  one_taken [] p is = let wrong : None ≡ Some p = is in cc
  one_taken (x ∷ xs) p is = elim (cases_Bool (is_ready bound x)) [
    | inl here ↦
        let found : Some x ≡ Some p = rw here at is in
        rw here (ap (λ (q : Probe). q ∷ ready_probes bound xs) (same_Some x p found), refl)
    | inr later ↦
        let rest = one_taken xs p (rw later at is) in
        rw (later, later) (rest.0, ap (λ (l : List Probe). x ∷ l) rest.1)
  ]

  pub one_fewer : (probes : List Probe) (p : Probe) → ready bound probes ≡ Some p → length probes ≡ suc (length (after_ready bound probes))
  one_fewer [] p is = let wrong : None ≡ Some p = is in cc
  one_fewer (x ∷ xs) p is = elim (cases_Bool (is_ready bound x)) [
    | inl here ↦ rw here refl
    | inr later ↦ let rest = one_fewer xs p (rw later at is) in rw later (ap suc rest)
  ]
