-- Reads that wait for more than a position, and what BEGIN leaves as it is.
use Rattle.std.proofs.Common.{◌≡◌, ℕ, zero, suc, max, List, [], ◌∷◌, Bool, true, false, ◌||◌, cond, ltb, Some, None, inl, inr, sym, ap, ◌∙◌, refl, arith}
use Rattle.std.proofs.lemmas.Bool.{cases_lt, lt-ltb, le-ltb}
use Rattle.std.proofs.lemmas.Bool.{cases_Bool}
use Rattle.binder.specs.Binding.{after_ready}
use Rattle.lazy_rules.specs.Flight.{Probe, flight_end, greatest, greatest_from, waits_above, ready, is_ready}
use Rattle.lazy_rules.specs.Leading.{forcing, begins}
use Rattle.lazy_rules.specs.Rows.{followed, stays}
use Rattle.lazy_rules.specs.SeqState.{SeqState}

or_nothing : (b : Bool) → b ≡ (b || false)
or_nothing true = refl
or_nothing false = refl

or_assoc : (x y z : Bool) → ((x || y) || z) ≡ (x || (y || z))
or_assoc true y z = refl
or_assoc false y z = refl

above_both : (e t p : ℕ) → ltb e (max t p) ≡ (ltb e t || ltb e p)
above_both e t p = elim (cases_lt e t) [
  | inl below ↦ lt-ltb e (max t p) (omega arith) ∙ ap (λ (b : Bool). b || ltb e p) (sym (lt-ltb e t below))
  | inr past ↦ elim (cases_lt e p) [
    | inl below ↦
        lt-ltb e (max t p) (omega arith)
        ∙ sym (ap (λ (b : Bool). b || ltb e p) (le-ltb e t past) ∙ lt-ltb e p below)
    | inr beyond ↦
        le-ltb e (max t p) (omega arith)
        ∙ sym (ap (λ (b : Bool). b || ltb e p) (le-ltb e t past) ∙ le-ltb e p beyond)
  ]
]

above_from : (e t : ℕ) (probes : List Probe) → ltb e (greatest_from t probes) ≡ (ltb e t || waits_above probes e)
above_from e t [] = or_nothing (ltb e t)
above_from e t (p ∷ ps) =
    above_from e (max t p.target) ps ∙ ap (λ (b : Bool). b || waits_above ps e) (above_both e t p.target)
    ∙ or_assoc (ltb e t) (ltb e p.target) (waits_above ps e)

pub waits_some : (probes : List Probe) (e t : ℕ) → greatest probes ≡ Some t → waits_above probes e ≡ ltb e t
waits_some [] e t is = let wrong : None ≡ Some t = is in cc
waits_some (p ∷ ps) e t is =
    let target : greatest_from p.target ps ≡ t = cc in
    sym (above_from e p.target ps) ∙ ap (ltb e) target

pub waits_none : (probes : List Probe) (e : ℕ) → greatest probes ≡ None → waits_above probes e ≡ false
waits_none [] e is = refl
waits_none (p ∷ ps) e is = let wrong : Some (greatest_from p.target ps) ≡ None = is in cc

pub forcing_none : (n : ℕ) (s : SeqState) → n ≡ 0 → forcing n s ≡ stays s
forcing_none n s e = ap (λ (k : ℕ). forcing k s) e

pub forcing_stops : (n : ℕ) (s : SeqState) → waits_above s.probes (flight_end s.bound s.flight) ≡ false → forcing n s ≡ stays s
forcing_stops zero s stops = refl
forcing_stops (suc n) s stops = ap (λ (b : Bool). cond b (followed (begins s) (forcing n)) (stays s)) stops

pub forcing_goes : (n r : ℕ) (s : SeqState) → n ≡ suc r → waits_above s.probes (flight_end s.bound s.flight) ≡ true → forcing n s ≡ followed (begins s) (forcing r)
forcing_goes n r s e goes =
    ap (λ (k : ℕ). forcing k s) e ∙ ap (λ (b : Bool). cond b (followed (begins s) (forcing r)) (stays s)) goes

-- where no read is ready, none leaves
pub after_none : (bound : ℕ) (probes : List Probe) → ready bound probes ≡ None → after_ready bound probes ≡ probes
after_none bound [] none = refl
after_none bound (x ∷ xs) none = elim (cases_Bool (is_ready bound x)) [
  | inl here ↦ let wrong : Some x ≡ None = rw here at none in cc
  | inr later ↦ rw later (ap (λ (l : List Probe). x ∷ l) (after_none bound xs (rw later at none)))
]
