-- The open appends of a client, whose numbers rise.
use Rattle.std.proofs.Common.{◌≡◌, ◌≢◌, ℕ, zero, suc, ◌+◌, ◌<◌, ◌≤◌, List, [], ◌∷◌, ◌++◌, Some, slice_get, inl, inr, refl, sym, ap, ◌∙◌, subst, arith}
use Rattle.std.specs.Prelude.{slice_set, remove}
use Rattle.list_facts.specs.Lists.{In}
use Rattle.list_facts.proofs.Changes.{remove_none}
use Rattle.list_facts.proofs.Places.{in_at}
use Rattle.log_facts.specs.facts.OfClients.{Rises}
use Rattle.lazy_rules.specs.ClientState.{OpenAppend, lowest}

pub rises_weaker : (n m : ℕ) (appends : List OpenAppend) → m ≤ n → Rises n appends → Rises m appends
rises_weaker n m [] le h = tt
rises_weaker n m (first ∷ others) le h = let least = h.0 in (omega arith, h.1)

-- no open number is below the first one
pub rises_least : (n : ℕ) (appends : List OpenAppend) → Rises n appends → (append : OpenAppend) → In append appends → n ≤ append.number
rises_least n [] h append m = absurd m
rises_least n (first ∷ others) h append (inl e) = subst (λ (k : OpenAppend). n ≤ k.number) e h.0
rises_least n (first ∷ others) h append (inr m) =
    let first_is = h.0 in
    let later = rises_least (first.number + 1) others h.1 append m in
    omega arith

pub lowest_least : (next n : ℕ) (appends : List OpenAppend) → Rises n appends → (append : OpenAppend) → In append appends → lowest next appends ≤ append.number
lowest_least next n [] h append m = absurd m
lowest_least next n (first ∷ others) h append (inl e) = subst (λ (k : OpenAppend). first.number ≤ k.number) e (omega arith)
lowest_least next n (first ∷ others) h append (inr m) =
    let later = rises_least (first.number + 1) others h.1 append m in
    omega arith

-- one append more, of a greater number
pub rises_more : (n m : ℕ) (appends : List OpenAppend) (append : OpenAppend) → Rises n appends → ((other : OpenAppend) → In other appends → other.number < m) → n ≤ m → append.number ≡ m → Rises n (appends ++ append ∷ [])
rises_more n m [] append h below le is = (omega arith, tt)
rises_more n m (first ∷ others) append h below le is =
    let first_below = below first (inl refl) in
    (h.0, rises_more (first.number + 1) m others append h.1 (λ other k. below other (inr k)) (omega arith) is)

pub lowest_more : (n : ℕ) (appends : List OpenAppend) (append : OpenAppend) → append.number ≡ n → lowest (n + 1) (appends ++ append ∷ []) ≡ lowest n appends
lowest_more n [] append is = is
lowest_more n (first ∷ others) append is = refl

-- an append in the place of one of the same number
pub rises_set : (n : ℕ) (appends : List OpenAppend) (i : ℕ) (old new : OpenAppend) → slice_get appends i ≡ Some old → new.number ≡ old.number → Rises n appends → Rises n (slice_set appends i new)
rises_set n [] i old new at same h = tt
rises_set n (first ∷ others) zero old new at same h =
    let is : first ≡ old = cc in
    let number : new.number ≡ first.number = same ∙ ap (λ (k : OpenAppend). k.number) (sym is) in
    let least = h.0 in
    (omega arith, subst (λ (k : ℕ). Rises (k + 1) others) (sym number) h.1)
rises_set n (first ∷ others) (suc i) old new at same h = (h.0, rises_set (first.number + 1) others i old new at same h.1)

pub lowest_set : (next : ℕ) (appends : List OpenAppend) (i : ℕ) (old new : OpenAppend) → slice_get appends i ≡ Some old → new.number ≡ old.number → lowest next (slice_set appends i new) ≡ lowest next appends
lowest_set next [] i old new at same = refl
lowest_set next (first ∷ others) zero old new at same = let is : first ≡ old = cc in same ∙ ap (λ (k : OpenAppend). k.number) (sym is)
lowest_set next (first ∷ others) (suc i) old new at same = refl

-- an append less
pub rises_remove : (n : ℕ) (appends : List OpenAppend) (i : ℕ) → Rises n appends → Rises n (remove appends i)
rises_remove n [] i h = subst (Rises n) (sym (remove_none i)) tt
rises_remove n (first ∷ others) zero h = let least = h.0 in rises_weaker (first.number + 1) n others (omega arith) h.1
rises_remove n (first ∷ others) (suc i) h = (h.0, rises_remove (first.number + 1) others i h.1)

pub lowest_remove : (next n : ℕ) (appends : List OpenAppend) (i : ℕ) → Rises n appends → ((other : OpenAppend) → In other appends → other.number < next) → lowest next appends ≤ lowest next (remove appends i)
lowest_remove next n [] i h below = subst (λ (k : List OpenAppend). next ≤ lowest next k) (sym (remove_none i)) (omega arith)
lowest_remove next n (first ∷ []) zero h below = let first_below = below first (inl refl) in omega arith
lowest_remove next n (first ∷ second ∷ others) zero h below = let later = h.1.0 in omega arith
lowest_remove next n (first ∷ others) (suc i) h below = omega arith

-- the others have other numbers
pub rises_apart : (n : ℕ) (appends : List OpenAppend) (i : ℕ) (one other : OpenAppend) → slice_get appends i ≡ Some one → Rises n appends → In other (remove appends i) → other.number ≢ one.number
rises_apart n [] i one other at h m = cc
rises_apart n (first ∷ others) zero one other at h m =
    let is : first ≡ one = cc in
    let number : first.number ≡ one.number = ap (λ (k : OpenAppend). k.number) is in
    let later = rises_least (first.number + 1) others h.1 other m in
    omega arith
rises_apart n (first ∷ others) (suc i) one other at h (inl e) =
    let number : first.number ≡ other.number = ap (λ (k : OpenAppend). k.number) e in
    let later = rises_least (first.number + 1) others h.1 one (in_at others i one at) in
    omega arith
rises_apart n (first ∷ others) (suc i) one other at h (inr m) = rises_apart (first.number + 1) others i one other at h.1 m
