-- A message's number in a merge is its number in the world, once it is sent.
use Rattle.std.proofs.Common.{◌≡◌, ◌⊎◌, ℕ, zero, suc, ◌<◌, ◌≤◌, List, [], ◌∷◌, ◌++◌, map, Bool, true, false, Some, None, inl, inr, refl, sym, ap, ◌∙◌, subst, arith}
use Rattle.std.specs.Prelude.{◌-◌, ◌==◌, if◌then◌else◌, slice_get}
use Rattle.list_facts.specs.Lists.{In, Each}
use Rattle.list_facts.proofs.Members.{each_in, in_mapped}
use Rattle.list_facts.proofs.Places.{in_at}
use Rattle.lazy_msgs.specs.declared.msg.Envelope.{Envelope}
use Rattle.lazy_msgs.specs.declared.msg.Msg.{Msg}
use Rattle.lazy_rules.specs.WorldRules.{enveloped, message_at}
use Rattle.lazy_rules.specs.WorldState.{WorldState}
use Rattle.diary_laws.specs.Machines.{Step}
use Rattle.diary_laws.specs.Merges.{IsNumber, sent_by}
use Rattle.diary_laws.proofs.merges.Crashes.{made_of}
use Rattle.diary_laws.proofs.worlds.Did.{bare}

-- a member of two lists stands in the first one, or is one of the second
get_cases : {A : Type 0} (xs ys : List A) (i : ℕ) (x : A) → slice_get (xs ++ ys) i ≡ Some x → (slice_get xs i ≡ Some x) ⊎ In x ys
get_cases [] ys i x h = inr (in_at ys i x h)
get_cases (z ∷ zs) ys zero x h = inl h
get_cases (z ∷ zs) ys (suc i) x h = get_cases zs ys i x h

mapped_get : {A B : Type 0} (f : A → B) (xs : List A) (i : ℕ) (x : A) → slice_get xs i ≡ Some x → slice_get (map f xs) i ≡ Some (f x)
mapped_get f [] i x h = let wrong : None ≡ Some x = h in cc
mapped_get f (z ∷ zs) zero x h = let same : z ≡ x = cc in ap (λ y. Some (f y)) same
mapped_get f (z ∷ zs) (suc i) x h = mapped_get f zs i x h

get_mapped : {A B : Type 0} (f : A → B) (xs : List A) (i : ℕ) (y : B) → slice_get (map f xs) i ≡ Some y → (x : A) × (slice_get xs i ≡ Some x) × (f x ≡ y)
get_mapped f [] i y h = let wrong : None ≡ Some y = h in cc
get_mapped f (z ∷ zs) zero y h = (z, refl, cc)
get_mapped f (z ∷ zs) (suc i) y h = get_mapped f zs i y h

-- what a step sends has its time and its node
sent_at : {S : Type 0} (x : Step S) (e : Envelope) → In e (enveloped x.node x.time x.row.sends) → e.time ≡ x.time
sent_at x e there =
    let from = in_mapped (λ (send : ℕ × Msg). record { from = x.node; to = send.0; time = x.time; msg = send.1 }) e x.row.sends there in
    ap (λ (a : Envelope). a.time) (sym from.2)

-- none is older than all of these steps
not_older : {S : Type 0} (now : ℕ) (rest : List (Step S)) → Each (λ x. now ≤ x.time) rest → (e : Envelope) → e.time < now → ¬ In e (sent_by rest)
not_older now rest late e older there =
    let from = made_of (λ x. enveloped x.node x.time x.row.sends) rest e there in
    let at = sent_at from.origin e from.made in
    let after = each_in (λ x. now ≤ x.time) rest late from.origin from.there in
    omega arith

-- a message that is older than what is left was sent, with this number
pub record IsSent (w : WorldState) (k : ℕ) (e : Envelope) : Type 0 where
  pub found : Envelope
  pub there : message_at w k ≡ Some found
  pub like : bare found ≡ bare e

pub was_sent : {S : Type 0} (w : WorldState) (done rest : List (Step S)) (all : List Envelope) → all ≡ sent_by done ++ sent_by rest → map bare w.sent ≡ map bare (sent_by done)
    → (now : ℕ) → Each (λ x. now ≤ x.time) rest → (e : Envelope) → e.time < now → (k : ℕ) → IsNumber all e k → IsSent w k e
was_sent {S} w done rest all is same now late e older k numbered = by (k == 0) refl numbered
  where
    old : (slice_get (sent_by done) (k - 1) ≡ Some e) ⊎ In e (sent_by rest) → slice_get (sent_by done) (k - 1) ≡ Some e
    old (inl h) = h
    old (inr h) = absurd (not_older now rest late e older h)

    by : (b : Bool) → (k == 0) ≡ b → (if b then None else slice_get all (k - 1)) ≡ Some e → IsSent w k e
    by true zero_is h = let wrong : None ≡ Some e = h in cc
    by false some_is h =
        let here = old (get_cases (sent_by done) (sent_by rest) (k - 1) e (subst (λ (es : List Envelope). slice_get es (k - 1) ≡ Some e) is h)) in
        let there = get_mapped bare w.sent (k - 1) (bare e) (ap (λ (zs : List (ℕ × ℕ × Msg)). slice_get zs (k - 1)) same ∙ mapped_get bare (sent_by done) (k - 1) e here) in
        record {
          found = there.0;
          there = ap (λ (b : Bool). if b then None else slice_get w.sent (k - 1)) some_is ∙ there.1;
          like = there.2;
        }
