-- A client has at most a window of numbers open at once: when it has begun one, those a window below have ended.
use Rattle.std.proofs.Common.{◌≡◌, ℕ, ◌+◌, ◌≤◌, List, [], ◌∷◌, inl, inr, refl, sym, ap, ◌∙◌, subst, arith}
use Rattle.list_facts.specs.Lists.{In}
use Rattle.rec_id.specs.Identity.{Identity}
use Rattle.view_config.specs.Limits.{window_of}
use Rattle.view_config.specs.Shape.{Dimensions}
use Rattle.lazy_rules.specs.ClientState.{ClientState, OpenAppend, id_of, lowest}
use Rattle.log_facts.specs.Ghosts.{Ghost}
use Rattle.log_facts.specs.Good.{Moment}
use Rattle.log_facts.specs.Parts.{Parts}
use Rattle.log_facts.specs.Past.{HasEnded, IsBegun}
use Rattle.log_facts.specs.facts.OfClients.{ClientFacts, Rises}

rises_least : (n : ℕ) (appends : List OpenAppend) → Rises n appends → (append : OpenAppend) → In append appends → n ≤ append.number
rises_least n [] h append m = absurd m
rises_least n (first ∷ others) h append (inl e) = subst (λ (k : OpenAppend). n ≤ k.number) e h.0
rises_least n (first ∷ others) h append (inr m) =
    let first_is = h.0 in
    let later = rises_least (first.number + 1) others h.1 append m in
    omega arith

lowest_least : (next n : ℕ) (appends : List OpenAppend) → Rises n appends → (append : OpenAppend) → In append appends → lowest next appends ≤ append.number
lowest_least next n [] h append m = absurd m
lowest_least next n (first ∷ others) h append (inl e) = subst (λ (k : OpenAppend). first.number ≤ k.number) e (omega arith)
lowest_least next n (first ∷ others) h append (inr m) =
    let later = rises_least (first.number + 1) others h.1 append m in
    omega arith

module _ (shape : Dimensions) (g : Ghost) (a : Parts) (moment : Moment shape g a) (id x : Identity) (same : x.client ≡ id.client) where
  abbrev k : ClientState
  k = a.clients id.client

  facts : ClientFacts shape g.views a.history id.client k
  facts = moment.agreed.clients.appends id.client

  named : id_of k x.number ≡ x
  named = ap (λ (n : ℕ). record { client = n; number = x.number }) ((moment.formed.clients id.client).numbered ∙ sym same)

  pub stale_ended : IsBegun a.history id → 1 ≤ x.number → x.number + window_of shape.edition ≤ id.number → HasEnded a.history x
  stale_ended begun some far =
      let below = facts.begun id begun.bytes refl begun.stands in
      let few = facts.few in
      elim (facts.ended x.number some (omega arith)) [
        | inl open_now ↦
            let least = lowest_least k.next 1 k.unfinished facts.rising open_now.append open_now.among in
            let number = open_now.number_is in
            absurd (omega arith)
        | inr ended ↦ subst (HasEnded a.history) named ended
      ]
