-- ViewIs at a client: it goes on in a later view, in which nobody has acknowledged anything.
use Rattle.std.proofs.Common.{◌≡◌, ℕ, ◌+◌, List, [], ◌∷◌, ◌⊎◌, inl, inr, refl, arith}
use Rattle.std.specs.Prelude.{map, nat_lt}
use Rattle.list_facts.specs.Lists.{Each, put}
use Rattle.list_facts.proofs.Cases.{either}
use Rattle.list_facts.proofs.Members.{each_map, each_weaker, in_each, in_map}
use Rattle.view_config.specs.Shape.{Dimensions}
use Rattle.view_config.specs.declared.config.Config.{Config}
use Rattle.lazy_rules.specs.ClientRules.{in_config, on_view_is, sending_each, unacknowledged}
use Rattle.lazy_rules.specs.ClientState.{ClientState, OpenAppend, id_of, lowest}
use Rattle.lazy_rules.specs.Rows.{stays}
use Rattle.log_facts.specs.Ghosts.{Ghost}
use Rattle.log_facts.specs.Good.{GoodClient, Moment}
use Rattle.log_facts.specs.Parts.{Parts}
use Rattle.log_facts.specs.Past.{HasEnded}
use Rattle.log_facts.specs.Says.{IsReign}
use Rattle.log_facts.specs.facts.OfClients.{AckNoted, ClientFacts, IsOpen, OpenFacts, Rises}
use Rattle.client_rows.proofs.Sending.{HasInvoked, appends_said}
use Rattle.client_rows.proofs.Stepping.{Keeps, keeps_good}
use Rattle.client_rows.proofs.Tick.{stays_good}

lowest_unacknowledged : (next : ℕ) (appends : List OpenAppend) → lowest next (map unacknowledged appends) ≡ lowest next appends
lowest_unacknowledged next [] = refl
lowest_unacknowledged next (append ∷ appends) = refl

rises_unacknowledged : (n : ℕ) (appends : List OpenAppend) → Rises n appends → Rises n (map unacknowledged appends)
rises_unacknowledged n [] r = tt
rises_unacknowledged n (append ∷ appends) r = (r.0, rises_unacknowledged (append.number + 1) appends r.1)

module _ (shape : Dimensions) (g : Ghost) (a : Parts) (c : ℕ) (moment : Moment shape g a) (config : Config) (reign : IsReign g.views config) where
  abbrev k : ClientState
  k = a.clients c

  abbrev next : ClientState
  next = in_config k config

  facts : ClientFacts shape g.views a.history c k
  facts = moment.agreed.clients.appends c

  opened_stays : (append : OpenAppend) → OpenFacts a.history k append → OpenFacts a.history next (unacknowledged append)
  opened_stays append f = record { below = f.below; begun = f.begun; not_ended = f.not_ended }

  open_stays : (n : ℕ) → IsOpen k n ⊎ HasEnded a.history (id_of k n) → IsOpen next n ⊎ HasEnded a.history (id_of next n)
  open_stays n (inl o) = inl (record { append = unacknowledged o.append; among = in_map unacknowledged o.append k.unfinished o.among; number_is = o.number_is })
  open_stays n (inr e) = inr e

  opened : Each (OpenFacts a.history next) next.unfinished
  opened = each_map unacknowledged (OpenFacts a.history next) k.unfinished (each_weaker (OpenFacts a.history k) (λ (append : OpenAppend). OpenFacts a.history next (unacknowledged append)) opened_stays k.unfinished facts.opened)

  keeps : Keeps shape g a c moment next
  keeps = record {
    facts = record {
      config = reign;
      next = facts.next;
      few = let few = facts.few in let same = lowest_unacknowledged k.next k.unfinished in omega arith;
      rising = rises_unacknowledged 1 k.unfinished facts.rising;
      opened = opened;
      begun = facts.begun;
      ended = λ n some below. open_stays n (facts.ended n some below);
    };
    notes = each_map unacknowledged (λ (append : OpenAppend). Each (AckNoted g.views g.log a.seqs next (id_of next append.number)) append.acked) k.unfinished
        (in_each (λ (append : OpenAppend). Each (AckNoted g.views g.log a.seqs next (id_of next append.number)) (unacknowledged append).acked) k.unfinished (λ append i. tt));
  }

  abbrev b : Parts
  b = record a { clients = put a.clients c next }

  later_good : GoodClient shape g a c (sending_each next next.unfinished)
  later_good = keeps_good shape g a c moment (sending_each next next.unfinished) refl keeps
      (appends_said shape g b c next (moment.formed.clients c).shaped next.unfinished
      (each_weaker (OpenFacts a.history next) (HasInvoked shape g b c next (moment.formed.clients c).shaped) (λ append f. f.begun) next.unfinished opened))

  pub view_is_good : GoodClient shape g a c (on_view_is k config)
  view_is_good = either (GoodClient shape g a c) (nat_lt k.config.view config.view) (sending_each next next.unfinished) (stays k) (λ e. later_good) (λ e. stays_good shape g a c moment)
