-- Tick at a client: the lowest open appends are sent again.
use Rattle.std.proofs.Common.{ℕ, refl}
use Rattle.std.specs.Prelude.{take}
use Rattle.list_facts.proofs.Members.{each_weaker}
use Rattle.view_config.specs.Shape.{Dimensions}
use Rattle.lazy_rules.specs.ClientRules.{on_client_tick}
use Rattle.lazy_rules.specs.ClientState.{ClientState}
use Rattle.lazy_rules.specs.Rows.{stays}
use Rattle.lazy_rules.specs.declared.limits.TheConstants.{RESENT_LIMIT}
use Rattle.log_facts.specs.Ghosts.{Ghost}
use Rattle.log_facts.specs.Good.{GoodClient, Moment}
use Rattle.log_facts.specs.Parts.{Parts}
use Rattle.log_facts.specs.facts.OfClients.{OpenFacts}
use Rattle.list_facts.specs.Lists.{put}
use Rattle.client_rows.proofs.Sending.{HasInvoked, appends_said, each_taken}
use Rattle.client_rows.proofs.Stepping.{Keeps, keeps_good}

module _ (shape : Dimensions) (g : Ghost) (a : Parts) (c : ℕ) (moment : Moment shape g a) where
  abbrev k : ClientState
  k = a.clients c

  -- what it has it keeps
  pub unchanged : Keeps shape g a c moment k
  unchanged = record { facts = moment.agreed.clients.appends c; notes = moment.agreed.clients.appends_noted c }

  pub stays_good : GoodClient shape g a c (stays k)
  stays_good = keeps_good shape g a c moment (stays k) refl unchanged tt

  abbrev b : Parts
  b = record a { clients = put a.clients c k }

  pub tick_good : GoodClient shape g a c (on_client_tick k)
  tick_good = keeps_good shape g a c moment (on_client_tick k) refl unchanged
      (appends_said shape g b c k (moment.formed.clients c).shaped (take RESENT_LIMIT k.unfinished)
      (each_taken shape g b c k (moment.formed.clients c).shaped (HasInvoked shape g b c k (moment.formed.clients c).shaped) RESENT_LIMIT k.unfinished
      (each_weaker (OpenFacts a.history k) (HasInvoked shape g b c k (moment.formed.clients c).shaped) (λ append f. f.begun) k.unfinished (moment.agreed.clients.appends c).opened)))
