-- Rejected at a client: the append is finished, and the client is told the place of the no-op.
use Rattle.std.proofs.Common.{◌≡◌, ℕ, [], not, Some, sym, ap, ◌∙◌, subst}
use Rattle.std.specs.Prelude.{◌==◌, slice_get}
use Rattle.std.specs.Option.{option_map_or}
use Rattle.std.proofs.lemmas.Bool.{eqb-true, not-false}
use Rattle.std.proofs.lemmas.List.Quantifiers.{position-Some}
use Rattle.list_facts.proofs.Cases.{either, some_or_none}
use Rattle.list_facts.proofs.Places.{below_at}
use Rattle.rec_id.specs.Identity.{Identity}
use Rattle.view_config.specs.Shape.{Dimensions}
use Rattle.lazy_msgs.specs.declared.msg.Msg.TheVariants.{Rejected}
use Rattle.lazy_rules.specs.ClientRules.{begun, on_rejected, place_of, rejects}
use Rattle.lazy_rules.specs.ClientState.{ClientState, OpenAppend, id_of}
use Rattle.lazy_rules.specs.Rows.{stays}
use Rattle.log_facts.specs.Ghosts.{Ghost}
use Rattle.log_facts.specs.Good.{GoodClient, Heard, Moment}
use Rattle.log_facts.specs.Parts.{Parts}
use Rattle.log_facts.specs.Says.{RejectedSays}
use Rattle.client_rows.proofs.Finished.{bound_stands}
use Rattle.client_rows.proofs.Noted.{number_at, rejects_good}
use Rattle.client_rows.proofs.Tick.{stays_good}

module _ (shape : Dimensions) (g : Ghost) (a : Parts) (sender c : ℕ) (id : Identity) (place : ℕ) (moment : Moment shape g a) (heard : Heard shape g a sender c (Rejected id place)) where
  abbrev k : ClientState
  k = a.clients c

  found : (own : id.client ≡ k.client) (i : ℕ) → place_of k id.number ≡ Some i → GoodClient shape g a c (rejects k i id place)
  found own i at =
      let within = (position-Some (λ (other : OpenAppend). other.number == id.number) k.unfinished i (begun k []) at).0 in
      let one = below_at k.unfinished i within in
      by one.0 one.1
    where
      by : (append : OpenAppend) → slice_get k.unfinished i ≡ Some append → GoodClient shape g a c (rejects k i id place)
      by append is =
          let same : id_of k append.number ≡ id = ap (λ (n : ℕ). id_of k n) (number_at shape g a c moment id.number i append at is) ∙ ap (λ (n : ℕ). record { client = n; number = id.number }) (sym own) in
          subst (λ (x : Identity). GoodClient shape g a c (rejects k i x place)) same
          (rejects_good shape g a c moment i append is place (subst (λ (x : Identity). RejectedSays shape g.views g.log a.shards x place) (sym same) heard.said)
          (bound_stands shape g a moment.agreed (id_of k append.number) place heard.said.below (heard.said.stands ∙ ap (λ (x : Identity). Some x) (sym same))))

  pub rejected_good : GoodClient shape g a c (on_rejected k id place)
  rejected_good =
      let stayed : GoodClient shape g a c (stays k) = stays_good shape g a c moment in
      either (GoodClient shape g a c) (not (id.client == k.client)) (stays k) (option_map_or (λ i. rejects k i id place) (place_of k id.number) (stays k)) (λ e. stayed)
      (λ e. some_or_none (GoodClient shape g a c) (λ i. rejects k i id place) (place_of k id.number) (stays k) (λ i at. found (eqb-true id.client k.client (not-false (id.client == k.client) e)) i at) (λ none. stayed))
