-- DataAck at a client: noted where it is of the client's view and of a replica of the record's shard in it.
use Rattle.std.proofs.Common.{◌≡◌, ℕ, not, sym, ap, subst}
use Rattle.std.specs.Prelude.{◌==◌, if◌then◌else◌}
use Rattle.std.proofs.lemmas.Bool.{eqb-true, not-false}
use Rattle.list_facts.proofs.Cases.{either}
use Rattle.rec_id.specs.Identity.{Identity}
use Rattle.view_config.specs.Shape.{Dimensions}
use Rattle.lazy_msgs.specs.declared.msg.Msg.TheVariants.{DataAck}
use Rattle.lazy_rules.specs.ClientRules.{homes_of, notes, on_data_ack}
use Rattle.lazy_rules.specs.ClientState.{ClientState, id_of}
use Rattle.lazy_rules.specs.Rows.{has_node, stays}
use Rattle.log_facts.specs.Ghosts.{Ghost}
use Rattle.log_facts.specs.Good.{GoodClient, Heard, Moment}
use Rattle.log_facts.specs.Parts.{Parts}
use Rattle.log_facts.specs.Says.{DataAckSays}
use Rattle.log_facts.specs.facts.OfClients.{AckNoted}
use Rattle.client_rows.proofs.Apart.{shard_is_no_member}
use Rattle.client_rows.proofs.Noted.{notes_good}
use Rattle.client_rows.proofs.Tick.{stays_good}

module _ (shape : Dimensions) (g : Ghost) (a : Parts) (sender c : ℕ) (view : ℕ) (id : Identity) (moment : Moment shape g a) (heard : Heard shape g a sender c (DataAck view id)) where
  abbrev k : ClientState
  k = a.clients c

  module _ (now : view ≡ k.config.view) (own : id.client ≡ k.client) where
    same : id_of k id.number ≡ id
    same = ap (λ (n : ℕ). record { client = n; number = id.number }) (sym own)

    noted : AckNoted g.views g.log a.seqs k (id_of k id.number) sender
    noted = record {
      member = λ i. absurd (shard_is_no_member shape g a c moment sender heard.goes.0 i);
      home = λ i. subst (λ (w : ℕ). DataAckSays g.log.given sender w (id_of k id.number)) now (subst (DataAckSays g.log.given sender view) (sym same) heard.said);
    }

  pub data_ack_good : GoodClient shape g a c (on_data_ack k sender view id)
  data_ack_good =
      let stayed : GoodClient shape g a c (stays k) = stays_good shape g a c moment in
      either (GoodClient shape g a c) (not (view == k.config.view)) (stays k) (if not (id.client == k.client) then stays k else (if not (has_node (homes_of k id) sender) then stays k else notes k sender id.number)) (λ e. stayed)
      (λ e. either (GoodClient shape g a c) (not (id.client == k.client)) (stays k) (if not (has_node (homes_of k id) sender) then stays k else notes k sender id.number) (λ f. stayed)
      (λ f. either (GoodClient shape g a c) (not (has_node (homes_of k id) sender)) (stays k) (notes k sender id.number) (λ h. stayed)
      (λ h. notes_good shape g a c moment sender id.number (noted (eqb-true view k.config.view (not-false (view == k.config.view) e)) (eqb-true id.client k.client (not-false (id.client == k.client) f))))))
