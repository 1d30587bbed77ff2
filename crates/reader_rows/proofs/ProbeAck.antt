-- ProbeAck at a reader: noted where it is of the reader's view and of a sequencing replica of it.
use Rattle.std.proofs.Common.{◌≡◌, ℕ, [], ◌∷◌, ◌++◌, true, refl, sym, subst}
use Rattle.std.specs.Prelude.{◌==◌, ◌&&◌, if◌then◌else◌}
use Rattle.std.proofs.lemmas.Bool.{and_parts, eqb-true}
use Rattle.list_facts.specs.Lists.{Each}
use Rattle.list_facts.proofs.Cases.{either}
use Rattle.list_facts.proofs.Members.{each_append}
use Rattle.view_config.specs.Shape.{Dimensions}
use Rattle.lazy_msgs.specs.declared.msg.Msg.TheVariants.{ProbeAck}
use Rattle.lazy_rules.specs.ReaderRules.{acked_force, decides, is_force_of, on_probe_ack}
use Rattle.lazy_rules.specs.ReaderState.{Fetching, Force, Idle, Probing, ReaderState, Stage, Trimming}
use Rattle.lazy_rules.specs.Rows.{has_node, stays}
use Rattle.log_facts.specs.Ghosts.{Ghost}
use Rattle.log_facts.specs.Good.{GoodReader, Heard, Moment}
use Rattle.log_facts.specs.Parts.{Parts}
use Rattle.log_facts.specs.Says.{ProbeAckSays}
use Rattle.log_facts.specs.facts.OfReads.{ForceNotes, StageFacts, StageNotes}
use Rattle.reader_rows.proofs.Deciding.{decides_good}
use Rattle.reader_rows.proofs.Stepping.{stays_good}

module _ (shape : Dimensions) (g : Ghost) (a : Parts) (sender c view number : ℕ) (moment : Moment shape g a) (heard : Heard shape g a sender c (ProbeAck view number)) where
  abbrev r : ReaderState
  r = a.readers c

  stayed : GoodReader shape g a c (stays r)
  stayed = stays_good shape g a c moment

  noted : (force : Force) → r.stage ≡ Probing force → is_force_of r force view number ≡ true → GoodReader shape g a c (decides r (acked_force force sender))
  noted force is of =
      let facts = moment.agreed.clients.reads c in
      let notes = moment.agreed.clients.reads_noted c in
      let before : ForceNotes g.views g.log a.history a.seqs c r.config.view force = subst (StageNotes shape g.views g.log a.history a.seqs a.shards c r.config.view) is notes.stage in
      let parts = and_parts (force.number == number) (view == r.config.view) of in
      let says : ProbeAckSays g.log.probed sender r.config.view c force.number =
      subst (λ (w : ℕ). ProbeAckSays g.log.probed sender w c force.number) (eqb-true view r.config.view parts.1)
      (subst (λ (n : ℕ). ProbeAckSays g.log.probed sender view c n) (sym (eqb-true force.number number parts.0)) heard.said) in
      decides_good shape g a c moment r (moment.formed.readers c).numbered (moment.formed.readers c).shaped facts notes.reach (acked_force force sender)
      (subst (StageFacts a.history c) is facts.stage)
      (record {
        acked = either (Each (λ (n : ℕ). ProbeAckSays g.log.probed n r.config.view c force.number)) (has_node force.acked sender) force.acked (force.acked ++ sender ∷ []) (λ e. before.acked) (λ e. each_append (λ (n : ℕ). ProbeAckSays g.log.probed n r.config.view c force.number) force.acked (sender ∷ []) before.acked (says, tt));
        tail = before.tail;
      })

  by_stage : (stage : Stage) → r.stage ≡ stage → GoodReader shape g a c (elim stage [
    | Probing force ↦ if is_force_of r force view number && has_node r.config.seq sender then decides r (acked_force force sender) else stays r
    | _ ↦ stays r
  ])
  by_stage Idle is = stayed
  by_stage (Fetching fetch) is = stayed
  by_stage (Trimming trimmer) is = stayed
  by_stage (Probing force) is = either (GoodReader shape g a c) (is_force_of r force view number && has_node r.config.seq sender) (decides r (acked_force force sender)) (stays r)
      (λ e. noted force is (and_parts (is_force_of r force view number) (has_node r.config.seq sender) e).0) (λ e. stayed)

  pub probe_ack_good : GoodReader shape g a c (on_probe_ack r sender view number)
  probe_ack_good = by_stage r.stage refl
