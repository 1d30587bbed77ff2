-- TailReady at a reader: noted where it is of the reader's view and of its leader, and none was noted before.
use Rattle.std.proofs.Common.{◌≡◌, ℕ, Bool, true, false, refl, sym, subst}
use Rattle.std.specs.Prelude.{◌==◌, ◌&&◌, if◌then◌else◌}
use Rattle.std.specs.Option.{is_none}
use Rattle.std.proofs.lemmas.Bool.{and_parts, eqb-true}
use Rattle.list_facts.proofs.Cases.{either}
use Rattle.view_config.specs.Shape.{Dimensions}
use Rattle.lazy_msgs.specs.declared.msg.Msg.TheVariants.{TailReady}
use Rattle.lazy_rules.specs.ReaderRules.{decides, is_force_of, on_tail_ready, with_tail}
use Rattle.lazy_rules.specs.ReaderState.{Fetching, Force, Idle, Probing, ReaderState, Stage, Trimming}
use Rattle.lazy_rules.specs.Roles.{is_first}
use Rattle.lazy_rules.specs.Rows.{stays}
use Rattle.log_facts.specs.Ghosts.{Ghost}
use Rattle.log_facts.specs.Good.{GoodReader, Heard, Moment}
use Rattle.log_facts.specs.Parts.{Parts}
use Rattle.log_facts.specs.Says.{TailSays}
use Rattle.log_facts.specs.facts.OfReads.{ForceNotes, StageFacts, StageNotes}
use Rattle.reader_rows.proofs.Deciding.{decides_good}
use Rattle.reader_rows.proofs.Stepping.{stays_good}

module _ (shape : Dimensions) (g : Ghost) (a : Parts) (sender c view number tail : ℕ) (moment : Moment shape g a) (heard : Heard shape g a sender c (TailReady view number tail)) where
  abbrev r : ReaderState
  r = a.readers c

  stayed : GoodReader shape g a c (stays r)
  stayed = stays_good shape g a c moment

  noted : (force : Force) → r.stage ≡ Probing force → is_force_of r force view number ≡ true → GoodReader shape g a c (decides r (with_tail force tail))
  noted force is of =
      let facts = moment.agreed.clients.reads c in
      let notes = moment.agreed.clients.reads_noted c in
      let before : ForceNotes g.views g.log a.history a.seqs c r.config.view force = subst (StageNotes shape g.views g.log a.history a.seqs a.shards c r.config.view) is notes.stage in
      let parts = and_parts (force.number == number) (view == r.config.view) of in
      let says : TailSays g.views g.log a.history a.seqs r.config.view c force.number tail =
      subst (λ (w : ℕ). TailSays g.views g.log a.history a.seqs w c force.number tail) (eqb-true view r.config.view parts.1)
      (subst (λ (n : ℕ). TailSays g.views g.log a.history a.seqs view c n tail) (sym (eqb-true force.number number parts.0)) heard.said) in
      decides_good shape g a c moment r (moment.formed.readers c).numbered (moment.formed.readers c).shaped facts notes.reach (with_tail force tail)
      (subst (StageFacts a.history c) is facts.stage)
      (record { acked = before.acked; tail = λ t told. let same : tail ≡ t = cc in subst (TailSays g.views g.log a.history a.seqs r.config.view c force.number) same says })

  by_stage : (stage : Stage) → r.stage ≡ stage → GoodReader shape g a c (elim stage [
    | Probing force ↦ if is_force_of r force view number && is_first r.config.seq sender && is_none force.tail then decides r (with_tail force tail) else stays r
    | _ ↦ stays r
  ])
  by_stage Idle is = stayed
  by_stage (Fetching fetch) is = stayed
  by_stage (Trimming trimmer) is = stayed
  by_stage (Probing force) is = either (GoodReader shape g a c) (is_force_of r force view number && is_first r.config.seq sender && is_none force.tail) (decides r (with_tail force tail)) (stays r)
      (λ e. noted force is (first_of_three (is_force_of r force view number) (is_first r.config.seq sender) (is_none force.tail) e)) (λ e. stayed)
    where
      first_of_three : (x y z : Bool) → (x && y && z) ≡ true → x ≡ true
      first_of_three true y z e = refl
      first_of_three false y z e = cc

  pub tail_ready_good : GoodReader shape g a c (on_tail_ready r sender view number tail)
  tail_ready_good = by_stage r.stage refl
