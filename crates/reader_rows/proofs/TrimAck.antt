-- TrimAck at a reader: noted where it is of a shard replica of the reader's view; the last one ends the trim.
use Rattle.std.proofs.Common.{◌≡◌, ℕ, ◌≤◌, List, [], ◌∷◌, ◌++◌, ◌⊎◌, inl, inr, refl, sym, ◌∙◌, subst}
use Rattle.std.specs.Prelude.{◌==◌, ◌&&◌, if◌then◌else◌}
use Rattle.std.proofs.lemmas.Bool.{and_parts, eqb-true}
use Rattle.list_facts.specs.Lists.{Each, In, Precedes}
use Rattle.list_facts.proofs.Cases.{either}
use Rattle.list_facts.proofs.Members.{each_append}
use Rattle.rec_id.specs.declared.event.Event.TheVariants.{TrimAsk}
use Rattle.rec_id.specs.History.{Read}
use Rattle.view_config.specs.Shape.{Dimensions}
use Rattle.lazy_msgs.specs.declared.msg.Msg.TheVariants.{TrimAck}
use Rattle.lazy_rules.specs.ReaderRules.{acked_trim, notes_trim, on_trim_ack}
use Rattle.lazy_rules.specs.ReaderState.{Fetching, Idle, Probing, ReaderState, Stage, Trimmer, Trimming}
use Rattle.lazy_rules.specs.Roles.{replicas_of}
use Rattle.lazy_rules.specs.Rows.{has_node, stays}
use Rattle.log_facts.specs.Ghosts.{Ghost}
use Rattle.log_facts.specs.Good.{GoodReader, Heard, Moment}
use Rattle.log_facts.specs.Parts.{Parts}
use Rattle.log_facts.specs.facts.OfReads.{IsTrimming, StageFacts, StageNotes, TrimNotes}
use Rattle.reader_rows.proofs.EndingTrims.{notes_trim_good}
use Rattle.reader_rows.proofs.Stepping.{stays_good}

-- of two members of a list one comes before the other, or they are one
pub two_in : {A : Type 0} (x y : A) (xs : List A) → In x xs → In y xs → (x ≡ y) ⊎ (Precedes x y xs ⊎ Precedes y x xs)
two_in x y [] i j = absurd i
two_in x y (z ∷ xs) (inl e) (inl f) = inl (sym e ∙ f)
two_in x y (z ∷ xs) (inl e) (inr j) = inr (inl (inl (e, j)))
two_in x y (z ∷ xs) (inr i) (inl f) = inr (inr (inl (f, i)))
two_in x y (z ∷ xs) (inr i) (inr j) = elim (two_in x y xs i j) [
  | inl same ↦ inl same
  | inr (inl p) ↦ inr (inl (inr p))
  | inr (inr p) ↦ inr (inr (inr p))
]

module _ (shape : Dimensions) (g : Ghost) (a : Parts) (sender c number : ℕ) (moment : Moment shape g a) (heard : Heard shape g a sender c (TrimAck number)) where
  abbrev r : ReaderState
  r = a.readers c

  stayed : GoodReader shape g a c (stays r)
  stayed = stays_good shape g a c moment

  -- a trim is asked for once, with one floor
  same_floor : (low high : ℕ) → In (TrimAsk c number low) a.history → In (TrimAsk c number high) a.history → low ≡ high
  same_floor low high i j = elim (two_in (TrimAsk c number low) (TrimAsk c number high) a.history i j) [
    | inl same ↦ cc
    | inr (inl p) ↦ absurd (moment.agreed.history.trims.asked_once read low high (TrimAsk c number low) (TrimAsk c number high) refl refl p)
    | inr (inr p) ↦ absurd (moment.agreed.history.trims.asked_once read high low (TrimAsk c number high) (TrimAsk c number low) refl refl p)
  ]
    where
      read : Read
      read = record { client = c; number = number }

  noted : (trimmer : Trimmer) → r.stage ≡ Trimming trimmer → trimmer.number ≡ number → GoodReader shape g a c (notes_trim r (acked_trim trimmer sender))
  noted trimmer is same =
      let facts = moment.agreed.clients.reads c in
      let notes = moment.agreed.clients.reads_noted c in
      let trimming : IsTrimming a.history c trimmer.number trimmer.floor = subst (StageFacts a.history c) is facts.stage in
      let before : TrimNotes g.log a.shards trimmer = subst (StageNotes shape g.views g.log a.history a.seqs a.shards c r.config.view) is notes.stage in
      let floor : heard.said.floor ≡ trimmer.floor = same_floor heard.said.floor trimmer.floor heard.said.asked (subst (λ (n : ℕ). In (TrimAsk c n trimmer.floor) a.history) same trimming.asked) in
      let given_up : trimmer.floor ≤ (a.shards sender).store.floor = subst (λ (n : ℕ). n ≤ (a.shards sender).store.floor) floor heard.said.given_up in
      notes_trim_good shape g a c moment r (moment.formed.readers c).numbered facts notes.reach (acked_trim trimmer sender) trimming (record {
        below = before.below;
        acked = either (Each (λ (node : ℕ). trimmer.floor ≤ (a.shards node).store.floor)) (has_node trimmer.acked sender) trimmer.acked (trimmer.acked ++ sender ∷ []) (λ e. before.acked) (λ e. each_append (λ (node : ℕ). trimmer.floor ≤ (a.shards node).store.floor) trimmer.acked (sender ∷ []) before.acked (given_up, tt));
      })

  by_stage : (stage : Stage) → r.stage ≡ stage → GoodReader shape g a c (elim stage [
    | Trimming trimmer ↦
        if trimmer.number == number && has_node (replicas_of r.config) sender then notes_trim r (acked_trim trimmer sender)
        else stays r
    | _ ↦ stays r
  ])
  by_stage Idle is = stayed
  by_stage (Fetching fetch) is = stayed
  by_stage (Probing force) is = stayed
  by_stage (Trimming trimmer) is = either (GoodReader shape g a c) (trimmer.number == number && has_node (replicas_of r.config) sender) (notes_trim r (acked_trim trimmer sender)) (stays r)
      (λ e. noted trimmer is (eqb-true trimmer.number number (and_parts (trimmer.number == number) (has_node (replicas_of r.config) sender) e).0)) (λ e. stayed)

  pub trim_ack_good : GoodReader shape g a c (on_trim_ack r sender number)
  trim_ack_good = by_stage r.stage refl
