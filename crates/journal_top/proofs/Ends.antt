-- What a whole script writes, its last text included, and what it ends with.
use Rattle.std.proofs.Common.{◌≡◌, ◌≢◌, ◌⊎◌, ℕ, List, ◌++◌, Option, inl, inr, refl, sym, ap, ◌∙◌, subst}
use Rattle.std.specs.Prelude.{Result, Ok, Err}
use Rattle.std.specs.Io.KnownBytes.{append_known, IsAtEnd}
use Rattle.io_edges.specs.Telling.{Stops}
use Rattle.io_edges.specs.declared.status.Status.{Status}
use Rattle.io_edges.specs.declared.status.Status.TheVariants.{Done, Usage, BadLine, ReadFault, WriteFault, Memory, Limit}
use Rattle.script_streams.specs.Streams.{HasBytes, SinkUse, SourceUse}
use Rattle.script_streams.specs.Texts.{FailsAt, printed}
use Rattle.journal_top.specs.declared.words.Shard.{Shard}
use Rattle.journal_top.specs.Rules.{ToolState}
use Rattle.journal_top.specs.Output.{closing, closing_of, last_text, out, read_output, script_output, status_of, stop_text}
use Rattle.journal_top.specs.Telling.{Closed, IsJournal, RanOf, ReadOf}
use Rattle.journal_top.proofs.Texts.{fails_before, fails_behind, stops_before, stops_behind, texts_behind}

-- what a last text adds: all of it and the status that is given, or not all of it, or nothing known
abbrev Adds : (last : Option (List ℕ)) (given : Status) (before after : Option (List ℕ)) (status : Status) → Type 0
Adds last given before after status = ((status ≡ given) × (after ≡ append_known before (printed (closing_of last)))) ⊎ (((status ≡ WriteFault) × FailsAt (closing_of last) before after) ⊎ (status ≡ Memory))

-- where the status is neither that of a failed write nor want of memory, the last text was written
given_so : {A : Type 0} (last : Option (List ℕ)) (given : Status) (before after : Option (List ℕ)) (status : Status) → Adds last given before after status → status ≢ WriteFault → status ≢ Memory → (status ≡ given → after ≡ append_known before (printed (closing_of last)) → A) → A
given_so last given before after status adds two three use_it = elim adds [
  | inl done ↦ use_it done.0 done.1
  | inr other ↦ elim other [ inl fault ↦ absurd (two fault.0) | inr memory ↦ absurd (three memory) ]
]

failed_so : (last : Option (List ℕ)) (given : Status) (before after : Option (List ℕ)) (status : Status) → Adds last given before after status → given ≢ WriteFault → status ≡ WriteFault → FailsAt (closing_of last) before after
failed_so last given before after status adds other is = elim adds [
  | inl done ↦ absurd (other (sym done.0 ∙ is))
  | inr others ↦ elim others [
    | inl fault ↦ fault.1
    | inr memory ↦ let wrong : Memory ≡ WriteFault = sym memory ∙ is in cc
  ]
]

module _ (shard : Shard) (source : SourceUse) (sink : SinkUse) (between : Option (List ℕ)) (status : Status) where
  -- the script was read to its end, or to the line that stops it
  module _ (bytes : List ℕ) (has : HasBytes source.had bytes) (end_is : Result ToolState Status) (is : (script_output shard bytes).now ≡ end_is) (written : between ≡ append_known sink.before (printed (script_output shard bytes).texts)) (given : Status) (given_is : given ≡ status_of end_is) (no_fault : given ≢ ReadFault) (no_write : given ≢ WriteFault) (ended : given ≡ Done → IsAtEnd source.left) (quiet : source.faults_now ≡ source.faults) (closed : Closed (last_text end_is) given between sink.after status) where
    last_is : closing_of (last_text end_is) ≡ closing (script_output shard bytes).now
    last_is = ap closing (sym is)

    whole_so : sink.after ≡ append_known between (printed (closing_of (last_text end_is))) → sink.after ≡ append_known sink.before (printed (out shard bytes))
    whole_so last =
        texts_behind (script_output shard bytes).texts sink.before between sink.after written (closing_of (last_text end_is)) last
        ∙ ap (λ (texts : List (List ℕ)). append_known sink.before (printed ((script_output shard bytes).texts ++ texts))) last_is

    whole_journal : IsJournal shard source sink status
    whole_journal = record {
      bytes = bytes;
      has = has;
      ended = λ one two three. given_so (last_text end_is) given between sink.after status closed.outcome two three (λ same last. same ∙ given_is ∙ sym (ap status_of is));
      whole = λ one two three. given_so (last_text end_is) given between sink.after status closed.outcome two three (λ same last. whole_so last);
      read_whole = λ e. given_so (last_text end_is) given between sink.after status closed.outcome (λ f. let wrong : Done ≡ WriteFault = sym e ∙ f in cc) (λ f. let wrong : Done ≡ Memory = sym e ∙ f in cc) (λ same last. ended (sym same ∙ e));
      read = λ e. given_so (last_text end_is) given between sink.after status closed.outcome (λ f. let wrong : ReadFault ≡ WriteFault = sym e ∙ f in cc) (λ f. let wrong : ReadFault ≡ Memory = sym e ∙ f in cc) (λ same last. absurd (no_fault (sym same ∙ e)));
      failed = λ e. inl (quiet, subst (λ (texts : List (List ℕ)). FailsAt ((script_output shard bytes).texts ++ texts) sink.before sink.after) last_is (fails_behind (script_output shard bytes).texts sink.before between sink.after written (closing_of (last_text end_is)) (failed_so (last_text end_is) given between sink.after status closed.outcome no_write e)));
      front = inl (subst (λ (texts : List (List ℕ)). Stops sink.before sink.after (printed ((script_output shard bytes).texts ++ texts))) last_is (stops_behind (script_output shard bytes).texts sink.before between sink.after written (closing_of (last_text end_is)) closed.front));
    }

  -- the source failed
  module _ (bytes : List ℕ) (has : HasBytes source.had bytes) (k : ReadOf source shard bytes) (written : between ≡ append_known sink.before (printed (read_output shard k.read).texts)) (closed : Closed (stop_text ReadFault) ReadFault between sink.after status) where
    source_journal : IsJournal shard source sink status
    source_journal = record {
      bytes = bytes;
      has = has;
      ended = λ one two three. given_so (stop_text ReadFault) ReadFault between sink.after status closed.outcome two three (λ same last. absurd (one same));
      whole = λ one two three. given_so (stop_text ReadFault) ReadFault between sink.after status closed.outcome two three (λ same last. absurd (one same));
      read_whole = λ e. given_so (stop_text ReadFault) ReadFault between sink.after status closed.outcome (λ f. let wrong : Done ≡ WriteFault = sym e ∙ f in cc) (λ f. let wrong : Done ≡ Memory = sym e ∙ f in cc) (λ same last. let wrong : Done ≡ ReadFault = sym e ∙ same in cc);
      read = λ e. given_so (stop_text ReadFault) ReadFault between sink.after status closed.outcome (λ f. let wrong : ReadFault ≡ WriteFault = sym e ∙ f in cc) (λ f. let wrong : ReadFault ≡ Memory = sym e ∙ f in cc) (λ same last. (k, texts_behind (read_output shard k.read).texts sink.before between sink.after written (closing (Err ReadFault)) last));
      failed = λ e. inr (k, fails_behind (read_output shard k.read).texts sink.before between sink.after written (closing (Err ReadFault)) (failed_so (stop_text ReadFault) ReadFault between sink.after status closed.outcome (λ f. cc) e));
      front = inr (k, stops_behind (read_output shard k.read).texts sink.before between sink.after written (closing (Err ReadFault)) closed.front);
    }

  -- a write failed, or there was no memory, so that there is no last text
  module _ (bytes : List ℕ) (has : HasBytes source.had bytes) (quiet : source.faults_now ≡ source.faults) (front : Stops sink.before between (printed (script_output shard bytes).texts)) (same : sink.after ≡ between) (why : (status ≡ WriteFault) ⊎ (status ≡ Memory)) (fails : status ≡ WriteFault → FailsAt (script_output shard bytes).texts sink.before between) where
    settled : status ≢ WriteFault → status ≢ Memory → ⊥
    settled two three = elim why [ inl e ↦ two e | inr e ↦ three e ]

    cut_journal : IsJournal shard source sink status
    cut_journal = record {
      bytes = bytes;
      has = has;
      ended = λ one two three. absurd (settled two three);
      whole = λ one two three. absurd (settled two three);
      read_whole = λ e. absurd (settled (λ f. let wrong : Done ≡ WriteFault = sym e ∙ f in cc) (λ f. let wrong : Done ≡ Memory = sym e ∙ f in cc));
      read = λ e. absurd (settled (λ f. let wrong : ReadFault ≡ WriteFault = sym e ∙ f in cc) (λ f. let wrong : ReadFault ≡ Memory = sym e ∙ f in cc));
      failed = λ e. inl (quiet, subst (λ (k : Option (List ℕ)). FailsAt (out shard bytes) sink.before k) (sym same) (fails_before (script_output shard bytes).texts (closing (script_output shard bytes).now) sink.before between (fails e)));
      front = inl (subst (λ (k : Option (List ℕ)). Stops sink.before k (printed (out shard bytes))) (sym same) (stops_before (script_output shard bytes).texts (closing (script_output shard bytes).now) sink.before between front));
    }

  -- whatever it was
  line_stopped : (given : Status) → given ≢ ReadFault → given ≢ WriteFault → given ≢ Memory → given ≢ Done → source.faults_now ≡ source.faults → RanOf source shard sink.before between (Err given) → Closed (stop_text given) given between sink.after status → IsJournal shard source sink status
  line_stopped given one two three four quiet r closed =
      whole_journal r.bytes r.has (Err given) (r.ran.stopped one two three) (r.ran.written one two three) given refl one two (λ e. absurd (four e)) quiet closed

  stopped_journal : (given : Status) → (◌≢◌ {A = Result ToolState Status} (Err given) (Err ReadFault) → source.faults_now ≡ source.faults) → given ≢ Usage → given ≢ Done → RanOf source shard sink.before between (Err given) → Closed (stop_text given) given between sink.after status → IsJournal shard source sink status
  stopped_journal ReadFault quiet usage done r closed = let k = r.ran.read refl in source_journal r.bytes r.has k.0 k.1 closed
  stopped_journal WriteFault quiet usage done r closed =
      let none = closed.none refl in
      cut_journal r.bytes r.has (quiet (λ e. cc)) r.ran.front none.0 none.1 (λ e. r.ran.failed refl)
  stopped_journal Memory quiet usage done r closed =
      let none = closed.none refl in
      let memory : status ≡ Memory = elim none.1 [ inl e ↦ e | inr e ↦ e ] in
      cut_journal r.bytes r.has (quiet (λ e. cc)) r.ran.front none.0 (inr memory) (λ e. let wrong : Memory ≡ WriteFault = sym memory ∙ e in cc)
  stopped_journal (BadLine n) quiet usage done r closed = line_stopped (BadLine n) (λ e. cc) (λ e. cc) (λ e. cc) (λ e. cc) (quiet (λ e. cc)) r closed
  stopped_journal (Limit n) quiet usage done r closed = line_stopped (Limit n) (λ e. cc) (λ e. cc) (λ e. cc) (λ e. cc) (quiet (λ e. cc)) r closed
  stopped_journal Done quiet usage done r closed = absurd (done refl)
  stopped_journal Usage quiet usage done r closed = absurd (usage refl)

  pub journal : (ended : Result ToolState Status) → (ended ≢ Err ReadFault → source.faults_now ≡ source.faults) → ended ≢ Err Usage → ended ≢ Err Done → RanOf source shard sink.before between ended → Closed (last_text ended) (status_of ended) between sink.after status → IsJournal shard source sink status
  journal (Ok now) quiet usage not_done r closed =
      whole_journal r.bytes r.has (Ok now) r.ran.on r.ran.whole Done refl (λ e. cc) (λ e. cc) (λ e. r.ran.ended) (quiet (λ e. cc)) closed
  journal (Err given) quiet usage not_done r closed = stopped_journal given quiet (λ e. usage (ap Err e)) (λ e. not_done (ap Err e)) r closed
