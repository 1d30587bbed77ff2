-- What was printed is the history.
use Rattle.std.proofs.Common.{◌≡◌, ◌≢◌, ℕ, List, [], ◌++◌, Option, inl, inr, refl, sym, subst, append-nil}
use Rattle.std.specs.Prelude.{Err, Result}
use Rattle.std.specs.Io.KnownBytes.{append_known}
use Rattle.io_edges.specs.Telling.{Fails, Stops}
use Rattle.io_edges.specs.declared.status.Status.{Status}
use Rattle.io_edges.specs.declared.status.Status.TheVariants.{Done, Usage, BadLine, ReadFault, WriteFault, Memory, Limit}
use Rattle.io_edges.proofs.TellingLemmas.{goes_on as goes_piece, stops_further, stops_going, stops_within}
use Rattle.rec_id.specs.declared.event.Event.{Event}
use Rattle.lazy_msgs.specs.declared.input.WorldEvent.{WorldEvent}
use Rattle.lazy_rules.specs.WorldRules.{run}
use Rattle.view_config.specs.Shape.{Dimensions, IsShape}
use Rattle.lazylog_trace.proofs.PartedTexts.{made_prints}
use Rattle.lazylog_trace.specs.Output.{first_progress, out, out_read, Progress, Output, bytes_output, line_output, script_output, behind, closing}
use Rattle.lazylog_trace.specs.Printed.{Prints, Shows}
use Rattle.script_streams.specs.Streams.{SourceUse}
use Rattle.lazylog_trace.specs.Traced.{Traced}
use Rattle.lazylog_trace.proofs.OutputRuns.{Follows, behind_follows, line_follows, script_follows, bytes_follow}

module _ (source : SourceUse) (shape : Dimensions) (formed : IsShape shape) (bytes : List ℕ) (before after : Option (List ℕ)) (events : List WorldEvent) where
  abbrev start : Progress
  start = first_progress shape

  abbrev history : List Event
  history = (run events start.world).history

  -- an output, and the last text behind it, print the history of its events
  prints : (t : Output) → Follows start t → (end : Result Progress Status) → events ≡ t.events → Prints (t.text ++ closing end) history
  prints t f end is =
      let grown : (run t.events start.world).history ≡ f.growth = f.grew in
      subst (λ (es : List WorldEvent). Prints (t.text ++ closing end) (run es start.world).history) (sym is)
      (subst (λ (h : List Event). Prints (t.text ++ closing end) h) (sym grown) (made_prints shape formed t.events f.plain t.text f.growth end f.made (sym grown)))

  whole_front : (text : List ℕ) → after ≡ append_known before text → Stops before after text
  whole_front text written = stops_going (goes_piece text (sym (append-nil text)) written)

  -- the script was read to its end, or to a script line that stops it
  at_end : (status : Status) → status ≢ ReadFault → status ≢ WriteFault → status ≢ Memory → Traced source start bytes before after events status → Shows before after history status
  at_end status one two three t = record {
    text = out start bytes;
    prints = prints (script_output start bytes) (script_follows start bytes) (script_output start bytes).now (t.applied one two three);
    whole = λ other. t.whole one two three;
    front = whole_front (out start bytes) (t.whole one two three);
  }

  -- a front of the last piece of an output was written, and all before it
  parts_front : (first last : List ℕ) → Fails (append_known before first) after last → Stops before after (first ++ last)
  parts_front first last front = stops_further (goes_piece first refl refl) (stops_going front.goes)

  pub shown : (status : Status) → status ≢ Memory → Traced source start bytes before after events status → Shows before after history status
  shown Done other t = at_end Done (λ e. cc) (λ e. cc) (λ e. cc) t
  shown Usage other t = at_end Usage (λ e. cc) (λ e. cc) (λ e. cc) t
  shown (BadLine n) other t = at_end (BadLine n) (λ e. cc) (λ e. cc) (λ e. cc) t
  shown (Limit n) other t = at_end (Limit n) (λ e. cc) (λ e. cc) (λ e. cc) t
  shown Memory other t = absurd (other refl)
  shown ReadFault other t =
      let k = t.read refl in
      record {
        text = out_read start k.0.read;
        prints = prints (bytes_output start k.0.read) (bytes_follow start k.0.read) (Err ReadFault) k.1;
        whole = λ e. k.2;
        front = whole_front (out_read start k.0.read) k.2;
      }
  shown WriteFault other t = elim (t.failed refl) [
    | inl quiet ↦ elim quiet.1 [
      | inl line ↦ record {
        text = ((bytes_output start line.0.read).text ++ (line_output line.0.now).text) ++ closing (Err WriteFault);
        prints = prints (behind (bytes_output start line.0.read) (line_output line.0.now)) (behind_follows start line.0.now (bytes_output start line.0.read) (line_output line.0.now) line.0.on (bytes_follow start line.0.read) (line_follows line.0.now)) (Err WriteFault) line.1;
        whole = λ e. absurd (e refl);
        front = stops_within [] refl (parts_front (bytes_output start line.0.read).text (line_output line.0.now).text line.0.front);
      }
      | inr whole ↦ record {
        text = out start bytes;
        prints = prints (script_output start bytes) (script_follows start bytes) (script_output start bytes).now whole.applied;
        whole = λ e. absurd (e refl);
        front = parts_front (script_output start bytes).text (closing (script_output start bytes).now) whole.front;
      }
    ]
    | inr read ↦ record {
      text = out_read start read.0.read;
      prints = prints (bytes_output start read.0.read) (bytes_follow start read.0.read) (Err ReadFault) read.1.applied;
      whole = λ e. absurd (e refl);
      front = parts_front (bytes_output start read.0.read).text (closing (Err ReadFault)) read.1.front;
    }
  ]
