use Rattle.std.specs.Prelude.{ℕ, List, [], ◌∷◌, map, Option, Some, None, Result, Ok, Err}
use Rattle.rec_id.specs.declared.entry.Entry.{Entry}
use Rattle.rec_id.specs.declared.event.Event.{Event}
use Rattle.view_config.specs.declared.edition.Edition.{Edition}
use Rattle.log_law.specs.declared.verdict.Verdict.TheVariants.{Lawful}
use Rattle.lazy_msgs.specs.Frame.{frame}
use Rattle.lazy_msgs.specs.declared.msg.Envelope.{Envelope}
use Rattle.lazy_msgs.specs.declared.refused.EventRefused.TheVariants.{NoMessage}
use Rattle.lazy_rules.specs.Lines.{line_told}
use Rattle.lazy_rules.specs.WorldState.{WorldState}
use Rattle.lazy_rules.specs.WorldRules.{message_at}
use Rattle.trace_script.specs.EventTexts.{event_text}
use Rattle.trace_script.specs.FrameTexts.{frame_text}
use Rattle.trace_script.specs.LineTexts.{line_text, lost_text, no_holder_text}
use Rattle.trace_script.specs.RefusalTexts.{refused_text}
use Rattle.trace_script.specs.VerdictTexts.{lost_verdict_text, verdict_text}
use Rattle.script_streams.specs.Texts.{with_newline}
use Rattle.lazylog_trace.specs.declared.action.Asked.{Asked}
use Rattle.lazylog_trace.specs.declared.action.Asked.TheVariants.{Line, Verdict}

-- The texts of what is shown, each with its newline.

-- events of the history
abbrev pub event_texts : List Event → List (List ℕ)
event_texts events = map (λ event. with_newline (event_text event)) events

-- a holder by its line, or by the shard that is lost. Of a line the law says that it is lawful: it is, after every
-- list of events
abbrev pub holder_said : Asked → ℕ → Result (List Entry) ℕ → List ℕ
holder_said Line holder (Ok line) = line_text holder line
holder_said Line holder (Err shard) = lost_text holder shard
holder_said Verdict holder (Ok line) = verdict_text holder Lawful
holder_said Verdict holder (Err shard) = lost_verdict_text holder shard

abbrev pub holder_text : WorldState → Asked → ℕ → List ℕ
holder_text w asked holder = with_newline (holder_said asked holder (line_told w holder))

-- these holders, who are all
abbrev pub holder_texts : WorldState → Asked → List ℕ → List (List ℕ)
holder_texts w asked [] = with_newline no_holder_text ∷ []
holder_texts w asked (holder ∷ others) = map (holder_text w asked) (holder ∷ others)

-- a message by its frame
abbrev pub frame_shown : Edition → ℕ → Option Envelope → List ℕ
frame_shown edition number None = refused_text (NoMessage number)
frame_shown edition number (Some message) = frame_text number message.from message.to (frame edition message)

abbrev pub message_shown : WorldState → ℕ → List ℕ
message_shown w number = frame_shown w.shape.edition number (message_at w number)
