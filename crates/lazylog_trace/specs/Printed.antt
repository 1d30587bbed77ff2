use Rattle.std.specs.Prelude.{◌≡◌, ◌≢◌, ℕ, List, [], ◌∷◌, ◌++◌, filter, Bool, false, ◌==◌, if◌then◌else◌, Option}
use Rattle.std.specs.Io.KnownBytes.{append_known}
use Rattle.rec_id.specs.declared.event.Event.{Event}
use Rattle.io_edges.specs.Telling.{Stops}
use Rattle.io_edges.specs.declared.status.Status.{Status}
use Rattle.io_edges.specs.declared.status.Status.TheVariants.{WriteFault}
use Rattle.lazylog_trace.specs.Shown.{event_texts}

-- What was printed is the history: the events among the texts that were written.

-- bytes behind the last newline are a text of their own
abbrev pub last_of : List ℕ → List (List ℕ)
last_of [] = []
last_of (byte ∷ bytes) = (byte ∷ bytes) ∷ []

-- the texts among these bytes, each with its newline, where `text` was read of the first one already
abbrev pub texts_from : List ℕ → List ℕ → List (List ℕ)
texts_from text [] = last_of text
texts_from text (byte ∷ bytes) = if byte == 10 then (text ++ byte ∷ []) ∷ texts_from [] bytes else texts_from (text ++ byte ∷ []) bytes

abbrev pub texts_of : List ℕ → List (List ℕ)
texts_of bytes = texts_from [] bytes

-- a text that prints an event begins with the name of a client
abbrev pub is_event_text : List ℕ → Bool
is_event_text [] = false
is_event_text (byte ∷ bytes) = byte == 99

-- the texts that print an event are those of this history, each once and in order
pub record Prints (printed : List ℕ) (history : List Event) : Type 0 where
  pub events_are : filter is_event_text (texts_of printed) ≡ event_texts history

-- what was written prints this history; it is a front of what does where a write failed
pub record Shows (before after : Option (List ℕ)) (history : List Event) (status : Status) : Type 0 where
  pub text : List ℕ
  pub prints : Prints text history
  pub whole : status ≢ WriteFault → after ≡ append_known before text
  pub front : Stops before after text
