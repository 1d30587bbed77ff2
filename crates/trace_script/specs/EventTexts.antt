use Rattle.std.specs.Prelude.{ℕ, List, ◌++◌, Option, Some, None, codes, decimal}
use Rattle.rec_id.specs.Identity.{Identity}
use Rattle.rec_id.specs.declared.entry.Entry.{Entry}
use Rattle.rec_id.specs.declared.event.Ask.{Ask}
use Rattle.rec_id.specs.declared.event.Ask.TheVariants.{Range, Tail}
use Rattle.rec_id.specs.declared.event.Event.{Event}
use Rattle.rec_id.specs.declared.event.Event.TheVariants.{Invoke, Acked, Rejected, Begin, Answer, Seen, TrimAsk, TrimDone, Trimmed}
use Rattle.trace_script.specs.EntryTexts.{id_text, entry_text, parted}

-- a client's read
abbrev pub read_text : ℕ → ℕ → List ℕ → List ℕ
read_text client read rest = codes "c" ++ (decimal client ++ (codes " read " ++ (decimal read ++ rest)))

-- what was asked
abbrev pub ask_text : Ask → List ℕ
ask_text (Range from to) = decimal from ++ (codes " to " ++ decimal to)
ask_text (Tail from) = codes "from " ++ decimal from

-- a tail, where it was forced
abbrev pub tail_text : Option ℕ → List ℕ
tail_text None = codes "-"
tail_text (Some tail) = decimal tail

-- a client's read or trim, what became of it, and the floor
abbrev pub floor_text : ℕ → List ℕ → ℕ → List ℕ → ℕ → List ℕ
floor_text client kind read what floor =
    codes "c" ++ (decimal client ++ (codes " " ++ (kind ++ (codes " " ++ (decimal read ++ (codes " " ++ (what ++ (codes ": below " ++ decimal floor))))))))

-- an answered read, and what a client sees of a claim
abbrev pub answer_text : ℕ → ℕ → ℕ → List Entry → Option ℕ → List ℕ
answer_text client read from entries tail =
    read_text client read (codes " answered: from " ++ (decimal from ++ (codes ", tail " ++ (tail_text tail ++ (codes ": " ++ parted entry_text entries)))))

abbrev pub seen_text : ℕ → ℕ → List Identity → List ℕ
seen_text client from ids = codes "c" ++ (decimal client ++ (codes " seen " ++ (decimal from ++ (codes ": " ++ parted id_text ids))))

-- an event of a history
abbrev pub event_text : Event → List ℕ
event_text (Invoke id bytes) = id_text id ++ codes " invoked"
event_text (Acked id) = id_text id ++ codes " acked"
event_text (Rejected id place) = id_text id ++ (codes " rejected at " ++ decimal place)
event_text (Begin client read ask) = read_text client read (codes " begun: " ++ ask_text ask)
event_text (Answer client read from entries tail) = answer_text client read from entries tail
event_text (Seen client from ids) = seen_text client from ids
event_text (TrimAsk client read floor) = floor_text client (codes "trim") read (codes "begun") floor
event_text (TrimDone client read floor) = floor_text client (codes "trim") read (codes "done") floor
event_text (Trimmed client read floor) = floor_text client (codes "read") read (codes "trimmed") floor
