use Rattle.std.specs.Prelude.{ℕ, ◌+◌, List, [], None, if◌then◌else◌}
use Rattle.rec_id.specs.History.{asked_from}
use Rattle.rec_id.specs.declared.entry.Entry.{Entry}
use Rattle.rec_id.specs.declared.event.Ask.{Ask}
use Rattle.rec_id.specs.declared.event.Event.{Event}
use Rattle.view_config.specs.declared.config.Config.{Config}
use Rattle.lazy_msgs.specs.declared.msg.Msg.{Msg}
use Rattle.lazy_msgs.specs.Step.{Row}
use Rattle.lazy_rules.specs.ReaderRules.{answered, concludes, ends_trim, entries_in, falls_short, fetches_again, is_trim_complete, keeps_part, probes_all, trim_sends, with_part}
use Rattle.lazy_rules.specs.ReaderState.{ReaderState, Stage, Trimmer, Fetching, Probing, Trimming}
use Rattle.lazy_rules.specs.Rows.{sends_all, stays}
use Rattle.log_reader.specs.Rounds.{round_sends}
use Rattle.log_reader.specs.StageView.{stage_with_part}

-- a row that goes to another stage, and sends and tells this
abbrev pub turns : ReaderState → Stage → List (ℕ × Msg) → List Event → Row ReaderState
turns r stage sends events = record { next = record r { stage = stage }; sends = sends; events = events }

-- the same in another configuration
abbrev pub turns_in : ReaderState → Config → Stage → List (ℕ × Msg) → List Event → Row ReaderState
turns_in r config stage sends events = record { next = record r { config = config; stage = stage }; sends = sends; events = events }

-- the same of the next read or trim
abbrev pub begins_at : ReaderState → Stage → List (ℕ × Msg) → List Event → Row ReaderState
begins_at r stage sends events = record { next = record r { count = r.count + 1; stage = stage }; sends = sends; events = events }

-- Part, up to the end or further: what the stage makes of it
abbrev pub heeds_part : ReaderState → List (ℕ × Entry) → ℕ → Row ReaderState
heeds_part r entries shard = elim r.stage [
  | Fetching fetch ↦ keeps_part r fetch entries shard
  | _ ↦ stays r
]

-- Part of less
abbrev pub runs_short : ReaderState → Row ReaderState
runs_short r = elim r.stage [
  | Fetching fetch ↦ falls_short r fetch
  | _ ↦ stays r
]

-- the last part
abbrev pub answers_with : ReaderState → List (ℕ × Entry) → ℕ → Row ReaderState
answers_with r entries shard = elim r.stage [
  | Fetching fetch ↦ answered r fetch.number fetch.ask (entries_in (with_part fetch shard entries).parts (asked_from fetch.ask) fetch.end) fetch.tail
  | _ ↦ stays r
]

-- a part that isn't the last
abbrev pub keeps_on : ReaderState → List (ℕ × Entry) → ℕ → ReaderState
keeps_on r entries shard = record r { stage = stage_with_part r.stage shard entries }

-- a forced read goes on, once the tail is there
abbrev pub concludes_of : ReaderState → ℕ → Ask → ℕ → Row ReaderState
concludes_of r number ask tail = concludes r (record { number = number; ask = ask; acked = []; tail = None }) tail

-- a trim is over
abbrev pub ends_trim_of : ReaderState → ℕ → ℕ → Row ReaderState
ends_trim_of r number floor = ends_trim r (record { number = number; floor = floor; acked = [] })

-- ViewIs: the reader in a later view, by its stage
abbrev pub in_config : ReaderState → Config → ReaderState
in_config r config = record r { config = config }

abbrev pub moves_to : ReaderState → Config → List (ℕ × Msg) → Row ReaderState
moves_to r config sends = sends_all (in_config r config) sends

abbrev pub fetches_in : ReaderState → Config → Row ReaderState
fetches_in r config = elim r.stage [
  | Fetching fetch ↦ moves_to r config (round_sends fetch 0 config)
  | _ ↦ stays (in_config r config)
]

abbrev pub probes_in : ReaderState → Config → Row ReaderState
probes_in r config = elim r.stage [
  | Probing force ↦ probes_all (in_config r config) force.number force.ask
  | _ ↦ stays (in_config r config)
]

-- what a trim does in the reader's view
abbrev pub trims_on : ReaderState → Trimmer → Row ReaderState
trims_on r trimmer = if is_trim_complete r trimmer then ends_trim r trimmer else sends_all r (trim_sends r trimmer)

abbrev pub trims_in : ReaderState → Config → Row ReaderState
trims_in r config = elim r.stage [
  | Trimming trimmer ↦ trims_on (in_config r config) trimmer
  | _ ↦ stays (in_config r config)
]

-- Tick, while fetching
abbrev pub fetches_on : ReaderState → Row ReaderState
fetches_on r = elim r.stage [
  | Fetching fetch ↦ fetches_again r fetch
  | _ ↦ stays r
]
