use Rattle.std.specs.Prelude.{ℕ, Option, Some, option_map}
use Rattle.rec_id.specs.Identity.{Identity}
use Rattle.rec_id.specs.History.{Read, invoked_id, finished_id, begun_read, ended_read, asked_trim, done_trim}
use Rattle.rec_id.specs.Line.{named_id, appended_id}
use Rattle.rec_id.specs.declared.entry.Entry.{Entry}
use Rattle.rec_id.specs.declared.event.Event.{Event}
use Rattle.log_law.specs.declared.told.Told.{Told}
use Rattle.log_law.specs.declared.told.Told.TheVariants.{Invoked, Finished, Begun, Ended, Asked, Done}
use Rattle.log_law.specs.declared.told.Names.{Names}
use Rattle.log_law.specs.declared.told.Names.TheVariants.{All, Appended}

abbrev pub id_key : Identity → ℕ × ℕ
id_key id = (id.client, id.number)

abbrev pub read_key : Read → ℕ × ℕ
read_key read = (read.client, read.number)

abbrev pub trim_key : Read × ℕ → ℕ × ℕ
trim_key asked = read_key asked.0

-- the key of what an event tells of this kind
abbrev pub event_key : Told → Event → Option (ℕ × ℕ)
event_key Invoked event = option_map id_key (invoked_id event)
event_key Finished event = option_map id_key (finished_id event)
event_key Begun event = option_map read_key (begun_read event)
event_key Ended event = option_map read_key (ended_read event)
event_key Asked event = option_map trim_key (asked_trim event)
event_key Done event = option_map read_key (done_trim event)

-- the key of what an entry names
abbrev pub entry_key : Names → Entry → Option (ℕ × ℕ)
entry_key All entry = option_map id_key (Some (named_id entry))
entry_key Appended entry = option_map id_key (appended_id entry)
