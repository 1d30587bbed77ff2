use Rattle.std.specs.Prelude.{ℕ, ◌-◌, List, [], map, Option, None, Some, slice_index_or, slice_set, nat_lt, if◌then◌else◌, unwrap_or}
use Rattle.std.specs.List.{range_with_len}
use Rattle.std.specs.Option.{is_none}
use Rattle.rec_id.specs.History.{asked_from}
use Rattle.rec_id.specs.declared.entry.Entry.{Entry}
use Rattle.lazy_rules.specs.ReaderRules.{entry_at, told_by_all, with_part}
use Rattle.lazy_rules.specs.ReaderState.{Fetch}

-- entries with their places, as shards tell them
abbrev pub Told : Type 0
Told = List (ℕ × Entry)

-- the entry that was told of each of so many places, the first place being this
abbrev pub by_place : List (ℕ × Entry) → ℕ → ℕ → List (Option Entry)
by_place told from count = map (entry_at told) (range_with_len from count)

-- the slots of a fetch, once this shard told this
abbrev pub slots_with : Fetch → ℕ → Told → ℕ → List (Option Entry)
slots_with fetch shard entries count = by_place (told_by_all (with_part fetch shard entries).parts) (asked_from fetch.ask) count

-- the slots of the places from this one on, with one more entry where it has a slot that is empty
abbrev pub with_entry : List (Option Entry) → ℕ → ℕ × Entry → List (Option Entry)
with_entry slots from placed =
    if nat_lt placed.0 from then slots
    else (if is_none (slice_index_or slots (placed.0 - from) None) then slice_set slots (placed.0 - from) (Some placed.1) else slots)

-- what a shard told, nothing where it didn't
abbrev pub told_by : List (Option (List (ℕ × Entry))) → ℕ → List (ℕ × Entry)
told_by parts shard = unwrap_or (slice_index_or parts shard None) []
