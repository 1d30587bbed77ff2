use Rattle.std.specs.Prelude.{◌≡◌, List, Some, slice_get}
use Rattle.rec_id.specs.Line.{IsAppended}
use Rattle.rec_id.specs.declared.entry.Entry.{Entry}
use Rattle.rec_id.specs.declared.entry.Entry.TheVariants.{Noop}
use Rattle.rec_id.specs.declared.event.Event.{Event}
use Rattle.rec_id.specs.declared.event.Event.TheVariants.{Acked, Rejected}

-- the line has what the event tells of an append that ended
abbrev pub StandsAsTold : List Entry → Event → Type 0
StandsAsTold line (Acked id) = IsAppended line id
StandsAsTold line (Rejected id place) = slice_get line place ≡ Some (Noop id)
StandsAsTold line _ = Unit {0}
