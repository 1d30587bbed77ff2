use Rattle.std.specs.Prelude.{ℕ, ◌+◌}
use Rattle.rec_id.specs.declared.event.Ask.{Ask}
use Rattle.rec_id.specs.declared.event.Event.{Event}
use Rattle.rec_id.specs.declared.event.Event.TheVariants.{Begin, TrimAsk}
use Rattle.lazy_rules.specs.ReaderState.{ReaderState}

-- the next read begins
abbrev pub begun : ReaderState → Ask → Event
begun r ask = Begin r.client (r.count + 1) ask

-- the next trim begins
abbrev pub begun_trim : ReaderState → ℕ → Event
begun_trim r floor = TrimAsk r.client (r.count + 1) floor
