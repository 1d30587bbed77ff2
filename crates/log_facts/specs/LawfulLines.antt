use Rattle.std.specs.Prelude.{◌≡◌, ℕ, List, Ok}
use Rattle.list_facts.specs.Lists.{In}
use Rattle.rec_id.specs.Lawful.{Lawful}
use Rattle.rec_id.specs.declared.entry.Entry.{Entry}
use Rattle.view_config.specs.Shape.{Dimensions}
use Rattle.lazy_msgs.specs.declared.input.WorldEvent.{WorldEvent}
use Rattle.lazy_rules.specs.Holders.{holders}
use Rattle.lazy_rules.specs.Lines.{line_told}
use Rattle.lazy_rules.specs.WorldState.{WorldState}
use Rattle.world_facts.specs.Reached.{reached}
use Rattle.log_facts.specs.Good.{AllRows}
use Rattle.log_facts.specs.Promises.{PromisesKept}

-- the line of each holder that isn't lost is lawful for what the clients did and were told
abbrev pub AreLinesLawful : WorldState → Type 0
AreLinesLawful w = (holder : ℕ) (line : List Entry) → In holder (holders w) → line_told w holder ≡ Ok line → Lawful w.history line

-- where all rows are good, that holds after every list of events
abbrev pub GoodRowsKeepLines : Dimensions → Type 0
GoodRowsKeepLines shape = AllRows shape → (events : List WorldEvent) → AreLinesLawful (reached shape events)

-- and so is what is promised of replicas
abbrev pub GoodRowsKeepPromises : Dimensions → Type 0
GoodRowsKeepPromises shape = AllRows shape → (events : List WorldEvent) → PromisesKept (reached shape events)
