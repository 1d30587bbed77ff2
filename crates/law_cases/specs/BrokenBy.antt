use Rattle.std.specs.Prelude.{◌≢◌, List}
use Rattle.rec_id.specs.Verdict.{Clause, IsMet}
use Rattle.rec_id.specs.declared.entry.Entry.{Entry}
use Rattle.rec_id.specs.declared.event.Event.{Event}

-- of the nine clauses this one is broken, and no other
pub record BrokenBy (clause : Clause) (history : List Event) (line : List Entry) : Type 0 where
  pub broken : ¬ IsMet clause history line
  pub others : (other : Clause) → other ≢ clause → IsMet other history line
