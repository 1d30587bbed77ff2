use Rattle.worked_cases.proofs.Fours.{new_writers, new_readers}
use Rattle.worked_cases.proofs.boards.open.Goals as goal

pub returns-clause-writers : goal.returns-clause-writers
returns-clause-writers c = new_writers _ _ (c.in_ok-writers.ensures _ c.in_ok-keeper.ensures.writers_are)

pub returns-clause-readers : goal.returns-clause-readers
returns-clause-readers c = new_readers _ _ (c.in_ok-readers.ensures _ c.in_ok-keeper.ensures.readers_are)
