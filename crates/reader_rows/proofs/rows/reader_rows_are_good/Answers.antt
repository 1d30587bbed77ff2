use Rattle.reader_rows.proofs.AllInputs.{reader_rows, seen_rows}
use Rattle.reader_rows.proofs.rows.reader_rows_are_good.Goals as goal

pub returns-clause-rows : goal.returns-clause-rows
returns-clause-rows c = reader_rows

pub returns-clause-seen : goal.returns-clause-seen
returns-clause-seen c = seen_rows
