use Rattle.seq_rows.proofs.AllInputs.{seq_rows}
use Rattle.seq_rows.proofs.rows.seq_rows_are_good.Goals as goal

pub returns : goal.returns
returns c = seq_rows
