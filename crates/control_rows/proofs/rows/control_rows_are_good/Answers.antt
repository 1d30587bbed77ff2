use Rattle.control_rows.proofs.AllInputs.{control_rows}
use Rattle.control_rows.proofs.rows.control_rows_are_good.Goals as goal

pub returns : goal.returns
returns c = control_rows
