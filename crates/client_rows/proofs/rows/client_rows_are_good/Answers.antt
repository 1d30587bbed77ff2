use Rattle.client_rows.proofs.AllInputs.{client_rows}
use Rattle.client_rows.proofs.rows.client_rows_are_good.Goals as goal

pub returns : goal.returns
returns c = client_rows
