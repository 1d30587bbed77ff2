use Rattle.all_rows.proofs.Rows.{all_rows}
use Rattle.all_rows.proofs.every_row.every_row_is_good.Goals as goal

pub returns : goal.returns
returns c = all_rows
