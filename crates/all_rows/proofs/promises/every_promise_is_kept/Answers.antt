use Rattle.all_rows.proofs.Everywhere.{promises_kept}
use Rattle.all_rows.proofs.Rows.{all_rows}
use Rattle.all_rows.proofs.promises.every_promise_is_kept.Goals as goal

pub returns : goal.returns
returns c = promises_kept all_rows
