use Rattle.all_rows.proofs.Everywhere.{lines_lawful}
use Rattle.all_rows.proofs.Rows.{all_rows}
use Rattle.all_rows.proofs.safety.every_line_is_lawful.Goals as goal

pub returns : goal.returns
returns c = lines_lawful all_rows
