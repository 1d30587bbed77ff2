use Rattle.all_rows.proofs.Everywhere.{records_told}
use Rattle.all_rows.proofs.Rows.{all_rows}
use Rattle.all_rows.proofs.records.every_told_record_was_appended.Goals as goal

pub returns : goal.returns
returns c = records_told all_rows
