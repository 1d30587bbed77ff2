use Rattle.log_facts.proofs.lines.Safety.{lines_of_run}
use Rattle.log_facts.proofs.safety.good_rows_keep_lines_lawful.Goals as goal

pub returns : goal.returns
returns c = lines_of_run
