use Rattle.log_facts.proofs.lines.Safety.{promises_of_run}
use Rattle.log_facts.proofs.safety.good_rows_keep_promises.Goals as goal

pub returns : goal.returns
returns c = promises_of_run
