-- After every list of events, where all rows are good: the lines of all spared holders are lawful, and what is promised
-- of replicas is kept.
use Rattle.view_config.specs.Shape.{Dimensions, IsShape}
use Rattle.world_facts.specs.Reached.{reached}
use Rattle.world_facts.proofs.Runs.{form_of_run}
use Rattle.world_facts.proofs.goes.All.{members_of_run}
use Rattle.log_facts.specs.LawfulLines.{GoodRowsKeepLines, GoodRowsKeepPromises}
use Rattle.log_facts.proofs.lines.Spared.{spared_lines_lawful}
use Rattle.log_facts.proofs.promises.All.{promises_kept}
use Rattle.log_facts.proofs.worlds.Run.{kept_of_run}

pub lines_of_run : (shape : Dimensions) → IsShape shape → GoodRowsKeepLines shape
lines_of_run shape formed rows events =
    spared_lines_lawful shape (reached shape events) formed (form_of_run shape events).shaped (members_of_run shape events formed).control.phase (kept_of_run shape rows formed events)

pub promises_of_run : (shape : Dimensions) → IsShape shape → GoodRowsKeepPromises shape
promises_of_run shape formed rows events =
    let members = members_of_run shape events formed in
    promises_kept shape (reached shape events) formed (form_of_run shape events).shaped members.control.phase members.sent (kept_of_run shape rows formed events)
