use Rattle.trace_script.proofs.Sayable.{sayable}
use Rattle.trace_script.proofs.laws.commands_are_sayable.Goals as goal

pub returns : goal.returns
returns c = sayable
