use Rattle.trace_script.specs.Words.{cut_by}
use Rattle.trace_script.proofs.Sayable.{read_sayable}
use Rattle.trace_script.proofs.script_line.read_line.Goals as goal

pub returns-clause-sayable : goal.returns-clause-sayable
returns-clause-sayable c = read_sayable (cut_by 32 c.args.line.now).0 (cut_by 32 c.args.line.now).1 c.read_said.result c.read_said.ensures.said
