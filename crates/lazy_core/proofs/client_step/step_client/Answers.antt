use Rattle.std.proofs.Common.{sym}
use Rattle.lazy_core.specs.NodeStep.{halves_of}
use Rattle.lazy_core.proofs.client_step.step_client.Goals as goal

pub returns-in-Peek : goal.returns-in-Peek
returns-in-Peek c = rw c.in-Peek.is (c.see.ensures (halves_of c.args.appends.now c.args.reads.now) (sym c.client.ensures.is))
