use Rattle.lazy_core.proofs.ClientTakes.{for_reads, reads_take}
use Rattle.lazy_core.proofs.client_step.take.Goals as goal

pub returns-in_default : goal.returns-in_default
returns-in_default c =
    reads_take c.args.appends.now c.args.reads.now c.args.input.now c.args.out.now c.args.envelope.now c.requires c.step.new.out c.step.result c.step.new.self
    (for_reads c.args.envelope.now.msg c.in_default.not-AppendAck c.in_default.not-DataAck c.in_default.not-Rejected c.in_default.not-ViewIs) c.step.ensures
