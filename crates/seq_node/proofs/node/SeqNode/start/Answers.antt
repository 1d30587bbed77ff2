use Rattle.seq_node.proofs.Sends.{starts_is}
use Rattle.seq_node.proofs.node.SeqNode.start.Goals as goal

pub returns : goal.returns
returns c = rw (starts_is c.args.self.now c.args.config.now c.args.base c.args.sender c.args.window.now) c.enter.ensures
