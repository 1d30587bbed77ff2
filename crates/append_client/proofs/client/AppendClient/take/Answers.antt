use Rattle.std.proofs.Common.{ap}
use Rattle.lazy_rules.specs.ClientRules.{client_row}
use Rattle.append_client.proofs.Rows.{ignored}
use Rattle.append_client.proofs.client.AppendClient.take.Goals as goal

pub returns-in-Flush : goal.returns-in-Flush
returns-in-Flush c = ignored c.args.self.now c.args.sender c.args.msg.now c.args.out.now (ap (client_row c.args.self.now c.args.sender) c.in-Flush.is)

pub returns-in-FlushCopy : goal.returns-in-FlushCopy
returns-in-FlushCopy c = ignored c.args.self.now c.args.sender c.args.msg.now c.args.out.now (ap (client_row c.args.self.now c.args.sender) c.in-FlushCopy.is)

pub returns-in-Sealed : goal.returns-in-Sealed
returns-in-Sealed c = ignored c.args.self.now c.args.sender c.args.msg.now c.args.out.now (ap (client_row c.args.self.now c.args.sender) c.in-Sealed.is)

pub returns-in-NewView : goal.returns-in-NewView
returns-in-NewView c = ignored c.args.self.now c.args.sender c.args.msg.now c.args.out.now (ap (client_row c.args.self.now c.args.sender) c.in-NewView.is)
