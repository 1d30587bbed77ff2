use Rattle.std.proofs.Common.{arith}
use Rattle.seen_window.proofs.WiderMarks.{all_ones, some_ones}
use Rattle.seen_window.proofs.wider.ones_below.Goals as goal

pub returns-then-top-from-ge64 : goal.returns-then-top-from-ge64
returns-then-top-from-ge64 c k low = all_ones c.args.i k c.args.top low (omega arith)

pub returns-else-top-from-ge64 : goal.returns-else-top-from-ge64
returns-else-top-from-ge64 c k low = some_ones c.args.i k c.args.top low (omega arith)
