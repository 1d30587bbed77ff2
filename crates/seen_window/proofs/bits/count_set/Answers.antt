use Rattle.std.proofs.Common.{◌∙◌}
use Rattle.seen_window.proofs.MarkedCounts.{digits_are}
use Rattle.seen_window.proofs.bits.count_set.Goals as goal

pub returns : goal.returns
returns c = c.count_bits.ensures ∙ digits_are c.args.bits.now c.type_inv.bits
