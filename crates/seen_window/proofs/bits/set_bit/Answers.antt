use Rattle.seen_window.proofs.BitLemmas.{bit_of-set}
use Rattle.seen_window.proofs.bits.set_bit.Goals as goal

pub returns-then-i-bits : goal.returns-then-i-bits
returns-then-i-bits c j inside = bit_of-set c.args.bits.now c.args.i j c.if-i-bits.true
