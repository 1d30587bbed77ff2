use Rattle.std.proofs.Common.{arith}
use Rattle.wire_frames.proofs.FoundFrame.{is_form, is_no_form}
use Rattle.wire_frames.proofs.reading.decode.Goals as goal

pub returns-clause-form : goal.returns-clause-form
returns-clause-form c = is_form c.args.bytes.now c.whole_of.result (λ i. omega (arith, c.type_inv.bytes i)) c.whole_of.ensures.found

pub returns-clause-no_form : goal.returns-clause-no_form
returns-clause-no_form c = is_no_form c.args.bytes.now c.whole_of.result c.whole_of.ensures.offence
