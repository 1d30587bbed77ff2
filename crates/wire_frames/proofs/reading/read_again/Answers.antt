use Rattle.std.proofs.Common.{◌∙◌}
use Rattle.wire_frames.proofs.FoundFrame.{is_same}
use Rattle.wire_frames.proofs.reading.read_again.Goals as goal

pub returns-clause-same : goal.returns-clause-same
returns-clause-same c = is_same c.as_slice.result.now c.decode.result c.args.edition c.args.env.now c.requires (c.as_slice.ensures ∙ c.in_ok-frame.ensures) c.decode.ensures.form
