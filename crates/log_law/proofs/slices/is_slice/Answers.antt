use Rattle.log_law.proofs.Slicing.{slice_decides}
use Rattle.log_law.proofs.slices.is_slice.Goals as goal

pub returns-in-Some : goal.returns-in-Some
returns-in-Some c =
    slice_decides c.args.history.now c.args.line.now c.args.j _ c.args.from c.args.entries.now c.args.tail c.in-Some.ask c.are_told.result c.in-Some.ensures (c.fits_ask.ensures.0 c.if-not-fits_ask.false) c.are_told.ensures
