use Rattle.rec_id.proofs.Slices.{slice_of}
use Rattle.rec_id.proofs.bytes.Bytes.narrow.Goals as goal

pub returns : goal.returns
returns c = slice_of c.self.inside.start c.self.inside.end c.args.at c.args.len _ _ c.self.view_is c.self.invariant.0 c.self.invariant.1 c.requires
