use Rattle.std.proofs.Common.{subst, arith}
use Rattle.load_gen.specs.Loading.{IsUnderWay}
use Rattle.load_gen.proofs.Countable.{countable}
use Rattle.load_gen.proofs.load.Load.world.Goals as goal

pub returns-clause-countable : goal.returns-clause-countable
returns-clause-countable c =
    let l = c.args.self.now in
    let way : IsUnderWay l = subst IsUnderWay c.self.view_is c.self.invariant in
    let counted = way.counted in
    let few = way.few in
    countable l.world way.led (omega arith)
