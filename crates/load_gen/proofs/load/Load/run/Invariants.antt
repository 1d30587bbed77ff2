use Rattle.std.proofs.Common.{◌-◌}
use Rattle.load_gen.specs.Loading.{many_steps}
use Rattle.load_gen.proofs.Making.{Leads}
use Rattle.load_gen.proofs.load.Load.run.Given as goal

-- the steps so far lead to here, and the rest from here to where all lead
abbrev pub invariant-loop-i : goal.invariant-loop-i
invariant-loop-i l = Leads (many_steps l.left l.fn.self) l.fn.self l.self (l.left - l._i)
