use Rattle.log_law.specs.Floors.{IsHighest}
use Rattle.log_law.proofs.floors.highest_floor.Given as goal

abbrev pub invariant-loop-j : goal.invariant-loop-j
invariant-loop-j l = IsHighest l.history l.j l.highest
