use Rattle.worked_cases.specs.Fours.{IsSameReader}
use Rattle.worked_cases.proofs.boards.look.Given as goal

abbrev pub invariant-loop-peek : goal.invariant-loop-peek
invariant-loop-peek l = IsSameReader l.fn.peeker l.peeker
