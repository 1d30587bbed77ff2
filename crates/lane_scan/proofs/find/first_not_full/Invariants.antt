use Rattle.std.proofs.Common.{◌-◌, ◌^◌, not, eqb, length}
use Rattle.lane_scan.proofs.First.{NoneBelow}
use Rattle.lane_scan.proofs.find.first_not_full.Given as goal

abbrev pub invariant-lanes : goal.invariant-lanes
invariant-lanes l = NoneBelow (λ other. not (eqb other (2 ^ 64 - 1))) l.words l.at

abbrev pub decreases-lanes : goal.decreases-lanes
decreases-lanes l = length l.initial.words - l.at

abbrev pub invariant-rest : goal.invariant-rest
invariant-rest l = NoneBelow (λ other. not (eqb other (2 ^ 64 - 1))) l.words l.at

abbrev pub decreases-rest : goal.decreases-rest
decreases-rest l = length l.initial.words - l.at
