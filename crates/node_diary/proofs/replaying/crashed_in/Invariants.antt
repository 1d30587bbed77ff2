use Rattle.std.proofs.Common.{◌≡◌, ◌++◌, drop}
use Rattle.node_diary.specs.Folding.{crashed_in}
use Rattle.node_diary.proofs.replaying.crashed_in.Given as goal

abbrev pub invariant-loop-diary : goal.invariant-loop-diary
invariant-loop-diary l = l.nodes ++ crashed_in (drop l.diary-index l.diaries) ≡ crashed_in l.diaries
