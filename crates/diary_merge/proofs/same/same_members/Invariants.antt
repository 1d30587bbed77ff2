use Rattle.std.proofs.Common.{◌≡◌, take}
use Rattle.diary_merge.proofs.same.same_members.Given as goal

abbrev pub invariant-loop-i : goal.invariant-loop-i
invariant-loop-i g l = take l.i l.members ≡ take l.i l.others
