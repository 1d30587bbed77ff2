use Rattle.std.proofs.Common.{◌≡◌, ◌++◌, drop}
use Rattle.diary_merge.specs.Acts.{acts_at, starts_from}
use Rattle.diary_merge.proofs.numbers.starts_of.Given as goal

abbrev pub invariant-loop-i : goal.invariant-loop-i
invariant-loop-i l = l.starts.items ++ starts_from l.sent (drop l.i (acts_at l.diaries l.places)) ≡ starts_from 0 (acts_at l.diaries l.places)
