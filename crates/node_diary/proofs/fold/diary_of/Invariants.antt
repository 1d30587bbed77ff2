use Rattle.std.proofs.Common.{◌≡◌, drop}
use Rattle.std.specs.Prelude.{◌==◌, find}
use Rattle.lazy_msgs.specs.declared.diary.Diary.{Diary}
use Rattle.node_diary.proofs.fold.diary_of.Given as goal

-- those before are of other nodes
abbrev pub invariant-loop-diary : goal.invariant-loop-diary
invariant-loop-diary l = find (λ (diary : Diary). diary.node == l.node) (drop l.diary-index l.diaries) ≡ find (λ (diary : Diary). diary.node == l.node) l.diaries
