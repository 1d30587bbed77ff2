use Rattle.std.proofs.Common.{◌≡◌, ◌≢◌, ◌<◌, ℕ, Some}
use Rattle.std.specs.Prelude.{slice_get}
use Rattle.lazy_msgs.specs.declared.msg.Msg.{Msg}
use Rattle.diary_merge.proofs.numbers.place_of_send.Given as goal

abbrev pub invariant-loop-at : goal.invariant-loop-at
invariant-loop-at l = (j : ℕ) (send : ℕ × Msg) → j < l.at → slice_get l.sends j ≡ Some send → send ≢ (l.to, l.msg)
