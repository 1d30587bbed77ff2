use Rattle.std.proofs.Common.{◌≡◌, ◌≢◌, ◌<◌, ℕ, Some}
use Rattle.std.specs.Prelude.{slice_get}
use Rattle.lazy_msgs.specs.declared.msg.Msg.{Msg}
use Rattle.lazy_msgs.specs.declared.msg.Msg.TheVariants.{Claim}
use Rattle.diary_merge.proofs.numbers.place_of_claim.Given as goal

abbrev pub invariant-loop-at : goal.invariant-loop-at
invariant-loop-at l = (j : ℕ) (send : ℕ × Msg) → j < l.at → slice_get l.sends j ≡ Some send → send.1 ≢ Claim l.stable
