use Rattle.std.proofs.Common.{◌≡◌, ◌≤◌, ◌<◌, ◌-◌, ℕ, Some}
use Rattle.rec_id.specs.History.{asked_trim, told_at}
use Rattle.log_law.specs.Keys.{key_at}
use Rattle.log_law.specs.Reads.{read_of}
use Rattle.log_law.proofs.trims.next_ask.Given as goal

abbrev pub invariant-loop-n : goal.invariant-loop-n
invariant-loop-n l = record {
  after : l.i ≤ l.n;
  stands : l.n < l.j → key_at l.asked l.n ≡ Some l.key;
  none : (k : ℕ) → l.i ≤ k → k < l.n → k < l.j → told_at asked_trim l.history k ≡ Some (read_of l.key, l.floor) → ⊥;
}

abbrev pub decreases-loop-n : goal.decreases-loop-n
decreases-loop-n l = l.j - l.n
