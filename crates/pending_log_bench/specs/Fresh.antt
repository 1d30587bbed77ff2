use Rattle.std.specs.Prelude.{ℕ, ◌≡◌, ◌≤◌, false}
use Rattle.pending_log.specs.Pending.{Pending, has_item}

-- no item of the first client has this number or one above it
pub record IsFresh (next : ℕ) (log : Pending) : Type 0 where
  pub absent : (number : ℕ) → next ≤ number → has_item log.items (record { client = 0; number = number }) ≡ false
