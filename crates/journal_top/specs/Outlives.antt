-- What outlives the power, whatever lines were taken.
use Rattle.std.specs.Prelude.{◌≡◌, ℕ, ◌≤◌, List, IfOk}
use Rattle.lazy_rules.specs.Store.{part}
use Rattle.journal_top.specs.declared.words.Shard.{Shard}
use Rattle.journal_top.specs.Output.{lines_output}
use Rattle.journal_top.specs.Rules.{ToolState, start}
use Rattle.journal_top.specs.Sound.{HoldsMore, HoldsTo}

-- The file that is left where the power goes off stands for what is kept and nothing else. The file as it reads stands for
-- that too, or for that and final entries more, of a keep that met a fault.
pub record Outlives (t : ToolState) : Type 0 where
  pub left : HoldsTo t.store t.disk.synced t.kept
  pub reads : HoldsMore t.store t.kept t.disk.bytes

-- what was kept is kept later, with the same entries
pub record StaysKept (before after : ToolState) : Type 0 where
  pub least : before.kept ≤ after.kept
  pub same : part after.store 0 before.kept ≡ part before.store 0 before.kept

-- After any lines what is kept outlives the power, and no lines behind them lose any of it. Among the lines are those by
-- which the disk stops at a device call inside a keep, and those by which the file is opened.
abbrev pub LosesNothing : Shard → Type 0
LosesNothing shard = (lines more : List (List ℕ)) → IfOk (lines_output (start shard) lines).now (λ t. Outlives t × IfOk (lines_output t more).now (StaysKept t))
