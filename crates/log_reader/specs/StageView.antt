use Rattle.std.specs.Prelude.{ℕ, ◌+◌, ◌^◌, List, nat_lt, if◌then◌else◌}
use Rattle.rec_id.specs.declared.entry.Entry.{Entry}
use Rattle.lazy_rules.specs.ReaderRules.{with_part, with_turn}
use Rattle.lazy_rules.specs.ReaderState.{Stage, Idle, Fetching, Probing, Trimming}
use Rattle.log_reader.specs.declared.stage.Stage.{Stage as StageInCode}
use Rattle.log_reader.specs.declared.stage.Stage.TheVariants.{Idle as IdleInCode, Fetching as FetchingInCode, Probing as ProbingInCode, Trimming as TrimmingInCode}

-- the stage, as the rules have it
abbrev pub stage_of : StageInCode → Stage
stage_of IdleInCode = Idle
stage_of (FetchingInCode fetch) = Fetching fetch
stage_of (ProbingInCode force) = Probing force
stage_of (TrimmingInCode trimmer) = Trimming trimmer

-- a read that is fetching was told this part of a shard
abbrev pub stage_with_part : Stage → ℕ → List (ℕ × Entry) → Stage
stage_with_part Idle shard entries = Idle
stage_with_part (Fetching fetch) shard entries = Fetching (with_part fetch shard entries)
stage_with_part (Probing force) shard entries = Probing force
stage_with_part (Trimming trimmer) shard entries = Trimming trimmer

-- a read that is fetching asks once more, unless its turns are spent
abbrev pub stage_with_turn : Stage → Stage
stage_with_turn Idle = Idle
stage_with_turn (Fetching fetch) = Fetching (if nat_lt (fetch.turn + 1) (2 ^ 32) then with_turn fetch else fetch)
stage_with_turn (Probing force) = Probing force
stage_with_turn (Trimming trimmer) = Trimming trimmer
