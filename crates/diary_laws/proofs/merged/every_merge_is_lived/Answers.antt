use Rattle.diary_laws.proofs.runs.Merged.{lived, merge_lived}
use Rattle.diary_laws.proofs.merged.every_merge_is_lived.Goals as goal

pub returns-clause-merge : goal.returns-clause-merge
returns-clause-merge c shape diaries whole events is = merge_lived shape diaries events is whole.are whole.closed

pub returns-clause-numbered : goal.returns-clause-numbered
returns-clause-numbered c shape diaries whole merged events is become = lived shape diaries whole.are whole.closed merged is events become
