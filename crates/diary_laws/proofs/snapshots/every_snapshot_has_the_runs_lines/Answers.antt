use Rattle.diary_laws.proofs.holding.Same.{snapshot_alike}
use Rattle.diary_laws.proofs.snapshots.every_snapshot_has_the_runs_lines.Goals as goal

pub returns : goal.returns
returns c shape diaries formed are merged events lived w snap = snapshot_alike shape formed diaries are merged events lived w snap
