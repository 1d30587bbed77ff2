use Rattle.shard_rows.proofs.AllInputs.{shard_rows}
use Rattle.shard_rows.proofs.rows.shard_rows_are_good.Goals as goal

pub returns : goal.returns
returns c = shard_rows
