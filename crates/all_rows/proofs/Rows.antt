-- All rows of all roles.
use Rattle.view_config.specs.Shape.{Dimensions}
use Rattle.log_facts.specs.Good.{AllRows}
use Rattle.client_rows.proofs.AllInputs.{client_rows}
use Rattle.control_rows.proofs.AllInputs.{control_rows}
use Rattle.reader_rows.proofs.AllInputs.{reader_rows, seen_rows}
use Rattle.seq_rows.proofs.AllInputs.{seq_rows}
use Rattle.shard_rows.proofs.AllInputs.{shard_rows}

pub all_rows : (shape : Dimensions) → AllRows shape
all_rows shape = record {
  seqs = seq_rows shape;
  shards = shard_rows shape;
  clients = client_rows shape;
  readers = reader_rows shape;
  control = control_rows shape;
  seen = seen_rows shape;
}
