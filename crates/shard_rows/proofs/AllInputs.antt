-- All rows of shard replicas.
use Rattle.view_config.specs.Shape.{Dimensions}
use Rattle.log_facts.specs.Good.{ShardRows}
use Rattle.shard_rows.proofs.Copied.{copied_good}
use Rattle.shard_rows.proofs.Copy.{copy_good}
use Rattle.shard_rows.proofs.Fetch.{fetch_good}
use Rattle.shard_rows.proofs.Flush.{flush_good}
use Rattle.shard_rows.proofs.FlushCopy.{flush_copy_good}
use Rattle.shard_rows.proofs.Grace.{grace_good}
use Rattle.shard_rows.proofs.Place.{place_good}
use Rattle.shard_rows.proofs.Put.{put_good}
use Rattle.shard_rows.proofs.Stable.{stable_good}
use Rattle.shard_rows.proofs.Trim.{trim_good}

pub shard_rows : (shape : Dimensions) → ShardRows shape
shard_rows shape = record {
  place = λ view from items g a sender me moment node heard. place_good shape g a sender me view from items moment node heard;
  copy = λ view from cells g a sender me moment node heard. copy_good shape g a sender me view from cells moment node heard;
  copied = λ view upto g a sender me moment node heard. copied_good shape g a sender me view upto moment node heard;
  stable = λ view upto g a sender me moment node heard. stable_good shape g a me moment view upto heard.said;
  put = λ id bytes g a sender me moment node heard. put_good shape g a me moment node sender id bytes heard.said;
  fetch = λ read from end g a sender me moment node heard. fetch_good shape g a me moment node sender read from end heard.said;
  flush = λ config from items g a sender me moment node heard. flush_good shape g a sender me config from items moment node heard;
  flush_copy = λ view from cells g a sender me moment node heard. flush_copy_good shape g a sender me view from cells moment node heard;
  trim = λ read floor g a sender me moment node heard. trim_good shape g a me moment sender read floor heard.said;
  grace = λ g a me moment node. grace_good shape g a me moment node;
}
