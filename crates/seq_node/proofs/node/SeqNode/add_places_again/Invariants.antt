use Rattle.std.proofs.Common.{◌≡◌, ◌++◌, drop, Some}
use Rattle.std.specs.Prelude.{slice_get}
use Rattle.lazy_rules.specs.Flight.{Batch}
use Rattle.lazy_rules.specs.Leading.{place_sends, place_to}
use Rattle.lazy_rules.specs.Rows.{each_numbered}
use Rattle.seq_node.proofs.node.SeqNode.add_places_again.Given as goal

abbrev pub invariant-loop-shard : goal.invariant-loop-shard
invariant-loop-shard l =
    (batch : Batch) → slice_get l.fn.self.flight l.i ≡ Some batch
    → l.sends ++ each_numbered (place_to l.fn.self batch) l.shard (drop l.shard l.fn.self.config.shards) ≡ l.fn.sends ++ place_sends l.fn.self batch
