use Rattle.std.proofs.Common.{◌≡◌, ◌≤◌, length, Some, ◌∙◌, ap, sym, arith}
use Rattle.lazy_core.specs.declared.line.LineError.TheVariants.{Lost}
use Rattle.lazy_core.specs.LinesOf.{stores_at}
use Rattle.lazy_core.specs.Standing.{world_of_standing}
use Rattle.lazy_core.proofs.Lines.{all_first, first_more, have_more, lost_here}
use Rattle.lazy_core.proofs.snapshot.Snapshot.first_replicas.Goals as goal

pub returns-in-None : goal.returns-in-None
returns-in-None c =
    record {
      found = tt;
      lost = λ number is.
          let named : c.lost.result ≡ Lost number = cc in
          lost_here (world_of_standing c.args.self.now) c.newest_shards-shards.result.now c.loop-shard.shard c.loop-shard-test.true c.loop-shard.invariant.kept c.index-shards-shard.result c.as_slice.result.now c.index-shards-shard.is c.as_slice.ensures c.newest_shards-shards.ensures (sym c.in-None.ensures)
          ∙ ap Some (sym (c.lost.ensures number named));
    }

pub loop-shard-preserved : goal.loop-shard-preserved
loop-shard-preserved c = record {
  stores =
      first_more (world_of_standing c.args.self.now) c.newest_shards-shards.result.now c.loop-shard.shard c.loop-shard-test.true c.loop-shard.invariant.kept c.index-shards-shard.result c.as_slice.result.now c.index-shards-shard.is c.as_slice.ensures c.loop-shard.first c.in-Some.node (sym c.in-Some.ensures) c.loop-shard.invariant.stores
      ∙ ap (stores_at (world_of_standing c.args.self.now)) (sym c.in_ok-push-in-Some.ensures.ok);
  kept = have_more (world_of_standing c.args.self.now) c.newest_shards-shards.result.now c.loop-shard.shard c.loop-shard-test.true c.loop-shard.invariant.kept c.index-shards-shard.result c.as_slice.result.now c.index-shards-shard.is c.as_slice.ensures c.in-Some.node (sym c.in-Some.ensures);
}

pub returns : goal.returns
returns c =
    let past : length c.newest_shards-shards.result.now ≤ c.loop-shard.shard = omega arith in
    record {
      found = all_first (world_of_standing c.args.self.now) c.newest_shards-shards.result.now c.loop-shard.first c.loop-shard.shard c.newest_shards-shards.ensures past c.loop-shard.invariant.kept c.loop-shard.invariant.stores;
      lost = λ number is. cc;
    }
