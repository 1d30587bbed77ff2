use Rattle.std.proofs.Common.{◌+◌, ◌<◌, ◌≤◌, length, drop, ap, arith}
use Rattle.std.proofs.lemmas.List.{drop_all}
use Rattle.lazy_rules.specs.Roles.{replicas_at}
use Rattle.lazy_rules.specs.Rows.{each_numbered}
use Rattle.lazy_rules.specs.SeqState.{SeqState}
use Rattle.seq_node.specs.Batches.{place_at}
use Rattle.seq_node.proofs.Parts.{shard_next}
use Rattle.seq_node.proofs.Sends.{moved, ended}
use Rattle.seq_node.proofs.node.SeqNode.add_new.Goals as goal

pub loop-shard-preserved : goal.loop-shard-preserved
loop-shard-preserved c =
    let s : SeqState = c.args.self.now in
    let i = c.loop-shard.shard in
    let make = place_at s c.args.from c.args.count in
    let inside : i < length s.config.shards = omega (arith, c.loop-shard-test.true, c.shards-shard-end.ensures) in
    moved c.loop-shard.sends c.add_place.new.sends (make i (replicas_at s.config i)) (each_numbered make (i + 1) (drop (i + 1) s.config.shards)) (each_numbered make i (drop i s.config.shards)) _
    c.in_ok-add_place.ensures (shard_next make s.config.shards i inside) c.loop-shard.invariant

pub returns : goal.returns
returns c =
    let s : SeqState = c.args.self.now in
    let i = c.loop-shard.shard in
    let make = place_at s c.args.from c.args.count in
    let past : length s.config.shards ≤ i = omega (arith, c.loop-shard-test.false, c.shards-shard-end.ensures) in
    ended c.loop-shard.sends (each_numbered make i (drop i s.config.shards)) _ (ap (each_numbered make i) (drop_all i s.config.shards past)) c.loop-shard.invariant
