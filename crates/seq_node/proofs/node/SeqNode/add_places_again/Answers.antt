use Rattle.std.proofs.Common.{◌+◌, ◌<◌, ◌≤◌, length, drop, ap, arith}
use Rattle.std.proofs.lemmas.List.{drop_all}
use Rattle.lazy_rules.specs.Leading.{place_to}
use Rattle.lazy_rules.specs.Roles.{replicas_at}
use Rattle.lazy_rules.specs.Rows.{each_numbered}
use Rattle.lazy_rules.specs.SeqState.{SeqState}
use Rattle.seq_node.proofs.Parts.{shard_next}
use Rattle.seq_node.proofs.Sends.{moved, ended}
use Rattle.seq_node.proofs.node.SeqNode.add_places_again.Goals as goal

pub loop-shard-preserved : goal.loop-shard-preserved
loop-shard-preserved c = λ batch is.
    let s : SeqState = c.args.self.now in
    let i = c.loop-shard.shard in
    let make = place_to s batch in
    let inside : i < length s.config.shards = omega (arith, c.loop-shard-test.true, c.shards-shard-end.ensures) in
    moved c.loop-shard.sends c.add_place_again.new.sends (make i (replicas_at s.config i)) (each_numbered make (i + 1) (drop (i + 1) s.config.shards)) (each_numbered make i (drop i s.config.shards)) _
    (c.in_ok-add_place_again.ensures batch is) (shard_next make s.config.shards i inside) (c.loop-shard.invariant batch is)

pub returns : goal.returns
returns c = λ batch is.
    let s : SeqState = c.args.self.now in
    let i = c.loop-shard.shard in
    let make = place_to s batch in
    let past : length s.config.shards ≤ i = omega (arith, c.loop-shard-test.false, c.shards-shard-end.ensures) in
    ended c.loop-shard.sends (each_numbered make i (drop i s.config.shards)) _ (ap (each_numbered make i) (drop_all i s.config.shards past)) (c.loop-shard.invariant batch is)
