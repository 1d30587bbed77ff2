use Rattle.std.proofs.Common.{◌+◌, ◌<◌, ◌≤◌, List, ℕ, length, drop, get_or, ap, arith}
use Rattle.std.proofs.lemmas.List.{drop_all}
use Rattle.std.proofs.lemmas.Option.{slice_get-get_or}
use Rattle.lazy_rules.specs.Leading.{order_to}
use Rattle.lazy_rules.specs.Roles.{followers_of}
use Rattle.lazy_rules.specs.Rows.{each_numbered}
use Rattle.lazy_rules.specs.SeqState.{SeqState}
use Rattle.seq_node.proofs.Going.{numbered_next}
use Rattle.seq_node.proofs.Sends.{moved, ended}
use Rattle.seq_node.proofs.node.SeqNode.add_orders_again.Goals as goal

pub loop-follower-preserved : goal.loop-follower-preserved
loop-follower-preserved c = λ batch is.
    let s : SeqState = c.args.self.now in
    let nodes : List ℕ = followers_of s.config in
    let i = c.loop-follower.follower in
    let make = order_to s batch in
    let inside : i < length nodes = omega (arith, c.loop-follower-test.true, c.followers-follower-end.ensures) in
    moved c.loop-follower.sends c.add_order_again.new.sends (make i (get_or nodes i 0)) (each_numbered make (i + 1) (drop (i + 1) nodes)) (each_numbered make i (drop i nodes)) _
    (c.in_ok-add_order_again.ensures batch (get_or nodes i 0) is (slice_get-get_or nodes i 0 inside)) (numbered_next make nodes i 0 inside) (c.loop-follower.invariant batch is)

pub returns : goal.returns
returns c = λ batch is.
    let s : SeqState = c.args.self.now in
    let nodes : List ℕ = followers_of s.config in
    let i = c.loop-follower.follower in
    let make = order_to s batch in
    let past : length nodes ≤ i = omega (arith, c.loop-follower-test.false, c.followers-follower-end.ensures) in
    ended c.loop-follower.sends (each_numbered make i (drop i nodes)) _ (ap (each_numbered make i) (drop_all i nodes past)) (c.loop-follower.invariant batch is)
