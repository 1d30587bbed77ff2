use Rattle.std.proofs.Common.{◌≡◌, ◌+◌, ◌++◌, ◌<◌, ◌≤◌, [], ◌∷◌, List, ℕ, length, drop, get_or, ap, subst, ◌∙◌, sym, arith}
use Rattle.std.proofs.lemmas.List.{drop_all}
use Rattle.std.proofs.lemmas.Option.{slice_get-get_or}
use Rattle.std.specs.Prelude.{option_map, slice_get}
use Rattle.binder.specs.Binding.{outline}
use Rattle.binder.specs.declared.batch.Batch.{Batch as Outline}
use Rattle.lazy_msgs.specs.declared.msg.Msg.{Msg}
use Rattle.lazy_msgs.specs.declared.msg.Msg.TheVariants.{Order}
use Rattle.lazy_rules.specs.Flight.{now_ordering}
use Rattle.lazy_rules.specs.Ids.{ids_of}
use Rattle.lazy_rules.specs.Leading.{order_to}
use Rattle.lazy_rules.specs.Roles.{followers_of}
use Rattle.lazy_rules.specs.Rows.{each_numbered}
use Rattle.lazy_rules.specs.SeqRules.{has_positions}
use Rattle.lazy_rules.specs.SeqState.{SeqState}
use Rattle.seq_node.specs.Batches.{IsWithin, items_at}
use Rattle.seq_node.specs.NodeView.{seq_of}
use Rattle.seq_node.proofs.Beginning.{within_flight}
use Rattle.seq_node.proofs.Going.{numbered_next}
use Rattle.seq_node.proofs.PassingOn.{seen_here}
use Rattle.seq_node.proofs.Sends.{moved, ended}
use Rattle.seq_node.proofs.node.SeqNode.add_to_all.Goals as goal

pub add_order-requires-clause-within : goal.add_order-requires-clause-within
add_order-requires-clause-within c =
    subst (λ (x : SeqState). IsWithin x c.batch-batch.result.from c.batch-batch.result.count) c.self.view_is
    (within_flight (seq_of c.self.inside) _ _ _ c.self.invariant (ap has_positions c.self.view_is ∙ c.requires.fits) c.flight.ensures.sound c.args.i c.batch-batch.result c.batch-batch.ensures)

pub loop-follower-preserved : goal.loop-follower-preserved
loop-follower-preserved c = λ batch is.
    let s : SeqState = c.args.self.now in
    let nodes : List ℕ = followers_of s.config in
    let i = c.loop-follower.follower in
    let seen = c.batch-batch.result in
    let make = order_to s (now_ordering batch) in
    let inside : i < length nodes = omega (arith, c.loop-follower-test.true, c.followers-follower-end.ensures) in
    let same = seen_here s.flight c.args.i batch seen is (ap (λ (x : SeqState). option_map outline (slice_get x.flight c.args.i)) (sym c.self.view_is) ∙ c.batch-batch.ensures) in
    let one : ℕ → ℕ → List (ℕ × Msg) = λ from count. (get_or nodes i 0, Order s.view from (ids_of (items_at s from count))) ∷ [] in
    let written : c.add_order.new.sends ≡ c.loop-follower.sends ++ make i (get_or nodes i 0) =
    c.in_ok-add_order.ensures (get_or nodes i 0) (slice_get-get_or nodes i 0 inside)
    ∙ ap (λ (l : List (ℕ × Msg)). c.loop-follower.sends ++ l) (ap (λ (o : Outline). one o.from o.count) (sym same)) in
    moved c.loop-follower.sends c.add_order.new.sends (make i (get_or nodes i 0)) (each_numbered make (i + 1) (drop (i + 1) nodes)) (each_numbered make i (drop i nodes)) _
    written (numbered_next make nodes i 0 inside) (c.loop-follower.invariant batch is)

pub returns : goal.returns
returns c = λ batch is.
    let s : SeqState = c.args.self.now in
    let nodes : List ℕ = followers_of s.config in
    let i = c.loop-follower.follower in
    let make = order_to s (now_ordering batch) in
    let past : length nodes ≤ i = omega (arith, c.loop-follower-test.false, c.followers-follower-end.ensures) in
    ended c.loop-follower.sends (each_numbered make i (drop i nodes)) _ (ap (each_numbered make i) (drop_all i nodes past)) (c.loop-follower.invariant batch is)
