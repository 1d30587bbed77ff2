use Rattle.std.proofs.Common.{◌≡◌, ◌<◌, ◌≤◌, ◌+◌, ◌++◌, ◌∷◌, [], List, ℕ, get_or, length, drop, ap, ◌∙◌, arith}
use Rattle.std.proofs.lemmas.List.{drop_all}
use Rattle.lazy_msgs.specs.declared.msg.Msg.{Msg}
use Rattle.lazy_msgs.specs.declared.msg.Msg.TheVariants.{Stable}
use Rattle.lazy_rules.specs.Rows.{to_each}
use Rattle.seq_node.proofs.Sends.{moved, ended, each_next}
use Rattle.seq_node.proofs.stable.add_stable_to.Goals as goal

pub loop-node-preserved : goal.loop-node-preserved
loop-node-preserved c =
    let nodes = c.args.nodes.now in
    let i = c.loop-node.node-index in
    let msg = Stable c.args.view c.args.upto in
    let same = c.as_slice-node-items.ensures in
    let inside : i < length nodes = omega (arith, c.loop-node-test.true, ap (λ (l : List ℕ). length l) same) in
    let more : List (ℕ × Msg) = (get_or nodes i 0, msg) ∷ [] in
    let written : c.push.new.self ≡ c.loop-node.sends ++ more =
    c.in_ok-push.ensures.ok ∙ ap (λ (l : List ℕ). let one : List (ℕ × Msg) = (get_or l i 0, msg) ∷ [] in c.loop-node.sends ++ one) same in
    moved c.loop-node.sends c.push.new.self more (to_each (drop (i + 1) nodes) msg) (to_each (drop i nodes) msg) _ written (each_next msg nodes i inside) c.loop-node.invariant

pub returns : goal.returns
returns c =
    let nodes = c.args.nodes.now in
    let msg = Stable c.args.view c.args.upto in
    let past : length nodes ≤ c.loop-node.node-index = omega (arith, c.loop-node-test.false, ap (λ (l : List ℕ). length l) c.as_slice-node-items.ensures) in
    ended c.loop-node.sends (to_each (drop c.loop-node.node-index nodes) msg) _ (ap (λ (l : List ℕ). to_each l msg) (drop_all c.loop-node.node-index nodes past)) c.loop-node.invariant
