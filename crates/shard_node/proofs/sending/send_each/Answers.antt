use Rattle.std.proofs.Common.{◌≡◌, ℕ, ◌++◌, ◌∷◌, [], List, take, ap, ◌∙◌, arith}
use Rattle.std.proofs.lemmas.List.{take_all}
use Rattle.lazy_msgs.specs.declared.msg.Msg.{Msg}
use Rattle.lazy_rules.specs.Rows.{to_each}
use Rattle.shard_node.proofs.Rows.{each_more}
use Rattle.shard_node.proofs.sending.send_each.Goals as goal

pub returns : goal.returns
returns c =
    let others = c.in-Some.others.now in
    let last = c.in-Some.last.now in
    let msg = c.args.msg in
    let whole : take c.loop-node.node-index others ≡ others = take_all c.loop-node.node-index others (omega (arith, c.loop-node-test.false)) in
    c.in_ok-push-2.ensures.ok
    ∙ ap (λ (m : Msg). c.loop-node.sends ++ (last, m) ∷ []) c.loop-node.invariant.msg
    ∙ ap (λ (l : List (ℕ × Msg)). l ++ (last, msg) ∷ []) (c.loop-node.invariant.sends ∙ ap (λ (l : List ℕ). c.args.sends.now ++ to_each l msg) whole)
    ∙ each_more c.args.sends.now c.args.nodes.now others last msg c.in-Some.ensures.cases.0
