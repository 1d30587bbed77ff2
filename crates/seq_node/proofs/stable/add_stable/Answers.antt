use Rattle.std.proofs.Common.{◌≡◌, ◌<◌, ◌≤◌, ◌+◌, List, ℕ, get_or, length, drop, ap, ◌∙◌, arith}
use Rattle.std.specs.Prelude.{flat_map}
use Rattle.std.proofs.lemmas.List.{drop_all}
use Rattle.lazy_msgs.specs.declared.msg.Msg.TheVariants.{Stable}
use Rattle.lazy_rules.specs.Rows.{to_each}
use Rattle.seq_node.proofs.Sends.{moved, ended, flat_next}
use Rattle.seq_node.proofs.stable.add_stable.Goals as goal

pub loop-nodes-preserved : goal.loop-nodes-preserved
loop-nodes-preserved c =
    let lists = c.args.config.now.shards in
    let i = c.loop-nodes.nodes-index in
    let msg = Stable c.args.view c.args.upto in
    let same = c.as_slice-nodes-items.ensures in
    let nodes : List ℕ = c.nodes-item.result in
    let inside : i < length lists = omega (arith, c.loop-nodes-test.true, ap (λ (l : List (List ℕ)). length l) same) in
    let is : nodes ≡ get_or lists i nodes = c.nodes-item.is ∙ ap (λ (l : List (List ℕ)). get_or l i nodes) same in
    moved c.loop-nodes.sends c.add_stable_to.new.sends (to_each nodes msg) (to_each (flat_map (λ l. l) (drop (i + 1) lists)) msg) (to_each (flat_map (λ l. l) (drop i lists)) msg) _
    c.in_ok-add_stable_to.ensures (flat_next msg lists i nodes inside is) c.loop-nodes.invariant

pub returns : goal.returns
returns c =
    let lists = c.args.config.now.shards in
    let msg = Stable c.args.view c.args.upto in
    let i = c.loop-nodes.nodes-index in
    let past : length lists ≤ i = omega (arith, c.loop-nodes-test.false, ap (λ (l : List (List ℕ)). length l) c.as_slice-nodes-items.ensures) in
    ended c.loop-nodes.sends (to_each (flat_map (λ l. l) (drop i lists)) msg) _ (ap (λ (l : List (List ℕ)). to_each (flat_map (λ x. x) l) msg) (drop_all i lists past)) c.loop-nodes.invariant
