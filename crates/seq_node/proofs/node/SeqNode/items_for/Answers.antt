use Rattle.std.proofs.Common.{◌≡◌, ◌+◌, ◌-◌, ◌++◌, ◌∷◌, [], List, drop, ap, ◌∙◌}
use Rattle.rec_id.specs.declared.item.Item.{Item}
use Rattle.lazy_rules.specs.Items.{bytes_for, items_for}
use Rattle.lazy_rules.specs.SeqState.{SeqState}
use Rattle.seq_node.specs.Batches.{items_at}
use Rattle.seq_node.proofs.Parts.{item_next, part_ended}
use Rattle.seq_node.proofs.Sends.{moved, ended}
use Rattle.seq_node.proofs.node.SeqNode.items_for.Goals as goal

pub loop-i-preserved : goal.loop-i-preserved
loop-i-preserved c =
    let s : SeqState = c.args.self.now in
    let shard = c.args.shard in
    let from = c.args.from in
    let i = c.loop-i.i in
    let item : Item = c.pending_at-item.result.now in
    let list : List Item = items_at s from c.args.count in
    let made : Item = record { id = item.id; bytes = bytes_for s.shape shard (from + i) item.bytes } in
    let bytes = c.in_ok-bytes.ensures ∙ ap (λ (x : SeqState). bytes_for x.shape shard (from + i) item.bytes) c.self.view_is in
    let written : c.push.new.self.items ≡ c.loop-i.items.items ++ made ∷ [] =
    c.in_ok-push.ensures.items ∙ ap (λ b. let one : Item = record { id = item.id; bytes = b } in c.loop-i.items.items ++ one ∷ []) bytes in
    moved c.loop-i.items.items c.push.new.self.items (made ∷ []) (items_for s.shape shard (from + (i + 1)) (drop (i + 1) list)) (items_for s.shape shard (from + i) (drop i list)) _
    written (item_next s.shape shard from s.pending (from - s.bound) c.args.count i item c.pending_at-item.ensures c.loop-i-test.true) c.loop-i.invariant

pub returns : goal.returns
returns c =
    let s : SeqState = c.args.self.now in
    let i = c.loop-i.i in
    c.from_vec.ensures
    ∙ ended c.loop-i.items.items (items_for s.shape c.args.shard (c.args.from + i) (drop i (items_at s c.args.from c.args.count))) _
    (ap (items_for s.shape c.args.shard (c.args.from + i)) (part_ended s.pending (c.args.from - s.bound) c.args.count i c.loop-i-test.false)) c.loop-i.invariant
