use Rattle.std.proofs.Common.{◌+◌, ◌-◌, ◌∷◌, [], List, drop, ap, ◌∙◌}
use Rattle.rec_id.specs.declared.item.Item.{Item}
use Rattle.lazy_rules.specs.Ids.{ids_of}
use Rattle.lazy_rules.specs.SeqState.{SeqState}
use Rattle.seq_node.specs.Batches.{items_at}
use Rattle.seq_node.proofs.Parts.{id_next, part_ended}
use Rattle.seq_node.proofs.Sends.{moved, ended}
use Rattle.seq_node.proofs.node.SeqNode.ids_in.Goals as goal

pub loop-i-preserved : goal.loop-i-preserved
loop-i-preserved c =
    let s : SeqState = c.args.self.now in
    let i = c.loop-i.i in
    let item : Item = c.pending_at.result.now in
    let list : List Item = items_at s c.args.from c.args.count in
    moved c.loop-i.ids.items c.push.new.self.items (item.id ∷ []) (ids_of (drop (i + 1) list)) (ids_of (drop i list)) _
    c.in_ok-push.ensures.items (id_next s.pending (c.args.from - s.bound) c.args.count i item c.pending_at.ensures c.loop-i-test.true) c.loop-i.invariant

pub returns : goal.returns
returns c =
    let s : SeqState = c.args.self.now in
    let i = c.loop-i.i in
    c.from_vec.ensures
    ∙ ended c.loop-i.ids.items (ids_of (drop i (items_at s c.args.from c.args.count))) _
    (ap ids_of (part_ended s.pending (c.args.from - s.bound) c.args.count i c.loop-i-test.false)) c.loop-i.invariant
