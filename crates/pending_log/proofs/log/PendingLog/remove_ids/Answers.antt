use Rattle.std.proofs.Common.{◌≡◌, ℕ, ◌+◌, ◌-◌, ◌≤◌, ◌⊎◌, true, List, not, length, inl, inr, sym, ap, ◌∙◌, arith}
use Rattle.rec_id.specs.declared.item.Item.{Item}
use Rattle.pending_log.specs.Pending.{Pending, without}
use Rattle.rec_id.specs.Identity.{has_id}
use Rattle.pending_log.proofs.Identities.{distinct_filter}
use Rattle.pending_log.proofs.Removal.{Turned, turned_kept, turned_room, turned_met, turned_stays, turned_back}
use Rattle.pending_log.proofs.log.PendingLog.remove_ids.Goals as goal
use Rattle.pending_log.proofs.log.PendingLog.remove_ids.Goals.{then-is_among, else-is_among, else-loop-item-test, then-loop-item-test+then-unmet-eq0}

pub push-requires : goal.push-requires
push-requires c =
    turned_room c.args.ids.now c.self.inside.ring.items _ _ _ _ c.loop-item.self-inside.ring c.loop-item.invariant (omega arith) c.pop-item.result c.pop-item.new.self c.pop-item.ensures.items c.pop-item.ensures.capacity (omega arith)

pub overflow_add-kept : goal.overflow_add-kept
overflow_add-kept c = record {
  fits = omega (arith, turned_kept c.args.ids.now c.self.inside.ring.items _ _ _ _ c.loop-item.self-inside.ring c.loop-item.invariant, c.loop-item-test.true, c.len-item-end.type_inv);
}

met_item : (c : goal.Joined-is_among) → has_id c.args.ids.now c.pop-item.result.id ≡ true
    → Turned c.args.ids.now c.self.inside.ring.items c.self.inside.ring.capacity (c.loop-item._item + 1) (c.loop-item.unmet - 1) c.loop-item.kept c.pop-item.new.self
met_item c met =
    turned_met c.args.ids.now c.self.inside.ring.items c.self.inside.ring.capacity c.loop-item._item c.loop-item.unmet c.loop-item.kept c.loop-item.self-inside.ring c.loop-item.invariant (omega arith) c.pop-item.result c.pop-item.new.self c.pop-item.ensures.items c.pop-item.ensures.capacity met (omega arith)

pub loop-item-preserved : goal.loop-item-preserved
loop-item-preserved c = elim c.if-is_among.branch [
  | then-is_among w ↦ rw (w.unmet-is, w.kept-is, w.self-inside-is) (met_item c (sym c.is_among.ensures ∙ w.if-is_among.true))
  | else-is_among w ↦
      rw (w.unmet-is, w.kept-is, w.self-inside-is, w.push.ensures)
      (turned_stays c.args.ids.now c.self.inside.ring.items c.self.inside.ring.capacity c.loop-item._item c.loop-item.unmet c.loop-item.kept c.loop-item.self-inside.ring c.loop-item.invariant (omega arith) c.pop-item.result c.pop-item.new.self c.pop-item.ensures.items c.pop-item.ensures.capacity (sym c.is_among.ensures ∙ w.if-is_among.false))
]

-- the items that stay, once the others were turned behind them
staying : (c : goal.After-turn) → c.turn.new.self ≡ record c.self.inside.ring { items = without c.args.ids.now c.self.inside.ring.items }
staying c =
    let before = c.self.inside.ring in
    let now = c.loop-item.self-inside.ring in
    let done : (c.loop-item.unmet ≡ 0) ⊎ (length before.items ≤ c.loop-item._item) = elim c.loop-item-test.branch [
      | else-loop-item-test w ↦ inr (omega arith)
      | then-loop-item-test+then-unmet-eq0 w ↦ inl (omega arith)
    ] in
    let items = turned_back c.args.ids.now before.items before.capacity c.loop-item._item c.loop-item.unmet c.loop-item.kept now c.loop-item.invariant c.self.invariant done in
    c.turn.ensures
    ∙ ap (λ (l : List Item). let made : Pending = record { items = l; capacity = now.capacity } in made) items
    ∙ ap (λ (room : ℕ). let made : Pending = record { items = without c.args.ids.now before.items; capacity = room } in made) c.loop-item.invariant.room_is

pub invariant_of-self : goal.invariant_of-self
invariant_of-self c =
    rw (staying c) (distinct_filter (λ item. not (has_id c.args.ids.now item.id)) c.self.inside.ring.items c.self.invariant)

pub returns : goal.returns
returns c =
    staying c ∙ ap (λ (log : Pending). let made : Pending = record { items = without c.args.ids.now log.items; capacity = log.capacity } in made) c.self.view_is
