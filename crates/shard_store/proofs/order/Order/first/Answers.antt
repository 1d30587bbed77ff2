use Rattle.std.proofs.Common.{◌≡◌, ℕ, ◌+◌, ◌-◌, ◌<◌, subst, None, length, get_or, sym, ap, ◌∙◌, arith}
use Rattle.std.specs.List.{position}
use Rattle.std.proofs.lemmas.List.{get_or_read}
use Rattle.rec_id.specs.declared.item.Cell.{Cell}
use Rattle.lazy_rules.specs.Store.{is_cell_of}
use Rattle.shard_store.specs.Kinds.{is_of}
use Rattle.shard_store.specs.Links.{blank, bucket, tag_in, last_end}
use Rattle.shard_store.specs.Places.{Places}
use Rattle.shard_store.proofs.FirstPlace.{IsWalked, FirstFrom, step, step_here, step_past, found_first, end_before}
use Rattle.shard_store.proofs.LinkLemmas.{last_within}
use Rattle.shard_store.proofs.order.Order.first.Goals as goal
use Rattle.shard_store.proofs.order.Order.first.Goals.{then-is_cell_of, else-is_cell_of}

pub loop-end-init : goal.loop-end-init
loop-end-init c =
    let cells = c.self.inside.cells.items in
    let heads = c.self.inside.heads.items in
    let size = length heads in
    let size_is : c.len.result ≡ size = omega arith in
    let at_is : c.bucket.result ≡ bucket size c.args.id = c.bucket.ensures.bucket ∙ ap (λ (n : ℕ). bucket n c.args.id) size_is in
    let inside : bucket size c.args.id < size = omega (arith, at_is, size_is, c.bucket.ensures.within) in
    let end : c.index-end.result.now ≡ last_end (tag_in size cells) (bucket size c.args.id) (length cells) =
    get_or_read heads c.bucket.result c.index-end.result.now (omega (arith, at_is, inside)) c.index-end.ensures 0
    ∙ ap (λ (at : ℕ). get_or heads at 0) at_is
    ∙ c.self.invariant.linked.head_is (bucket size c.args.id) inside in
    let walked = step size c.args.kind c.args.id cells (length cells) None (omega arith) (λ k past below. absurd (omega arith)) in
    subst (λ (n : ℕ). IsWalked size c.args.kind c.args.id cells n None) (sym end) walked

walks : (c : goal.After-row_known-in-loop-end-2-1) → c.index-end-in-loop-end.result.now ≡ last_end (tag_in (length c.self.inside.heads.items) c.self.inside.cells.items) (bucket (length c.self.inside.heads.items) c.args.id) (c.loop-end.end - 1)
walks c =
    let more : c.loop-end.end - 1 + 1 ≡ c.loop-end.end = omega arith in
    end_before (length c.self.inside.heads.items) c.args.kind c.args.id c.self.inside.cells.items c.self.inside.heads.items c.self.inside.before.items
    (c.loop-end.end - 1) c.index-end-in-loop-end.result.now c.loop-end.found c.self.invariant.linked
    (rw more c.loop-end.invariant)
    (get_or_read c.self.inside.before.items (c.loop-end.end - 1) c.index-end-in-loop-end.result.now
    (omega (arith, c.self.invariant.before_len, c.loop-end.invariant.within)) c.index-end-in-loop-end.ensures 0)

pub loop-end-smaller : goal.loop-end-smaller
loop-end-smaller c = omega (arith, walks c, last_within (tag_in (length c.self.inside.heads.items) c.self.inside.cells.items) (bucket (length c.self.inside.heads.items) c.args.id) (c.loop-end.end - 1))

pub loop-end-preserved : goal.loop-end-preserved
loop-end-preserved c =
    let cells = c.self.inside.cells.items in
    let size = length c.self.inside.heads.items in
    let place = c.loop-end.end - 1 in
    let more : place + 1 ≡ c.loop-end.end = omega arith in
    let walked : IsWalked size c.args.kind c.args.id cells (place + 1) c.loop-end.found = rw more c.loop-end.invariant in
    let read : c.index.result.now ≡ get_or cells place blank =
    get_or_read cells place c.index.result.now (omega (arith, c.loop-end.invariant.within)) c.index.ensures blank in
    let test = ap (λ (cell : Cell). is_cell_of (is_of c.args.kind) c.args.id cell) read in
    let first : FirstFrom (is_cell_of (is_of c.args.kind) c.args.id) cells place c.if-is_cell_of.found = elim c.if-is_cell_of.branch [
      | then-is_cell_of w ↦ rw w.found-is (step_here size c.args.kind c.args.id cells place c.loop-end.found walked
          (sym test ∙ sym c.is_cell_of.ensures ∙ w.if-is_cell_of.true))
      | else-is_cell_of w ↦ rw w.found-is (step_past size c.args.kind c.args.id cells place c.loop-end.found walked
          (sym test ∙ sym c.is_cell_of.ensures ∙ w.if-is_cell_of.false))
    ] in
    subst (λ (n : ℕ). IsWalked size c.args.kind c.args.id cells n c.if-is_cell_of.found) (sym (walks c))
    (step size c.args.kind c.args.id cells place c.if-is_cell_of.found (omega (arith, c.loop-end.invariant.within)) first)

pub returns : goal.returns
returns c =
    let end : c.loop-end.end ≡ 0 = omega arith in
    let first : FirstFrom (is_cell_of (is_of c.args.kind) c.args.id) c.self.inside.cells.items 0 c.loop-end.found = rw end at c.loop-end.invariant.first in
    found_first (length c.self.inside.heads.items) c.args.kind c.args.id c.self.inside.cells.items c.loop-end.found first
    ∙ ap (λ (order : Places). position (is_cell_of (is_of c.args.kind) c.args.id) order.cells) c.self.view_is
