use Rattle.std.proofs.Common.{◌≡◌, ℕ, ◌+◌, List, length, get_or, subst, refl, sym, ap, ◌∙◌, arith}
use Rattle.std.proofs.Math.ListN.{set, length-set}
use Rattle.std.proofs.lemmas.List.{get_or-set_same, get_or-set_other, get_or_read}
use Rattle.rec_id.specs.declared.item.Cell.{Cell}
use Rattle.shard_store.specs.Links.{blank, bucket, tag_in, IsLinked}
use Rattle.shard_store.proofs.LinkLemmas.{linked_none, linked_more}
use Rattle.shard_store.proofs.links.link_all.Goals as goal

pub loop-place-init : goal.loop-place-init
loop-place-init c = record {
  heads_len = refl;
  before_len = refl;
  linked = subst (λ (heads : List ℕ). IsLinked (tag_in (length c.args.heads.now) c.args.cells.now) heads c.args.before.now 0) (sym c.requires.heads)
      (linked_none (tag_in (length c.args.heads.now) c.args.cells.now) (length c.args.heads.now) c.args.before.now);
}

pub loop-place-preserved : goal.loop-place-preserved
loop-place-preserved c =
    let cells = c.args.cells.now in
    let heads = c.loop-place.heads in
    let before = c.loop-place.before in
    let place = c.loop-place.place in
    let size = length heads in
    let at = c.bucket-at.result in
    let tag = tag_in size cells in
    let read : c.index-cells-place.result ≡ get_or cells place blank = get_or_read cells place c.index-cells-place.result (omega arith) c.index-cells-place.is blank in
    let at_is : at ≡ tag place = c.bucket-at.ensures.bucket ∙ ap (λ (cell : Cell). bucket size cell.id) (sym c.index-cells-place.is ∙ read) in
    let heads_len : length (set heads at (place + 1)) ≡ size = length-set heads at (place + 1) in
    let before_len : length (set before place (get_or heads at 0)) ≡ length before = length-set before place (get_or heads at 0) in
    let more : IsLinked tag (set heads (tag place) (place + 1)) (set before place (get_or heads at 0)) (place + 1) =
    linked_more tag heads before (set before place (get_or heads at 0)) place c.loop-place.invariant.linked (omega (arith, at_is, c.bucket-at.ensures.within))
    (λ k below. get_or-set_other before place k (get_or heads at 0) 0 (omega arith))
    (get_or-set_same before place (get_or heads at 0) 0 (omega arith) ∙ ap (λ (t : ℕ). get_or heads t 0) at_is) in
    record {
      heads_len = heads_len ∙ c.loop-place.invariant.heads_len;
      before_len = before_len ∙ c.loop-place.invariant.before_len;
      linked = subst (λ (n : ℕ). IsLinked (tag_in n cells) (set heads at (place + 1)) (set before place (get_or heads at 0)) (place + 1)) (sym heads_len)
          (subst (λ (t : ℕ). IsLinked tag (set heads t (place + 1)) (set before place (get_or heads at 0)) (place + 1)) (sym at_is) more);
    }
