use Rattle.std.proofs.Common.{◌≡◌, ℕ, ◌+◌, ◌<◌, List, ◌∷◌, length, drop, true, Bool, ap, sym, ◌∙◌, arith}
use Rattle.std.specs.Prelude.{nat_lt}
use Rattle.std.specs.List.{list_all}
use Rattle.std.proofs.lemmas.Bool.{and_parts, ltb-true}
use Rattle.rec_id.specs.Identity.{Identity}
use Rattle.rec_id.specs.declared.marks.Marks.{Marks}
use Rattle.lazy_rules.specs.Windows.{marked_all}
use Rattle.seq_node.proofs.Known.{first_there, length-marked}
use Rattle.seq_node.proofs.order.mark_all.Goals as goal

-- the clients of the identities that are left are known, the first one's too
parted : (clients i : ℕ) (ids : List Identity) (id : Identity) → i < length ids → id ≡ Rattle.std.proofs.Common.get_or ids i id → list_all (λ x. nat_lt x.client clients) (drop i ids) ≡ true
    → (id.client < clients) × (list_all (λ x. nat_lt x.client clients) (drop (i + 1) ids) ≡ true)
parted clients i ids id within is inside =
    let parts = and_parts (nat_lt id.client clients) (list_all (λ x. nat_lt x.client clients) (drop (i + 1) ids))
    (ap (list_all (λ x. nat_lt x.client clients)) (sym (first_there ids i id within is)) ∙ inside) in
    (ltb-true id.client clients parts.0, parts.1)

pub mark-requires : goal.mark-requires
mark-requires c =
    let here = parted (length c.args.window.now) c.loop-id.id-index c.args.ids.now c.id-item.result c.loop-id-test.true c.id-item.is c.loop-id.invariant.inside in
    omega (arith, here.0, c.loop-id.invariant.long)

pub loop-id-preserved : goal.loop-id-preserved
loop-id-preserved c =
    let id = c.id-item.result in
    let ids = c.args.ids.now in
    let i = c.loop-id.id-index in
    let here = parted (length c.args.window.now) i ids id c.loop-id-test.true c.id-item.is c.loop-id.invariant.inside in
    let inside : id.client < length c.loop-id.window = omega (arith, here.0, c.loop-id.invariant.long) in
    record {
      rest =
          ap (λ (w : List Marks). marked_all w (drop (i + 1) ids)) c.mark.ensures.marked
          ∙ ap (marked_all c.loop-id.window) (sym (first_there ids i id c.loop-id-test.true c.id-item.is)) ∙ c.loop-id.invariant.rest;
      long = ap (λ (w : List Marks). length w) c.mark.ensures.marked ∙ length-marked c.loop-id.window id inside ∙ c.loop-id.invariant.long;
      inside = here.1;
    }
