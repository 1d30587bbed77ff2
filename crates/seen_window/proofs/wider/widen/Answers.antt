use Rattle.std.proofs.Common.{◌≡◌, true, List, map, sym, ap, subst, ◌∙◌}
use Rattle.std.proofs.lemmas.List.{take_all}
use Rattle.rec_id.specs.declared.marks.Marks.{Marks}
use Rattle.seen_window.specs.Image.{is_image, widened, widened_image}
use Rattle.seen_window.proofs.LawLemmas.{image_widened}
use Rattle.seen_window.proofs.wider.widen.Goals as goal

pub returns-clause-image : goal.returns-clause-image
returns-clause-image c is =
    let items = c.as_slice-marks-items.result.now in
    let whole : c.from_vec.result ≡ widened_image c.args.list.now =
    c.from_vec.ensures ∙ c.loop-marks.invariant
    ∙ ap (map widened) (take_all c.loop-marks.marks-index items c.loop-marks-test.false ∙ c.as_slice-marks-items.ensures) in
    subst (λ (image : List Marks). is_image image ≡ true) (sym whole) (image_widened c.args.list.now is).0
