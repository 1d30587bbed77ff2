use Rattle.std.proofs.Common.{◌≡◌, ℕ, List, replicate, ap, ◌∙◌, rules}
use Rattle.rec_id.specs.declared.marks.Marks.{Marks}
use Rattle.seen_window.proofs.OneMark.{no_marks_are}
use Rattle.seen_window.proofs.client.ClientMarks.new.Goals as goal

pub returns : goal.returns
returns c =
    let items : c.in_ok-from_elem.field-0.items ≡ replicate c.args.words 0 = c.in_ok-from_elem.ensures.items_if_clones_equal (search rules) in
    ap (λ (list : List ℕ). let made : Marks = record { top = 0; bits = list } in made) items ∙ no_marks_are c.args.words
