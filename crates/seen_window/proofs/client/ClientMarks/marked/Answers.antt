use Rattle.std.proofs.Common.{◌≡◌, ℕ, ◌*◌, List, length, arith, ap, ◌∙◌}
use Rattle.std.specs.Prelude.{count_by}
use Rattle.std.specs.List.{range_with_len}
use Rattle.rec_id.specs.declared.marks.Marks.{Marks}
use Rattle.rec_id.specs.Marks.{bit_of}
use Rattle.seen_window.proofs.Formed.{formed_facts}
use Rattle.seen_window.proofs.MarkedCounts.{marked_is, marked_few}
use Rattle.seen_window.proofs.client.ClientMarks.marked.Goals as goal

pub returns : goal.returns
returns c =
    let marks = c.args.self.now in
    let formed = formed_facts (length marks.bits) marks c.requires.formed in
    let same : c.deref.result.now ≡ marks.bits = c.deref.ensures.value ∙ ap (λ (m : Marks). m.bits) c.self.view_is in
    c.count_set.ensures ∙ ap (λ (words : List ℕ). count_by (bit_of words) (range_with_len 0 (64 * length words))) same ∙ marked_is marks formed

pub overflow_cast-result : goal.overflow_cast-result
overflow_cast-result c =
    let marks = c.args.self.now in
    let formed = formed_facts (length marks.bits) marks c.requires.formed in
    let same : c.deref.result.now ≡ marks.bits = c.deref.ensures.value ∙ ap (λ (m : Marks). m.bits) c.self.view_is in
    record { fits = omega (arith, c.count_set.ensures ∙ ap (λ (words : List ℕ). count_by (bit_of words) (range_with_len 0 (64 * length words))) same ∙ marked_is marks formed, marked_few marks formed, c.requires.short) }
