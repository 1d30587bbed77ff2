use Rattle.std.proofs.Common.{◌≡◌, ℕ, bit_and, get_or, [], ◌∷◌, sym, ap, ◌∙◌}
use Rattle.std.proofs.lemmas.Option.{get_or_from_slice_get}
use Rattle.rec_id.specs.Marks.{bit_of}
use Rattle.seen_window.proofs.WiderMarks.{near_word, far_word}
use Rattle.seen_window.proofs.wider.widened_word.Goals as goal

pub returns-then-i-lt-NARROW : goal.returns-then-i-lt-NARROW
returns-then-i-lt-NARROW c k low =
    let marks = c.args.marks.now in
    let ones = c.ones_below-numbered.result in
    let read : get_or marks.bits c.args.i 0 ≡ c.at.result.now = get_or_from_slice_get marks.bits c.args.i c.at.result.now 0 c.at.ensures in
    ap (λ (word : ℕ). bit_of (bit_and word ones ∷ []) k) (sym read)
    ∙ near_word marks c.requires.narrow c.args.i k low ones (c.ones_below-numbered.ensures k low) c.if-i-lt-NARROW.true

pub returns-else-i-lt-NARROW : goal.returns-else-i-lt-NARROW
returns-else-i-lt-NARROW c k low =
    far_word c.args.marks.now c.requires.narrow c.args.i k low c.ones_below-numbered.result (c.ones_below-numbered.ensures k low) c.if-i-lt-NARROW.false
