use Rattle.std.proofs.Common.{◌≡◌, ℕ, ◌%◌, Fits, w64, get_or, length, arith, rules, ap, ◌∙◌}
use Rattle.rec_id.specs.Marks.{bit_of}
use Rattle.seen_window.proofs.BitLemmas.{bit_of-shifted_up}
use Rattle.seen_window.proofs.BitMoves.{came_both}
use Rattle.seen_window.proofs.bits.move_up.Goals as goal

pub returns-then-by-gt0 : goal.returns-then-by-gt0
returns-then-by-gt0 c j inside =
    let moved = c.move_words.new.bits in
    let fits : (i : ℕ) → Fits w64 (get_or moved i 0) = search rules in
    let same_length : length moved ≡ length c.args.bits.now = search rules in
    ap (λ words. bit_of words j) c.move_within_words.ensures
    ∙ bit_of-shifted_up (c.args.by % 64) (omega arith) (omega arith) moved fits j (omega arith)
    ∙ rw c.move_words.ensures (came_both c.args.bits.now c.args.by c.min-words.result c.min-words.ensures j inside)
