use Rattle.std.proofs.Common.{◌≡◌, ◌++◌, take, drop}
use Rattle.seen_window.specs.Shifted.{shifted}
use Rattle.seen_window.proofs.bits.move_within_words.Given as goal

abbrev pub invariant-loop-word : goal.invariant-loop-word
invariant-loop-word l =
    take l.word-index l.bits ++ shifted l.by l.carried (drop l.word-index l.bits) ≡ shifted l.by 0 l.fn.bits
