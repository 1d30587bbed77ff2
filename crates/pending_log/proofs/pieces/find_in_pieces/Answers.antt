use Rattle.std.proofs.Common.{eqb}
use Rattle.pending_log.proofs.Places.{found_in_front, found_in_back, found_nowhere}
use Rattle.pending_log.proofs.pieces.find_in_pieces.Goals as goal

pub returns-in-Some : goal.returns-in-Some
returns-in-Some c = found_in_front (λ other. eqb other c.args.word) c.args.front.now c.args.back.now c.in-Some.i c.in-Some.ensures

pub returns-in-Some-find_word : goal.returns-in-Some-find_word
returns-in-Some-find_word c =
    found_in_back (λ other. eqb other c.args.word) c.args.front.now c.args.back.now c.in-Some-find_word.i c.in_default.ensures c.in-Some-find_word.ensures

pub returns-in-None : goal.returns-in-None
returns-in-None c =
    found_nowhere (λ other. eqb other c.args.word) c.args.front.now c.args.back.now c.in_default.ensures c.in-None.ensures
