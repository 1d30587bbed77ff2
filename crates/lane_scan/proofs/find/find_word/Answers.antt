use Rattle.std.proofs.Common.{eqb, rules, arith}
use Rattle.lane_scan.proofs.First.{position_found, position_none, none_more, block_found, block_more}
use Rattle.lane_scan.proofs.find.find_word.Goals as goal

pub lanes-init : goal.lanes-init
lanes-init c = record { within = omega arith; fails = λ k below. absurd (omega arith) }

pub returns-then-before-lt-LANES : goal.returns-then-before-lt-LANES
returns-then-before-lt-LANES c =
    block_found (λ other. eqb other c.args.word) c.args.words.now c.lanes.at c.others_before-before.result (omega arith) c.others_before-before.ensures c.lanes.invariant c.if-before-lt-LANES.true

pub lanes-preserved : goal.lanes-preserved
lanes-preserved c =
    block_more (λ other. eqb other c.args.word) c.args.words.now c.lanes.at c.others_before-before.result (omega arith) c.others_before-before.ensures c.lanes.invariant (omega arith)

pub returns-then-words-at : goal.returns-then-words-at
returns-then-words-at c =
    position_found (λ other. eqb other c.args.word) c.args.words.now c.rest.at c.rest.invariant (omega arith) (search rules)

pub rest-preserved : goal.rest-preserved
rest-preserved c =
    none_more (λ other. eqb other c.args.word) c.args.words.now c.rest.at c.rest.invariant (omega arith) (search rules)

pub returns : goal.returns
returns c = position_none (λ other. eqb other c.args.word) c.args.words.now c.rest.at c.rest.invariant (omega arith)
