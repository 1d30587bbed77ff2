use Rattle.std.proofs.Common.{◌+◌, ◌-◌, ◌*◌, get_or, drop, arith}
use Rattle.trace_script.specs.Digits.{IsDigit}
use Rattle.trace_script.proofs.Decimals.{value_grows, value_step}
use Rattle.trace_script.proofs.numbers.read_digits.Goals as goal

pub returns-in-None-clause-none : goal.returns-in-None-clause-none
returns-in-None-clause-none c = λ are.
    let word = c.args.word.now in
    let i = c.loop-byte.byte-index in
    let n = c.loop-byte.number in
    let digit : IsDigit word i = are i c.loop-byte-test.true in
    let step = value_step word i n c.loop-byte-test.true digit.least digit.most in
    let grows = value_grows (drop (i + 1) word) (n * 10 + (get_or word i 0 - 48)) in
    let more = c.in-None.ensures.none digit.least digit.most in
    omega (arith, step, grows, more, c.loop-byte.invariant.0)
