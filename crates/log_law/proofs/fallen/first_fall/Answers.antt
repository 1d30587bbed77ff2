use Rattle.std.proofs.Common.{◌<◌, length, sym, ◌∙◌, arith}
use Rattle.log_law.specs.Tails.{forced_key, begun_key}
use Rattle.log_law.proofs.FirstFalls.{falls_yes, falls_no, begun_step, none_more}
use Rattle.log_law.proofs.ToldKeys.{told_read}
use Rattle.log_law.proofs.fallen.first_fall.Goals as goal

pub returns-then-falls : goal.returns-then-falls
returns-then-falls c =
    let lt : c.loop-j.j < length c.args.history.now = c.loop-j-test.true in
    let here = told_read forced_key _ _ _ lt c.index-history-j.is ∙ sym c.forced_key.ensures.told in
    record {
      within = omega arith;
      none = c.loop-j.invariant.none;
      falls = λ _. falls_yes c.args.history.now c.args.row c.args.reach c.loop-j.j c.loop-j.begun c.loop-j.invariant.begun c.forced_key.result here (sym c.falls.ensures ∙ c.if-falls.true);
    }

pub loop-j-preserved : goal.loop-j-preserved
loop-j-preserved c =
    let lt : c.loop-j.j < length c.args.history.now = c.loop-j-test.true in
    let here = told_read forced_key _ _ _ lt c.index-history-j.is ∙ sym c.forced_key.ensures.told in
    let begins = told_read begun_key _ _ _ lt c.index-history-j-in-loop-j.is ∙ sym c.event_key.ensures in
    record {
      after = omega arith;
      begun = begun_step c.args.history.now c.args.row c.args.reach c.loop-j.j c.loop-j.begun c.loop-j.invariant.begun c.loop-j.invariant.after c.note.new.begun c.event_key.result begins c.in_ok-note.ensures;
      none =
          none_more c.args.history.now c.args.row c.args.reach c.loop-j.j c.loop-j.invariant.none
          (falls_no c.args.history.now c.args.row c.args.reach c.loop-j.j c.loop-j.begun c.loop-j.invariant.begun c.forced_key.result here (sym c.falls.ensures ∙ c.if-falls.false));
    }

pub returns : goal.returns
returns c = record {
  within = omega arith;
  none = λ k lt. c.loop-j.invariant.none k (omega arith);
  falls = λ lt. absurd (omega arith);
}
