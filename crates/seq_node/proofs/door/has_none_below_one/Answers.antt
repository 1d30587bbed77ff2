use Rattle.std.proofs.Common.{◌≡◌, ◌+◌, ◌-◌, sym, ◌∙◌, ap, true, false, List, ℕ, arith}
use Rattle.rec_id.specs.Marks.{bit_of}
use Rattle.seq_node.proofs.Forms.{skip, set, clear}
use Rattle.seq_node.proofs.door.has_none_below_one.Goals as goal

pub loop-i-init : goal.loop-i-init
loop-i-init c = record {
  same = skip c.args.marks.now c.min-i.result 0 c.min-i.result c.args.window (c.args.window - c.min-i.result) (omega arith) (omega (arith, c.min-i.ensures)) (omega (arith, c.min-i.ensures));
  above = λ inside. omega (arith, c.min-i.ensures);
  within = omega (arith, c.min-i.ensures);
}

pub returns-then-bit : goal.returns-then-bit
returns-then-bit c =
    let here : bit_of c.args.marks.now.bits c.loop-i.i ≡ true = ap (λ (w : List ℕ). bit_of w c.loop-i.i) (sym c.as_slice.ensures) ∙ sym c.bit.ensures ∙ c.if-bit.true in
    sym (c.loop-i.invariant.same ∙ set c.args.marks.now c.loop-i.i _ (c.args.window - (c.loop-i.i + 1)) (omega (arith, c.loop-i-test.true)) (c.loop-i.invariant.above c.loop-i-test.true) here)

pub loop-i-preserved : goal.loop-i-preserved
loop-i-preserved c =
    let here : bit_of c.args.marks.now.bits c.loop-i.i ≡ false = ap (λ (w : List ℕ). bit_of w c.loop-i.i) (sym c.as_slice.ensures) ∙ sym c.bit.ensures ∙ c.if-bit.false in
    record {
      same = c.loop-i.invariant.same ∙ clear c.args.marks.now c.loop-i.i _ (c.args.window - (c.loop-i.i + 1)) (omega (arith, c.loop-i-test.true)) (c.loop-i.invariant.above c.loop-i-test.true) here;
      above = λ inside. omega (arith, c.loop-i.invariant.above c.loop-i-test.true);
      within = omega (arith, c.loop-i-test.true);
    }
