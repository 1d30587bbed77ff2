use Rattle.std.proofs.Common.{◌≡◌, ◌+◌, ◌-◌, ◌<◌, ℕ, length, subst, sym, arith}
use Rattle.log_law.specs.Pairs.{IsFirstRow, IsLeastFrom}
use Rattle.log_law.proofs.Rows.{least_init, least_keep, least_take, row_init, row_keep, row_take}
use Rattle.log_law.proofs.pairs.first_row.Goals as goal
use Rattle.log_law.proofs.pairs.first_row.Goals.{then-least-bounds, else-least-bounds}

pub loop-i-init : goal.loop-i-init
loop-i-init c = record { within = omega arith; found = row_init _ _; lowest = least_init _ }

pub loop-i-preserved-then-lows-i : goal.loop-i-preserved-then-lows-i
loop-i-preserved-then-lows-i c =
    let same : c.loop-i.i ≡ c.loop-i.i - 1 + 1 = omega arith in
    let inside : c.loop-i.i - 1 < length c.args.lows.now = omega arith in
    let found : IsFirstRow c.args.bounds.now c.args.lows.now (c.loop-i.i - 1 + 1) c.loop-i.row = subst (λ (x : ℕ). IsFirstRow c.args.bounds.now c.args.lows.now x c.loop-i.row) same c.loop-i.invariant.found in
    let lowest : IsLeastFrom c.args.lows.now (c.loop-i.i - 1 + 1) c.loop-i.least = subst (λ (x : ℕ). IsLeastFrom c.args.lows.now x c.loop-i.least) same c.loop-i.invariant.lowest in
    record {
      within = omega arith;
      found = elim c.if-least-bounds.branch [
        | then-least-bounds w ↦
            subst (λ (x : ℕ). IsFirstRow c.args.bounds.now c.args.lows.now (c.loop-i.i - 1) x) (sym w.row-is)
            (row_take _ _ _ _ inside lowest (omega (arith, c.type_inv.bounds (c.loop-i.i - 1))) w.if-least-bounds.true)
        | else-least-bounds w ↦
            subst (λ (x : ℕ). IsFirstRow c.args.bounds.now c.args.lows.now (c.loop-i.i - 1) x) (sym w.row-is) (row_keep _ _ _ _ _ lowest w.if-least-bounds.false found)
      ];
      lowest = least_take _ _ _ inside lowest c.if-lows-i.true;
    }

pub loop-i-preserved : goal.loop-i-preserved
loop-i-preserved c =
    let same : c.loop-i.i ≡ c.loop-i.i - 1 + 1 = omega arith in
    let inside : c.loop-i.i - 1 < length c.args.lows.now = omega arith in
    let found : IsFirstRow c.args.bounds.now c.args.lows.now (c.loop-i.i - 1 + 1) c.loop-i.row = subst (λ (x : ℕ). IsFirstRow c.args.bounds.now c.args.lows.now x c.loop-i.row) same c.loop-i.invariant.found in
    let lowest : IsLeastFrom c.args.lows.now (c.loop-i.i - 1 + 1) c.loop-i.least = subst (λ (x : ℕ). IsLeastFrom c.args.lows.now x c.loop-i.least) same c.loop-i.invariant.lowest in
    record {
      within = omega arith;
      found = elim c.if-least-bounds.branch [
        | then-least-bounds w ↦
            subst (λ (x : ℕ). IsFirstRow c.args.bounds.now c.args.lows.now (c.loop-i.i - 1) x) (sym w.row-is)
            (row_take _ _ _ _ inside lowest (omega (arith, c.type_inv.bounds (c.loop-i.i - 1))) w.if-least-bounds.true)
        | else-least-bounds w ↦
            subst (λ (x : ℕ). IsFirstRow c.args.bounds.now c.args.lows.now (c.loop-i.i - 1) x) (sym w.row-is) (row_keep _ _ _ _ _ lowest w.if-least-bounds.false found)
      ];
      lowest = least_keep _ _ _ lowest c.if-lows-i.false;
    }
