use Rattle.std.proofs.Common.{◌≡◌, ◌+◌, ◌-◌, ◌<◌, ℕ, length, sym, subst, ◌∙◌, arith}
use Rattle.std.specs.Prelude.{slice_set}
use Rattle.log_law.specs.Tails.{forced_key, begun_key, AreTailsFrom}
use Rattle.log_law.proofs.LeastTails.{tails_step}
use Rattle.log_law.proofs.ToldKeys.{told_read}
use Rattle.log_law.proofs.tails.least_tails.Goals as goal

pub loop-b-preserved : goal.loop-b-preserved
loop-b-preserved c =
    let same : c.loop-b.b ≡ c.loop-b.b - 1 + 1 = omega arith in
    let lt : c.loop-b.b - 1 < length c.args.history.now = omega arith in
    let tails : AreTailsFrom c.args.history.now (c.loop-b.b - 1 + 1) c.loop-b.tails c.loop-b.made.items = subst (λ (x : ℕ). AreTailsFrom c.args.history.now x c.loop-b.tails c.loop-b.made.items) same c.loop-b.invariant.tails in
    record {
      within = omega arith;
      tails =
          subst (λ (x : ℕ). AreTailsFrom c.args.history.now (c.loop-b.b - 1) c.lower.new.tails (slice_set c.loop-b.made.items (c.loop-b.b - 1) x)) (sym c.tail_of.ensures)
          (tails_step c.args.history.now (c.loop-b.b - 1) c.loop-b.tails c.lower.new.tails c.loop-b.made.items c.event_key.result c.forced_key.result lt tails
          (told_read begun_key _ _ _ lt c.index-history-b.is ∙ sym c.event_key.ensures) (told_read forced_key _ _ _ lt c.index-history-b-in-loop-b.is ∙ sym c.forced_key.ensures.told)
          c.forced_key.ensures.fits c.in_ok-lower.ensures);
    }
