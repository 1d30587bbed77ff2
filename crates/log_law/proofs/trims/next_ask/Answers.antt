use Rattle.std.proofs.Common.{ℕ, ◌+◌, List, Option, length, refl, ap, ◌∙◌, subst, arith}
use Rattle.std.proofs.lemmas.List.{length-map}
use Rattle.std.proofs.lemmas.Option.{slice_get_read}
use Rattle.log_law.specs.declared.told.Told.TheVariants.{Asked}
use Rattle.log_law.specs.Told.{event_key}
use Rattle.log_law.specs.Keys.{IsNext}
use Rattle.log_law.proofs.ReadEnds.{none_after, asks_floor}
use Rattle.log_law.proofs.trims.next_ask.Goals as goal

pub loop-n-preserved : goal.loop-n-preserved
loop-n-preserved c =
    let w = c.requires.within in
    let t = c.loop-n-test.true in
    let here = slice_get_read c.args.history.now (length c.args.history.now) c.loop-n.n c.index-history-n.result refl (omega arith) c.index-history-n.is in
    let next = subst (λ (ks : List (Option (ℕ × ℕ))). IsNext ks (c.loop-n.n + 1) c.args.key c.next-n.result) c.requires.asked c.next-n.ensures in
    record {
      after = let a = c.next-n.ensures.at_least in let b = c.loop-n.invariant.after in omega arith;
      stands = λ lt. c.next-n.ensures.stands (omega (arith, ap length c.requires.asked, length-map c.args.history.now (event_key Asked)));
      none = none_after c.args.history.now c.args.key c.args.floor c.args.j c.args.i c.loop-n.n c.next-n.result next c.loop-n.invariant.none
          (λ e. c.if-floor_of-floor.false (c.floor_of.ensures ∙ asks_floor c.args.history.now _ c.args.floor c.loop-n.n c.index-history-n.result here e));
    }
