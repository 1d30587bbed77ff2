use Rattle.log_law.proofs.FirstFalls.{no_fall, first_fall_found}
use Rattle.log_law.proofs.fallen.tails_breach.Goals as goal

pub returns-then-row-history : goal.returns-then-row-history
returns-then-row-history c =
    no_fall c.args.history.now c.in_ok-lows.lows.items c.in_ok-bounds.bounds.items c.deref.result.now c.deref-2.result.now c.first_row-row.result c.in_ok-bounds.ensures c.deref.ensures.value c.deref-2.ensures.value
    c.in_ok-lows.ensures.each c.in_ok-lows.ensures.long c.first_row-row.ensures.row c.if-row-history.true

pub returns : goal.returns
returns c =
    first_fall_found c.args.history.now c.in_ok-lows.lows.items c.in_ok-bounds.bounds.items c.deref.result.now c.deref-2.result.now c.first_row-row.result c.in_ok-bounds.ensures c.deref.ensures.value c.deref-2.ensures.value
    c.in_ok-lows.ensures.each c.in_ok-lows.ensures.long c.first_row-row.ensures.row c.index.result.now c.in_ok-first_fall.field-0 c.if-row-history.false c.index.ensures c.first_row-row.ensures.fits c.in_ok-first_fall.ensures
