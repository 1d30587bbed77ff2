use Rattle.std.proofs.Common.{◌∙◌}
use Rattle.log_law.proofs.BehindReads.{behind_found}
use Rattle.log_law.proofs.behind.behind_breach.Goals as goal

pub returns : goal.returns
returns c =
    behind_found c.args.history.now c.args.line.now c.in_ok-named.named c.deref.result.now c.in_ok-bounds.bounds.items c.deref-2.result.now c.in_ok-lows.lows.items c.deref-3.result.now c.first_pair.result
    (c.in_ok-named.ensures ∙ c.in_ok-entry_keys.ensures) (c.deref.ensures.value ∙ c.in_ok-invoked.ensures) c.in_ok-bounds.ensures c.deref-2.ensures.value c.deref-3.ensures.value
    c.in_ok-lows.ensures.each c.in_ok-lows.ensures.long c.first_pair.ensures.fits c.first_pair.ensures.found
