use Rattle.std.proofs.Common.{◌≡◌, subst}
use Rattle.std.specs.Prelude.{IfOk}
use Rattle.load_gen.specs.Summary.{summary_text}
use Rattle.load_gen.specs.declared.counts.Counts.{Counts}
use Rattle.lazylog_trace.proofs.load.summary_of.Goals as goal

pub returns : goal.returns
returns c = subst (λ (k : Counts). IfOk c.summary.result (λ text. text ≡ summary_text k)) c.in_ok-counts.ensures.counts c.summary.ensures
