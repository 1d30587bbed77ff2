use Rattle.std.proofs.Common.{inr, refl}
use Rattle.io_edges.proofs.TellingLemmas.{stops_same}
use Rattle.lazylog_trace.proofs.top.close.Goals as goal

pub returns-in_default-clause-closed : goal.returns-in_default-clause-closed
returns-in_default-clause-closed g c = record { outcome = inr (inr refl); front = stops_same _ _; none = λ e. (refl, inr refl) }
