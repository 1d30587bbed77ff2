use Rattle.std.proofs.Common.{inr, refl}
use Rattle.io_edges.proofs.TellingLemmas.{stops_same}
use Rattle.journal_top.proofs.top.close.Goals as goal

pub returns-in-Err-clause-closed : goal.returns-in-Err-clause-closed
returns-in-Err-clause-closed g c = record { outcome = inr (inr refl); front = stops_same _ _; none = λ e. (refl, inr refl) }
