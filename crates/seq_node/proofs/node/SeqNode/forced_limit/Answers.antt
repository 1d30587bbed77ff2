use Rattle.std.proofs.Common.{◌∙◌, ap, sym, arith}
use Rattle.std.proofs.lemmas.Bool.{le-ltb}
use Rattle.lazy_rules.specs.Flight.{waits_above}
use Rattle.lazy_rules.specs.SeqState.{SeqState}
use Rattle.seq_node.specs.NodeView.{seq_of}
use Rattle.seq_node.proofs.Forcing.{waits_some, waits_none}
use Rattle.seq_node.proofs.Leaving.{below_least}
use Rattle.seq_node.proofs.node.SeqNode.forced_limit.Goals as goal

pub returns-in-Some-clause-waits : goal.returns-in-Some-clause-waits
returns-in-Some-clause-waits c = λ p below.
    let h : SeqState = seq_of c.self.inside in
    sym (ap (λ (x : SeqState). waits_above x.probes p) c.self.view_is)
    ∙ waits_some h.probes p c.in-Some.target (sym c.greatest.ensures ∙ c.in-Some.is)
    ∙ below_least p c.in-Some.target c.pending_end-end.result c.min.result (omega (arith, below, c.pending_end-end.ensures)) c.min.ensures

pub returns-in-None-clause-waits : goal.returns-in-None-clause-waits
returns-in-None-clause-waits c = λ p below.
    let h : SeqState = seq_of c.self.inside in
    sym (ap (λ (x : SeqState). waits_above x.probes p) c.self.view_is)
    ∙ waits_none h.probes p (sym c.greatest.ensures ∙ c.in-None.is) ∙ sym (le-ltb p 0 (omega arith))
