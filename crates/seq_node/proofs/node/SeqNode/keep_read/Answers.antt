use Rattle.std.proofs.Common.{ℕ, Bool, cond, List, ap, ◌∙◌}
use Rattle.binder.specs.Binding.{Binding, probes_with}
use Rattle.lazy_rules.specs.Flight.{Probe, with_probe}
use Rattle.lazy_rules.specs.SeqState.{SeqState}
use Rattle.seq_node.specs.NodeView.{seq_of}
use Rattle.seq_node.proofs.Beginning.{kept_read}
use Rattle.seq_node.proofs.node.SeqNode.keep_read.Goals as goal

pub invariant_of-self : goal.invariant_of-self
invariant_of-self c =
    rw c.probe.ensures.next (kept_read (seq_of c.self.inside) _ _ _ c.self.invariant _)

pub returns : goal.returns
returns c =
    let s : SeqState = c.args.self.now in
    let held : SeqState = seq_of c.self.inside in
    let probe : Probe = record { client = c.args.client; read = c.args.read; target = c.pending_end-target.result } in
    let with_reads : List Probe → SeqState = λ l. record s { probes = l } in
    let waiting : ℕ → Probe = λ n. record { client = c.args.client; read = c.args.read; target = n } in
    let with_target : ℕ → SeqState = λ n. with_reads (with_probe s.probes (waiting n)) in
    let after : SeqState → List Probe → SeqState = λ x l. record x { probes = l } in
    let with_binder : Binding → SeqState = λ b. record held { flight = b.flight; probes = b.probes } in
    ap with_binder c.probe.ensures.next
    ∙ ap (λ (x : SeqState). after x (probes_with x.probes probe)) c.self.view_is
    ∙ ap (λ (b : Bool). with_reads (cond b s.probes (with_probe s.probes probe))) c.requires.new
    ∙ ap with_target c.pending_end-target.ensures
