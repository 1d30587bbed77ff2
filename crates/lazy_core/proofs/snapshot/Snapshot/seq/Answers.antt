use Rattle.std.proofs.Common.{Some, ◌∙◌, ap, sym}
use Rattle.lazy_core.proofs.Seats.{no_seq, seq_found, seq_in}
use Rattle.lazy_core.proofs.snapshot.Snapshot.seq.Goals as goal

pub returns-in_err-seq : goal.returns-in_err-seq
returns-in_err-seq c = rw c.from_residual.ensures (ap seq_in c.in_err-seq.ensures.state ∙ sym (seq_found c.args.self.now c.state.ensures.laid c.args.node))

pub returns-in-Seq : goal.returns-in-Seq
returns-in-Seq c = sym (ap (λ x. seq_in (Some x)) c.in-Seq.is) ∙ ap seq_in c.in_ok-seq.ensures.state ∙ sym (seq_found c.args.self.now c.state.ensures.laid c.args.node)

pub returns-in_default : goal.returns-in_default
returns-in_default c = sym (no_seq c.in_ok-seq.field-0.now c.in_default.not-Seq) ∙ ap seq_in c.in_ok-seq.ensures.state ∙ sym (seq_found c.args.self.now c.state.ensures.laid c.args.node)
