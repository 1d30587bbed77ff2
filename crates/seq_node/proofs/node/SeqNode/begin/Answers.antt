use Rattle.std.proofs.Common.{◌≡◌, ℕ, ◌++◌, true, ap, sym, ◌∙◌, arith}
use Rattle.binder.specs.Binding.{Binding}
use Rattle.lazy_rules.specs.Flight.{flight_end}
use Rattle.lazy_rules.specs.SeqRules.{is_leader}
use Rattle.lazy_rules.specs.SeqState.{SeqState}
use Rattle.seq_node.specs.Beginning.{begun, pending_end}
use Rattle.seq_node.specs.NodeView.{seq_of}
use Rattle.seq_node.proofs.Beginning.{kept_begun}
use Rattle.seq_node.proofs.node.SeqNode.begin.Goals as goal

pub invariant_of-self : goal.invariant_of-self
invariant_of-self c =
    let s : SeqState = seq_of c.self.inside in
    let leads : is_leader s ≡ true = ap is_leader c.self.view_is ∙ c.requires.leads in
    let end : c.pending_end-end.result ≡ pending_end s = c.pending_end-end.ensures ∙ sym (ap pending_end c.self.view_is) in
    let from : c.flight_end-from.result ≡ flight_end s.bound s.flight = c.flight_end-from.ensures.is ∙ sym (ap (λ (x : SeqState). flight_end x.bound x.flight) c.self.view_is) in
    rw (c.begin_all.ensures, from, end)
    (kept_begun s _ _ _ c.self.invariant leads c.args.room c.args.limit (omega (arith, ap pending_end c.self.view_is, c.requires.within)))

pub returns : goal.returns
returns c =
    let s : SeqState = c.args.self.now in
    let held : SeqState = seq_of c.self.inside in
    let from = c.flight_end-from.result in
    let end = c.pending_end-end.result in
    let with_binder : Binding → SeqState = λ b. record held { flight = b.flight; probes = b.probes } in
    let with_more : SeqState → SeqState = λ x. record x { flight = x.flight ++ begun c.args.room from end c.args.limit } in
    let between : ℕ → ℕ → SeqState = λ m n. record s { flight = s.flight ++ begun c.args.room m n c.args.limit } in
    ap with_binder c.begin_all.ensures ∙ ap with_more c.self.view_is ∙ ap (λ (m : ℕ). between m end) c.flight_end-from.ensures.is
    ∙ ap (between (flight_end s.bound s.flight)) c.pending_end-end.ensures
