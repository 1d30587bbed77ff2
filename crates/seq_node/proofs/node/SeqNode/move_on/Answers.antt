use Rattle.std.proofs.Common.{◌≡◌, ℕ, ◌^◌, ltb, true, ap, sym, ◌∙◌, arith}
use Rattle.binder.proofs.Chains.{same_itself}
use Rattle.lazy_rules.specs.SeqRules.{has_positions, is_leader}
use Rattle.lazy_rules.specs.SeqState.{SeqState}
use Rattle.seq_node.specs.Beginning.{pending_end}
use Rattle.seq_node.specs.Leaving.{once_left}
use Rattle.seq_node.specs.NodeView.{seq_of}
use Rattle.seq_node.proofs.Leaving.{left_end, left_leads}
use Rattle.seq_node.proofs.node.SeqNode.move_on.Goals as goal

pub begin-requires-clause-leads : goal.begin-requires-clause-leads
begin-requires-clause-leads c =
    let h : SeqState = seq_of c.self.inside in
    let fits : has_positions h ≡ true = ap has_positions c.self.view_is ∙ c.requires.fits in
    let leads : is_leader h ≡ true = ap is_leader c.self.view_is ∙ c.requires.leads in
    ap is_leader (c.leave_finished.ensures ∙ sym (ap once_left c.self.view_is))
    ∙ left_leads h _ _ _ c.self.invariant fits h.flight (same_itself h.flight) c.flight.ensures.sound leads

pub begin-requires-clause-fits : goal.begin-requires-clause-fits
begin-requires-clause-fits c =
    let h : SeqState = seq_of c.self.inside in
    let fits : has_positions h ≡ true = ap has_positions c.self.view_is ∙ c.requires.fits in
    ap has_positions (c.leave_finished.ensures ∙ sym (ap once_left c.self.view_is))
    ∙ ap (λ (n : ℕ). ltb n (2 ^ 32)) (left_end h _ _ _ c.self.invariant fits h.flight (same_itself h.flight) c.flight.ensures.sound) ∙ fits

pub begin-requires-clause-within : goal.begin-requires-clause-within
begin-requires-clause-within c =
    let h : SeqState = seq_of c.self.inside in
    let fits : has_positions h ≡ true = ap has_positions c.self.view_is ∙ c.requires.fits in
    let same : pending_end c.leave_finished.new.self ≡ pending_end h =
    ap pending_end (c.leave_finished.ensures ∙ sym (ap once_left c.self.view_is))
    ∙ left_end h _ _ _ c.self.invariant fits h.flight (same_itself h.flight) c.flight.ensures.sound in
    omega (arith, same, c.requires.within, ap pending_end c.self.view_is)
