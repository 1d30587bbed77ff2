use Rattle.std.proofs.Common.{◌≡◌, ◌+◌, ◌^◌, ◌<◌, ◌≤◌, length, ap, ◌∙◌, sym, arith}
use Rattle.std.proofs.lemmas.Bool.{ltb-true}
use Rattle.lazy_rules.specs.Flight.{flight_end}
use Rattle.lazy_rules.specs.SeqRules.{has_positions}
use Rattle.lazy_rules.specs.SeqState.{SeqState}
use Rattle.seq_node.specs.Beginning.{pending_end}
use Rattle.seq_node.specs.NodeView.{seq_of}
use Rattle.seq_node.proofs.Parts.{end_above, last_end}
use Rattle.seq_node.proofs.node.SeqNode.flight_end.Goals as goal

pub overflow_add-result : goal.overflow_add-result
overflow_add-result c =
    let s : SeqState = seq_of c.self.inside in
    let total : flight_end s.bound s.flight ≡ c.batch-last.result.from + c.batch-last.result.count =
    last_end s.flight s.bound _ c.batch-last.result c.batch-last.ensures (omega (arith, c.flight-count.ensures.count, c.if-count-eq0.false)) in
    let fits : s.bound + length s.pending < 2 ^ 32 = ltb-true (s.bound + length s.pending) (2 ^ 32) (ap has_positions c.self.view_is ∙ c.requires) in
    omega (arith, total, c.self.invariant.ends, fits)

pub returns-clause-is : goal.returns-clause-is
returns-clause-is c =
    let s : SeqState = seq_of c.self.inside in
    let total : flight_end s.bound s.flight ≡ c.batch-last.result.from + c.batch-last.result.count =
    last_end s.flight s.bound _ c.batch-last.result c.batch-last.ensures (omega (arith, c.flight-count.ensures.count, c.if-count-eq0.false)) in
    sym total ∙ ap (λ (x : SeqState). flight_end x.bound x.flight) c.self.view_is

pub returns-clause-above : goal.returns-clause-above
returns-clause-above c =
    let s : SeqState = seq_of c.self.inside in
    let total : flight_end s.bound s.flight ≡ c.batch-last.result.from + c.batch-last.result.count =
    last_end s.flight s.bound _ c.batch-last.result c.batch-last.ensures (omega (arith, c.flight-count.ensures.count, c.if-count-eq0.false)) in
    let past : s.bound ≤ flight_end s.bound s.flight = end_above s.flight s.bound c.flight-count.ensures.sound c.self.invariant.starts in
    let same : s.bound ≡ c.args.self.now.bound = ap (λ (x : SeqState). x.bound) c.self.view_is in
    omega (arith, total, past, same)

pub returns-clause-within : goal.returns-clause-within
returns-clause-within c =
    let s : SeqState = seq_of c.self.inside in
    let total : flight_end s.bound s.flight ≡ c.batch-last.result.from + c.batch-last.result.count =
    last_end s.flight s.bound _ c.batch-last.result c.batch-last.ensures (omega (arith, c.flight-count.ensures.count, c.if-count-eq0.false)) in
    let same : pending_end s ≡ pending_end c.args.self.now = ap pending_end c.self.view_is in
    omega (arith, total, c.self.invariant.ends, same)
