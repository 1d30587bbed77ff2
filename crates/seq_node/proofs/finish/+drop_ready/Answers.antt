use Rattle.std.proofs.Common.{◌≡◌, List, length, ap, ◌∙◌, sym, Some, None, arith}
use Rattle.lazy_rules.specs.Flight.{Probe, ready, waiting_probes}
use Rattle.binder.specs.Binding.{Binding, after_ready, probe_of}
use Rattle.binder.proofs.ReadyReads.{one_taken, one_fewer, none_left}
use Rattle.seq_node.proofs.Forcing.{after_none}
use Rattle.seq_node.proofs.finish.+drop_ready.Goals as goal

pub drop_ready-requires : goal.drop_ready-requires
drop_ready-requires t c =
    let probes : List Probe = c.args.binder.now.probes in
    let some : ready c.args.bound probes ≡ Some (probe_of c.in-Some.probe) = sym c.in-Some.ensures.first in
    let next : length c.ready.new.self.probes ≡ length (after_ready c.args.bound probes) = ap (λ (b : Binding). length b.probes) c.ready.ensures.next in
    (omega (arith, one_fewer c.args.bound probes _ some, next, c.decreases), tt)

pub returns-in-Some : goal.returns-in-Some
returns-in-Some t c =
    let old : Binding = c.args.binder.now in
    let some : ready c.args.bound old.probes ≡ Some (probe_of c.in-Some.probe) = sym c.in-Some.ensures.first in
    let with_probes : List Probe → Binding = λ l. record old { probes = l } in
    c.drop_ready.ensures
    ∙ ap (λ (b : Binding). let kept : Binding = record b { probes = waiting_probes c.args.bound b.probes } in kept) c.ready.ensures.next
    ∙ ap with_probes (sym (one_taken c.args.bound old.probes _ some).1)

pub returns-in-None : goal.returns-in-None
returns-in-None t c =
    let old : Binding = c.args.binder.now in
    let none : ready c.args.bound old.probes ≡ None = sym c.in-None.ensures.first in
    let with_probes : List Probe → Binding = λ l. record old { probes = l } in
    c.ready.ensures.next ∙ ap with_probes (after_none c.args.bound old.probes none ∙ sym (none_left c.args.bound old.probes none).1)
