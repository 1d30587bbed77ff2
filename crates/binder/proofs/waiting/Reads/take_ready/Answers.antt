use Rattle.std.proofs.Common.{◌≡◌, Some, None, length, refl, sym, ap, ◌∙◌, rules}
use Rattle.std.specs.List.{position, slice_get}
use Rattle.std.proofs.lemmas.Option.{slice_get_read}
use Rattle.lazy_rules.specs.Flight.{is_ready, ready}
use Rattle.binder.specs.Binding.{after_ready}
use Rattle.binder.proofs.Waits.{found_ready, none_ready, roster_left}
use Rattle.binder.proofs.waiting.Reads.take_ready.Goals as goal

pub invariant_of-self : goal.invariant_of-self
invariant_of-self c =
    let reads = c.self.inside.waiting.items in
    let found : position (is_ready c.args.bound) reads ≡ Some c.in-Some.i = search rules in
    let are = found_ready c.args.bound reads c.in-Some.i found in
    rw (c.remove-read.ensures.items, c.remove-read.ensures.capacity, ← are.2)
    (roster_left c.args.bound reads _ c.self.invariant)

pub returns-in-Some-clause-first : goal.returns-in-Some-clause-first
returns-in-Some-clause-first c =
    let reads = c.self.inside.waiting.items in
    let found : position (is_ready c.args.bound) reads ≡ Some c.in-Some.i = search rules in
    let are = found_ready c.args.bound reads c.in-Some.i found in
    let read : slice_get reads c.in-Some.i ≡ Some c.remove-read.result =
    slice_get_read reads (length reads) c.in-Some.i c.remove-read.result refl are.0 c.remove-read.ensures.value in
    ap Some c.read.view_is ∙ sym read ∙ sym are.1 ∙ ap (ready c.args.bound) c.self.view_is

pub returns-in-Some-clause-next : goal.returns-in-Some-clause-next
returns-in-Some-clause-next c =
    let reads = c.self.inside.waiting.items in
    let found : position (is_ready c.args.bound) reads ≡ Some c.in-Some.i = search rules in
    let are = found_ready c.args.bound reads c.in-Some.i found in
    c.remove-read.ensures.items ∙ sym are.2 ∙ ap (after_ready c.args.bound) c.self.view_is

pub returns-in-None-clause-first : goal.returns-in-None-clause-first
returns-in-None-clause-first c =
    let none : position (is_ready c.args.bound) c.args.self.now ≡ None = search rules in
    sym (none_ready c.args.bound c.args.self.now none).0

pub returns-in-None-clause-next : goal.returns-in-None-clause-next
returns-in-None-clause-next c =
    let none : position (is_ready c.args.bound) c.args.self.now ≡ None = search rules in
    sym (none_ready c.args.bound c.args.self.now none).1
