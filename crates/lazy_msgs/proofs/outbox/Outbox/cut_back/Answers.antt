use Rattle.std.proofs.Common.{◌≡◌, ◌+◌, ◌-◌, ◌<◌, ◌≤◌, ◌^◌, ◌∙◌, take, drop, length, ap, sym, subst, arith}
use Rattle.std.proofs.lemmas.List.{length-take}
use Rattle.lazy_msgs.specs.Outbox.{Out}
use Rattle.lazy_msgs.specs.Weight.{sends_weight}
use Rattle.lazy_msgs.proofs.Sends.{weight_of_parts}
use Rattle.lazy_msgs.proofs.outbox.Outbox.cut_back.Goals as goal

pub weight_from-cut-requires-clause-bounded : goal.weight_from-cut-requires-clause-bounded
weight_from-cut-requires-clause-bounded c =
    rw c.as_slice.ensures
    (let parts = weight_of_parts c.self.inside.sends c.args.sends in let known : c.self.inside.weight ≡ sends_weight c.self.inside.sends = c.self.invariant.2 in omega arith)

pub overflow_sub-self : goal.overflow_sub-self
overflow_sub-self c =
    let parts = weight_of_parts c.self.inside.sends c.args.sends in
    let known : c.self.inside.weight ≡ sends_weight c.self.inside.sends = c.self.invariant.2 in
    let cut : c.weight_from-cut.result ≡ sends_weight (drop c.args.sends c.self.inside.sends) =
    c.weight_from-cut.ensures ∙ ap (λ s. sends_weight (drop c.args.sends s)) c.as_slice.ensures in
    omega arith

pub invariant_of-self : goal.invariant_of-self
invariant_of-self c =
    let parts = weight_of_parts c.self.inside.sends c.args.sends in
    let known : c.self.inside.weight ≡ sends_weight c.self.inside.sends = c.self.invariant.2 in
    let cut : c.weight_from-cut.result ≡ sends_weight (drop c.args.sends c.self.inside.sends) =
    c.weight_from-cut.ensures ∙ ap (λ s. sends_weight (drop c.args.sends s)) c.as_slice.ensures in
    let messages : length c.self.inside.sends ≤ c.self.inside.room_messages = c.self.invariant.0 in
    let within : c.self.inside.weight ≤ c.self.inside.room_weight = c.self.invariant.1 in
    rw c.truncate.ensures (omega (arith, length-take c.args.sends c.self.inside.sends), omega arith, omega arith)

pub returns : goal.returns
returns c =
    let parts = weight_of_parts c.self.inside.sends c.args.sends in
    let known : c.self.inside.weight ≡ sends_weight c.self.inside.sends = c.self.invariant.2 in
    let cut : c.weight_from-cut.result ≡ sends_weight (drop c.args.sends c.self.inside.sends) =
    c.weight_from-cut.ensures ∙ ap (λ s. sends_weight (drop c.args.sends s)) c.as_slice.ensures in
    let messages : length c.self.inside.sends ≤ c.self.inside.room_messages = c.self.invariant.0 in
    let within : c.self.inside.weight ≤ c.self.inside.room_weight = c.self.invariant.1 in
    let kept : c.args.sends ≤ length c.self.inside.sends = subst (λ (out : Out). c.args.sends ≤ length out.sends) (sym c.self.view_is) c.requires.sends in
    let number : c.self.inside.room_messages - length (take c.args.sends c.self.inside.sends) ≡ (c.self.inside.room_messages - length c.self.inside.sends) + (length c.self.inside.sends - c.args.sends) =
    omega (arith, length-take c.args.sends c.self.inside.sends) in
    let weight : c.self.inside.room_weight - (c.self.inside.weight - c.weight_from-cut.result) ≡ (c.self.inside.room_weight - c.self.inside.weight) + sends_weight (drop c.args.sends c.self.inside.sends) = omega arith in
    rw (← c.self.view_is, c.truncate.ensures, c.truncate-2.ensures, number, weight)
