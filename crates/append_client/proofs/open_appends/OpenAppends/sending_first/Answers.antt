use Rattle.std.proofs.Common.{◌≡◌, ◌∙◌, ◌+◌, ◌++◌, ◌<◌, ℕ, List, Some, None, length, drop, take, refl, sym, ap, arith}
use Rattle.std.specs.Prelude.{slice_get}
use Rattle.std.specs.List.{flat_map}
use Rattle.lazy_msgs.specs.declared.msg.Msg.{Msg}
use Rattle.lazy_rules.specs.ClientRules.{sending}
use Rattle.lazy_rules.specs.ClientState.{OpenAppend}
use Rattle.append_client.specs.Appends.{taken}
use Rattle.append_client.specs.Sender.{sender}
use Rattle.append_client.proofs.Slots.{got}
use Rattle.append_client.proofs.SlotWalks.{rest_empty, sent_next}
use Rattle.append_client.proofs.open_appends.OpenAppends.sending_first.Goals as goal
use Rattle.append_client.proofs.open_appends.OpenAppends.sending_first.Goals.{in-Some+in_ok-put_one, in_default}

pub loop-i-preserved : goal.loop-i-preserved
loop-i-preserved c =
    let slots = c.self.inside.slots.items in
    let f : OpenAppend → List (ℕ × Msg) = sending (sender c.args.shape.now c.args.config.now c.args.client) in
    let inside : c.loop-i.i < length slots = omega (arith, c.loop-i-test.true, c.len-i-end.ensures, c.self.inside.slots.ok) in
    let read = got slots c.loop-i.i c.index.result.now inside c.index.ensures in
    elim c.match-index.branch [
      | in-Some+in_ok-put_one w ↦
          let there : slice_get slots c.loop-i.i ≡ Some (Some w.in-Some.append) = read ∙ ap Some w.in-Some.is in
          let some : c.loop-i.left ≡ c.match-index.left + 1 = omega (arith, w.left-is, c.if-left-eq0.false) in
          ap (λ (l : List (ℕ × Msg)). l ++ flat_map f (take c.match-index.left (taken (drop (c.loop-i.i + 1) slots))))
          (w.sends-is ∙ w.in_ok-put_one.ensures)
          ∙ sent_next f slots c.loop-i.i (c.loop-i.i + 1) c.loop-i.left c.match-index.left w.in-Some.append c.loop-i.sends refl there some
          ∙ c.loop-i.invariant
      | in_default w ↦
          let there : slice_get slots c.loop-i.i ≡ Some None = read ∙ ap Some w.in_default.is in
          ap (λ (l : List (ℕ × Msg)). l ++ flat_map f (take c.match-index.left (taken (drop (c.loop-i.i + 1) slots)))) w.sends-is
          ∙ ap (λ (n : ℕ). c.loop-i.sends ++ flat_map f (take n (taken (drop (c.loop-i.i + 1) slots)))) w.left-is
          ∙ ap (λ (l : List OpenAppend). c.loop-i.sends ++ flat_map f (take c.loop-i.left l)) (sym (rest_empty slots c.loop-i.i (c.loop-i.i + 1) refl there))
          ∙ c.loop-i.invariant
    ]
