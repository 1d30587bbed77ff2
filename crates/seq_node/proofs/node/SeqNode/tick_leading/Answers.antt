use Rattle.std.proofs.Common.{◌≡◌, ℕ, ◌++◌, List, ap, ◌∙◌, sym, subst, arith}
use Rattle.std.specs.Prelude.{flat_map}
use Rattle.lazy_msgs.specs.declared.msg.Msg.{Msg}
use Rattle.lazy_msgs.specs.declared.refused.StepRefused.TheVariants.{Over}
use Rattle.lazy_msgs.specs.Step.{Row, StepsTo}
use Rattle.lazy_rules.specs.Leading.{begins, place_sends, resends}
use Rattle.lazy_rules.specs.Rows.{followed, joined, sends_all}
use Rattle.lazy_rules.specs.SeqState.{SeqState}
use Rattle.seq_node.specs.Beginning.{begun, pending_end, with_begun}
use Rattle.seq_node.proofs.Beginning.{begins_is, beginning}
use Rattle.seq_node.proofs.node.SeqNode.tick_leading.Goals as goal

pub returns : goal.returns
returns c =
    let s : SeqState = c.args.self.now in
    let room = c.min-room.result in
    let end = pending_end s in
    let limit = c.pending_end-end.result in
    let from = c.flight_end-from.result in
    let t : List (ℕ × Msg) = c.send_again.new.sends in
    let u : List (ℕ × Msg) = c.add_begun.new.sends in
    let again : List (ℕ × Msg) = flat_map (resends s) s.flight in
    let sent : u ≡ again ++ flat_map (place_sends s) (begun room from end limit) =
    c.in_ok-add_begun.ensures ∙ ap (λ (x : List (ℕ × Msg)). x ++ flat_map (place_sends s) (begun room from end limit)) (c.in_ok-send_again.ensures ∙ ap (λ (x : List (ℕ × Msg)). x ++ again) c.new-sends.ensures) in
    let there : u ≡ again ++ (beginning s room limit).sends =
    sent ∙ ap (λ (n : ℕ). again ++ flat_map (place_sends s) (begun room n end limit)) c.flight_end-from.ensures.is in
    let row : sends_all (with_begun s room limit) u ≡ followed (sends_all s again) begins =
    ap (sends_all (with_begun s room limit)) there
    ∙ ap (λ (n : ℕ). joined (sends_all s again) (beginning s room n)) c.pending_end-end.ensures
    ∙ sym (ap (joined (sends_all s again)) (begins_is s room (omega (arith, c.min-room.ensures, c.room.ensures)) (omega (arith, c.flight_end-from.ensures.is, c.flight_end-from.ensures.above)) (omega (arith, c.flight_end-from.ensures.is, c.flight_end-from.ensures.within)))) in
    subst (λ (r : Row SeqState). StepsTo r s c.send_begun.new.self c.args.out.now c.send_begun.new.out c.send_begun.result Over) row c.send_begun.ensures
