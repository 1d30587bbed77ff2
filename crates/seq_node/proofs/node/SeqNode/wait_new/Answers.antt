use Rattle.std.proofs.Common.{◌≡◌, ℕ, ◌-◌, ◌<◌, ◌≤◌, ◌++◌, List, ltb, length, ap, ◌∙◌, sym, subst, arith}
use Rattle.std.specs.Prelude.{flat_map}
use Rattle.std.proofs.lemmas.Bool.{lt-ltb}
use Rattle.lazy_msgs.specs.declared.msg.Msg.{Msg}
use Rattle.lazy_msgs.specs.declared.msg.Msg.TheVariants.{ProbeAck}
use Rattle.lazy_msgs.specs.declared.refused.StepRefused.TheVariants.{Over}
use Rattle.lazy_msgs.specs.Step.{Row, StepsTo}
use Rattle.lazy_rules.specs.Flight.{waits_above}
use Rattle.lazy_rules.specs.Leading.{forces, forcing, place_sends}
use Rattle.lazy_rules.specs.Rows.{answers, followed, joined, sends_all}
use Rattle.lazy_rules.specs.SeqRules.{with_waiting}
use Rattle.lazy_rules.specs.SeqState.{SeqState}
use Rattle.lazy_rules.specs.declared.limits.TheConstants.{FLIGHT_LIMIT}
use Rattle.seq_node.specs.Beginning.{begun, pending_end, with_begun}
use Rattle.seq_node.proofs.Beginning.{beginning, forcing_is, probe_waits}
use Rattle.seq_node.proofs.node.SeqNode.wait_new.Goals as goal

pub returns : goal.returns
returns c =
    let s : SeqState = c.args.self.now in
    let client = c.args.client in
    let read = c.args.read in
    let x : SeqState = with_waiting s client read in
    let end = pending_end s in
    let room = c.room-room.result in
    let limit = c.pending_end-end.result in
    let ack : Row SeqState = answers s client (ProbeAck c.args.view read) in
    let u : List (ℕ × Msg) = c.add_begun.new.sends in
    let from_is = c.flight_end-from.ensures.is in
    let part : ℕ → List (ℕ × Msg) = λ from. flat_map (place_sends s) (begun room from end limit) in
    let sent : u ≡ ack.sends ++ (beginning x room limit).sends =
    c.in_ok-add_begun.ensures
    ∙ ap (λ (l : List (ℕ × Msg)). l ++ part c.flight_end-from.result) (c.in_ok-push.ensures.ok ∙ ap (λ (l : List (ℕ × Msg)). l ++ ack.sends) c.new-sends.ensures)
    ∙ ap (λ (n : ℕ). ack.sends ++ part n) from_is in
    let waiting : (p : ℕ) → x.bound ≤ p → p < pending_end x → waits_above x.probes p ≡ ltb p limit =
    λ p above below. probe_waits s.probes (record { client = client; read = read; target = end }) p below ∙ sym (lt-ltb p limit (omega (arith, below, c.pending_end-end.ensures))) in
    let room_is : FLIGHT_LIMIT - length s.flight ≡ room = omega (arith, c.room-room.ensures) in
    let forced : forces x ≡ beginning x room limit =
    ap (λ (n : ℕ). forcing n x) room_is
    ∙ forcing_is room x limit (omega (arith, c.room-room.ensures)) (omega (arith, from_is, c.flight_end-from.ensures.above)) (omega (arith, c.pending_end-end.ensures)) waiting (omega (arith, from_is, c.flight_end-from.ensures.within)) in
    let row : sends_all (with_begun x room limit) u ≡ followed ack (λ after. forces (with_waiting after client read)) =
    ap (sends_all (with_begun x room limit)) sent ∙ sym (ap (joined ack) forced) in
    subst (λ (r : Row SeqState). StepsTo r s c.send_waiting.new.self c.args.out.now c.send_waiting.new.out c.send_waiting.result Over) row c.send_waiting.ensures
