use Rattle.std.proofs.Common.{◌≡◌, ℕ, ◌++◌, List, Bool, true, cond, not, length, take, ap, ◌∙◌, sym, subst, arith}
use Rattle.std.specs.Prelude.{flat_map}
use Rattle.binder.specs.Binding.{leaving}
use Rattle.binder.proofs.Chains.{same_order}
use Rattle.lazy_msgs.specs.declared.msg.Msg.{Msg}
use Rattle.lazy_msgs.specs.declared.refused.StepRefused.TheVariants.{Over}
use Rattle.lazy_msgs.specs.Step.{Row, StepsTo}
use Rattle.lazy_rules.specs.Flight.{Batch, flight_end, has_ordering, waits_above, with_order}
use Rattle.lazy_rules.specs.Leading.{place_sends}
use Rattle.lazy_rules.specs.Roles.{followers_of}
use Rattle.lazy_rules.specs.Rows.{sends_all, stays}
use Rattle.lazy_rules.specs.SeqRules.{has_positions, notes_order}
use Rattle.lazy_rules.specs.SeqState.{SeqState}
use Rattle.seq_node.specs.Beginning.{begun, pending_end, with_begun}
use Rattle.seq_node.specs.Leaving.{left_sends, once_left, order_taken, room_once_left}
use Rattle.seq_node.specs.NodeView.{seq_of}
use Rattle.seq_node.proofs.Leaving.{finishes_noted, left_count, once_room}
use Rattle.seq_node.proofs.node.SeqNode.note_order.Goals as goal

pub send_ordered-requires-clause-room : goal.send_ordered-requires-clause-room
send_ordered-requires-clause-room c =
    let s : SeqState = c.args.self.now in
    let h : SeqState = seq_of c.self.inside in
    let n = length (followers_of h.config) in
    let f : List Batch = with_order h.flight c.args.follower c.args.upto in
    let fits : has_positions h ≡ true = ap has_positions c.self.view_is ∙ c.requires.fits in
    let left : c.leaving_ordered-left.result ≡ leaving n f = c.leaving_ordered-left.ensures.leaving ∙ ap (λ (k : ℕ). leaving k f) c.self.invariant.followers_are in
    let count = left_count h _ _ _ c.self.invariant fits f (same_order c.args.follower c.args.upto h.flight) c.flight.ensures.sound in
    let same : length (once_left (order_taken h c.args.follower c.args.upto)).flight ≡ length (once_left (order_taken s c.args.follower c.args.upto)).flight =
    ap (λ (x : SeqState). length (once_left (order_taken x c.args.follower c.args.upto)).flight) c.self.view_is in
    let long : length h.flight ≡ length s.flight = ap (λ (x : SeqState). length x.flight) c.self.view_is in
    once_room c.leaving_ordered-left.result (length s.flight) (length (once_left (order_taken s c.args.follower c.args.upto)).flight) c.room_once_left-room.result
    (omega (arith, count, left, same, long)) (omega (arith, c.flight.ensures.count, c.flight.ensures.sound.few, long)) c.room_once_left-room.ensures

pub returns : goal.returns
returns c =
    let s : SeqState = c.args.self.now in
    let h : SeqState = seq_of c.self.inside in
    let follower = c.args.follower in
    let upto = c.args.upto in
    let n = length (followers_of h.config) in
    let f : List Batch = with_order h.flight follower upto in
    let room = c.room_once_left-room.result in
    let limit = c.forced_limit-limit.result in
    let from = c.flight_end-from.result in
    let fits : has_positions h ≡ true = ap has_positions c.self.view_is ∙ c.requires.fits in
    let left : c.leaving_ordered-left.result ≡ leaving n f = c.leaving_ordered-left.ensures.leaving ∙ ap (λ (k : ℕ). leaving k f) c.self.invariant.followers_are in
    let part : SeqState → List (ℕ × Msg) = λ x. flat_map (place_sends x) (begun room from (pending_end x) limit) in
    let said : SeqState → ℕ → List (ℕ × Msg) = λ x k. left_sends x.config x.view 0 x.probes (take k x.flight) ++ part x in
    let row_of : SeqState → List (ℕ × Msg) → Row SeqState = λ x t. sends_all (with_begun (once_left (order_taken x follower upto)) room limit) t in
    let sent : c.add_begun.new.sends ≡ said s c.leaving_ordered-left.result =
    c.in_ok-add_begun.ensures ∙ ap (λ (l : List (ℕ × Msg)). l ++ part s) (c.in_ok-add_left.ensures ∙ ap (λ (l : List (ℕ × Msg)). l ++ left_sends s.config s.view 0 s.probes (take c.leaving_ordered-left.result s.flight)) c.new-sends.ensures) in
    let there : has_ordering s.flight upto ≡ true =
    sym (ap (λ (x : SeqState). has_ordering x.flight upto) c.self.view_is) ∙ sym c.has_ordering.ensures ∙ c.if-not-has_ordering.false in
    let row : row_of s c.add_begun.new.sends ≡ cond (not (has_ordering s.flight upto)) (stays s) (notes_order s upto follower) =
    ap (row_of s) (sent ∙ ap (said s) left)
    ∙ sym (ap (λ (x : SeqState). row_of x (said x (leaving n f))) c.self.view_is)
    ∙ finishes_noted h _ _ _ c.self.invariant fits f (same_order follower upto h.flight) c.flight.ensures.sound room limit from
    (c.room_once_left-room.ensures ∙ ap (λ (k : ℕ). room_once_left k (length s.flight)) left ∙ sym (ap (λ (x : SeqState). room_once_left (leaving n f) (length x.flight)) c.self.view_is))
    (omega (arith, c.forced_limit-limit.ensures.within, ap pending_end c.self.view_is))
    (c.flight_end-from.ensures.is ∙ sym (ap (λ (x : SeqState). flight_end x.bound x.flight) c.self.view_is))
    (λ p below. ap (λ (x : SeqState). waits_above x.probes p) c.self.view_is ∙ c.forced_limit-limit.ensures.waits p (omega (arith, below, ap pending_end c.self.view_is)))
    ∙ ap (λ (x : SeqState). notes_order x upto follower) c.self.view_is
    ∙ sym (ap (λ (b : Bool). cond (not b) (stays s) (notes_order s upto follower)) there) in
    subst (λ (r : Row SeqState). StepsTo r s c.send_ordered.new.self c.args.out.now c.send_ordered.new.out c.send_ordered.result Over) row c.send_ordered.ensures
