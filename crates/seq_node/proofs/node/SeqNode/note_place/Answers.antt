use Rattle.std.proofs.Common.{◌≡◌, ℕ, ◌++◌, List, Bool, true, cond, not, length, take, append_assoc, ap, ◌∙◌, sym, subst, arith}
use Rattle.std.specs.Prelude.{flat_map}
use Rattle.binder.specs.Binding.{leaving}
use Rattle.lazy_msgs.specs.declared.msg.Msg.{Msg}
use Rattle.lazy_msgs.specs.declared.refused.StepRefused.TheVariants.{Over}
use Rattle.lazy_msgs.specs.Step.{Row, StepsTo}
use Rattle.lazy_rules.specs.Flight.{Batch, flight_end, has_placing, passed, waits_above, with_place}
use Rattle.lazy_rules.specs.Leading.{place_sends}
use Rattle.lazy_rules.specs.Roles.{followers_of}
use Rattle.lazy_rules.specs.Rows.{followed, sends_all, stays}
use Rattle.lazy_rules.specs.SeqRules.{has_positions, notes_place}
use Rattle.lazy_rules.specs.SeqState.{SeqState}
use Rattle.seq_node.specs.Beginning.{begun, pending_end, with_begun}
use Rattle.seq_node.specs.Leaving.{left_sends, once_left, place_taken, room_once_left}
use Rattle.seq_node.specs.NodeView.{seq_of}
use Rattle.seq_node.proofs.Leaving.{finishes_noted, left_count, once_room}
use Rattle.seq_node.proofs.Noting.{passed_spans}
use Rattle.seq_node.proofs.PassingOn.{pass_sends}
use Rattle.seq_node.proofs.node.SeqNode.note_place.Goals as goal

pub send_placed-requires-clause-room : goal.send_placed-requires-clause-room
send_placed-requires-clause-room c =
    let s : SeqState = c.args.self.now in
    let h : SeqState = seq_of c.self.inside in
    let n = length (followers_of h.config) in
    let m = length h.config.shards in
    let f : List Batch = passed m (with_place h.flight c.args.shard c.args.upto) in
    let fits : has_positions h ≡ true = ap has_positions c.self.view_is ∙ c.requires.fits in
    let left : c.leaving_placed-left.result ≡ leaving n f =
    c.leaving_placed-left.ensures.leaving ∙ ap (λ (k : ℕ). leaving k (passed c.self.inside.binder.shards (with_place h.flight c.args.shard c.args.upto))) c.self.invariant.followers_are
    ∙ ap (λ (k : ℕ). leaving n (passed k (with_place h.flight c.args.shard c.args.upto))) c.self.invariant.shards_are in
    let count = left_count h _ _ _ c.self.invariant fits f (passed_spans m h.flight c.args.shard c.args.upto) c.flight.ensures.sound in
    let same : length (once_left (place_taken h c.args.shard c.args.upto)).flight ≡ length (once_left (place_taken s c.args.shard c.args.upto)).flight =
    ap (λ (x : SeqState). length (once_left (place_taken x c.args.shard c.args.upto)).flight) c.self.view_is in
    let long : length h.flight ≡ length s.flight = ap (λ (x : SeqState). length x.flight) c.self.view_is in
    once_room c.leaving_placed-left.result (length s.flight) (length (once_left (place_taken s c.args.shard c.args.upto)).flight) c.room_once_left-room.result
    (omega (arith, count, left, same, long)) (omega (arith, c.flight.ensures.count, c.flight.ensures.sound.few, long)) c.room_once_left-room.ensures

pub returns : goal.returns
returns c =
    let s : SeqState = c.args.self.now in
    let h : SeqState = seq_of c.self.inside in
    let shard = c.args.shard in
    let upto = c.args.upto in
    let n = length (followers_of h.config) in
    let m = length h.config.shards in
    let f : List Batch = passed m (with_place h.flight shard upto) in
    let room = c.room_once_left-room.result in
    let limit = c.forced_limit-limit.result in
    let from = c.flight_end-from.result in
    let fits : has_positions h ≡ true = ap has_positions c.self.view_is ∙ c.requires.fits in
    let left : c.leaving_placed-left.result ≡ leaving n f =
    c.leaving_placed-left.ensures.leaving ∙ ap (λ (k : ℕ). leaving k (passed c.self.inside.binder.shards (with_place h.flight shard upto))) c.self.invariant.followers_are
    ∙ ap (λ (k : ℕ). leaving n (passed k (with_place h.flight shard upto))) c.self.invariant.shards_are in
    let passes : SeqState → List (ℕ × Msg) = λ x. pass_sends x (length x.config.shards) shard upto x.flight in
    let part : SeqState → List (ℕ × Msg) = λ x. flat_map (place_sends x) (begun room from (pending_end x) limit) in
    let told : SeqState → ℕ → List (ℕ × Msg) = λ x k. left_sends x.config x.view 0 x.probes (take k x.flight) in
    let said : SeqState → ℕ → List (ℕ × Msg) = λ x k. told x k ++ part x in
    let row_of : SeqState → List (ℕ × Msg) → Row SeqState =
    λ x t. followed (sends_all (place_taken x shard upto) (passes x)) (λ y. sends_all (with_begun (once_left y) room limit) t) in
    let sent : c.add_begun.new.sends ≡ passes s ++ said s c.leaving_placed-left.result =
    c.in_ok-add_begun.ensures
    ∙ ap (λ (l : List (ℕ × Msg)). l ++ part s)
    (c.in_ok-add_left.ensures
    ∙ ap (λ (l : List (ℕ × Msg)). l ++ told s c.leaving_placed-left.result) (c.in_ok-add_passing.ensures ∙ ap (λ (l : List (ℕ × Msg)). l ++ passes s) c.new-sends.ensures))
    ∙ append_assoc (passes s) (told s c.leaving_placed-left.result) (part s) in
    let there : has_placing s.flight upto ≡ true =
    sym (ap (λ (x : SeqState). has_placing x.flight upto) c.self.view_is) ∙ sym c.has_placing.ensures ∙ c.if-not-has_placing.false in
    let with_sends : List (ℕ × Msg) → Row SeqState = λ t. sends_all (with_begun (once_left (place_taken s shard upto)) room limit) t in
    let row : with_sends c.add_begun.new.sends ≡ cond (not (has_placing s.flight upto)) (stays s) (notes_place s upto shard) =
    ap with_sends sent
    ∙ ap (λ (k : ℕ). row_of s (said s k)) left
    ∙ sym (ap (λ (x : SeqState). row_of x (said x (leaving n f))) c.self.view_is)
    ∙ ap (λ (r : Row SeqState). followed (sends_all (place_taken h shard upto) (passes h)) (λ _. r))
    (finishes_noted h _ _ _ c.self.invariant fits f (passed_spans m h.flight shard upto) c.flight.ensures.sound room limit from
    (c.room_once_left-room.ensures ∙ ap (λ (k : ℕ). room_once_left k (length s.flight)) left ∙ sym (ap (λ (x : SeqState). room_once_left (leaving n f) (length x.flight)) c.self.view_is))
    (omega (arith, c.forced_limit-limit.ensures.within, ap pending_end c.self.view_is))
    (c.flight_end-from.ensures.is ∙ sym (ap (λ (x : SeqState). flight_end x.bound x.flight) c.self.view_is))
    (λ p below. ap (λ (x : SeqState). waits_above x.probes p) c.self.view_is ∙ c.forced_limit-limit.ensures.waits p (omega (arith, below, ap pending_end c.self.view_is))))
    ∙ ap (λ (x : SeqState). notes_place x upto shard) c.self.view_is
    ∙ sym (ap (λ (b : Bool). cond (not b) (stays s) (notes_place s upto shard)) there) in
    subst (λ (r : Row SeqState). StepsTo r s c.send_placed.new.self c.args.out.now c.send_placed.new.out c.send_placed.result Over) row c.send_placed.ensures
