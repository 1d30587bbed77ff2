use Rattle.std.proofs.Common.{◌≡◌, ℕ, ◌+◌, ◌<◌, ◌≤◌, List, ◌++◌, Bool, length, drop, append_assoc, append-nil, Some, sym, ap, ◌∙◌, arith}
use Rattle.std.specs.Prelude.{option_map, slice_get}
use Rattle.binder.specs.Binding.{outline}
use Rattle.lazy_msgs.specs.declared.msg.Msg.{Msg}
use Rattle.lazy_rules.specs.Flight.{Batch, has_all, now_ordering, place_noted}
use Rattle.lazy_rules.specs.Leading.{order_sends}
use Rattle.lazy_rules.specs.SeqState.{SeqState}
use Rattle.seq_node.specs.NodeView.{seq_of}
use Rattle.seq_node.proofs.Going.{ok_then}
use Rattle.seq_node.proofs.PassingOn.{none_pass, over_at, pass_sends, passes_at, stops_at}
use Rattle.seq_node.proofs.node.SeqNode.+add_passing.Goals as goal

pub returns-then-i-count : goal.returns-then-i-count
returns-then-i-count t c =
    let s : SeqState = c.args.self.now in
    let before : List (ℕ × Msg) = c.args.sends.now in
    let past : length s.flight ≤ c.args.i = omega (arith, c.if-i-count.true, c.flight-count.ensures.count, ap (λ (x : SeqState). length x.flight) c.self.view_is) in
    sym (ap (λ (l : List (ℕ × Msg)). before ++ l) (none_pass s (length s.config.shards) c.args.shard c.args.upto s.flight c.args.i past) ∙ append-nil before)

pub returns-then-batch : goal.returns-then-batch
returns-then-batch t c =
    let s : SeqState = c.args.self.now in
    let i = c.args.i in
    let passing : ℕ → List (ℕ × Msg) = λ k. pass_sends s (length s.config.shards) c.args.shard c.args.upto (drop k s.flight) in
    let before : List (ℕ × Msg) = c.args.sends.now in
    let inside : i < length s.flight = omega (arith, c.if-i-count.false, c.flight-count.ensures.count, ap (λ (x : SeqState). length x.flight) c.self.view_is) in
    let seen_is : option_map outline (slice_get s.flight i) ≡ Some c.batch-batch.result =
    ap (λ (x : SeqState). option_map outline (slice_get x.flight i)) (sym c.self.view_is) ∙ c.batch-batch.ensures in
    let over : passing i ≡ passing (i + 1) = over_at s (length s.config.shards) c.args.shard c.args.upto s.flight i c.batch-batch.result inside seen_is c.if-batch.true in
    ok_then (c.add_passing.new.sends ≡ before ++ passing (i + 1)) (c.add_passing.new.sends ≡ before ++ passing i) c.add_passing.result
    (λ sent. sent ∙ ap (λ (l : List (ℕ × Msg)). before ++ l) (sym over)) c.add_passing.ensures

pub returns-then-not-is_placed_with : goal.returns-then-not-is_placed_with
returns-then-not-is_placed_with t c =
    let s : SeqState = c.args.self.now in
    let h : SeqState = seq_of c.self.inside in
    let i = c.args.i in
    let before : List (ℕ × Msg) = c.args.sends.now in
    let all_of : ℕ → Batch → Bool = λ n b. has_all n (place_noted c.args.upto c.args.shard b).placed in
    let inside : i < length s.flight = omega (arith, c.if-i-count.false, c.flight-count.ensures.count, ap (λ (x : SeqState). length x.flight) c.self.view_is) in
    let seen_is : option_map outline (slice_get s.flight i) ≡ Some c.batch-batch.result =
    ap (λ (x : SeqState). option_map outline (slice_get x.flight i)) (sym c.self.view_is) ∙ c.batch-batch.ensures in
    let placed_is : option_map (all_of (length s.config.shards)) (slice_get s.flight i) ≡ Some c.is_placed_with.result =
    ap (λ (x : SeqState). option_map (all_of (length x.config.shards)) (slice_get x.flight i)) (sym c.self.view_is)
    ∙ sym (ap (λ (n : ℕ). option_map (all_of n) (slice_get h.flight i)) c.self.invariant.shards_are) ∙ c.is_placed_with.ensures in
    sym (ap (λ (l : List (ℕ × Msg)). before ++ l)
    (stops_at s (length s.config.shards) c.args.shard c.args.upto s.flight i c.batch-batch.result c.is_placed_with.result inside seen_is c.if-batch.false placed_is c.if-not-is_placed_with.true)
    ∙ append-nil before)

pub returns : goal.returns
returns t c =
    let s : SeqState = c.args.self.now in
    let h : SeqState = seq_of c.self.inside in
    let i = c.args.i in
    let passing : ℕ → List (ℕ × Msg) = λ k. pass_sends s (length s.config.shards) c.args.shard c.args.upto (drop k s.flight) in
    let before : List (ℕ × Msg) = c.args.sends.now in
    let all_of : ℕ → Batch → Bool = λ n b. has_all n (place_noted c.args.upto c.args.shard b).placed in
    let inside : i < length s.flight = omega (arith, c.if-i-count.false, c.flight-count.ensures.count, ap (λ (x : SeqState). length x.flight) c.self.view_is) in
    let seen_is : option_map outline (slice_get s.flight i) ≡ Some c.batch-batch.result =
    ap (λ (x : SeqState). option_map outline (slice_get x.flight i)) (sym c.self.view_is) ∙ c.batch-batch.ensures in
    let placed_is : option_map (all_of (length s.config.shards)) (slice_get s.flight i) ≡ Some c.is_placed_with.result =
    ap (λ (x : SeqState). option_map (all_of (length x.config.shards)) (slice_get x.flight i)) (sym c.self.view_is)
    ∙ sym (ap (λ (n : ℕ). option_map (all_of n) (slice_get h.flight i)) c.self.invariant.shards_are) ∙ c.is_placed_with.ensures in
    let here =
    passes_at s (length s.config.shards) c.args.shard c.args.upto s.flight i c.batch-batch.result c.is_placed_with.result inside seen_is c.if-batch.false placed_is c.if-not-is_placed_with.false in
    let first : List (ℕ × Msg) = order_sends s (now_ordering here.0) in
    let all : c.add_to_all.new.sends ++ passing (i + 1) ≡ before ++ passing i =
    ap (λ (l : List (ℕ × Msg)). l ++ passing (i + 1)) (c.in_ok-add_to_all.ensures here.0 here.1)
    ∙ append_assoc before first (passing (i + 1)) ∙ sym (ap (λ (l : List (ℕ × Msg)). before ++ l) here.2) in
    ok_then (c.add_passing-2.new.sends ≡ c.add_to_all.new.sends ++ passing (i + 1)) (c.add_passing-2.new.sends ≡ before ++ passing i) c.add_passing-2.result
    (λ sent. sent ∙ all) c.add_passing-2.ensures
