use Rattle.std.proofs.Common.{◌≡◌, ℕ, ◌+◌, ◌-◌, List, ◌∷◌, ◌++◌, append_assoc, ap, ◌∙◌, sym, arith}
use Rattle.std.specs.Prelude.{flat_map}
use Rattle.lazy_msgs.specs.declared.msg.Msg.{Msg}
use Rattle.lazy_rules.specs.Flight.{Batch, new_batch}
use Rattle.lazy_rules.specs.Leading.{place_sends}
use Rattle.lazy_rules.specs.SeqState.{SeqState}
use Rattle.seq_node.specs.Beginning.{begun, next_count, pending_end}
use Rattle.seq_node.proofs.Beginning.{begun_next}
use Rattle.seq_node.proofs.Going.{ok_then}
use Rattle.seq_node.proofs.node.SeqNode.+add_begun.Goals as goal

pub add_new-requires : goal.add_new-requires
add_new-requires t c = record {
  begins = c.requires.above;
  ends = omega (arith, c.min-count.ensures, c.pending_end.ensures, c.if-from-limit.false, c.requires.within);
  fits = c.requires.fits;
}

pub returns : goal.returns
returns t c =
    let s : SeqState = c.args.self.now in
    let from = c.args.from in
    let end = pending_end s in
    let limit = c.args.limit in
    let count = c.min-count.result in
    let rest = c.args.room - 1 in
    let more : List Batch = begun rest (from + count) end limit in
    let before : List (ℕ × Msg) = c.args.sends.now in
    let count_is : next_count from end ≡ count = omega (arith, c.min-count.ensures, c.pending_end.ensures) in
    let list : begun c.args.room from end limit ≡ new_batch from count ∷ more =
    begun_next c.args.room rest from end limit (omega (arith, c.if-room-eq0.false)) (omega (arith, c.if-from-limit.false))
    ∙ ap (λ (n : ℕ). new_batch from n ∷ begun rest (from + n) end limit) count_is in
    let all : c.add_new.new.sends ++ flat_map (place_sends s) more ≡ before ++ flat_map (place_sends s) (begun c.args.room from end limit) =
    ap (λ (l : List (ℕ × Msg)). l ++ flat_map (place_sends s) more) c.in_ok-add_new.ensures
    ∙ append_assoc before (place_sends s (new_batch from count)) (flat_map (place_sends s) more)
    ∙ sym (ap (λ (l : List Batch). before ++ flat_map (place_sends s) l) list) in
    ok_then (c.add_begun.new.sends ≡ c.add_new.new.sends ++ flat_map (place_sends s) more) (c.add_begun.new.sends ≡ before ++ flat_map (place_sends s) (begun c.args.room from end limit)) c.add_begun.result
    (λ sent. sent ∙ all) c.add_begun.ensures
