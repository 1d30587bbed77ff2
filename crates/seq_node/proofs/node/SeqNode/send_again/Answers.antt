use Rattle.std.proofs.Common.{◌+◌, ◌<◌, ◌≤◌, List, length, drop, get_or, ap, arith}
use Rattle.std.specs.Prelude.{flat_map}
use Rattle.std.proofs.lemmas.List.{drop_all}
use Rattle.std.proofs.lemmas.Option.{slice_get-get_or}
use Rattle.lazy_rules.specs.Flight.{Batch, new_batch}
use Rattle.lazy_rules.specs.Leading.{resends}
use Rattle.lazy_rules.specs.SeqState.{SeqState}
use Rattle.seq_node.proofs.Going.{flat_map_next}
use Rattle.seq_node.proofs.Sends.{moved, ended}
use Rattle.seq_node.proofs.node.SeqNode.send_again.Goals as goal

pub loop-i-preserved : goal.loop-i-preserved
loop-i-preserved c =
    let s : SeqState = c.args.self.now in
    let flight : List Batch = c.args.self.now.flight in
    let i = c.loop-i.i in
    let none : Batch = new_batch 0 0 in
    let batch : Batch = get_or flight i none in
    let inside : i < length flight = omega (arith, c.loop-i-test.true, c.flight-i-end.ensures.count, ap (λ (x : SeqState). length x.flight) c.self.view_is) in
    moved c.loop-i.sends c.add_again.new.sends (resends s batch) (flat_map (resends s) (drop (i + 1) flight)) (flat_map (resends s) (drop i flight)) _
    (c.in_ok-add_again.ensures batch (slice_get-get_or flight i none inside)) (flat_map_next (resends s) flight i none inside) c.loop-i.invariant

pub returns : goal.returns
returns c =
    let s : SeqState = c.args.self.now in
    let flight : List Batch = c.args.self.now.flight in
    let i = c.loop-i.i in
    let past : length flight ≤ i = omega (arith, c.loop-i-test.false, c.flight-i-end.ensures.count, ap (λ (x : SeqState). length x.flight) c.self.view_is) in
    ended c.loop-i.sends (flat_map (resends s) (drop i flight)) _ (ap (flat_map (resends s)) (drop_all i flight past)) c.loop-i.invariant
