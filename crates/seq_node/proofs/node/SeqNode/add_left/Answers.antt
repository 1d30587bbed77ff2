use Rattle.std.proofs.Common.{◌≡◌, ℕ, ◌+◌, ◌++◌, ◌<◌, ◌≤◌, List, length, drop, take, get_or, append_assoc, ap, ◌∙◌, arith}
use Rattle.std.proofs.lemmas.Option.{slice_get-get_or}
use Rattle.lazy_msgs.specs.declared.msg.Msg.{Msg}
use Rattle.lazy_msgs.specs.declared.msg.Msg.TheVariants.{Stable}
use Rattle.lazy_rules.specs.Flight.{Batch, batch_end, new_batch}
use Rattle.lazy_rules.specs.Roles.{replicas_of}
use Rattle.lazy_rules.specs.Rows.{to_each}
use Rattle.lazy_rules.specs.SeqState.{SeqState}
use Rattle.seq_node.specs.Leaving.{left_sends, told, told_in}
use Rattle.seq_node.proofs.Leaving.{end_is, left_next}
use Rattle.seq_node.proofs.Parts.{part_ended}
use Rattle.seq_node.proofs.Sends.{moved, ended}
use Rattle.seq_node.proofs.node.SeqNode.add_left.Goals as goal

pub loop-i-preserved : goal.loop-i-preserved
loop-i-preserved c =
    let s : SeqState = c.args.self.now in
    let i = c.loop-i.i in
    let low = c.loop-i.low in
    let left = c.args.left in
    let upto = c.end_of-upto.result in
    let none : Batch = new_batch 0 0 in
    let batch : Batch = get_or s.flight i none in
    let inside : i < length s.flight = omega (arith, c.loop-i-test.true, c.requires.there) in
    let there = slice_get-get_or s.flight i none inside in
    let place : batch_end batch ≡ upto = end_is s.flight i upto batch there c.end_of-upto.ensures in
    let here : ℕ → List (ℕ × Msg) = λ k. to_each (replicas_of s.config) (Stable s.view k) ++ told s.view (told_in low k s.probes) in
    let rest : ℕ → List (ℕ × Msg) = λ k. left_sends s.config s.view (k + 1) s.probes (drop (i + 1) (take left s.flight)) in
    let split : left_sends s.config s.view low s.probes (drop i (take left s.flight)) ≡ here upto ++ rest upto =
    left_next s.config s.view low s.probes left i s.flight batch there c.loop-i-test.true ∙ ap (λ (k : ℕ). here k ++ rest k) place in
    let said : SeqState → List (ℕ × Msg) = λ x. c.loop-i.sends ++ to_each (replicas_of x.config) (Stable x.view upto) in
    let written : c.add_told.new.sends ≡ c.loop-i.sends ++ here upto =
    c.in_ok-add_told.ensures
    ∙ ap (λ (l : List (ℕ × Msg)). l ++ told s.view (told_in low upto s.probes)) (c.in_ok-add_stable.ensures ∙ ap said c.self.view_is)
    ∙ append_assoc c.loop-i.sends (to_each (replicas_of s.config) (Stable s.view upto)) (told s.view (told_in low upto s.probes)) in
    moved c.loop-i.sends c.add_told.new.sends (here upto) (rest upto) (left_sends s.config s.view low s.probes (drop i (take left s.flight))) _
    written split c.loop-i.invariant

pub returns : goal.returns
returns c =
    let s : SeqState = c.args.self.now in
    let i = c.loop-i.i in
    let left = c.args.left in
    let past : left ≤ i = omega (arith, c.loop-i-test.false) in
    let rest : List Batch → List (ℕ × Msg) = λ l. left_sends s.config s.view c.loop-i.low s.probes l in
    ended c.loop-i.sends (rest (drop i (take left s.flight))) _ (ap rest (part_ended s.flight 0 left i past)) c.loop-i.invariant
