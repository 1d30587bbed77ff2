use Rattle.std.proofs.Common.{◌+◌, ◌<◌, ◌≤◌, ◌∷◌, [], List, length, drop, get_or, ap, arith}
use Rattle.std.proofs.lemmas.List.{drop_all}
use Rattle.std.proofs.lemmas.Option.{slice_get-get_or}
use Rattle.lazy_rules.specs.Flight.{Probe}
use Rattle.lazy_rules.specs.SeqState.{SeqState}
use Rattle.seq_node.specs.Leaving.{told, told_in}
use Rattle.seq_node.proofs.Leaving.{told_drop}
use Rattle.seq_node.proofs.Sends.{moved, ended}
use Rattle.seq_node.proofs.node.SeqNode.add_told.Goals as goal

pub loop-i-preserved : goal.loop-i-preserved
loop-i-preserved c =
    let s : SeqState = c.args.self.now in
    let i = c.loop-i.i in
    let none : Probe = record { client = 0; read = 0; target = 0 } in
    let probe : Probe = get_or s.probes i none in
    let inside : i < length s.probes = omega (arith, c.loop-i-test.true, c.reads-i-end.ensures, ap (λ (x : SeqState). length x.probes) c.self.view_is) in
    let part : List Probe → List _ = λ l. told s.view (told_in c.args.low c.args.upto l) in
    moved c.loop-i.sends c.add_answer.new.sends (part (probe ∷ [])) (part (drop (i + 1) s.probes)) (part (drop i s.probes)) _
    (c.in_ok-add_answer.ensures probe (slice_get-get_or s.probes i none inside)) (told_drop s.view c.args.low c.args.upto s.probes i none inside) c.loop-i.invariant

pub returns : goal.returns
returns c =
    let s : SeqState = c.args.self.now in
    let i = c.loop-i.i in
    let past : length s.probes ≤ i = omega (arith, c.loop-i-test.false, c.reads-i-end.ensures, ap (λ (x : SeqState). length x.probes) c.self.view_is) in
    let part : List Probe → List _ = λ l. told s.view (told_in c.args.low c.args.upto l) in
    ended c.loop-i.sends (part (drop i s.probes)) _ (ap part (drop_all i s.probes past)) c.loop-i.invariant
