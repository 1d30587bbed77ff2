use Rattle.std.proofs.Common.{◌≤◌, ℕ, List, length, ap, ◌∙◌, arith}
use Rattle.std.specs.List.{flat_map}
use Rattle.std.proofs.lemmas.List.{take_all}
use Rattle.log_reader.proofs.nodes.replicas.Goals as goal

pub returns : goal.returns
returns c =
    let shards = c.as_slice-shards.result.now in
    let past : length shards ≤ c.loop-nodes.nodes-index = omega (arith, c.loop-nodes-test.false) in
    c.loop-nodes.invariant
    ∙ ap (λ (l : List (List ℕ)). flat_map (λ (nodes : List ℕ). nodes) l) (take_all c.loop-nodes.nodes-index shards past ∙ c.as_slice-shards.ensures)
