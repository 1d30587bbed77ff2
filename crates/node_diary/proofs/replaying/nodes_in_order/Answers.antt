use Rattle.std.proofs.Common.{◌≡◌, ◌+◌, ◌*◌, ℕ, List, [], ◌∷◌, ◌++◌, map, ap, ◌∙◌, sym, subst, append_assoc}
use Rattle.std.specs.List.{range_with_len}
use Rattle.list_facts.specs.Lists.{Each}
use Rattle.view_config.specs.Nodes.{seq_id}
use Rattle.view_config.specs.Shape.{Dimensions}
use Rattle.view_config.specs.declared.nodes.TheConstants.{CONTROLLER}
use Rattle.node_diary.specs.Folding.{nodes_in_order, shard_number}
use Rattle.node_diary.specs.States.{HasNode}
use Rattle.node_diary.proofs.NodeOrder.{nodes_had}
use Rattle.node_diary.proofs.replaying.nodes_in_order.Goals as goal

pub returns-clause-had : goal.returns-clause-had
returns-clause-had c =
    let shape : Dimensions = c.args.shape.now in
    let clients : List ℕ = range_with_len 0 shape.clients in
    let seqs : List ℕ = map seq_id (range_with_len 0 (shape.seq + shape.spares)) in
    let shards : List ℕ = map (shard_number shape) (range_with_len 0 (shape.shards * shape.copies)) in
    let all : c.add_shards.new.nodes.items ≡ nodes_in_order shape =
    c.in_ok-add_shards.ensures
    ∙ ap (λ (l : List ℕ). l ++ shards) (c.in_ok-add_seqs.ensures
    ∙ ap (λ (l : List ℕ). l ++ seqs) (c.in_ok-push.ensures.items
    ∙ ap (λ (l : List ℕ). l ++ CONTROLLER ∷ []) (c.in_ok-add_clients.ensures.added
    ∙ ap (λ (l : List ℕ). l ++ clients) c.new-nodes.ensures.items))
    ∙ append_assoc clients (CONTROLLER ∷ []) seqs)
    ∙ append_assoc clients (CONTROLLER ∷ seqs) shards in
    subst (Each (HasNode shape)) (sym all) (nodes_had shape c.in_ok-add_clients.ensures.valid)
