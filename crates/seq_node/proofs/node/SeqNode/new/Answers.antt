use Rattle.std.proofs.Common.{◌≡◌, ℕ, ◌-◌, List, length, ap, ◌∙◌, arith}
use Rattle.std.specs.Prelude.{◌/◌}
use Rattle.std.proofs.lemmas.List.{length-replicate}
use Rattle.std.proofs.lemmas.List.FromFn.{length-map-range_with_len}
use Rattle.rec_id.specs.declared.marks.Marks.{Marks}
use Rattle.rec_id.specs.Marks.{no_marks}
use Rattle.view_config.specs.declared.config.Config.{Config}
use Rattle.view_config.specs.Config.{first_copies, first_seqs}
use Rattle.view_config.specs.Nodes.{seq_id}
use Rattle.view_config.specs.Shape.{Dimensions}
use Rattle.pending_log.specs.Pending.{Pending}
use Rattle.binder.specs.Binding.{Binding}
use Rattle.lazy_rules.specs.Roles.{followers_of}
use Rattle.seq_node.proofs.Keeping.{kept_fresh, length-others}
use Rattle.seq_node.proofs.node.SeqNode.new.Goals as goal

pub invariant_of-result-2 : goal.invariant_of-result-2
invariant_of-result-2 c =
    let shape = c.args.shape.now in
    let config = c.in_ok-initial.ensures in
    let shards : length c.in_ok-initial.field-0.shards ≡ shape.shards = ap (λ (x : Config). length x.shards) config ∙ length-map-range_with_len (first_copies shape.copies) 0 shape.shards in
    let followers : length (followers_of c.in_ok-initial.field-0) ≡ shape.seq - 1 =
    ap (λ (x : Config). length (followers_of x)) config ∙ length-others (first_seqs shape.seq) ∙ ap (λ (n : ℕ). n - 1) (length-map-range_with_len seq_id 0 shape.seq) in
    let window : length c.in_ok-new.field-0 ≡ c.shape.inside.clients = ap (λ (x : List Marks). length x) c.in_ok-new.ensures.made ∙ length-replicate c.shape.inside.clients (no_marks (c.window.result / 64)) in
    let clients : c.shape.inside.clients ≡ shape.clients = ap (λ (d : Dimensions). d.clients) c.shape.view_is in
    let shards_same : c.shape.inside.shards ≡ shape.shards = ap (λ (d : Dimensions). d.shards) c.shape.view_is in
    let seq_same : c.shape.inside.seq ≡ shape.seq = ap (λ (d : Dimensions). d.seq) c.shape.view_is in
    kept_fresh _ _ _ _ (omega (arith, window, clients))
    (ap (λ (p : Pending). p.capacity) c.in_ok-with_capacity.ensures)
    (omega (arith, shards, shards_same, ap (λ (b : Binding). b.shards) c.in_ok-new-2.ensures))
    (omega (arith, followers, seq_same, ap (λ (b : Binding). b.followers) c.in_ok-new-2.ensures))
    (ap (λ (p : Pending). p.items) c.in_ok-with_capacity.ensures)
    (ap (λ (b : Binding). b.flight) c.in_ok-new-2.ensures)
