use Rattle.std.proofs.Common.{◌≡◌, List, length, ap, ◌∙◌, sym, arith}
use Rattle.rec_id.specs.declared.marks.Marks.{Marks}
use Rattle.view_config.specs.declared.config.Config.{Config}
use Rattle.pending_log.specs.Pending.{Pending}
use Rattle.binder.specs.Binding.{Binding}
use Rattle.lazy_rules.specs.Roles.{followers_of}
use Rattle.lazy_rules.specs.SeqState.{SeqState}
use Rattle.seq_node.proofs.Forms.{window_image, window_long, config_parts}
use Rattle.seq_node.proofs.Keeping.{kept_fresh, length-others}
use Rattle.seq_node.proofs.node.SeqNode.enter.Goals as goal

pub overflow_sub-followers : goal.overflow_sub-followers
overflow_sub-followers c =
    omega (arith, c.len-2.ensures, (config_parts c.args.self.now.shape c.args.config.now c.requires.config).0)

pub overflow_cast-shards : goal.overflow_cast-shards
overflow_cast-shards c =
    omega (arith, c.len-shards.ensures, (config_parts c.args.self.now.shape c.args.config.now c.requires.config).1, c.requires.shape.shards_most)

pub from_image-requires : goal.from_image-requires
from_image-requires c = window_image c.args.self.now.shape c.requires.shape c.args.window.now c.requires.window

pub invariant_of-self : goal.invariant_of-self
invariant_of-self c =
    let d = c.args.self.now.shape in
    let config = c.args.config.now in
    let window : length c.in_ok-marks.marks ≡ d.clients = ap (λ (x : List Marks). length x) c.in_ok-marks.ensures ∙ window_long d c.requires.shape c.args.window.now c.requires.window in
    let next = c.in_ok-next.ensures in
    let binding = c.in_ok-binder.ensures in
    let pending = c.in_ok-pending.ensures in
    kept_fresh _ _ _ _ (window ∙ sym (ap (λ (s : SeqState). s.shape.clients) c.self.view_is))
    (ap (λ (p : Pending). p.capacity) pending)
    (omega (arith, ap (λ (b : Binding). b.shards) binding, c.len-shards.ensures, ap (λ (x : Config). length x.shards) next))
    (omega (arith, ap (λ (b : Binding). b.followers) binding, c.len-2.ensures, ap (λ (x : Config). length (followers_of x)) next, length-others config.seq))
    (ap (λ (p : Pending). p.items) pending)
    (ap (λ (b : Binding). b.flight) binding)
