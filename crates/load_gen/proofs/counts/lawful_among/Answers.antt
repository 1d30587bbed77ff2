use Rattle.std.proofs.Common.{◌≡◌, length, ap, arith}
use Rattle.lazy_rules.specs.Holders.{holders}
use Rattle.load_gen.proofs.counts.lawful_among.Goals as goal

pub overflow_add-count : goal.overflow_add-count
overflow_add-count c =
    let same : length c.args.nodes.now ≡ length (holders c.args.world.now) = ap length c.requires.holders in
    let few = c.requires.countable.few in
    omega arith
