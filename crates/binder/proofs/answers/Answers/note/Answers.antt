use Rattle.std.proofs.Common.{◌≡◌, ◌<◌, false, length, rules}
use Rattle.std.specs.Prelude.{vec_capacity}
use Rattle.lazy_rules.specs.Rows.{has_node}
use Rattle.binder.proofs.Rosters.{room_for, with_answer}
use Rattle.binder.proofs.answers.Answers.note.Goals as goal

pub push_reserved-requires : goal.push_reserved-requires
push_reserved-requires c =
    let new : has_node c.self.inside.given.items c.args.node ≡ false = search rules in
    let inside : c.args.node < c.self.inside.count = search rules in
    let room : length c.self.inside.given.items < vec_capacity c.self.inside.given =
    room_for c.self.inside.count c.self.inside.given.items _ c.self.invariant c.args.node inside new in
    search rules

pub invariant_of-self : goal.invariant_of-self
invariant_of-self c =
    let new : has_node c.self.inside.given.items c.args.node ≡ false = search rules in
    let inside : c.args.node < c.self.inside.count = search rules in
    rw (c.push_reserved.ensures.items, c.push_reserved.ensures.capacity)
    (with_answer c.self.inside.count c.self.inside.given.items _ c.self.invariant c.args.node inside new)
