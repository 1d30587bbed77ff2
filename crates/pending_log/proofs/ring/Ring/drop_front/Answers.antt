use Rattle.std.proofs.Common.{◌≡◌, ℕ, ◌-◌, ◌++◌, length, take, drop, ap, ◌∙◌, arith, rules}
use Rattle.std.specs.VecDeque.{deque_items, deque_capacity}
use Rattle.pending_log.proofs.Rings.{kept_drop}
use Rattle.pending_log.proofs.ring.Ring.drop_front.Goals as goal

pub invariant_of-self : goal.invariant_of-self
invariant_of-self c =
    let items = c.self.inside.items.items in
    let words = c.self.inside.words.items in
    let n = c.args.n in
    let all : c.loop-item._item ≡ n = omega arith in
    let rest : c.len.result ≡ length items = search rules in
    let inside = c.loop-item.self-inside in
    let items_are : inside.items.items ≡ drop n items = c.loop-item.invariant.0 ∙ ap (λ (k : ℕ). drop k items) all in
    let words_are : inside.words.items ≡ take (length items - n) (drop n words ++ take n words) =
    ap deque_items c.loop-item.invariant.2 ∙ c.truncate.ensures.items ∙ ap (take (c.len.result - n)) c.rotate_left.ensures.items
    ∙ ap (λ (k : ℕ). take (k - n) (drop n words ++ take n words)) rest in
    let word_room : deque_capacity inside.words ≡ deque_capacity c.self.inside.words =
    ap deque_capacity c.loop-item.invariant.2 ∙ c.truncate.ensures.capacity ∙ c.rotate_left.ensures.capacity in
    rw (items_are, words_are, c.loop-item.invariant.1, word_room)
    (kept_drop items words (deque_capacity c.self.inside.items) (deque_capacity c.self.inside.words) c.self.invariant n (search rules))
