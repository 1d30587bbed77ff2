use Rattle.std.proofs.Common.{◌≡◌, length, rules}
use Rattle.std.specs.VecDeque.{deque_len}
use Rattle.pending_log.proofs.Rings.{word_count, kept_turn}
use Rattle.pending_log.proofs.ring.Ring.turn.Goals as goal

pub invariant_of-self : goal.invariant_of-self
invariant_of-self c =
    let items = c.self.inside.items in
    let words = c.self.inside.words in
    let same : length words.items ≡ length items.items = word_count items.items words.items _ _ c.self.invariant in
    let lengths : deque_len words ≡ deque_len items = search rules in
    rw (c.rotate_right.ensures.items, c.rotate_right-2.ensures.items, c.rotate_right.ensures.capacity, c.rotate_right-2.ensures.capacity, lengths)
    (kept_turn items.items words.items _ _ c.self.invariant _)
