use Rattle.std.proofs.Common.{◌≡◌, ℕ, ◌+◌, ◌<◌, ◌≤◌, List, length, take, drop, get_or, sum_by}
use Rattle.std.proofs.lemmas.List.Sums.{sum_by-take-drop, sum_by_more_le}
use Rattle.lazy_msgs.specs.declared.msg.Msg.{Msg}
use Rattle.lazy_msgs.specs.Weight.{weight_of, sends_weight}

-- what the first messages weigh and what the rest weighs is what all weigh
pub weight_of_parts : (sends : List (ℕ × Msg)) (n : ℕ) → sends_weight (take n sends) + sends_weight (drop n sends) ≡ sends_weight sends
weight_of_parts sends n = sum_by-take-drop (λ send. weight_of send.1) sends n

-- the messages so far and the next one weigh no more than all
pub sum_so_far : (sends : List (ℕ × Msg)) (i : ℕ) (d : ℕ × Msg) → i < length sends → sends_weight (take i sends) + weight_of (get_or sends i d).1 ≤ sends_weight sends
sum_so_far sends i d h = sum_by_more_le (λ send. weight_of send.1) sends i d h
