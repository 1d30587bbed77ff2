use Rattle.std.specs.Prelude.{ℕ, ◌+◌, ◌-◌, List, [], ◌∷◌, ◌++◌, length, map, filter, Bool, ◌&&◌, nat_le, ◌==◌, if◌then◌else◌}
use Rattle.view_config.specs.declared.config.Config.{Config}
use Rattle.lazy_msgs.specs.declared.msg.Msg.{Msg}
use Rattle.lazy_msgs.specs.declared.msg.Msg.TheVariants.{Stable, TailReady}
use Rattle.lazy_msgs.specs.Step.{Row}
use Rattle.lazy_rules.specs.Flight.{Batch, Probe, batch_end, is_finished, passed, with_order, with_place}
use Rattle.lazy_rules.specs.Leading.{finishing, leaves}
use Rattle.lazy_rules.specs.Roles.{followers_of, replicas_of}
use Rattle.lazy_rules.specs.Rows.{stays, to_each}
use Rattle.lazy_rules.specs.SeqState.{SeqState}
use Rattle.lazy_rules.specs.declared.limits.TheConstants.{FLIGHT_LIMIT}

-- the first of these batches leaves, where it is finished
abbrev pub first_leaves : SeqState → List Batch → Row SeqState
first_leaves s [] = stays s
first_leaves s (batch ∷ others) =
    if is_finished (length (followers_of s.config)) batch then leaves s batch others else stays s

-- what the reads are told that need not wait any more
abbrev pub told : ℕ → List Probe → List (ℕ × Msg)
told view probes = map (λ probe. (probe.client, TailReady view probe.read probe.target)) probes

-- the read waits for so many positions at least, and for so many at most
abbrev pub is_told : ℕ → ℕ → Probe → Bool
is_told low upto probe = nat_le low probe.target && nat_le probe.target upto

abbrev pub told_in : ℕ → ℕ → List Probe → List Probe
told_in low upto probes = filter (is_told low upto) probes

-- what is told of the first batches as they leave, one after the other, where no read waits for less than low
abbrev pub left_sends : Config → ℕ → ℕ → List Probe → List Batch → List (ℕ × Msg)
left_sends config view low probes [] = []
left_sends config view low probes (batch ∷ others) =
    (to_each (replicas_of config) (Stable view (batch_end batch)) ++ told view (told_in low (batch_end batch) probes))
    ++ left_sends config view (batch_end batch + 1) probes others

-- how many batches FORCE begins at most, where so many of so many have left
abbrev pub room_once_left : ℕ → ℕ → ℕ
room_once_left left flight = if left == 0 then 0 else FLIGHT_LIMIT - (flight - left)

-- the replica once a follower's answer is noted, once a shard's is and batches have passed, and once the finished batches have left
abbrev pub order_taken : SeqState → ℕ → ℕ → SeqState
order_taken s follower upto = record s { flight = with_order s.flight follower upto }

abbrev pub place_taken : SeqState → ℕ → ℕ → SeqState
place_taken s shard upto = record s { flight = passed (length s.config.shards) (with_place s.flight shard upto) }

abbrev pub once_left : SeqState → SeqState
once_left s = (finishing s s.flight).next
