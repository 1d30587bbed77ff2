use Rattle.std.specs.Prelude.{ℕ, List, [], ◌∷◌, length, map, filter, drop, Bool, false, not, ◌&&◌, nat_le, nat_lt, if◌then◌else◌, None, slice_range}
use Rattle.std.specs.List.{list_all}
use Rattle.std.specs.Option.{option_map_or}
use Rattle.lazy_msgs.specs.declared.msg.Msg.TheVariants.{Placed, Copy, FlushCopy, Flushed}
use Rattle.lazy_msgs.specs.Step.{Row}
use Rattle.lazy_rules.specs.Rows.{stays, answers, sends_all, followed, to_each}
use Rattle.lazy_rules.specs.ShardState.{ShardState, Backup, PlaceJob, FlushJob}
use Rattle.lazy_rules.specs.Store.{has_open, has_open_below}

-- The parts of a primary's rows. Each takes the state that the part before it left.

-- how many cells the order has
abbrev pub length_of : ShardState → ℕ
length_of s = length s.store.order

-- the backup is known to have the order up to here
abbrev pub reaches : ℕ → Backup → Bool
reaches upto backup = option_map_or (nat_le upto) backup.copied false

-- the backups that aren't
abbrev pub lagging : ShardState → ℕ → List ℕ
lagging s upto = map (λ backup. backup.node) (filter (λ backup. not (reaches upto backup)) s.backups)

-- the order up to here has no open cell, and every backup is known to have it
abbrev pub is_settled : ShardState → ℕ → Bool
is_settled s upto = not (has_open_below s.store upto) && list_all (reaches upto) s.backups

-- SETTLE: the first Place jobs end while what they placed is settled; a Flush job ends where the
-- whole order is
abbrev pub places_end : ShardState → List PlaceJob → Row ShardState
places_end s [] = stays s
places_end s (job ∷ jobs) =
    if is_settled s job.end
    then followed (answers (record s { jobs = jobs }) job.asker (Placed s.view job.end)) (λ after. places_end after jobs)
    else stays s

abbrev pub flush_ends : ShardState → FlushJob → Row ShardState
flush_ends s job =
    if is_settled s (length_of s) then answers (record s { flush = None }) job.asker (Flushed s.view) else stays s

abbrev pub settles : ShardState → Row ShardState
settles s = followed (places_end s s.jobs) (λ after. option_map_or (flush_ends after) after.flush (stays after))

-- PUSH of a Place job: its cells for the backups that lack them, unless one up to its end is open
abbrev pub pushes_place : ShardState → PlaceJob → Row ShardState
pushes_place s job =
    if has_open_below s.store job.end then stays s
    else followed
    (sends_all s (to_each (lagging s job.end) (Copy s.view job.from (slice_range s.store.order job.from job.end))))
    settles

-- PUSH of a Flush job: the flushed cells for the backups that lack them, unless a cell is open
abbrev pub pushes_flush : ShardState → FlushJob → Row ShardState
pushes_flush s job =
    if has_open s.store then stays s
    else followed
    (sends_all s (to_each (lagging s (length_of s)) (FlushCopy s.view job.from (drop job.from s.store.order))))
    settles

-- PUSH of several Place jobs, one after the other
abbrev pub pushes_places : ShardState → List PlaceJob → Row ShardState
pushes_places s [] = stays s
pushes_places s (job ∷ jobs) = followed (pushes_place s job) (λ after. pushes_places after jobs)

-- PUSH of each Place job that ends above this place, and of a Flush job
abbrev pub pushes_above : ShardState → ℕ → Row ShardState
pushes_above s place =
    followed
    (pushes_places s (filter (λ job. nat_lt place job.end) s.jobs))
    (λ after. option_map_or (pushes_flush after) after.flush (stays after))
