use Rattle.std.specs.Prelude.{ℕ, ◌+◌, ◌^◌, max, min, List, [], ◌∷◌, ◌++◌, length, map, find, Bool, true, false, not, ◌&&◌, ◌==◌, nat_le, nat_lt, if◌then◌else◌, Some, None}
use Rattle.std.specs.List.{list_any}
use Rattle.std.specs.Option.{is_some, option_map_or}
use Rattle.rec_id.specs.Identity.{Identity}
use Rattle.rec_id.specs.declared.item.Cell.{Cell}
use Rattle.rec_id.specs.declared.item.Item.{Item}
use Rattle.view_config.specs.declared.config.Config.{Config}
use Rattle.lazy_msgs.specs.declared.input.Input.{Input}
use Rattle.lazy_msgs.specs.declared.input.Input.TheVariants.{Take, Grace}
use Rattle.lazy_msgs.specs.declared.msg.Msg.{Msg}
use Rattle.lazy_msgs.specs.declared.msg.Msg.TheVariants.{Put, DataAck, Rejected, Place, Placed, Copy, Copied, Stable, Fetch, Part, Flush, FlushCopy, Flushed, Claim, Trim, TrimAck, TrimmedAt}
use Rattle.lazy_msgs.specs.Step.{Row}
use Rattle.lazy_rules.specs.Door.{is_turned_away}
use Rattle.lazy_rules.specs.Pushing.{length_of, settles, pushes_place, pushes_flush, pushes_above}
use Rattle.lazy_rules.specs.Roles.{is_first, replicas_at}
use Rattle.lazy_rules.specs.Rows.{stays, answers, followed}
use Rattle.lazy_rules.specs.ShardState.{ShardState, Backup, PlaceJob, backups_of}
use Rattle.lazy_rules.specs.Store.{Store, extend, extend_cells, recut, recut_cells, hold, fill, open_to_noop, raise_stable, trim, part, noop_at, open_at, first_open, has_open_below}
use Rattle.lazy_rules.specs.declared.limits.TheConstants.{JOBS_LIMIT}
use Rattle.view_config.specs.declared.nodes.TheConstants.{BOARD}

-- the replica is the primary, or a backup, of this view
abbrev pub is_primary : ShardState → ℕ → Bool
is_primary s view = s.primary && s.view == view

abbrev pub is_backup : ShardState → ℕ → Bool
is_backup s view = not s.primary && s.view == view

-- the replica with another store
abbrev pub with_store : ShardState → Store → ShardState
with_store s store = record s { store = store }

-- so many more places make a length of 32 bits
abbrev pub has_places : ℕ → ℕ → Bool
has_places from count = nat_lt (from + count) (2 ^ 32)

-- Place, of the next batch: the order is extended, and the batch is pushed
abbrev pub takes_place : ShardState → ℕ → Bool
takes_place s from = not (is_some s.flush) && nat_lt (length s.jobs) JOBS_LIMIT && from == length_of s

abbrev pub new_job : ShardState → ℕ → List Item → PlaceJob
new_job s sender items = record { from = length_of s; end = length_of s + length items; asker = sender }

abbrev pub with_placed : ShardState → ℕ → List Item → ShardState
with_placed s sender items = record s { store = extend s.store items; jobs = s.jobs ++ new_job s sender items ∷ [] }

abbrev pub places : ShardState → ℕ → List Item → Row ShardState
places s sender items =
    if has_places (length_of s) (length items) then pushes_place (with_placed s sender items) (new_job s sender items)
    else stays s

-- Place, of a batch before all that is being placed: it is answered again
abbrev pub first_unplaced : ShardState → List PlaceJob → ℕ
first_unplaced s [] = length_of s
first_unplaced s (job ∷ jobs) = job.from

abbrev pub was_placed : ShardState → ℕ → Bool
was_placed s upto = not (is_some s.flush) && nat_le upto (first_unplaced s s.jobs)

abbrev pub answers_placed : ShardState → ℕ → ℕ → Row ShardState
answers_placed s sender upto = if was_placed s upto then answers s sender (Placed s.view upto) else stays s

-- Place: the next batch is taken, one that is being placed is pushed again, and one before is answered
-- again
abbrev pub on_place : ShardState → ℕ → ℕ → ℕ → List Item → Row ShardState
on_place s sender view from items =
    if not (is_primary s view) then stays s
    else (if takes_place s from then places s sender items
    else option_map_or (pushes_place s) (find (λ job. job.from == from) s.jobs) (answers_placed s sender (from + length items)))

-- Copy: a backup extends its order by what is next, and says again what it has had before
abbrev pub copies : ShardState → ℕ → List Cell → Row ShardState
copies s sender cells =
    if has_places (length_of s) (length cells)
    then answers (with_store s (extend_cells s.store cells)) sender (Copied s.view (length_of s + length cells))
    else stays s

abbrev pub on_copy : ShardState → ℕ → ℕ → ℕ → List Cell → Row ShardState
on_copy s sender view from cells =
    if not (is_backup s view) then stays s
    else (if from == length_of s then copies s sender cells
    else (if nat_le (from + length cells) (length_of s) then answers s sender (Copied view (from + length cells))
    else stays s))

-- Copied: a backup is known to have the order up to here
abbrev pub raised : ℕ → Backup → Backup
raised upto backup = record backup { copied = Some (option_map_or (λ copied. max copied upto) backup.copied upto) }

abbrev pub raised_of : ℕ → ℕ → List Backup → List Backup
raised_of node upto backups = map (λ backup. if backup.node == node then raised upto backup else backup) backups

abbrev pub has_backup : ShardState → ℕ → Bool
has_backup s node = list_any (λ backup. backup.node == node) s.backups

abbrev pub on_copied : ShardState → ℕ → ℕ → ℕ → Row ShardState
on_copied s sender view upto =
    if not (is_primary s view) then stays s
    else (if not (has_backup s sender) then stays s
    else (if not (nat_le upto (length_of s)) then stays s
    else settles (record s { backups = raised_of sender upto s.backups })))

-- Stable: the order is final up to here, and is claimed on the board
abbrev pub on_stable : ShardState → ℕ → ℕ → Row ShardState
on_stable s view upto =
    if s.view == view && nat_lt s.store.stable upto && nat_le upto (length_of s) && not (has_open_below s.store upto)
    then answers (with_store s (raise_stable s.store upto)) BOARD (Claim upto)
    else stays s

-- Put, of a record that became a no-op: it is told where that is final; else the data is held, and
-- nothing is told
abbrev pub finds_noop : ShardState → ℕ → Identity → List ℕ → ℕ → Row ShardState
finds_noop s sender id bytes place =
    if nat_lt place s.store.stable then answers s sender (Rejected id place)
    else stays (with_store s (hold s.store id bytes))

-- Put, of a record whose cell is open: it is filled, and what waited for it is pushed
abbrev pub fills : ShardState → ℕ → Identity → List ℕ → ℕ → Row ShardState
fills s sender id bytes place =
    followed
    (answers (with_store s (fill s.store place bytes)) sender (DataAck s.view id))
    (λ after. pushes_above after place)

-- Put, of any other record: its data is held where it isn't there, and it is acknowledged
abbrev pub holds : ShardState → ℕ → Identity → List ℕ → Row ShardState
holds s sender id bytes = answers (with_store s (hold s.store id bytes)) sender (DataAck s.view id)

abbrev pub on_put : ShardState → ℕ → Identity → List ℕ → Row ShardState
on_put s sender id bytes =
    option_map_or (finds_noop s sender id bytes) (noop_at s.store id)
    (option_map_or (fills s sender id bytes) (open_at s.store id) (holds s sender id bytes))

-- Grace: a primary waits no longer for the data of its open cells, the first of which is at this
-- place
abbrev pub gives_up : ShardState → ℕ → Row ShardState
gives_up s place = pushes_above (with_store s (open_to_noop s.store)) place

abbrev pub on_grace : ShardState → Row ShardState
on_grace s = if s.primary then option_map_or (gives_up s) (first_open s.store) (stays s) else stays s

-- Fetch: what is final is told, unless a part of what is asked for was given up
abbrev pub fetched : ShardState → ℕ → ℕ → ℕ → Msg
fetched s read from end = Part read from end (part s.store from end)

abbrev pub on_fetch : ShardState → ℕ → ℕ → ℕ → ℕ → Row ShardState
on_fetch s sender read from to =
    if nat_lt from s.store.floor then answers s sender (TrimmedAt read s.store.floor)
    else answers s sender (fetched s read from (min to s.store.stable))

-- the order may be cut off from this place on
abbrev pub can_cut : ShardState → ℕ → Bool
can_cut s from = nat_le s.store.stable from && nat_le from (length_of s)

-- Flush, of a higher view: the replica becomes the primary of that view with the flushed order
abbrev pub flushed : ShardState → ℕ → Config → ℕ → List Item → ShardState
flushed s sender config from items = record s {
  view = config.view;
  primary = true;
  backups = backups_of (replicas_at config s.store.shard);
  store = recut s.store from items;
  jobs = [];
  flush = Some (record { from = from; asker = sender });
}

-- Flush, of the own view: it is pushed again, or answered again where it ended
abbrev pub flushes_again : ShardState → ℕ → Row ShardState
flushes_again s sender =
    option_map_or (pushes_flush s) s.flush (if s.primary then answers s sender (Flushed s.view) else stays s)

abbrev pub takes_flush : ShardState → Config → ℕ → List Item → Bool
takes_flush s config from items =
    is_first (replicas_at config s.store.shard) s.node && can_cut s from && has_places from (length items)

abbrev pub on_flush : ShardState → ℕ → Config → ℕ → List Item → Row ShardState
on_flush s sender config from items =
    if s.view == config.view then flushes_again s sender
    else (if nat_lt s.view config.view && takes_flush s config from items
    then pushes_flush (flushed s sender config from items) (record { from = from; asker = sender })
    else stays s)

-- FlushCopy: a replica becomes a backup of a higher view with the flushed order, and says again what
-- it has had before
abbrev pub flush_copied : ShardState → ℕ → ℕ → List Cell → ShardState
flush_copied s view from cells = record s {
  view = view;
  primary = false;
  backups = [];
  store = recut_cells s.store from cells;
  jobs = [];
  flush = None;
}

abbrev pub on_flush_copy : ShardState → ℕ → ℕ → ℕ → List Cell → Row ShardState
on_flush_copy s sender view from cells =
    if nat_lt s.view view && can_cut s from && has_places from (length cells)
    then answers (flush_copied s view from cells) sender (Copied view (from + length cells))
    else (if is_backup s view && nat_le (from + length cells) (length_of s)
    then answers s sender (Copied view (from + length cells))
    else stays s)

-- Trim: data below the floor is given up, as far as the order is final
abbrev pub on_trim : ShardState → ℕ → ℕ → ℕ → Row ShardState
on_trim s sender read floor =
    if nat_le floor s.store.stable then answers (with_store s (trim s.store floor)) sender (TrimAck read) else stays s

-- what a message does, at a replica that it isn't turned away from
abbrev pub shard_row : ShardState → ℕ → Msg → Row ShardState
shard_row s sender (Put id bytes) = on_put s sender id bytes
shard_row s sender (Place view from items) = on_place s sender view from items
shard_row s sender (Copy view from cells) = on_copy s sender view from cells
shard_row s sender (Copied view upto) = on_copied s sender view upto
shard_row s sender (Stable view upto) = on_stable s view upto
shard_row s sender (Fetch read from to) = on_fetch s sender read from to
shard_row s sender (Flush config from items) = on_flush s sender config from items
shard_row s sender (FlushCopy view from cells) = on_flush_copy s sender view from cells
shard_row s sender (Trim read floor) = on_trim s sender read floor
shard_row s sender _ = stays s

-- what a message from this node does
abbrev pub shard_took : ShardState → ℕ → Msg → Row ShardState
shard_took s sender msg = if is_turned_away s.shape sender msg then stays s else shard_row s sender msg

-- what an input does
abbrev pub shard_step : ShardState → Input → Row ShardState
shard_step s (Take envelope) = shard_took s envelope.from envelope.msg
shard_step s Grace = on_grace s
shard_step s _ = stays s
