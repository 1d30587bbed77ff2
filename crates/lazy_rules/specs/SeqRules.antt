use Rattle.std.specs.Prelude.{ℕ, ◌+◌, ◌^◌, max, List, [], ◌∷◌, ◌++◌, length, filter, flat_map, Bool, true, false, not, ◌&&◌, ◌==◌, nat_le, nat_lt, if◌then◌else◌, Option}
use Rattle.std.specs.Option.{option_map_or}
use Rattle.rec_id.specs.Identity.{Identity}
use Rattle.rec_id.specs.declared.marks.Marks.{Marks}
use Rattle.view_config.specs.declared.config.Config.{Config}
use Rattle.lazy_msgs.specs.declared.input.Input.{Input}
use Rattle.lazy_msgs.specs.declared.input.Input.TheVariants.{Take, Tick}
use Rattle.lazy_msgs.specs.declared.msg.Msg.{Msg}
use Rattle.lazy_msgs.specs.declared.msg.Msg.TheVariants.{Append, AppendAck, Placed, Order, Ordered, Probe, ProbeAck, TailReady, Seal, Sealed, SealedEmpty, NewView, Started}
use Rattle.lazy_msgs.specs.Step.{Row}
use Rattle.lazy_rules.specs.Door.{is_turned_away}
use Rattle.lazy_rules.specs.Flight.{has_placing, has_ordering, with_place, with_order, has_later_probe, with_probe}
use Rattle.rec_id.specs.Identity.{has_id}
use Rattle.lazy_rules.specs.Leading.{resends, begins, passes, finishes, forces, stable_sends}
use Rattle.lazy_rules.specs.Roles.{is_first, follower_of, shard_led_by}
use Rattle.lazy_rules.specs.Rows.{stays, answers, sends_all, followed, has_node}
use Rattle.lazy_rules.specs.SeqState.{SeqState}
use Rattle.lazy_rules.specs.Windows.{has_seen, marked_in, marked_all}
use Rattle.lazy_msgs.specs.declared.limits.TheConstants.{PENDING_LIMIT}
use Rattle.lazy_rules.specs.declared.limits.TheConstants.{POSITION_LIMIT}

-- the replica is in this view, and isn't sealed
abbrev pub is_active : SeqState → ℕ → Bool
is_active s view = s.view == view && nat_le 1 view && not s.sealed

-- the replica is the first of its configuration
abbrev pub is_leader : SeqState → Bool
is_leader s = is_first s.config.seq s.node

-- all positions that a leader can make are numbers of 32 bits. They always are, since it takes
-- nothing new from the position limit on
abbrev pub has_positions : SeqState → Bool
has_positions s = nat_lt (s.bound + length s.pending) (2 ^ 32)

-- the replica is active in this view, and leads it, or follows
abbrev pub is_leading : SeqState → ℕ → Bool
is_leading s view = is_active s view && is_leader s && has_positions s

abbrev pub is_following : SeqState → ℕ → Bool
is_following s view = is_active s view && not (is_leader s)

-- there is room for one identity more
abbrev pub has_room : SeqState → Bool
has_room s = nat_lt (length s.pending) PENDING_LIMIT && nat_lt (s.bound + length s.pending) POSITION_LIMIT

-- the replica with one item more, whose identity it marks
abbrev pub with_item : SeqState → Identity → Option (List ℕ) → SeqState
with_item s id bytes = record s {
  pending = s.pending ++ record { id = id; bytes = bytes } ∷ [];
  window = marked_in s.window id;
}

-- Append: a known identity is acknowledged again, a new one is taken and acknowledged
abbrev pub on_append : SeqState → ℕ → Identity → Option (List ℕ) → Row SeqState
on_append s view id bytes =
    if not (is_active s view) then stays s
    else (if has_seen s.window id then answers s id.client (AppendAck view id)
    else (if has_room s then answers (with_item s id bytes) id.client (AppendAck view id)
    else stays s))

-- Tick: the leader sends again what isn't answered, batch by batch, and begins the next batch
abbrev pub on_tick : SeqState → Row SeqState
on_tick s =
    if is_leading s s.view then followed (sends_all s (flat_map (resends s) s.flight)) begins else stays s

-- Placed: the answer of a shard's primary is noted
abbrev pub notes_place : SeqState → ℕ → ℕ → Row SeqState
notes_place s upto shard = followed (passes (record s { flight = with_place s.flight shard upto })) finishes

abbrev pub on_placed : SeqState → ℕ → ℕ → ℕ → Row SeqState
on_placed s sender view upto =
    if not (is_leading s view) then stays s
    else (if not (has_placing s.flight upto) then stays s
    else option_map_or (notes_place s upto) (shard_led_by s.config sender) (stays s))

-- Ordered: a follower's answer is noted
abbrev pub notes_order : SeqState → ℕ → ℕ → Row SeqState
notes_order s upto follower = finishes (record s { flight = with_order s.flight follower upto })

abbrev pub on_ordered : SeqState → ℕ → ℕ → ℕ → Row SeqState
on_ordered s sender view upto =
    if not (is_leading s view) then stays s
    else (if not (has_ordering s.flight upto) then stays s
    else option_map_or (notes_order s upto) (follower_of s.config sender) (stays s))

-- the replica once these identities are bound next
abbrev pub with_bound : SeqState → List Identity → SeqState
with_bound s ids = record s {
  bound = s.bound + length ids;
  pending = filter (λ item. not (has_id ids item.id)) s.pending;
  window = marked_all s.window ids;
}

-- Order: a follower binds what is next, and says again what it has bound before
abbrev pub binds : SeqState → ℕ → ℕ → List Identity → Row SeqState
binds s sender view ids =
    if nat_lt (s.bound + length ids) (2 ^ 32)
    then answers (with_bound s ids) sender (Ordered view (s.bound + length ids))
    else stays s

abbrev pub on_order : SeqState → ℕ → ℕ → ℕ → List Identity → Row SeqState
on_order s sender view from ids =
    if not (is_following s view) then stays s
    else (if from == s.bound then binds s sender view ids
    else (if nat_le (from + length ids) s.bound then answers s sender (Ordered view (from + length ids))
    else stays s))

-- a probe is kept until all that the leader knows now is bound
abbrev pub with_waiting : SeqState → ℕ → ℕ → SeqState
with_waiting s client read = record s {
  probes = with_probe s.probes (record { client = client; read = read; target = s.bound + length s.pending });
}

-- where no probe of this client for this read or a later one waits, one does from now on
abbrev pub waits : SeqState → ℕ → ℕ → Row SeqState
waits s client read = if has_later_probe s.probes client read then stays s else forces (with_waiting s client read)

-- what is told at once where nothing is pending
abbrev pub tail_sends : SeqState → ℕ → ℕ → List (ℕ × Msg)
tail_sends s sender read = stable_sends s s.bound ++ (sender, TailReady s.view read s.bound) ∷ []

-- Probe: it is acknowledged, and the leader answers it, now or once all that it knows is bound
abbrev pub on_probe : SeqState → ℕ → ℕ → ℕ → Row SeqState
on_probe s sender view read =
    if is_following s view then answers s sender (ProbeAck view read)
    else (if not (is_leading s view) then stays s
    else (if length s.pending == 0 then sends_all s ((sender, ProbeAck view read) ∷ tail_sends s sender read)
    else followed (answers s sender (ProbeAck view read)) (λ after. waits after sender read)))

-- Seal: the replica's own view is sealed, and a higher one is barred
abbrev pub on_seal : SeqState → ℕ → ℕ → Row SeqState
on_seal s sender view =
    if s.view == view then answers (record s { sealed = true }) sender (Sealed view s.bound s.window s.pending)
    else (if nat_lt s.view view then answers (record s { barred = max s.barred view }) sender (SealedEmpty view)
    else stays s)

-- the replica in a new view
abbrev pub in_view : SeqState → Config → ℕ → List Marks → SeqState
in_view s config base window = record s {
  view = config.view;
  config = config;
  sealed = false;
  bound = base;
  window = window;
  pending = [];
  flight = [];
  probes = [];
}

-- a replica that took a view says so, and the view's leader tells its base to all shard replicas
abbrev pub starts : SeqState → ℕ → Row SeqState
starts s sender =
    if is_leader s then sends_all s ((sender, Started s.view) ∷ stable_sends s s.bound)
    else answers s sender (Started s.view)

-- NewView: a replica that the view names takes it where it has taken and barred none as high, and
-- says so again
abbrev pub on_new_view : SeqState → ℕ → Config → ℕ → List Marks → Row SeqState
on_new_view s sender config base window =
    if nat_lt s.view config.view && nat_lt s.barred config.view && has_node config.seq s.node
    then starts (in_view s config base window) sender
    else (if s.view == config.view then answers s sender (Started config.view) else stays s)

-- what a message does, at a replica that it isn't turned away from
abbrev pub seq_row : SeqState → ℕ → Msg → Row SeqState
seq_row s sender (Append view id bytes) = on_append s view id bytes
seq_row s sender (Placed view upto) = on_placed s sender view upto
seq_row s sender (Order view from ids) = on_order s sender view from ids
seq_row s sender (Ordered view upto) = on_ordered s sender view upto
seq_row s sender (Probe view read) = on_probe s sender view read
seq_row s sender (Seal view) = on_seal s sender view
seq_row s sender (NewView config base window) = on_new_view s sender config base window
seq_row s sender _ = stays s

-- what a message from this node does
abbrev pub seq_took : SeqState → ℕ → Msg → Row SeqState
seq_took s sender msg = if is_turned_away s.shape sender msg then stays s else seq_row s sender msg

-- what an input does
abbrev pub seq_step : SeqState → Input → Row SeqState
seq_step s (Take envelope) = seq_took s envelope.from envelope.msg
seq_step s Tick = on_tick s
seq_step s _ = stays s
