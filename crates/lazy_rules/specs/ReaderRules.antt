use Rattle.std.specs.Prelude.{ℕ, ◌+◌, ◌-◌, ◌%◌, ◌^◌, max, min, List, [], ◌∷◌, ◌++◌, length, filter, flat_map, replicate, Bool, not, ◌&&◌, ◌||◌, ◌==◌, nat_le, nat_lt, if◌then◌else◌, Option, Some, None, slice_get, slice_set, slice_index_or, unwrap_or}
use Rattle.std.specs.List.{list_all, range_with_len}
use Rattle.std.specs.Option.{is_some, is_none, option_map_or, option_to_list}
use Rattle.rec_id.specs.History.{answer_reach, asked_from, asked_to}
use Rattle.rec_id.specs.declared.entry.Entry.{Entry}
use Rattle.rec_id.specs.declared.event.Ask.{Ask}
use Rattle.rec_id.specs.declared.event.Ask.TheVariants.{Range, Tail}
use Rattle.rec_id.specs.declared.event.Event.TheVariants.{Begin, Answer, TrimAsk, TrimDone, Trimmed}
use Rattle.view_config.specs.declared.config.Config.{Config}
use Rattle.view_config.specs.declared.edition.Edition.TheVariants.{One, Two}
use Rattle.lazy_msgs.specs.declared.input.Input.{Input}
use Rattle.lazy_msgs.specs.declared.input.Input.TheVariants.{Take, Tick, Ask as AskInput, Trim as TrimInput}
use Rattle.lazy_msgs.specs.declared.msg.Msg.{Msg}
use Rattle.lazy_msgs.specs.declared.msg.Msg.TheVariants.{Probe, ProbeAck, TailReady, Fetch as FetchMsg, Part, ViewIs, Trim, TrimAck, TrimmedAt}
use Rattle.lazy_msgs.specs.declared.refused.BeginRefused.{BeginRefused}
use Rattle.lazy_msgs.specs.declared.refused.BeginRefused.TheVariants.{Outstanding, Backward, Wide}
use Rattle.lazy_msgs.specs.declared.refused.TrimRefused.{TrimRefused}
use Rattle.lazy_msgs.specs.declared.refused.TrimRefused.TheVariants.{Outstanding as TrimOutstanding, Ahead}
use Rattle.lazy_msgs.specs.Step.{Row}
use Rattle.lazy_rules.specs.ClientRules.{with_node}
use Rattle.lazy_rules.specs.Door.{is_turned_away}
use Rattle.lazy_rules.specs.ReaderState.{ReaderState, Fetch, Force, Trimmer, Stage, Idle, Fetching, Probing, Trimming, outstanding}
use Rattle.lazy_rules.specs.Roles.{is_first, first_of, primaries_of, replicas_of, shard_kept_by}
use Rattle.lazy_rules.specs.Rows.{stays, sends_all, followed, to_each, each_numbered, has_node}
use Rattle.rec_id.specs.declared.limits.TheConstants.{READ_LIMIT}

-- why a read is refused, if it is: one read or trim at a time, and a range that isn't backward or wide
abbrev pub range_refusal : Ask → Option BeginRefused
range_refusal (Range from to) =
    if nat_lt to from then Some Backward else (if nat_lt READ_LIMIT (to - from) then Some Wide else None)
range_refusal (Tail from) = None

abbrev pub begin_refusal : ReaderState → Ask → Option BeginRefused
begin_refusal r ask = option_map_or (λ number. Some (Outstanding number)) (outstanding r.stage) (range_refusal ask)

-- why a trim is refused, if it is: a client trims no further than its answers reached
abbrev pub trim_refusal : ReaderState → ℕ → Option TrimRefused
trim_refusal r floor =
    option_map_or (λ number. Some (TrimOutstanding number)) (outstanding r.stage)
    (if nat_lt r.reach floor then Some (Ahead r.reach) else None)

-- the reader at another stage
abbrev pub at_stage : ReaderState → Stage → ReaderState
at_stage r stage = record r { stage = stage }

-- the read is answered, and over
abbrev pub with_answer : ReaderState → Ask → List Entry → Option ℕ → ReaderState
with_answer r ask entries tail = record r {
  stage = Idle;
  reach = max r.reach (answer_reach (asked_from ask) entries tail);
}

abbrev pub answered : ReaderState → ℕ → Ask → List Entry → Option ℕ → Row ReaderState
answered r number ask entries tail = record {
  next = with_answer r ask entries tail;
  sends = [];
  events = Answer r.client number (asked_from ask) entries tail ∷ [];
}

-- the read begins to fetch up to this end: it asks all primaries
abbrev pub new_fetch : ReaderState → ℕ → Ask → ℕ → Option ℕ → Fetch
new_fetch r number ask end tail = record {
  number = number;
  ask = ask;
  end = end;
  tail = tail;
  parts = replicate r.shape.shards None;
  turn = 0;
}

abbrev pub fetches : ReaderState → ℕ → Ask → ℕ → Option ℕ → Row ReaderState
fetches r number ask end tail =
    sends_all (at_stage r (Fetching (new_fetch r number ask end tail)))
    (to_each (primaries_of r.config) (FetchMsg number (asked_from ask) end))

-- the read begins to force: it probes all sequencing replicas
abbrev pub new_force : ℕ → Ask → Force
new_force number ask = record { number = number; ask = ask; acked = []; tail = None }

abbrev pub probes_all : ReaderState → ℕ → Ask → Row ReaderState
probes_all r number ask =
    sends_all (at_stage r (Probing (new_force number ask))) (to_each r.config.seq (Probe r.config.view number))

-- Ask: the read gets the next number. An empty range is answered at once, another is fetched, and a tail
-- is forced
abbrev pub with_number : ReaderState → ReaderState
with_number r = record r { count = r.count + 1 }

abbrev pub opens : ReaderState → Ask → Row ReaderState
opens r ask = record { next = with_number r; sends = []; events = Begin r.client (r.count + 1) ask ∷ [] }

abbrev pub seeks : ReaderState → Ask → Row ReaderState
seeks r (Range from to) =
    if from == to then answered r r.count (Range from to) [] None else fetches r r.count (Range from to) to None
seeks r (Tail from) = probes_all r r.count (Tail from)

-- the next number is one of 32 bits
abbrev pub has_number : ReaderState → Bool
has_number r = nat_lt (r.count + 1) (2 ^ 32)

abbrev pub begins_read : ReaderState → Ask → Row ReaderState
begins_read r ask = if has_number r then followed (opens r ask) (λ after. seeks after ask) else stays r

-- Trim: the trim gets the next number, and is sent to all shard replicas
abbrev pub new_trimmer : ReaderState → ℕ → Trimmer
new_trimmer r floor = record { number = r.count + 1; floor = floor; acked = [] }

abbrev pub with_trimmer : ReaderState → ℕ → ReaderState
with_trimmer r floor = at_stage (with_number r) (Trimming (new_trimmer r floor))

abbrev pub begins_trim : ReaderState → ℕ → Row ReaderState
begins_trim r floor =
    if has_number r
    then record {
      next = with_trimmer r floor;
      sends = to_each (replicas_of r.config) (Trim (r.count + 1) floor);
      events = TrimAsk r.client (r.count + 1) floor ∷ [];
    }
    else stays r

-- all shard replicas of the reader's view gave up the bytes
abbrev pub is_trim_complete : ReaderState → Trimmer → Bool
is_trim_complete r trimmer = list_all (has_node trimmer.acked) (replicas_of r.config)

abbrev pub ends_trim : ReaderState → Trimmer → Row ReaderState
ends_trim r trimmer = record {
  next = at_stage r Idle;
  sends = [];
  events = TrimDone r.client trimmer.number trimmer.floor ∷ [];
}

-- the trim for the replicas that haven't acknowledged it
abbrev pub trim_sends : ReaderState → Trimmer → List (ℕ × Msg)
trim_sends r trimmer =
    to_each (filter (λ node. not (has_node trimmer.acked node)) (replicas_of r.config)) (Trim trimmer.number trimmer.floor)

-- TrimAck: noted where it is of a shard replica of the reader's view; the last one ends the trim
abbrev pub notes_trim : ReaderState → Trimmer → Row ReaderState
notes_trim r trimmer = if is_trim_complete r trimmer then ends_trim r trimmer else stays (at_stage r (Trimming trimmer))

abbrev pub acked_trim : Trimmer → ℕ → Trimmer
acked_trim trimmer node = record trimmer { acked = with_node trimmer.acked node }

abbrev pub on_trim_ack : ReaderState → ℕ → ℕ → Row ReaderState
on_trim_ack r sender number = elim r.stage [
  | Trimming trimmer ↦
      if trimmer.number == number && has_node (replicas_of r.config) sender then notes_trim r (acked_trim trimmer sender)
      else stays r
  | _ ↦ stays r
]

-- the entry that a shard told of a place, the first where there are several
abbrev pub entry_at : List (ℕ × Entry) → ℕ → Option Entry
entry_at [] place = None
entry_at (placed ∷ others) place = if placed.0 == place then Some placed.1 else entry_at others place

-- what the shards told, by shard
abbrev pub told_by_all : List (Option (List (ℕ × Entry))) → List (ℕ × Entry)
told_by_all parts = flat_map (λ part. unwrap_or part []) parts

-- the entries in [from, end), by place
abbrev pub entries_in : List (Option (List (ℕ × Entry))) → ℕ → ℕ → List Entry
entries_in parts from end =
    flat_map (λ place. option_to_list (entry_at (told_by_all parts) place)) (range_with_len from (end - from))

-- the shard hasn't told its part, and told it
abbrev pub lacks_part : Fetch → ℕ → Bool
lacks_part fetch shard = is_none (slice_index_or fetch.parts shard None)

abbrev pub with_part : Fetch → ℕ → List (ℕ × Entry) → Fetch
with_part fetch shard entries = record fetch { parts = slice_set fetch.parts shard (Some entries) }

-- where the parts of all shards are there, the read is answered
abbrev pub gathers : ReaderState → Fetch → Row ReaderState
gathers r fetch =
    if list_all is_some fetch.parts
    then answered r fetch.number fetch.ask (entries_in fetch.parts (asked_from fetch.ask) fetch.end) fetch.tail
    else stays (at_stage r (Fetching fetch))

-- Part, up to the end or further: kept where its shard's isn't there
abbrev pub keeps_part : ReaderState → Fetch → List (ℕ × Entry) → ℕ → Row ReaderState
keeps_part r fetch entries shard =
    if lacks_part fetch shard then gathers r (with_part fetch shard entries) else stays r

-- Part, of less: the read forces, unless it was forced
abbrev pub falls_short : ReaderState → Fetch → Row ReaderState
falls_short r fetch = if is_none fetch.tail then probes_all r fetch.number fetch.ask else stays r

-- the read has this number, and begins at this place
abbrev pub is_fetch_of : Fetch → ℕ → ℕ → Bool
is_fetch_of fetch number from = fetch.number == number && asked_from fetch.ask == from

-- Part, of the read: what is told up to its end is kept, and less falls short
abbrev pub on_part : ReaderState → ℕ → ℕ → ℕ → ℕ → List (ℕ × Entry) → Row ReaderState
on_part r sender number from end entries = elim r.stage [
  | Fetching fetch ↦
      if not (is_fetch_of fetch number from) then stays r
      else (if nat_le fetch.end end then option_map_or (keeps_part r fetch entries) (shard_kept_by r.shape sender) (stays r)
      else falls_short r fetch)
  | _ ↦ stays r
]

-- TrimmedAt: a part of what the read wants was given up, and it is over
abbrev pub ends_read : ReaderState → ℕ → ℕ → Row ReaderState
ends_read r number floor = record { next = at_stage r Idle; sends = []; events = Trimmed r.client number floor ∷ [] }

abbrev pub on_trimmed_at : ReaderState → ℕ → ℕ → Row ReaderState
on_trimmed_at r number floor = elim r.stage [
  | Fetching fetch ↦
      if fetch.number == number && nat_lt (asked_from fetch.ask) floor then ends_read r number floor else stays r
  | _ ↦ stays r
]

-- DECIDE: once all sequencing replicas acknowledged and the tail is there, the read wants no more than
-- lies below the tail: it fetches that, or is answered where that is nothing
abbrev pub forced_end : Ask → ℕ → ℕ
forced_end ask tail = min (asked_to ask) tail

abbrev pub concludes : ReaderState → Force → ℕ → Row ReaderState
concludes r force tail =
    if nat_le (forced_end force.ask tail) (asked_from force.ask) then answered r force.number force.ask [] (Some tail)
    else fetches r force.number force.ask (forced_end force.ask tail) (Some tail)

abbrev pub decides : ReaderState → Force → Row ReaderState
decides r force =
    if list_all (has_node force.acked) r.config.seq
    then option_map_or (concludes r force) force.tail (stays (at_stage r (Probing force)))
    else stays (at_stage r (Probing force))

-- the probe of this number, in the reader's view
abbrev pub is_force_of : ReaderState → Force → ℕ → ℕ → Bool
is_force_of r force view number = force.number == number && view == r.config.view

-- ProbeAck: noted where it is of the reader's view and of a sequencing replica of it
abbrev pub acked_force : Force → ℕ → Force
acked_force force node = record force { acked = with_node force.acked node }

abbrev pub on_probe_ack : ReaderState → ℕ → ℕ → ℕ → Row ReaderState
on_probe_ack r sender view number = elim r.stage [
  | Probing force ↦
      if is_force_of r force view number && has_node r.config.seq sender then decides r (acked_force force sender)
      else stays r
  | _ ↦ stays r
]

-- TailReady: noted where it is of the reader's view and of its leader, and none was noted before
abbrev pub with_tail : Force → ℕ → Force
with_tail force tail = record force { tail = Some tail }

abbrev pub on_tail_ready : ReaderState → ℕ → ℕ → ℕ → ℕ → Row ReaderState
on_tail_ready r sender view number tail = elim r.stage [
  | Probing force ↦
      if is_force_of r force view number && is_first r.config.seq sender && is_none force.tail
      then decides r (with_tail force tail)
      else stays r
  | _ ↦ stays r
]

-- the fetch for the primary of each shard whose part isn't there
abbrev pub fetch_msg : Fetch → Msg
fetch_msg fetch = FetchMsg fetch.number (asked_from fetch.ask) fetch.end

abbrev pub fetch_first : Fetch → ℕ → List ℕ → List (ℕ × Msg)
fetch_first fetch shard nodes = if lacks_part fetch shard then to_each (first_of nodes) (fetch_msg fetch) else []

-- the same for the replica whose turn it is
abbrev pub in_turn : ℕ → List ℕ → List ℕ
in_turn turn nodes = option_to_list (slice_get nodes (turn % length nodes))

abbrev pub fetch_in_turn : Fetch → ℕ → List ℕ → List (ℕ × Msg)
fetch_in_turn fetch shard nodes = if lacks_part fetch shard then to_each (in_turn fetch.turn nodes) (fetch_msg fetch) else []

-- ViewIs: the reader goes on in a later view. A probe begins anew, a fetch asks the primaries of the
-- shards that it waits for, and a trim the replicas that it waits for, if there are such
abbrev pub goes_on : ReaderState → Row ReaderState
goes_on r = elim r.stage [
  | Idle ↦ stays r
  | Fetching fetch ↦ sends_all r (each_numbered (fetch_first fetch) 0 r.config.shards)
  | Probing force ↦ probes_all r force.number force.ask
  | Trimming trimmer ↦ if is_trim_complete r trimmer then ends_trim r trimmer else sends_all r (trim_sends r trimmer)
]

abbrev pub on_reader_view_is : ReaderState → Config → Row ReaderState
on_reader_view_is r config =
    if nat_lt r.config.view config.view then goes_on (record r { config = config }) else stays r

-- Tick, while probing: the probe again for those that haven't acknowledged it, and for the leader also
-- where its tail is missing
abbrev pub awaits : ReaderState → Force → ℕ → Bool
awaits r force node = not (has_node force.acked node) || (is_none force.tail && is_first r.config.seq node)

abbrev pub probes_again : ReaderState → Force → Row ReaderState
probes_again r force =
    sends_all r (to_each (filter (awaits r force) r.config.seq) (Probe r.config.view force.number))

-- Tick, while fetching: the next replica of each shard that is waited for is asked, and where a tail was
-- told the view's leader is probed again, so that it tells the shards its bound position
abbrev pub reminds : ReaderState → Fetch → List (ℕ × Msg)
reminds r fetch =
    if is_some fetch.tail then to_each (first_of r.config.seq) (Probe r.config.view fetch.number) else []

abbrev pub with_turn : Fetch → Fetch
with_turn fetch = record fetch { turn = fetch.turn + 1 }

abbrev pub fetches_in_turn : ReaderState → Fetch → Row ReaderState
fetches_in_turn r fetch =
    sends_all (at_stage r (Fetching fetch))
    (each_numbered (fetch_in_turn fetch) 0 r.config.shards ++ reminds r fetch)

-- unless its turns are spent
abbrev pub fetches_again : ReaderState → Fetch → Row ReaderState
fetches_again r fetch =
    if nat_lt (fetch.turn + 1) (2 ^ 32) then fetches_in_turn r (with_turn fetch) else stays r

-- Tick: what isn't answered is sent again
abbrev pub on_reader_tick : ReaderState → Row ReaderState
on_reader_tick r = elim r.stage [
  | Idle ↦ stays r
  | Fetching fetch ↦ fetches_again r fetch
  | Probing force ↦ probes_again r force
  | Trimming trimmer ↦ sends_all r (trim_sends r trimmer)
]

-- Ask, where it isn't refused
abbrev pub on_ask : ReaderState → Ask → Row ReaderState
on_ask r ask = if is_none (begin_refusal r ask) then begins_read r ask else stays r

-- Trim, where it isn't refused; edition One has none
abbrev pub on_trim_input : ReaderState → ℕ → Row ReaderState
on_trim_input r floor = elim r.shape.edition [
  | One ↦ stays r
  | Two ↦ if is_none (trim_refusal r floor) then begins_trim r floor else stays r
]

-- what a message does, at a reader that it isn't turned away from
abbrev pub reader_row : ReaderState → ℕ → Msg → Row ReaderState
reader_row r sender (ProbeAck view number) = on_probe_ack r sender view number
reader_row r sender (TailReady view number tail) = on_tail_ready r sender view number tail
reader_row r sender (Part number from end entries) = on_part r sender number from end entries
reader_row r sender (ViewIs config) = on_reader_view_is r config
reader_row r sender (TrimAck number) = on_trim_ack r sender number
reader_row r sender (TrimmedAt number floor) = on_trimmed_at r number floor
reader_row r sender _ = stays r

-- what a message from this node does
abbrev pub reader_took : ReaderState → ℕ → Msg → Row ReaderState
reader_took r sender msg = if is_turned_away r.shape sender msg then stays r else reader_row r sender msg

-- what an input does
abbrev pub reader_step : ReaderState → Input → Row ReaderState
reader_step r (Take envelope) = reader_took r envelope.from envelope.msg
reader_step r Tick = on_reader_tick r
reader_step r (AskInput ask) = on_ask r ask
reader_step r (TrimInput floor) = on_trim_input r floor
reader_step r _ = stays r
