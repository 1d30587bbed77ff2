use Rattle.std.specs.Prelude.{ℕ, ◌+◌, ◌-◌, ◌^◌, List, [], ◌∷◌, ◌++◌, length, map, filter, take, flat_map, position, remove, Bool, not, ◌&&◌, ◌==◌, nat_le, nat_lt, if◌then◌else◌, Option, Some, None, slice_get, slice_set, unwrap_or}
use Rattle.std.specs.List.{list_all}
use Rattle.std.specs.Option.{is_none, option_map_or}
use Rattle.rec_id.specs.Identity.{Identity, shard_of}
use Rattle.rec_id.specs.declared.event.Event.TheVariants.{Invoke, Acked, Rejected as RejectedEvent}
use Rattle.view_config.specs.declared.edition.Mode.{Mode}
use Rattle.view_config.specs.declared.edition.Mode.TheVariants.{M, St}
use Rattle.view_config.specs.Limits.{window_of, record_limit}
use Rattle.view_config.specs.declared.config.Config.{Config}
use Rattle.lazy_msgs.specs.declared.input.Input.{Input}
use Rattle.lazy_msgs.specs.declared.input.Input.TheVariants.{Take, Tick, Post}
use Rattle.lazy_msgs.specs.declared.msg.Msg.{Msg}
use Rattle.lazy_msgs.specs.declared.msg.Msg.TheVariants.{Append, AppendAck, Put, DataAck, Rejected, ViewIs}
use Rattle.lazy_msgs.specs.declared.refused.PostRefused.{PostRefused}
use Rattle.lazy_msgs.specs.declared.refused.PostRefused.TheVariants.{TooLong, NumbersSpent, WindowFull}
use Rattle.lazy_msgs.specs.Step.{Row}
use Rattle.lazy_rules.specs.ClientState.{ClientState, OpenAppend, id_of, lowest}
use Rattle.lazy_rules.specs.Door.{is_turned_away}
use Rattle.lazy_rules.specs.Rows.{stays, sends_all, has_node}
use Rattle.lazy_rules.specs.declared.limits.TheConstants.{RESENT_LIMIT}

-- why an append of so many bytes is refused, if it is
abbrev pub post_refusal : ClientState → ℕ → Option PostRefused
post_refusal c size =
    if nat_lt (record_limit c.shape.edition) size then Some TooLong
    else (if c.next == 2 ^ 32 - 1 then Some NumbersSpent
    else (if nat_le (lowest c.next c.unfinished + window_of c.shape.edition) c.next then Some (WindowFull (lowest c.next c.unfinished))
    else None))

-- the replicas of the shard that keeps this record's data
abbrev pub homes_of : ClientState → Identity → List ℕ
homes_of c id = unwrap_or (slice_get c.config.shards (shard_of id c.shape.shards)) []

-- the nodes among these that haven't acknowledged the append
abbrev pub lacking : OpenAppend → List ℕ → List ℕ
lacking append nodes = filter (λ node. not (has_node append.acked node)) nodes

-- the data that goes through the sequencing replicas
abbrev pub carried : Mode → List ℕ → Option (List ℕ)
carried M bytes = Some bytes
carried St bytes = None

-- the nodes that an append's data goes to by itself
abbrev pub data_nodes : Mode → List ℕ → List ℕ
data_nodes M homes = []
data_nodes St homes = homes

-- SENDING an append: its data to its shard, then the record to the sequencing replicas, in each case
-- to those that haven't acknowledged
abbrev pub sending_data : ClientState → OpenAppend → List (ℕ × Msg)
sending_data c append =
    map (λ node. (node, Put (id_of c append.number) append.bytes))
    (lacking append (data_nodes c.shape.mode (homes_of c (id_of c append.number))))

abbrev pub sending_record : ClientState → OpenAppend → List (ℕ × Msg)
sending_record c append =
    map (λ node. (node, Append c.config.view (id_of c append.number) (carried c.shape.mode append.bytes)))
    (lacking append c.config.seq)

abbrev pub sending : ClientState → OpenAppend → List (ℕ × Msg)
sending c append = sending_data c append ++ sending_record c append

-- Post: the append gets the next number, and is sent
abbrev pub begun : ClientState → List ℕ → OpenAppend
begun c bytes = record { number = c.next; bytes = bytes; acked = [] }

abbrev pub invokes : ClientState → List ℕ → Row ClientState
invokes c bytes = record {
  next = record c { next = c.next + 1; unfinished = c.unfinished ++ begun c bytes ∷ [] };
  sends = sending c (begun c bytes);
  events = Invoke (id_of c c.next) bytes ∷ [];
}

-- the nodes with one more, each once
abbrev pub with_node : List ℕ → ℕ → List ℕ
with_node nodes node = if has_node nodes node then nodes else nodes ++ node ∷ []

-- the append with one more node that acknowledged it
abbrev pub noted : OpenAppend → ℕ → OpenAppend
noted append node = record append { acked = with_node append.acked node }

-- all whose word is wanted have acknowledged the append
abbrev pub is_complete : ClientState → OpenAppend → Bool
is_complete c append =
    list_all (has_node append.acked) c.config.seq
    && list_all (has_node append.acked) (data_nodes c.shape.mode (homes_of c (id_of c append.number)))

-- the append at place i is finished
abbrev pub finishes : ClientState → ℕ → OpenAppend → Row ClientState
finishes c i append = record {
  next = record c { unfinished = remove c.unfinished i };
  sends = [];
  events = Acked (id_of c append.number) ∷ [];
}

-- where an append of this number stands among the unfinished ones
abbrev pub place_of : ClientState → ℕ → Option ℕ
place_of c number = position (λ append. append.number == number) c.unfinished

-- the append at place i is this from now on, and finished where it is complete
abbrev pub advances : ClientState → ℕ → OpenAppend → Row ClientState
advances c i append =
    if is_complete c append then finishes c i append
    else stays (record c { unfinished = slice_set c.unfinished i append })

-- an acknowledgement of the unfinished append of this number by this node is noted
abbrev pub notes : ClientState → ℕ → ℕ → Row ClientState
notes c node number =
    option_map_or
    (λ i. option_map_or (λ append. advances c i (noted append node)) (slice_get c.unfinished i) (stays c))
    (place_of c number)
    (stays c)

-- AppendAck: noted where it is of the client's view and of a sequencing replica of it
abbrev pub on_append_ack : ClientState → ℕ → ℕ → Identity → Row ClientState
on_append_ack c sender view id =
    if not (view == c.config.view) then stays c
    else (if not (id.client == c.client) then stays c
    else (if not (has_node c.config.seq sender) then stays c
    else notes c sender id.number))

-- DataAck: the same, where it is of the client's view and of a replica of the record's shard in it
abbrev pub on_data_ack : ClientState → ℕ → ℕ → Identity → Row ClientState
on_data_ack c sender view id =
    if not (view == c.config.view) then stays c
    else (if not (id.client == c.client) then stays c
    else (if not (has_node (homes_of c id) sender) then stays c
    else notes c sender id.number))

-- Rejected: the append is finished, and the client is told the place of the no-op
abbrev pub rejects : ClientState → ℕ → Identity → ℕ → Row ClientState
rejects c i id place = record {
  next = record c { unfinished = remove c.unfinished i };
  sends = [];
  events = RejectedEvent id place ∷ [];
}

abbrev pub on_rejected : ClientState → Identity → ℕ → Row ClientState
on_rejected c id place =
    if not (id.client == c.client) then stays c
    else option_map_or (λ i. rejects c i id place) (place_of c id.number) (stays c)

-- SENDING each of these appends
abbrev pub sending_each : ClientState → List OpenAppend → Row ClientState
sending_each c appends = sends_all c (flat_map (sending c) appends)

-- ViewIs: the client goes on in a later view, in which nobody has acknowledged anything
abbrev pub unacknowledged : OpenAppend → OpenAppend
unacknowledged append = record append { acked = [] }

abbrev pub in_config : ClientState → Config → ClientState
in_config c config = record c { config = config; unfinished = map unacknowledged c.unfinished }

abbrev pub on_view_is : ClientState → Config → Row ClientState
on_view_is c config =
    if nat_lt c.config.view config.view
    then sending_each (in_config c config) (in_config c config).unfinished
    else stays c

-- Tick: the lowest unfinished appends, so many, are sent again
abbrev pub on_client_tick : ClientState → Row ClientState
on_client_tick c = sending_each c (take RESENT_LIMIT c.unfinished)

-- Post, where it isn't refused
abbrev pub on_post : ClientState → List ℕ → Row ClientState
on_post c bytes = if is_none (post_refusal c (length bytes)) then invokes c bytes else stays c

-- what a message does, at a client that it isn't turned away from
abbrev pub client_row : ClientState → ℕ → Msg → Row ClientState
client_row c sender (AppendAck view id) = on_append_ack c sender view id
client_row c sender (DataAck view id) = on_data_ack c sender view id
client_row c sender (Rejected id place) = on_rejected c id place
client_row c sender (ViewIs config) = on_view_is c config
client_row c sender _ = stays c

-- what a message from this node does
abbrev pub client_took : ClientState → ℕ → Msg → Row ClientState
client_took c sender msg = if is_turned_away c.shape sender msg then stays c else client_row c sender msg

-- what an input does
abbrev pub client_step : ClientState → Input → Row ClientState
client_step c (Take envelope) = client_took c envelope.from envelope.msg
client_step c Tick = on_client_tick c
client_step c (Post bytes) = on_post c bytes
client_step c _ = stays c
