use Rattle.std.specs.Prelude.{ℕ, zero, suc, ◌+◌, ◌^◌, ◌/◌, List, length, Bool, true, false, not, ◌&&◌, ◌||◌, ◌==◌, nat_lt, if◌then◌else◌, Option, Some}
use Rattle.std.specs.List.{list_all}
use Rattle.std.specs.Option.{is_none}
use Rattle.rec_id.specs.Identity.{Identity}
use Rattle.rec_id.specs.Marks.{bit_of}
use Rattle.rec_id.specs.declared.entry.Entry.{Entry}
use Rattle.rec_id.specs.declared.entry.Entry.TheVariants.{Kept, Noop, Gone}
use Rattle.rec_id.specs.declared.marks.Marks.{Marks}
use Rattle.view_config.specs.declared.config.Config.{Config}
use Rattle.view_config.specs.declared.nodes.Node.{Node}
use Rattle.view_config.specs.declared.nodes.Node.TheVariants.{Client, Shard}
use Rattle.view_config.specs.Limits.{window_of}
use Rattle.view_config.specs.Shape.{Dimensions, node_of}
use Rattle.lazy_msgs.specs.declared.msg.Msg.{Msg}
use Rattle.lazy_msgs.specs.declared.msg.Msg.TheVariants.{Append, AppendAck, Put, DataAck, Rejected, Place, Copy, Order, Probe, Part, Flush, FlushCopy, Sealed, NewView, ViewIs}

-- The door of every node. What stands here meets no rule at all, whatever the node's state. No run of
-- fewer than 2^32 events is meant to bring such a message.

-- the shape has this client
abbrev pub has_client : Dimensions → Identity → Bool
has_client shape id = nat_lt id.client shape.clients

abbrev pub name_of : Entry → Identity
name_of (Kept id bytes) = id
name_of (Noop id) = id
name_of (Gone id) = id

-- the identities that a message names are of clients that the shape has
abbrev pub names_clients : Dimensions → Msg → Bool
names_clients shape (Append view id bytes) = has_client shape id
names_clients shape (AppendAck view id) = has_client shape id
names_clients shape (Put id bytes) = has_client shape id
names_clients shape (DataAck view id) = has_client shape id
names_clients shape (Rejected id place) = has_client shape id
names_clients shape (Place view from items) = list_all (λ item. has_client shape item.id) items
names_clients shape (Copy view from cells) = list_all (λ cell. has_client shape cell.id) cells
names_clients shape (Order view from ids) = list_all (has_client shape) ids
names_clients shape (Part read from end entries) = list_all (λ placed. has_client shape (name_of placed.1)) entries
names_clients shape (Flush config from items) = list_all (λ item. has_client shape item.id) items
names_clients shape (FlushCopy view from cells) = list_all (λ cell. has_client shape cell.id) cells
names_clients shape (Sealed view bound window items) = list_all (λ item. has_client shape item.id) items
names_clients shape _ = true

-- no bit stands for a number below 1, from bit i on, `count` of them
abbrev pub has_none_below_one : Marks → ℕ → ℕ → Bool
has_none_below_one marks i zero = true
has_none_below_one marks i (suc count) =
    (nat_lt i marks.top || not (bit_of marks.bits i)) && has_none_below_one marks (i + 1) count

-- the marks are in their form: the edition's number of words, each a word, no bit for a number
-- below 1, and the bit of the greatest number
abbrev pub is_marks : Dimensions → Marks → Bool
is_marks shape marks =
    length marks.bits == window_of shape.edition / 64
    && nat_lt marks.top (2 ^ 32)
    && list_all (λ word. nat_lt word (2 ^ 64)) marks.bits
    && has_none_below_one marks 0 (window_of shape.edition)
    && (marks.top == 0 || bit_of marks.bits 0)

-- a window has the marks of each client
abbrev pub is_window : Dimensions → List Marks → Bool
is_window shape window = length window == shape.clients && list_all (is_marks shape) window

-- a window that a message carries is one
abbrev pub carries_window : Dimensions → Msg → Bool
carries_window shape (Sealed view bound window items) = is_window shape window
carries_window shape (NewView config base window) = is_window shape window
carries_window shape _ = true

-- the shape has this node
abbrev pub is_node : Dimensions → ℕ → Bool
is_node shape node = not (is_none (node_of shape node))

-- some nodes, all of the shape
abbrev pub is_node_list : Dimensions → List ℕ → Bool
is_node_list shape nodes = nat_lt 0 (length nodes) && list_all (is_node shape) nodes

-- a configuration has some sequencing replicas, and some replicas for each shard of the shape
abbrev pub is_config : Dimensions → Config → Bool
is_config shape config =
    is_node_list shape config.seq
    && length config.shards == shape.shards
    && list_all (is_node_list shape) config.shards

-- a configuration that a message carries is one
abbrev pub carries_config : Dimensions → Msg → Bool
carries_config shape (Flush config from items) = is_config shape config
carries_config shape (NewView config base window) = is_config shape config
carries_config shape (ViewIs config) = is_config shape config
carries_config shape _ = true

abbrev pub is_client : Option Node → Bool
is_client (Some (Client c)) = true
is_client _ = false

abbrev pub is_shard_replica : Option Node → Bool
is_shard_replica (Some (Shard i j)) = true
is_shard_replica _ = false

-- what a message wants of its sender: a Probe comes of a client, a Part of a shard replica
abbrev pub has_due_sender : Option Node → Msg → Bool
has_due_sender sender (Probe view read) = is_client sender
has_due_sender sender (Part read from end entries) = is_shard_replica sender
has_due_sender sender _ = not (is_none sender)

-- a Place has items
abbrev pub has_due_items : Msg → Bool
has_due_items (Place view from items) = nat_lt 0 (length items)
has_due_items _ = true

-- the message from this node meets no rule, at any node
abbrev pub is_turned_away : Dimensions → ℕ → Msg → Bool
is_turned_away shape sender msg =
    if not (has_due_sender (node_of shape sender) msg) then true
    else (if not (has_due_items msg) then true
    else (if not (names_clients shape msg) then true
    else (if not (carries_window shape msg) then true
    else not (carries_config shape msg))))
