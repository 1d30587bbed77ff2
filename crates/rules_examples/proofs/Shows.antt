use Rattle.std.proofs.Common.{ℕ, List, [], ◌∷◌, ◌++◌, length, map, drop, Some, Result, Ok, Err}
use Rattle.std.specs.List.{range_with_len}
use Rattle.std.specs.Option.{option_to_list}
use Rattle.rec_id.specs.Identity.{Identity}
use Rattle.rec_id.specs.declared.entry.Entry.{Entry}
use Rattle.rec_id.specs.declared.event.Event.{Event}
use Rattle.rec_id.specs.declared.item.Cell.{Cell}
use Rattle.rec_id.specs.declared.item.Body.{Body}
use Rattle.rec_id.specs.declared.item.Item.{Item}
use Rattle.view_config.specs.declared.edition.Edition.{Edition}
use Rattle.view_config.specs.declared.edition.Edition.TheVariants.{One}
use Rattle.view_config.specs.declared.edition.Mode.{Mode}
use Rattle.view_config.specs.Shape.{Dimensions}
use Rattle.lazy_msgs.specs.declared.input.Input.{Input}
use Rattle.lazy_msgs.specs.declared.input.Input.TheVariants.{Take}
use Rattle.lazy_msgs.specs.declared.input.WorldEvent.{WorldEvent}
use Rattle.lazy_msgs.specs.declared.input.WorldEvent.TheVariants.{Deliver}
use Rattle.lazy_msgs.specs.declared.msg.Envelope.{Envelope}
use Rattle.lazy_msgs.specs.declared.msg.Msg.{Msg}
use Rattle.lazy_msgs.specs.declared.refused.EventRefused.{EventRefused}
use Rattle.lazy_msgs.specs.Step.{Row}
use Rattle.lazy_rules.specs.Holders.{holders}
use Rattle.lazy_rules.specs.Lines.{line_told}
use Rattle.lazy_rules.specs.SeqState.{SeqState}
use Rattle.lazy_rules.specs.ShardState.{ShardState}
use Rattle.lazy_rules.specs.WorldState.{WorldState, first_world}
use Rattle.lazy_rules.specs.WorldRules.{run, refusal, happened}

-- What the examples show of a world.

-- record n of client c
abbrev pub c# : ℕ → ℕ → Identity
c# c n = record { client = c; number = n }

-- a shape: its edition and mode, and how many sequencing replicas, spares, shards, replicas of each and
-- clients it has
abbrev pub shape_in : Edition → Mode → ℕ → ℕ → ℕ → ℕ → ℕ → Dimensions
shape_in edition mode seq spares shards copies clients = record {
  edition = edition;
  mode = mode;
  seq = seq;
  spares = spares;
  shards = shards;
  copies = copies;
  clients = clients;
}

-- a shape of edition One without spares
abbrev pub shape_of : Mode → ℕ → ℕ → ℕ → ℕ → Dimensions
shape_of mode seq shards copies clients = shape_in One mode seq 0 shards copies clients

-- a cell
abbrev pub cell : ℕ → ℕ → Body → Cell
cell c n body = record { id = c# c n; body = body }

-- an item with one byte
abbrev pub item : ℕ → ℕ → ℕ → Item
item c n byte = record { id = c# c n; bytes = Some (byte ∷ []) }

-- the delivery of so many messages, from this one on
abbrev pub flow : ℕ → ℕ → List WorldEvent
flow first count = map Deliver (range_with_len first count)

-- what a sequencing replica has: how many positions are bound, and what isn't
pub record SeqShown : Type 0 where
  pub bound : ℕ
  pub pending : List Item

abbrev pub seq_shown : SeqState → SeqShown
seq_shown s = record { bound = s.bound; pending = s.pending }

-- what a shard replica has: its cells, and how many are final
pub record ShardShown : Type 0 where
  pub order : List Cell
  pub stable : ℕ

abbrev pub shard_shown : ShardState → ShardShown
shard_shown s = record { order = s.store.order; stable = s.store.stable }

-- what a run led to
pub record Shown : Type 0 where
  pub history : List Event
  pub messages : ℕ
  pub events : ℕ
  pub seqs : List SeqShown
  pub shards : List ShardShown

abbrev pub shown : WorldState → Shown
shown w = record {
  history = w.history;
  messages = length w.sent;
  events = w.events;
  seqs = map seq_shown w.seqs;
  shards = map shard_shown w.shards;
}

-- the run from the first world of a shape
abbrev pub ran : Dimensions → List WorldEvent → WorldState
ran shape events = run events (first_world shape)

abbrev pub leads : Dimensions → List WorldEvent → Shown
leads shape events = shown (ran shape events)

-- a replica with nothing, in either role
abbrev pub no_seq : SeqShown
no_seq = record { bound = 0; pending = [] }

abbrev pub no_shard : ShardShown
no_shard = record { order = []; stable = 0 }

-- the same, and the messages after the first so many
pub record Told : Type 0 where
  pub shown : Shown
  pub later : List Msg

abbrev pub msg_of : Envelope → Msg
msg_of envelope = envelope.msg

abbrev pub tells : Dimensions → List WorldEvent → ℕ → Told
tells shape events first =
    let w = ran shape events in
    record { shown = shown w; later = map msg_of (drop first w.sent) }

-- what a node sends in each of several steps, and what it is then
pub record Replies (S : Type 0) : Type 0 where
  pub last : S
  pub sends : List (List (ℕ × Msg))

abbrev pub replied : {S : Type 0} → List (ℕ × Msg) → Replies S → Replies S
replied sends rest = record { last = rest.last; sends = sends ∷ rest.sends }

abbrev pub replies : {S : Type 0} → (S → ℕ → Msg → Row S) → S → List (ℕ × Msg) → Replies S
replies took s [] = record { last = s; sends = [] }
replies took s (one ∷ others) = replied (took s one.0 one.1).sends (replies took (took s one.0 one.1).next others)

-- the state after all of them
abbrev pub after_all : {S : Type 0} → (S → ℕ → Msg → Row S) → S → List (ℕ × Msg) → S
after_all took s [] = s
after_all took s (one ∷ others) = after_all took (took s one.0 one.1).next others

-- the sends alone
abbrev pub sends_of : {S : Type 0} → (S → ℕ → Msg → Row S) → S → List (ℕ × Msg) → List (List (ℕ × Msg))
sends_of took s msgs = (replies took s msgs).sends

-- what is told in each of several steps
abbrev pub told_of : {S : Type 0} → (S → ℕ → Msg → Row S) → S → List (ℕ × Msg) → List (List Event)
told_of took s [] = []
told_of took s (one ∷ others) = (took s one.0 one.1).events ∷ told_of took (took s one.0 one.1).next others

-- a message from a node, as an input
abbrev pub from_node : ℕ → Msg → Input
from_node node msg = Take (record { from = node; to = 0; time = 0; msg = msg })

-- what a node sends and tells in each of several steps, and what it is then
pub record Stepped (S : Type 0) : Type 0 where
  pub last : S
  pub sends : List (List (ℕ × Msg))
  pub events : List (List Event)

abbrev pub added : {S : Type 0} → List (ℕ × Msg) → List Event → Stepped S → Stepped S
added sends events rest = record { last = rest.last; sends = sends ∷ rest.sends; events = events ∷ rest.events }

abbrev pub steps : {S : Type 0} → (S → Input → Row S) → S → List Input → Stepped S
steps step s [] = record { last = s; sends = []; events = [] }
steps step s (input ∷ inputs) = added (step s input).sends (step s input).events (steps step (step s input).next inputs)

-- the line of a holder, or the shard at which it is lost
pub record HolderLine : Type 0 where
  pub holder : ℕ
  pub line : Result (List Entry) ℕ

abbrev pub line_is : ℕ → List Entry → HolderLine
line_is holder line = record { holder = holder; line = Ok line }

abbrev pub line_lost : ℕ → ℕ → HolderLine
line_lost holder shard = record { holder = holder; line = Err shard }

-- the lines of all holders
abbrev pub lines_of : WorldState → List HolderLine
lines_of w = map (λ holder. record { holder = holder; line = line_told w holder }) (holders w)

-- why events of a run were refused, in the order of those that were
abbrev pub refusals : WorldState → List WorldEvent → List EventRefused
refusals w [] = []
refusals w (event ∷ events) = option_to_list (refusal w event) ++ refusals (happened w event) events

-- a trace: what the clients did and were told, how many messages were sent and events accepted, what was
-- refused, and the lines of the holders after each of its parts
pub record Traced : Type 0 where
  pub history : List Event
  pub messages : ℕ
  pub events : ℕ
  pub refused : List EventRefused
  pub lines : List (List HolderLine)

abbrev pub traced : WorldState → List EventRefused → List (List HolderLine) → List (List WorldEvent) → Traced
traced w refused lines [] = record {
  history = w.history;
  messages = length w.sent;
  events = w.events;
  refused = refused;
  lines = lines;
}
traced w refused lines (part ∷ parts) =
    let next = run part w in
    traced next (refused ++ refusals w part) (lines ++ lines_of next ∷ []) parts

abbrev pub traces : Dimensions → List (List WorldEvent) → Traced
traces shape parts = traced (first_world shape) [] [] parts
