use Rattle.std.specs.Prelude.{◌≡◌, ◌≢◌, ◌<◌, ◌≤◌, ℕ, ◌+◌, List, length, take, true, Option, Some, None, slice_get}
use Rattle.list_facts.specs.Lists.{In, Each}
use Rattle.rec_id.specs.History.{asked_from}
use Rattle.rec_id.specs.Identity.{Identity, shard_of}
use Rattle.rec_id.specs.declared.entry.Entry.{Entry}
use Rattle.rec_id.specs.declared.event.Ask.{Ask}
use Rattle.rec_id.specs.declared.event.Event.{Event}
use Rattle.rec_id.specs.declared.event.Event.TheVariants.{Invoke, Begin, TrimAsk}
use Rattle.rec_id.specs.declared.item.Cell.{Cell}
use Rattle.rec_id.specs.declared.item.Item.{Item}
use Rattle.rec_id.specs.declared.marks.Marks.{Marks}
use Rattle.view_config.specs.declared.config.Config.{Config}
use Rattle.view_config.specs.declared.edition.Mode.TheVariants.{St}
use Rattle.view_config.specs.Shape.{Dimensions}
use Rattle.lazy_rules.specs.ClientRules.{carried}
use Rattle.lazy_rules.specs.Ids.{ids_of}
use Rattle.lazy_rules.specs.ReaderRules.{entry_at}
use Rattle.lazy_rules.specs.Roles.{is_first, others_of, replicas_at}
use Rattle.lazy_rules.specs.SeqState.{SeqState}
use Rattle.lazy_rules.specs.ShardState.{ShardState}
use Rattle.lazy_rules.specs.WorldRules.{ids_in}
use Rattle.log_facts.specs.Finality.{line_ids, IsFinal, AllSettledIn, BarredOrCovered, TellsPlace}
use Rattle.log_facts.specs.Ghosts.{Views, Log, Given, Probed, IsStarted}
use Rattle.log_facts.specs.Handed.{CellHanded, EachFrom, ItemGiven}
use Rattle.log_facts.specs.Parts.{home_of}
use Rattle.log_facts.specs.Past.{IsBegun, HasBegun, IsTrimAsked}
use Rattle.log_facts.specs.Signs.{Void, sign_at, IsPiece, IsSignPiece}

-- What each kind of message says of the world, from when it is sent on. Each speaks of what it reads alone: `node` is
-- the sender, and a state is the sender's. What holds of a view while it is the current one, and once it is closed, is
-- told apart by the current view alone.

-- ---- appends

-- Append: the append began, with the bytes that it carries
pub record AppendSays (shape : Dimensions) (history : List Event) (id : Identity) (bytes : Option (List ℕ)) : Type 0 where
  pub own : List ℕ
  pub begun : In (Invoke id own) history
  pub has : bytes ≡ carried shape.mode own

-- AppendAck: the record stands in the replica's line; of a closed view that the sender closed, in what was flushed then
pub record AckSays (v : Views) (line : List Identity) (s : SeqState) (node view : ℕ) (id : Identity) : Type 0 where
  pub own : view ≤ s.view
  pub live : view ≡ v.cur → In id (line_ids line s)
  pub closed : view < v.cur → node ≡ v.cx view → In id (take (v.le view) line)

-- Put: the append began with these bytes, which go to its shard by themselves
pub record PutSays (shape : Dimensions) (history : List Event) (id : Identity) (bytes : List ℕ) : Type 0 where
  pub apart : shape.mode ≡ St
  pub begun : In (Invoke id bytes) history

-- DataAck: it was given
abbrev pub DataAckSays : List Given → ℕ → ℕ → Identity → Type 0
DataAckSays given node view id = In (record { node = node; view = view; id = id }) given

-- Rejected: the place is final as a no-op of this record, wherever it is final
pub record RejectedSays (shape : Dimensions) (v : Views) (log : Log) (shards : ℕ → ShardState) (id : Identity) (place : ℕ) : Type 0 where
  pub apart : shape.mode ≡ St
  pub below : place < log.low
  pub stands : slice_get log.line place ≡ Some id
  pub void : (d : ℕ) → home_of d ≡ shard_of id shape.shards → 1 ≤ (shards d).view → IsFinal v log.high (shards d).view place → sign_at (shards d) place ≡ Some (record { id = id; sort = Void })

-- ---- binding

-- Place: a batch of the line, with the bytes that are due
pub record PlaceSays (shape : Dimensions) (v : Views) (line : List Identity) (history : List Event) (to view from : ℕ) (items : List Item) : Type 0 where
  pub started : IsStarted v view
  pub piece : view ≡ v.cur → IsPiece line from (ids_of items)
  pub given : EachFrom (ItemGiven shape history (home_of to)) from items

-- Placed: each replica of the shard has the order up to here, and no cell of it is open
pub record PlacedSays (v : Views) (shards : ℕ → ShardState) (node view upto : ℕ) : Type 0 where
  pub started : IsStarted v view
  pub settled : AllSettledIn v shards view (home_of node) upto

-- Copy and FlushCopy: a piece of the primary's order, as long as it is in this view
pub record HandsCells (shape : Dimensions) (v : Views) (history : List Event) (s : ShardState) (node to view from : ℕ) (cells : List Cell) : Type 0 where
  pub leads : is_first (replicas_at (v.cf view) (home_of node)) node ≡ true
  pub follows : In to (others_of (replicas_at (v.cf view) (home_of node)))
  pub own : view ≤ s.view
  pub each : EachFrom (CellHanded shape history (home_of node)) from cells
  pub piece : s.view ≡ view → IsSignPiece s.store.order from cells

pub record CopySays (shape : Dimensions) (v : Views) (history : List Event) (s : ShardState) (node to view from : ℕ) (cells : List Cell) : Type 0 where
  pub started : IsStarted v view
  pub handed : HandsCells shape v history s node to view from cells

-- Copied: the replica has the order up to here
pub record CopiedSays (s : ShardState) (view upto : ℕ) : Type 0 where
  pub own : view ≤ s.view
  pub has : s.view ≡ view → upto ≤ length s.store.order

-- Order: a batch of the line, which every replica of every shard has
pub record OrderSays (v : Views) (line : List Identity) (history : List Event) (shards : ℕ → ShardState) (view from : ℕ) (ids : List Identity) : Type 0 where
  pub started : IsStarted v view
  pub begun : Each (IsBegun history) ids
  pub piece : view ≡ v.cur → IsPiece line from ids
  pub settled : view ≡ v.cur → (shard : ℕ) → AllSettledIn v shards view shard (from + length ids)

-- Ordered: the replica knows the order up to here to be bound; of a closed view that the sender closed, no more than
-- was bound then
pub record OrderedSays (v : Views) (s : SeqState) (node view upto : ℕ) : Type 0 where
  pub own : view ≤ s.view
  pub has : s.view ≡ view → upto ≤ s.bound
  pub closed : view < v.cur → node ≡ v.cx view → upto ≤ v.cl view

-- Stable: what is below is bound for good
pub record StableSays (v : Views) (low view upto : ℕ) : Type 0 where
  pub started : IsStarted v view
  pub below : upto ≤ low
  pub closed : view < v.cur → upto ≤ v.cl view

-- Claim: it is below the sender's own stable number
abbrev pub ClaimSays : ShardState → ℕ → Type 0
ClaimSays s upto = upto ≤ s.store.stable

-- ---- reads

-- Probe: the client's read began
abbrev pub ProbeSays : List Event → ℕ → ℕ → Type 0
ProbeSays history client read = HasBegun history client read

-- ProbeAck: the replica acknowledged it
abbrev pub ProbeAckSays : List Probed → ℕ → ℕ → ℕ → ℕ → Type 0
ProbeAckSays probed node view client read = In (record { node = node; view = view; client = client; read = read }) probed

-- TailReady: the tail is bound for good, and covers what the read must see; or the read isn't acknowledged by all
pub record TailSays (v : Views) (log : Log) (history : List Event) (seqs : ℕ → SeqState) (view client read tail : ℕ) : Type 0 where
  pub begun : HasBegun history client read
  pub stable : StableSays v log.low view tail
  pub covers : BarredOrCovered v log.probed history seqs view client read (take tail log.line) tail

-- Fetch: the client's read began, from this place on
pub record FetchSays (history : List Event) (client read from : ℕ) : Type 0 where
  pub ask : Ask
  pub begun : In (Begin client read ask) history
  pub is : asked_from ask ≡ from

-- Part: the read began, and of each place that is final it tells what the shard has there
pub record PartSays (shape : Dimensions) (v : Views) (log : Log) (history : List Event) (shards : ℕ → ShardState) (shard client read from end : ℕ) (entries : List (ℕ × Entry)) : Type 0 where
  pub fetched : FetchSays history client read from
  pub below : end ≤ log.low
  pub told : (place : ℕ) → from ≤ place → place < end → TellsPlace v log.high history shards shard place (entry_at entries place)

-- ---- changes of view

-- a line that is flushed for a view: the items that followed where the view before was closed
pub record IsFlush (v : Views) (line : List Identity) (view from : ℕ) (ids : List Identity) : Type 0 where
  pub before : ℕ
  pub some : 1 ≤ before
  pub is : view ≡ before + 1
  pub known : view ≤ v.cur
  pub starts : from ≡ v.cl before
  pub ends : from + length ids ≡ v.le before
  pub piece : IsPiece line from ids

-- Flush: it is one, with the bytes that are due
pub record FlushSays (shape : Dimensions) (v : Views) (line : List Identity) (history : List Event) (to : ℕ) (config : Config) (from : ℕ) (items : List Item) : Type 0 where
  pub named : config ≡ v.cf config.view
  pub flush : IsFlush v line config.view from (ids_of items)
  pub given : EachFrom (ItemGiven shape history (home_of to)) from items

-- FlushCopy: the primary hands it on
pub record FlushCopySays (shape : Dimensions) (v : Views) (line : List Identity) (history : List Event) (s : ShardState) (node to view from : ℕ) (cells : List Cell) : Type 0 where
  pub flush : IsFlush v line view from (ids_in cells)
  pub handed : HandsCells shape v history s node to view from cells

-- Flushed: each replica of the shard has it, and no cell of it is open
pub record FlushedSays (v : Views) (shards : ℕ → ShardState) (node view : ℕ) : Type 0 where
  pub before : ℕ
  pub some : 1 ≤ before
  pub is : view ≡ before + 1
  pub known : view ≤ v.cur
  pub own : view ≤ (shards node).view
  pub settled : AllSettledIn v shards view (home_of node) (v.le before)
  pub ended : (shards node).view ≡ view → (shards node).flush ≡ None

-- Seal: a started view, to a member of it
pub record SealSays (v : Views) (to view : ℕ) : Type 0 where
  pub started : IsStarted v view
  pub member : In to (v.cf view).seq

-- what a sealed replica has
pub record HasSealed (s : SeqState) (bound : ℕ) (window : List Marks) (items : List Item) : Type 0 where
  pub sealed : s.sealed ≡ true
  pub bound_is : s.bound ≡ bound
  pub window_is : s.window ≡ window
  pub items_are : s.pending ≡ items

-- Sealed: a member of a started view is sealed in it, and this is what it has, or it went on
pub record SealedSays (v : Views) (s : SeqState) (node view bound : ℕ) (window : List Marks) (items : List Item) : Type 0 where
  pub started : IsStarted v view
  pub member : In node (v.cf view).seq
  pub own : view ≤ s.view
  pub has : s.view ≡ view → HasSealed s bound window items

-- SealedEmpty: a member of a started view never took it, and never will
pub record SealedEmptySays (v : Views) (s : SeqState) (node view : ℕ) : Type 0 where
  pub started : IsStarted v view
  pub member : In node (v.cf view).seq
  pub apart : s.view ≢ view
  pub barred : s.view < view → view ≤ s.barred

-- a configuration of a started view
pub record IsReign (v : Views) (config : Config) : Type 0 where
  pub started : IsStarted v config.view
  pub named : config ≡ v.cf config.view

-- a closed view that its leader never took: nothing was bound in it, and no read can be answered in it for less than
-- it must see
pub record LeaderlessSays (v : Views) (log : Log) (history : List Event) (seqs : ℕ → SeqState) (view : ℕ) : Type 0 where
  pub unbound : v.cl view ≤ v.bs view
  pub covers : (client read : ℕ) → HasBegun history client read → BarredOrCovered v log.probed history seqs view client read (take (v.bs view) log.line) (v.bs view)

-- NewView: a started view, and what it began with
pub record NewViewSays (v : Views) (log : Log) (history : List Event) (seqs : ℕ → SeqState) (config : Config) (base : ℕ) (window : List Marks) : Type 0 where
  pub reign : IsReign v config
  pub base_is : base ≡ v.bs config.view
  pub window_is : window ≡ v.wn config.view
  pub leaderless : config.view < v.cur → (leader : ℕ) → is_first (v.cf config.view).seq leader ≡ true → (seqs leader).view < config.view → LeaderlessSays v log history seqs config.view

-- Started: the replica took the view
abbrev pub StartedSays : SeqState → ℕ → Type 0
StartedSays s view = view ≤ s.view

-- ---- trims

-- Trim: it was asked for
abbrev pub TrimSays : List Event → ℕ → ℕ → ℕ → Type 0
TrimSays history client read floor = In (TrimAsk client read floor) history

-- TrimAck: it was asked for, and the replica's floor is no lower
pub record TrimAckSays (history : List Event) (s : ShardState) (client read : ℕ) : Type 0 where
  pub floor : ℕ
  pub asked : TrimSays history client read floor
  pub given_up : floor ≤ s.store.floor

-- TrimmedAt: what the read begins with was given up, as a trim asked
pub record TrimmedAtSays (history : List Event) (low floor : ℕ) : Type 0 where
  pub asked : IsTrimAsked history floor
  pub below : floor ≤ low
