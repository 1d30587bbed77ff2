-- What holds of the tool between two lines.
use Rattle.std.specs.Prelude.{None, ◌≡◌, ℕ, ◌≤◌, List, [], length, false}
use Rattle.std.specs.List.{AllByRecursion}
use Rattle.rec_id.specs.declared.entry.Entry.{Entry}
use Rattle.view_config.specs.declared.edition.Edition.TheVariants.{One}
use Rattle.lazy_msgs.specs.FrameLimits.{CellFits}
use Rattle.lazy_rules.specs.Store.{Store, part}
use Rattle.journal_disk.specs.Past.{Memory}
use Rattle.shard_journal.specs.declared.block.Block.{Block}
use Rattle.shard_journal.specs.Blocks.{IsWhole, blocks_form, entries_in}
use Rattle.shard_journal.specs.State.{Holds, JournalState}
use Rattle.journal_top.specs.declared.tool.TheConstants.{LINES_LIMIT, PLACES_LIMIT}
use Rattle.journal_top.specs.declared.words.Shard.{Shard}
use Rattle.journal_top.specs.Devices.{device_of, reopened}
use Rattle.journal_top.specs.Rules.{ToolState}
use Rattle.journal_top.specs.Words.{IsShard}

-- the file stands for the store's entries below a position
abbrev pub HoldsTo : Store → List ℕ → ℕ → Type 0
HoldsTo store file to = Holds file to (part store 0 to)

-- the file stands for what is kept, or for some final entries more
pub record HoldsMore (store : Store) (kept : ℕ) (file : List ℕ) : Type 0 where
  pub to : ℕ
  pub least : kept ≤ to
  pub most : to ≤ store.stable
  pub holds : HoldsTo store file to

-- nothing was given up, no cell is open, and each has the form of one in a frame
pub record IsPlain (store : Store) : Type 0 where
  pub floor_is : store.floor ≡ 0
  pub stable_is : store.stable ≤ length store.order
  pub places : length store.order ≤ PLACES_LIMIT
  pub fit : AllByRecursion (CellFits One) store.order

-- What is kept is final. The file that is synced has it; and so has what is read, with some more where a keep met a fault.
pub record IsSound (t : ToolState) : Type 0 where
  pub plain : IsPlain t.store
  pub kept_is : t.kept ≤ t.store.stable
  pub blocks : List Block
  pub whole : IsWhole t.disk.synced blocks t.kept
  pub end_is : t.end ≡ length (blocks_form blocks)
  pub entries_are : entries_in blocks ≡ part t.store 0 t.kept
  pub reads : t.closed ≡ false → t.disk.bytes ≡ t.disk.synced
  pub more : HoldsMore t.store t.kept t.disk.bytes

-- the tool with this store and journal
abbrev pub tool_of : Store → JournalState Memory → ℕ → ToolState
tool_of store journal lines = record {
  store = store;
  kept = journal.kept;
  end = journal.end;
  closed = journal.closed;
  disk = device_of journal.disk;
  lines = lines;
}

-- the parts of a tool
pub record IsTool (store : Store) (journal : JournalState Memory) (shard : Shard) (lines : ℕ) : Type 0 where
  pub sound : IsSound (tool_of store journal lines)
  pub owner : IsShard shard
  pub mode_is : store.mode ≡ shard.mode
  pub shard_is : store.shard ≡ shard.number
  pub shards_are : store.shards ≡ shard.shards
  pub faultless : journal.disk.meter.to_fail ≡ []
  pub few : lines ≤ LINES_LIMIT

-- a disk that isn't to fail
pub record GoesOn (disk : Memory) : Type 0 where
  pub none_to_fail : disk.meter.to_fail ≡ []
  pub no_stop : disk.meter.stops_in ≡ None

-- a file that stands for these blocks was opened
pub record IsOpened (file : List ℕ) (blocks : List Block) (kept : ℕ) (journal : JournalState Memory) (entries : List (ℕ × Entry)) : Type 0 where
  pub kept_is : journal.kept ≡ kept
  pub end_is : journal.end ≡ length (blocks_form blocks)
  pub open_ : journal.closed ≡ false
  pub entries_are : entries ≡ entries_in blocks
  pub disk_is : device_of journal.disk ≡ reopened file
  pub faultless : journal.disk.meter.to_fail ≡ []
