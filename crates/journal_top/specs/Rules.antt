-- What the lines of a script do: one rule a line.
use Rattle.std.specs.Prelude.{ℕ, ◌+◌, List, [], length, Bool, true, false, not, ◌&&◌, nat_le, nat_lt, if◌then◌else◌, Option, Some, None, Result, Ok, Err}
use Rattle.rec_id.specs.declared.item.Body.{Body}
use Rattle.rec_id.specs.declared.item.Body.TheVariants.{Elsewhere}
use Rattle.rec_id.specs.declared.item.Cell.{Cell}
use Rattle.lazy_rules.specs.Store.{Store, is_own, new_store, part, raise_stable, with_cell}
use Rattle.shard_journal.specs.declared.block.Block.{Block}
use Rattle.shard_journal.specs.declared.limits.TheConstants.{FILE_LIMIT}
use Rattle.shard_journal.specs.declared.refused.JournalRefused.{JournalRefused}
use Rattle.shard_journal.specs.declared.refused.JournalRefused.TheVariants.{Closed, Full, DiskFault, Damaged, Memory}
use Rattle.shard_journal.specs.Blocks.{behind_form}
use Rattle.shard_journal.specs.State.{next_block, next_size}
use Rattle.journal_script.specs.declared.command.Command.{Command}
use Rattle.journal_script.specs.declared.command.Command.TheVariants.{Nothing, Add, Stable, Keep, Show, Stop, Open}
use Rattle.journal_script.specs.declared.texts.Refusal.{Refusal}
use Rattle.journal_script.specs.declared.texts.Refusal.TheVariants as why
use Rattle.journal_script.specs.Texts.{bytes_text, kept_text, opened_text, refused_text}
use Rattle.journal_top.specs.declared.tool.TheConstants.{PLACES_LIMIT}
use Rattle.journal_top.specs.declared.words.Shard.{Shard}
use Rattle.journal_top.specs.Devices.{Device, Made, keep_calls, made, reopened, stopping}

-- the tool: its store; below which position all is kept, and at which offset of the file the byte behind the last block
-- stands; whether a keep met a fault of the disk since that was opened; the disk; and how many lines were read
pub record ToolState : Type 0 where
  pub store : Store
  pub kept : ℕ
  pub end : ℕ
  pub closed : Bool
  pub disk : Device
  pub lines : ℕ

-- an empty store, and the file of an empty disk
abbrev pub start : Shard → ToolState
start shard = record {
  store = new_store shard.mode shard.number shard.shards;
  kept = 0;
  end = 0;
  closed = false;
  disk = reopened [];
  lines = 0;
}

-- the tool after a line, and the text of the line, where it has one
abbrev pub Told : Type 0
Told = ToolState × Option (List ℕ)

abbrev pub quiet : ToolState → Told
quiet t = (t, None)

abbrev pub says : ToolState → List ℕ → Told
says t text = (t, Some text)

abbrev pub refuses : ToolState → Refusal → Told
refuses t refusal = says t (refused_text refusal)

-- The next place gets a cell. One whose data belongs to another shard is for the places of the others.
abbrev pub is_elsewhere : Body → Bool
is_elsewhere Elsewhere = true
is_elsewhere _ = false

abbrev pub is_in_place : Store → Cell → Bool
is_in_place store cell = if is_own store (length store.order) cell.id then not (is_elsewhere cell.body) else is_elsewhere cell.body

abbrev pub add : ToolState → Cell → Told
add t cell = if is_in_place t.store cell then quiet (record t { store = with_cell t.store cell }) else refuses t why.Place

-- the places below this one become final
abbrev pub make_stable : ToolState → ℕ → Told
make_stable t to =
    if nat_le t.store.stable to && nat_le to (length t.store.order) then quiet (record t { store = raise_stable t.store to })
    else refuses t why.Stable

-- the next final places are kept, 256 at most, where the disk succeeds in all calls
abbrev pub put : ToolState → Block → Made → Told
put t block done =
    if done.ok
    then says (record t { kept = block.to; end = t.end + 1 + length (behind_form block); disk = done.disk }) (kept_text block.to)
    else refuses (record t { closed = true; disk = done.disk }) why.DiskFault

abbrev pub keep_within : ToolState → Told
keep_within t =
    if nat_lt FILE_LIMIT (next_size t.store t.kept t.end) then refuses t why.Full
    else put t (next_block t.store t.kept) (made t.disk (keep_calls t.end (next_block t.store t.kept)))

-- with nothing new, nothing is done
abbrev pub keep_open : ToolState → Told
keep_open t = if nat_le t.store.stable t.kept then says t (kept_text t.kept) else keep_within t

abbrev pub keep : ToolState → Told
keep t = if t.closed then refuses t why.Closed else keep_open t

-- The power goes off and on, and the file is opened. It has what was kept: the entries of the store's own places below
-- that position.
abbrev pub open_again : ToolState → Told
open_again t = says (record t { closed = false; disk = reopened t.disk.synced }) (opened_text t.kept (part t.store 0 t.kept))

abbrev pub follow : ToolState → Command → Told
follow t Nothing = quiet t
follow t (Add cell) = add t cell
follow t (Stable to) = make_stable t to
follow t Keep = keep t
follow t Show = says t (bytes_text t.disk.bytes)
follow t (Stop number) = quiet (record t { disk = stopping t.disk number })
follow t Open = open_again t

-- an entry is to be added, and no place is left
abbrev pub is_over : ToolState → Command → Bool
is_over t (Add cell) = nat_le PLACES_LIMIT (length t.store.order)
is_over t _ = false

-- what the answer of a keep is told by, but for want of memory
abbrev pub keep_says : Result ℕ JournalRefused → Option (List ℕ)
keep_says (Ok kept) = Some (kept_text kept)
keep_says (Err Closed) = Some (refused_text why.Closed)
keep_says (Err Full) = Some (refused_text why.Full)
keep_says (Err DiskFault) = Some (refused_text why.DiskFault)
keep_says (Err (Damaged at)) = None
keep_says (Err Memory) = None
