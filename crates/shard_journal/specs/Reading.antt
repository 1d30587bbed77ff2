-- How a block is read.
use Rattle.std.specs.Prelude.{◌≡◌, ◌≢◌, ℕ, ◌+◌, ◌<◌, ◌≤◌, List, [], ◌∷◌, ◌++◌, length, drop, true, Bool, ◌&&◌, ◌==◌, nat_le, nat_lt, Option, Some, None}
use Rattle.rec_id.specs.declared.limits.TheConstants.{READ_LIMIT}
use Rattle.lazy_msgs.specs.declared.msg.Envelope.{Envelope}
use Rattle.lazy_msgs.specs.declared.msg.Msg.{Msg}
use Rattle.lazy_msgs.specs.declared.msg.Msg.TheVariants.{Part}
use Rattle.shard_journal.specs.declared.block.Block.{Block}
use Rattle.shard_journal.specs.declared.scan.Found.{Found}
use Rattle.shard_journal.specs.Blocks.{body_form, behind_form, blocks_form, entries_in, rises_within, BlockFits, IsWhole, NoBlock}

-- a body is what a Part has behind its read number, so it is read and written as that of a Part to nobody
abbrev pub part_of : Block → Envelope
part_of block = record { from = 0; to = 0; time = 0; msg = Part 1 block.from block.to block.entries }

-- what a message has as a block
abbrev pub block_in : Msg → Option Block
block_in (Part read from end entries) = Some (record { from = from; to = end; entries = entries })
block_in _ = None

-- it goes on from this position, and has its positions and places as a block has them
abbrev pub goes_on_from : ℕ → Block → Bool
goes_on_from kept block =
    block.from == kept && nat_lt block.from block.to && nat_le block.to (block.from + READ_LIMIT) && rises_within block.from block.to block.entries

-- the body of a block that goes on from this position, or of none
abbrev pub BodyOf : ℕ → List ℕ → Option Block → Type 0
BodyOf kept bytes (Some block) = (bytes ≡ body_form block) × BlockFits block × (block.from ≡ kept)
BodyOf kept bytes None = (block : Block) → BlockFits block → block.from ≡ kept → bytes ≢ body_form block

-- a block was read, with the byte behind it
pub record ReadOn (file : List ℕ) (before now : Found) (flag : ℕ) : Type 0 where
  pub block : Block
  pub fits : BlockFits block
  pub from_is : block.from ≡ before.kept
  pub bytes : drop (before.end + 1) file ≡ behind_form block ++ flag ∷ drop (now.end + 1) file
  pub kept_is : now.kept ≡ block.to
  pub end_is : now.end ≡ before.end + 1 + length (behind_form block)
  pub within : now.end < length file
  pub entries_are : now.entries ≡ before.entries ++ block.entries

-- the file is whole, and this is what it has
pub record IsFound (file : List ℕ) (found : Found) : Type 0 where
  pub blocks : List Block
  pub whole : IsWhole file blocks found.kept
  pub end_is : found.end ≡ length (blocks_form blocks)
  pub entries_are : found.entries ≡ entries_in blocks
