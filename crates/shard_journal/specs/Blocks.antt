-- The format of a journal's file.
use Rattle.std.specs.Prelude.{◌≡◌, ◌≢◌, ◌⊎◌, ℕ, ◌+◌, ◌^◌, ◌<◌, ◌≤◌, List, [], ◌∷◌, ◌++◌, length, Bool, true, ◌&&◌, nat_le, nat_lt}
use Rattle.std.specs.List.{flat_map}
use Rattle.rec_id.specs.declared.entry.Entry.{Entry}
use Rattle.rec_id.specs.declared.limits.TheConstants.{READ_LIMIT}
use Rattle.view_config.specs.declared.edition.Edition.TheVariants.{One}
use Rattle.lazy_msgs.specs.Frame.{four, list_form, placed_form}
use Rattle.lazy_msgs.specs.FrameLimits.{ListFits, PlacedFits}
use Rattle.shard_journal.specs.declared.block.Block.{Block}

-- a body: the positions of the block, and its entries as a Part of version 1 has them
abbrev pub body_form : Block → List ℕ
body_form block = four block.from ++ four block.to ++ list_form (placed_form One) block.entries

-- a block: a byte 01, the length of its body, and the body
abbrev pub behind_form : Block → List ℕ
behind_form block = four (length (body_form block)) ++ body_form block

abbrev pub block_form : Block → List ℕ
block_form block = 1 ∷ behind_form block

abbrev pub blocks_form : List Block → List ℕ
blocks_form blocks = flat_map block_form blocks

abbrev pub entries_in : List Block → List (ℕ × Entry)
entries_in blocks = flat_map (λ block. block.entries) blocks

-- the places rise strictly, the first of them at least at `from`, and are below `to`
abbrev pub rises_within : ℕ → ℕ → List (ℕ × Entry) → Bool
rises_within from to [] = true
rises_within from to (placed ∷ others) = nat_le from placed.0 && nat_lt placed.0 to && rises_within (placed.0 + 1) to others

-- at least one position, at most as many as a read has, and entries at strictly rising places among them
pub record BlockFits (block : Block) : Type 0 where
  pub least : block.from < block.to
  pub most : block.to ≤ block.from + READ_LIMIT
  pub word : block.to < 2 ^ 32
  pub entries_fit : ListFits READ_LIMIT (PlacedFits One) block.entries
  pub rising : rises_within block.from block.to block.entries ≡ true

-- blocks that cover the positions [from, end) without gap
abbrev pub Chain : ℕ → List Block → ℕ → Type 0
Chain from [] end = end ≡ from
Chain from (block ∷ blocks) end = BlockFits block × (block.from ≡ from) × Chain block.to blocks end

-- blocks, then a byte other than 01, then anything
pub record IsWhole (file : List ℕ) (blocks : List Block) (end : ℕ) : Type 0 where
  pub closing : ℕ
  pub rest : List ℕ
  pub closed : closing ≢ 1
  pub bytes : file ≡ blocks_form blocks ++ closing ∷ rest
  pub chain : Chain 0 blocks end

-- a file of fewer than two bytes has no block
pub record IsBare (file : List ℕ) (blocks : List Block) (end : ℕ) : Type 0 where
  pub few : length file < 2
  pub none : blocks ≡ []
  pub zero_end : end ≡ 0

-- the file stands for these blocks, which end at this position
abbrev pub IsFile : List ℕ → List Block → ℕ → Type 0
IsFile file blocks end = IsBare file blocks end ⊎ IsWhole file blocks end

-- no block that goes on from this position stands here, with a byte behind it
abbrev pub NoBlock : ℕ → List ℕ → Type 0
NoBlock end bytes = (block : Block) (closing : ℕ) (more : List ℕ) → BlockFits block → block.from ≡ end → bytes ≢ behind_form block ++ closing ∷ more

-- behind some blocks a byte 01 stands at this offset, and no block follows
pub record IsDamaged (file : List ℕ) (at : ℕ) : Type 0 where
  pub blocks : List Block
  pub end : ℕ
  pub rest : List ℕ
  pub many : 2 ≤ length file
  pub bytes : file ≡ blocks_form blocks ++ 1 ∷ rest
  pub chain : Chain 0 blocks end
  pub offset : at ≡ length (blocks_form blocks)
  pub no_block : NoBlock end rest
