-- Blocks that are found one after the other.
use Rattle.std.proofs.Common.{◌≡◌, ◌≢◌, ℕ, suc, ◌+◌, ◌-◌, ◌^◌, ◌≤◌, ◌<◌, List, [], ◌∷◌, ◌++◌, length, get_or, take, drop, None, Some, Ok, Err, Result, refl, sym, ap, subst, ◌∙◌, append_assoc, append-nil, arith, length-append}
use Rattle.std.specs.Int.{w32}
use Rattle.std.proofs.lemmas.List.{take_at, drop_at, drop_more, drop-drop, take-take, take-append-drop, take_all, length-take, length-drop, get_or-take, get_or_default}
use Rattle.rec_id.specs.declared.entry.Entry.{Entry}
use Rattle.lazy_msgs.specs.Frame.{four}
use Rattle.wire_frames.specs.Readers.{number_at}
use Rattle.wire_frames.proofs.Again.{reads_four}
use Rattle.wire_frames.proofs.Found.{taken_is}
use Rattle.wire_frames.proofs.FieldLengths.{length-four}
use Rattle.shard_journal.specs.declared.block.Block.{Block}
use Rattle.shard_journal.specs.declared.scan.Found.{Found}
use Rattle.shard_journal.specs.declared.refused.JournalRefused.{JournalRefused}
use Rattle.shard_journal.specs.declared.refused.JournalRefused.TheVariants.{Damaged}
use Rattle.shard_journal.specs.Blocks.{body_form, behind_form, block_form, blocks_form, entries_in, BlockFits, Chain, IsWhole, NoBlock, IsDamaged}
use Rattle.shard_journal.specs.Reading.{BodyOf, ReadOn, IsFound}
use Rattle.shard_journal.proofs.Bodies.{block_short}
use Rattle.shard_journal.proofs.Files.{form-push, entries-push, chain-push}

-- how far a file was read: the byte that stands where it goes on
pub record IsScanned (file : List ℕ) (found : Found) (flag : ℕ) : Type 0 where
  pub blocks : List Block
  pub bytes : file ≡ blocks_form blocks ++ flag ∷ drop (found.end + 1) file
  pub chain : Chain 0 blocks found.kept
  pub end_is : found.end ≡ length (blocks_form blocks)
  pub entries_are : found.entries ≡ entries_in blocks
  pub within : found.end < length file

pub one_more : (file : List ℕ) (before now : Found) (flag : ℕ) → IsScanned file before 1 → ReadOn file before now flag → IsScanned file now flag
one_more file before now flag scanned read =
    let blocks = scanned.blocks in
    let block = read.block in
    let parts : file ≡ blocks_form (blocks ++ block ∷ []) ++ flag ∷ drop (now.end + 1) file =
    scanned.bytes ∙ ap (λ (l : List ℕ). blocks_form blocks ++ 1 ∷ l) read.bytes
    ∙ sym (append_assoc (blocks_form blocks) (block_form block) (flag ∷ drop (now.end + 1) file))
    ∙ ap (λ (l : List ℕ). l ++ flag ∷ drop (now.end + 1) file) (sym (form-push blocks block)) in
    record {
      blocks = blocks ++ block ∷ [];
      bytes = parts;
      chain = subst (λ n. Chain 0 (blocks ++ block ∷ []) n) (sym read.kept_is) (chain-push 0 blocks before.kept block scanned.chain read.fits read.from_is);
      end_is = omega (arith, read.end_is, scanned.end_is, ap length (form-push blocks block), length-append (blocks_form blocks) (block_form block));
      entries_are = read.entries_are ∙ ap (λ (l : List (ℕ × Entry)). l ++ block.entries) scanned.entries_are ∙ sym (entries-push blocks block);
      within = read.within;
    }

pub all_found : (file : List ℕ) (found : Found) (flag : ℕ) → IsScanned file found flag → flag ≢ 1 → IsFound file found
all_found file found flag scanned closed = record {
  blocks = scanned.blocks;
  whole = record { closing = flag; rest = drop (found.end + 1) file; closed = closed; bytes = scanned.bytes; chain = scanned.chain };
  end_is = scanned.end_is;
  entries_are = scanned.entries_are;
}

pub damaged_at : (file : List ℕ) (found : Found) (at : ℕ) → 2 ≤ length file → IsScanned file found 1 → (at ≡ found.end) × NoBlock found.kept (drop (found.end + 1) file) → IsDamaged file at
damaged_at file found at many scanned none = record {
  blocks = scanned.blocks;
  end = found.kept;
  rest = drop (found.end + 1) file;
  many = many;
  bytes = scanned.bytes;
  chain = scanned.chain;
  offset = none.0 ∙ scanned.end_is;
  no_block = none.1;
}

-- nothing was found yet
pub none_yet : (file : List ℕ) (found : Found) (flag : ℕ) → found ≡ record { kept = 0; end = 0; entries = [] } → 1 ≤ length file → flag ≡ get_or file 0 0 → IsScanned file found flag
none_yet file found flag is many flag_is = rw is (record {
  blocks = [];
  bytes = drop_more file 0 0 many ∙ ap (λ n. n ∷ drop 1 file) (sym flag_is);
  chain = refl;
  end_is = refl;
  entries_are = refl;
  within = many;
})

-- ---- one block

four_same : (a b : ℕ) → a < 2 ^ 32 → b < 2 ^ 32 → four a ≡ four b → a ≡ b
four_same a b below_a below_b same =
    let both = taken_is (a, []) (b, []) (sym ((reads_four a below_a).again []) ∙ ap (λ (l : List ℕ). number_at w32 (l ++ [])) same ∙ (reads_four b below_b).again []) in
    ap (λ (p : ℕ × List ℕ). p.0) both

pub no_block_short : (kept : ℕ) (bytes : List ℕ) → length bytes < 5 → NoBlock kept bytes
no_block_short kept bytes few = λ block closing more fits from_is is.
    omega (arith, few, ap length is, length-append (behind_form block) (closing ∷ more), length-append (four (length (body_form block))) (body_form block), length-four (length (body_form block)))

record Headed (bytes : List ℕ) (block : Block) (closing : ℕ) (more : List ℕ) : Type 0 where
  head : take 4 bytes ≡ four (length (body_form block))
  behind : drop 4 bytes ≡ body_form block ++ closing ∷ more

headed : (bytes : List ℕ) (block : Block) (closing : ℕ) (more : List ℕ) → bytes ≡ behind_form block ++ closing ∷ more → Headed bytes block closing more
headed bytes block closing more is =
    let len = length-four (length (body_form block)) in
    let parts = is ∙ append_assoc (four (length (body_form block))) (body_form block) (closing ∷ more) in
    record {
      head = ap (take 4) parts ∙ take_at (four (length (body_form block))) (body_form block ++ closing ∷ more) 4 len;
      behind = ap (drop 4) parts ∙ drop_at (four (length (body_form block))) (body_form block ++ closing ∷ more) 4 len;
    }

pub no_block_long : (kept count : ℕ) (bytes : List ℕ) → count < 2 ^ 32 → four count ≡ take 4 bytes → length bytes < count + 5 → NoBlock kept bytes
no_block_long kept count bytes word head few = λ block closing more fits from_is is.
    let at = headed bytes block closing more is in
    let same : count ≡ length (body_form block) = four_same count (length (body_form block)) word (block_short block fits) (head ∙ at.head) in
    omega (arith, few, same, ap length at.behind, length-append (body_form block) (closing ∷ more), length-drop 4 bytes)

pub no_block_body : (kept count : ℕ) (bytes : List ℕ) → count < 2 ^ 32 → four count ≡ take 4 bytes → BodyOf kept (take count (drop 4 bytes)) None → NoBlock kept bytes
no_block_body kept count bytes word head none = λ block closing more fits from_is is.
    let at = headed bytes block closing more is in
    let same : count ≡ length (body_form block) = four_same count (length (body_form block)) word (block_short block fits) (head ∙ at.head) in
    none block fits from_is (ap (take count) at.behind ∙ take_at (body_form block) (closing ∷ more) count (sym same))

-- the block stands there, with a byte behind it
pub stands : (bytes : List ℕ) (count flag : ℕ) (block : Block) → four count ≡ take 4 bytes → take count (drop 4 bytes) ≡ body_form block → count + 4 < length bytes → flag ≡ get_or (drop 4 bytes) count 0
    → bytes ≡ behind_form block ++ flag ∷ drop (count + 5) bytes
stands bytes count flag block head body within flag_is =
    let len : length (body_form block) ≡ count = sym (ap length body) ∙ omega (arith, length-take count (drop 4 bytes), length-drop 4 bytes, within) in
    let last : drop count (drop 4 bytes) ≡ flag ∷ drop (count + 5) bytes =
    drop_more (drop 4 bytes) count 0 (omega (arith, length-drop 4 bytes, within)) ∙ ap (λ n. n ∷ drop (count + 1) (drop 4 bytes)) (sym flag_is) ∙ ap (λ (l : List ℕ). flag ∷ l) (drop-drop (count + 1) 4 bytes ∙ ap (λ n. drop n bytes) (omega arith)) in
    sym (take-append-drop 4 bytes) ∙ ap (λ (l : List ℕ). l ++ drop 4 bytes) (sym head ∙ ap four (sym len))
    ∙ ap (λ (l : List ℕ). four (length (body_form block)) ++ l) (sym (take-append-drop count (drop 4 bytes)) ∙ ap (λ (l : List ℕ). l ++ drop count (drop 4 bytes)) body ∙ ap (λ (l : List ℕ). body_form block ++ l) last)
    ∙ sym (append_assoc (four (length (body_form block))) (body_form block) (flag ∷ drop (count + 5) bytes))

-- the same as the code has it
pub read_on : (file : List ℕ) (before : Found) (count flag : ℕ) (block : Block) (piece part : List ℕ) (entries_now : List (ℕ × Entry)) → four count ≡ take 4 (drop (before.end + 1) file) → piece ≡ take (count + 1) (drop (before.end + 5) file)
    → part ≡ take count piece → BodyOf before.kept part (Some block) → before.end + 5 + count < length file → flag ≡ get_or piece count flag → entries_now ≡ before.entries ++ block.entries
    → ReadOn file before (record { kept = block.to; end = before.end + 5 + count; entries = entries_now }) flag
read_on file before count flag block piece part entries_now head piece_is part_is found within flag_is entries_are =
    let bytes = drop (before.end + 1) file in
    let behind : drop 4 bytes ≡ drop (before.end + 5) file = drop-drop 4 (before.end + 1) file ∙ ap (λ n. drop n file) (omega arith) in
    let body_is : take count (drop 4 bytes) ≡ body_form block =
    sym (part_is ∙ ap (take count) (piece_is ∙ ap (take (count + 1)) (sym behind)) ∙ take-take count (count + 1) (drop 4 bytes) (omega arith)) ∙ found.0 in
    let long : count < length (drop 4 bytes) = omega (arith, ap length behind, length-drop (before.end + 5) file) in
    let at_flag : flag ≡ get_or (drop 4 bytes) count 0 =
    flag_is ∙ ap (λ (l : List ℕ). get_or l count flag) (piece_is ∙ ap (take (count + 1)) (sym behind)) ∙ get_or-take (count + 1) (drop 4 bytes) count flag (omega arith) ∙ get_or_default (drop 4 bytes) count flag 0 long in
    let parts = stands bytes count flag block head body_is (omega (arith, length-drop (before.end + 1) file)) at_flag in
    let len : length (body_form block) ≡ count = sym (ap length body_is) ∙ omega (arith, length-take count (drop 4 bytes), long) in
    record {
      block = block;
      fits = found.1;
      from_is = found.2;
      bytes = parts ∙ ap (λ (l : List ℕ). behind_form block ++ flag ∷ l) (drop-drop (count + 5) (before.end + 1) file ∙ ap (λ n. drop n file) (omega arith));
      kept_is = refl;
      end_is = omega (arith, len, length-append (four (length (body_form block))) (body_form block), length-four (length (body_form block)));
      within = within;
      entries_are = entries_are;
    }

pub not_read : (file : List ℕ) (kept end count : ℕ) (piece part : List ℕ) → count < 2 ^ 32 → four count ≡ take 4 (drop (end + 1) file) → piece ≡ take (count + 1) (drop (end + 5) file) → part ≡ take count piece → BodyOf kept part None → NoBlock kept (drop (end + 1) file)
not_read file kept end count piece part word head piece_is part_is none =
    let bytes = drop (end + 1) file in
    let behind : drop 4 bytes ≡ drop (end + 5) file = drop-drop 4 (end + 1) file ∙ ap (λ n. drop n file) (omega arith) in
    let same : part ≡ take count (drop 4 bytes) = part_is ∙ ap (take count) (piece_is ∙ ap (take (count + 1)) (sym behind)) ∙ take-take count (count + 1) (drop 4 bytes) (omega arith) in
    no_block_body kept count bytes word head (subst (λ (l : List ℕ). BodyOf kept l None) same none)

-- the offset that was answered
pub offset_is : (end at : ℕ) → (let x : Result ℕ JournalRefused = Err (Damaged end) in let y : Result ℕ JournalRefused = Err (Damaged at) in x ≡ y) → at ≡ end
offset_is end at same = cc
