-- Bodies of blocks: how long they are, and that what stands there is of one block alone.
use Rattle.std.proofs.Common.{◌≡◌, ◌≢◌, ℕ, suc, ◌+◌, ◌*◌, ◌-◌, ◌^◌, ◌<◌, ◌≤◌, Bool, true, false, List, [], ◌∷◌, ◌++◌, length, drop, Option, Some, None, refl, sym, ap, subst, ◌∙◌, append_assoc, append-nil, arith, length-append}
use Rattle.std.specs.Prelude.{◌&&◌, ◌==◌, nat_le, nat_lt}
use Rattle.std.specs.Int.{w32}
use Rattle.std.specs.List.{AllByRecursion, flat_map}
use Rattle.std.proofs.lemmas.Bool.{eqb-true, eq-eqb, ltb-true, lt-ltb, leb-true, le-leb}
use Rattle.std.proofs.lemmas.List.{drop_at}
use Rattle.rec_id.specs.declared.entry.Entry.{Entry}
use Rattle.rec_id.specs.declared.entry.Entry.TheVariants.{Kept as KeptEntry, Noop as NoopEntry, Gone as GoneEntry}
use Rattle.rec_id.specs.declared.limits.TheConstants.{READ_LIMIT}
use Rattle.view_config.specs.declared.edition.Edition.{Edition}
use Rattle.view_config.specs.declared.edition.Edition.TheVariants.{One, Two}
use Rattle.lazy_msgs.specs.declared.msg.Envelope.{Envelope}
use Rattle.lazy_msgs.specs.declared.msg.Msg.{Msg}
use Rattle.lazy_msgs.specs.declared.msg.Msg.TheVariants.{Part}
use Rattle.lazy_msgs.specs.Frame.{two, four, eight, id_form, bytes_form, entry_form, list_form, placed_form, kind_of, head_form, frame}
use Rattle.lazy_msgs.specs.FrameLimits.{EntryFits, ListFits, PlacedFits, MessageFits, Fits}
use Rattle.wire_frames.specs.declared.offence.FrameError.{FrameError}
use Rattle.wire_frames.specs.declared.offence.FrameError.TheVariants.{Short, Kind, Field, Over, Trailing, Memory}
use Rattle.wire_frames.specs.Readers.{Reader, ◌>>=◌, number_at, list_at, placed_at, three_fields}
use Rattle.wire_frames.proofs.FieldLengths.{length-two, length-four, length-eight}
use Rattle.wire_frames.proofs.Again.{Reads, reads_then, reads_four, reads_three_fields}
use Rattle.wire_frames.proofs.AgainFields.{reads_list, reads_placed}
use Rattle.wire_frames.proofs.AgainFrame.{frame_alone}
use Rattle.wire_frames.proofs.Found.{taken_is}
use Rattle.wire_frames.proofs.Bits.{both_true}
use Rattle.shard_journal.specs.declared.block.Block.{Block}
use Rattle.shard_journal.specs.declared.framing.TheConstants.{HEAD}
use Rattle.shard_journal.specs.Blocks.{body_form, behind_form, rises_within, BlockFits}
use Rattle.shard_journal.specs.Reading.{part_of, block_in, goes_on_from, BodyOf}

-- ---- a body isn't long

entry_most : (entry : Entry) → EntryFits One entry → length (entry_form One entry) ≤ 4104
entry_most (KeptEntry own bytes) fits =
    omega (arith, fits.1, length-append (id_form own) (1 ∷ bytes_form One bytes), length-append (two (length bytes)) bytes, length-two (length bytes), length-four own.number)
entry_most (NoopEntry own) fits = omega (arith, length-append (id_form own) (2 ∷ []), length-four own.number)
entry_most (GoneEntry own) fits = absurd fits

placed_most : (placed : ℕ × Entry) → PlacedFits One placed → length (placed_form One placed) ≤ 4108
placed_most placed fits =
    omega (arith, length-append (four placed.0) (entry_form One placed.1), length-four placed.0, entry_most placed.1 fits.entry)

entries_most : (entries : List (ℕ × Entry)) → AllByRecursion (PlacedFits One) entries → length (flat_map (placed_form One) entries) ≤ 4108 * length entries
entries_most [] fits = omega arith
entries_most (placed ∷ entries) fits =
    omega (arith, length-append (placed_form One placed) (flat_map (placed_form One) entries), placed_most placed fits.0, entries_most entries fits.1)

body_most : (block : Block) → BlockFits block → length (body_form block) < 2 ^ 31
body_most block fits =
    omega (
      arith,
      length-append (four block.from ++ four block.to) (list_form (placed_form One) block.entries),
      length-append (four block.from) (four block.to),
      length-four block.from,
      length-four block.to,
      length-append (two (length block.entries)) (flat_map (placed_form One) block.entries),
      length-two (length block.entries),
      entries_most block.entries fits.entries_fit.each,
      fits.entries_fit.count,
    )

pub block_short : (block : Block) → BlockFits block → length (body_form block) < 2 ^ 32
block_short block fits = omega (arith, body_most block fits)

-- ---- what stands behind the first byte of a block is of that block alone

abbrev body_at : ℕ → Reader Block
body_at size = three_fields (number_at w32) (number_at w32) (list_at READ_LIMIT (placed_at One size)) (λ from to entries. record { from = from; to = to; entries = entries })

reads_body : (size : ℕ) (block : Block) → BlockFits block → Reads (body_at size) (body_form block) block
reads_body size block fits =
    reads_three_fields (λ from to entries. record { from = from; to = to; entries = entries }) (reads_four block.from (omega (arith, fits.least, fits.word))) (reads_four block.to fits.word)
    (reads_list READ_LIMIT (placed_at One size) (placed_form One) (PlacedFits One) (omega arith) (reads_placed One size) block.entries fits.entries_fit)

-- the length is read, and then the body
abbrev behind_at : ℕ → Reader Block
behind_at size = number_at w32 >>= λ count. body_at size

reads_behind : (size : ℕ) (block : Block) → BlockFits block → Reads (behind_at size) (behind_form block) block
reads_behind size block fits =
    reads_then (number_at w32) (λ count. body_at size) (four (length (body_form block))) (body_form block) (length (body_form block)) block (reads_four (length (body_form block)) (block_short block fits)) (reads_body size block fits)

pub record SameBlock (a b : Block) (x y : List ℕ) : Type 0 where
  pub block : a ≡ b
  pub rest : x ≡ y

pub same_block : (a b : Block) (x y : List ℕ) → BlockFits a → BlockFits b → behind_form a ++ x ≡ behind_form b ++ y → SameBlock a b x y
same_block a b x y fits_a fits_b same =
    let both = taken_is (a, x) (b, y) (sym ((reads_behind 0 a fits_a).again x) ∙ ap (behind_at 0) same ∙ (reads_behind 0 b fits_b).again y) in
    record { block = ap (λ (p : Block × List ℕ). p.0) both; rest = ap (λ (p : Block × List ℕ). p.1) both }

-- ---- what was decoded

-- all of a Part's frame up to its read number
abbrev head_of : ℕ → ℕ → ℕ → Msg → ℕ → List ℕ
head_of from to time msg read = head_form One (record { from = from; to = to; time = time; msg = msg }) ++ four read

head_len : (from to time : ℕ) (msg : Msg) (read : ℕ) → length (head_of from to time msg read) ≡ 18
head_len from to time msg read =
    omega (
      arith,
      length-append (head_form One (record { from = from; to = to; time = time; msg = msg })) (four read),
      length-append (1 ∷ kind_of msg ∷ two from ++ two to) (eight time),
      length-append (1 ∷ kind_of msg ∷ two from) (two to),
      length-two from,
      length-two to,
      length-eight time,
      length-four read,
    )

split_frame : (from to time read first end : ℕ) (entries : List (ℕ × Entry)) → (let msg = Part read first end entries in
    frame One (record { from = from; to = to; time = time; msg = msg }) ≡ head_of from to time msg read ++ body_form (record { from = first; to = end; entries = entries }))
split_frame from to time read first end entries =
    let msg = Part read first end entries in
    let head = head_form One (record { from = from; to = to; time = time; msg = msg }) in
    let list = list_form (placed_form One) entries in
    ap (λ (l : List ℕ). head ++ l) (append_assoc (four read ++ four first) (four end) list ∙ append_assoc (four read) (four first) (four end ++ list) ∙ ap (λ (l : List ℕ). four read ++ l) (sym (append_assoc (four first) (four end) list)))
    ∙ sym (append_assoc head (four read) (four first ++ four end ++ list))

some_is : (a b : Block) → (let x : Option Block = Some a in let y : Option Block = Some b in x ≡ y) → a ≡ b
some_is a b same = cc

not_some : (b : Block) → (let x : Option Block = None in let y : Option Block = Some b in x ≡ y) → ⊥
not_some b same = cc

body_in : (edition : Edition) (from to time : ℕ) (msg : Msg) (body : List ℕ) (block : Block) → HEAD ++ body ≡ frame edition (record { from = from; to = to; time = time; msg = msg }) → block_in msg ≡ Some block → body ≡ body_form block
body_in Two from to time msg body block is in_msg = absurd (let two_one : ◌≡◌ {A = ℕ} 1 2 = cc in omega (arith, two_one))
body_in One from to time (Part read first end entries) body block is in_msg =
    let head = head_of from to time (Part read first end entries) read in
    let made : Block = record { from = first; to = end; entries = entries } in
    sym (drop_at HEAD body 18 refl) ∙ ap (drop 18) (is ∙ split_frame from to time read first end entries)
    ∙ drop_at head (body_form made) 18 (head_len from to time (Part read first end entries) read) ∙ ap body_form (some_is made block in_msg)
body_in One from to time _ body block is in_msg = absurd (not_some block in_msg)

entries_fit : (edition : Edition) (msg : Msg) (block : Block) → MessageFits One msg → block_in msg ≡ Some block → (block.to < 2 ^ 32) × ListFits READ_LIMIT (PlacedFits One) block.entries
entries_fit edition (Part read first end entries) block fits in_msg = subst (λ (b : Block). (b.to < 2 ^ 32) × ListFits READ_LIMIT (PlacedFits One) b.entries) (some_is _ block in_msg) (fits.2, fits.3)
entries_fit edition _ block fits in_msg = absurd (not_some block in_msg)

-- what is known of a block that goes on
record GoesOn (kept : ℕ) (block : Block) : Type 0 where
  from_is : block.from ≡ kept
  least : block.from < block.to
  most : block.to ≤ block.from + READ_LIMIT
  rising : rises_within block.from block.to block.entries ≡ true

goes_on : (kept : ℕ) (block : Block) → goes_on_from kept block ≡ true → GoesOn kept block
goes_on kept block passes =
    let last = both_true (block.from == kept && nat_lt block.from block.to && nat_le block.to (block.from + READ_LIMIT)) (rises_within block.from block.to block.entries) passes in
    let third = both_true (block.from == kept && nat_lt block.from block.to) (nat_le block.to (block.from + READ_LIMIT)) last.0 in
    let second = both_true (block.from == kept) (nat_lt block.from block.to) third.0 in
    record {
      from_is = eqb-true block.from kept second.0;
      least = ltb-true block.from block.to second.1;
      most = leb-true block.to (block.from + READ_LIMIT) third.1;
      rising = last.1;
    }

goes_on_true : (kept : ℕ) (block : Block) → BlockFits block → block.from ≡ kept → goes_on_from kept block ≡ true
goes_on_true kept block fits from_is =
    rw (eq-eqb block.from kept from_is, lt-ltb block.from block.to fits.least, le-leb block.to (block.from + READ_LIMIT) fits.most, fits.rising) refl

-- only a frame of edition One begins as the head does
is_one : (edition : Edition) (from to time : ℕ) (msg : Msg) (body : List ℕ) → HEAD ++ body ≡ frame edition (record { from = from; to = to; time = time; msg = msg }) → edition ≡ One
is_one One from to time msg body is = refl
is_one Two from to time msg body is = absurd (let two_one : ◌≡◌ {A = ℕ} 1 2 = cc in omega (arith, two_one))

pub body_found : (kept : ℕ) (body : List ℕ) (edition : Edition) (env : Envelope) (block : Block) → Fits edition env → HEAD ++ body ≡ frame edition env → block_in env.msg ≡ Some block → goes_on_from kept block ≡ true → BodyOf kept body (Some block)
body_found kept body edition env block fits is in_msg passes =
    let one = is_one edition env.from env.to env.time env.msg body is in
    let message : MessageFits One env.msg = subst (λ (e : Edition). MessageFits e env.msg) one fits.message in
    let within = entries_fit edition env.msg block message in_msg in
    let on = goes_on kept block passes in (
      body_in edition env.from env.to env.time env.msg body block is in_msg,
      record {
        least = on.least;
        most = on.most;
        word = within.0;
        entries_fit = within.1;
        rising = on.rising;
      },
      on.from_is,
    )

-- the frame that has a block's body behind the head
head_is : (block : Block) → head_of 0 0 0 (Part 1 block.from block.to block.entries) 1 ≡ HEAD
unfolding two four eight
head_is block = refl

pub frame_is : (block : Block) → frame One (part_of block) ≡ HEAD ++ body_form block
frame_is block = split_frame 0 0 0 1 block.from block.to block.entries ∙ ap (λ (l : List ℕ). l ++ body_form block) (head_is block)

pub part_fits : (block : Block) → BlockFits block → Fits One (part_of block)
part_fits block fits = record {
  from = omega arith;
  to = omega arith;
  time = omega arith;
  message = (record { least = omega arith; word = omega arith }, omega (arith, fits.least, fits.word), fits.word, fits.entries_fit);
}

-- whatever was decoded is that of the block, where there is one
env_is : (body : List ℕ) (edition : Edition) (env : Envelope) (block : Block) → Fits edition env → HEAD ++ body ≡ frame edition env → BlockFits block → body ≡ body_form block → env ≡ part_of block
env_is body edition env block fits is block_fits form =
    let same : frame One (part_of block) ≡ frame edition env ++ [] = frame_is block ∙ ap (λ (l : List ℕ). HEAD ++ l) (sym form) ∙ is ∙ sym (append-nil (frame edition env)) in
    sym (frame_alone edition One env (part_of block) [] fits (part_fits block block_fits) same).2

pub body_not_on : (kept : ℕ) (body : List ℕ) (edition : Edition) (env : Envelope) (block : Block) → Fits edition env → HEAD ++ body ≡ frame edition env → block_in env.msg ≡ Some block → goes_on_from kept block ≡ false → BodyOf kept body None
body_not_on kept body edition env block fits is in_msg passes = λ other other_fits from_is form.
    let same : env ≡ part_of other = env_is body edition env other fits is other_fits form in
    let blocks : other ≡ block = some_is other block (sym (ap (λ (e : Envelope). block_in e.msg) same) ∙ in_msg) in
    let on : goes_on_from kept block ≡ true = subst (λ (b : Block). goes_on_from kept b ≡ true) blocks (goes_on_true kept other other_fits from_is) in
    let both : true ≡ false = sym on ∙ passes in absurd cc

pub no_block_in : (kept : ℕ) (body : List ℕ) (edition : Edition) (env : Envelope) → Fits edition env → HEAD ++ body ≡ frame edition env → block_in env.msg ≡ None → BodyOf kept body None
no_block_in kept body edition env fits is in_msg = λ other other_fits from_is form.
    let same : env ≡ part_of other = env_is body edition env other fits is other_fits form in
    not_some other (sym in_msg ∙ ap (λ (e : Envelope). block_in e.msg) same)

pub no_frame : (kept : ℕ) (body : List ℕ) → ((edition : Edition) (env : Envelope) → Fits edition env → HEAD ++ body ≢ frame edition env) → BodyOf kept body None
no_frame kept body none = λ other other_fits from_is form. none One (part_of other) (part_fits other other_fits) (ap (λ (l : List ℕ). HEAD ++ l) form ∙ sym (frame_is other))

pub no_frame_of : (kept : ℕ) (body bytes : List ℕ) (offence : FrameError) → bytes ≡ HEAD ++ body → offence ≢ Memory → (offence ≢ Memory → (edition : Edition) (env : Envelope) → Fits edition env → bytes ≢ frame edition env) → BodyOf kept body None
no_frame_of kept body bytes offence is other none = no_frame kept body (λ edition env fits form. none other edition env fits (is ∙ form))

pub short_is_not : (offence : FrameError) → offence ≡ Short → offence ≢ Memory
short_is_not offence is memory = let both : Short ≡ Memory = sym is ∙ memory in absurd cc

pub kind_is_not : (offence : FrameError) (n : ℕ) → offence ≡ Kind n → offence ≢ Memory
kind_is_not offence n is memory = let both : Kind n ≡ Memory = sym is ∙ memory in absurd cc

pub field_is_not : (offence : FrameError) (n : ℕ) → offence ≡ Field n → offence ≢ Memory
field_is_not offence n is memory = let both : Field n ≡ Memory = sym is ∙ memory in absurd cc

pub over_is_not : (offence : FrameError) (n : ℕ) → offence ≡ Over n → offence ≢ Memory
over_is_not offence n is memory = let both : Over n ≡ Memory = sym is ∙ memory in absurd cc

pub trailing_is_not : (offence : FrameError) (n : ℕ) → offence ≡ Trailing n → offence ≢ Memory
trailing_is_not offence n is memory = let both : Trailing n ≡ Memory = sym is ∙ memory in absurd cc

-- ---- what is written

pub behind_is : (block : Block) (framed : List ℕ) → framed ≡ frame One (part_of block) → four (length framed - 18) ++ drop 18 framed ++ 0 ∷ [] ≡ behind_form block ++ 0 ∷ []
behind_is block framed is =
    let parts : framed ≡ HEAD ++ body_form block = is ∙ frame_is block in
    let len : length framed - 18 ≡ length (body_form block) = omega (arith, ap length parts, length-append HEAD (body_form block)) in
    let rest : drop 18 framed ≡ body_form block = ap (drop 18) parts ∙ drop_at HEAD (body_form block) 18 refl in
    rw (len, rest) refl

pub framed_len : (block : Block) (framed : List ℕ) → BlockFits block → framed ≡ frame One (part_of block) → (18 ≤ length framed) × (length framed < 2 ^ 32)
framed_len block framed fits is =
    let parts : framed ≡ HEAD ++ body_form block = is ∙ frame_is block in
    (omega (arith, ap length parts, length-append HEAD (body_form block)), omega (arith, ap length parts, length-append HEAD (body_form block), body_most block fits))
