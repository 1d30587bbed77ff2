-- The fields of several parts and the lists, written and read again.
use Rattle.std.proofs.Common.{◌≡◌, ℕ, zero, suc, ◌-◌, ◌*◌, ◌%◌, ◌^◌, ◌<◌, ◌≤◌, Bool, true, false, List, [], ◌∷◌, ◌++◌, length, take, drop, slice_index, min, Option, Some, None, refl, subst, arith}
use Rattle.std.specs.Prelude.{nat_le, ◌==◌, ◌||◌, if◌then◌else◌}
use Rattle.std.specs.List.{AllByRecursion, flat_map}
use Rattle.std.specs.Int.{w16, w32, w64, from_le_bytes}
use Rattle.std.proofs.lemmas.Bool.{le-leb, lt-ltb}
use Rattle.std.proofs.lemmas.List.{take_at, drop_at}
use Rattle.std.proofs.lemmas.Nat.{from_le_bytes-to_le_bytes_8}
use Rattle.std.proofs.Math.Nat.{pow-le-pow_right}
use Rattle.rec_id.specs.Identity.{Identity, IsIdentity}
use Rattle.rec_id.specs.declared.entry.Entry.{Entry}
use Rattle.rec_id.specs.declared.entry.Entry.TheVariants.{Kept as KeptEntry, Noop as NoopEntry, Gone as GoneEntry}
use Rattle.rec_id.specs.declared.item.Item.{Item}
use Rattle.rec_id.specs.declared.item.Body.{Body}
use Rattle.rec_id.specs.declared.item.Body.TheVariants.{Elsewhere, Kept, Noop, Open, Gone}
use Rattle.rec_id.specs.declared.item.Cell.{Cell}
use Rattle.rec_id.specs.declared.marks.Marks.{Marks}
use Rattle.view_config.specs.declared.edition.Edition.{Edition}
use Rattle.view_config.specs.declared.edition.Edition.TheVariants.{One, Two}
use Rattle.view_config.specs.declared.config.Config.{Config}
use Rattle.view_config.specs.Limits.{record_limit}
use Rattle.lazy_msgs.specs.Frame.{two, four, word_form, size_form, bytes_form, optional_form, list_form, id_form, item_form, body_form, cell_form, entry_form, placed_form, nodes_form, config_form, marks_form}
use Rattle.lazy_msgs.specs.FrameLimits.{BytesFit, OptionalFits, ListFits, ItemFits, BodyFits, CellFits, EntryFits, PlacedFits, IsNode, NodesFit, ConfigFits, EndAt, MarksFit, WindowFits, words_of}
use Rattle.wire_frames.specs.Readers.{Reader, ◌>>=◌, done, byte_at, part_at, number_at, allowed, limited, node_at, id_at, size_at, bytes_at, optional_at, item_at, body_at, cell_at, entry_at, placed_at, members_at, list_at, nodes_at, shards_at, config_at, words_in, end_at, are_bits, words_at, marks_at, window_at}
use Rattle.wire_frames.proofs.FieldLengths.{length-words, length-word_form}
use Rattle.wire_frames.proofs.Again.{Reads, reads_then, reads_allowed, reads_limited, reads_two, reads_four, reads_byte, reads_counted, reads_node, reads_part, reads_one, reads_two_fields, reads_three_fields}
use Rattle.lazy_msgs.specs.declared.limits.TheConstants.{PENDING_LIMIT}
use Rattle.view_config.specs.declared.limits.TheConstants.{MAX_CLIENTS, MAX_COPIES, MAX_SEQ, MAX_SHARDS, RECORD_LIMIT_ONE, RECORD_LIMIT_TWO}

pub reads_id : (size : ℕ) (id : Identity) → IsIdentity id → Reads (id_at size) (id_form id) id
unfolding id_at
reads_id size id fits =
    reads_two_fields (λ client number. record { client = client; number = number }) (reads_byte id.client) (reads_counted size id.number (record { least = fits.numbered; word = fits.number_in_range }))

-- ---- bytes

reads_size : (edition : Edition) (n : ℕ) → n ≤ record_limit edition → Reads (size_at edition) (size_form edition n) n
reads_size One n most = reads_limited RECORD_LIMIT_ONE (number_at w16) (two n) n most (reads_two n (omega arith))
reads_size Two n most = reads_limited RECORD_LIMIT_TWO (number_at w32) (four n) n most (reads_four n (omega arith))

pub reads_bytes : (edition : Edition) (bytes : List ℕ) → BytesFit edition bytes → Reads (bytes_at edition) (bytes_form edition bytes) bytes
unfolding bytes_at
reads_bytes edition bytes most =
    reads_then (size_at edition) part_at (size_form edition (length bytes)) bytes (length bytes) bytes (reads_size edition (length bytes) most) (reads_part bytes)

reads_flag : (size : ℕ) (test : ℕ → Bool) (flag : ℕ) → test flag ≡ true → Reads (allowed size test byte_at) (flag ∷ []) flag
reads_flag size test flag passes = reads_allowed size test byte_at (flag ∷ []) flag passes (reads_byte flag)

pub reads_optional : (edition : Edition) (size : ℕ) (bytes : Option (List ℕ)) → OptionalFits edition bytes → Reads (optional_at edition size) (optional_form edition bytes) bytes
unfolding optional_at
reads_optional edition size None fits = record { again = λ rest. refl }
reads_optional edition size (Some bytes) fits =
    reads_then (allowed size (λ flag. nat_le flag 1) byte_at) (λ flag. if flag == 0 then done None else (bytes_at edition >>= λ bytes. done (Some bytes)))
    (1 ∷ []) (bytes_form edition bytes) 1 (Some bytes) (reads_flag size (λ flag. nat_le flag 1) 1 refl) (reads_one (λ bytes. Some bytes) (reads_bytes edition bytes fits))

pub reads_item : (edition : Edition) (size : ℕ) (item : Item) → ItemFits edition item → Reads (item_at edition size) (item_form edition item) item
unfolding item_at
reads_item edition size item fits =
    reads_two_fields (λ id bytes. record { id = id; bytes = bytes }) (reads_id size item.id fits.id) (reads_optional edition size item.bytes fits.bytes)

pub reads_body : (edition : Edition) (size : ℕ) (body : Body) → BodyFits edition body → Reads (body_at edition size) (body_form edition body) body
unfolding body_at
reads_body edition size Elsewhere fits = record { again = λ rest. refl }
reads_body edition size (Kept bytes) fits =
    reads_then (allowed size (λ flag. nat_le flag 2) byte_at) (λ flag. if flag == 0 then done Elsewhere else (if flag == 1 then (bytes_at edition >>= λ bytes. done (Kept bytes)) else done Noop))
    (1 ∷ []) (bytes_form edition bytes) 1 (Kept bytes) (reads_flag size (λ flag. nat_le flag 2) 1 refl) (reads_one (λ bytes. Kept bytes) (reads_bytes edition bytes fits))
reads_body edition size Noop fits = record { again = λ rest. refl }
reads_body edition size Open fits = absurd fits
reads_body edition size Gone fits = absurd fits

pub reads_cell : (edition : Edition) (size : ℕ) (cell : Cell) → CellFits edition cell → Reads (cell_at edition size) (cell_form edition cell) cell
unfolding cell_at
reads_cell edition size cell fits =
    reads_two_fields (λ id body. record { id = id; body = body }) (reads_id size cell.id fits.id) (reads_body edition size cell.body fits.body)

-- the entry behind its identity
abbrev entry_behind : Edition → ℕ → Identity → Reader Entry
entry_behind edition size id = allowed size (λ flag. flag == 1 || flag == 2) byte_at >>= λ flag. if flag == 1 then (bytes_at edition >>= λ bytes. done (KeptEntry id bytes)) else done (NoopEntry id)

reads_kept : (edition : Edition) (size : ℕ) (id : Identity) (bytes : List ℕ) → BytesFit edition bytes → Reads (entry_behind edition size id) (1 ∷ bytes_form edition bytes) (KeptEntry id bytes)
reads_kept edition size id bytes fits =
    reads_then (allowed size (λ flag. flag == 1 || flag == 2) byte_at) (λ flag. if flag == 1 then (bytes_at edition >>= λ bytes. done (KeptEntry id bytes)) else done (NoopEntry id))
    (1 ∷ []) (bytes_form edition bytes) 1 (KeptEntry id bytes) (reads_flag size (λ flag. flag == 1 || flag == 2) 1 refl) (reads_one (λ bytes. KeptEntry id bytes) (reads_bytes edition bytes fits))

pub reads_entry : (edition : Edition) (size : ℕ) (entry : Entry) → EntryFits edition entry → Reads (entry_at edition size) (entry_form edition entry) entry
unfolding entry_at
reads_entry edition size (KeptEntry id bytes) fits =
    reads_then (id_at size) (entry_behind edition size) (id_form id) (1 ∷ bytes_form edition bytes) id (KeptEntry id bytes) (reads_id size id fits.0) (reads_kept edition size id bytes fits.1)
reads_entry edition size (NoopEntry id) fits =
    reads_then (id_at size) (entry_behind edition size) (id_form id) (2 ∷ []) id (NoopEntry id) (reads_id size id fits) (record { again = λ rest. refl })
reads_entry edition size (GoneEntry id) fits = absurd fits

pub reads_placed : (edition : Edition) (size : ℕ) (placed : ℕ × Entry) → PlacedFits edition placed → Reads (placed_at edition size) (placed_form edition placed) placed
unfolding placed_at
reads_placed edition size placed fits =
    reads_two_fields (λ place entry. (place, entry)) (reads_four placed.0 fits.place) (reads_entry edition size placed.1 fits.entry)

-- ---- lists

pub reads_members : {A : Type 0} (read : Reader A) (form : A → List ℕ) (Member : A → Type 0) → ((x : A) → Member x → Reads read (form x) x) → (xs : List A) → AllByRecursion Member xs → Reads (members_at read (length xs)) (flat_map form xs) xs
reads_members read form Member each [] fits = record { again = λ rest. refl }
reads_members read form Member each (x ∷ xs) fits =
    reads_two_fields (λ first others. first ∷ others) (each x fits.0) (reads_members read form Member each xs fits.1)

pub reads_list : {A : Type 0} (limit : ℕ) (read : Reader A) (form : A → List ℕ) (Member : A → Type 0) → limit ≤ PENDING_LIMIT → ((x : A) → Member x → Reads read (form x) x) → (xs : List A) → ListFits limit Member xs → Reads (list_at limit read) (list_form form xs) xs
unfolding list_at
reads_list limit read form Member small each xs fits =
    let most = fits.count in
    reads_then (limited limit (number_at w16)) (members_at read) (two (length xs)) (flat_map form xs) (length xs) xs
    (reads_limited limit (number_at w16) (two (length xs)) (length xs) most (reads_two (length xs) (omega arith)))
    (reads_members read form Member each xs fits.each)

-- a count in one byte, from 1 up to the limit
reads_few : (size limit n : ℕ) → 1 ≤ n → n ≤ limit → Reads (allowed size (nat_le 1) (limited limit byte_at)) (n ∷ []) n
reads_few size limit n least most =
    reads_allowed size (nat_le 1) (limited limit byte_at) (n ∷ []) n (le-leb 1 n least) (reads_limited limit byte_at (n ∷ []) n most (reads_byte n))

pub reads_nodes : (size limit : ℕ) (nodes : List ℕ) → NodesFit limit nodes → Reads (nodes_at size limit) (nodes_form nodes) nodes
unfolding nodes_at
reads_nodes size limit nodes fits =
    reads_then (allowed size (nat_le 1) (limited limit byte_at)) (members_at (node_at size)) (length nodes ∷ []) (flat_map two nodes) (length nodes) nodes
    (reads_few size limit (length nodes) fits.least fits.most) (reads_members (node_at size) two IsNode (reads_node size) nodes fits.each)

reads_shards : (size : ℕ) (config : Config) → ConfigFits config → Reads (shards_at size) (length config.shards ∷ flat_map nodes_form config.shards) config.shards
unfolding shards_at
reads_shards size config fits =
    reads_then (allowed size (nat_le 1) (limited MAX_SHARDS byte_at)) (members_at (nodes_at size MAX_COPIES)) (length config.shards ∷ []) (flat_map nodes_form config.shards) (length config.shards) config.shards
    (reads_few size MAX_SHARDS (length config.shards) fits.shards_least fits.shards_most) (reads_members (nodes_at size MAX_COPIES) nodes_form (NodesFit MAX_COPIES) (reads_nodes size MAX_COPIES) config.shards fits.shards)

pub reads_config : (size : ℕ) (config : Config) → ConfigFits config → Reads (config_at size) (config_form config) config
unfolding config_at
reads_config size config fits =
    reads_three_fields (λ view seq shards. record { view = view; seq = seq; shards = shards }) (reads_counted size config.view fits.view) (reads_nodes size MAX_SEQ config.seq fits.seq) (reads_shards size config fits)

-- ---- marks

pub end_at_true : (top : ℕ) (words : List ℕ) → EndAt top words → end_at top words ≡ true
end_at_true top [] ends = refl
end_at_true top (word ∷ words) ends = rw (lt-ltb word (2 ^ min 64 top) ends.0, end_at_true (top - 64) words ends.1) refl

-- a word that ends at some bit has no more than 64
word_below : (top word : ℕ) → word < 2 ^ min 64 top → word < 2 ^ 64
word_below top word ends = let most : 2 ^ min 64 top ≤ 2 ^ 64 = pow-le-pow_right {n = 2} (omega arith) {i = min 64 top} {j = 64} (omega arith) in omega arith

word_again : (word : ℕ) → word < 2 ^ 64 → from_le_bytes w64 (word_form word) ≡ word
unfolding word_form
word_again word below = from_le_bytes-to_le_bytes_8 word below

words_again : (top : ℕ) (words : List ℕ) → EndAt top words → words_in (length words) (flat_map word_form words) ≡ words
words_again top [] ends = refl
words_again top (word ∷ words) ends =
    let rest = flat_map word_form words in
    let front : take 8 (word_form word ++ rest) ≡ word_form word = take_at (word_form word) rest 8 (length-word_form word) in
    let behind : drop 8 (word_form word ++ rest) ≡ rest = drop_at (word_form word) rest 8 (length-word_form word) in
    rw (front, behind, word_again word (word_below top word ends.0), words_again (top - 64) words ends.1) refl

reads_words : (top : ℕ) (words : List ℕ) → EndAt top words → Reads (words_at (length words)) (flat_map word_form words) words
reads_words top words ends =
    let len : length (flat_map word_form words) ≡ 8 * length words = length-words words in
    let part : Reads (part_at (8 * length words)) (flat_map word_form words) (flat_map word_form words) = rw (← len) (reads_part (flat_map word_form words)) in
    let made : Reads (words_at (length words)) (flat_map word_form words) (words_in (length words) (flat_map word_form words)) = reads_one (words_in (length words)) part in
    subst (λ (found : List ℕ). Reads (words_at (length words)) (flat_map word_form words) found) (words_again top words ends) made

or_true : (b : Bool) → (b || true) ≡ true
or_true true = refl
or_true false = refl

-- the greatest number is marked, where there is one
highest_true : (top : ℕ) (words : List ℕ) → (1 ≤ top → slice_index words 0 % 2 ≡ 1) → (top == 0 || slice_index words 0 % 2 == 1) ≡ true
highest_true zero words highest = refl
highest_true (suc top) words highest = rw (highest (omega arith)) (or_true (suc top == 0))

are_bits_true : (top : ℕ) (words : List ℕ) → (1 ≤ top → slice_index words 0 % 2 ≡ 1) → EndAt top words → are_bits top words ≡ true
are_bits_true top words highest ends = rw (highest_true top words highest, end_at_true top words ends) refl

pub reads_marks : (edition : Edition) (size : ℕ) (marks : Marks) → MarksFit edition marks → Reads (marks_at edition size) (marks_form marks) marks
unfolding marks_at
reads_marks edition size marks fits =
    let words : Reads (words_at (words_of edition)) (flat_map word_form marks.bits) marks.bits = rw (← fits.words) (reads_words marks.top marks.bits fits.lowest) in
    let bits : Reads (allowed size (are_bits marks.top) (words_at (words_of edition))) (flat_map word_form marks.bits) marks.bits =
    reads_allowed size (are_bits marks.top) (words_at (words_of edition)) (flat_map word_form marks.bits) marks.bits (are_bits_true marks.top marks.bits fits.highest fits.lowest) words in
    reads_then (number_at w32) (λ top. allowed size (are_bits top) (words_at (words_of edition)) >>= λ bits. done (record { top = top; bits = bits }))
    (four marks.top) (flat_map word_form marks.bits) marks.top marks (reads_four marks.top fits.top) (reads_one (λ bits. record { top = marks.top; bits = bits }) bits)

pub reads_window : (edition : Edition) (size : ℕ) (window : List Marks) → WindowFits edition window → Reads (window_at edition size) (list_form marks_form window) window
unfolding window_at
reads_window edition size window fits =
    let most = fits.most in
    reads_then (allowed size (nat_le 1) (limited MAX_CLIENTS (number_at w16))) (members_at (marks_at edition size)) (two (length window)) (flat_map marks_form window) (length window) window
    (reads_allowed size (nat_le 1) (limited MAX_CLIENTS (number_at w16)) (two (length window)) (length window) (le-leb 1 (length window) fits.least)
    (reads_limited MAX_CLIENTS (number_at w16) (two (length window)) (length window) fits.most (reads_two (length window) (omega arith))))
    (reads_members (marks_at edition size) marks_form (MarksFit edition) (reads_marks edition size) window fits.each)
