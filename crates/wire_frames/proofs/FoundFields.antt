-- The fields of several parts and the lists, found in the bytes that they are read from.
use Rattle.std.proofs.Common.{◌≡◌, ℕ, zero, suc, ◌*◌, ◌%◌, ◌≤◌, Bool, true, false, List, [], ◌∷◌, ◌++◌, length, take, drop, slice_index, Some, None, refl, sym, ap, subst, append_assoc, arith, inl, inr}
use Rattle.std.specs.Prelude.{nat_le, ◌==◌, ◌||◌, ◌⊎◌, if◌then◌else◌}
use Rattle.std.specs.List.{AllByRecursion, flat_map}
use Rattle.std.specs.Int.{w64, from_le_bytes}
use Rattle.std.proofs.lemmas.Bool.{leb-true, eqb-true}
use Rattle.std.proofs.lemmas.List.{take_at, take-append-drop, length-take, length-drop, nil_from_length}
use Rattle.std.proofs.lemmas.Nat.{le_bytes_8}
use Rattle.rec_id.specs.Identity.{Identity, IsIdentity}
use Rattle.rec_id.specs.declared.entry.Entry.{Entry}
use Rattle.rec_id.specs.declared.entry.Entry.TheVariants.{Kept as KeptEntry, Noop as NoopEntry}
use Rattle.rec_id.specs.declared.item.Body.TheVariants.{Elsewhere, Kept, Noop}
use Rattle.view_config.specs.declared.edition.Edition.{Edition}
use Rattle.view_config.specs.declared.edition.Edition.TheVariants.{One, Two}
use Rattle.view_config.specs.Limits.{record_limit}
use Rattle.lazy_msgs.specs.Frame.{two, word_form, size_form, bytes_form, optional_form, list_form, id_form, item_form, body_form, cell_form, entry_form, placed_form, nodes_form, config_form, marks_form}
use Rattle.lazy_msgs.specs.FrameLimits.{BytesFit, OptionalFits, ListFits, ItemFits, BodyFits, CellFits, EntryFits, PlacedFits, NodesFit, ConfigFits, MarksFit, WindowFits, words_of}
use Rattle.wire_frames.specs.Readers.{Reader, ◌>>=◌, done, byte_at, part_at, allowed, limited, node_at, id_at, size_at, bytes_at, optional_at, item_at, body_at, cell_at, entry_at, placed_at, members_at, list_at, nodes_at, shards_at, config_at, words_in, end_at, are_bits, words_at, marks_at, window_at}
use Rattle.wire_frames.proofs.Bits.{both_true, end_at_ends}
use Rattle.wire_frames.proofs.Found.{IsBytes, IsBytes-take, IsBytes-drop, Parted, found_is, Takes, bind_ok, takes_weaker, Behind, behind_none, behind_done, behind_same, behind_one, behind_then, takes_two, takes_three, takes_allowed, takes_limited, takes_byte, takes_part, takes_two_bytes, takes_word, takes_counted, takes_node}
use Rattle.view_config.specs.declared.limits.TheConstants.{MAX_CLIENTS, MAX_COPIES, MAX_SEQ, MAX_SHARDS, RECORD_LIMIT_ONE, RECORD_LIMIT_TWO}

pub takes_id : (size : ℕ) → Takes (id_at size) id_form IsIdentity
unfolding id_at
takes_id size =
    takes_two (λ client number. record { client = client; number = number }) id_form IsIdentity takes_byte (takes_counted size) (λ client number. refl)
    (λ client number p q. record { client_in_range = omega arith; numbered = q.least; number_in_range = q.word })

-- ---- bytes

takes_size : (edition : Edition) → Takes (size_at edition) (size_form edition) (λ n. n ≤ record_limit edition)
takes_size One = takes_weaker (takes_limited RECORD_LIMIT_ONE takes_two_bytes) (λ n fits. fits.1)
takes_size Two = takes_weaker (takes_limited RECORD_LIMIT_TWO takes_word) (λ n fits. fits.1)

pub takes_bytes : (edition : Edition) → Takes (bytes_at edition) (bytes_form edition) (BytesFit edition)
unfolding bytes_at
takes_bytes edition =
    behind_none (behind_then part_at (bytes_form edition) (BytesFit edition) (takes_size edition) (λ n most.
    behind_same (takes_part n) (λ bytes len. ap (λ (k : ℕ). size_form edition k ++ bytes) len) (λ bytes len. subst (λ (k : ℕ). k ≤ record_limit edition) (sym len) most)))

-- a flag that passes the test, and what stands behind it
takes_flag : {A : Type 0} {text : List ℕ} (size : ℕ) (test : ℕ → Bool) (next : ℕ → Reader A) (form : A → List ℕ) (Fits : A → Type 0)
    → ((flag : ℕ) → test flag ≡ true → Behind (text ++ flag ∷ []) (next flag) form Fits) → Behind text (allowed size test byte_at >>= next) form Fits
takes_flag size test next form Fits q = behind_then next form Fits (takes_allowed size test takes_byte) (λ flag fits. q flag fits.1)

optional_behind : (edition : Edition) (flag : ℕ) → nat_le flag 1 ≡ true → Behind (flag ∷ []) (if flag == 0 then done None else (bytes_at edition >>= λ bytes. done (Some bytes))) (optional_form edition) (OptionalFits edition)
optional_behind edition zero passes = behind_done None refl tt
optional_behind edition (suc zero) passes = behind_one (λ bytes. Some bytes) (optional_form edition) (OptionalFits edition) (takes_bytes edition) (λ bytes fits. refl) (λ bytes fits. fits)
optional_behind edition (suc (suc flag)) passes = absurd (omega (arith, leb-true (suc (suc flag)) 1 passes))

pub takes_optional : (edition : Edition) (size : ℕ) → Takes (optional_at edition size) (optional_form edition) (OptionalFits edition)
unfolding optional_at
takes_optional edition size =
    behind_none (takes_flag size (λ flag. nat_le flag 1) (λ flag. if flag == 0 then done None else (bytes_at edition >>= λ bytes. done (Some bytes))) (optional_form edition) (OptionalFits edition) (optional_behind edition))

pub takes_item : (edition : Edition) (size : ℕ) → Takes (item_at edition size) (item_form edition) (ItemFits edition)
unfolding item_at
takes_item edition size =
    takes_two (λ id bytes. record { id = id; bytes = bytes }) (item_form edition) (ItemFits edition) (takes_id size) (takes_optional edition size) (λ id bytes. refl) (λ id bytes p q. record { id = p; bytes = q })

body_behind : (edition : Edition) (flag : ℕ) → nat_le flag 2 ≡ true
    → Behind (flag ∷ []) (if flag == 0 then done Elsewhere else (if flag == 1 then (bytes_at edition >>= λ bytes. done (Kept bytes)) else done Noop)) (body_form edition) (BodyFits edition)
body_behind edition zero passes = behind_done Elsewhere refl tt
body_behind edition (suc zero) passes = behind_one (λ bytes. Kept bytes) (body_form edition) (BodyFits edition) (takes_bytes edition) (λ bytes fits. refl) (λ bytes fits. fits)
body_behind edition (suc (suc zero)) passes = behind_done Noop refl tt
body_behind edition (suc (suc (suc flag))) passes = absurd (omega (arith, leb-true (suc (suc (suc flag))) 2 passes))

takes_body : (edition : Edition) (size : ℕ) → Takes (body_at edition size) (body_form edition) (BodyFits edition)
unfolding body_at
takes_body edition size =
    behind_none (takes_flag size (λ flag. nat_le flag 2) (λ flag. if flag == 0 then done Elsewhere else (if flag == 1 then (bytes_at edition >>= λ bytes. done (Kept bytes)) else done Noop)) (body_form edition) (BodyFits edition) (body_behind edition))

pub takes_cell : (edition : Edition) (size : ℕ) → Takes (cell_at edition size) (cell_form edition) (CellFits edition)
unfolding cell_at
takes_cell edition size =
    takes_two (λ id body. record { id = id; body = body }) (cell_form edition) (CellFits edition) (takes_id size) (takes_body edition size) (λ id body. refl) (λ id body p q. record { id = p; body = q })

either_one : (a b : Bool) → (a || b) ≡ true → (a ≡ true) ⊎ (b ≡ true)
either_one true b passes = inl refl
either_one false b passes = inr passes

-- an entry behind its identity and the flag
abbrev entry_next : Edition → Identity → ℕ → Reader Entry
entry_next edition id flag = if flag == 1 then (bytes_at edition >>= λ bytes. done (KeptEntry id bytes)) else done (NoopEntry id)

entry_kept : (edition : Edition) (id : Identity) → IsIdentity id → Behind (id_form id ++ 1 ∷ []) (entry_next edition id 1) (entry_form edition) (EntryFits edition)
entry_kept edition id is =
    behind_one (λ bytes. KeptEntry id bytes) (entry_form edition) (EntryFits edition) (takes_bytes edition) (λ bytes fits. sym (append_assoc (id_form id) (1 ∷ []) (bytes_form edition bytes))) (λ bytes fits. (is, fits))

entry_noop : (edition : Edition) (id : Identity) → IsIdentity id → Behind (id_form id ++ 2 ∷ []) (entry_next edition id 2) (entry_form edition) (EntryFits edition)
entry_noop edition id is = behind_done (NoopEntry id) refl is

entry_behind : (edition : Edition) (id : Identity) → IsIdentity id → (flag : ℕ) → (flag == 1 || flag == 2) ≡ true → Behind (id_form id ++ flag ∷ []) (entry_next edition id flag) (entry_form edition) (EntryFits edition)
entry_behind edition id is flag passes =
    elim (either_one (flag == 1) (flag == 2) passes) [
      | inl one ↦ subst (λ (f : ℕ). Behind (id_form id ++ f ∷ []) (entry_next edition id f) (entry_form edition) (EntryFits edition)) (sym (eqb-true flag 1 one)) (entry_kept edition id is)
      | inr two ↦ subst (λ (f : ℕ). Behind (id_form id ++ f ∷ []) (entry_next edition id f) (entry_form edition) (EntryFits edition)) (sym (eqb-true flag 2 two)) (entry_noop edition id is)
    ]

takes_entry : (edition : Edition) (size : ℕ) → Takes (entry_at edition size) (entry_form edition) (EntryFits edition)
unfolding entry_at
takes_entry edition size =
    behind_none (behind_then (λ id. allowed size (λ flag. flag == 1 || flag == 2) byte_at >>= entry_next edition id) (entry_form edition) (EntryFits edition) (takes_id size) (λ id is.
    takes_flag size (λ flag. flag == 1 || flag == 2) (entry_next edition id) (entry_form edition) (EntryFits edition) (entry_behind edition id is)))

pub takes_placed : (edition : Edition) (size : ℕ) → Takes (placed_at edition size) (placed_form edition) (PlacedFits edition)
unfolding placed_at
takes_placed edition size =
    takes_two (λ place entry. (place, entry)) (placed_form edition) (PlacedFits edition) takes_word (takes_entry edition size) (λ place entry. refl) (λ place entry p q. record { place = p; entry = q })

-- ---- lists

takes_members : {A : Type 0} {read : Reader A} {form : A → List ℕ} {Member : A → Type 0} → Takes read form Member → (count : ℕ) → Takes (members_at read count) (flat_map form) (λ xs. (length xs ≡ count) × AllByRecursion Member xs)
takes_members each zero = behind_none (behind_done [] refl (refl, tt))
takes_members {form = form} {Member = Member} each (suc count) =
    takes_two (λ first others. first ∷ others) (flat_map form) (λ xs. (length xs ≡ suc count) × AllByRecursion Member xs) each (takes_members each count) (λ first others. refl) (λ first others p q. (ap suc q.0, (p, q.1)))

pub takes_list : {A : Type 0} {read : Reader A} {form : A → List ℕ} {Member : A → Type 0} (limit : ℕ) → Takes read form Member → Takes (list_at limit read) (list_form form) (ListFits limit Member)
unfolding list_at
takes_list {read = read} {form = form} {Member = Member} limit each =
    behind_none (behind_then (members_at read) (list_form form) (ListFits limit Member) (takes_limited limit takes_two_bytes) (λ n fits.
    behind_same (takes_members each n) (λ xs found. ap (λ (k : ℕ). two k ++ flat_map form xs) found.0) (λ xs found. record { count = subst (λ (k : ℕ). k ≤ limit) (sym found.0) fits.1; each = found.1 })))

-- a count in one byte, from 1 up to the limit
takes_few : (size limit : ℕ) → Takes (allowed size (nat_le 1) (limited limit byte_at)) (λ n. n ∷ []) (λ n. (1 ≤ n) × (n ≤ limit))
takes_few size limit = takes_weaker (takes_allowed size (nat_le 1) (takes_limited limit takes_byte)) (λ n fits. (leb-true 1 n fits.1, fits.0.1))

pub takes_nodes : (size limit : ℕ) → Takes (nodes_at size limit) nodes_form (NodesFit limit)
unfolding nodes_at
takes_nodes size limit =
    behind_none (behind_then (members_at (node_at size)) nodes_form (NodesFit limit) (takes_few size limit) (λ n fits.
    behind_same (takes_members (takes_node size) n) (λ nodes found. ap (λ (k : ℕ). k ∷ flat_map two nodes) found.0)
    (λ nodes found. record { least = subst (λ (k : ℕ). 1 ≤ k) (sym found.0) fits.0; most = subst (λ (k : ℕ). k ≤ limit) (sym found.0) fits.1; each = found.1 })))

-- the nodes of each shard
record ShardsFit (shards : List (List ℕ)) : Type 0 where
  least : 1 ≤ length shards
  most : length shards ≤ MAX_SHARDS
  each : AllByRecursion (NodesFit MAX_COPIES) shards

abbrev shards_form : List (List ℕ) → List ℕ
shards_form shards = length shards ∷ flat_map nodes_form shards

takes_shards : (size : ℕ) → Takes (shards_at size) shards_form ShardsFit
unfolding shards_at
takes_shards size =
    behind_none (behind_then (members_at (nodes_at size MAX_COPIES)) shards_form ShardsFit (takes_few size MAX_SHARDS) (λ n fits.
    behind_same (takes_members (takes_nodes size MAX_COPIES) n) (λ shards found. ap (λ (k : ℕ). k ∷ flat_map nodes_form shards) found.0)
    (λ shards found. record { least = subst (λ (k : ℕ). 1 ≤ k) (sym found.0) fits.0; most = subst (λ (k : ℕ). k ≤ MAX_SHARDS) (sym found.0) fits.1; each = found.1 })))

pub takes_config : (size : ℕ) → Takes (config_at size) config_form ConfigFits
unfolding config_at
takes_config size =
    takes_three (λ view seq shards. record { view = view; seq = seq; shards = shards }) config_form ConfigFits (takes_counted size) (takes_nodes size MAX_SEQ) (takes_shards size)
    (λ view seq shards. refl) (λ view seq shards p q r. record { view = p; seq = q; shards_least = r.least; shards_most = r.most; shards = r.each })

-- ---- marks

word_found : (bytes : List ℕ) → length bytes ≡ 8 → IsBytes bytes → word_form (from_le_bytes w64 bytes) ≡ bytes
unfolding word_form
word_found bytes len are = le_bytes_8 bytes _ len are refl

words_found : (count : ℕ) (bytes : List ℕ) → length bytes ≡ 8 * count → IsBytes bytes → (flat_map word_form (words_in count bytes) ≡ bytes) × (length (words_in count bytes) ≡ count)
words_found zero bytes len are = (sym (nil_from_length bytes (omega (arith, len))), refl)
words_found (suc count) bytes len are =
    let first : word_form (from_le_bytes w64 (take 8 bytes)) ≡ take 8 bytes = word_found (take 8 bytes) (omega (arith, length-take 8 bytes, len)) (IsBytes-take 8 bytes are) in
    let others = words_found count (drop 8 bytes) (omega (arith, length-drop 8 bytes, len)) (IsBytes-drop 8 bytes are) in
    (rw (first, others.0) (take-append-drop 8 bytes), ap suc others.1)

IsBytes-front : (x y : List ℕ) → IsBytes (x ++ y) → IsBytes x
IsBytes-front x y are = subst (λ (t : List ℕ). IsBytes t) (take_at x y (length x) refl) (IsBytes-take (length x) (x ++ y) are)

takes_words : (count : ℕ) → Takes (words_at count) (flat_map word_form) (λ words. length words ≡ count)
takes_words count = record {
  found = λ bytes value rest are is.
      let x = bind_ok (part_at (8 * count) bytes) (λ part. done (words_in count part)) (value, rest) is in
      let one = (takes_part (8 * count)).found bytes x.0.0 x.0.1 are x.1 in
      let inside : IsBytes x.0.0 = IsBytes-front x.0.0 x.0.1 (subst (λ (t : List ℕ). IsBytes t) one.front.parts are) in
      let words = words_found count x.0.0 one.fits inside in
      found_is value rest x.2 (record { front = subst (λ (t : List ℕ). Parted bytes t x.0.1) (sym words.0) one.front; fits = words.1 });
}

highest_found : (top : ℕ) (words : List ℕ) → (top == 0 || slice_index words 0 % 2 == 1) ≡ true → 1 ≤ top → slice_index words 0 % 2 ≡ 1
highest_found top words passes least =
    elim (either_one (top == 0) (slice_index words 0 % 2 == 1) passes) [
      | inl none ↦ absurd (omega (arith, eqb-true top 0 none))
      | inr marked ↦ eqb-true _ 1 marked
    ]

pub takes_marks : (edition : Edition) (size : ℕ) → Takes (marks_at edition size) marks_form (MarksFit edition)
unfolding marks_at
takes_marks edition size =
    behind_none (behind_then (λ top. allowed size (are_bits top) (words_at (words_of edition)) >>= λ bits. done (record { top = top; bits = bits })) marks_form (MarksFit edition) takes_word (λ top is_word.
    behind_one (λ bits. record { top = top; bits = bits }) marks_form (MarksFit edition) (takes_allowed size (are_bits top) (takes_words (words_of edition))) (λ bits fits. refl) (λ bits fits.
    let tests = both_true (top == 0 || slice_index bits 0 % 2 == 1) (end_at top bits) fits.1 in
    record { top = is_word; words = fits.0; highest = highest_found top bits tests.0; lowest = end_at_ends top bits tests.1 })))

pub takes_window : (edition : Edition) (size : ℕ) → Takes (window_at edition size) (list_form marks_form) (WindowFits edition)
unfolding window_at
takes_window edition size =
    behind_none (behind_then (members_at (marks_at edition size)) (list_form marks_form) (WindowFits edition) (takes_allowed size (nat_le 1) (takes_limited MAX_CLIENTS takes_two_bytes)) (λ n fits.
    behind_same (takes_members (takes_marks edition size) n) (λ window found. ap (λ (k : ℕ). two k ++ flat_map marks_form window) found.0)
    (λ window found. record { least = subst (λ (k : ℕ). 1 ≤ k) (sym found.0) (leb-true 1 n fits.1); most = subst (λ (k : ℕ). k ≤ MAX_CLIENTS) (sym found.0) fits.0.1; each = found.1 })))
