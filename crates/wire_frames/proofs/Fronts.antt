-- Where bytes are cut off. What a reader takes from bytes it takes from every beginning of them that has it
-- whole, and from each other beginning nothing: that is too short.
use Rattle.std.proofs.Common.{◌≡◌, ℕ, zero, suc, ◌-◌, ◌*◌, ◌^◌, Bool, true, false, ltb, List, [], ◌∷◌, ◌++◌, length, take, drop, Some, None, Ok, Err, refl, sym, ap, subst, ◌∙◌, arith, inl, inr, length-append}
use Rattle.std.specs.Prelude.{nat_le, nat_lt, ◌⊎◌, ◌==◌, ◌||◌, ◌&&◌, if◌then◌else◌}
use Rattle.std.specs.Int.{Width, w16, w32, w64, byte_len, from_be_bytes}
use Rattle.std.proofs.lemmas.Bool.{cases_lt, lt-ltb, le-ltb}
use Rattle.std.proofs.lemmas.List.{append-nil, take-append-le, drop-append-le}
use Rattle.rec_id.specs.declared.entry.Entry.TheVariants.{Kept as KeptEntry, Noop as NoopEntry}
use Rattle.rec_id.specs.declared.item.Body.TheVariants.{Elsewhere, Kept, Noop}
use Rattle.view_config.specs.declared.edition.Edition.{Edition}
use Rattle.view_config.specs.declared.edition.Edition.TheVariants.{One, Two}
use Rattle.lazy_msgs.specs.declared.msg.Msg.TheVariants.{Append, AppendAck, Put, DataAck, Rejected, Place, Placed, Copy, Copied, Order, Ordered, Stable, Probe, ProbeAck, TailReady, Fetch, Part, Flush, FlushCopy, Flushed, Seal, Sealed, SealedEmpty, NewView, Started, AskView, ViewIs, Claim, Trim, TrimAck, TrimmedAt}
use Rattle.lazy_msgs.specs.Frame.{frame}
use Rattle.lazy_msgs.specs.FrameLimits.{words_of}
use Rattle.wire_frames.specs.declared.offence.FrameError.{FrameError}
use Rattle.wire_frames.specs.declared.offence.FrameError.TheVariants.{Short, Kind, Field, Over}
use Rattle.wire_frames.specs.Laws.{CutIsShort, MoreIsTrailing}
use Rattle.wire_frames.specs.Readers.{Reader, ◌>>=◌, done, byte_at, part_at, number_at, judged, allowed, limited, counted_at, node_at, addressee_at, time_at, id_at, size_at, bytes_at, optional_at, item_at, body_at, cell_at, entry_at, placed_at, members_at, list_at, nodes_at, shards_at, config_at, words_in, are_bits, words_at, marks_at, window_at, one_field, two_fields, three_fields, four_fields, fields_at, edition_at, kind_at, last_kind, envelope_at, frame_at, whole_at}
use Rattle.wire_frames.proofs.AgainFrame.{reads_frame}
use Rattle.wire_frames.proofs.Found.{bind_ok, judged_ok, taken_is}
use Rattle.lazy_msgs.specs.declared.limits.TheConstants.{BATCH_LIMIT, PENDING_LIMIT, TIME_LIMIT}
use Rattle.view_config.specs.declared.nodes.TheConstants.{BOARD, MAX_NODE}
use Rattle.rec_id.specs.declared.limits.TheConstants.{READ_LIMIT}
use Rattle.view_config.specs.declared.limits.TheConstants.{MAX_CLIENTS, MAX_COPIES, MAX_SEQ, MAX_SHARDS, RECORD_LIMIT_ONE, RECORD_LIMIT_TWO}

-- either the bytes before the cut are too short, or all that was taken stands before it
abbrev Cut : {A : Type 0} → Reader A → List ℕ → List ℕ → A → List ℕ → Type 0
Cut read bytes more value rest = (read bytes ≡ Err Short) ⊎ ((kept : List ℕ) × (read bytes ≡ Ok (value, kept)) × (rest ≡ kept ++ more))

record Local {A : Type 0} (read : Reader A) : Type 0 where
  cut : (bytes more : List ℕ) (value : A) (rest : List ℕ) → read (bytes ++ more) ≡ Ok (value, rest) → Cut read bytes more value rest

here : {A : Type 0} (made value : A) (bytes more rest : List ℕ) → done made (bytes ++ more) ≡ done value rest → (kept : List ℕ) × (done made bytes ≡ done value kept) × (rest ≡ kept ++ more)
here {A = A} made value bytes more rest is =
    let same = taken_is (made, bytes ++ more) (value, rest) is in
    (bytes, ap (λ (x : A × List ℕ). done x.0 bytes) same, sym (ap (λ (x : A × List ℕ). x.1) same))

local_done : {A : Type 0} (made : A) → Local (done made)
local_done made = record { cut = λ bytes more value rest is. inr (here made value bytes more rest is) }

local_then : {A B : Type 0} {read : Reader A} {next : A → Reader B} → Local read → ((a : A) → Local (next a)) → Local (read >>= next)
local_then {read = read} {next = next} p q = record {
  cut = λ bytes more value rest is.
      let x = bind_ok (read (bytes ++ more)) next (value, rest) is in
      elim (p.cut bytes more x.0.0 x.0.1 x.1) [
        | inl short ↦ inl (rw short refl)
        | inr first ↦
            let later : next x.0.0 (first.0 ++ more) ≡ Ok (value, rest) = subst (λ (t : List ℕ). next x.0.0 t ≡ Ok (value, rest)) first.2 x.2 in
            elim ((q x.0.0).cut first.0 more value rest later) [
              | inl short ↦ inl (rw first.1 short)
              | inr second ↦ inr (second.0, rw first.1 second.1, second.2)
            ]
      ];
}

local_if : {A : Type 0} {x y : Reader A} (b : Bool) → Local x → Local y → Local (if b then x else y)
local_if true p q = p
local_if false p q = q

local_judged : {A : Type 0} (test : A → Bool) (offence before : FrameError) (read : Reader A) → Local read → (bytes more : List ℕ) (value : A) (rest : List ℕ) → judged test before (read (bytes ++ more)) ≡ Ok (value, rest)
    → (judged test offence (read bytes) ≡ Err Short) ⊎ ((kept : List ℕ) × (judged test offence (read bytes) ≡ Ok (value, kept)) × (rest ≡ kept ++ more))
local_judged test offence before read p bytes more value rest is =
    let passed = judged_ok test before (read (bytes ++ more)) (value, rest) is in
    elim (p.cut bytes more value rest passed.0) [
      | inl short ↦ inl (rw short refl)
      | inr first ↦ inr (first.0, rw (first.1, passed.1) refl, first.2)
    ]

local_allowed : {A : Type 0} {read : Reader A} (size : ℕ) (test : A → Bool) → Local read → Local (allowed size test read)
local_allowed {read = read} size test p = record {
  cut = λ bytes more value rest is. local_judged test (Field (size - length bytes)) (Field (size - length (bytes ++ more))) read p bytes more value rest is;
}

local_limited : {read : Reader ℕ} (limit : ℕ) → Local read → Local (limited limit read)
local_limited {read = read} limit p = record {
  cut = λ bytes more value rest is. local_judged (λ n. nat_le n limit) (Over limit) (Over limit) read p bytes more value rest is;
}

-- ---- numbers

byte_cut : (bytes more : List ℕ) (value : ℕ) (rest : List ℕ) → byte_at (bytes ++ more) ≡ Ok (value, rest) → Cut byte_at bytes more value rest
byte_cut [] more value rest is = inl refl
byte_cut (byte ∷ bytes) more value rest is = inr (here byte value bytes more rest is)

local_byte : Local byte_at
local_byte = record { cut = byte_cut }

-- so many bytes, seen in some way
abbrev front_at : {A : Type 0} → (List ℕ → A) → ℕ → Reader A
front_at view count bytes = if nat_lt (length bytes) count then Err Short else Ok (view (take count bytes), drop count bytes)

front_cut : {A : Type 0} (view : List ℕ → A) (count : ℕ) (bytes more : List ℕ) (value : A) (rest : List ℕ) → front_at view count (bytes ++ more) ≡ Ok (value, rest) → Cut (front_at view count) bytes more value rest
front_cut view count bytes more value rest is =
    elim (cases_lt (length bytes) count) [
      | inl short ↦ inl (rw (lt-ltb (length bytes) count short) refl)
      | inr whole ↦
          let all : ltb (length (bytes ++ more)) count ≡ false = le-ltb _ _ (omega (arith, length-append bytes more)) in
          let part : ltb (length bytes) count ≡ false = le-ltb _ _ whole in
          let taken : done (view (take count bytes)) (drop count bytes ++ more) ≡ Ok (value, rest) = rw (all, take-append-le count bytes more whole, drop-append-le count bytes more whole) at is in
          let found = here (view (take count bytes)) value (drop count bytes) more rest taken in
          inr (found.0, rw part found.1, found.2)
    ]

local_part : (count : ℕ) → Local (part_at count)
local_part count = record { cut = front_cut (λ part. part) count }

local_number : (width : Width) → Local (number_at width)
unfolding number_at
local_number width = record { cut = front_cut (from_be_bytes width) (byte_len width) }

local_counted : (size : ℕ) → Local (counted_at size)
unfolding counted_at
local_counted size = local_allowed size (nat_le 1) (local_number w32)

local_node : (size : ℕ) → Local (node_at size)
unfolding node_at
local_node size = local_allowed size (λ node. nat_le node MAX_NODE) (local_number w16)

local_addressee : (size : ℕ) → Local (addressee_at size)
unfolding addressee_at
local_addressee size = local_allowed size (λ node. nat_le node BOARD) (local_number w16)

local_time : (size : ℕ) → Local (time_at size)
unfolding time_at
local_time size = local_allowed size (λ time. nat_lt time TIME_LIMIT) (local_number w64)

-- ---- several fields

local_one : {A B : Type 0} {first : Reader A} (make : A → B) → Local first → Local (one_field first make)
local_one make p = local_then p (λ a. local_done (make a))

local_two : {A B C : Type 0} {first : Reader A} {second : Reader B} (make : A → B → C) → Local first → Local second → Local (two_fields first second make)
local_two make p q = local_then p (λ a. local_one (make a) q)

local_three : {A B C D : Type 0} {first : Reader A} {second : Reader B} {third : Reader C} (make : A → B → C → D) → Local first → Local second → Local third → Local (three_fields first second third make)
local_three make p q r = local_then p (λ a. local_two (make a) q r)

local_four : {A B C D E : Type 0} {first : Reader A} {second : Reader B} {third : Reader C} {fourth : Reader D} (make : A → B → C → D → E) → Local first → Local second → Local third → Local fourth → Local (four_fields first second third fourth make)
local_four make p q r s = local_then p (λ a. local_three (make a) q r s)

local_id : (size : ℕ) → Local (id_at size)
unfolding id_at
local_id size = local_two (λ client number. record { client = client; number = number }) local_byte (local_counted size)

local_size : (edition : Edition) → Local (size_at edition)
local_size One = local_limited RECORD_LIMIT_ONE (local_number w16)
local_size Two = local_limited RECORD_LIMIT_TWO (local_number w32)

local_bytes : (edition : Edition) → Local (bytes_at edition)
unfolding bytes_at
local_bytes edition = local_then (local_size edition) local_part

local_optional : (edition : Edition) (size : ℕ) → Local (optional_at edition size)
unfolding optional_at
local_optional edition size = local_then (local_allowed size (λ flag. nat_le flag 1) local_byte) (λ flag. local_if (flag == 0) (local_done None) (local_one (λ bytes. Some bytes) (local_bytes edition)))

local_item : (edition : Edition) (size : ℕ) → Local (item_at edition size)
unfolding item_at
local_item edition size = local_two (λ id bytes. record { id = id; bytes = bytes }) (local_id size) (local_optional edition size)

local_body : (edition : Edition) (size : ℕ) → Local (body_at edition size)
unfolding body_at
local_body edition size =
    local_then (local_allowed size (λ flag. nat_le flag 2) local_byte) (λ flag.
    local_if (flag == 0) (local_done Elsewhere) (local_if (flag == 1) (local_one (λ bytes. Kept bytes) (local_bytes edition)) (local_done Noop)))

local_cell : (edition : Edition) (size : ℕ) → Local (cell_at edition size)
unfolding cell_at
local_cell edition size = local_two (λ id body. record { id = id; body = body }) (local_id size) (local_body edition size)

local_entry : (edition : Edition) (size : ℕ) → Local (entry_at edition size)
unfolding entry_at
local_entry edition size =
    local_then (local_id size) (λ id. local_then (local_allowed size (λ flag. flag == 1 || flag == 2) local_byte) (λ flag.
    local_if (flag == 1) (local_one (λ bytes. KeptEntry id bytes) (local_bytes edition)) (local_done (NoopEntry id))))

local_placed : (edition : Edition) (size : ℕ) → Local (placed_at edition size)
unfolding placed_at
local_placed edition size = local_two (λ place entry. (place, entry)) (local_number w32) (local_entry edition size)

-- ---- lists

local_members : {A : Type 0} {read : Reader A} → Local read → (count : ℕ) → Local (members_at read count)
local_members p zero = local_done []
local_members p (suc count) = local_two (λ first others. first ∷ others) p (local_members p count)

local_list : {A : Type 0} {read : Reader A} (limit : ℕ) → Local read → Local (list_at limit read)
unfolding list_at
local_list limit p = local_then (local_limited limit (local_number w16)) (local_members p)

local_few : (size limit : ℕ) → Local (allowed size (nat_le 1) (limited limit byte_at))
local_few size limit = local_allowed size (nat_le 1) (local_limited limit local_byte)

local_nodes : (size limit : ℕ) → Local (nodes_at size limit)
unfolding nodes_at
local_nodes size limit = local_then (local_few size limit) (local_members (local_node size))

local_shards : (size : ℕ) → Local (shards_at size)
unfolding shards_at
local_shards size = local_then (local_few size MAX_SHARDS) (local_members (local_nodes size MAX_COPIES))

local_config : (size : ℕ) → Local (config_at size)
unfolding config_at
local_config size = local_three (λ view seq shards. record { view = view; seq = seq; shards = shards }) (local_counted size) (local_nodes size MAX_SEQ) (local_shards size)

local_words : (count : ℕ) → Local (words_at count)
local_words count = local_one (words_in count) (local_part (8 * count))

local_marks : (edition : Edition) (size : ℕ) → Local (marks_at edition size)
unfolding marks_at
local_marks edition size = local_then (local_number w32) (λ top. local_one (λ bits. record { top = top; bits = bits }) (local_allowed size (are_bits top) (local_words (words_of edition))))

local_window : (edition : Edition) (size : ℕ) → Local (window_at edition size)
unfolding window_at
local_window edition size = local_then (local_allowed size (nat_le 1) (local_limited MAX_CLIENTS (local_number w16))) (local_members (local_marks edition size))

-- ---- messages and frames

local_fields : (edition : Edition) (size kind : ℕ) → Local (fields_at edition size kind)
unfolding fields_at
local_fields edition size kind =
    let all = local_if (kind == 1) (local_three (λ view id bytes. Append view id bytes) (local_counted size) (local_id size) (local_optional edition size)) (
    local_if (kind == 2) (local_two (λ view id. AppendAck view id) (local_counted size) (local_id size)) (
    local_if (kind == 3) (local_two (λ id bytes. Put id bytes) (local_id size) (local_bytes edition)) (
    local_if (kind == 4) (local_two (λ view id. DataAck view id) (local_counted size) (local_id size)) (
    local_if (kind == 5) (local_two (λ id place. Rejected id place) (local_id size) (local_number w32)) (
    local_if (kind == 6) (local_three (λ view from items. Place view from items) (local_counted size) (local_number w32) (local_list BATCH_LIMIT (local_item edition size))) (
    local_if (kind == 7) (local_two (λ view upto. Placed view upto) (local_counted size) (local_number w32)) (
    local_if (kind == 8) (local_three (λ view from cells. Copy view from cells) (local_counted size) (local_number w32) (local_list BATCH_LIMIT (local_cell edition size))) (
    local_if (kind == 9) (local_two (λ view upto. Copied view upto) (local_counted size) (local_number w32)) (
    local_if (kind == 10) (local_three (λ view from ids. Order view from ids) (local_counted size) (local_number w32) (local_list BATCH_LIMIT (local_id size))) (
    local_if (kind == 11) (local_two (λ view upto. Ordered view upto) (local_counted size) (local_number w32)) (
    local_if (kind == 12) (local_two (λ view upto. Stable view upto) (local_counted size) (local_number w32)) (
    local_if (kind == 13) (local_two (λ view read. Probe view read) (local_counted size) (local_counted size)) (
    local_if (kind == 14) (local_two (λ view read. ProbeAck view read) (local_counted size) (local_counted size)) (
    local_if (kind == 15) (local_three (λ view read tail. TailReady view read tail) (local_counted size) (local_counted size) (local_number w32)) (
    local_if (kind == 16) (local_three (λ read from to. Fetch read from to) (local_counted size) (local_number w32) (local_number w32)) (
    local_if (kind == 17) (local_four (λ read from end entries. Part read from end entries) (local_counted size) (local_number w32) (local_number w32) (local_list READ_LIMIT (local_placed edition size))) (
    local_if (kind == 18) (local_three (λ config from items. Flush config from items) (local_config size) (local_number w32) (local_list PENDING_LIMIT (local_item edition size))) (
    local_if (kind == 19) (local_three (λ view from cells. FlushCopy view from cells) (local_counted size) (local_number w32) (local_list PENDING_LIMIT (local_cell edition size))) (
    local_if (kind == 20) (local_one (λ view. Flushed view) (local_counted size)) (
    local_if (kind == 21) (local_one (λ view. Seal view) (local_counted size)) (
    local_if (kind == 22) (local_four (λ view bound window items. Sealed view bound window items) (local_counted size) (local_number w32) (local_window edition size) (local_list PENDING_LIMIT (local_item edition size))) (
    local_if (kind == 23) (local_one (λ view. SealedEmpty view) (local_counted size)) (
    local_if (kind == 24) (local_three (λ config base window. NewView config base window) (local_config size) (local_number w32) (local_window edition size)) (
    local_if (kind == 25) (local_one (λ view. Started view) (local_counted size)) (
    local_if (kind == 26) (local_done AskView) (
    local_if (kind == 27) (local_one (λ config. ViewIs config) (local_config size)) (
    local_if (kind == 28) (local_one (λ stable. Claim stable) (local_number w32)) (
    local_if (kind == 29) (local_two (λ read floor. Trim read floor) (local_counted size) (local_number w32)) (
    local_if (kind == 30) (local_one (λ read. TrimAck read) (local_counted size)) (
    local_two (λ read floor. TrimmedAt read floor) (local_counted size) (local_number w32))))))))))))))))))))))))))))))) in
    all

tested : {A : Type 0} (b : Bool) (offence : FrameError) (made : A) (bytes more : List ℕ) (value : A) (rest : List ℕ) → (if b then done made (bytes ++ more) else Err offence) ≡ done value rest
    → ((if b then done made bytes else Err offence) ≡ Err Short) ⊎ ((kept : List ℕ) × ((if b then done made bytes else Err offence) ≡ done value kept) × (rest ≡ kept ++ more))
tested true offence made bytes more value rest is = inr (here made value bytes more rest is)
tested false offence made bytes more value rest is = absurd cc

chosen : {A : Type 0} (b c : Bool) (offence : FrameError) (one two : A) (bytes more : List ℕ) (value : A) (rest : List ℕ)
    → (if b then done one (bytes ++ more) else (if c then done two (bytes ++ more) else Err offence)) ≡ done value rest
    → ((if b then done one bytes else (if c then done two bytes else Err offence)) ≡ Err Short) ⊎ ((kept : List ℕ) × ((if b then done one bytes else (if c then done two bytes else Err offence)) ≡ done value kept) × (rest ≡ kept ++ more))
chosen true c offence one two bytes more value rest is = inr (here one value bytes more rest is)
chosen false true offence one two bytes more value rest is = inr (here two value bytes more rest is)
chosen false false offence one two bytes more value rest is = absurd cc

kind_cut : (edition : Edition) (bytes more : List ℕ) (value : ℕ) (rest : List ℕ) → kind_at edition (bytes ++ more) ≡ Ok (value, rest) → Cut (kind_at edition) bytes more value rest
unfolding kind_at
kind_cut edition [] more value rest is = inl refl
kind_cut edition (kind ∷ bytes) more value rest is = tested (nat_le 1 kind && nat_le kind (last_kind edition)) (Kind kind) kind bytes more value rest is

local_kind : (edition : Edition) → Local (kind_at edition)
local_kind edition = record { cut = kind_cut edition }

edition_cut : (bytes more : List ℕ) (value : Edition) (rest : List ℕ) → edition_at (bytes ++ more) ≡ Ok (value, rest) → Cut edition_at bytes more value rest
unfolding edition_at
edition_cut [] more value rest is = inl refl
edition_cut (version ∷ bytes) more value rest is = chosen (version == 1) (version == 2) (Field 0) One Two bytes more value rest is

local_edition : Local edition_at
local_edition = record { cut = edition_cut }

local_envelope : (edition : Edition) (size : ℕ) → Local (envelope_at size edition)
unfolding envelope_at
local_envelope edition size =
    local_then (local_kind edition) (λ kind. local_four (λ from to time msg. record { from = from; to = to; time = time; msg = msg }) (local_node size) (local_addressee size) (local_time size) (local_fields edition size kind))

local_frame : (size : ℕ) → Local (frame_at size)
unfolding frame_at
local_frame size = local_then local_edition (λ edition. local_one (λ env. (edition, env)) (local_envelope edition size))

nothing_behind : (kept more : List ℕ) → [] ≡ kept ++ more → more ≡ []
nothing_behind [] more is = sym is
nothing_behind (byte ∷ kept) more is = absurd cc

pub cut_is_short : CutIsShort
unfolding whole_at
cut_is_short edition env front more fits parts some =
    let size = length front in
    let whole : frame_at size (front ++ more) ≡ Ok ((edition, env), []) = ap (frame_at size) (sym (append-nil (front ++ more)) ∙ ap (λ (t : List ℕ). t ++ []) (sym parts)) ∙ (reads_frame edition size env fits).again [] in
    elim ((local_frame size).cut front more (edition, env) [] whole) [
      | inl short ↦ rw short refl
      | inr all ↦ absurd (some (nothing_behind all.0 more all.2))
    ]

pub more_is_trailing : MoreIsTrailing
unfolding whole_at
more_is_trailing edition env byte more fits =
    let bytes = frame edition env ++ byte ∷ more in
    let read : frame_at (length bytes) bytes ≡ Ok ((edition, env), byte ∷ more) = (reads_frame edition (length bytes) env fits).again (byte ∷ more) in
    let place : length bytes - length (byte ∷ more) ≡ length (frame edition env) = omega (arith, length-append (frame edition env) (byte ∷ more)) in
    rw (read, place) refl
