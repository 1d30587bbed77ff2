-- What a reader leaves is the end of what it reads.
use Rattle.std.proofs.Common.{◌≡◌, ℕ, ◌+◌, ◌-◌, ◌<◌, ◌≤◌, Bool, true, false, ltb, List, [], ◌∷◌, length, take, drop, Some, None, Ok, Err, refl, sym, ap, subst, ◌∙◌, arith, inl, inr}
use Rattle.std.specs.Prelude.{nat_le, nat_lt, ◌==◌, ◌||◌, if◌then◌else◌}
use Rattle.std.specs.Int.{Width, w16, w32, byte_len, from_be_bytes}
use Rattle.std.proofs.lemmas.Bool.{cases_lt, lt-ltb, le-ltb}
use Rattle.std.proofs.lemmas.List.{drop-drop, length-drop}
use Rattle.rec_id.specs.Identity.{Identity}
use Rattle.rec_id.specs.declared.entry.Entry.{Entry}
use Rattle.rec_id.specs.declared.entry.Entry.TheVariants.{Kept as KeptEntry, Noop as NoopEntry}
use Rattle.rec_id.specs.declared.item.Item.{Item}
use Rattle.rec_id.specs.declared.item.Body.TheVariants.{Elsewhere, Kept, Noop}
use Rattle.rec_id.specs.declared.item.Cell.{Cell}
use Rattle.view_config.specs.declared.edition.Edition.{Edition}
use Rattle.view_config.specs.declared.edition.Edition.TheVariants.{One, Two}
use Rattle.wire_frames.specs.declared.offence.FrameError.{FrameError}
use Rattle.wire_frames.specs.declared.offence.FrameError.TheVariants.{Short, Field, Over}
use Rattle.wire_frames.specs.Readers.{Reader, IsEnd, ◌>>=◌, done, byte_at, part_at, number_at, judged, allowed, limited, counted_at, id_at, size_at, bytes_at, optional_at, item_at, body_at, cell_at, entry_at, placed_at, one_field, two_fields}
use Rattle.wire_frames.proofs.Found.{bind_ok, judged_ok, taken_is}
use Rattle.view_config.specs.declared.limits.TheConstants.{RECORD_LIMIT_ONE, RECORD_LIMIT_TWO}

pub end_drop : (n : ℕ) (xs : List ℕ) → n ≤ length xs → IsEnd (drop n xs) xs
end_drop n xs within =
    let k : length xs - length (drop n xs) ≡ n = omega (arith, length-drop n xs) in
    record { within = omega (arith, length-drop n xs); is = rw k refl }

pub end_same : (xs : List ℕ) → IsEnd xs xs
end_same xs = end_drop 0 xs (omega arith)

pub end_then : {a b c : List ℕ} → IsEnd b a → IsEnd c b → IsEnd c a
end_then {a = a} {b = b} {c = c} first second =
    let within : length c ≤ length a = omega (arith, first.within, second.within) in
    let k : length a - length b + (length b - length c) ≡ length a - length c = omega (arith, first.within, second.within) in
    let both : drop (length b - length c) (drop (length a - length b) a) ≡ drop (length a - length b + (length b - length c)) a = drop-drop (length b - length c) (length a - length b) a in
    let one : drop (length b - length c) (drop (length a - length b) a) ≡ c = ap (λ (xs : List ℕ). drop (length b - length c) xs) first.is ∙ second.is in
    let two : drop (length a - length b + (length b - length c)) a ≡ c = sym both ∙ one in
    record { within = within; is = rw k at two }

record Ends {A : Type 0} (read : Reader A) : Type 0 where
  after : (bytes : List ℕ) (value : A) (rest : List ℕ) → read bytes ≡ Ok (value, rest) → IsEnd rest bytes

ends_done : {A : Type 0} (made : A) → Ends (done made)
ends_done {A = A} made = record {
  after = λ bytes value rest is. subst (λ (x : A × List ℕ). IsEnd x.1 bytes) (taken_is (made, bytes) (value, rest) is) (end_same bytes);
}

ends_then : {A B : Type 0} {read : Reader A} {next : A → Reader B} → Ends read → ((a : A) → Ends (next a)) → Ends (read >>= next)
ends_then {read = read} {next = next} p q = record {
  after = λ bytes value rest is.
      let x = bind_ok (read bytes) next (value, rest) is in
      end_then (p.after bytes x.0.0 x.0.1 x.1) ((q x.0.0).after x.0.1 value rest x.2);
}

ends_if : {A : Type 0} {x y : Reader A} (b : Bool) → Ends x → Ends y → Ends (if b then x else y)
ends_if true p q = p
ends_if false p q = q

ends_allowed : {A : Type 0} {read : Reader A} (size : ℕ) (test : A → Bool) → Ends read → Ends (allowed size test read)
ends_allowed {read = read} size test p = record {
  after = λ bytes value rest is. p.after bytes value rest (judged_ok test (Field (size - length bytes)) (read bytes) (value, rest) is).0;
}

ends_limited : {read : Reader ℕ} (limit : ℕ) → Ends read → Ends (limited limit read)
ends_limited {read = read} limit p = record {
  after = λ bytes value rest is. p.after bytes value rest (judged_ok (λ n. nat_le n limit) (Over limit) (read bytes) (value, rest) is).0;
}

-- ---- numbers

byte_end : (bytes : List ℕ) (value : ℕ) (rest : List ℕ) → byte_at bytes ≡ Ok (value, rest) → IsEnd rest bytes
byte_end [] value rest is = absurd cc
byte_end (byte ∷ bytes) value rest is = subst (λ (x : ℕ × List ℕ). IsEnd x.1 (byte ∷ bytes)) (taken_is (byte, bytes) (value, rest) is) (end_drop 1 (byte ∷ bytes) (omega arith))

ends_byte : Ends byte_at
ends_byte = record { after = byte_end }

-- so many bytes, seen in some way
abbrev front_at : {A : Type 0} → (List ℕ → A) → ℕ → Reader A
front_at view count bytes = if nat_lt (length bytes) count then Err Short else Ok (view (take count bytes), drop count bytes)

-- what is taken is there, and it is the front
record Front {A : Type 0} (view : List ℕ → A) (count : ℕ) (bytes : List ℕ) (value : A) (rest : List ℕ) : Type 0 where
  there : count ≤ length bytes
  is_value : view (take count bytes) ≡ value
  is_rest : drop count bytes ≡ rest

front_is : {A : Type 0} (view : List ℕ → A) (count : ℕ) (bytes : List ℕ) (value : A) (rest : List ℕ) → front_at view count bytes ≡ Ok (value, rest) → Front view count bytes value rest
front_is {A = A} view count bytes value rest is =
    elim (cases_lt (length bytes) count) [
      | inl short ↦
          let refused : ltb (length bytes) count ≡ true = lt-ltb _ _ short in
          let no : Err Short ≡ Ok (value, rest) = rw refused at is in
          absurd cc
      | inr whole ↦
          let taken : ltb (length bytes) count ≡ false = le-ltb _ _ whole in
          let same : done (view (take count bytes)) (drop count bytes) ≡ Ok (value, rest) = rw taken at is in
          let both = taken_is (view (take count bytes), drop count bytes) (value, rest) same in
          record { there = whole; is_value = ap (λ (x : A × List ℕ). x.0) both; is_rest = ap (λ (x : A × List ℕ). x.1) both }
    ]

ends_front : {A : Type 0} (view : List ℕ → A) (count : ℕ) → Ends (front_at view count)
ends_front view count = record {
  after = λ bytes value rest is.
      let front = front_is view count bytes value rest is in
      subst (λ (xs : List ℕ). IsEnd xs bytes) front.is_rest (end_drop count bytes front.there);
}

ends_part : (count : ℕ) → Ends (part_at count)
ends_part count = ends_front (λ part. part) count

ends_number : (width : Width) → Ends (number_at width)
unfolding number_at
ends_number width = ends_front (from_be_bytes width) (byte_len width)

-- ---- several fields

ends_two : {A B C : Type 0} {first : Reader A} {second : Reader B} (make : A → B → C) → Ends first → Ends second → Ends (two_fields first second make)
ends_two make p q = ends_then p (λ a. ends_then q (λ b. ends_done (make a b)))

ends_counted : (size : ℕ) → Ends (counted_at size)
unfolding counted_at
ends_counted size = ends_allowed size (nat_le 1) (ends_number w32)

ends_id : (size : ℕ) → Ends (id_at size)
unfolding id_at
ends_id size = ends_two (λ client number. record { client = client; number = number }) ends_byte (ends_counted size)

ends_size : (edition : Edition) → Ends (size_at edition)
ends_size One = ends_limited RECORD_LIMIT_ONE (ends_number w16)
ends_size Two = ends_limited RECORD_LIMIT_TWO (ends_number w32)

ends_bytes : (edition : Edition) → Ends (bytes_at edition)
unfolding bytes_at
ends_bytes edition = ends_then (ends_size edition) ends_part

ends_kept : {A : Type 0} (edition : Edition) (make : List ℕ → A) → Ends (bytes_at edition >>= λ bytes. done (make bytes))
ends_kept edition make = ends_then (ends_bytes edition) (λ bytes. ends_done (make bytes))

ends_optional : (edition : Edition) (size : ℕ) → Ends (optional_at edition size)
unfolding optional_at
ends_optional edition size = ends_then (ends_allowed size (λ flag. nat_le flag 1) ends_byte) (λ flag. ends_if (flag == 0) (ends_done None) (ends_kept edition (λ bytes. Some bytes)))

ends_item : (edition : Edition) (size : ℕ) → Ends (item_at edition size)
unfolding item_at
ends_item edition size = ends_two (λ id bytes. record { id = id; bytes = bytes }) (ends_id size) (ends_optional edition size)

ends_body : (edition : Edition) (size : ℕ) → Ends (body_at edition size)
unfolding body_at
ends_body edition size =
    ends_then (ends_allowed size (λ flag. nat_le flag 2) ends_byte) (λ flag.
    ends_if (flag == 0) (ends_done Elsewhere) (ends_if (flag == 1) (ends_kept edition (λ bytes. Kept bytes)) (ends_done Noop)))

ends_cell : (edition : Edition) (size : ℕ) → Ends (cell_at edition size)
unfolding cell_at
ends_cell edition size = ends_two (λ id body. record { id = id; body = body }) (ends_id size) (ends_body edition size)

ends_entry : (edition : Edition) (size : ℕ) → Ends (entry_at edition size)
unfolding entry_at
ends_entry edition size =
    ends_then (ends_id size) (λ id. ends_then (ends_allowed size (λ flag. flag == 1 || flag == 2) ends_byte) (λ flag.
    ends_if (flag == 1) (ends_kept edition (λ bytes. KeptEntry id bytes)) (ends_done (NoopEntry id))))

ends_placed : (edition : Edition) (size : ℕ) → Ends (placed_at edition size)
unfolding placed_at
ends_placed edition size = ends_two (λ place entry. (place, entry)) (ends_number w32) (ends_entry edition size)

-- ---- what code goes by

pub after_byte : (all bytes rest : List ℕ) (value : ℕ) → IsEnd bytes all → byte_at bytes ≡ Ok (value, rest) → IsEnd rest all
after_byte all bytes rest value before is = end_then before (ends_byte.after bytes value rest is)

pub after_four : (all bytes rest : List ℕ) (value : ℕ) → IsEnd bytes all → number_at w32 bytes ≡ Ok (value, rest) → IsEnd rest all
after_four all bytes rest value before is = end_then before ((ends_number w32).after bytes value rest is)

pub after_id : (size : ℕ) (all bytes rest : List ℕ) (id : Identity) → IsEnd bytes all → id_at size bytes ≡ Ok (id, rest) → IsEnd rest all
after_id size all bytes rest id before is = end_then before ((ends_id size).after bytes id rest is)

pub after_item : (edition : Edition) (size : ℕ) (all bytes rest : List ℕ) (item : Item) → IsEnd bytes all → item_at edition size bytes ≡ Ok (item, rest) → IsEnd rest all
after_item edition size all bytes rest item before is = end_then before ((ends_item edition size).after bytes item rest is)

pub after_cell : (edition : Edition) (size : ℕ) (all bytes rest : List ℕ) (cell : Cell) → IsEnd bytes all → cell_at edition size bytes ≡ Ok (cell, rest) → IsEnd rest all
after_cell edition size all bytes rest cell before is = end_then before ((ends_cell edition size).after bytes cell rest is)

pub after_placed : (edition : Edition) (size : ℕ) (all bytes rest : List ℕ) (placed : ℕ × Entry) → IsEnd bytes all → placed_at edition size bytes ≡ Ok (placed, rest) → IsEnd rest all
after_placed edition size all bytes rest placed before is = end_then before ((ends_placed edition size).after bytes placed rest is)

pub after_size : (edition : Edition) (all bytes left : List ℕ) (len : ℕ) → IsEnd bytes all → size_at edition bytes ≡ Ok (len, left) → IsEnd left all
after_size edition all bytes left len before is = end_then before ((ends_size edition).after bytes len left is)

pub left_within : (edition : Edition) (all bytes left : List ℕ) (len : ℕ) → IsEnd bytes all → size_at edition bytes ≡ Ok (len, left) → length left ≤ length all
left_within edition all bytes left len before is = (after_size edition all bytes left len before is).within

-- the bytes that are taken where the end begins stand there in all
pub part_within : (all left rest part : List ℕ) (len : ℕ) → IsEnd left all → part_at len left ≡ Ok (part, rest) → length all - length left + len ≤ length all
part_within all left rest part len end is =
    let front = front_is (λ part. part) len left part rest is in
    omega (arith, end.within, front.there)

pub part_is : (all left rest part : List ℕ) (len : ℕ) → IsEnd left all → part_at len left ≡ Ok (part, rest) → take len (drop (length all - length left) all) ≡ part
part_is all left rest part len end is =
    let front = front_is (λ part. part) len left part rest is in
    ap (λ (xs : List ℕ). take len xs) end.is ∙ front.is_value
