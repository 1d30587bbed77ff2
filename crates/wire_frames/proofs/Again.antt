-- What was written is read again, whatever follows it.
use Rattle.std.proofs.Common.{◌≡◌, ℕ, ◌^◌, ◌<◌, ◌≤◌, Bool, true, false, ltb, List, [], ◌∷◌, ◌++◌, length, Ok, refl, sym, subst, append_assoc, arith, length-append}
use Rattle.std.specs.Prelude.{nat_lt, nat_le}
use Rattle.std.specs.Int.{Width, w16, w32, w64, byte_len, from_be_bytes, to_be_bytes}
use Rattle.std.proofs.lemmas.Bool.{le-leb, le-ltb, lt-ltb}
use Rattle.std.proofs.lemmas.List.{take_at, drop_at}
use Rattle.std.proofs.lemmas.Nat.{from_be_bytes-to_be_bytes_2, from_be_bytes-to_be_bytes_4, from_be_bytes-to_be_bytes_8}
use Rattle.lazy_msgs.specs.Frame.{two, four, eight}
use Rattle.lazy_msgs.specs.FrameLimits.{IsCounted, IsNode}
use Rattle.wire_frames.specs.Readers.{Reader, ◌>>=◌, done, byte_at, part_at, number_at, allowed, limited, counted_at, node_at, addressee_at, time_at, one_field, two_fields, three_fields, four_fields}
use Rattle.lazy_msgs.specs.declared.limits.TheConstants.{TIME_LIMIT}
use Rattle.view_config.specs.declared.nodes.TheConstants.{BOARD, MAX_NODE}

-- the reader takes these bytes as this value, whatever follows
pub record Reads {A : Type 0} (read : Reader A) (form : List ℕ) (value : A) : Type 0 where
  pub again : (rest : List ℕ) → read (form ++ rest) ≡ Ok (value, rest)

-- ---- one after the other

pub reads_then : {A B : Type 0} (read : Reader A) (next : A → Reader B) (first second : List ℕ) (a : A) (b : B) → Reads read first a → Reads (next a) second b → Reads (read >>= next) (first ++ second) b
reads_then read next first second a b p q = record {
  again = λ rest. rw (append_assoc first second rest, p.again (second ++ rest)) (q.again rest);
}

pub reads_done : {A : Type 0} (value : A) → Reads (done value) [] value
reads_done value = record { again = λ rest. refl }

-- ---- tests

pub reads_allowed : {A : Type 0} (size : ℕ) (test : A → Bool) (read : Reader A) (form : List ℕ) (value : A) → test value ≡ true → Reads read form value → Reads (allowed size test read) form value
reads_allowed size test read form value passes p = record {
  again = λ rest. rw (p.again rest, passes) refl;
}

pub reads_limited : (limit : ℕ) (read : Reader ℕ) (form : List ℕ) (n : ℕ) → n ≤ limit → Reads read form n → Reads (limited limit read) form n
reads_limited limit read form n most p =
    let passes : nat_le n limit ≡ true = search (arith) in
    record { again = λ rest. rw (p.again rest, passes) refl }

-- ---- numbers

reads_number : (width : Width) (n : ℕ) → length (to_be_bytes width n) ≡ byte_len width → from_be_bytes width (to_be_bytes width n) ≡ n → Reads (number_at width) (to_be_bytes width n) n
unfolding number_at
reads_number width n len back = record {
  again = λ rest.
      let long : ltb (length (to_be_bytes width n ++ rest)) (byte_len width) ≡ false = le-ltb _ _ (omega (arith, length-append (to_be_bytes width n) rest)) in
      rw (long, take_at (to_be_bytes width n) rest (byte_len width) len, drop_at (to_be_bytes width n) rest (byte_len width) len, back) refl;
}

pub reads_two : (n : ℕ) → n < 2 ^ 16 → Reads (number_at w16) (two n) n
unfolding two
reads_two n below = reads_number w16 n refl (from_be_bytes-to_be_bytes_2 n below)

pub reads_four : (n : ℕ) → n < 2 ^ 32 → Reads (number_at w32) (four n) n
unfolding four
reads_four n below = reads_number w32 n refl (from_be_bytes-to_be_bytes_4 n below)

pub reads_eight : (n : ℕ) → n < 2 ^ 64 → Reads (number_at w64) (eight n) n
unfolding eight
reads_eight n below = reads_number w64 n refl (from_be_bytes-to_be_bytes_8 n below)

pub reads_byte : (n : ℕ) → Reads byte_at (n ∷ []) n
reads_byte n = record { again = λ rest. refl }

pub reads_counted : (size n : ℕ) → IsCounted n → Reads (counted_at size) (four n) n
unfolding counted_at
reads_counted size n fits =
    reads_allowed size (nat_le 1) (number_at w32) (four n) n (le-leb 1 n fits.least) (reads_four n fits.word)

pub reads_node : (size n : ℕ) → IsNode n → Reads (node_at size) (two n) n
unfolding node_at
reads_node size n most =
    reads_allowed size (λ node. nat_le node MAX_NODE) (number_at w16) (two n) n (le-leb n MAX_NODE most) (reads_two n (omega arith))

pub reads_addressee : (size n : ℕ) → n ≤ BOARD → Reads (addressee_at size) (two n) n
unfolding addressee_at
reads_addressee size n most =
    reads_allowed size (λ node. nat_le node BOARD) (number_at w16) (two n) n (le-leb n BOARD most) (reads_two n (omega arith))

pub reads_time : (size n : ℕ) → n < TIME_LIMIT → Reads (time_at size) (eight n) n
unfolding time_at
reads_time size n below =
    reads_allowed size (λ time. nat_lt time TIME_LIMIT) (number_at w64) (eight n) n (lt-ltb n TIME_LIMIT below) (reads_eight n (omega arith))

pub reads_part : (bytes : List ℕ) → Reads (part_at (length bytes)) bytes bytes
reads_part bytes = record {
  again = λ rest.
      let long : ltb (length (bytes ++ rest)) (length bytes) ≡ false = le-ltb _ _ (omega (arith, length-append bytes rest)) in
      rw (long, take_at bytes rest (length bytes) refl, drop_at bytes rest (length bytes) refl) refl;
}

-- ---- several fields

pub reads_one : {A B : Type 0} {first : Reader A} {form : List ℕ} {a : A} (make : A → B) → Reads first form a → Reads (one_field first make) form (make a)
reads_one make p = record { again = λ rest. rw (p.again rest) refl }

pub reads_two_fields : {A B C : Type 0} {first : Reader A} {second : Reader B} {form_a form_b : List ℕ} {a : A} {b : B} (make : A → B → C)
    → Reads first form_a a → Reads second form_b b → Reads (two_fields first second make) (form_a ++ form_b) (make a b)
reads_two_fields {second = second} {a = a} make p q = reads_then _ (λ x. one_field second (make x)) _ _ a _ p (reads_one (make a) q)

regrouped : {A : Type 0} {read : Reader A} {value : A} (x y z : List ℕ) → Reads read (x ++ (y ++ z)) value → Reads read (x ++ y ++ z) value
regrouped {read = read} {value = value} x y z p = subst (λ (form : List ℕ). Reads read form value) (sym (append_assoc x y z)) p

pub reads_three_fields : {A B C D : Type 0} {first : Reader A} {second : Reader B} {third : Reader C} {form_a form_b form_c : List ℕ} {a : A} {b : B} {c : C} (make : A → B → C → D)
    → Reads first form_a a → Reads second form_b b → Reads third form_c c → Reads (three_fields first second third make) (form_a ++ form_b ++ form_c) (make a b c)
reads_three_fields {second = second} {third = third} {form_a = form_a} {form_b = form_b} {form_c = form_c} {a = a} make p q r =
    regrouped form_a form_b form_c (reads_then _ (λ x. two_fields second third (make x)) _ _ a _ p (reads_two_fields (make a) q r))

pub reads_four_fields : {A B C D E : Type 0} {first : Reader A} {second : Reader B} {third : Reader C} {fourth : Reader D} {form_a form_b form_c form_d : List ℕ} {a : A} {b : B} {c : C} {d : D} (make : A → B → C → D → E)
    → Reads first form_a a → Reads second form_b b → Reads third form_c c → Reads fourth form_d d → Reads (four_fields first second third fourth make) (form_a ++ form_b ++ form_c ++ form_d) (make a b c d)
reads_four_fields {second = second} {third = third} {fourth = fourth} {form_a = form_a} {form_b = form_b} {form_c = form_c} {form_d = form_d} {a = a} make p q r s =
    rw (append_assoc form_a form_b form_c) (regrouped form_a (form_b ++ form_c) form_d (reads_then _ (λ x. three_fields second third fourth (make x)) _ _ a _ p (reads_three_fields (make a) q r s)))
