-- What is read stands in the bytes: the form of a value within its limits, and what is left behind it.
use Rattle.std.proofs.Common.{◌≡◌, ℕ, suc, ◌+◌, ◌-◌, ◌^◌, ◌<◌, ◌≤◌, Bool, true, false, ltb, List, [], ◌∷◌, ◌++◌, length, get_or, take, drop, Ok, Err, refl, sym, ap, subst, ◌∙◌, append_assoc, arith, inl, inr}
use Rattle.std.specs.Prelude.{nat_le, nat_lt, if◌then◌else◌}
use Rattle.std.specs.Int.{Width, w16, w32, w64, byte_len, from_be_bytes, to_be_bytes}
use Rattle.std.proofs.lemmas.Bool.{cases_lt, ltb-false, ltb-true, leb-true}
use Rattle.std.proofs.lemmas.List.{take-append-drop, length-take, get_or-drop, get_or-take, get_or_past}
use Rattle.std.proofs.lemmas.Nat.{be_bytes_2, be_bytes_4, be_bytes_8}
use Rattle.lazy_msgs.specs.Frame.{two, four, eight}
use Rattle.lazy_msgs.specs.FrameLimits.{IsWord, IsCounted, IsNode}
use Rattle.wire_frames.specs.declared.offence.FrameError.{FrameError}
use Rattle.wire_frames.specs.declared.offence.FrameError.TheVariants.{Short, Field, Over}
use Rattle.wire_frames.specs.Readers.{Taken, Reader, goes_on, ◌>>=◌, done, byte_at, part_at, number_at, judged, allowed, limited, counted_at, node_at, addressee_at, time_at, one_field, two_fields, three_fields, four_fields}
use Rattle.lazy_msgs.specs.declared.limits.TheConstants.{TIME_LIMIT}
use Rattle.view_config.specs.declared.nodes.TheConstants.{BOARD, MAX_NODE}

abbrev pub IsBytes : List ℕ → Type 0
IsBytes bytes = (i : ℕ) → get_or bytes i 0 < 256

pub IsBytes-drop : (n : ℕ) (bytes : List ℕ) → IsBytes bytes → IsBytes (drop n bytes)
IsBytes-drop n bytes are i = rw get_or-drop (are (n + i))

pub IsBytes-take : (n : ℕ) (bytes : List ℕ) → IsBytes bytes → IsBytes (take n bytes)
IsBytes-take n bytes are i =
    elim (cases_lt i n) [
      | inl below ↦ rw (get_or-take n bytes i 0 below) (are i)
      | inr past ↦ rw (get_or_past (take n bytes) i 0 (omega (arith, length-take n bytes))) (omega arith)
    ]

-- the text is the front of the bytes
pub record Parted (bytes text rest : List ℕ) : Type 0 where
  pub parts : bytes ≡ text ++ rest
  pub are : IsBytes rest

pub front_then : {a x b y c : List ℕ} → Parted a x b → Parted b y c → Parted a (x ++ y) c
front_then {x = x} {y = y} {c = c} p q = record { parts = p.parts ∙ ap (λ (t : List ℕ). x ++ t) q.parts ∙ sym (append_assoc x y c); are = q.are }

-- the front of the bytes is the form of a value that fits
pub record Found {A : Type 0} (form : A → List ℕ) (Fits : A → Type 0) (bytes : List ℕ) (value : A) (rest : List ℕ) : Type 0 where
  pub front : Parted bytes (form value) rest
  pub fits : Fits value

-- what the reader takes is found
pub record Takes {A : Type 0} (read : Reader A) (form : A → List ℕ) (Fits : A → Type 0) : Type 0 where
  pub found : (bytes : List ℕ) (value : A) (rest : List ℕ) → IsBytes bytes → read bytes ≡ Ok (value, rest) → Found form Fits bytes value rest

-- ---- one after the other

pub bind_ok : {A B : Type 0} (read : Taken A) (next : A → Reader B) (y : B × List ℕ) → goes_on read next ≡ Ok y → (x : A × List ℕ) × (read ≡ Ok x) × (next x.0 x.1 ≡ Ok y)
bind_ok (Ok x) next y is = (x, refl, is)
bind_ok (Err offence) next y is = absurd cc

abbrev pub taken : {A : Type 0} → A × List ℕ → Taken A
taken x = Ok x

pub taken_is : {A : Type 0} (x y : A × List ℕ) → taken x ≡ taken y → x ≡ y
taken_is x y same = cc

pub found_is : {A : Type 0} {form : A → List ℕ} {Fits : A → Type 0} {bytes : List ℕ} {a : A} {after : List ℕ} (value : A) (rest : List ℕ) → done a after ≡ Ok (value, rest) → Found form Fits bytes a after → Found form Fits bytes value rest
found_is {A = A} {form = form} {Fits = Fits} {bytes = bytes} {a = a} {after = after} value rest same found =
    subst (λ (x : A × List ℕ). Found form Fits bytes x.0 x.1) (taken_is (a, after) (value, rest) same) found

pub takes_weaker : {A : Type 0} {read : Reader A} {form : A → List ℕ} {Fits More : A → Type 0} → Takes read form Fits → ((a : A) → Fits a → More a) → Takes read form More
takes_weaker p more = record {
  found = λ bytes value rest are is. let one = p.found bytes value rest are is in record { front = one.front; fits = more value one.fits };
}

pub takes_one : {A B : Type 0} {first : Reader A} {form_a : A → List ℕ} {Fits_a : A → Type 0} (make : A → B) (form : B → List ℕ) (Fits : B → Type 0)
    → Takes first form_a Fits_a → ((a : A) → form (make a) ≡ form_a a) → ((a : A) → Fits_a a → Fits (make a)) → Takes (one_field first make) form Fits
takes_one {first = first} make form Fits p forms fits = record {
  found = λ bytes value rest are is.
      let x = bind_ok (first bytes) (λ a. done (make a)) (value, rest) is in
      let one = p.found bytes x.0.0 x.0.1 are x.1 in
      found_is value rest x.2 (record { front = rw (forms x.0.0) one.front; fits = fits x.0.0 one.fits });
}

pub takes_two : {A B C : Type 0} {first : Reader A} {second : Reader B} {form_a : A → List ℕ} {form_b : B → List ℕ} {Fits_a : A → Type 0} {Fits_b : B → Type 0} (make : A → B → C) (form : C → List ℕ) (Fits : C → Type 0)
    → Takes first form_a Fits_a → Takes second form_b Fits_b → ((a : A) (b : B) → form (make a b) ≡ form_a a ++ form_b b) → ((a : A) (b : B) → Fits_a a → Fits_b b → Fits (make a b))
    → Takes (two_fields first second make) form Fits
takes_two {first = first} {second = second} make form Fits p q forms fits = record {
  found = λ bytes value rest are is.
      let x = bind_ok (first bytes) (λ a. one_field second (make a)) (value, rest) is in
      let one = p.found bytes x.0.0 x.0.1 are x.1 in
      let y = bind_ok (second x.0.1) (λ b. done (make x.0.0 b)) (value, rest) x.2 in
      let two = q.found x.0.1 y.0.0 y.0.1 one.front.are y.1 in
      found_is value rest y.2 (record { front = rw (forms x.0.0 y.0.0) (front_then one.front two.front); fits = fits x.0.0 y.0.0 one.fits two.fits });
}

pub takes_three : {A B C D : Type 0} {first : Reader A} {second : Reader B} {third : Reader C} {form_a : A → List ℕ} {form_b : B → List ℕ} {form_c : C → List ℕ} {Fits_a : A → Type 0} {Fits_b : B → Type 0} {Fits_c : C → Type 0}
    (make : A → B → C → D) (form : D → List ℕ) (Fits : D → Type 0) → Takes first form_a Fits_a → Takes second form_b Fits_b → Takes third form_c Fits_c
    → ((a : A) (b : B) (c : C) → form (make a b c) ≡ form_a a ++ form_b b ++ form_c c) → ((a : A) (b : B) (c : C) → Fits_a a → Fits_b b → Fits_c c → Fits (make a b c))
    → Takes (three_fields first second third make) form Fits
takes_three {first = first} {second = second} {third = third} make form Fits p q r forms fits = record {
  found = λ bytes value rest are is.
      let x = bind_ok (first bytes) (λ a. two_fields second third (make a)) (value, rest) is in
      let one = p.found bytes x.0.0 x.0.1 are x.1 in
      let y = bind_ok (second x.0.1) (λ b. one_field third (make x.0.0 b)) (value, rest) x.2 in
      let two = q.found x.0.1 y.0.0 y.0.1 one.front.are y.1 in
      let z = bind_ok (third y.0.1) (λ c. done (make x.0.0 y.0.0 c)) (value, rest) y.2 in
      let three = r.found y.0.1 z.0.0 z.0.1 two.front.are z.1 in
      found_is {a = make x.0.0 y.0.0 z.0.0} {after = z.0.1} value rest z.2 (record { front = rw (forms x.0.0 y.0.0 z.0.0) (front_then (front_then one.front two.front) three.front); fits = fits x.0.0 y.0.0 z.0.0 one.fits two.fits three.fits });
}

pub takes_four : {A B C D E : Type 0} {first : Reader A} {second : Reader B} {third : Reader C} {fourth : Reader D} {form_a : A → List ℕ} {form_b : B → List ℕ} {form_c : C → List ℕ} {form_d : D → List ℕ}
    {Fits_a : A → Type 0} {Fits_b : B → Type 0} {Fits_c : C → Type 0} {Fits_d : D → Type 0} (make : A → B → C → D → E) (form : E → List ℕ) (Fits : E → Type 0)
    → Takes first form_a Fits_a → Takes second form_b Fits_b → Takes third form_c Fits_c → Takes fourth form_d Fits_d
    → ((a : A) (b : B) (c : C) (d : D) → form (make a b c d) ≡ form_a a ++ form_b b ++ form_c c ++ form_d d) → ((a : A) (b : B) (c : C) (d : D) → Fits_a a → Fits_b b → Fits_c c → Fits_d d → Fits (make a b c d))
    → Takes (four_fields first second third fourth make) form Fits
takes_four {first = first} {second = second} {third = third} {fourth = fourth} make form Fits p q r s forms fits = record {
  found = λ bytes value rest are is.
      let x = bind_ok (first bytes) (λ a. three_fields second third fourth (make a)) (value, rest) is in
      let one = p.found bytes x.0.0 x.0.1 are x.1 in
      let y = bind_ok (second x.0.1) (λ b. two_fields third fourth (make x.0.0 b)) (value, rest) x.2 in
      let two = q.found x.0.1 y.0.0 y.0.1 one.front.are y.1 in
      let z = bind_ok (third y.0.1) (λ c. one_field fourth (make x.0.0 y.0.0 c)) (value, rest) y.2 in
      let three = r.found y.0.1 z.0.0 z.0.1 two.front.are z.1 in
      let w = bind_ok (fourth z.0.1) (λ d. done (make x.0.0 y.0.0 z.0.0 d)) (value, rest) z.2 in
      let four = s.found z.0.1 w.0.0 w.0.1 three.front.are w.1 in
      found_is {a = make x.0.0 y.0.0 z.0.0 w.0.0} {after = w.0.1} value rest w.2 (record { front = rw (forms x.0.0 y.0.0 z.0.0 w.0.0) (front_then (front_then (front_then one.front two.front) three.front) four.front); fits = fits x.0.0 y.0.0 z.0.0 w.0.0 one.fits two.fits three.fits four.fits });
}

-- ---- tests

guarded : {A : Type 0} (b : Bool) (offence : FrameError) (x y : A × List ℕ) → (if b then taken x else Err offence) ≡ taken y → (b ≡ true) × (x ≡ y)
guarded true offence x y is = (refl, taken_is x y is)
guarded false offence x y is = absurd cc

pub judged_ok : {A : Type 0} (test : A → Bool) (offence : FrameError) (read : Taken A) (y : A × List ℕ) → judged test offence read ≡ Ok y → (read ≡ Ok y) × (test y.0 ≡ true)
judged_ok {A = A} test offence (Ok x) y is =
    let passed = guarded (test x.0) offence x y is in
    (ap (λ (z : A × List ℕ). taken z) passed.1, subst (λ (z : A × List ℕ). test z.0 ≡ true) passed.1 passed.0)
judged_ok test offence (Err earlier) y is = absurd cc

pub takes_allowed : {A : Type 0} {read : Reader A} {form : A → List ℕ} {Fits : A → Type 0} (size : ℕ) (test : A → Bool) → Takes read form Fits → Takes (allowed size test read) form (λ a. Fits a × (test a ≡ true))
takes_allowed {read = read} size test p = record {
  found = λ bytes value rest are is.
      let passed = judged_ok test (Field (size - length bytes)) (read bytes) (value, rest) is in
      let one = p.found bytes value rest are passed.0 in
      record { front = one.front; fits = (one.fits, passed.1) };
}

pub takes_limited : {read : Reader ℕ} {form : ℕ → List ℕ} {Fits : ℕ → Type 0} (limit : ℕ) → Takes read form Fits → Takes (limited limit read) form (λ n. Fits n × (n ≤ limit))
takes_limited {read = read} limit p = record {
  found = λ bytes value rest are is.
      let passed = judged_ok (λ n. nat_le n limit) (Over limit) (read bytes) (value, rest) is in
      let one = p.found bytes value rest are passed.0 in
      record { front = one.front; fits = (one.fits, leb-true value limit passed.1) };
}

-- ---- numbers

byte_found : (bytes : List ℕ) (value : ℕ) (rest : List ℕ) → IsBytes bytes → byte_at bytes ≡ Ok (value, rest) → Found (λ n. n ∷ []) (λ n. n < 256) bytes value rest
byte_found [] value rest are is = absurd cc
byte_found (byte ∷ behind) value rest are is = found_is value rest is (record { front = record { parts = refl; are = λ i. are (suc i) }; fits = are 0 })

pub takes_byte : Takes byte_at (λ n. n ∷ []) (λ n. n < 256)
takes_byte = record { found = byte_found }

whole_enough : {A : Type 0} (b : Bool) (offence : FrameError) (x y : A × List ℕ) → (if b then Err offence else taken x) ≡ taken y → (b ≡ false) × (x ≡ y)
whole_enough true offence x y is = absurd cc
whole_enough false offence x y is = (refl, taken_is x y is)

pub part_found : (count : ℕ) (bytes value rest : List ℕ) → IsBytes bytes → part_at count bytes ≡ Ok (value, rest) → Found (λ part. part) (λ part. length part ≡ count) bytes value rest
part_found count bytes value rest are is =
    let long = whole_enough (ltb (length bytes) count) Short (take count bytes, drop count bytes) (value, rest) is in
    let enough : count ≤ length bytes = ltb-false _ _ long.0 in
    let made : Found (λ part. part) (λ part. length part ≡ count) bytes (take count bytes) (drop count bytes) = record {
      front = record { parts = sym (take-append-drop count bytes); are = IsBytes-drop count bytes are };
      fits = omega (arith, length-take count bytes);
    } in
    subst (λ (x : List ℕ × List ℕ). Found (λ part. part) (λ part. length part ≡ count) bytes x.0 x.1) long.1 made

pub takes_part : (count : ℕ) → Takes (part_at count) (λ part. part) (λ part. length part ≡ count)
takes_part count = record { found = part_found count }

takes_number : (width : Width) (limit : ℕ) → ((bytes : List ℕ) → length bytes ≡ byte_len width → IsBytes bytes → (to_be_bytes width (from_be_bytes width bytes) ≡ bytes) × (from_be_bytes width bytes < limit))
    → Takes (number_at width) (to_be_bytes width) (λ n. n < limit)
unfolding number_at
takes_number width limit back = record {
  found = λ bytes value rest are is.
      let long = whole_enough (ltb (length bytes) (byte_len width)) Short (from_be_bytes width (take (byte_len width) bytes), drop (byte_len width) bytes) (value, rest) is in
      let enough : byte_len width ≤ length bytes = ltb-false _ _ long.0 in
      let front = back (take (byte_len width) bytes) (omega (arith, length-take (byte_len width) bytes)) (IsBytes-take (byte_len width) bytes are) in
      let made : Found (to_be_bytes width) (λ n. n < limit) bytes (from_be_bytes width (take (byte_len width) bytes)) (drop (byte_len width) bytes) = record {
        front = record { parts = rw front.0 (sym (take-append-drop (byte_len width) bytes)); are = IsBytes-drop (byte_len width) bytes are };
        fits = front.1;
      } in
      subst (λ (x : ℕ × List ℕ). Found (to_be_bytes width) (λ n. n < limit) bytes x.0 x.1) long.1 made;
}

pub takes_two_bytes : Takes (number_at w16) two (λ n. n < 2 ^ 16)
unfolding two
takes_two_bytes = takes_number w16 (2 ^ 16) (λ bytes len are. (be_bytes_2 bytes _ len are refl, omega (arith, are 0, are 1)))

pub takes_word : Takes (number_at w32) four IsWord
unfolding four
takes_word = takes_number w32 (2 ^ 32) (λ bytes len are. (be_bytes_4 bytes _ len are refl, omega (arith, are 0, are 1, are 2, are 3)))

takes_eight_bytes : Takes (number_at w64) eight (λ n. n < 2 ^ 64)
unfolding eight
takes_eight_bytes = takes_number w64 (2 ^ 64) (λ bytes len are. (be_bytes_8 bytes _ len are refl, omega (arith, are 0, are 1, are 2, are 3, are 4, are 5, are 6, are 7)))

pub takes_counted : (size : ℕ) → Takes (counted_at size) four IsCounted
unfolding counted_at
takes_counted size = takes_weaker (takes_allowed size (nat_le 1) takes_word) (λ n fits. record { least = leb-true 1 n fits.1; word = fits.0 })

pub takes_node : (size : ℕ) → Takes (node_at size) two IsNode
unfolding node_at
takes_node size = takes_weaker (takes_allowed size (λ node. nat_le node MAX_NODE) takes_two_bytes) (λ n fits. leb-true n MAX_NODE fits.1)

pub takes_addressee : (size : ℕ) → Takes (addressee_at size) two (λ n. n ≤ BOARD)
unfolding addressee_at
takes_addressee size = takes_weaker (takes_allowed size (λ node. nat_le node BOARD) takes_two_bytes) (λ n fits. leb-true n BOARD fits.1)

pub takes_time : (size : ℕ) → Takes (time_at size) eight (λ n. n < TIME_LIMIT)
unfolding time_at
takes_time size = takes_weaker (takes_allowed size (λ time. nat_lt time TIME_LIMIT) takes_eight_bytes) (λ n fits. ltb-true n TIME_LIMIT fits.1)

-- ---- behind what was read

-- what the reader takes, with the text before it, is found
pub record Behind {A : Type 0} (text : List ℕ) (read : Reader A) (form : A → List ℕ) (Fits : A → Type 0) : Type 0 where
  pub found : (bytes : List ℕ) (value : A) (rest : List ℕ) → IsBytes bytes → read bytes ≡ Ok (value, rest) → Found form Fits (text ++ bytes) value rest

pub behind_none : {A : Type 0} {read : Reader A} {form : A → List ℕ} {Fits : A → Type 0} → Behind [] read form Fits → Takes read form Fits
behind_none p = record { found = p.found }

pub behind_done : {A : Type 0} {text : List ℕ} {form : A → List ℕ} {Fits : A → Type 0} (made : A) → form made ≡ text → Fits made → Behind text (done made) form Fits
behind_done {text = text} {form = form} made is_form fits = record {
  found = λ bytes value rest are is. found_is value rest is (record { front = record { parts = ap (λ (t : List ℕ). t ++ bytes) (sym is_form); are = are }; fits = fits });
}

-- the text and the front of what stands behind it
with_text : (text bytes x rest : List ℕ) → Parted bytes x rest → Parted (text ++ bytes) (text ++ x) rest
with_text text bytes x rest front = record { parts = ap (λ (t : List ℕ). text ++ t) front.parts ∙ sym (append_assoc text x rest); are = front.are }

pub behind_same : {A : Type 0} {text : List ℕ} {read : Reader A} {form_a form : A → List ℕ} {Fits_a Fits : A → Type 0} → Takes read form_a Fits_a
    → ((a : A) → Fits_a a → form a ≡ text ++ form_a a) → ((a : A) → Fits_a a → Fits a) → Behind text read form Fits
behind_same {text = text} {form_a = form_a} p forms fits = record {
  found = λ bytes value rest are is.
      let one = p.found bytes value rest are is in
      record { front = rw (forms value one.fits) (with_text text bytes (form_a value) rest one.front); fits = fits value one.fits };
}

pub behind_one : {A B : Type 0} {text : List ℕ} {first : Reader A} {form_a : A → List ℕ} {Fits_a : A → Type 0} (make : A → B) (form : B → List ℕ) (Fits : B → Type 0)
    → Takes first form_a Fits_a → ((a : A) → Fits_a a → form (make a) ≡ text ++ form_a a) → ((a : A) → Fits_a a → Fits (make a)) → Behind text (one_field first make) form Fits
behind_one {text = text} {first = first} {form_a = form_a} make form Fits p forms fits = record {
  found = λ bytes value rest are is.
      let x = bind_ok (first bytes) (λ a. done (make a)) (value, rest) is in
      let one = p.found bytes x.0.0 x.0.1 are x.1 in
      found_is value rest x.2 (record { front = rw (forms x.0.0 one.fits) (with_text text bytes (form_a x.0.0) x.0.1 one.front); fits = fits x.0.0 one.fits });
}

pub behind_then : {A B : Type 0} {text : List ℕ} {first : Reader A} {form_a : A → List ℕ} {Fits_a : A → Type 0} (next : A → Reader B) (form : B → List ℕ) (Fits : B → Type 0)
    → Takes first form_a Fits_a → ((a : A) → Fits_a a → Behind (text ++ form_a a) (next a) form Fits) → Behind text (first >>= next) form Fits
behind_then {text = text} {first = first} {form_a = form_a} next form Fits p q = record {
  found = λ bytes value rest are is.
      let x = bind_ok (first bytes) next (value, rest) is in
      let one = p.found bytes x.0.0 x.0.1 are x.1 in
      let two = (q x.0.0 one.fits).found x.0.1 value rest one.front.are x.2 in
      let whole : text ++ bytes ≡ (text ++ form_a x.0.0) ++ x.0.1 = (with_text text bytes (form_a x.0.0) x.0.1 one.front).parts in
      subst (λ (t : List ℕ). Found form Fits t value rest) (sym whole) two;
}
