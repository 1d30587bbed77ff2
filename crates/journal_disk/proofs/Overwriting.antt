-- Bytes that are written over the front of a buffer.
use Rattle.std.proofs.Common.{◌≡◌, ℕ, zero, suc, ◌+◌, ◌-◌, ◌≤◌, max, List, [], ◌∷◌, ◌++◌, length, take, drop, refl, sym, ap, ◌∙◌, arith, append_assoc, length-append}
use Rattle.std.proofs.lemmas.List.{append-nil, take-take, take_at, drop_all, drop-drop, length-take, length-drop}
use Rattle.std.proofs.lemmas.Slice.{between_is}
use Rattle.journal_disk.specs.Disk.{with_bytes}

take_over : (xs ys : List ℕ) (n : ℕ) → length xs ≤ n → take n (xs ++ ys) ≡ xs ++ take (n - length xs) ys
take_over [] ys n le = let same : n - 0 ≡ n = omega arith in rw same refl
take_over (x ∷ xs) ys zero le = absurd (omega arith)
take_over (x ∷ xs) ys (suc n) le =
    let same : suc n - suc (length xs) ≡ n - length xs = omega arith in
    rw same (ap (λ (l : List ℕ). x ∷ l) (take_over xs ys n (omega arith)))

-- the file with the bytes over it
over : (items bytes : List ℕ) (at len : ℕ) → at ≤ len → len ≤ length items → at + length bytes ≤ length items
    → take (max len (at + length bytes)) (take at items ++ bytes ++ drop (at + length bytes) items) ≡ with_bytes (take len items) at bytes
over items bytes at len begins within ends =
    let size : length (take at items ++ bytes) ≡ at + length bytes = omega (arith, length-append (take at items) bytes, length-take at items) in
    let long = take_over (take at items ++ bytes) (drop (at + length bytes) items) (max len (at + length bytes)) (omega (arith, size)) in
    let rest : max len (at + length bytes) - length (take at items ++ bytes) ≡ len - (at + length bytes) = omega (arith, size) in
    let behind : take (len - (at + length bytes)) (drop (at + length bytes) items) ≡ drop (at + length bytes) (take len items) = between_is items (at + length bytes) len in
    let front : take at (take len items) ≡ take at items = take-take at len items begins in
    long ∙ ap (λ n. take at items ++ bytes ++ take n (drop (at + length bytes) items)) rest
    ∙ ap (λ (l : List ℕ). take at items ++ bytes ++ l) behind
    ∙ ap (λ (l : List ℕ). l ++ bytes ++ drop (at + length bytes) (take len items)) (sym front)

pub overwritten : (items read bytes now : List ℕ) (count at len most k : ℕ) → read ≡ items → count ≡ length items → now ≡ bytes → k ≡ length bytes → most ≡ max len (at + length bytes) → at ≤ len → len ≤ length items → at + length bytes ≤ length items
    → take most (take count (take at read ++ (now ++ drop k (drop at read)) ++ drop (length (take at read ++ (now ++ drop k (drop at read)))) items)) ≡ with_bytes (take len items) at bytes
overwritten items read bytes now count at len most k read_is count_is now_is k_is most_is begins within ends =
    rw (read_is, now_is, k_is, most_is, count_is)
    (let parts : take at items ++ (bytes ++ drop (length bytes) (drop at items)) ≡ take at items ++ bytes ++ drop (at + length bytes) items =
    sym (append_assoc (take at items) bytes (drop (length bytes) (drop at items))) ∙ ap (λ (l : List ℕ). take at items ++ bytes ++ l) (drop-drop (length bytes) at items) in
    let size : length (take at items ++ bytes ++ drop (at + length bytes) items) ≡ length items =
    omega (arith, length-append (take at items ++ bytes) (drop (at + length bytes) items), length-append (take at items) bytes, length-take at items, length-drop (at + length bytes) items) in
    let none : drop (length (take at items ++ bytes ++ drop (at + length bytes) items)) items ≡ [] = drop_all _ items (omega (arith, size)) in
    let whole : take (length items) (take at items ++ bytes ++ drop (at + length bytes) items ++ []) ≡ take at items ++ bytes ++ drop (at + length bytes) items = take_at _ [] (length items) size in
    let all : take (length items) (take at items ++ (bytes ++ drop (length bytes) (drop at items)) ++ drop (length (take at items ++ (bytes ++ drop (length bytes) (drop at items)))) items) ≡ take at items ++ bytes ++ drop (at + length bytes) items = rw (parts, none) whole in
    ap (take (max len (at + length bytes))) all ∙ over items bytes at len begins within ends)
