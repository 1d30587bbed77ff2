-- A slice of a slice is a slice of the whole.
use Rattle.std.proofs.Common.{◌≡◌, ℕ, ◌+◌, ◌-◌, ◌≤◌, List, length, min, take, drop, ◌∙◌, ap, refl, subst, arith}
use Rattle.std.proofs.lemmas.List.{drop-drop, drop-take, length-drop, length-take, take-take}

inner_slice : (start end at len : ℕ) (xs : List ℕ) → start + at + len ≤ end → drop (start + at) (take (start + at + len) xs) ≡ take len (drop at (drop start (take end xs)))
inner_slice start end at len xs within =
    let rest : start + at + (end - (start + at)) ≡ end = omega arith in
    let short : len ≤ end - (start + at) = omega arith in
    let split : drop (start + at) (take (start + at + (end - (start + at))) xs) ≡ take (end - (start + at)) (drop (start + at) xs) = drop-take (start + at) (end - (start + at)) xs in
    let whole : drop (start + at) (take end xs) ≡ take (end - (start + at)) (drop (start + at) xs) = rw rest at split in
    let twice : drop at (drop start (take end xs)) ≡ take (end - (start + at)) (drop (start + at) xs) = drop-drop at start (take end xs) ∙ whole in
    let front : drop (start + at) (take (start + at + len) xs) ≡ take len (drop (start + at) xs) = drop-take (start + at) len xs in
    rw (twice, front, take-take len (end - (start + at)) (drop (start + at) xs) short) refl

pub slice_of : (start end at len : ℕ) (xs slice : List ℕ) → drop start (take end xs) ≡ slice → start ≤ end → end ≤ length xs → at + len ≤ length slice → drop (start + at) (take (start + at + len) xs) ≡ take len (drop at slice)
slice_of start end at len xs slice is ordered within fits =
    let size : length (drop start (take end xs)) ≡ min end (length xs) - start = rw (length-drop start (take end xs), length-take end xs) refl in
    let same : length (drop start (take end xs)) ≡ length slice = ap (λ (p : List ℕ). length p) is in
    let least : min end (length xs) ≡ end = omega arith in
    let room : start + at + len ≤ end = omega arith in
    subst (λ (p : List ℕ). drop (start + at) (take (start + at + len) xs) ≡ take len (drop at p)) is (inner_slice start end at len xs room)
