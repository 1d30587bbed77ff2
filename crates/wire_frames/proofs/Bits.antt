-- The bits of marks: their words in the bytes, and the test of where they end.
use Rattle.std.proofs.Common.{◌≡◌, ℕ, suc, ◌-◌, ◌+◌, ◌<◌, ◌^◌, Bool, true, false, List, [], ◌∷◌, ◌++◌, take, drop, min, refl, sym, ◌∙◌, append_assoc, arith}
use Rattle.std.specs.Prelude.{nat_lt, ◌&&◌, ◌↔◌, IsTrue}
use Rattle.std.specs.Int.{w64, from_le_bytes}
use Rattle.std.proofs.lemmas.Bool.{ltb-true}
use Rattle.lazy_msgs.specs.FrameLimits.{EndAt}
use Rattle.wire_frames.specs.Readers.{words_in, end_at}
use Rattle.wire_frames.proofs.AgainFields.{end_at_true}

pub one_more_word : (words : List ℕ) (count i : ℕ) (bytes total : List ℕ) → i < count → words ++ words_in (count - i) bytes ≡ total
    → (words ++ from_le_bytes w64 (take 8 bytes) ∷ []) ++ words_in (count - (i + 1)) (drop 8 bytes) ≡ total
one_more_word words count i bytes total below so_far =
    let k : count - i ≡ suc (count - (i + 1)) = omega arith in
    let one : words ++ words_in (suc (count - (i + 1))) bytes ≡ total = rw k at so_far in
    append_assoc words (from_le_bytes w64 (take 8 bytes) ∷ []) (words_in (count - (i + 1)) (drop 8 bytes)) ∙ one

pub both_true : (a b : Bool) → (a && b) ≡ true → (a ≡ true) × (b ≡ true)
both_true true b same = (refl, same)
both_true false b same = absurd cc

pub end_at_ends : (top : ℕ) (words : List ℕ) → end_at top words ≡ true → EndAt top words
end_at_ends top [] same = tt
end_at_ends top (word ∷ words) same =
    let parts = both_true (nat_lt word (2 ^ min 64 top)) (end_at (top - 64) words) same in
    (ltb-true word (2 ^ min 64 top) parts.0, end_at_ends (top - 64) words parts.1)

same_test : (a b : Bool) → (a ≡ true → b ≡ true) → (b ≡ true → a ≡ true) → a ≡ b
same_test true b to back = sym (to refl)
same_test false true to back = back refl
same_test false false to back = refl

pub end_at_is : (test : Bool) (top : ℕ) (words : List ℕ) → (IsTrue test ↔ EndAt top words) → test ≡ end_at top words
end_at_is test top words is = same_test test (end_at top words) (λ holds. end_at_true top words (is.0 holds)) (λ holds. is.1 (end_at_ends top words holds))
