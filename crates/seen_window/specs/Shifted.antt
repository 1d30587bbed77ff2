use Rattle.std.specs.Prelude.{ℕ, ◌*◌, ◌/◌, ◌%◌, ◌^◌, ◌-◌, List, [], ◌∷◌, bit_or}

-- each word moved up by less than its length, with what the word before it lost, and at first with `carried`
abbrev pub shifted : ℕ → ℕ → List ℕ → List ℕ
shifted by carried [] = []
shifted by carried (word ∷ words) = bit_or (word * 2 ^ by % 2 ^ 64) carried ∷ shifted by (word / 2 ^ (64 - by)) words
