use Rattle.std.specs.Prelude.{ℕ, ◌+◌, ◌-◌, ◌^◌, ◌<◌, min, max}

-- A count is kept in 64 bits, and stays at its last value.
abbrev pub last_count : ℕ
last_count = 2 ^ 64 - 1

-- the count after one more
abbrev pub raised : ℕ → ℕ
raised count = max count (min (count + 1) last_count)

-- the count rose, unless it stood at its last value
abbrev pub Rose : ℕ → ℕ → Type 0
Rose before after = before < last_count → before < after
