use Rattle.std.specs.Prelude.{ℕ, ◌+◌, ◌*◌, ◌≤◌, List, length, sum_by}
use Rattle.lazy_msgs.specs.declared.diary.DiaryEntry.{DiaryEntry}
use Rattle.lazy_msgs.specs.declared.input.Input.{Input}
use Rattle.lazy_msgs.specs.declared.input.Input.TheVariants.{Take, Post, Peek}
use Rattle.lazy_msgs.specs.Weight.{capped, sends_weight, weight_of}
use Rattle.diary_merge.specs.declared.limits.TheConstants.{DIARY_WEIGHT_LIMIT, ENTRIES_LIMIT, IDENTITY_WEIGHT}

-- How much a diary weighs, and how much it may.

-- a receipt weighs what its message does, a post its bytes, and a peek the identities that it found
abbrev pub input_weight : Input → ℕ
input_weight (Take envelope) = weight_of envelope.msg
input_weight (Post bytes) = length bytes
input_weight (Peek stable time replica from ids) = capped (IDENTITY_WEIGHT * length ids)
input_weight _ = 0

-- an entry weighs what its input and its sends do
abbrev pub entry_weight : DiaryEntry → ℕ
entry_weight entry = input_weight entry.input + sends_weight entry.sends

abbrev pub diary_weight : List DiaryEntry → ℕ
diary_weight entries = sum_by entry_weight entries

-- the entries of a diary are within its limits
pub record IsWithinLimits (entries : List DiaryEntry) : Type 0 where
  pub in_number : length entries ≤ ENTRIES_LIMIT
  pub in_weight : diary_weight entries ≤ DIARY_WEIGHT_LIMIT
