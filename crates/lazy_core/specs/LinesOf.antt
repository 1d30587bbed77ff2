use Rattle.std.specs.Prelude.{◌≡◌, ℕ, List, [], map, true, None, Some, Option, Result, Ok, Err, IfOk}
use Rattle.rec_id.specs.declared.entry.Entry.{Entry}
use Rattle.rec_id.specs.Lawful.{Lawful}
use Rattle.lazy_rules.specs.Holders.{holders}
use Rattle.lazy_rules.specs.Lines.{first_stores, line_told, lost_shard, store_numbered}
use Rattle.lazy_rules.specs.Rows.{has_node}
use Rattle.lazy_rules.specs.Store.{Store}
use Rattle.lazy_rules.specs.WorldState.{WorldState}
use Rattle.lazy_core.specs.declared.line.LineError.{LineError}
use Rattle.lazy_core.specs.declared.line.LineError.TheVariants.{Lost}
use Rattle.lazy_core.specs.Reached.{IsReached}

-- the stores of these replicas
abbrev pub stores_at : WorldState → List ℕ → List (Option Store)
stores_at w replicas = map (store_numbered w) replicas

-- these are the first replicas of all shards, none of which is lost
pub record AreFirst (w : WorldState) (replicas : List ℕ) : Type 0 where
  pub stores : first_stores w ≡ stores_at w replicas
  pub kept : lost_shard w ≡ None

-- the first replicas of all shards, or the first shard that has none
pub record FindsFirst (w : WorldState) (outcome : Result (List ℕ) LineError) : Type 0 where
  pub found : IfOk outcome (AreFirst w)
  pub lost : (shard : ℕ) → outcome ≡ Err (Lost shard) → lost_shard w ≡ Some shard

-- this is the line of a holder, or the first shard that has no replica left
pub record TellsLine (w : WorldState) (holder : ℕ) (outcome : Result (List Entry) LineError) : Type 0 where
  pub told : IfOk outcome (λ line. line_told w holder ≡ Ok line)
  pub lost : (shard : ℕ) → outcome ≡ Err (Lost shard) → line_told w holder ≡ Err shard

-- the line of a holder is lawful for what the clients did and were told
abbrev pub IsLawfulLine : WorldState → ℕ → Result (List Entry) LineError → Type 0
IsLawfulLine w holder outcome = has_node (holders w) holder ≡ true → IfOk outcome (λ line. Lawful w.history line)

-- a world without what was sent and told
abbrev pub bare : WorldState → WorldState
bare w = record w { times = []; sent = []; history = []; events = 0 }

-- the same of each world that events lead to and that stands so
abbrev pub IsLawfulWhere : WorldState → ℕ → Result (List Entry) LineError → Type 0
IsLawfulWhere standing holder outcome = (w : WorldState) → IsReached w → bare w ≡ standing → IsLawfulLine w holder outcome
