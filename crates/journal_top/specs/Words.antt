use Rattle.std.specs.Prelude.{◌≡◌, ◌≢◌, ◌<◌, ◌≤◌, ℕ, List, [], ◌∷◌, Some, slice_get, codes, decimal}
use Rattle.view_config.specs.declared.edition.Mode.{Mode}
use Rattle.view_config.specs.declared.edition.Mode.TheVariants.{M, St}
use Rattle.view_config.specs.declared.limits.TheConstants.{MAX_SHARDS}
use Rattle.journal_top.specs.declared.words.Shard.{Shard}

-- the word of a mode
abbrev pub mode_word : Mode → List ℕ
mode_word M = codes "m"
mode_word St = codes "st"

-- a word that is none of these
abbrev pub IsNoMode : List ℕ → Type 0
IsNoMode word = (mode : Mode) → word ≢ mode_word mode

-- its numbers are within their limits
pub record IsShard (shard : Shard) : Type 0 where
  pub number_is : shard.number < shard.shards
  pub shards_are : shard.shards ≤ MAX_SHARDS

-- the words by which the program is asked for the journal of a shard
abbrev pub words_of : Shard → List (List ℕ)
words_of shard = codes "journal" ∷ mode_word shard.mode ∷ decimal shard.number ∷ decimal shard.shards ∷ []

pub record AskFor (words : List (List ℕ)) (shard : Shard) : Type 0 where
  pub words_are : words ≡ words_of shard
  pub within : IsShard shard

-- the words ask for some journal
pub record IsAsked (words : List (List ℕ)) : Type 0 where
  pub shard : Shard
  pub asked : AskFor words shard

-- the words behind the first name this shard
pub record NameShard (words : List (List ℕ)) (shard : Shard) : Type 0 where
  pub mode : slice_get words 1 ≡ Some (mode_word shard.mode)
  pub number : slice_get words 2 ≡ Some (decimal shard.number)
  pub shards : slice_get words 3 ≡ Some (decimal shard.shards)
  pub within : IsShard shard

-- what faulty words are answered by
abbrev pub usage_text : List ℕ
usage_text = codes "usage"
