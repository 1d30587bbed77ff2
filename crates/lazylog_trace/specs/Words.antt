use Rattle.std.specs.Prelude.{◌≡◌, ◌≢◌, ◌<◌, ◌^◌, ℕ, List, [], ◌∷◌, Some, slice_get, codes, decimal}
use Rattle.view_config.specs.declared.edition.Edition.{Edition}
use Rattle.view_config.specs.declared.edition.Edition.TheVariants.{One, Two}
use Rattle.view_config.specs.declared.edition.Mode.{Mode}
use Rattle.view_config.specs.declared.edition.Mode.TheVariants.{M, St}
use Rattle.view_config.specs.Shape.{Dimensions, IsShape}
use Rattle.lazylog_trace.specs.declared.words.Task.{Task}
use Rattle.lazylog_trace.specs.declared.words.Task.TheVariants.{Load, Recode, Trace}

-- the word of an edition and a mode
abbrev pub mode_word : Edition → Mode → List ℕ
mode_word One M = codes "m"
mode_word One St = codes "st"
mode_word Two M = codes "m2"
mode_word Two St = codes "st2"

-- a word that is none of these
abbrev pub IsNoMode : List ℕ → Type 0
IsNoMode word = (edition : Edition) (mode : Mode) → word ≢ mode_word edition mode

-- the words that name a shape, and more behind them
abbrev pub shape_words : Dimensions → List (List ℕ) → List (List ℕ)
shape_words shape more =
    mode_word shape.edition shape.mode ∷ decimal shape.seq ∷ decimal shape.spares ∷ decimal shape.shards
    ∷ decimal shape.copies ∷ decimal shape.clients ∷ more

-- the words by which the program is asked to do something
abbrev pub words_of : Task → List (List ℕ)
words_of (Trace shape) = codes "trace" ∷ shape_words shape []
words_of (Load shape seed) = codes "load" ∷ shape_words shape (decimal seed ∷ [])
words_of Recode = codes "recode" ∷ []

-- its numbers are within their limits
abbrev pub IsTask : Task → Type 0
IsTask (Trace shape) = IsShape shape
IsTask (Load shape seed) = IsShape shape × (seed < 2 ^ 32)
IsTask Recode = Unit {0}

-- the words ask for this
pub record AskFor (words : List (List ℕ)) (task : Task) : Type 0 where
  pub words_are : words ≡ words_of task
  pub within : IsTask task

-- the words ask for something
pub record IsAsked (words : List (List ℕ)) : Type 0 where
  pub task : Task
  pub asked : AskFor words task

-- the words behind the first name this shape
pub record NameShape (words : List (List ℕ)) (shape : Dimensions) : Type 0 where
  pub mode : slice_get words 1 ≡ Some (mode_word shape.edition shape.mode)
  pub seq : slice_get words 2 ≡ Some (decimal shape.seq)
  pub spares : slice_get words 3 ≡ Some (decimal shape.spares)
  pub shards : slice_get words 4 ≡ Some (decimal shape.shards)
  pub copies : slice_get words 5 ≡ Some (decimal shape.copies)
  pub clients : slice_get words 6 ≡ Some (decimal shape.clients)
  pub within : IsShape shape

-- what faulty words are answered by
abbrev pub usage_text : List ℕ
usage_text = codes "usage"
