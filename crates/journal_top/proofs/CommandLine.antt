-- The words of the command line.
use Rattle.std.proofs.Common.{◌≡◌, refl, ℕ, ◌<◌, ◌^◌, List, [], ◌∷◌, Option, Some, None, IfSome, IfNone, length, slice_get, codes, decimal, arith, sym, ap, ◌∙◌}
use Rattle.std.proofs.lemmas.Fmt.{decimal_injective}
use Rattle.view_config.specs.declared.edition.Mode.{Mode}
use Rattle.view_config.specs.declared.edition.Mode.TheVariants.{M, St}
use Rattle.journal_top.specs.declared.words.Shard.{Shard}
use Rattle.journal_top.specs.Words.{AskFor, IsAsked, IsShard, NameShard, mode_word, words_of}

-- one number at a place
one_number : (a b : ℕ) → a < 2 ^ 32 → b < 2 ^ 32 → Some (decimal a) ≡ Some (decimal b) → a ≡ b
one_number a b a_small b_small e =
    let same : decimal a ≡ decimal b = cc in
    decimal_injective a b (omega arith) (omega arith) same

-- a word names one mode
one_mode : (m n : Mode) → Some (mode_word m) ≡ Some (mode_word n) → m ≡ n
one_mode M M is = refl
one_mode St St is = refl
one_mode M St is = cc
one_mode St M is = cc

-- the numbers of a shard are below 2 ^ 32
number_small : (shard : Shard) → IsShard shard → shard.number < 2 ^ 32
number_small shard ok = omega (arith, ok.number_is, ok.shards_are)

shards_small : (shard : Shard) → IsShard shard → shard.shards < 2 ^ 32
shards_small shard ok = omega (arith, ok.shards_are)

-- words that have the numbers of a shard, and name one, have numbers within the limits
pub within : (words : List (List ℕ)) (read shard : Shard) → slice_get words 2 ≡ Some (decimal read.number) → slice_get words 3 ≡ Some (decimal read.shards) → read.number < 2 ^ 32 → read.shards < 2 ^ 32 → NameShard words shard → IsShard read
within words read shard number_at shards_at number_is shards_is named =
    let ok = named.within in
    let number : shard.number ≡ read.number = one_number shard.number read.number (number_small shard ok) number_is (sym named.number ∙ number_at) in
    let shards : shard.shards ≡ read.shards = one_number shard.shards read.shards (shards_small shard ok) shards_is (sym named.shards ∙ shards_at) in
    record {
      number_is = omega (arith, ok.number_is, number, shards);
      shards_are = omega (arith, ok.shards_are, shards);
    }

pub named_none : (words : List (List ℕ)) (read : Shard) (made : Option Shard) → slice_get words 2 ≡ Some (decimal read.number) → slice_get words 3 ≡ Some (decimal read.shards) → read.number < 2 ^ 32 → read.shards < 2 ^ 32 → IfNone made (¬ IsShard read) → IfNone made ((shard : Shard) → ¬ NameShard words shard)
named_none words read None number_at shards_at number_is shards_is bad = λ shard named. bad (within words read shard number_at shards_at number_is shards_is named)
named_none words read (Some shard) number_at shards_at number_is shards_is bad = tt

-- words name one shard
one_shard : (words : List (List ℕ)) (a b : Shard) → NameShard words a → NameShard words b → a ≡ b
one_shard words a b p q =
    let number : a.number ≡ b.number = one_number a.number b.number (number_small a p.within) (number_small b q.within) (sym p.number ∙ q.number) in
    let shards : a.shards ≡ b.shards = one_number a.shards b.shards (shards_small a p.within) (shards_small b q.within) (sym p.shards ∙ q.shards) in
    let mode : a.mode ≡ b.mode = one_mode a.mode b.mode (sym p.mode ∙ q.mode) in
    ap (λ (x : Mode). let made : Shard = record { mode = x; number = a.number; shards = a.shards } in made) mode
    ∙ ap (λ (x : ℕ). let made : Shard = record { mode = b.mode; number = x; shards = a.shards } in made) number
    ∙ ap (λ (x : ℕ). let made : Shard = record { mode = b.mode; number = b.number; shards = x } in made) shards

-- four words, `journal` and those of a shard
said_journal : (words : List (List ℕ)) (shard : Shard) → length words ≡ 4 → slice_get words 0 ≡ Some (codes "journal") → NameShard words shard → words ≡ words_of shard
said_journal [] shard count first r = absurd (omega (arith, count))
said_journal (a ∷ []) shard count first r = absurd (omega (arith, count))
said_journal (a ∷ b ∷ []) shard count first r = absurd (omega (arith, count))
said_journal (a ∷ b ∷ c ∷ []) shard count first r = absurd (omega (arith, count))
said_journal (a ∷ b ∷ c ∷ d ∷ []) shard count first r = cc (first, r.mode, r.number, r.shards)
said_journal (a ∷ b ∷ c ∷ d ∷ e ∷ more) shard count first r = absurd (omega (arith, count))

pub asked_for : (words : List (List ℕ)) (shard : Shard) → length words ≡ 4 → slice_get words 0 ≡ Some (codes "journal") → NameShard words shard → AskFor words shard
asked_for words shard count first r = record { words_are = said_journal words shard count first r; within = r.within }

pub asked_some : (words : List (List ℕ)) (named : Option Shard) → length words ≡ 4 → slice_get words 0 ≡ Some (codes "journal") → IfSome named (NameShard words) → IfSome named (AskFor words)
asked_some words None count first names = tt
asked_some words (Some shard) count first names = asked_for words shard count first names

-- what words say that ask for a journal
pub asked_names : (words : List (List ℕ)) (shard : Shard) → AskFor words shard → NameShard words shard
asked_names words shard asked = record {
  mode = ap (λ (ws : List (List ℕ)). slice_get ws 1) asked.words_are;
  number = ap (λ (ws : List (List ℕ)). slice_get ws 2) asked.words_are;
  shards = ap (λ (ws : List (List ℕ)). slice_get ws 3) asked.words_are;
  within = asked.within;
}

pub asked_count : (words : List (List ℕ)) → IsAsked words → length words ≡ 4
asked_count words asked = ap (λ (ws : List (List ℕ)). length ws) asked.asked.words_are

pub asked_first : (words : List (List ℕ)) → IsAsked words → slice_get words 0 ≡ Some (codes "journal")
asked_first words asked = ap (λ (ws : List (List ℕ)). slice_get ws 0) asked.asked.words_are

-- words ask for one journal
pub one_asked : (words : List (List ℕ)) (a b : Shard) → AskFor words a → AskFor words b → a ≡ b
one_asked words a b p q = one_shard words a b (asked_names words a p) (asked_names words b q)
