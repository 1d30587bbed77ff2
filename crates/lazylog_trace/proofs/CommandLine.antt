-- The words of the command line.
use Rattle.std.proofs.Common.{◌≡◌, ◌≢◌, refl, ℕ, ◌<◌, ◌^◌, List, [], ◌∷◌, Option, Some, None, IsSome, IfSome, IfNone, ◌↔◌, rules, length, slice_get, codes, decimal, arith, sym, ap, ◌∙◌}
use Rattle.std.proofs.lemmas.Fmt.{decimal_injective}
use Rattle.view_config.specs.Shape.{Dimensions, IsShape}
use Rattle.view_config.specs.declared.edition.Edition.{Edition}
use Rattle.view_config.specs.declared.edition.Edition.TheVariants.{One, Two}
use Rattle.view_config.specs.declared.edition.Mode.{Mode}
use Rattle.view_config.specs.declared.edition.Mode.TheVariants.{M, St}
use Rattle.lazylog_trace.specs.declared.words.Task.{Task}
use Rattle.lazylog_trace.specs.declared.words.Task.TheVariants.{Load, Recode, Trace}
use Rattle.lazylog_trace.specs.Words.{words_of, shape_words, mode_word, AskFor, IsNoMode, NameShape}

-- these words name these numbers, and a mode
pub record HaveNumbers (words : List (List ℕ)) (shape : Dimensions) : Type 0 where
  pub mode : slice_get words 1 ≡ Some (mode_word shape.edition shape.mode)
  pub seq : slice_get words 2 ≡ Some (decimal shape.seq)
  pub spares : slice_get words 3 ≡ Some (decimal shape.spares)
  pub shards : slice_get words 4 ≡ Some (decimal shape.shards)
  pub copies : slice_get words 5 ≡ Some (decimal shape.copies)
  pub clients : slice_get words 6 ≡ Some (decimal shape.clients)

names : (words : List (List ℕ)) (shape : Dimensions) → HaveNumbers words shape → IsShape shape → NameShape words shape
names words shape r within = record {
  mode = r.mode;
  seq = r.seq;
  spares = r.spares;
  shards = r.shards;
  copies = r.copies;
  clients = r.clients;
  within = within;
}

-- one number at a place
one_number : (a b : ℕ) → a < 2 ^ 32 → b < 2 ^ 32 → Some (decimal a) ≡ Some (decimal b) → a ≡ b
one_number a b a_small b_small e =
    let same : decimal a ≡ decimal b = cc in
    decimal_injective a b (omega arith) (omega arith) same

-- the numbers are below 2 ^ 32
pub record AreWords (shape : Dimensions) : Type 0 where
  pub seq : shape.seq < 2 ^ 32
  pub spares : shape.spares < 2 ^ 32
  pub shards : shape.shards < 2 ^ 32
  pub copies : shape.copies < 2 ^ 32
  pub clients : shape.clients < 2 ^ 32

pub within : (words : List (List ℕ)) (read shape : Dimensions) → HaveNumbers words read → AreWords read → NameShape words shape → IsShape read
within words read shape r w named =
    let ok = named.within in
    let seq : shape.seq ≡ read.seq = one_number _ _ (omega arith) w.seq (sym named.seq ∙ r.seq) in
    let spares : shape.spares ≡ read.spares = one_number _ _ (omega arith) w.spares (sym named.spares ∙ r.spares) in
    let shards : shape.shards ≡ read.shards = one_number _ _ (omega arith) w.shards (sym named.shards ∙ r.shards) in
    let copies : shape.copies ≡ read.copies = one_number _ _ (omega arith) w.copies (sym named.copies ∙ r.copies) in
    let clients : shape.clients ≡ read.clients = one_number _ _ (omega arith) w.clients (sym named.clients ∙ r.clients) in
    record {
      seq_least = omega arith;
      seq_most = omega arith;
      shards_least = omega arith;
      shards_most = omega arith;
      copies_least = omega arith;
      copies_most = omega arith;
      clients_least = omega arith;
      clients_most = omega arith;
    }

pub named_some : (words : List (List ℕ)) (read : Dimensions) (made : Option Dimensions) → HaveNumbers words read → IfSome made (λ shape. shape ≡ read) → (IsSome made ↔ IsShape read) → IfSome made (NameShape words)
named_some words read None r is valid = search rules
named_some words read (Some shape) r is valid = rw is (names words read r (valid.0 (search rules)))

pub named_none : (words : List (List ℕ)) (read : Dimensions) (made : Option Dimensions) → HaveNumbers words read → AreWords read → (IsSome made ↔ IsShape read) → IfNone made ((shape : Dimensions) → ¬ NameShape words shape)
named_none words read None r small valid = λ shape named. let there = valid.1 (within words read shape r small named) in cc
named_none words read (Some shape) r small valid = search rules

st_or_m2 : Some (mode_word One St) ≡ Some (mode_word Two M) → (Two ≡ One) × (M ≡ St)
st_or_m2 is = (cc, cc)

-- a word names one edition and mode
one_mode : (e f : Edition) (m n : Mode) → Some (mode_word e m) ≡ Some (mode_word f n) → (e ≡ f) × (m ≡ n)
one_mode One One M M is = (refl, refl)
one_mode One One St St is = (refl, refl)
one_mode Two Two M M is = (refl, refl)
one_mode Two Two St St is = (refl, refl)
one_mode One One M St is = (cc, cc)
one_mode One One St M is = (cc, cc)
one_mode Two Two M St is = (cc, cc)
one_mode Two Two St M is = (cc, cc)
one_mode One Two M M is = (cc, cc)
one_mode One Two M St is = (cc, cc)
one_mode One Two St M is = (cc, cc)
one_mode One Two St St is = (cc, cc)
one_mode Two One M M is = (cc, cc)
one_mode Two One M St is = st_or_m2 (sym is)
one_mode Two One St M is = (cc, cc)
one_mode Two One St St is = (cc, cc)

-- the word is none of the four
pub no_mode : (word : List ℕ) → word ≢ codes "m" → word ≢ codes "st" → word ≢ codes "m2" → word ≢ codes "st2" → IsNoMode word
no_mode word a b c d One M = a
no_mode word a b c d One St = b
no_mode word a b c d Two M = c
no_mode word a b c d Two St = d

-- words name one shape
one_shape : (words : List (List ℕ)) (a b : Dimensions) → NameShape words a → NameShape words b → a ≡ b
one_shape words a b p q =
    let a_within = p.within in
    let b_within = q.within in
    let seq : a.seq ≡ b.seq = one_number a.seq b.seq (omega arith) (omega arith) (sym p.seq ∙ q.seq) in
    let spares : a.spares ≡ b.spares = one_number a.spares b.spares (omega arith) (omega arith) (sym p.spares ∙ q.spares) in
    let shards : a.shards ≡ b.shards = one_number a.shards b.shards (omega arith) (omega arith) (sym p.shards ∙ q.shards) in
    let copies : a.copies ≡ b.copies = one_number a.copies b.copies (omega arith) (omega arith) (sym p.copies ∙ q.copies) in
    let clients : a.clients ≡ b.clients = one_number a.clients b.clients (omega arith) (omega arith) (sym p.clients ∙ q.clients) in
    let both = one_mode a.edition b.edition a.mode b.mode (sym p.mode ∙ q.mode) in
    let edition = both.0 in
    let mode = both.1 in
    ap (λ x. record { edition = x; mode = a.mode; seq = a.seq; spares = a.spares; shards = a.shards; copies = a.copies; clients = a.clients }) edition
    ∙ ap (λ x. record { edition = b.edition; mode = x; seq = a.seq; spares = a.spares; shards = a.shards; copies = a.copies; clients = a.clients }) mode
    ∙ ap (λ (x : ℕ). record { edition = b.edition; mode = b.mode; seq = x; spares = a.spares; shards = a.shards; copies = a.copies; clients = a.clients }) seq
    ∙ ap (λ (x : ℕ). record { edition = b.edition; mode = b.mode; seq = b.seq; spares = x; shards = a.shards; copies = a.copies; clients = a.clients }) spares
    ∙ ap (λ (x : ℕ). record { edition = b.edition; mode = b.mode; seq = b.seq; spares = b.spares; shards = x; copies = a.copies; clients = a.clients }) shards
    ∙ ap (λ (x : ℕ). record { edition = b.edition; mode = b.mode; seq = b.seq; spares = b.spares; shards = b.shards; copies = x; clients = a.clients }) copies
    ∙ ap (λ (x : ℕ). record { edition = b.edition; mode = b.mode; seq = b.seq; spares = b.spares; shards = b.shards; copies = b.copies; clients = x }) clients

-- words that begin with those of a shape name it
named_by : (words more : List (List ℕ)) (first : List ℕ) (shape : Dimensions) → IsShape shape → words ≡ first ∷ shape_words shape more → NameShape words shape
named_by words more first shape ok is = record {
  mode = ap (λ (ws : List (List ℕ)). slice_get ws 1) is;
  seq = ap (λ (ws : List (List ℕ)). slice_get ws 2) is;
  spares = ap (λ (ws : List (List ℕ)). slice_get ws 3) is;
  shards = ap (λ (ws : List (List ℕ)). slice_get ws 4) is;
  copies = ap (λ (ws : List (List ℕ)). slice_get ws 5) is;
  clients = ap (λ (ws : List (List ℕ)). slice_get ws 6) is;
  within = ok;
}

-- seven words, `trace` and those of a shape
said_trace : (words : List (List ℕ)) (shape : Dimensions) → length words ≡ 7 → slice_get words 0 ≡ Some (codes "trace") → NameShape words shape → words ≡ words_of (Trace shape)
said_trace [] shape count first r = absurd (omega (arith, count))
said_trace (a ∷ []) shape count first r = absurd (omega (arith, count))
said_trace (a ∷ b ∷ []) shape count first r = absurd (omega (arith, count))
said_trace (a ∷ b ∷ c ∷ []) shape count first r = absurd (omega (arith, count))
said_trace (a ∷ b ∷ c ∷ d ∷ []) shape count first r = absurd (omega (arith, count))
said_trace (a ∷ b ∷ c ∷ d ∷ e ∷ []) shape count first r = absurd (omega (arith, count))
said_trace (a ∷ b ∷ c ∷ d ∷ e ∷ f ∷ []) shape count first r = absurd (omega (arith, count))
said_trace (a ∷ b ∷ c ∷ d ∷ e ∷ f ∷ g ∷ []) shape count first r = cc (first, r.mode, r.seq, r.spares, r.shards, r.copies, r.clients)
said_trace (a ∷ b ∷ c ∷ d ∷ e ∷ f ∷ g ∷ h ∷ more) shape count first r = absurd (omega (arith, count))

pub trace_asked : (words : List (List ℕ)) (shape : Dimensions) → length words ≡ 7 → slice_get words 0 ≡ Some (codes "trace") → NameShape words shape → AskFor words (Trace shape)
trace_asked words shape count first r = record { words_are = said_trace words shape count first r; within = r.within }

pub trace_names : (words : List (List ℕ)) (shape : Dimensions) → AskFor words (Trace shape) → NameShape words shape
trace_names words shape asked = named_by words [] (codes "trace") shape asked.within asked.words_are

-- eight words, `load`, those of a shape, and a number
said_load : (words : List (List ℕ)) (shape : Dimensions) (seed : ℕ) → length words ≡ 8 → slice_get words 0 ≡ Some (codes "load") → NameShape words shape → slice_get words 7 ≡ Some (decimal seed) → words ≡ words_of (Load shape seed)
said_load [] shape seed count first r number = absurd (omega (arith, count))
said_load (a ∷ []) shape seed count first r number = absurd (omega (arith, count))
said_load (a ∷ b ∷ []) shape seed count first r number = absurd (omega (arith, count))
said_load (a ∷ b ∷ c ∷ []) shape seed count first r number = absurd (omega (arith, count))
said_load (a ∷ b ∷ c ∷ d ∷ []) shape seed count first r number = absurd (omega (arith, count))
said_load (a ∷ b ∷ c ∷ d ∷ e ∷ []) shape seed count first r number = absurd (omega (arith, count))
said_load (a ∷ b ∷ c ∷ d ∷ e ∷ f ∷ []) shape seed count first r number = absurd (omega (arith, count))
said_load (a ∷ b ∷ c ∷ d ∷ e ∷ f ∷ g ∷ []) shape seed count first r number = absurd (omega (arith, count))
said_load (a ∷ b ∷ c ∷ d ∷ e ∷ f ∷ g ∷ h ∷ []) shape seed count first r number = cc (first, r.mode, r.seq, r.spares, r.shards, r.copies, r.clients, number)
said_load (a ∷ b ∷ c ∷ d ∷ e ∷ f ∷ g ∷ h ∷ i ∷ more) shape seed count first r number = absurd (omega (arith, count))

pub load_asked : (words : List (List ℕ)) (shape : Dimensions) (seed : ℕ) → seed < 2 ^ 32 → length words ≡ 8 → slice_get words 0 ≡ Some (codes "load") → NameShape words shape → slice_get words 7 ≡ Some (decimal seed) → AskFor words (Load shape seed)
load_asked words shape seed small count first r number = record { words_are = said_load words shape seed count first r number; within = (r.within, small) }

pub load_names : (words : List (List ℕ)) (shape : Dimensions) (seed : ℕ) → AskFor words (Load shape seed) → NameShape words shape
load_names words shape seed asked = named_by words (decimal seed ∷ []) (codes "load") shape asked.within.0 asked.words_are

-- words ask for one thing
one_trace : (words : List (List ℕ)) (a b : Dimensions) → AskFor words (Trace a) → AskFor words (Trace b) → a ≡ b
one_trace words a b p q = one_shape words a b (trace_names words a p) (trace_names words b q)

one_load : (words : List (List ℕ)) (a b : Dimensions) (m n : ℕ) → AskFor words (Load a m) → AskFor words (Load b n) → (a ≡ b) × (m ≡ n)
one_load words a b m n p q =
    let e : words_of (Load a m) ≡ words_of (Load b n) = sym p.words_are ∙ q.words_are in
    (one_shape words a b (load_names words a m p) (load_names words b n q), one_number m n p.within.1 q.within.1 (ap (λ (ws : List (List ℕ)). slice_get ws 7) e))

no_both : (words : List (List ℕ)) (a b : Dimensions) (n : ℕ) → AskFor words (Trace a) → AskFor words (Load b n) → ⊥
no_both words a b n p q =
    let e : words_of (Trace a) ≡ words_of (Load b n) = sym p.words_are ∙ q.words_are in
    let same : length (words_of (Trace a)) ≡ length (words_of (Load b n)) = ap (λ (ws : List (List ℕ)). length ws) e in
    let seven : ◌≡◌ {A = ℕ} 7 8 = same in
    absurd (omega arith)

-- one word, `recode`
pub recode_asked : (words : List (List ℕ)) → length words ≡ 1 → slice_get words 0 ≡ Some (codes "recode") → AskFor words Recode
recode_asked [] count first = absurd (omega (arith, count))
recode_asked (a ∷ []) count first = record { words_are = cc first; within = tt }
recode_asked (a ∷ b ∷ more) count first = absurd (omega (arith, count))

no_trace : (words : List (List ℕ)) (a : Dimensions) → AskFor words Recode → AskFor words (Trace a) → ⊥
no_trace words a p q =
    let same : length (words_of Recode) ≡ length (words_of (Trace a)) = ap (λ (ws : List (List ℕ)). length ws) (sym p.words_are ∙ q.words_are) in
    let one : ◌≡◌ {A = ℕ} 1 7 = same in
    absurd (omega arith)

no_load : (words : List (List ℕ)) (a : Dimensions) (n : ℕ) → AskFor words Recode → AskFor words (Load a n) → ⊥
no_load words a n p q =
    let same : length (words_of Recode) ≡ length (words_of (Load a n)) = ap (λ (ws : List (List ℕ)). length ws) (sym p.words_are ∙ q.words_are) in
    let one : ◌≡◌ {A = ℕ} 1 8 = same in
    absurd (omega arith)

pub one_task : (words : List (List ℕ)) (a b : Task) → AskFor words a → AskFor words b → a ≡ b
one_task words (Trace a) (Trace b) p q = ap Trace (one_trace words a b p q)
one_task words (Trace a) (Load b n) p q = absurd (no_both words a b n p q)
one_task words (Load a m) (Trace b) p q = absurd (no_both words b a m q p)
one_task words (Trace a) Recode p q = absurd (no_trace words a q p)
one_task words (Load a m) Recode p q = absurd (no_load words a m q p)
one_task words Recode (Trace b) p q = absurd (no_trace words b p q)
one_task words Recode (Load b n) p q = absurd (no_load words b n p q)
one_task words Recode Recode p q = refl
one_task words (Load a m) (Load b n) p q = let k = one_load words a b m n p q in ap (λ (d : Dimensions). Load d m) k.0 ∙ ap (Load b) k.1
