-- The nine clauses in order.
use Rattle.std.proofs.Common.{◌≡◌, ℕ, ◌==◌, false, ◌+◌, ◌^◌, ◌<◌, ◌≤◌, List, length, Option, Some, None, inl, inr, refl, sym, ◌∙◌, subst, arith}
use Rattle.std.proofs.lemmas.Bool.{cases_lt, cases_eq, cases_Bool, eqb-true}
use Rattle.law_cases.proofs.Clauses.{told_within}
use Rattle.law_cases.proofs.Verdicts.{clauses_to, same_clause}
use Rattle.rec_id.specs.History.{invoked_id, begun_read, forced_tail}
use Rattle.rec_id.specs.Lawful.{UniqueAt, InvokedAt, FinishedAt, OrderedAt, SlicesAt, CoveredAt, TailsNeverFallAt, BehindReadAt, TrimsAt, Lawful}
use Rattle.rec_id.specs.Verdict.{Clause, unique, invoked, finished, ordered, slices, covered, tails_never_fall, behind_read, trims, number_of, IsMetAt, IsMet, IsPairBefore, IsFirstBroken}
use Rattle.rec_id.specs.declared.entry.Entry.{Entry}
use Rattle.rec_id.specs.declared.event.Event.{Event}
use Rattle.log_law.specs.Pairs.{IsFirstBreach, IsFound}
use Rattle.log_law.specs.Verdicts.{clause_of, IsBrokenAs}
use Rattle.log_law.proofs.Finishes.{finished_beyond}
use Rattle.log_law.proofs.InvokedRecords.{invoked_beyond}
use Rattle.log_law.proofs.ReadEnds.{trims_beyond}
use Rattle.log_law.proofs.Slicing.{slices_beyond}
use Rattle.log_law.proofs.Orders.{id_within}

-- a pair that breaks a clause lies within the lists

pair_within : (P : ℕ → ℕ → Type 0) (n i j : ℕ) → n < 2 ^ 32 → ((k l : ℕ) → l ≤ k → P k l) → ((k l : ℕ) → n ≤ l → P k l) → ¬ P i j → (i < 2 ^ 32) × (j < 2 ^ 32)
pair_within P n i j short turned past broken = elim (cases_lt i j) [
  | inr ge ↦ absurd (broken (turned i j ge))
  | inl lt ↦ elim (cases_lt j n) [ inr ge ↦ absurd (broken (past i j ge)) | inl less ↦ (omega arith, omega arith) ]
]

one_within : (P : ℕ → Type 0) (n i j : ℕ) → n < 2 ^ 32 → ((k : ℕ) → n ≤ k → P k) → ¬ P i → ((k l : ℕ) → IsPairBefore k l i j → P k) → (i < 2 ^ 32) × (j < 2 ^ 32)
one_within P n i j short past broken least = elim (cases_lt i n) [
  | inr ge ↦ absurd (broken (past i ge))
  | inl less ↦ elim (cases_lt 0 j) [ inl pos ↦ absurd (broken (least i 0 (inr (refl, pos)))) | inr none ↦ (omega arith, omega arith) ]
]

module _ (history : List Event) (line : List Entry) (long : length history < 2 ^ 32) (wide : length line < 2 ^ 32) where
  pub within_of : (clause : Clause) (i j : ℕ) → IsFirstBroken history line clause i j → (i < 2 ^ 32) × (j < 2 ^ 32)
  within_of unique i j h = pair_within (UniqueAt line) (length line) i j wide
      (λ k l le. record { differ = λ id lt. absurd (omega arith) })
      (λ k l ge. record { differ = λ id lt s t. absurd (let w = id_within line l id t in omega arith) }) h.broken
  within_of invoked i j h = one_within (InvokedAt history line) (length line) i j wide (λ k ge. invoked_beyond history line k ge) h.broken h.least
  within_of finished i j h = one_within (FinishedAt history line) (length history) i j long (λ k ge. finished_beyond history line k ge) h.broken h.least
  within_of ordered i j h = pair_within (OrderedAt history line) (length history) i j long
      (λ k l le. record { in_front = λ a b place lt. absurd (omega arith) })
      (λ k l ge. record { in_front = λ a b place lt f g n. absurd (let w = told_within invoked_id history l b g in omega arith) }) h.broken
  within_of slices i j h = one_within (SlicesAt history line) (length history) i j long (λ k ge. slices_beyond history line k ge) h.broken h.least
  within_of covered i j h = pair_within (CoveredAt history line) (length history) i j long
      (λ k l le. record { below = λ a read tail m lt. absurd (omega arith) })
      (λ k l ge. record { below = λ a read tail m lt later f g t. absurd (let w = told_within begun_read history l read g in omega arith) }) h.broken
  within_of tails_never_fall i j h = pair_within (TailsNeverFallAt history) (length history) i j long
      (λ k l le. record { no_less = λ reach b tail read lt later. absurd (omega arith) })
      (λ k l ge. record { no_less = λ reach b tail read lt later r g t. absurd (let w = told_within forced_tail history l (read, tail) t in omega arith) }) h.broken
  within_of behind_read i j h = pair_within (BehindReadAt history line) (length history) i j long
      (λ k l le. record { behind = λ reach place b lt. absurd (omega arith) })
      (λ k l ge. record { behind = λ reach place b lt r g n. absurd (let w = told_within invoked_id history l b g in omega arith) }) h.broken
  within_of trims i j h = one_within (TrimsAt history) (length history) i j long (λ k ge. trims_beyond history k ge) h.broken h.least

-- a clause that is met at every pair is met
pub whole : (history : List Event) (line : List Entry) (clause : Clause) → ((i j : ℕ) → IsMetAt clause history line i j) → IsMet clause history line
whole history line unique f = f
whole history line invoked f = λ i. f i 0
whole history line finished f = λ i. f i 0
whole history line ordered f = f
whole history line slices f = λ i. f i 0
whole history line covered f = f
whole history line tails_never_fall f = f
whole history line behind_read f = f
whole history line trims f = λ i. f i 0

pub number_back : (n : ℕ) → 1 ≤ n → n < 10 → number_of (clause_of n) ≡ n
number_back n low high =
    let at = λ (m : ℕ). number_of (clause_of m) ≡ m in
    elim (cases_eq n 1) [
      | inl e ↦ subst at (sym e) refl
      | inr n1 ↦ elim (cases_eq n 2) [ inl e ↦ subst at (sym e) refl | inr n2 ↦ elim (cases_eq n 3) [ inl e ↦ subst at (sym e) refl | inr n3 ↦ elim (cases_eq n 4) [ inl e ↦ subst at (sym e) refl | inr n4 ↦ elim (cases_eq n 5) [ inl e ↦ subst at (sym e) refl | inr n5 ↦ elim (cases_eq n 6) [ inl e ↦ subst at (sym e) refl | inr n6 ↦ elim (cases_eq n 7) [ inl e ↦ subst at (sym e) refl | inr n7 ↦ elim (cases_eq n 8) [ inl e ↦ subst at (sym e) refl | inr n8 ↦ subst at (let e : 9 ≡ n = omega arith in e) refl ] ] ] ] ] ] ]
    ]

eq_false : (a b : ℕ) → ¬ (a ≡ b) → (a == b) ≡ false
eq_false a b n = elim (cases_Bool (a == b)) [ inl t ↦ absurd (n (eqb-true a b t)) | inr f ↦ f ]

pub clause_else : (n : ℕ) → ¬ (n ≡ 1) → ¬ (n ≡ 2) → ¬ (n ≡ 3) → ¬ (n ≡ 4) → ¬ (n ≡ 5) → ¬ (n ≡ 6) → ¬ (n ≡ 7) → ¬ (n ≡ 8) → trims ≡ clause_of n
clause_else n a b d f g h k m = rw (eq_false n 1 a, eq_false n 2 b, eq_false n 3 d, eq_false n 4 f, eq_false n 5 g, eq_false n 6 h, eq_false n 7 k, eq_false n 8 m) refl

pub found_first : (P : ℕ → ℕ → Type 0) (o : Option (ℕ × ℕ)) (pair : ℕ × ℕ) → o ≡ Some pair → IsFound P o → IsFirstBreach P pair.0 pair.1
found_first P o pair e f = subst (IsFound P) e f

pub found_none : (P : ℕ → ℕ → Type 0) (o : Option (ℕ × ℕ)) → o ≡ None → IsFound P o → (i j : ℕ) → P i j
found_none P o e f = subst (IsFound P) e f

module _ (history : List Event) (line : List Entry) where
  -- the clauses of numbers below n are met at every pair
  abbrev pub MetBelow : ℕ → Type 0
  MetBelow n = (other : Clause) → number_of other < n → (i j : ℕ) → IsMetAt other history line i j

  pub met_none : MetBelow 1
  met_none = clauses_to (λ other. number_of other < 1 → (i j : ℕ) → IsMetAt other history line i j)
      (λ lt. absurd (omega arith), (λ lt. absurd (omega arith), (λ lt. absurd (omega arith), (λ lt. absurd (omega arith), (λ lt. absurd (omega arith), (λ lt. absurd (omega arith), (λ lt. absurd (omega arith), (λ lt. absurd (omega arith), λ lt. absurd (omega arith)))))))))

  pub met_more : (n : ℕ) → 1 ≤ n → n < 10 → MetBelow n → ((i j : ℕ) → IsMetAt (clause_of n) history line i j) → MetBelow (n + 1)
  met_more n low high f g other lt = elim (cases_eq (number_of other) n) [
    | inl same ↦ subst (λ (x : Clause). (i j : ℕ) → IsMetAt x history line i j) (sym (same_clause other (clause_of n) (same ∙ sym (number_back n low high)))) g
    | inr ne ↦ f other (omega arith)
  ]

  pub broken_as : (n i j : ℕ) → 1 ≤ n → n < 10 → MetBelow n → IsFirstBreach (IsMetAt (clause_of n) history line) i j → IsBrokenAs history line n i j
  broken_as n i j low high f b = record {
    clause = clause_of n;
    numbered = number_back n low high;
    is = record { earlier = λ other lt. whole history line other (f other (let e = number_back n low high in omega arith)); broken = b.broken; least = b.least };
  }

  pub broken_within : length history < 2 ^ 32 → length line < 2 ^ 32 → (n i j : ℕ) → 1 ≤ n → n < 10 → MetBelow n → IsFirstBreach (IsMetAt (clause_of n) history line) i j → (i < 2 ^ 32) × (j < 2 ^ 32)
  broken_within long wide n i j low high f b = let x = broken_as n i j low high f b in within_of history line long wide x.clause i j x.is

  pub all_met : MetBelow 10 → Lawful history line
  all_met f = record {
    unique = f unique (omega arith);
    invoked = λ p. f invoked (omega arith) p 0;
    finished = λ j. f finished (omega arith) j 0;
    ordered = f ordered (omega arith);
    slices = λ j. f slices (omega arith) j 0;
    covered = f covered (omega arith);
    tails_never_fall = f tails_never_fall (omega arith);
    behind_read = f behind_read (omega arith);
    trims = λ j. f trims (omega arith) j 0;
  }

  pub broken_unlawful : (number first second : ℕ) → IsBrokenAs history line number first second → ¬ Lawful history line
  broken_unlawful number first second h law = clauses_to (λ clause. ¬ IsMetAt clause history line first second → ⊥)
      (λ n. n (law.unique first second), (λ n. n (law.invoked first), (λ n. n (law.finished first), (λ n. n (law.ordered first second), (λ n. n (law.slices first), (λ n. n (law.covered first second), (λ n. n (law.tails_never_fall first second), (λ n. n (law.behind_read first second), λ n. n (law.trims first)))))))))
      h.clause h.is.broken
