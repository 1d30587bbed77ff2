-- What is broken, and by which pair, is decided by tests.
use Rattle.std.proofs.Common.{◌≡◌, ◌≢◌, ℕ, ◌<◌, true, ◌==◌, if◌then◌else◌, List, inl, inr, refl, sym, ◌∙◌, ap, subst}
use Rattle.law_cases.proofs.Decide.{Dec, dec_like, dec_not, dec_and, dec_implies, dec_nat, dec_lt, dec_below}
use Rattle.law_cases.proofs.Clauses.{dec_unique_at, dec_unique_row, dec_unique, dec_invoked_at, dec_invoked, dec_finished_at, dec_finished, dec_ordered_at, dec_ordered_row, dec_ordered}
use Rattle.law_cases.proofs.ReadClauses.{dec_slices_at, dec_slices, dec_covered_at, dec_covered_row, dec_covered, dec_tails_at, dec_tails_row, dec_tails, dec_behind_at, dec_behind_row, dec_behind, dec_trims_at, dec_trims}
use Rattle.law_cases.specs.BrokenBy.{BrokenBy}
use Rattle.rec_id.specs.Lawful.{Lawful}
use Rattle.rec_id.specs.Verdict.{Clause, unique, invoked, finished, ordered, slices, covered, tails_never_fall, behind_read, trims, number_of, IsMetAt, IsMet, IsPairBefore, IsFirstBroken}
use Rattle.rec_id.specs.declared.entry.Entry.{Entry}
use Rattle.rec_id.specs.declared.event.Event.{Event}

abbrev pub dec_holds_at : (clause : Clause) (history : List Event) (line : List Entry) (i j : ℕ) → Dec (IsMetAt clause history line i j)
dec_holds_at unique history line i j = dec_unique_at line i j
dec_holds_at invoked history line i j = dec_invoked_at history line i
dec_holds_at finished history line i j = dec_finished_at history line i
dec_holds_at ordered history line i j = dec_ordered_at history line i j
dec_holds_at slices history line i j = dec_slices_at history line i
dec_holds_at covered history line i j = dec_covered_at history line i j
dec_holds_at tails_never_fall history line i j = dec_tails_at history i j
dec_holds_at behind_read history line i j = dec_behind_at history line i j
dec_holds_at trims history line i j = dec_trims_at history i

abbrev pub dec_row_of : {P : Type 0} → Dec P → Dec (ℕ → P)
dec_row_of d = dec_like (λ p _. p) (λ f. f 0) d

abbrev pub dec_row : (clause : Clause) (history : List Event) (line : List Entry) (i : ℕ) → Dec ((j : ℕ) → IsMetAt clause history line i j)
dec_row unique history line i = dec_unique_row line i
dec_row invoked history line i = dec_row_of (dec_invoked_at history line i)
dec_row finished history line i = dec_row_of (dec_finished_at history line i)
dec_row ordered history line i = dec_ordered_row history line i
dec_row slices history line i = dec_row_of (dec_slices_at history line i)
dec_row covered history line i = dec_covered_row history line i
dec_row tails_never_fall history line i = dec_tails_row history i
dec_row behind_read history line i = dec_behind_row history line i
dec_row trims history line i = dec_row_of (dec_trims_at history i)

abbrev pub dec_holds : (clause : Clause) (history : List Event) (line : List Entry) → Dec (IsMet clause history line)
dec_holds unique history line = dec_unique line
dec_holds invoked history line = dec_invoked history line
dec_holds finished history line = dec_finished history line
dec_holds ordered history line = dec_ordered history line
dec_holds slices history line = dec_slices history line
dec_holds covered history line = dec_covered history line
dec_holds tails_never_fall history line = dec_tails history
dec_holds behind_read history line = dec_behind history line
dec_holds trims history line = dec_trims history

-- over the clauses

pub clauses_to : (P : Clause → Type 0) → P unique × (P invoked × (P finished × (P ordered × (P slices × (P covered × (P tails_never_fall × (P behind_read × P trims))))))) → (clause : Clause) → P clause
clauses_to P h unique = h.0
clauses_to P h invoked = h.1.0
clauses_to P h finished = h.1.1.0
clauses_to P h ordered = h.1.1.1.0
clauses_to P h slices = h.1.1.1.1.0
clauses_to P h covered = h.1.1.1.1.1.0
clauses_to P h tails_never_fall = h.1.1.1.1.1.1.0
clauses_to P h behind_read = h.1.1.1.1.1.1.1.0
clauses_to P h trims = h.1.1.1.1.1.1.1.1

pub clauses_from : (P : Clause → Type 0) → ((clause : Clause) → P clause) → P unique × (P invoked × (P finished × (P ordered × (P slices × (P covered × (P tails_never_fall × (P behind_read × P trims)))))))
clauses_from P f = (f unique, (f invoked, (f finished, (f ordered, (f slices, (f covered, (f tails_never_fall, (f behind_read, f trims))))))))

abbrev pub dec_clauses : (P : Clause → Type 0) → ((clause : Clause) → Dec (P clause)) → Dec ((clause : Clause) → P clause)
dec_clauses P d =
    dec_like (clauses_to P) (clauses_from P)
    (dec_and (d unique) (dec_and (d invoked) (dec_and (d finished) (dec_and (d ordered) (dec_and (d slices) (dec_and (d covered) (dec_and (d tails_never_fall) (dec_and (d behind_read) (d trims)))))))))

abbrev clause_of : ℕ → Clause
clause_of n = if n == 1 then unique else (if n == 2 then invoked else (if n == 3 then finished else (if n == 4 then ordered else (if n == 5 then slices else (if n == 6 then covered else (if n == 7 then tails_never_fall else (if n == 8 then behind_read else trims)))))))

clause_of-number : (clause : Clause) → clause_of (number_of clause) ≡ clause
clause_of-number unique = refl
clause_of-number invoked = refl
clause_of-number finished = refl
clause_of-number ordered = refl
clause_of-number slices = refl
clause_of-number covered = refl
clause_of-number tails_never_fall = refl
clause_of-number behind_read = refl
clause_of-number trims = refl

pub same_clause : (one other : Clause) → number_of one ≡ number_of other → one ≡ other
same_clause one other e = sym (clause_of-number one) ∙ ap clause_of e ∙ clause_of-number other

abbrev pub dec_clause : (one other : Clause) → Dec (one ≡ other)
dec_clause one other = dec_like (same_clause one other) (λ e. ap number_of e) (dec_nat (number_of one) (number_of other))

-- the verdicts

abbrev pub dec_broken_by : (clause : Clause) (history : List Event) (line : List Entry) → Dec (BrokenBy clause history line)
dec_broken_by clause history line =
    dec_like (λ h. record { broken = h.0; others = h.1 }) (λ h. (h.broken, h.others))
    (dec_and (dec_not (dec_holds clause history line))
    (dec_clauses (λ other. other ≢ clause → IsMet other history line) (λ other. dec_implies (dec_not (dec_clause other clause)) (dec_holds other history line))))

abbrev pub dec_lawful : (history : List Event) (line : List Entry) → Dec (Lawful history line)
dec_lawful history line =
    dec_like
    (λ h. record { unique = h unique; invoked = h invoked; finished = h finished; ordered = h ordered; slices = h slices; covered = h covered; tails_never_fall = h tails_never_fall; behind_read = h behind_read; trims = h trims })
    (λ h. clauses_to (λ clause. IsMet clause history line) (h.unique, (h.invoked, (h.finished, (h.ordered, (h.slices, (h.covered, (h.tails_never_fall, (h.behind_read, h.trims)))))))))
    (dec_clauses (λ clause. IsMet clause history line) (λ clause. dec_holds clause history line))

least_to : (P : ℕ → ℕ → Type 0) (first second : ℕ) → ((i : ℕ) → i < first → (j : ℕ) → P i j) × ((j : ℕ) → j < second → P first j) → (i j : ℕ) → IsPairBefore i j first second → P i j
least_to P first second h i j (inl lt) = h.0 i lt j
least_to P first second h i j (inr e) = subst (λ (k : ℕ). P k j) (sym e.0) (h.1 j e.1)

pub first_to : (clause : Clause) (history : List Event) (line : List Entry) (first second : ℕ) → ((other : Clause) → number_of other < number_of clause → IsMet other history line) × ((¬ IsMetAt clause history line first second) × (((i : ℕ) → i < first → (j : ℕ) → IsMetAt clause history line i j) × ((j : ℕ) → j < second → IsMetAt clause history line first j))) → IsFirstBroken history line clause first second
first_to clause history line first second h = record { earlier = h.0; broken = h.1.0; least = least_to (IsMetAt clause history line) first second h.1.1 }

pub first_from : (clause : Clause) (history : List Event) (line : List Entry) (first second : ℕ) → IsFirstBroken history line clause first second → ((other : Clause) → number_of other < number_of clause → IsMet other history line) × ((¬ IsMetAt clause history line first second) × (((i : ℕ) → i < first → (j : ℕ) → IsMetAt clause history line i j) × ((j : ℕ) → j < second → IsMetAt clause history line first j)))
first_from clause history line first second h = (h.earlier, (h.broken, (λ i lt j. h.least i j (inl lt), λ j lt. h.least first j (inr (refl, lt)))))

abbrev pub dec_first_broken : (history : List Event) (line : List Entry) (clause : Clause) (first second : ℕ) → Dec (IsFirstBroken history line clause first second)
dec_first_broken history line clause first second =
    dec_like (first_to clause history line first second) (first_from clause history line first second)
    (dec_and (dec_clauses (λ other. number_of other < number_of clause → IsMet other history line) (λ other. dec_implies (dec_lt (number_of other) (number_of clause)) (dec_holds other history line)))
    (dec_and (dec_not (dec_holds_at clause history line first second))
    (dec_and (dec_below first (λ i. (j : ℕ) → IsMetAt clause history line i j) (dec_row clause history line))
    (dec_below second (λ j. IsMetAt clause history line first j) (dec_holds_at clause history line first)))))

-- what the tests tell

pub broken_by : (clause : Clause) (history : List Event) (line : List Entry) → (dec_broken_by clause history line).test ≡ true → BrokenBy clause history line
broken_by clause history line e = (dec_broken_by clause history line).decides.0 e

pub lawful : (history : List Event) (line : List Entry) → (dec_lawful history line).test ≡ true → Lawful history line
lawful history line e = (dec_lawful history line).decides.0 e

pub first_broken : (history : List Event) (line : List Entry) (clause : Clause) (first second : ℕ) → (dec_first_broken history line clause first second).test ≡ true → IsFirstBroken history line clause first second
first_broken history line clause first second e = (dec_first_broken history line clause first second).decides.0 e
