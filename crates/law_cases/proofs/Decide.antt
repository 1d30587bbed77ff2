-- A fact beside a test that decides it, so that facts on given lists are found by computing.
use Rattle.std.proofs.Common.{◌≡◌, ◌≢◌, ℕ, zero, suc, ◌<◌, ◌≤◌, Bool, true, false, not, ◌&&◌, ◌||◌, nat_lt, nat_le, ◌==◌, IsTrue, Option, Some, None, List, length, slice_get, inl, inr, refl, ap, subst, arith}
use Rattle.std.specs.Bool.{Decides}
use Rattle.std.proofs.lemmas.Bool.{cases_lt}
use Rattle.std.proofs.lemmas.Option.{slice_get_past}
use Rattle.std.proofs.lemmas.Bool.Decides.{Decides-not, Decides-and, Decides-eqb, Decides-ltb, Decides-below_and, Decides-below_or, nat_tests}

pub record Dec (P : Type 0) : Type 0 where
  pub test : Bool
  pub decides : Decides test P

pub yes_decides : {P : Type 0} → P → Decides true P
yes_decides p = (λ _. p, λ _. refl)

pub no_decides : {P : Type 0} → ¬ P → Decides false P
no_decides n = (λ e. cc, λ p. absurd (n p))

abbrev pub dec_yes : {P : Type 0} → P → Dec P
dec_yes p = record { test = true; decides = yes_decides p }

abbrev pub dec_no : {P : Type 0} → ¬ P → Dec P
dec_no n = record { test = false; decides = no_decides n }

pub like_decides : {P Q : Type 0} (b : Bool) → (P → Q) → (Q → P) → Decides b P → Decides b Q
like_decides b f g d = (λ e. f (d.0 e), λ q. d.1 (g q))

abbrev pub dec_like : {P Q : Type 0} → (P → Q) → (Q → P) → Dec P → Dec Q
dec_like f g d = record { test = d.test; decides = like_decides d.test f g d.decides }

abbrev pub dec_not : {P : Type 0} → Dec P → Dec (¬ P)
dec_not d = record { test = not d.test; decides = Decides-not d.test d.decides }

abbrev pub dec_and : {P Q : Type 0} → Dec P → Dec Q → Dec (P × Q)
dec_and d k = record { test = d.test && k.test; decides = Decides-and d.test k.test d.decides k.decides }

pub implies_decides : {P Q : Type 0} (x y : Bool) → Decides x P → Decides y Q → Decides (not x || y) (P → Q)
implies_decides true y d k = (λ e _. k.0 e, λ f. k.1 (f (d.0 refl)))
implies_decides false y d k = (λ _ p. let e : false ≡ true = d.1 p in cc, λ _. refl)

abbrev pub dec_implies : {P Q : Type 0} → Dec P → Dec Q → Dec (P → Q)
dec_implies d k = record { test = not d.test || k.test; decides = implies_decides d.test k.test d.decides k.decides }

abbrev pub dec_nat : (a b : ℕ) → Dec (a ≡ b)
dec_nat a b = record { test = a == b; decides = Decides-eqb a b }

abbrev pub dec_lt : (a b : ℕ) → Dec (a < b)
dec_lt a b = record { test = nat_lt a b; decides = Decides-ltb a b }

pub le_decides : (a b : ℕ) → Decides (nat_le a b) (a ≤ b)
le_decides a b = (λ e. grind (arith, nat_tests), λ h. grind (arith, nat_tests))

abbrev pub dec_le : (a b : ℕ) → Dec (a ≤ b)
dec_le a b = record { test = nat_le a b; decides = le_decides a b }

-- of what an option has, where it has something

abbrev pub if_some : {A : Type 0} → Option A → (A → Bool) → Bool
if_some None t = true
if_some (Some x) t = t x

pub if_some_decides : {A : Type 0} (o : Option A) (t : A → Bool) (P : A → Type 0) → ((x : A) → Decides (t x) (P x)) → Decides (if_some o t) ((x : A) → o ≡ Some x → P x)
if_some_decides None t P d = (λ _ x e. cc, λ _. refl)
if_some_decides (Some y) t P d = (λ h x e. let same : y ≡ x = cc in subst P same ((d y).0 h), λ f. (d y).1 (f y refl))

abbrev pub dec_if_some : {A : Type 0} (o : Option A) (P : A → Type 0) → ((x : A) → Dec (P x)) → Dec ((x : A) → o ≡ Some x → P x)
dec_if_some o P d = record { test = if_some o (λ x. (d x).test); decides = if_some_decides o (λ x. (d x).test) P (λ x. (d x).decides) }

abbrev pub and_some : {A : Type 0} → Option A → (A → Bool) → Bool
and_some None t = false
and_some (Some x) t = t x

pub and_some_decides : {A : Type 0} (o : Option A) (t : A → Bool) (P : A → Type 0) → ((x : A) → Decides (t x) (P x)) → Decides (and_some o t) ((x : A) × (o ≡ Some x) × P x)
and_some_decides None t P d = (λ e. cc, λ h. let e = h.1 in cc)
and_some_decides (Some y) t P d = (λ h. (y, refl, (d y).0 h), λ h. let e = h.1 in let same : h.0 ≡ y = cc in (d y).1 (subst P same h.2))

abbrev pub dec_and_some : {A : Type 0} (o : Option A) (P : A → Type 0) → ((x : A) → Dec (P x)) → Dec ((x : A) × (o ≡ Some x) × P x)
dec_and_some o P d = record { test = and_some o (λ x. (d x).test); decides = and_some_decides o (λ x. (d x).test) P (λ x. (d x).decides) }

-- an option has this

pub told_decides : {A : Type 0} (o : Option A) (x : A) (t : A → Bool) → ((y : A) → Decides (t y) (y ≡ x)) → Decides (and_some o t) (o ≡ Some x)
told_decides None x t d = (λ e. cc, λ e. cc)
told_decides (Some y) x t d = (λ h. ap Some ((d y).0 h), λ e. (d y).1 cc)

abbrev pub dec_told : {A : Type 0} (o : Option A) (x : A) → ((y : A) → Dec (y ≡ x)) → Dec (o ≡ Some x)
dec_told o x d = record { test = and_some o (λ y. (d y).test); decides = told_decides o x (λ y. (d y).test) (λ y. (d y).decides) }

-- over numbers

abbrev pub all_below : (ℕ → Bool) → ℕ → Bool
all_below t zero = true
all_below t (suc n) = t n && all_below t n

abbrev pub any_below : (ℕ → Bool) → ℕ → Bool
any_below t zero = false
any_below t (suc n) = t n || any_below t n

pub below_decides : (t : ℕ → Bool) (P : ℕ → Type 0) → ((i : ℕ) → Decides (t i) (P i)) → (n : ℕ) → Decides (all_below t n) ((i : ℕ) → i < n → P i)
below_decides t P d n = Decides-below_and t P (all_below t) d refl (λ _. refl) n

abbrev pub dec_below : (n : ℕ) (P : ℕ → Type 0) → ((i : ℕ) → Dec (P i)) → Dec ((i : ℕ) → i < n → P i)
dec_below n P d = record { test = all_below (λ i. (d i).test) n; decides = below_decides (λ i. (d i).test) P (λ i. (d i).decides) n }

pub all_decides : (t : ℕ → Bool) (P : ℕ → Type 0) → ((i : ℕ) → Decides (t i) (P i)) → (n : ℕ) → ((i : ℕ) → n ≤ i → P i) → Decides (all_below t n) ((i : ℕ) → P i)
all_decides t P d n rest = like_decides (all_below t n) (λ f i. elim (cases_lt i n) [ inl h ↦ f i h | inr h ↦ rest i h ]) (λ f i _. f i) (below_decides t P d n)

abbrev pub dec_all : (n : ℕ) (P : ℕ → Type 0) → ((i : ℕ) → n ≤ i → P i) → ((i : ℕ) → Dec (P i)) → Dec ((i : ℕ) → P i)
dec_all n P rest d = record { test = all_below (λ i. (d i).test) n; decides = all_decides (λ i. (d i).test) P (λ i. (d i).decides) n rest }

pub any_decides : (t : ℕ → Bool) (P : ℕ → Type 0) → ((i : ℕ) → Decides (t i) (P i)) → (n : ℕ) → ((i : ℕ) → P i → i < n) → Decides (any_below t n) ((i : ℕ) × P i)
any_decides t P d n within = like_decides (any_below t n) (λ h. (h.0, h.2)) (λ h. (h.0, within h.0 h.1, h.1)) (Decides-below_or t P (any_below t) d refl (λ _. refl) n)

abbrev pub dec_any : (n : ℕ) (P : ℕ → Type 0) → ((i : ℕ) → P i → i < n) → ((i : ℕ) → Dec (P i)) → Dec ((i : ℕ) × P i)
dec_any n P within d = record { test = any_below (λ i. (d i).test) n; decides = any_decides (λ i. (d i).test) P (λ i. (d i).decides) n within }

-- over the places of a list

-- where all that a fact at a place takes from the list is absent past the end
abbrev pub dec_each : {A : Type 0} (xs : List A) (P : ℕ → Type 0) → ((i : ℕ) → slice_get xs i ≡ None → P i) → ((i : ℕ) → Dec (P i)) → Dec ((i : ℕ) → P i)
dec_each xs P rest d = dec_all (length xs) P (λ i h. rest i (slice_get_past xs i h)) d

abbrev pub dec_true : (b : Bool) → Dec (IsTrue b)
dec_true b = record { test = b; decides = (λ e. e, λ e. e) }

pub absent : {A : Type 0} (o : Option A) (x : A) → o ≡ None → o ≡ Some x → ⊥
absent o x e h = cc

pub not_absent : {A : Type 0} (x : A) → Some x ≢ None
not_absent x e = cc
