-- Orders by their signs, and who is first of a list.
use Rattle.std.proofs.Common.{◌≡◌, ℕ, suc, ◌<◌, ◌≤◌, List, [], ◌∷◌, take, Bool, true, false, Option, Some, None, inl, inr, refl, sym, ◌∙◌, ap, subst, arith, ◌+◌}
use Rattle.std.specs.Prelude.{option_map, slice_get}
use Rattle.std.specs.List.{list_any}
use Rattle.std.proofs.lemmas.Bool.{eqb-true, or_parts}
use Rattle.std.proofs.lemmas.Option.{slice_get_within}
use Rattle.list_facts.specs.Lists.{Each, In}
use Rattle.list_facts.proofs.Places.{in_at}
use Rattle.rec_id.specs.declared.item.Body.{Body}
use Rattle.rec_id.specs.declared.item.Body.TheVariants.{Elsewhere, Kept, Noop, Open, Gone}
use Rattle.rec_id.specs.declared.item.Cell.{Cell}
use Rattle.lazy_rules.specs.Pushing.{length_of}
use Rattle.lazy_rules.specs.Roles.{is_first}
use Rattle.lazy_rules.specs.ShardRules.{first_unplaced}
use Rattle.lazy_rules.specs.ShardState.{PlaceJob, ShardState}
use Rattle.lazy_rules.specs.Store.{has_open, has_open_below, is_open}
use Rattle.log_facts.specs.Signs.{Lacking, NoneOpen, Sign, ordered_at, sign_at, sign_of, sort_of}
use Rattle.log_facts.specs.facts.OfShards.{FollowOn}
use Rattle.log_facts.specs.Handed.{EachFrom}
use Rattle.log_facts.proofs.Places.{at_each_from, take_at}

pub first_in : (nodes : List ℕ) (node : ℕ) → is_first nodes node ≡ true → In node nodes
first_in [] node h = cc
first_in (first ∷ others) node h = inl (eqb-true first node h)

pub first_alone : (nodes : List ℕ) (one other : ℕ) → is_first nodes one ≡ true → is_first nodes other ≡ true → one ≡ other
first_alone [] one other h k = cc
first_alone (first ∷ others) one other h k = sym (eqb-true first one h) ∙ eqb-true first other k

-- the cell of a sign
signed_cell : (o : Option Cell) (sign : Sign) → option_map sign_of o ≡ Some sign → (cell : Cell) × (o ≡ Some cell) × (sign_of cell ≡ sign)
signed_cell None sign h = cc
signed_cell (Some cell) sign h = (cell, refl, let is : Some (sign_of cell) ≡ Some sign = h in cc)

pub cell_at : (s : ShardState) (place : ℕ) (sign : Sign) → sign_at s place ≡ Some sign → (cell : Cell) × (slice_get s.store.order place ≡ Some cell) × (sign_of cell ≡ sign)
cell_at s place sign h = signed_cell (slice_get s.store.order place) sign h

pub sign_within : (s : ShardState) (place : ℕ) (sign : Sign) → sign_at s place ≡ Some sign → place < length_of s
sign_within s place sign h = let cell = cell_at s place sign h in slice_get_within s.store.order place cell.0 cell.1

ordered_sign : (o : Option Cell) → option_map (λ (cell : Cell). cell.id) o ≡ option_map (λ (sign : Sign). sign.id) (option_map sign_of o)
ordered_sign None = refl
ordered_sign (Some cell) = refl

-- the identity at a place by its sign
pub ordered_is : (s : ShardState) (place : ℕ) → ordered_at s place ≡ option_map (λ (sign : Sign). sign.id) (sign_at s place)
ordered_is s place = ordered_sign (slice_get s.store.order place)

-- only an open cell lacks its data
pub lacking_open : (body : Body) → sort_of body ≡ Lacking → body ≡ Open
lacking_open Open h = refl
lacking_open Elsewhere h = cc
lacking_open (Kept bytes) h = cc
lacking_open Noop h = cc
lacking_open Gone h = cc

-- ---- open cells by the rules' tests
open_lacks : (body : Body) → sort_of body ≡ Lacking → is_open body ≡ true
open_lacks body h = ap is_open (lacking_open body h)

pub none_pass : {A : Type 0} (p : A → Bool) (xs : List A) → list_any p xs ≡ false → (x : A) → In x xs → p x ≡ false
none_pass p [] h x m = absurd m
none_pass p (z ∷ zs) h x (inl e) = ap p (sym e) ∙ (or_parts (p z) (list_any p zs) h).0
none_pass p (z ∷ zs) h x (inr m) = none_pass p zs (or_parts (p z) (list_any p zs) h).1 x m

pub none_open_below : (s : ShardState) (upto : ℕ) → has_open_below s.store upto ≡ false → NoneOpen s upto
none_open_below s upto none place sign lt at lacks =
    let found = cell_at s place sign at in
    let front : In found.0 (take upto s.store.order) = in_at (take upto s.store.order) place found.0 (take_at upto s.store.order place found.0 lt found.1) in
    let shut : is_open (found.0).body ≡ false = none_pass (λ (cell : Cell). is_open cell.body) (take upto s.store.order) none found.0 front in
    let awaits : is_open (found.0).body ≡ true = open_lacks (found.0).body (ap (λ (x : Sign). x.sort) found.2 ∙ lacks) in
    let wrong : true ≡ false = sym awaits ∙ shut in
    absurd (let no : ⊥ = cc in no)

pub none_open_at_all : (s : ShardState) → has_open s.store ≡ false → (upto : ℕ) → NoneOpen s upto
none_open_at_all s none upto place sign lt at lacks =
    let found = cell_at s place sign at in
    let shut : is_open (found.0).body ≡ false = none_pass (λ (cell : Cell). is_open cell.body) s.store.order none found.0 (in_at s.store.order place found.0 found.1) in
    let awaits : is_open (found.0).body ≡ true = open_lacks (found.0).body (ap (λ (x : Sign). x.sort) found.2 ∙ lacks) in
    let wrong : true ≡ false = sym awaits ∙ shut in
    absurd (let no : ⊥ = cc in no)

-- ---- jobs that follow each other
pub unplaced_follow : (s : ShardState) (from : ℕ) (jobs : List PlaceJob) → FollowOn from (length_of s) jobs → first_unplaced s jobs ≡ from
unplaced_follow s from [] h = sym h
unplaced_follow s from (job ∷ jobs) h = h.0

pub follow_within : (from end : ℕ) (jobs : List PlaceJob) → FollowOn from end jobs → from ≤ end
follow_within from end [] h = omega arith
follow_within from end (job ∷ jobs) h = let rest = follow_within job.end end jobs h.2 in let first = h.0 in let forward = h.1 in omega arith

-- each of them begins at the first one or behind it, and ends within
pub job_within : (from end : ℕ) (jobs : List PlaceJob) → FollowOn from end jobs → (job : PlaceJob) → In job jobs → (from ≤ job.from) × (job.from ≤ job.end) × (job.end ≤ end)
job_within from end [] h job i = absurd i
job_within from end (first ∷ jobs) h job (inl is) =
    let rest = follow_within first.end end jobs h.2 in
    let begins : first.from ≡ from = h.0 in
    let forward : first.from ≤ first.end = h.1 in
    let one : first.from ≡ job.from = ap (λ (x : PlaceJob). x.from) is in
    let two : first.end ≡ job.end = ap (λ (x : PlaceJob). x.end) is in
    (omega arith, omega arith, omega arith)
job_within from end (first ∷ jobs) h job (inr i) =
    let later = job_within first.end end jobs h.2 job i in
    let begins : first.from ≡ from = h.0 in
    let forward : first.from ≤ first.end = h.1 in
    let one = later.0 in
    (omega arith, later.1, later.2)

-- what holds of each member by its place holds of each
pub at_each : {A : Type 0} (P : A → Type 0) (xs : List A) → ((k : ℕ) (x : A) → slice_get xs k ≡ Some x → P x) → Each P xs
at_each P [] f = tt
at_each P (z ∷ zs) f = (f 0 z refl, at_each P zs (λ k x at. f (suc k) x at))

pub at_first : {A : Type 0} (P : ℕ → A → Type 0) (xs : List A) → ((k : ℕ) (x : A) → slice_get xs k ≡ Some x → P k x) → EachFrom P 0 xs
at_first P xs f = at_each_from P 0 xs (λ k x at. let same : k ≡ 0 + k = omega arith in subst (λ (n : ℕ). P n x) same (f k x at))
