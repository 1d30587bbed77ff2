-- Reads of distinct clients, and the first that is ready.
use Rattle.std.proofs.Common.{◌≡◌, ℕ, suc, ◌+◌, ◌<◌, ◌≤◌, List, [], ◌∷◌, ◌++◌, Bool, true, false, not, ◌||◌, inl, inr, cond, eqb, ltb, Some, None, length, take, drop, map, subst, sym, ap, ◌∙◌, refl, arith}
use Rattle.std.specs.List.{AllByRecursion, IsDistinct, position, position_or_len, remove, slice_get}
use Rattle.std.proofs.lemmas.Bool.{cases_lt, lt-ltb, ltb-true, cond_both, or_cases, or_left, or_right, eqb-true}
use Rattle.std.proofs.lemmas.List.{take_at, take_all, drop_all, append-nil, map_push, length-map}
use Rattle.std.proofs.lemmas.Option.{cond_some, slice_get_past}
use Rattle.std.proofs.lemmas.Map.Keys.{IsDistinct-head, IsDistinct-tail, IsDistinct-cons}
use Rattle.view_config.specs.declared.limits.TheConstants.{MAX_CLIENTS}
use Rattle.lazy_rules.specs.Flight.{Probe, has_probe_of, is_ready, ready}
use Rattle.binder.specs.Binding.{after_ready}
use Rattle.lazy_rules.specs.Rows.{has_node}
use Rattle.binder.specs.Held.{IsRoster, clients}
use Rattle.binder.proofs.Rosters.{few, with_answer, room_for}

-- ---- whose they are
pub client_is : (probes : List Probe) (client : ℕ) → has_node (clients probes) client ≡ has_probe_of probes client
client_is [] client = refl
client_is (x ∷ xs) client = ap (λ (b : Bool). eqb x.client client || b) (client_is xs client)

pub clients_stay : (probe : Probe) (probes : List Probe) → clients (map (λ other. cond (eqb other.client probe.client) probe other) probes) ≡ clients probes
clients_stay probe [] = refl
clients_stay probe (x ∷ xs) =
    ap (λ (l : List ℕ). (cond (eqb x.client probe.client) probe x).client ∷ l) (clients_stay probe xs)
    ∙ ap (λ (c : ℕ). c ∷ clients xs) (cond_both (eqb x.client probe.client) probe x (λ p. p.client ≡ x.client) (λ same. sym (eqb-true x.client probe.client same)) (λ _. refl))

pub few_reads : (probes : List Probe) (room : ℕ) → IsRoster MAX_CLIENTS (clients probes) room → length probes ≤ MAX_CLIENTS
few_reads probes room roster =
    omega (arith, few MAX_CLIENTS (clients probes) roster.once roster.below, length-map probes (λ (p : Probe). p.client))

pub roster_stays : (probe : Probe) (probes new : List Probe) (room : ℕ) → new ≡ map (λ other. cond (eqb other.client probe.client) probe other) probes
    → IsRoster MAX_CLIENTS (clients probes) room → IsRoster MAX_CLIENTS (clients new) room
roster_stays probe probes new room is roster =
    subst (λ (nodes : List ℕ). IsRoster MAX_CLIENTS nodes room) (sym (ap clients is ∙ clients_stay probe probes)) roster

pub roster_more : (probe : Probe) (probes : List Probe) (room : ℕ) → probe.client < MAX_CLIENTS → has_probe_of probes probe.client ≡ false
    → IsRoster MAX_CLIENTS (clients probes) room → IsRoster MAX_CLIENTS (clients (probes ++ probe ∷ [])) room
roster_more probe probes room inside new roster =
    subst (λ (nodes : List ℕ). IsRoster MAX_CLIENTS nodes room) (sym (map_push (λ (p : Probe). p.client) probes probe))
    (with_answer MAX_CLIENTS (clients probes) room roster probe.client inside (client_is probes probe.client ∙ new))

pub room_more : (probe : Probe) (probes : List Probe) (room : ℕ) → probe.client < MAX_CLIENTS → has_probe_of probes probe.client ≡ false
    → IsRoster MAX_CLIENTS (clients probes) room → length probes < room
room_more probe probes room inside new roster =
    let more = room_for MAX_CLIENTS (clients probes) room roster probe.client inside (client_is probes probe.client ∙ new) in
    omega (arith, more, length-map probes (λ (p : Probe). p.client))

module _ (bound : ℕ) where
  all_left : (P : ℕ → Type 0) (probes : List Probe) → AllByRecursion P (clients probes) → AllByRecursion P (clients (after_ready bound probes))
  all_left P [] all = all
  all_left P (x ∷ xs) all = cond_both (is_ready bound x) xs (x ∷ after_ready bound xs) (λ l. AllByRecursion P (clients l)) (λ _. all.1) (λ _. (all.0, all_left P xs all.1))

  once_left : (probes : List Probe) → IsDistinct eqb (clients probes) → IsDistinct eqb (clients (after_ready bound probes))
  once_left [] once = once
  once_left (x ∷ xs) once =
      let rest = IsDistinct-tail eqb x.client (clients xs) once in
      let apart = IsDistinct-head eqb x.client (clients xs) once in
      cond_both (is_ready bound x) xs (x ∷ after_ready bound xs) (λ l. IsDistinct eqb (clients l)) (λ _. rest)
      (λ _. IsDistinct-cons eqb x.client (clients (after_ready bound xs)) (all_left (λ y. eqb x.client y ≡ false) xs apart) (once_left xs rest))

  has_left : (probes : List Probe) (client : ℕ) → has_node (clients (after_ready bound probes)) client ≡ true → has_node (clients probes) client ≡ true
  has_left [] client = λ is. is
  has_left (x ∷ xs) client = cond_both (is_ready bound x) xs (x ∷ after_ready bound xs)
      (λ l. has_node (clients l) client ≡ true → has_node (clients (x ∷ xs)) client ≡ true)
      (λ _ is. or_right (eqb x.client client) (has_node (clients xs) client) is)
      (λ _ is. elim (or_cases (eqb x.client client) (has_node (clients (after_ready bound xs)) client) is) [
        | inl here ↦ or_left (eqb x.client client) (has_node (clients xs) client) here
        | inr later ↦ or_right (eqb x.client client) (has_node (clients xs) client) (has_left xs client later)
      ])

  pub roster_left : (probes : List Probe) (room : ℕ) → IsRoster MAX_CLIENTS (clients probes) room → IsRoster MAX_CLIENTS (clients (after_ready bound probes)) room
  roster_left probes room roster = record {
    once = once_left probes roster.once;
    below = λ client is. roster.below client (has_left probes client is);
    fits = roster.fits;
  }

  -- ---- the first that is ready
  pub ready_is : (probes : List Probe) → ready bound probes ≡ slice_get probes (position_or_len (is_ready bound) probes)
  ready_is [] = refl
  ready_is (x ∷ xs) = by_test (is_ready bound x) (position_or_len (is_ready bound) xs) (ready_is xs)
    where
      by_test : (b : Bool) (place : ℕ) → ready bound xs ≡ slice_get xs place
          → cond b (Some x) (ready bound xs) ≡ slice_get (x ∷ xs) (cond (not b) (1 + place) 0)
      by_test true place rest = refl
      by_test false place rest =
          let next : suc place ≡ 1 + place = omega arith in
          rest ∙ ap (slice_get (x ∷ xs)) next

  pub after_is : (probes : List Probe) → after_ready bound probes ≡ remove probes (position_or_len (is_ready bound) probes)
  after_is [] = refl
  after_is (x ∷ xs) = by_test (is_ready bound x) (position_or_len (is_ready bound) xs) (after_is xs)
    where
      by_test : (b : Bool) (place : ℕ) → after_ready bound xs ≡ remove xs place
          → cond b xs (x ∷ after_ready bound xs) ≡ remove (x ∷ xs) (cond (not b) (1 + place) 0)
      by_test true place rest = refl
      by_test false place rest =
          let next : suc place ≡ 1 + place = omega arith in
          ap (λ (l : List Probe). x ∷ l) rest ∙ ap (remove (x ∷ xs)) next

  pub found_ready : (probes : List Probe) (i : ℕ) → position (is_ready bound) probes ≡ Some i
      → (i < length probes) × (ready bound probes ≡ slice_get probes i) × (after_ready bound probes ≡ remove probes i)
  found_ready probes i found =
      let place = position_or_len (is_ready bound) probes in
      let is = cond_some (ltb place (length probes)) place i found in
      let inside = ltb-true place (length probes) is.0 in
      (omega (arith, is.1), ready_is probes ∙ ap (slice_get probes) is.1, after_is probes ∙ ap (remove probes) is.1)

  pub none_ready : (probes : List Probe) → position (is_ready bound) probes ≡ None
      → (ready bound probes ≡ None) × (after_ready bound probes ≡ probes)
  none_ready probes none =
      let place = position_or_len (is_ready bound) probes in
      let past : length probes ≤ place = elim (cases_lt place (length probes)) [
        | inl inside ↦
            let some : position (is_ready bound) probes ≡ Some place =
            ap (λ (b : Bool). cond b (Some place) None) (lt-ltb place (length probes) inside) in
            let wrong : None ≡ Some place = sym none ∙ some in
            cc
        | inr past ↦ past
      ] in
      let later : length probes ≤ suc place = omega arith in
      let whole : remove probes place ≡ probes = rw (take_all place probes past, drop_all (suc place) probes later) (append-nil probes) in
      (ready_is probes ∙ slice_get_past probes place past, after_is probes ∙ whole)

-- what a slice of a vector leaves there, once all of it was written
pub written : {X : Type 0} (old new : List X) (len : ℕ) → len ≡ length new → take len (new ++ drop (length new) old) ≡ new
written old new len is = take_at new (drop (length new) old) len (sym is)
