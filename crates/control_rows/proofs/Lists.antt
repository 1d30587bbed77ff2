-- Places and members of lists: fronts, filtered lists, and the configuration without a node.
use Rattle.std.proofs.Common.{◌≡◌, ◌⊎◌, ℕ, zero, suc, ◌+◌, ◌<◌, List, [], ◌∷◌, ◌++◌, length, take, Bool, true, false, not, cond, Option, Some, None, slice_get, inl, inr, refl, sym, ap, ◌∙◌, subst, arith}
use Rattle.std.specs.Prelude.{unwrap_or, ◌==◌, filter}
use Rattle.std.specs.List.{range_with_len, position_or_len}
use Rattle.std.specs.Option.{option_map}
use Rattle.std.proofs.Math.Numerals.{one-add}
use Rattle.std.proofs.lemmas.Bool.{eqb-true, eq-eqb, or_right}
use Rattle.std.proofs.lemmas.Option.{slice_get-map}
use Rattle.list_facts.specs.Lists.{In, Precedes, Distinct}
use Rattle.list_facts.proofs.Members.{in_filter, in_passes, all_pass, in_more}
use Rattle.list_facts.proofs.Distinctness.{distinct_append}
use Rattle.list_facts.proofs.Positions.{position_some}
use Rattle.list_facts.proofs.Ranges.{below_in_range}
use Rattle.view_config.specs.declared.config.Config.{Config}
use Rattle.view_config.specs.Without.{is_among, unsuspected, replaced, without}
use Rattle.lazy_rules.specs.Flight.{answered_by, has_all}
use Rattle.lazy_rules.specs.Roles.{is_first, first_of, replicas_at, shard_led_by}
use Rattle.lazy_rules.specs.Rows.{has_node}

module _ {A : Type 0} where
  -- ---- how a list begins
  pub at_take : (n : ℕ) (xs : List A) (k : ℕ) → k < n → slice_get (take n xs) k ≡ slice_get xs k
  at_take zero xs k lt = absurd (omega arith)
  at_take (suc n) [] k lt = refl
  at_take (suc n) (z ∷ zs) zero lt = refl
  at_take (suc n) (z ∷ zs) (suc k) lt = at_take n zs k (omega arith)

  pub in_take : (n : ℕ) (xs : List A) (x : A) → In x (take n xs) → In x xs
  in_take zero xs x h = absurd h
  in_take (suc n) [] x h = absurd h
  in_take (suc n) (z ∷ zs) x (inl e) = inl e
  in_take (suc n) (z ∷ zs) x (inr h) = inr (in_take n zs x h)

  -- ---- two lists, one behind the other
  pub at_right : (xs ys : List A) (k : ℕ) → slice_get (xs ++ ys) (length xs + k) ≡ slice_get ys k
  at_right [] ys k = let e : 0 + k ≡ k = omega arith in ap (slice_get ys) e
  at_right (z ∷ zs) ys k = let e : suc (length zs) + k ≡ suc (length zs + k) = omega arith in ap (slice_get ((z ∷ zs) ++ ys)) e ∙ at_right zs ys k

  -- ---- what passes a test
  pub precedes_filter : (p : A → Bool) (xs : List A) (x y : A) → Precedes x y (filter p xs) → Precedes x y xs
  precedes_filter p [] x y h = absurd h
  precedes_filter p (z ∷ zs) x y h = by (precedes_filter p zs x y) (p z) h
    where
      by : (Precedes x y (filter p zs) → Precedes x y zs) → (b : Bool) → Precedes x y (cond b (z ∷ filter p zs) (filter p zs)) → Precedes x y (z ∷ zs)
      by later true (inl k) = inl (k.0, (in_filter p zs y k.1).0)
      by later true (inr k) = inr (later k)
      by later false k = inr (later k)

  pub distinct_filter : (p : A → Bool) (xs : List A) → Distinct xs → Distinct (filter p xs)
  distinct_filter p [] h = tt
  distinct_filter p (z ∷ zs) h = by (distinct_filter p zs h.1) (p z)
    where
      by : Distinct (filter p zs) → (b : Bool) → Distinct (cond b (z ∷ filter p zs) (filter p zs))
      by later true = (λ m. h.0 (in_filter p zs z m).0, later)
      by later false = later

  pub distinct_take : (n : ℕ) (xs : List A) → Distinct xs → Distinct (take n xs)
  distinct_take zero xs h = tt
  distinct_take (suc n) [] h = tt
  distinct_take (suc n) (z ∷ zs) h = (λ m. h.0 (in_take n zs z m), distinct_take n zs h.1)

-- ---- nodes among others
pub node_in : (nodes : List ℕ) (node : ℕ) → has_node nodes node ≡ true → In node nodes
node_in nodes node h = let k = in_passes (λ other. other == node) nodes h in subst (λ x. In x nodes) (eqb-true k.0 node k.2) k.1

pub in_node : (nodes : List ℕ) (node : ℕ) → In node nodes → has_node nodes node ≡ true
in_node [] node h = absurd h
in_node (z ∷ zs) node (inl e) = rw (eq-eqb z node e)
in_node (z ∷ zs) node (inr h) = or_right (z == node) (has_node zs node) (in_node zs node h)

pub first_in : (nodes : List ℕ) (node : ℕ) → is_first nodes node ≡ true → In node nodes
first_in [] node h = let wrong : false ≡ true = h in cc
first_in (z ∷ zs) node h = inl (eqb-true z node h)

pub first_is : (nodes : List ℕ) (node : ℕ) → In node (first_of nodes) → is_first nodes node ≡ true
first_is [] node h = absurd h
first_is (z ∷ zs) node (inl e) = eq-eqb z node e
first_is (z ∷ zs) node (inr none) = absurd none

-- one answer more
pub in_answered : (answers : List ℕ) (i x : ℕ) → In x (answered_by answers i) → In x answers ⊎ (i ≡ x)
in_answered answers i x h = by (has_node answers i) h
  where
    by : (b : Bool) → In x (cond b answers (answers ++ i ∷ [])) → In x answers ⊎ (i ≡ x)
    by true k = inl k
    by false k = in_more x i answers k

-- all have answered
pub all_answered : (count : ℕ) (answers : List ℕ) → has_all count answers ≡ true → (i : ℕ) → i < count → In i answers
all_answered count answers h i lt = node_in answers i (all_pass (has_node answers) (range_with_len 0 count) h i (below_in_range count i lt))

-- ---- the configuration without a node
unsuspected_at : (suspects : List ℕ) (o : Option (List ℕ)) → unwrap_or (option_map (unsuspected suspects) o) [] ≡ unsuspected suspects (unwrap_or o [])
unsuspected_at suspects None = refl
unsuspected_at suspects (Some nodes) = refl

pub replicas_without : (config : Config) (suspects spares : List ℕ) (shard : ℕ) → replicas_at (without config suspects spares) shard ≡ unsuspected suspects (replicas_at config shard)
replicas_without config suspects spares shard =
    ap (λ o. unwrap_or o []) (slice_get-map (unsuspected suspects) config.shards shard) ∙ unsuspected_at suspects (slice_get config.shards shard)

pub replaced_distinct : (suspects spares nodes : List ℕ) → Distinct nodes → Distinct spares → ((x : ℕ) → In x nodes → In x spares → ⊥) → Distinct (replaced suspects spares nodes)
replaced_distinct suspects spares nodes one two apart =
    distinct_take (length nodes) (unsuspected suspects nodes ++ unsuspected suspects spares)
    (distinct_append (unsuspected suspects nodes) (unsuspected suspects spares)
    (distinct_filter (λ node. not (is_among suspects node)) nodes one)
    (distinct_filter (λ node. not (is_among suspects node)) spares two)
    (λ x h k. apart x (in_filter (λ node. not (is_among suspects node)) nodes x h).0 (in_filter (λ node. not (is_among suspects node)) spares x k).0))

-- the shard of whose list the node is the first
first_at : (p : List ℕ → Bool) → p [] ≡ false → (shards : List (List ℕ)) → position_or_len p shards < length shards → p (unwrap_or (slice_get shards (position_or_len p shards)) []) ≡ true
first_at p none [] lt = absurd (omega arith)
first_at p none (nodes ∷ shards) lt = by (first_at p none shards) (p nodes) refl lt
  where
    by : (position_or_len p shards < length shards → p (unwrap_or (slice_get shards (position_or_len p shards)) []) ≡ true)
        → (b : Bool) → p nodes ≡ b → cond (not b) (1 + position_or_len p shards) 0 < suc (length shards)
        → p (unwrap_or (slice_get (nodes ∷ shards) (cond (not b) (1 + position_or_len p shards) 0)) []) ≡ true
    by later true is lt = is
    by later false is lt = rw one-add (later (omega arith))

pub led_first : (config : Config) (node shard : ℕ) → shard_led_by config node ≡ Some shard → is_first (replicas_at config shard) node ≡ true
led_first config node shard h =
    let found = position_some (λ nodes. is_first nodes node) config.shards shard (sym h) in
    rw found.1 (first_at (λ nodes. is_first nodes node) refl config.shards found.0)
