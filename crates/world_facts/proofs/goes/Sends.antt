-- What holds of each message of a list that rows make.
use Rattle.std.proofs.Common.{◌≡◌, ℕ, ◌+◌, List, [], ◌∷◌, Bool, true, false, Option, Some, None, refl}
use Rattle.std.specs.Prelude.{slice_get, unwrap_or, if◌then◌else◌}
use Rattle.std.specs.List.{filter, flat_map}
use Rattle.list_facts.specs.Lists.{Each}
use Rattle.list_facts.proofs.Members.{each_append}
use Rattle.list_facts.proofs.Places.{each_at}
use Rattle.view_config.specs.Shape.{Dimensions}
use Rattle.view_config.specs.declared.config.Config.{Config}
use Rattle.lazy_rules.specs.Roles.{first_of, others_of, replicas_at, replicas_of, primaries_of}
use Rattle.lazy_rules.specs.Rows.{each_numbered}
use Rattle.world_facts.specs.Members.{IsGroup, IsNamed, IsShardNode, Goes}
use Rattle.lazy_msgs.specs.declared.input.Input.{Input}
use Rattle.lazy_msgs.specs.declared.input.Input.TheVariants.{Take}

module _ {A : Type 0} (P : A → Type 0) where
  pub each_filter : (p : A → Bool) (xs : List A) → Each P xs → Each P (filter p xs)
  each_filter p [] h = tt
  each_filter p (x ∷ xs) h = by (p x) (each_filter p xs h.1)
    where
      by : (b : Bool) → Each P (filter p xs) → Each P (if b then x ∷ filter p xs else filter p xs)
      by true rest = (h.0, rest)
      by false rest = rest

module _ {A B : Type 0} (P : B → Type 0) where
  pub each_flat_map : (f : A → List B) (Q : A → Type 0) → ((x : A) → Q x → Each P (f x)) → (xs : List A) → Each Q xs → Each P (flat_map f xs)
  each_flat_map f Q g [] h = tt
  each_flat_map f Q g (x ∷ xs) h = each_append P (f x) (flat_map f xs) (g x h.0) (each_flat_map f Q g xs h.1)

  pub each_of_numbered : (make : ℕ → A → List B) (Q : A → Type 0) → ((i : ℕ) (x : A) → Q x → Each P (make i x)) → (i : ℕ) (xs : List A) → Each Q xs → Each P (each_numbered make i xs)
  each_of_numbered make Q g i [] h = tt
  each_of_numbered make Q g i (x ∷ xs) h = each_append P (make i x) (each_numbered make (i + 1) xs) (g i x h.0) (each_of_numbered make Q g (i + 1) xs h.1)

-- nothing is asked of the members
pub any : {A : Type 0} (xs : List A) → Each (λ (x : A). Unit {0}) xs
any [] = tt
any (x ∷ xs) = (tt, any xs)

pub each_first : (P : ℕ → Type 0) (nodes : List ℕ) → Each P nodes → Each P (first_of nodes)
each_first P [] h = tt
each_first P (node ∷ nodes) h = (h.0, tt)

pub each_other : (P : ℕ → Type 0) (nodes : List ℕ) → Each P nodes → Each P (others_of nodes)
each_other P [] h = tt
each_other P (node ∷ nodes) h = h.1

module _ (shape : Dimensions) (config : Config) (named : IsNamed shape config) where
  pub primaries_named : Each (IsShardNode shape) (primaries_of config)
  primaries_named = each_flat_map (IsShardNode shape) first_of (IsGroup shape) (λ nodes h. each_first (IsShardNode shape) nodes h.each) config.shards named.shards

  pub replicas_named : Each (IsShardNode shape) (replicas_of config)
  replicas_named = each_flat_map (IsShardNode shape) (λ (nodes : List ℕ). nodes) (IsGroup shape) (λ nodes h. h.each) config.shards named.shards

  pub homes_named : (shard : ℕ) → Each (IsShardNode shape) (replicas_at config shard)
  homes_named shard = by (slice_get config.shards shard) refl
    where
      by : (o : Option (List ℕ)) → slice_get config.shards shard ≡ o → Each (IsShardNode shape) (unwrap_or o [])
      by None is = tt
      by (Some nodes) is = (each_at (IsGroup shape) config.shards named.shards shard nodes is).each

-- what a node takes goes to it
abbrev pub GivenTo : Dimensions → ℕ → Input → Type 0
GivenTo shape me (Take e) = Goes shape e.from me e.msg
GivenTo shape me _ = Unit {0}
