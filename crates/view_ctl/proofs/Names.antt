-- A node is a replica of a configuration: one of its sequencing replicas, or of some shard.
use Rattle.std.proofs.Common.{◌≡◌, ℕ, List, [], ◌∷◌, Bool, refl, ap, ◌∙◌}
use Rattle.std.specs.Prelude.{flat_map, ◌||◌, ◌==◌}
use Rattle.std.specs.List.{list_any}
use Rattle.std.proofs.lemmas.List.Concat.{flat_map-cons}
use Rattle.std.proofs.lemmas.List.Folds.{list_any-append}
use Rattle.view_config.specs.declared.config.Config.{Config}
use Rattle.lazy_rules.specs.Roles.{replicas_of}
use Rattle.lazy_rules.specs.Rows.{has_node}

module _ {A : Type 0} (p : A → Bool) where
  pub any_flat : (xss : List (List A)) → list_any p (flat_map (λ xs. xs) xss) ≡ list_any (λ xs. list_any p xs) xss
  any_flat [] = refl
  any_flat (xs ∷ xss) =
      ap (list_any p) (flat_map-cons (λ (ys : List A). ys) xs xss)
      ∙ list_any-append p xs (flat_map (λ (ys : List A). ys) xss)
      ∙ ap (λ (b : Bool). list_any p xs || b) (any_flat xss)

pub names_replica : (config : Config) (node : ℕ) → has_node (replicas_of config) node ≡ list_any (λ nodes. has_node nodes node) config.shards
names_replica config node = any_flat (λ other. other == node) config.shards
