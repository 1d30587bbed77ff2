-- The configuration without a node, where it isn't refused, names nodes of the shape as well.
use Rattle.std.proofs.Common.{◌≡◌, ℕ, zero, suc, ◌≤◌, List, [], ◌∷◌, ◌++◌, length, map, take, Bool, true, false, not, Option, Some, None, refl, sym, ◌∙◌, arith}
use Rattle.std.specs.Prelude.{◌==◌, if◌then◌else◌, position}
use Rattle.std.specs.List.{list_any}
use Rattle.std.proofs.lemmas.Bool.{or_parts, eqb-false}
use Rattle.std.proofs.lemmas.Grind.{common_steps}
use Rattle.std.proofs.lemmas.List.{length-take, length-map}
use Rattle.list_facts.specs.Lists.{Each}
use Rattle.list_facts.proofs.Members.{each_append}
use Rattle.list_facts.proofs.Positions.{none_passes}
use Rattle.view_config.proofs.Kept.{fewer}
use Rattle.view_config.specs.Shape.{Dimensions}
use Rattle.view_config.specs.Without.{is_among, all_suspected, unsuspected, replaced, without, without_refusal, shard_refusal, as_index}
use Rattle.view_config.specs.declared.config.Config.{Config}
use Rattle.view_config.specs.declared.without.ConfigError.{ConfigError}
use Rattle.view_config.specs.declared.without.ConfigError.TheVariants.{LastSeq, LastOfShard}
use Rattle.world_facts.specs.Members.{IsGroup, IsNamed, IsSeqNode, IsShardNode}
use Rattle.world_facts.proofs.goes.Sends.{each_filter}

pub each_take : {A : Type 0} (P : A → Type 0) (n : ℕ) (xs : List A) → Each P xs → Each P (take n xs)
each_take P zero xs h = tt
each_take P (suc n) [] h = tt
each_take P (suc n) (x ∷ xs) h = (h.0, each_take P n xs h.1)

some_left : (suspects nodes : List ℕ) → all_suspected suspects nodes ≡ false → 1 ≤ length (unsuspected suspects nodes)
some_left suspects [] h = let wrong : true ≡ false = h in cc
some_left suspects (node ∷ nodes) h = grind (arith, common_steps, some_left suspects nodes)

-- why a refusal is none
pub seq_left : (b : Bool) (o : Option ConfigError) → (if b then Some LastSeq else o) ≡ None → (b ≡ false) × (o ≡ None)
seq_left true o h = let wrong : Some LastSeq ≡ None = h in cc
seq_left false o h = (refl, h)

shards_left : (view : ℕ) (o : Option ℕ) → shard_refusal view o ≡ None → o ≡ None
shards_left view None h = refl
shards_left view (Some shard) h = let wrong : Some (LastOfShard (as_index shard)) ≡ None = h in cc

module _ (shape : Dimensions) (suspects : List ℕ) where
  groups : (shards : List (List ℕ)) → list_any (all_suspected suspects) shards ≡ false → Each (IsGroup shape) shards → Each (IsGroup shape) (map (unsuspected suspects) shards)
  groups [] none h = tt
  groups (nodes ∷ shards) none h =
      let parts = or_parts (all_suspected suspects nodes) (list_any (all_suspected suspects) shards) none in
      let less = fewer (λ (node : ℕ). not (is_among suspects node)) nodes in
      let most = h.0.few in (
        record {
          some = some_left suspects nodes parts.0;
          few = omega arith;
          each = each_filter (IsShardNode shape) (λ (node : ℕ). not (is_among suspects node)) nodes h.0.each;
        },
        groups shards parts.1 h.1,
      )

  pub without_named : (config : Config) (spares : List ℕ) → IsNamed shape config → Each (IsSeqNode shape) spares → without_refusal config suspects spares ≡ None → IsNamed shape (without config suspects spares)
  without_named config spares named known allowed =
      let seq = seq_left (length (replaced suspects spares config.seq) == 0) (shard_refusal config.view (position (all_suspected suspects) config.shards)) allowed in
      let missing = shards_left config.view (position (all_suspected suspects) config.shards) seq.1 in
      let least = eqb-false (length (replaced suspects spares config.seq)) 0 seq.0 in
      let long = length-take (length config.seq) (unsuspected suspects config.seq ++ unsuspected suspects spares) in
      let most = named.few in
      record {
        view = omega arith;
        some = omega arith;
        few = omega arith;
        seq = each_take (IsSeqNode shape) (length config.seq) (unsuspected suspects config.seq ++ unsuspected suspects spares)
            (each_append (IsSeqNode shape) (unsuspected suspects config.seq) (unsuspected suspects spares)
            (each_filter (IsSeqNode shape) (λ (node : ℕ). not (is_among suspects node)) config.seq named.seq)
            (each_filter (IsSeqNode shape) (λ (node : ℕ). not (is_among suspects node)) spares known));
        count = length-map config.shards (unsuspected suspects) ∙ named.count;
        shards = groups config.shards (none_passes (all_suspected suspects) config.shards (sym missing)) named.shards;
      }
