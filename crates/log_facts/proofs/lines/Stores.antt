-- Whom the shards are asked at: their first replicas, which are there where no shard is lost.
use Rattle.std.proofs.Common.{◌≡◌, ℕ, ◌<◌, ◌≤◌, List, [], ◌∷◌, length, cond, Bool, true, false, Option, Some, None, slice_get, inl, inr, refl, sym, ap, ◌∙◌, subst, arith}
use Rattle.std.specs.Prelude.{Ok, Err, unwrap_or, option_map, option_and_then}
use Rattle.std.specs.List.{find, list_any}
use Rattle.std.specs.Option.{is_none, option_map_or}
use Rattle.std.proofs.lemmas.Bool.{or_parts}
use Rattle.std.proofs.lemmas.Option.{get_or_from_slice_get, slice_get-map}
use Rattle.list_facts.specs.Lists.{In}
use Rattle.list_facts.proofs.Places.{below_at, in_at}
use Rattle.list_facts.proofs.Positions.{none_passes}
use Rattle.rec_id.specs.declared.entry.Entry.{Entry}
use Rattle.view_config.specs.Shape.{node_of}
use Rattle.lazy_rules.specs.ControlState.{newest}
use Rattle.lazy_rules.specs.Lines.{first_alive, first_store, first_stores, line_of, line_told, lost_shard, shard_at, store_numbered, store_of}
use Rattle.lazy_rules.specs.Roles.{replicas_at}
use Rattle.lazy_rules.specs.ShardState.{ShardState}
use Rattle.lazy_rules.specs.WorldState.{WorldState}
use Rattle.log_facts.specs.Parts.{parts_of, no_shard}

-- a line that is told is the line, and no shard is lost
told_or_lost : (line told : List Entry) (lost : Option ℕ) → option_map_or Err lost (Ok line) ≡ Ok told → (lost ≡ None) × (line ≡ told)
told_or_lost line told None h = (refl, cc)
told_or_lost line told (Some shard) h = cc

pub told_line : (w : WorldState) (holder : ℕ) (line : List Entry) → line_told w holder ≡ Ok line → (lost_shard w ≡ None) × (line_of w holder ≡ line)
told_line w holder line h = told_or_lost (line_of w holder) line (lost_shard w) h

module _ {A : Type 0} (p : A → Bool) where
  find_in : (xs : List A) (x : A) → find p xs ≡ Some x → In x xs
  find_in [] x h = cc
  find_in (z ∷ zs) x h = by (λ e. find_in zs x e) (p z) h
    where
      by : (find p zs ≡ Some x → In x zs) → (b : Bool) → cond b (Some z) (find p zs) ≡ Some x → In x (z ∷ zs)
      by rest true e = inl (let is : Some z ≡ Some x = e in cc)
      by rest false e = inr (rest e)

  none_pass : (xs : List A) → list_any p xs ≡ false → (x : A) → In x xs → p x ≡ false
  none_pass [] h x m = absurd m
  none_pass (z ∷ zs) h x (inl e) = ap p (sym e) ∙ (or_parts (p z) (list_any p zs) h).0
  none_pass (z ∷ zs) h x (inr m) = none_pass zs (or_parts (p z) (list_any p zs) h).1 x m

-- a replica that has a view is there
pub shard_there : (w : WorldState) (d : ℕ) → 1 ≤ ((parts_of w).shards d).view → shard_at w (node_of w.shape d) ≡ Some ((parts_of w).shards d)
shard_there w d some = by (shard_at w (node_of w.shape d)) refl
  where
    by : (o : Option ShardState) → shard_at w (node_of w.shape d) ≡ o → shard_at w (node_of w.shape d) ≡ Some ((parts_of w).shards d)
    by None e =
        let none : ((parts_of w).shards d).view ≡ 0 = ap (λ (s : Option ShardState). (unwrap_or s (no_shard w.shape d)).view) e in
        absurd (omega arith)
    by (Some s) e = e ∙ ap Some (sym (ap (λ (s : Option ShardState). unwrap_or s (no_shard w.shape d)) e))

-- the first replica of a shard
pub record IsFirst (w : WorldState) (shard d : ℕ) : Type 0 where
  pub listed : In d (replicas_at (newest w.control) shard)
  pub has : store_of (first_stores w) shard ≡ Some ((parts_of w).shards d).store

pub record HasFirst (w : WorldState) (shard : ℕ) : Type 0 where
  pub node : ℕ
  pub is : IsFirst w shard node

module _ (w : WorldState) (spared : lost_shard w ≡ None) (taken : (shard d : ℕ) → In d (replicas_at (newest w.control) shard) → 1 ≤ ((parts_of w).shards d).view) where
  abbrev is_lost : List ℕ → Bool
  is_lost nodes = is_none (first_alive w nodes)

  spared_at : (shard : ℕ) (nodes : List ℕ) → slice_get (newest w.control).shards shard ≡ Some nodes → is_lost nodes ≡ false
  spared_at shard nodes here = none_pass is_lost (newest w.control).shards (none_passes is_lost (newest w.control).shards (sym spared)) nodes (in_at (newest w.control).shards shard nodes here)

  pub has_first : (shard : ℕ) → shard < length (newest w.control).shards → HasFirst w shard
  has_first shard there =
      let at = below_at (newest w.control).shards shard there in
      by at.0 at.1 (first_alive w at.0) refl (spared_at shard at.0 at.1)
    where
      by : (nodes : List ℕ) → slice_get (newest w.control).shards shard ≡ Some nodes → (o : Option ℕ) → first_alive w nodes ≡ o → is_none (first_alive w nodes) ≡ false → HasFirst w shard
      by nodes here None e some = let wrong : true ≡ false = ap is_none (sym e) ∙ some in cc
      by nodes here (Some d) e some =
          let listed : In d (replicas_at (newest w.control) shard) = subst (λ (o : Option (List ℕ)). In d (unwrap_or o [])) (sym here) (find_in _ nodes d e) in
          let numbered : store_numbered w d ≡ Some ((parts_of w).shards d).store = ap (option_map (λ (s : ShardState). s.store)) (shard_there w d (taken shard d listed)) in
          let stored : first_store w nodes ≡ Some ((parts_of w).shards d).store = ap (option_and_then (store_numbered w)) e ∙ numbered in
          let listed_store : slice_get (first_stores w) shard ≡ Some (first_store w nodes) = slice_get-map (first_store w) (newest w.control).shards shard ∙ ap (option_map (first_store w)) here in
          record { node = d; is = record { listed = listed; has = get_or_from_slice_get (first_stores w) shard (first_store w nodes) None listed_store ∙ stored } }
