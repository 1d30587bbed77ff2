-- A node's call keeps its role, and so all nodes stay at their places.
use Rattle.std.proofs.Common.{◌≡◌, ℕ, zero, suc, List, [], ◌∷◌, Some, subst}
use Rattle.std.specs.Prelude.{slice_get, slice_set}
use Rattle.lazy_msgs.specs.declared.input.Input.{Input}
use Rattle.lazy_core.specs.declared.node_state.NodeState.{NodeState}
use Rattle.lazy_core.specs.declared.node_state.NodeState.TheVariants.{Seq, Shard, Client, Control}
use Rattle.lazy_core.specs.NodeCall.{node_call}
use Rattle.lazy_core.specs.Standing.{AreNodes, AreSeqs, AreShards}

-- two states of nodes of one role
abbrev pub AreAlike : NodeState → NodeState → Type 0
AreAlike (Seq a) (Seq b) = Unit {0}
AreAlike (Shard a) (Shard b) = Unit {0}
AreAlike (Client a r) (Client b s) = Unit {0}
AreAlike (Control a) (Control b) = Unit {0}
AreAlike _ _ = ⊥

pub alike_same : (state : NodeState) → AreAlike state state
alike_same (Seq s) = tt
alike_same (Shard s) = tt
alike_same (Client a r) = tt
alike_same (Control k) = tt

pub call_alike : (state : NodeState) (input : Input) → AreAlike state (node_call state input).next
call_alike (Seq s) input = tt
call_alike (Shard s) input = tt
call_alike (Client a r) input = tt
call_alike (Control k) input = tt

-- a state of the same role may stand in front
shard_first : (n : ℕ) (old new : NodeState) (others : List NodeState) → AreAlike old new → AreShards n (old ∷ others) → AreShards n (new ∷ others)
shard_first zero old new others alike laid = absurd laid
shard_first (suc n) (Seq s) new others alike laid = absurd laid
shard_first (suc n) (Client a r) new others alike laid = absurd laid
shard_first (suc n) (Control k) new others alike laid = absurd laid
shard_first (suc n) (Shard s) (Seq t) others alike laid = absurd alike
shard_first (suc n) (Shard s) (Client b t) others alike laid = absurd alike
shard_first (suc n) (Shard s) (Control t) others alike laid = absurd alike
shard_first (suc n) (Shard s) (Shard t) others alike laid = laid

seq_first : (m n : ℕ) (old new : NodeState) (others : List NodeState) → AreAlike old new → AreSeqs m n (old ∷ others) → AreSeqs m n (new ∷ others)
seq_first zero n old new others alike laid = shard_first n old new others alike laid
seq_first (suc m) n (Shard s) new others alike laid = absurd laid
seq_first (suc m) n (Client a r) new others alike laid = absurd laid
seq_first (suc m) n (Control k) new others alike laid = absurd laid
seq_first (suc m) n (Seq s) (Shard t) others alike laid = absurd alike
seq_first (suc m) n (Seq s) (Client b t) others alike laid = absurd alike
seq_first (suc m) n (Seq s) (Control t) others alike laid = absurd alike
seq_first (suc m) n (Seq s) (Seq t) others alike laid = laid

node_first : (c m n : ℕ) (old new : NodeState) (others : List NodeState) → AreAlike old new → AreNodes c m n (old ∷ others) → AreNodes c m n (new ∷ others)
node_first zero m n (Seq s) new others alike laid = absurd laid
node_first zero m n (Shard s) new others alike laid = absurd laid
node_first zero m n (Client a r) new others alike laid = absurd laid
node_first zero m n (Control k) (Seq t) others alike laid = absurd alike
node_first zero m n (Control k) (Shard t) others alike laid = absurd alike
node_first zero m n (Control k) (Client b t) others alike laid = absurd alike
node_first zero m n (Control k) (Control t) others alike laid = laid
node_first (suc c) m n (Seq s) new others alike laid = absurd laid
node_first (suc c) m n (Shard s) new others alike laid = absurd laid
node_first (suc c) m n (Control k) new others alike laid = absurd laid
node_first (suc c) m n (Client a r) (Seq t) others alike laid = absurd alike
node_first (suc c) m n (Client a r) (Shard t) others alike laid = absurd alike
node_first (suc c) m n (Client a r) (Control t) others alike laid = absurd alike
node_first (suc c) m n (Client a r) (Client b t) others alike laid = laid

-- and anywhere
module _ (old new : NodeState) (alike : AreAlike old new) where
  shards_stay : (n : ℕ) (states : List NodeState) (place : ℕ) → slice_get states place ≡ Some old → AreShards n states → AreShards n (slice_set states place new)
  shards_stay n [] place here laid = laid
  shards_stay n (state ∷ others) zero here laid =
      let same : state ≡ old = cc in
      shard_first n old new others alike (subst (λ (s : NodeState). AreShards n (s ∷ others)) same laid)
  shards_stay zero (state ∷ others) (suc place) here laid = absurd laid
  shards_stay (suc n) (Seq s ∷ others) (suc place) here laid = absurd laid
  shards_stay (suc n) (Client a r ∷ others) (suc place) here laid = absurd laid
  shards_stay (suc n) (Control k ∷ others) (suc place) here laid = absurd laid
  shards_stay (suc n) (Shard s ∷ others) (suc place) here laid = shards_stay n others place here laid

  seqs_stay : (m n : ℕ) (states : List NodeState) (place : ℕ) → slice_get states place ≡ Some old → AreSeqs m n states → AreSeqs m n (slice_set states place new)
  seqs_stay zero n states place here laid = shards_stay n states place here laid
  seqs_stay (suc m) n [] place here laid = laid
  seqs_stay (suc m) n (state ∷ others) zero here laid =
      let same : state ≡ old = cc in
      seq_first (suc m) n old new others alike (subst (λ (s : NodeState). AreSeqs (suc m) n (s ∷ others)) same laid)
  seqs_stay (suc m) n (Shard s ∷ others) (suc place) here laid = absurd laid
  seqs_stay (suc m) n (Client a r ∷ others) (suc place) here laid = absurd laid
  seqs_stay (suc m) n (Control k ∷ others) (suc place) here laid = absurd laid
  seqs_stay (suc m) n (Seq s ∷ others) (suc place) here laid = seqs_stay m n others place here laid

  pub nodes_stay : (c m n : ℕ) (states : List NodeState) (place : ℕ) → slice_get states place ≡ Some old → AreNodes c m n states → AreNodes c m n (slice_set states place new)
  nodes_stay c m n [] place here laid = laid
  nodes_stay c m n (state ∷ others) zero here laid =
      let same : state ≡ old = cc in
      node_first c m n old new others alike (subst (λ (s : NodeState). AreNodes c m n (s ∷ others)) same laid)
  nodes_stay zero m n (Seq s ∷ others) (suc place) here laid = absurd laid
  nodes_stay zero m n (Shard s ∷ others) (suc place) here laid = absurd laid
  nodes_stay zero m n (Client a r ∷ others) (suc place) here laid = absurd laid
  nodes_stay zero m n (Control k ∷ others) (suc place) here laid = seqs_stay m n others place here laid
  nodes_stay (suc c) m n (Seq s ∷ others) (suc place) here laid = absurd laid
  nodes_stay (suc c) m n (Shard s ∷ others) (suc place) here laid = absurd laid
  nodes_stay (suc c) m n (Control k ∷ others) (suc place) here laid = absurd laid
  nodes_stay (suc c) m n (Client a r ∷ others) (suc place) here laid = nodes_stay c m n others place here laid
