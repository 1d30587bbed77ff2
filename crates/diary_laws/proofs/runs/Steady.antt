-- What a node claimed stays as it is in its order.
use Rattle.std.proofs.Common.{◌≡◌, ℕ, ◌+◌, ◌*◌, ◌≤◌, List, [], take, Option, Some, None, refl, sym, subst, arith}
use Rattle.std.specs.Prelude.{slice_get}
use Rattle.std.specs.Option.{option_map, option_map_or}
use Rattle.list_facts.specs.Lists.{In, Each}
use Rattle.list_facts.proofs.Members.{each_in}
use Rattle.rec_id.specs.Identity.{Identity}
use Rattle.view_config.specs.Shape.{Dimensions}
use Rattle.view_config.specs.declared.nodes.Node.{Node}
use Rattle.view_config.specs.declared.nodes.Node.TheVariants.{Client, Controller, Seq, Shard}
use Rattle.lazy_msgs.specs.declared.input.Input.{Input}
use Rattle.lazy_msgs.specs.declared.msg.Msg.{Msg}
use Rattle.lazy_msgs.specs.declared.msg.Msg.TheVariants.{Claim}
use Rattle.lazy_rules.specs.ClientNode.{ClientNode}
use Rattle.lazy_rules.specs.SeqState.{SeqState}
use Rattle.lazy_rules.specs.ShardState.{ShardState}
use Rattle.lazy_rules.specs.WorldRules.{client_node, ids_in, ids_at, ids_of_shard}
use Rattle.lazy_rules.specs.WorldState.{WorldState, first_world, first_shard_at, shard_place}
use Rattle.world_facts.proofs.Lists.{made_at}
use Rattle.diary_laws.specs.Nodes.{NodeState, OfClient, OfControl, OfSeq, OfShard, ids_of, node_step, state_of}
use Rattle.diary_laws.proofs.shards.Orders.{same_part}
use Rattle.diary_laws.proofs.shards.Rows.{ClaimsWithin, shard_firm}
use Rattle.diary_laws.proofs.shards.Stores.{Firm}

-- a shard replica's order reaches its stable number
abbrev pub Solid : NodeState → Type 0
Solid (OfShard s) = Firm 0 [] s.store
Solid _ = Unit {0}

-- the stable identities
abbrev pub front_of : ShardState → List Identity
front_of s = take s.store.stable (ids_in s.store.order)

-- a later state of the node begins with what was stable in this one
abbrev pub Still : NodeState → NodeState → Type 0
Still (OfShard a) (OfShard b) = Firm a.store.stable (front_of a) b.store
Still (OfShard a) _ = ⊥
Still _ (OfShard b) = ⊥
Still _ _ = Unit {0}

-- what is claimed in these messages is stable
abbrev pub StableIn : NodeState → List (ℕ × Msg) → Type 0
StableIn (OfShard s) sends = Each (λ send. ClaimsWithin s.store.stable send.1) sends
StableIn _ sends = Unit {0}

pub solid_step : (s : NodeState) (input : Input) → Solid s → Solid (node_step s input).next
solid_step (OfShard s) input h = (shard_firm 0 [] s h input).next
solid_step (OfClient n) input h = tt
solid_step (OfControl k) input h = tt
solid_step (OfSeq s) input h = tt

pub claims_step : (s : NodeState) (input : Input) → Solid s → StableIn (node_step s input).next (node_step s input).sends
claims_step (OfShard s) input h = (shard_firm 0 [] s h input).claims
claims_step (OfClient n) input h = tt
claims_step (OfControl k) input h = tt
claims_step (OfSeq s) input h = tt

pub still_own : (s : NodeState) → Solid s → Still s s
still_own (OfShard s) h = record { long = h.long; least = omega arith; is = refl }
still_own (OfClient n) h = tt
still_own (OfControl k) h = tt
still_own (OfSeq s) h = tt

pub still_step : (a s : NodeState) (input : Input) → Still a s → Still a (node_step s input).next
still_step (OfShard a) (OfShard b) input h = (shard_firm a.store.stable (front_of a) b h input).next
still_step (OfShard a) (OfClient b) input h = absurd h
still_step (OfShard a) (OfControl b) input h = absurd h
still_step (OfShard a) (OfSeq b) input h = absurd h
still_step (OfClient a) (OfShard b) input h = absurd h
still_step (OfClient a) (OfClient b) input h = tt
still_step (OfClient a) (OfControl b) input h = tt
still_step (OfClient a) (OfSeq b) input h = tt
still_step (OfControl a) (OfShard b) input h = absurd h
still_step (OfControl a) (OfClient b) input h = tt
still_step (OfControl a) (OfControl b) input h = tt
still_step (OfControl a) (OfSeq b) input h = tt
still_step (OfSeq a) (OfShard b) input h = absurd h
still_step (OfSeq a) (OfClient b) input h = tt
still_step (OfSeq a) (OfControl b) input h = tt
still_step (OfSeq a) (OfSeq b) input h = tt

-- what was claimed reads as it did
pub claim_ids : (a s : NodeState) → Still a s → (sends : List (ℕ × Msg)) → StableIn a sends → (addressee stable from count : ℕ) → In (addressee, Claim stable) sends → from + count ≤ stable → ids_of s from (from + count) ≡ ids_of a from (from + count)
claim_ids (OfShard a) (OfShard b) h sends within addressee stable from count there fits =
    let claimed : stable ≤ a.store.stable = each_in (λ (send : ℕ × Msg). ClaimsWithin a.store.stable send.1) sends within (addressee, Claim stable) there in
    same_part a.store.stable from count a.store.order b.store.order (omega arith) h.is
claim_ids (OfShard a) (OfClient b) h sends within addressee stable from count there fits = absurd h
claim_ids (OfShard a) (OfControl b) h sends within addressee stable from count there fits = absurd h
claim_ids (OfShard a) (OfSeq b) h sends within addressee stable from count there fits = absurd h
claim_ids (OfClient a) (OfShard b) h sends within addressee stable from count there fits = absurd h
claim_ids (OfClient a) (OfClient b) h sends within addressee stable from count there fits = refl
claim_ids (OfClient a) (OfControl b) h sends within addressee stable from count there fits = refl
claim_ids (OfClient a) (OfSeq b) h sends within addressee stable from count there fits = refl
claim_ids (OfControl a) (OfShard b) h sends within addressee stable from count there fits = absurd h
claim_ids (OfControl a) (OfClient b) h sends within addressee stable from count there fits = refl
claim_ids (OfControl a) (OfControl b) h sends within addressee stable from count there fits = refl
claim_ids (OfControl a) (OfSeq b) h sends within addressee stable from count there fits = refl
claim_ids (OfSeq a) (OfShard b) h sends within addressee stable from count there fits = absurd h
claim_ids (OfSeq a) (OfClient b) h sends within addressee stable from count there fits = refl
claim_ids (OfSeq a) (OfControl b) h sends within addressee stable from count there fits = refl
claim_ids (OfSeq a) (OfSeq b) h sends within addressee stable from count there fits = refl

-- what a world reads of a node is what stands in its state
ids_of_client : (w : WorldState) (from to : ℕ) (o : Option ClientNode) → [] ≡ option_map_or (λ (s : NodeState). ids_of s from to) (option_map OfClient o) []
ids_of_client w from to None = refl
ids_of_client w from to (Some n) = refl

ids_of_seq : (w : WorldState) (from to : ℕ) (o : Option SeqState) → [] ≡ option_map_or (λ (s : NodeState). ids_of s from to) (option_map OfSeq o) []
ids_of_seq w from to None = refl
ids_of_seq w from to (Some s) = refl

ids_of_replica : (from to : ℕ) (o : Option ShardState) → ids_of_shard from to o ≡ option_map_or (λ (s : NodeState). ids_of s from to) (option_map OfShard o) []
ids_of_replica from to None = refl
ids_of_replica from to (Some s) = refl

pub ids_read : (w : WorldState) (from to : ℕ) (o : Option Node) → ids_at w from to o ≡ option_map_or (λ (s : NodeState). ids_of s from to) (state_of w o) []
ids_read w from to (Some (Client c)) = ids_of_client w from to (client_node w c)
ids_read w from to (Some Controller) = refl
ids_read w from to (Some (Seq i)) = ids_of_seq w from to (slice_get w.seqs i)
ids_read w from to (Some (Shard i j)) = ids_of_replica from to (slice_get w.shards (shard_place w.shape i j))
ids_read w from to None = refl

-- at first nothing is stable
solid_client : (o : Option ClientNode) (s : NodeState) → option_map OfClient o ≡ Some s → Solid s
solid_client None s h = let wrong : None ≡ Some s = h in cc
solid_client (Some n) s h = let same : OfClient n ≡ s = cc in subst Solid same tt

solid_seq : (o : Option SeqState) (s : NodeState) → option_map OfSeq o ≡ Some s → Solid s
solid_seq None s h = let wrong : None ≡ Some s = h in cc
solid_seq (Some n) s h = let same : OfSeq n ≡ s = cc in subst Solid same tt

solid_control : (w : WorldState) (s : NodeState) → Some (OfControl w.control) ≡ Some s → Solid s
solid_control w s h = let same : OfControl w.control ≡ s = cc in subst Solid same tt

solid_shard : (shape : Dimensions) (place : ℕ) (o : Option ShardState) → slice_get (first_world shape).shards place ≡ o → (s : NodeState) → option_map OfShard o ≡ Some s → Solid s
solid_shard shape place None is s h = let wrong : None ≡ Some s = h in cc
solid_shard shape place (Some n) is s h =
    let same : OfShard n ≡ s = cc in
    let made = made_at (first_shard_at shape) (shape.shards * shape.copies) place n is in
    let firm : Firm 0 [] n.store = subst (λ (x : ShardState). Firm 0 [] x.store) (sym made.1) (record { long = omega arith; least = omega arith; is = refl }) in
    subst Solid same firm

pub solid_first : (shape : Dimensions) (o : Option Node) (s : NodeState) → state_of (first_world shape) o ≡ Some s → Solid s
solid_first shape (Some (Client c)) s h = solid_client (client_node (first_world shape) c) s h
solid_first shape (Some Controller) s h = solid_control (first_world shape) s h
solid_first shape (Some (Seq i)) s h = solid_seq (slice_get (first_world shape).seqs i) s h
solid_first shape (Some (Shard i j)) s h = solid_shard shape (shard_place shape i j) (slice_get (first_world shape).shards (shard_place shape i j)) refl s h
solid_first shape None s h = let wrong : None ≡ Some s = h in cc
