-- The first states, by the numbers of nodes.
use Rattle.std.proofs.Common.{◌≡◌, ◌<◌, ◌+◌, ◌*◌, ℕ, ◌≤◌, List, [], ◌∷◌, map, true, false, Option, Some, None, refl, sym, ap, ◌∙◌, subst, arith, length, Bool}
use Rattle.std.specs.Prelude.{◌%◌, ◌&&◌, ◌==◌, nat_lt, not, slice_get}
use Rattle.std.specs.List.{list_all, range_with_len}
use Rattle.std.specs.Option.{is_none, option_map}
use Rattle.std.proofs.lemmas.List.FromFn.{get_or-map-range_with_len, length-map-range_with_len}
use Rattle.std.proofs.lemmas.Nat.{div-mul-add, mod-mul-add}
use Rattle.std.proofs.lemmas.Bool.{and_from, eq-eqb, lt-ltb}
use Rattle.std.proofs.lemmas.Option.{slice_get-get_or}
use Rattle.list_facts.specs.Lists.{Each}
use Rattle.view_config.specs.Shape.{Dimensions, IsShape, node_of}
use Rattle.view_config.specs.declared.nodes.Node.{Node}
use Rattle.view_config.specs.declared.nodes.Node.TheVariants.{Client as ClientRole, Controller, Seq as SeqRole, Shard as ShardRole}
use Rattle.view_config.specs.Config.{initial_config}
use Rattle.view_config.specs.declared.config.Config.{Config}
use Rattle.rec_id.specs.declared.event.Event.{Event}
use Rattle.lazy_msgs.specs.declared.diary.DiaryEntry.{DiaryEntry}
use Rattle.lazy_rules.specs.ClientState.{ClientState, first_client}
use Rattle.lazy_rules.specs.Door.{is_config, is_node, is_node_list}
use Rattle.lazy_rules.specs.ReaderState.{ReaderState, first_reader}
use Rattle.lazy_rules.specs.SeqState.{first_seq}
use Rattle.lazy_rules.specs.ShardState.{ShardState, first_shard}
use Rattle.lazy_rules.specs.WorldRules.{halves}
use Rattle.lazy_rules.specs.WorldState.{first_shard_at, first_world, shard_place}
use Rattle.world_facts.proofs.Lists.{place_below}
use Rattle.world_facts.proofs.Nodes.{client_is, seq_is, seq_node_of, shard_is, shard_node_at}
use Rattle.world_facts.proofs.goes.All.{first_named}
use Rattle.world_facts.specs.Members.{IsGroup, IsNamed, IsSeqNode, IsShardNode}
use Rattle.diary_laws.specs.Nodes.{NodeState as LawState, OfClient, OfControl, OfSeq, OfShard, state_at, state_of}
use Rattle.lazy_core.specs.declared.node_state.NodeState.{NodeState}
use Rattle.lazy_core.specs.declared.node_state.NodeState.TheVariants.{Seq, Shard, Client, Control}
use Rattle.node_diary.specs.Fed.{IsClientIn, IsFedIn, IsSeated}
use Rattle.node_diary.specs.States.{Begins, HasNode, first_at, first_of, law_state}

pub made_here : {X : Type 0} (f : ℕ → X) (n i : ℕ) → i < n → slice_get (map f (range_with_len 0 n)) i ≡ Some (f i)
made_here f n i lt =
    let long = length-map-range_with_len f 0 n in
    slice_get-get_or (map f (range_with_len 0 n)) i (f 0) (omega arith) ∙ ap Some (get_or-map-range_with_len f 0 n i i (f 0) lt (omega arith))

module _ (shape : Dimensions) (formed : IsShape shape) where
  first_shard_is : (i j : ℕ) → j < shape.copies → first_shard_at shape (shard_place shape i j) ≡ first_shard shape i j
  first_shard_is i j few =
      ap (λ a. first_shard shape a ((i * shape.copies + j) % shape.copies)) (div-mul-add i shape.copies j few)
      ∙ ap (first_shard shape i) (mod-mul-add i shape.copies j few)

  first_by : (node : ℕ) (role : Option Node) → node_of shape node ≡ role → is_none role ≡ false → state_of (first_world shape) role ≡ Some (law_state (first_of shape role))
  first_by node (Some (ClientRole c)) is has =
      let few = (client_is shape node c is).1 in
      ap (λ (o : Option ClientState). option_map OfClient (halves o (slice_get (first_world shape).readers c))) (made_here (first_client shape) shape.clients c few)
      ∙ ap (λ (o : Option ReaderState). option_map OfClient (halves (Some (first_client shape c)) o)) (made_here (first_reader shape) shape.clients c few)
  first_by node (Some Controller) is has = refl
  first_by node (Some (SeqRole i)) is has = ap (option_map OfSeq) (made_here (first_seq shape) (shape.seq + shape.spares) i (seq_is shape node i is).1)
  first_by node (Some (ShardRole i j)) is has =
      let k = shard_is shape node i j is in
      ap (option_map OfShard) (made_here (first_shard_at shape) (shape.shards * shape.copies) (shard_place shape i j) (place_below shape.shards shape.copies i j k.1 k.2))
      ∙ ap (λ (s : ShardState). Some (OfShard s)) (first_shard_is i j k.2)
  first_by node None is has = let wrong : true ≡ false = has in cc

  pub first_begins : (node : ℕ) → HasNode shape node → state_at (first_world shape) node ≡ Some (law_state (first_at shape node))
  first_begins node h = first_by node (node_of shape node) refl h.has

pub begun : (shape : Dimensions) → IsShape shape → (node : ℕ) (role : Node) → node_of shape node ≡ Some role → (state : NodeState) → state ≡ first_of shape (Some role) → Begins shape node state
begun shape formed node role at state is = record {
  formed = formed;
  first = ap (state_of (first_world shape)) at ∙ first_by shape formed node (Some role) at refl ∙ ap (λ (s : NodeState). Some (law_state s)) (sym is);
}

-- ---- a node that was fed nothing yet
abbrev LawSeated : Dimensions → LawState → Type 0
LawSeated shape (OfClient n) = IsClientIn shape 0 n.appends.shape n.reads.shape n.reads.count
LawSeated shape (OfSeq s) = (s.shape ≡ shape) × (is_config shape s.config ≡ true)
LawSeated shape (OfShard s) = Unit {0}
LawSeated shape (OfControl k) = Unit {0}

seated_so : (shape : Dimensions) (state : NodeState) → LawSeated shape (law_state state) → IsSeated shape 0 state
seated_so shape (Client appends reads) h = h
seated_so shape (Seq s) h = h
seated_so shape (Shard s) h = tt
seated_so shape (Control k) h = tt

all_true : {A : Type 0} (P : A → Type 0) (p : A → Bool) → ((x : A) → P x → p x ≡ true) → (xs : List A) → Each P xs → list_all p xs ≡ true
all_true P p f [] h = refl
all_true P p f (x ∷ xs) h = and_from (p x) (list_all p xs) (f x h.0) (all_true P p f xs h.1)

module _ (shape : Dimensions) (formed : IsShape shape) where
  -- the first configuration is one
  seq_there : (node : ℕ) → IsSeqNode shape node → is_node shape node ≡ true
  seq_there node h = ap (λ (o : Option Node). not (is_none o)) (ap (node_of shape) h.is ∙ seq_node_of shape formed h.place h.few)

  shard_there : (node : ℕ) → IsShardNode shape node → is_node shape node ≡ true
  shard_there node h = ap (λ (o : Option Node). not (is_none o)) (ap (node_of shape) h.is ∙ shard_node_at shape formed h.shard h.copy h.row h.column)

  some_nodes : (P : ℕ → Type 0) (nodes : List ℕ) → ((node : ℕ) → P node → is_node shape node ≡ true) → 1 ≤ length nodes → Each P nodes → is_node_list shape nodes ≡ true
  some_nodes P nodes there some each = and_from (nat_lt 0 (length nodes)) (list_all (is_node shape) nodes) (lt-ltb 0 (length nodes) (omega arith)) (all_true P (is_node shape) there nodes each)

  config_true : (config : Config) → IsNamed shape config → is_config shape config ≡ true
  config_true config h =
      and_from (is_node_list shape config.seq && length config.shards == shape.shards) (list_all (is_node_list shape) config.shards)
      (and_from (is_node_list shape config.seq) (length config.shards == shape.shards) (some_nodes (IsSeqNode shape) config.seq seq_there h.some h.seq) (eq-eqb (length config.shards) shape.shards h.count))
      (all_true (IsGroup shape) (is_node_list shape) (λ nodes k. some_nodes (IsShardNode shape) nodes shard_there k.some k.each) config.shards h.shards)

  role_seated : (role : Node) → LawSeated shape (law_state (first_of shape (Some role)))
  role_seated (ClientRole c) = record { appending = refl; reading = refl; few = omega arith }
  role_seated Controller = tt
  role_seated (SeqRole i) = (refl, config_true (initial_config shape) (first_named shape formed))
  role_seated (ShardRole i j) = tt

  first_seated : (node : ℕ) (role : Option Node) → node_of shape node ≡ role → (s : LawState) → state_of (first_world shape) role ≡ Some s → LawSeated shape s
  first_seated node None is s h = let wrong : None ≡ Some s = h in absurd (let no : ⊥ = cc in no)
  first_seated node (Some role) is s h =
      let both : Some (law_state (first_of shape (Some role))) ≡ Some s = sym (first_by shape formed node (Some role) is refl) ∙ h in
      let same : law_state (first_of shape (Some role)) ≡ s = cc in
      subst (LawSeated shape) same (role_seated role)

pub started : (shape : Dimensions) (node : ℕ) (state : NodeState) (entries : List DiaryEntry) (told : List Event) → entries ≡ [] → told ≡ [] → Begins shape node state
    → IsFedIn shape (record { node = node; state = state; entries = entries; told = told; time = 0 })
started shape node state entries told none silent h =
    subst (λ (es : List DiaryEntry). IsFedIn shape (record { node = node; state = state; entries = es; told = told; time = 0 })) (sym none)
    (subst (λ (ts : List Event). IsFedIn shape (record { node = node; state = state; entries = []; told = ts; time = 0 })) (sym silent)
    (record {
      start = state;
      begins = h;
      entries = tt;
      state = refl;
      told = refl;
      past = omega arith;
      early = omega arith;
      within = record { in_number = omega arith; in_weight = omega arith };
      seated = seated_so shape state (first_seated shape h.formed node (node_of shape node) refl (law_state state) h.first);
    }))
