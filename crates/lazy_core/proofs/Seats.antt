-- The node of a number, by its role: where its state stands, and what is written there.
use Rattle.std.proofs.Common.{◌≡◌, ℕ, [], ◌+◌, ◌*◌, ◌<◌, List, length, get_or, Option, Some, None, refl, sym, ap, ◌∙◌, subst, arith}
use Rattle.std.specs.Prelude.{option_and_then, slice_get, slice_set}
use Rattle.std.specs.Option.{option_map}
use Rattle.std.proofs.lemmas.Option.{get_or_from_slice_get, slice_get_within}
use Rattle.view_config.specs.declared.nodes.Node.{Node}
use Rattle.view_config.specs.declared.nodes.Node.TheVariants.{Client as ClientNode, Controller, Seq as SeqNode, Shard as ShardNode}
use Rattle.view_config.specs.Shape.{Dimensions, node_of}
use Rattle.lazy_rules.specs.ControlState.{ControlState, first_control}
use Rattle.lazy_rules.specs.ReaderState.{ReaderState}
use Rattle.lazy_rules.specs.ClientState.{ClientState}
use Rattle.lazy_rules.specs.Holders.{seq_at, seq_numbered}
use Rattle.lazy_rules.specs.Lines.{shard_at, store_numbered}
use Rattle.lazy_rules.specs.SeqState.{SeqState}
use Rattle.lazy_rules.specs.ShardState.{ShardState}
use Rattle.lazy_rules.specs.Store.{Store}
use Rattle.lazy_rules.specs.WorldRules.{halves}
use Rattle.lazy_rules.specs.WorldState.{WorldState, shard_place}
use Rattle.world_facts.proofs.Lists.{place_below}
use Rattle.world_facts.proofs.Nodes.{client_is, seq_is, shard_is}
use Rattle.lazy_core.specs.declared.node_state.NodeState.{NodeState}
use Rattle.lazy_core.specs.declared.node_state.NodeState.TheVariants.{Seq, Shard, Client, Control}
use Rattle.lazy_core.specs.Standing.{IsLaid, Standing, clients_in, control_in, place_at, place_of, readers_in, seqs_in, shards_in, state_of, with_state, world_of_standing}
use Rattle.lazy_core.specs.States.{client_there, seq_there, set_state, shard_there, state_at}
use Rattle.lazy_core.proofs.Alike.{AreAlike}
use Rattle.lazy_core.proofs.NodePlaces.{Roles, client_stands, control_stands, roles_in, seq_stands, shard_stands}

-- the node of this role stands at this place, and another state of it that is written there is its state in the world
pub record IsSeated (s : Standing) (role : Node) (place : ℕ) : Type 0 where
  pub state : NodeState
  pub here : slice_get s.states place ≡ Some state
  pub there : state_at (world_of_standing s) role ≡ Some state
  pub written : (next : NodeState) → AreAlike state next → world_of_standing (with_state s place next) ≡ set_state (world_of_standing s) role next

abbrev pub world_with : Standing → Roles → WorldState
world_with s roles = record {
  shape = s.shape;
  clients = roles.clients;
  readers = roles.readers;
  control = roles.control;
  seqs = roles.seqs;
  shards = roles.shards;
  times = [];
  crashed = s.crashed;
  sent = [];
  history = [];
  events = 0;
}

-- a sequencing replica, and what a shard replica stores, of a state
abbrev pub seq_in : Option NodeState → Option SeqState
seq_in (Some (Seq seq)) = Some seq
seq_in (Some (Shard shard)) = None
seq_in (Some (Client appends reads)) = None
seq_in (Some (Control control)) = None
seq_in None = None

abbrev pub store_in : Option NodeState → Option Store
store_in (Some (Shard shard)) = Some shard.store
store_in (Some (Seq seq)) = None
store_in (Some (Client appends reads)) = None
store_in (Some (Control control)) = None
store_in None = None

seq_known : (o : Option SeqState) (state : NodeState) → seq_there o ≡ Some state → o ≡ seq_in (Some state)
seq_known None state h = cc
seq_known (Some seq) state h = ap seq_in h

store_known : (o : Option ShardState) (state : NodeState) → shard_there o ≡ Some state → option_map (λ (shard : ShardState). shard.store) o ≡ store_in (Some state)
store_known None state h = cc
store_known (Some shard) state h = ap store_in h

pub no_seq : (state : NodeState) → ((seq : SeqState) → state ≡ Seq seq → ⊥) → seq_in (Some state) ≡ None
no_seq (Seq seq) h = absurd (h seq refl)
no_seq (Shard shard) h = refl
no_seq (Client appends reads) h = refl
no_seq (Control control) h = refl

pub no_store : (state : NodeState) → ((shard : ShardState) → state ≡ Shard shard → ⊥) → store_in (Some state) ≡ None
no_store (Shard shard) h = absurd (h shard refl)
no_store (Seq seq) h = refl
no_store (Client appends reads) h = refl
no_store (Control control) h = refl

module _ (s : Standing) (laid : IsLaid s.shape s.states) where
  abbrev none : ControlState
  none = first_control s.shape

  client_written : (c : ℕ) (appends : ClientState) (reads : ReaderState) → ((a : ClientState) (r : ReaderState) → roles_in none (slice_set s.states c (Client a r)) ≡ record (roles_in none s.states) { clients = slice_set (clients_in s.states) c a; readers = slice_set (readers_in s.states) c r })
      → (next : NodeState) → AreAlike (Client appends reads) next → world_of_standing (with_state s c next) ≡ set_state (world_of_standing s) (ClientNode c) next
  client_written c appends reads h (Client a r) alike = ap (world_with s) (h a r)
  client_written c appends reads h (Seq t) alike = absurd alike
  client_written c appends reads h (Shard t) alike = absurd alike
  client_written c appends reads h (Control t) alike = absurd alike

  client_seated : (c : ℕ) → c < s.shape.clients → IsSeated s (ClientNode c) c
  client_seated c few =
      let at = client_stands none s.shape.clients (s.shape.seq + s.shape.spares) (s.shape.shards * s.shape.copies) s.states laid c few in
      record {
        state = Client at.appends at.reads;
        here = at.here;
        there = ap client_there (ap (λ (o : Option ClientState). halves o (slice_get (readers_in s.states) c)) at.as_client ∙ ap (halves (Some at.appends)) at.as_reader);
        written = client_written c at.appends at.reads at.written;
      }

  control_written : (place : ℕ) (control : ControlState) → ((k : ControlState) → roles_in none (slice_set s.states place (Control k)) ≡ record (roles_in none s.states) { control = k })
      → (next : NodeState) → AreAlike (Control control) next → world_of_standing (with_state s place next) ≡ set_state (world_of_standing s) Controller next
  control_written place control h (Control k) alike = ap (world_with s) (h k)
  control_written place control h (Seq t) alike = absurd alike
  control_written place control h (Shard t) alike = absurd alike
  control_written place control h (Client a r) alike = absurd alike

  pub control_seated : IsSeated s Controller s.shape.clients
  control_seated =
      let at = control_stands none s.shape.clients (s.shape.seq + s.shape.spares) (s.shape.shards * s.shape.copies) s.states laid in
      record {
        state = Control (control_in none s.states);
        here = at.here;
        there = refl;
        written = control_written s.shape.clients (control_in none s.states) at.written;
      }

  seq_written : (place i : ℕ) (seq : SeqState) → ((t : SeqState) → roles_in none (slice_set s.states place (Seq t)) ≡ record (roles_in none s.states) { seqs = slice_set (seqs_in s.states) i t })
      → (next : NodeState) → AreAlike (Seq seq) next → world_of_standing (with_state s place next) ≡ set_state (world_of_standing s) (SeqNode i) next
  seq_written place i seq h (Seq t) alike = ap (world_with s) (h t)
  seq_written place i seq h (Control k) alike = absurd alike
  seq_written place i seq h (Shard t) alike = absurd alike
  seq_written place i seq h (Client a r) alike = absurd alike

  seq_seated : (i : ℕ) → i < s.shape.seq + s.shape.spares → IsSeated s (SeqNode i) (s.shape.clients + 1 + i)
  seq_seated i few =
      let at = seq_stands none s.shape.clients (s.shape.seq + s.shape.spares) (s.shape.shards * s.shape.copies) s.states laid (s.shape.clients + 1 + i) i refl few in
      record {
        state = Seq at.seq;
        here = at.here;
        there = ap seq_there at.as_seq;
        written = seq_written (s.shape.clients + 1 + i) i at.seq at.written;
      }

  shard_written : (place i j : ℕ) (shard : ShardState) → ((t : ShardState) → roles_in none (slice_set s.states place (Shard t)) ≡ record (roles_in none s.states) { shards = slice_set (shards_in s.states) (shard_place s.shape i j) t })
      → (next : NodeState) → AreAlike (Shard shard) next → world_of_standing (with_state s place next) ≡ set_state (world_of_standing s) (ShardNode i j) next
  shard_written place i j shard h (Shard t) alike = ap (world_with s) (h t)
  shard_written place i j shard h (Control k) alike = absurd alike
  shard_written place i j shard h (Seq t) alike = absurd alike
  shard_written place i j shard h (Client a r) alike = absurd alike

  shard_seated : (i j : ℕ) → i < s.shape.shards → j < s.shape.copies → IsSeated s (ShardNode i j) (s.shape.clients + 1 + s.shape.seq + s.shape.spares + shard_place s.shape i j)
  shard_seated i j row column =
      let place : ℕ = s.shape.clients + 1 + s.shape.seq + s.shape.spares + shard_place s.shape i j in
      let below = place_below s.shape.shards s.shape.copies i j row column in
      let at = shard_stands none s.shape.clients (s.shape.seq + s.shape.spares) (s.shape.shards * s.shape.copies) s.states laid place (shard_place s.shape i j) (omega arith) below in
      record {
        state = Shard at.shard;
        here = at.here;
        there = ap shard_there at.as_shard;
        written = shard_written place i j at.shard at.written;
      }

  -- a node of the shape is seated at its place
  pub seated : (node : ℕ) (role : Node) → node_of s.shape node ≡ Some role → IsSeated s role (place_at s.shape role)
  seated node (ClientNode c) is = client_seated c (client_is s.shape node c is).1
  seated node Controller is = control_seated
  seated node (SeqNode i) is = seq_seated i (seq_is s.shape node i is).1
  seated node (ShardNode i j) is = let k = shard_is s.shape node i j is in shard_seated i j k.1 k.2

  -- what stands at a node's place
  pub state_found : (node : ℕ) (role : Node) (is : node_of s.shape node ≡ Some role) → state_of s.shape s.states node ≡ Some (seated node role is).state
  state_found node role is =
      ap (λ (o : Option Node). option_and_then (slice_get s.states) (option_map (place_at s.shape) o)) is ∙ (seated node role is).here

  pub place_within : (node place : ℕ) → place_of s.shape node ≡ Some place → place < length s.states
  place_within node place found = by (node_of s.shape node) refl found
    where
      by : (o : Option Node) → node_of s.shape node ≡ o → option_map (place_at s.shape) o ≡ Some place → place < length s.states
      by None is h = let wrong : None ≡ Some place = h in cc
      by (Some role) is h =
          let same : place_at s.shape role ≡ place = cc in
          let at = seated node role is in
          subst (λ (p : ℕ). p < length s.states) same (slice_get_within s.states (place_at s.shape role) at.state at.here)

  -- a sequencing replica and a store, by the state of its number
  seq_by : (node : ℕ) (o : Option Node) → node_of s.shape node ≡ o → seq_at (world_of_standing s) o ≡ seq_in (option_and_then (slice_get s.states) (option_map (place_at s.shape) o))
  unfolding client_seated control_seated shard_seated
  seq_by node None is = refl
  seq_by node (Some (ClientNode c)) is = let at = client_seated c (client_is s.shape node c is).1 in ap seq_in (sym at.here)
  seq_by node (Some Controller) is = ap seq_in (sym control_seated.here)
  seq_by node (Some (SeqNode i)) is =
      let at = seq_seated i (seq_is s.shape node i is).1 in
      seq_known (slice_get (seqs_in s.states) i) at.state at.there ∙ ap seq_in (sym at.here)
  seq_by node (Some (ShardNode i j)) is =
      let k = shard_is s.shape node i j is in
      let at = shard_seated i j k.1 k.2 in
      ap seq_in (sym at.here)

  pub seq_found : (node : ℕ) → seq_numbered (world_of_standing s) node ≡ seq_in (state_of s.shape s.states node)
  seq_found node = seq_by node (node_of s.shape node) refl

  store_by : (node : ℕ) (o : Option Node) → node_of s.shape node ≡ o → option_map (λ (shard : ShardState). shard.store) (shard_at (world_of_standing s) o) ≡ store_in (option_and_then (slice_get s.states) (option_map (place_at s.shape) o))
  unfolding client_seated control_seated seq_seated
  store_by node None is = refl
  store_by node (Some (ClientNode c)) is = let at = client_seated c (client_is s.shape node c is).1 in ap store_in (sym at.here)
  store_by node (Some Controller) is = ap store_in (sym control_seated.here)
  store_by node (Some (SeqNode i)) is = let at = seq_seated i (seq_is s.shape node i is).1 in ap store_in (sym at.here)
  store_by node (Some (ShardNode i j)) is =
      let k = shard_is s.shape node i j is in
      let at = shard_seated i j k.1 k.2 in
      store_known (slice_get (shards_in s.states) (shard_place s.shape i j)) at.state at.there ∙ ap store_in (sym at.here)

  pub store_found : (node : ℕ) → store_numbered (world_of_standing s) node ≡ store_in (state_of s.shape s.states node)
  store_found node = store_by node (node_of s.shape node) refl

-- the controller's place
pub control_here : (shape : Dimensions) (states : List NodeState) → IsLaid shape states → slice_get states shape.clients ≡ Some (Control (control_in (first_control shape) states))
control_here shape states laid = (control_stands (first_control shape) shape.clients (shape.seq + shape.spares) (shape.shards * shape.copies) states laid).here

-- what was read at a place
pub read_there : {X : Type 0} (xs : List X) (i : ℕ) (x y : X) → slice_get xs i ≡ Some x → y ≡ get_or xs i y → y ≡ x
read_there xs i x y there is = is ∙ get_or_from_slice_get xs i x y there
