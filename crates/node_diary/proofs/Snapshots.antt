-- The states that the diaries lead to, each at its place, make a snapshot of their merge's run.
use Rattle.std.proofs.Common.{◌≡◌, ◌↔◌, ◌<◌, ◌+◌, ◌*◌, ℕ, suc, List, [], ◌∷◌, ◌++◌, length, map, Bool, true, false, Option, Some, None, inl, inr, refl, sym, ap, ◌∙◌, subst, arith, length-append}
use Rattle.std.specs.Prelude.{◌-◌, ◌%◌, slice_get, if◌then◌else◌}
use Rattle.std.specs.List.{range_with_len}
use Rattle.std.specs.Option.{option_map}
use Rattle.std.proofs.lemmas.List.{map-append}
use Rattle.std.proofs.lemmas.List.FromFn.{length-map-range_with_len, length-range_with_len}
use Rattle.std.proofs.lemmas.Nat.{div-mul-add, mod-mul-add}
use Rattle.list_facts.specs.Lists.{Each, In}
use Rattle.list_facts.proofs.Members.{each_in, in_each}
use Rattle.list_facts.proofs.Ranges.{in_range_below}
use Rattle.view_config.specs.Nodes.{seq_id, shard_id}
use Rattle.view_config.specs.Shape.{Dimensions, IsShape, node_of}
use Rattle.view_config.specs.declared.nodes.Node.{Node}
use Rattle.view_config.specs.declared.nodes.Node.TheVariants.{Client as ClientRole, Controller, Seq as SeqRole, Shard as ShardRole}
use Rattle.view_config.specs.declared.nodes.TheConstants.{CONTROLLER}
use Rattle.lazy_msgs.specs.declared.diary.Diary.{Diary}
use Rattle.lazy_msgs.specs.declared.diary.DiaryEntry.{DiaryEntry}
use Rattle.lazy_msgs.specs.declared.input.Input.{Input}
use Rattle.lazy_msgs.specs.declared.input.Input.TheVariants.{Take, Tick, Grace, Crash, Post, Ask, Trim, Suspect, Peek}
use Rattle.lazy_msgs.specs.Step.{Row}
use Rattle.lazy_rules.specs.ClientNode.{ClientNode, client_node_step}
use Rattle.lazy_rules.specs.ClientState.{ClientState, first_client}
use Rattle.lazy_rules.specs.ControlRules.{control_step}
use Rattle.lazy_rules.specs.ControlState.{ControlState, first_control}
use Rattle.lazy_rules.specs.ReaderState.{ReaderState, first_reader}
use Rattle.lazy_rules.specs.SeqRules.{seq_step}
use Rattle.lazy_rules.specs.SeqState.{SeqState, first_seq}
use Rattle.lazy_rules.specs.ShardRules.{shard_step}
use Rattle.lazy_rules.specs.ShardState.{ShardState, first_shard}
use Rattle.lazy_rules.specs.WorldRules.{halves}
use Rattle.lazy_rules.specs.WorldState.{WorldState, first_world, shard_place}
use Rattle.world_facts.proofs.Lists.{place_below}
use Rattle.world_facts.proofs.Nodes.{client_is, client_node_of, control_node_of, controller_is, seq_is, seq_node_of, shard_is, shard_node_at}
use Rattle.diary_laws.specs.Formed.{IsFormed}
use Rattle.diary_laws.specs.Lived.{EndsInCrash, IsCrashedIn}
use Rattle.diary_laws.specs.Machines.{Machine, last_state, state_behind}
use Rattle.diary_laws.specs.Nodes.{NodeState as LawState, OfClient, OfControl, OfSeq, OfShard, nodes_of_shape, state_at, state_of}
use Rattle.diary_laws.specs.Snapshots.{IsSnapshot}
use Rattle.diary_laws.proofs.merges.Crashes.{in_flat, made_of}
use Rattle.lazy_core.specs.declared.node_state.NodeState.{NodeState}
use Rattle.lazy_core.specs.declared.node_state.NodeState.TheVariants.{Seq, Shard, Client, Control}
use Rattle.lazy_core.specs.NodeStep.{halves_of, node_step}
use Rattle.lazy_core.specs.Standing.{AreNodes, AreSeqs, AreShards, IsLaid, Standing, world_of_standing}
use Rattle.lazy_core.proofs.NodePlaces.{Roles, roles_in, with_client, with_control, with_seq, with_shard}
use Rattle.node_diary.specs.Folding.{crash_of, crashed_in, entries_of, found_state, is_crash, nodes_in_order, shard_number, state_after}
use Rattle.diary_merge.specs.Merging.{AreWhole}
use Rattle.node_diary.specs.States.{first_at, first_of, law_state}
use Rattle.diary_merge.proofs.Acts.{at_end}
use Rattle.node_diary.proofs.FirstStates.{made_here}
use Rattle.node_diary.proofs.Folds.{same_rule}
use Rattle.node_diary.proofs.Histories.{entries_own, first_own}
use Rattle.node_diary.proofs.NodeOrder.{shard_row}

-- ---- what entries lead to is of the role that they began with
abbrev appends_of : NodeState → ClientState → ClientState
appends_of (Client appends reads) other = appends
appends_of _ other = other

abbrev reads_of : NodeState → ReaderState → ReaderState
reads_of (Client appends reads) other = reads
reads_of _ other = other

abbrev control_of : NodeState → ControlState → ControlState
control_of (Control k) other = k
control_of _ other = other

abbrev seq_of : NodeState → SeqState → SeqState
seq_of (Seq s) other = s
seq_of _ other = other

abbrev shard_of : NodeState → ShardState → ShardState
shard_of (Shard s) other = s
shard_of _ other = other

client_after : (a a' : ClientState) (r r' : ReaderState) (entries : List DiaryEntry) → state_after (Client a r) entries ≡ Client (appends_of (state_after (Client a r) entries) a') (reads_of (state_after (Client a r) entries) r')
client_after a a' r r' [] = refl
client_after a a' r r' (entry ∷ entries) = let n : ClientNode = (client_node_step (halves_of a r) entry.input).next in client_after n.appends a' n.reads r' entries

control_after : (k other : ControlState) (entries : List DiaryEntry) → state_after (Control k) entries ≡ Control (control_of (state_after (Control k) entries) other)
control_after k other [] = refl
control_after k other (entry ∷ entries) = control_after (control_step k entry.input).next other entries

seq_after : (s other : SeqState) (entries : List DiaryEntry) → state_after (Seq s) entries ≡ Seq (seq_of (state_after (Seq s) entries) other)
seq_after s other [] = refl
seq_after s other (entry ∷ entries) = seq_after (seq_step s entry.input).next other entries

shard_after : (s other : ShardState) (entries : List DiaryEntry) → state_after (Shard s) entries ≡ Shard (shard_of (state_after (Shard s) entries) other)
shard_after s other [] = refl
shard_after s other (entry ∷ entries) = shard_after (shard_step s entry.input).next other entries

-- ---- states by role, each at its place
module _ (client : ℕ → ClientState) (reader : ℕ → ReaderState) (control : ControlState) (seq : ℕ → SeqState) (shard : ℕ → ShardState) where
  abbrev shard_states : List ℕ → List NodeState
  shard_states zs = map (λ k. Shard (shard k)) zs

  abbrev seq_states : List ℕ → List ℕ → List NodeState
  seq_states ys zs = map (λ i. Seq (seq i)) ys ++ shard_states zs

  abbrev all_states : List ℕ → List ℕ → List ℕ → List NodeState
  all_states xs ys zs = map (λ c. Client (client c) (reader c)) xs ++ Control control ∷ seq_states ys zs

  shards_laid : (zs : List ℕ) → AreShards (length zs) (shard_states zs)
  shards_laid [] = tt
  shards_laid (z ∷ zs) = shards_laid zs

  seqs_laid : (ys zs : List ℕ) → AreSeqs (length ys) (length zs) (seq_states ys zs)
  seqs_laid [] zs = shards_laid zs
  seqs_laid (y ∷ ys) zs = seqs_laid ys zs

  all_laid : (xs ys zs : List ℕ) → AreNodes (length xs) (length ys) (length zs) (all_states xs ys zs)
  all_laid [] ys zs = seqs_laid ys zs
  all_laid (x ∷ xs) ys zs = all_laid xs ys zs

  module _ (none : ControlState) where
    shards_roles : (zs : List ℕ) → roles_in none (shard_states zs) ≡ record { clients = []; readers = []; control = none; seqs = []; shards = map shard zs }
    shards_roles [] = refl
    shards_roles (z ∷ zs) = ap (with_shard (shard z)) (shards_roles zs)

    seqs_roles : (ys zs : List ℕ) → roles_in none (seq_states ys zs) ≡ record { clients = []; readers = []; control = none; seqs = map seq ys; shards = map shard zs }
    seqs_roles [] zs = shards_roles zs
    seqs_roles (y ∷ ys) zs = ap (with_seq (seq y)) (seqs_roles ys zs)

    all_roles : (xs ys zs : List ℕ) → roles_in none (all_states xs ys zs) ≡ record { clients = map client xs; readers = map reader xs; control = control; seqs = map seq ys; shards = map shard zs }
    all_roles [] ys zs = ap (with_control control) (seqs_roles ys zs)
    all_roles (x ∷ xs) ys zs = ap (with_client (client x) (reader x)) (all_roles xs ys zs)

map_agree : {A B : Type 0} (f g : A → B) (xs : List A) → Each (λ x. f x ≡ g x) xs → map f xs ≡ map g xs
map_agree f g [] h = refl
map_agree f g (x ∷ xs) h = ap (λ y. y ∷ map f xs) h.0 ∙ ap (λ l. g x ∷ l) (map_agree f g xs h.1)

map_map : {A B C : Type 0} (f : B → C) (g : A → B) (xs : List A) → map f (map g xs) ≡ map (λ x. f (g x)) xs
map_map f g [] = refl
map_map f g (x ∷ xs) = ap (λ l. f (g x) ∷ l) (map_map f g xs)

-- ---- the last entry
crash_is : (input : Input) → (elim input [ Crash ↦ true | _ ↦ false ]) ≡ true → input ≡ Crash
crash_is Crash h = refl
crash_is (Take envelope) h = let wrong : false ≡ true = h in cc
crash_is Tick h = let wrong : false ≡ true = h in cc
crash_is Grace h = let wrong : false ≡ true = h in cc
crash_is (Post bytes) h = let wrong : false ≡ true = h in cc
crash_is (Ask ask) h = let wrong : false ≡ true = h in cc
crash_is (Trim floor) h = let wrong : false ≡ true = h in cc
crash_is (Suspect node) h = let wrong : false ≡ true = h in cc
crash_is (Peek stable time replica from ids) h = let wrong : false ≡ true = h in cc

ends : (entries : List DiaryEntry) → is_crash (slice_get entries (length entries - 1)) ≡ true → EndsInCrash entries
ends [] h = let wrong : false ≡ true = h in cc
ends (entry ∷ []) h = record { before = []; last = entry; is = refl; crash = crash_is entry.input h }
ends (entry ∷ next ∷ entries) h =
    let at : length (entry ∷ next ∷ entries) - 1 ≡ suc (length (next ∷ entries) - 1) = omega arith in
    let rest = ends (next ∷ entries) (ap (λ (n : ℕ). is_crash (slice_get (entry ∷ next ∷ entries) n)) (sym at) ∙ h) in
    record { before = entry ∷ rest.before; last = rest.last; is = ap (λ (l : List DiaryEntry). entry ∷ l) rest.is; crash = rest.crash }

ends_so : (entries : List DiaryEntry) → EndsInCrash entries → is_crash (slice_get entries (length entries - 1)) ≡ true
ends_so entries h =
    let long : length entries ≡ length h.before + 1 = ap length h.is ∙ length-append h.before (h.last ∷ []) in
    let at : length entries - 1 ≡ length h.before = omega arith in
    ap (λ (n : ℕ). is_crash (slice_get entries n)) at
    ∙ ap (λ (l : List DiaryEntry). is_crash (slice_get l (length h.before))) h.is
    ∙ ap is_crash (at_end h.before h.last [])
    ∙ ap (λ (i : Input). elim i [ Crash ↦ true | _ ↦ false ]) h.crash

crashes_so : (diaries : List Diary) (node : ℕ) → In node (crashed_in diaries) ↔ IsCrashedIn diaries node
crashes_so diaries node = (went, goes)
  where
    of : (diary : Diary) (b : Bool) → is_crash (slice_get diary.entries (length diary.entries - 1)) ≡ b → In node (if b then diary.node ∷ [] else []) → (diary.node ≡ node) × EndsInCrash diary.entries
    of diary true is (inl e) = (e, ends diary.entries is)
    of diary true is (inr none) = absurd none
    of diary false is none = absurd none

    went : In node (crashed_in diaries) → IsCrashedIn diaries node
    went there =
        let from = made_of crash_of diaries node there in
        let k = of from.origin (is_crash (slice_get from.origin.entries (length from.origin.entries - 1))) refl from.made in
        record { diary = from.origin; there = from.there; own = k.0; ends = k.1 }

    goes : IsCrashedIn diaries node → In node (crashed_in diaries)
    goes h =
        in_flat crash_of h.diary diaries node h.there
        (subst (λ (b : Bool). In node (if b then h.diary.node ∷ [] else [])) (sym (ends_so h.diary.entries h.ends)) (inl h.own))

-- ---- by the laws' rule
law_after : (shape : Dimensions) (s : NodeState) (entries : List DiaryEntry) → state_behind (nodes_of_shape shape) (law_state s) entries ≡ law_state (state_after s entries)
law_after shape s [] = refl
law_after shape s (entry ∷ entries) =
    ap (λ (t : LawState). state_behind (nodes_of_shape shape) t entries) (ap (λ (r : Row LawState). r.next) (same_rule s entry.input)) ∙ law_after shape (node_step s entry.input).next entries

module _ (shape : Dimensions) (diaries : List Diary) (formed : IsShape shape) where
  abbrev m : Machine
  m = nodes_of_shape shape

  abbrev found : ℕ → NodeState
  found node = found_state shape diaries node

  abbrev client : ℕ → ClientState
  client c = appends_of (found c) (first_client shape c)

  abbrev reader : ℕ → ReaderState
  reader c = reads_of (found c) (first_reader shape c)

  abbrev control : ControlState
  control = control_of (found CONTROLLER) (first_control shape)

  abbrev seq : ℕ → SeqState
  seq i = seq_of (found (seq_id i)) (first_seq shape i)

  abbrev shard : ℕ → ShardState
  shard k = shard_of (found (shard_number shape k)) (first_shard shape 0 0)

  -- a node's first state, by its role
  begun : (node : ℕ) (role : Node) → node_of shape node ≡ Some role → found node ≡ state_after (first_of shape (Some role)) (entries_of diaries node)
  begun node role is = ap (λ (o : Option Node). state_after (first_of shape o) (entries_of diaries node)) is

  client_found : (c : ℕ) → c < shape.clients → found c ≡ Client (client c) (reader c)
  client_found c few =
      let is = begun c (ClientRole c) (client_node_of shape formed c few) in
      subst (λ (s : NodeState). s ≡ Client (appends_of s (first_client shape c)) (reads_of s (first_reader shape c))) (sym is)
      (client_after (first_client shape c) (first_client shape c) (first_reader shape c) (first_reader shape c) (entries_of diaries c))

  control_found : found CONTROLLER ≡ Control control
  control_found =
      let is = begun CONTROLLER Controller (control_node_of shape formed) in
      subst (λ (s : NodeState). s ≡ Control (control_of s (first_control shape))) (sym is) (control_after (first_control shape) (first_control shape) (entries_of diaries CONTROLLER))

  seq_found : (i : ℕ) → i < shape.seq + shape.spares → found (seq_id i) ≡ Seq (seq i)
  seq_found i few =
      let is = begun (seq_id i) (SeqRole i) (seq_node_of shape formed i few) in
      subst (λ (s : NodeState). s ≡ Seq (seq_of s (first_seq shape i))) (sym is) (seq_after (first_seq shape i) (first_seq shape i) (entries_of diaries (seq_id i)))

  shard_found_at : (node i j : ℕ) → node_of shape node ≡ Some (ShardRole i j) → found node ≡ Shard (shard_of (found node) (first_shard shape 0 0))
  shard_found_at node i j role =
      let is = begun node (ShardRole i j) role in
      subst (λ (s : NodeState). s ≡ Shard (shard_of s (first_shard shape 0 0))) (sym is) (shard_after (first_shard shape i j) (first_shard shape 0 0) (entries_of diaries node))

  shard_found : (k : ℕ) → k < shape.shards * shape.copies → found (shard_number shape k) ≡ Shard (shard k)
  shard_found k few = let row = shard_row shape formed k few in shard_found_at (shard_number shape k) _ _ (shard_node_at shape formed _ _ row.0 row.1)

  abbrev clients : List ℕ
  clients = range_with_len 0 shape.clients

  abbrev seqs : List ℕ
  seqs = range_with_len 0 (shape.seq + shape.spares)

  abbrev shards : List ℕ
  shards = range_with_len 0 (shape.shards * shape.copies)

  abbrev states : List NodeState
  states = map found (nodes_in_order shape)

  states_are : states ≡ all_states client reader control seq shard clients seqs shards
  states_are =
      map-append found clients (CONTROLLER ∷ (map seq_id seqs ++ map (shard_number shape) shards))
      ∙ ap (λ l. l ++ map found (CONTROLLER ∷ (map seq_id seqs ++ map (shard_number shape) shards))) (map_agree found (λ c. Client (client c) (reader c)) clients (in_each (λ c. found c ≡ Client (client c) (reader c)) clients (λ c there. client_found c (in_range_below shape.clients c there))))
      ∙ ap (λ s. map (λ c. Client (client c) (reader c)) clients ++ s ∷ map found (map seq_id seqs ++ map (shard_number shape) shards)) control_found
      ∙ ap (λ l. map (λ c. Client (client c) (reader c)) clients ++ Control control ∷ l)
      (map-append found (map seq_id seqs) (map (shard_number shape) shards)
      ∙ ap (λ l. l ++ map found (map (shard_number shape) shards)) (map_map found seq_id seqs ∙ map_agree (λ i. found (seq_id i)) (λ i. Seq (seq i)) seqs (in_each (λ i. found (seq_id i) ≡ Seq (seq i)) seqs (λ i there. seq_found i (in_range_below (shape.seq + shape.spares) i there))))
      ∙ ap (λ l. map (λ i. Seq (seq i)) seqs ++ l) (map_map found (shard_number shape) shards ∙ map_agree (λ k. found (shard_number shape k)) (λ k. Shard (shard k)) shards (in_each (λ k. found (shard_number shape k) ≡ Shard (shard k)) shards (λ k there. shard_found k (in_range_below (shape.shards * shape.copies) k there)))))

  pub laid : IsLaid shape states
  laid =
      subst (IsLaid shape) (sym states_are)
      (subst (λ (n : ℕ). AreNodes n (shape.seq + shape.spares) (shape.shards * shape.copies) (all_states client reader control seq shard clients seqs shards)) (length-range_with_len 0 shape.clients)
      (subst (λ (n : ℕ). AreNodes (length clients) n (shape.shards * shape.copies) (all_states client reader control seq shard clients seqs shards)) (length-range_with_len 0 (shape.seq + shape.spares))
      (subst (λ (n : ℕ). AreNodes (length clients) (length seqs) n (all_states client reader control seq shard clients seqs shards)) (length-range_with_len 0 (shape.shards * shape.copies))
      (all_laid client reader control seq shard clients seqs shards))))

  abbrev standing : Standing
  standing = record { shape = shape; states = states; crashed = crashed_in diaries }

  abbrev pub w : WorldState
  w = world_of_standing standing

  roles : roles_in (first_control shape) states ≡ record { clients = map client clients; readers = map reader clients; control = control; seqs = map seq seqs; shards = map shard shards }
  roles = ap (roles_in (first_control shape)) states_are ∙ all_roles client reader control seq shard (first_control shape) clients seqs shards

  -- the state of a node in that world
  here_by : (node : ℕ) (role : Option Node) → node_of shape node ≡ role → (s : LawState) → state_of (first_world shape) role ≡ Some s → state_of w role ≡ Some (law_state (found node))
  here_by node None is s h = let wrong : None ≡ Some s = h in absurd (let no : ⊥ = cc in no)
  here_by node (Some (ClientRole c)) is s h =
      let k = client_is shape node c is in
      ap (λ (r : Roles). option_map OfClient (halves (slice_get r.clients c) (slice_get r.readers c))) roles
      ∙ ap (λ (o : Option ClientState). option_map OfClient (halves o (slice_get (map reader clients) c))) (made_here client shape.clients c k.1)
      ∙ ap (λ (o : Option ReaderState). option_map OfClient (halves (Some (client c)) o)) (made_here reader shape.clients c k.1)
      ∙ ap (λ (t : NodeState). Some (law_state t)) (sym (client_found c k.1))
      ∙ ap (λ (n : ℕ). Some (law_state (found n))) (sym k.0)
  here_by node (Some Controller) is s h =
      ap (λ (r : Roles). Some (OfControl r.control)) roles
      ∙ ap (λ (t : NodeState). Some (law_state t)) (sym control_found)
      ∙ ap (λ (n : ℕ). Some (law_state (found n))) (sym (controller_is shape node is))
  here_by node (Some (SeqRole i)) is s h =
      let k = seq_is shape node i is in
      ap (λ (r : Roles). option_map OfSeq (slice_get r.seqs i)) roles
      ∙ ap (option_map OfSeq) (made_here seq (shape.seq + shape.spares) i k.1)
      ∙ ap (λ (t : NodeState). Some (law_state t)) (sym (seq_found i k.1))
      ∙ ap (λ (n : ℕ). Some (law_state (found n))) (sym k.0)
  here_by node (Some (ShardRole i j)) is s h =
      let k = shard_is shape node i j is in
      let number : shard_number shape (shard_place shape i j) ≡ node =
      ap (λ a. shard_id a ((i * shape.copies + j) % shape.copies)) (div-mul-add i shape.copies j k.2) ∙ ap (shard_id i) (mod-mul-add i shape.copies j k.2) ∙ sym k.0 in
      let below = place_below shape.shards shape.copies i j k.1 k.2 in
      ap (λ (r : Roles). option_map OfShard (slice_get r.shards (shard_place shape i j))) roles
      ∙ ap (option_map OfShard) (made_here shard (shape.shards * shape.copies) (shard_place shape i j) below)
      ∙ ap (λ (t : NodeState). Some (law_state t)) (sym (shard_found (shard_place shape i j) below))
      ∙ ap (λ (n : ℕ). Some (law_state (found n))) number

  module _ (whole : AreWhole shape diaries) where
    led : (diary : Diary) → In diary diaries → state_at w diary.node ≡ last_state m diary
    led diary there =
        let own = each_in (IsFormed m) diaries whole.closed.are.formed diary there in
        here_by diary.node (node_of shape diary.node) refl own.start own.first
        ∙ ap Some (sym (law_after shape (first_at shape diary.node) (entries_of diaries diary.node))
        ∙ ap (λ (t : LawState). state_behind m t (entries_of diaries diary.node)) (first_own shape diaries whole diary own)
        ∙ ap (state_behind m own.start) (entries_own shape diaries whole diary there))
        ∙ ap (option_map (λ (t : LawState). state_behind m t diary.entries)) (sym own.first)

    pub snapshot : IsSnapshot shape diaries w
    snapshot = record {
      shaped = refl;
      seqs = ap (λ (r : Roles). length r.seqs) roles ∙ length-map-range_with_len seq 0 (shape.seq + shape.spares);
      shards = ap (λ (r : Roles). length r.shards) roles ∙ length-map-range_with_len shard 0 (shape.shards * shape.copies);
      states = in_each (λ (diary : Diary). state_at w diary.node ≡ last_state m diary) diaries led;
      crashed = crashes_so diaries;
    }
