-- A snapshot has the controller and the replicas of the merge's run.
use Rattle.std.proofs.Common.{◌≡◌, ◌↔◌, ℕ, suc, ◌+◌, ◌*◌, ◌<◌, List, [], ◌∷◌, length, Bool, true, false, ◌||◌, Option, Some, None, inl, inr, refl, sym, ap, ◌∙◌, subst, arith, eq-eqb, mod-lt, div-add-mod', div-lt_iff_lt-mul}
use Rattle.std.specs.Prelude.{◌/◌, ◌%◌, ◌==◌, slice_get}
use Rattle.std.specs.Option.{option_map}
use Rattle.std.proofs.lemmas.List.FromFn.{length-map-range_with_len}
use Rattle.list_facts.specs.Lists.{In}
use Rattle.list_facts.proofs.Members.{each_in, in_mapped}
use Rattle.list_facts.proofs.Places.{below_at}
use Rattle.view_config.specs.Nodes.{seq_id, shard_id}
use Rattle.view_config.specs.Shape.{Dimensions, IsShape, node_of}
use Rattle.view_config.specs.declared.nodes.Node.{Node}
use Rattle.view_config.specs.declared.nodes.Node.TheVariants.{Controller, Seq, Shard}
use Rattle.view_config.specs.declared.nodes.TheConstants.{CONTROLLER}
use Rattle.lazy_msgs.specs.declared.diary.Diary.{Diary}
use Rattle.lazy_msgs.specs.declared.input.WorldEvent.{WorldEvent}
use Rattle.lazy_rules.specs.ControlState.{ControlState}
use Rattle.lazy_rules.specs.Rows.{has_node}
use Rattle.lazy_rules.specs.SeqState.{SeqState, first_seq}
use Rattle.lazy_rules.specs.ShardState.{ShardState}
use Rattle.lazy_rules.specs.WorldRules.{run}
use Rattle.lazy_rules.specs.WorldState.{WorldState, first_world, first_shard_at, shard_place}
use Rattle.world_facts.specs.Forms.{HasForm}
use Rattle.world_facts.proofs.Lists.{place_below}
use Rattle.world_facts.proofs.Nodes.{control_node_of, seq_node_of, shard_node_at}
use Rattle.world_facts.proofs.Runs.{form_of_run}
use Rattle.diary_laws.specs.Formed.{AreDiaries}
use Rattle.diary_laws.specs.Lived.{IsLived}
use Rattle.diary_laws.specs.Machines.{Step, last_state}
use Rattle.diary_laws.specs.Nodes.{NodeState, OfControl, OfSeq, OfShard, nodes_of_shape, state_of, state_at}
use Rattle.diary_laws.specs.Snapshots.{HoldAlike, IsSnapshot}
use Rattle.diary_laws.proofs.runs.Lists.{not_among}
use Rattle.diary_laws.proofs.holding.Alike.{Same, alike}

-- lists with the same member at each place are one
same_places : {A : Type 0} (xs ys : List A) → length xs ≡ length ys → ((i : ℕ) → i < length xs → slice_get xs i ≡ slice_get ys i) → xs ≡ ys
same_places [] [] long at = refl
same_places [] (y ∷ ys) long at = absurd (omega (arith, long))
same_places (x ∷ xs) [] long at = absurd (omega (arith, long))
same_places (x ∷ xs) (y ∷ ys) long at =
    let first : Some x ≡ Some y = at 0 (omega arith) in
    let same : x ≡ y = cc in
    ap (λ z. z ∷ xs) same ∙ ap (λ zs. y ∷ zs) (same_places xs ys (omega (arith, long)) (λ i below. at (suc i) (omega (arith, below))))

seq_inside : (o p : Option SeqState) → option_map OfSeq o ≡ option_map OfSeq p → o ≡ p
seq_inside None None h = refl
seq_inside None (Some b) h = let wrong : None ≡ Some (OfSeq b) = h in cc
seq_inside (Some a) None h = let wrong : Some (OfSeq a) ≡ None = h in cc
seq_inside (Some a) (Some b) h = let same : a ≡ b = cc in ap Some same

shard_inside : (o p : Option ShardState) → option_map OfShard o ≡ option_map OfShard p → o ≡ p
shard_inside None None h = refl
shard_inside None (Some b) h = let wrong : None ≡ Some (OfShard b) = h in cc
shard_inside (Some a) None h = let wrong : Some (OfShard a) ≡ None = h in cc
shard_inside (Some a) (Some b) h = let same : a ≡ b = cc in ap Some same

control_inside : (a b : ControlState) → Some (OfControl a) ≡ Some (OfControl b) → a ≡ b
control_inside a b h = cc

-- a node among these
or_true : (b c : Bool) → c ≡ true → b || c ≡ true
or_true true c h = refl
or_true false c h = h

pub among : (nodes : List ℕ) (me : ℕ) → In me nodes → has_node nodes me ≡ true
among [] me there = absurd there
among (node ∷ nodes) me (inl e) = ap (λ (b : Bool). b || has_node nodes me) (eq-eqb node me e)
among (node ∷ nodes) me (inr there) = or_true (node == me) (has_node nodes me) (among nodes me there)

both_among : (xs ys : List ℕ) (me : ℕ) → (In me xs ↔ In me ys) → has_node xs me ≡ has_node ys me
both_among xs ys me same = by (has_node ys me) refl
  where
    by : (b : Bool) → has_node ys me ≡ b → has_node xs me ≡ b
    by false is = not_among xs me (λ there. let wrong : true ≡ false = sym (among ys me (same.0 there)) ∙ is in cc)
    by true is = other (has_node xs me) refl
      where
        other : (c : Bool) → has_node xs me ≡ c → has_node xs me ≡ true
        other true has = has
        other false has =
            let none : has_node ys me ≡ false = not_among ys me (λ there. let wrong : true ≡ false = sym (among xs me (same.1 there)) ∙ has in cc) in
            let wrong : true ≡ false = sym is ∙ none in
            cc

module _ (shape : Dimensions) (formed : IsShape shape) (diaries : List Diary) (are : AreDiaries (nodes_of_shape shape) diaries) (merged : List (Step NodeState)) (events : List WorldEvent) (lived : IsLived shape diaries merged events) (v : WorldState) (snap : IsSnapshot shape diaries v) where
  abbrev r : WorldState
  r = run events (first_world shape)

  form : HasForm shape r
  form = form_of_run shape events

  -- a node of the shape has one state in both
  one_state : (node : ℕ) (s : NodeState) → state_at (first_world shape) node ≡ Some s → state_at v node ≡ state_at r node
  one_state node s first =
      let diary = in_mapped (λ (d : Diary). d.node) node diaries (are.all node s first) in
      let here = each_in (λ (d : Diary). state_at v d.node ≡ last_state (nodes_of_shape shape) d) diaries snap.states diary.0 diary.1 in
      let there = each_in (λ (d : Diary). state_at r d.node ≡ last_state (nodes_of_shape shape) d) diaries lived.states diary.0 diary.1 in
      subst (λ (n : ℕ). state_at v n ≡ state_at r n) diary.2 (here ∙ sym there)

  -- the same of a role
  one_role : (node : ℕ) (role : Node) → node_of shape node ≡ Some role → (s : NodeState) → state_of (first_world shape) (Some role) ≡ Some s → state_of v (Some role) ≡ state_of r (Some role)
  one_role node role is s first =
      let in_v : state_at v node ≡ state_of v (Some role) = ap (λ (d : Dimensions). state_of v (node_of d node)) snap.shaped ∙ ap (state_of v) is in
      let in_r : state_at r node ≡ state_of r (Some role) = ap (λ (d : Dimensions). state_of r (node_of d node)) form.shaped ∙ ap (state_of r) is in
      sym in_v ∙ one_state node s (ap (state_of (first_world shape)) is ∙ first) ∙ in_r

  same_control : v.control ≡ r.control
  same_control = control_inside v.control r.control (one_role CONTROLLER Controller (control_node_of shape formed) (OfControl (first_world shape).control) refl)

  same_seq : (i : ℕ) → i < length v.seqs → slice_get v.seqs i ≡ slice_get r.seqs i
  same_seq i below =
      let few : i < shape.seq + shape.spares = subst (λ (n : ℕ). i < n) snap.seqs below in
      let long = length-map-range_with_len (first_seq shape) 0 (shape.seq + shape.spares) in
      let first = below_at (first_world shape).seqs i (omega arith) in
      seq_inside (slice_get v.seqs i) (slice_get r.seqs i) (one_role (seq_id i) (Seq i) (seq_node_of shape formed i few) (OfSeq first.0) (ap (option_map OfSeq) first.1))

  -- by row and column
  same_at : (i j : ℕ) → i < shape.shards → j < shape.copies → slice_get v.shards (shard_place shape i j) ≡ slice_get r.shards (shard_place shape i j)
  same_at i j row column =
      let long = length-map-range_with_len (first_shard_at shape) 0 (shape.shards * shape.copies) in
      let within = place_below shape.shards shape.copies i j row column in
      let first = below_at (first_world shape).shards (shard_place shape i j) (omega arith) in
      let same = one_role (shard_id i j) (Shard i j) (shard_node_at shape formed i j row column) (OfShard first.0) (ap (option_map OfShard) first.1) in
      let in_v = ap (λ (d : Dimensions). option_map OfShard (slice_get v.shards (shard_place d i j))) snap.shaped in
      let in_r = ap (λ (d : Dimensions). option_map OfShard (slice_get r.shards (shard_place d i j))) form.shaped in
      shard_inside (slice_get v.shards (shard_place shape i j)) (slice_get r.shards (shard_place shape i j)) (sym in_v ∙ same ∙ in_r)

  same_shard : (k : ℕ) → k < length v.shards → slice_get v.shards k ≡ slice_get r.shards k
  same_shard k below =
      let few : k < shape.shards * shape.copies = subst (λ (n : ℕ). k < n) snap.shards below in
      let some : 0 < shape.copies = let least = formed.copies_least in omega arith in
      let row : k / shape.copies < shape.shards = (div-lt_iff_lt-mul {k = shape.copies} {x = k} {y = shape.shards} some).1 few in
      let column : k % shape.copies < shape.copies = mod-lt k {m = shape.copies} some in
      subst (λ (n : ℕ). slice_get v.shards n ≡ slice_get r.shards n) (div-add-mod' k shape.copies) (same_at (k / shape.copies) (k % shape.copies) row column)

  same_crashes : (node : ℕ) → has_node v.crashed node ≡ has_node r.crashed node
  same_crashes node =
      let here = snap.crashed node in
      let there = lived.crashed node in
      both_among v.crashed r.crashed node (λ k. there.1 (here.0 k), λ k. here.1 (there.0 k))

  same : Same v r
  same = record {
    shape = snap.shaped ∙ sym form.shaped;
    control = same_control;
    seqs = same_places v.seqs r.seqs (snap.seqs ∙ sym form.seqs) same_seq;
    shards = same_places v.shards r.shards (snap.shards ∙ sym form.shards) same_shard;
    crashed = same_crashes;
  }

  pub snapshot_alike : HoldAlike v r
  snapshot_alike = alike v r same
