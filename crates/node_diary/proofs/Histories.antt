-- What the steps of all diaries told, in the order of their keys, is what the merged steps told.
use Rattle.std.proofs.Common.{◌≡◌, ◌⊎◌, ◌<◌, ◌≤◌, ℕ, List, [], ◌∷◌, ◌++◌, map, Bool, true, false, cond, Option, Some, None, inl, inr, refl, sym, ap, ◌∙◌, subst, arith, eq-eqb, ne_eqb, append-nil}
use Rattle.std.specs.Prelude.{◌==◌, filter, find, not, if◌then◌else◌}
use Rattle.std.specs.List.{flat_map}
use Rattle.std.specs.Option.{is_none, option_map_or}
use Rattle.std.proofs.lemmas.List.{map-append}
use Rattle.std.proofs.lemmas.List.Elements.{filter-append}
use Rattle.std.proofs.lemmas.List.Sorted.{IsNonDecreasingBy-from_sort}
use Rattle.list_facts.specs.Lists.{Distinct, Each, In}
use Rattle.list_facts.proofs.Cases.{by_test}
use Rattle.list_facts.proofs.Members.{each_in, each_weaker, in_each, in_filter, in_map}
use Rattle.rec_id.specs.declared.event.Event.{Event}
use Rattle.view_config.specs.Shape.{Dimensions, node_of}
use Rattle.view_config.specs.declared.nodes.Node.{Node}
use Rattle.lazy_msgs.specs.declared.diary.Diary.{Diary}
use Rattle.lazy_msgs.specs.declared.diary.DiaryEntry.{DiaryEntry}
use Rattle.lazy_msgs.specs.declared.limits.TheConstants.{TIME_LIMIT}
use Rattle.lazy_msgs.specs.Step.{Row}
use Rattle.lazy_rules.specs.WorldState.{first_world}
use Rattle.diary_laws.specs.Formed.{AreDiaries, IsFormed, nodes_of}
use Rattle.diary_laws.specs.Machines.{Machine, Step, step_of, steps_from, steps_in}
use Rattle.diary_laws.specs.Merges.{IsBefore, IsMerged, Ranked, finds_none, is_event, told_by}
use Rattle.diary_laws.specs.Nodes.{NodeState as LawState, node_step as law_step, nodes_of_shape, state_of}
use Rattle.diary_laws.proofs.merges.Crashes.{made_of}
use Rattle.diary_laws.proofs.merges.Keys.{key_of, ranked_by_key}
use Rattle.diary_laws.proofs.merges.Parts.{HasDiary, diary_or_none, of_node, part_of_diary, part_of_none, steps_are}
use Rattle.diary_laws.proofs.merges.Ranks.{in_permuted, ranked_filter, ranked_weaker, same_passes}
use Rattle.diary_laws.proofs.merges.Unique.{one_order}
use Rattle.lazy_core.specs.declared.node_state.NodeState.{NodeState}
use Rattle.lazy_core.specs.NodeStep.{node_step}
use Rattle.node_diary.specs.declared.fold.Telling.{Telling}
use Rattle.diary_merge.specs.Acts.{word_at}
use Rattle.node_diary.specs.Folding.{IsHistoryOf, entries_of, found_tellings, nodes_in_order, telling_of, tellings_after}
use Rattle.diary_merge.specs.Merging.{AreWhole}
use Rattle.node_diary.specs.States.{HasNode, first_at, law_state}
use Rattle.diary_merge.specs.declared.place.TheConstants.{NODES}
use Rattle.diary_merge.proofs.Acts.{word_key}
use Rattle.node_diary.proofs.FirstStates.{first_begins}
use Rattle.node_diary.proofs.Folds.{law_row, same_rule}
use Rattle.diary_merge.proofs.WholeDiaries.{IsOf, node_below, of_steps, rising, same_rise}
use Rattle.node_diary.proofs.NodeOrder.{node_found, nodes_had, nodes_once}
use Rattle.diary_merge.proofs.Permuted.{Follows, permuted_along}

-- ---- the diary of a node
find_own : (diaries : List Diary) → Distinct (nodes_of diaries) → (diary : Diary) → In diary diaries → find (λ (d : Diary). d.node == diary.node) diaries ≡ Some diary
find_own [] once diary there = absurd there
find_own (first ∷ diaries) once diary (inl e) = ap (λ (b : Bool). cond b (Some first) (find (λ (d : Diary). d.node == diary.node) diaries)) (eq-eqb first.node diary.node (ap (λ (d : Diary). d.node) e)) ∙ ap Some e
find_own (first ∷ diaries) once diary (inr there) =
    ap (λ (b : Bool). cond b (Some first) (find (λ (d : Diary). d.node == diary.node) diaries))
    (ne_eqb first.node diary.node (λ e. once.0 (subst (λ (n : ℕ). In n (nodes_of diaries)) (sym e) (in_map (λ (d : Diary). d.node) diary diaries there))))
    ∙ find_own diaries once.1 diary there

find_none : (diaries : List Diary) (node : ℕ) → ¬ In node (nodes_of diaries) → find (λ (d : Diary). d.node == node) diaries ≡ None
find_none [] node none = refl
find_none (first ∷ diaries) node none =
    ap (λ (b : Bool). cond b (Some first) (find (λ (d : Diary). d.node == node) diaries)) (ne_eqb first.node node (λ e. none (inl e))) ∙ find_none diaries node (λ there. none (inr there))

has_state : (shape : Dimensions) (node : ℕ) (role : Option Node) → node_of shape node ≡ role → (s : LawState) → state_of (first_world shape) role ≡ Some s → HasNode shape node
has_state shape node None is s h = let wrong : None ≡ Some s = h in absurd (let no : ⊥ = cc in no)
has_state shape node (Some role) is s h = record { has = ap is_none is }

module _ {A : Type 0} (p : A → Bool) where
  filter_all : (xs : List A) → Each (λ (x : A). p x ≡ true) xs → filter p xs ≡ xs
  filter_all [] h = refl
  filter_all (x ∷ xs) h = ap (λ (b : Bool). cond b (x ∷ filter p xs) (filter p xs)) h.0 ∙ ap (λ (zs : List A). x ∷ zs) (filter_all xs h.1)

  filter_no : (xs : List A) → Each (λ (x : A). p x ≡ false) xs → filter p xs ≡ []
  filter_no [] h = refl
  filter_no (x ∷ xs) h = ap (λ (b : Bool). cond b (x ∷ filter p xs) (filter p xs)) h.0 ∙ filter_no xs h.1

each_filtered : {A : Type 0} (P : A → Type 0) (p : A → Bool) (xs : List A) → Each P xs → Each P (filter p xs)
each_filtered P p xs h = in_each P (filter p xs) (λ x there. each_in P xs h x (in_filter p xs x there).0)

same_members : {A : Type 0} (xs : List A) → map (λ (x : A). x) xs ≡ xs
same_members [] = refl
same_members (x ∷ xs) = ap (λ l. x ∷ l) (same_members xs)

-- a step's telling
abbrev telling : Step LawState → Telling
telling x = record { key = word_at x.time x.node; events = x.row.events }

told_tellings : (xs : List (Step LawState)) → flat_map (λ (t : Telling). t.events) (map telling xs) ≡ told_by xs
told_tellings [] = refl
told_tellings (x ∷ xs) = ap (λ (l : List Event). x.row.events ++ l) (told_tellings xs)

keys_told : (xs : List (Step LawState)) → Each (λ (x : Step LawState). (x.time < TIME_LIMIT) × (x.node < NODES)) xs → map key_of xs ≡ map (λ (t : Telling). t.key) (map telling xs)
keys_told [] h = refl
keys_told (x ∷ xs) h = ap (λ k. k ∷ map key_of xs) (sym (word_key x.time x.node h.0.0 h.0.1)) ∙ ap (λ l. word_at x.time x.node ∷ l) (keys_told xs h.1)

module _ (shape : Dimensions) where
  tellings_are : (node : ℕ) (s : NodeState) (entries : List DiaryEntry) → map telling (filter is_event (steps_from (nodes_of_shape shape) node (law_state s) entries)) ≡ tellings_after node s entries
  tellings_are node s [] = refl
  tellings_are node s (entry ∷ entries) = by (finds_none entry.input) (tellings_are node (node_step s entry.input).next entries)
    where
      rule : law_step (law_state s) entry.input ≡ law_row (node_step s entry.input)
      rule = same_rule s entry.input

      rest : map telling (filter is_event (steps_from (nodes_of_shape shape) node (law_state (node_step s entry.input).next) entries)) ≡ tellings_after node (node_step s entry.input).next entries → map telling (filter is_event (steps_from (nodes_of_shape shape) node (law_step (law_state s) entry.input).next entries)) ≡ tellings_after node (node_step s entry.input).next entries
      rest later = ap (λ (t : LawState). map telling (filter is_event (steps_from (nodes_of_shape shape) node t entries))) (ap (λ (r : Row LawState). r.next) rule) ∙ later

      first : telling (step_of (nodes_of_shape shape) node (law_state s) entry) ≡ telling_of node s entry
      first = ap (λ (r : Row LawState). record { key = word_at entry.time node; events = r.events }) rule

      by : (b : Bool) → map telling (filter is_event (steps_from (nodes_of_shape shape) node (law_state (node_step s entry.input).next) entries)) ≡ tellings_after node (node_step s entry.input).next entries → map telling (cond (not b) (step_of (nodes_of_shape shape) node (law_state s) entry ∷ filter is_event (steps_from (nodes_of_shape shape) node (law_step (law_state s) entry.input).next entries)) (filter is_event (steps_from (nodes_of_shape shape) node (law_step (law_state s) entry.input).next entries)))
          ≡ (if b then [] else telling_of node s entry ∷ []) ++ tellings_after node (node_step s entry.input).next entries
      by true later = rest later
      by false later = ap (λ (t : Telling). t ∷ map telling (filter is_event (steps_from (nodes_of_shape shape) node (law_step (law_state s) entry.input).next entries))) first ∙ ap (λ l. telling_of node s entry ∷ l) (rest later)

module _ (shape : Dimensions) (diaries : List Diary) (whole : AreWhole shape diaries) where
  abbrev m : Machine
  m = nodes_of_shape shape

  abbrev are : AreDiaries m diaries
  are = whole.closed.are

  abbrev Rises : Step LawState → Step LawState → Type 0
  Rises x y = x.time < y.time

  -- the steps of a node that become events
  abbrev steps_found : ℕ → List (Step LawState)
  steps_found node = filter is_event (steps_from m node (law_state (first_at shape node)) (entries_of diaries node))

  all_found : (nodes : List ℕ) → map telling (flat_map steps_found nodes) ≡ flat_map (found_tellings shape diaries) nodes
  all_found [] = refl
  all_found (node ∷ nodes) =
      map-append telling (steps_found node) (flat_map steps_found nodes)
      ∙ ap (λ l. l ++ map telling (flat_map steps_found nodes)) (tellings_are shape node (first_at shape node) (entries_of diaries node))
      ∙ ap (λ l. found_tellings shape diaries node ++ l) (all_found nodes)

  -- they are those of its diary
  pub entries_own : (diary : Diary) → In diary diaries → entries_of diaries diary.node ≡ diary.entries
  entries_own diary there = ap (λ (o : Option Diary). option_map_or (λ (d : Diary). d.entries) o []) (find_own diaries are.once diary there)

  pub first_own : (diary : Diary) (formed : IsFormed m diary) → law_state (first_at shape diary.node) ≡ formed.start
  first_own diary formed =
      let has = has_state shape diary.node (node_of shape diary.node) refl formed.start formed.first in
      let same : Some (law_state (first_at shape diary.node)) ≡ Some formed.start = sym (first_begins shape whole.formed diary.node has) ∙ formed.first in
      cc

  found_own : (diary : Diary) → In diary diaries → steps_found diary.node ≡ filter is_event (steps_in m diary)
  found_own diary there =
      let formed = each_in (IsFormed m) diaries are.formed diary there in
      ap (λ (s : LawState). filter is_event (steps_from m diary.node s (entries_of diaries diary.node))) (first_own diary formed)
      ∙ ap (λ (entries : List DiaryEntry). filter is_event (steps_from m diary.node formed.start entries)) (entries_own diary there)
      ∙ ap (filter is_event) (sym (steps_are m diary formed))

  none_found : (node : ℕ) → ¬ In node (nodes_of diaries) → steps_found node ≡ []
  none_found node none =
      ap (λ (o : Option Diary). filter is_event (steps_from m node (law_state (first_at shape node)) (option_map_or (λ (d : Diary). d.entries) o []))) (find_none diaries node none)

  -- among those of all nodes
  own_from : (node : ℕ) (s : LawState) (entries : List DiaryEntry) → Each (λ (x : Step LawState). x.node ≡ node) (steps_from m node s entries)
  own_from node s [] = tt
  own_from node s (entry ∷ entries) = (refl, own_from node (law_step s entry.input).next entries)

  own_steps : (node : ℕ) → Each (λ (x : Step LawState). x.node ≡ node) (steps_found node)
  own_steps node = each_filtered (λ (x : Step LawState). x.node ≡ node) is_event (steps_from m node (law_state (first_at shape node)) (entries_of diaries node)) (own_from node (law_state (first_at shape node)) (entries_of diaries node))

  of_own : (node : ℕ) → of_node node (steps_found node) ≡ steps_found node
  of_own node = filter_all (λ (x : Step LawState). x.node == node) (steps_found node) (each_weaker (λ (x : Step LawState). x.node ≡ node) (λ (x : Step LawState). (x.node == node) ≡ true) (λ x h. eq-eqb x.node node h) (steps_found node) (own_steps node))

  of_other : (node other : ℕ) → ¬ (other ≡ node) → of_node node (steps_found other) ≡ []
  of_other node other apart = filter_no (λ (x : Step LawState). x.node == node) (steps_found other) (each_weaker (λ (x : Step LawState). x.node ≡ other) (λ (x : Step LawState). (x.node == node) ≡ false) (λ x h. ne_eqb x.node node (λ e. apart (sym h ∙ e))) (steps_found other) (own_steps other))

  of_none : (node : ℕ) (nodes : List ℕ) → ¬ In node nodes → of_node node (flat_map steps_found nodes) ≡ []
  of_none node [] none = refl
  of_none node (first ∷ nodes) none =
      filter-append (λ (x : Step LawState). x.node == node) (steps_found first) (flat_map steps_found nodes)
      ∙ ap (λ l. l ++ of_node node (flat_map steps_found nodes)) (of_other node first (λ e. none (inl e)))
      ∙ of_none node nodes (λ there. none (inr there))

  of_one : (node : ℕ) (nodes : List ℕ) → Distinct nodes → In node nodes → of_node node (flat_map steps_found nodes) ≡ steps_found node
  of_one node [] once there = absurd there
  of_one node (first ∷ nodes) once (inl e) =
      filter-append (λ (x : Step LawState). x.node == node) (steps_found first) (flat_map steps_found nodes)
      ∙ ap (λ l. of_node node (steps_found first) ++ l) (of_none node nodes (λ there. once.0 (subst (λ n. In n nodes) (sym e) there)))
      ∙ append-nil (of_node node (steps_found first))
      ∙ ap (λ n. of_node node (steps_found n)) e
      ∙ of_own node
  of_one node (first ∷ nodes) once (inr there) =
      filter-append (λ (x : Step LawState). x.node == node) (steps_found first) (flat_map steps_found nodes)
      ∙ ap (λ l. l ++ of_node node (flat_map steps_found nodes)) (of_other node first (λ e. once.0 (subst (λ n. In n nodes) (sym e) there)))
      ∙ of_one node nodes once.1 there

  abbrev every : List (Step LawState)
  every = flat_map steps_found (nodes_in_order shape)

  of_every : (node : ℕ) → of_node node every ≡ steps_found node ⊎ (of_node node every ≡ [])
  of_every node = by_test (is_none (node_of shape node))
      (λ none. inr (of_none node (nodes_in_order shape) (λ there. let has = (each_in (HasNode shape) (nodes_in_order shape) (nodes_had shape whole.formed) node there).has in let wrong : true ≡ false = sym none ∙ has in absurd (let no : ⊥ = cc in no))))
      (λ has. inl (of_one node (nodes_in_order shape) (nodes_once shape whole.formed) (node_found shape whole.formed node (record { has = has }))))

  diary_part : (diary : Diary) → In diary diaries → of_node diary.node every ≡ filter is_event (steps_in m diary)
  diary_part diary there =
      let formed = each_in (IsFormed m) diaries are.formed diary there in
      let has = has_state shape diary.node (node_of shape diary.node) refl formed.start formed.first in
      of_one diary.node (nodes_in_order shape) (nodes_once shape whole.formed) (node_found shape whole.formed diary.node has) ∙ found_own diary there

  none_part : (node : ℕ) → ¬ In node (nodes_of diaries) → of_node node every ≡ []
  none_part node none = elim (of_every node) [ inl e ↦ e ∙ none_found node none | inr e ↦ e ]

  -- each of them is timely
  abbrev Timely : Step LawState → Type 0
  Timely x = (x.time < TIME_LIMIT) × (x.node < NODES)

  timely_in : (diary : Diary) → In diary diaries → (x : Step LawState) → In x (filter is_event (steps_in m diary)) → Timely x
  timely_in diary there x among =
      let formed = each_in (IsFormed m) diaries are.formed diary there in
      let inside = subst (In x) (steps_are m diary formed) (in_filter is_event (steps_in m diary) x among).0 in
      let of = each_in (IsOf m diary.node) (steps_from m diary.node formed.start diary.entries) (of_steps m diary.node 0 formed.start diary.entries formed.follows) x inside in
      (of.early, subst (λ (n : ℕ). n < NODES) (sym of.own) (node_below shape whole.formed diary.node (node_of shape diary.node) refl formed.start formed.first))

  timely_found : (node : ℕ) → HasDiary m diaries node ⊎ (¬ In node (nodes_of diaries)) → (x : Step LawState) → In x (steps_found node) → Timely x
  timely_found node (inl k) x among = timely_in k.diary k.there x (subst (In x) (ap steps_found (sym k.own) ∙ found_own k.diary k.there) among)
  timely_found node (inr none) x among = absurd (subst (In x) (none_found node none) among)

  timely_every : (x : Step LawState) → In x every → Timely x
  timely_every x among = let from = made_of steps_found (nodes_in_order shape) x among in timely_found from.origin (diary_or_none m from.origin diaries) x from.made

  diary_rises : (diary : Diary) → In diary diaries → Ranked Rises (filter is_event (steps_in m diary))
  diary_rises diary there =
      let formed = each_in (IsFormed m) diaries are.formed diary there in
      ranked_filter Rises is_event (steps_in m diary) (subst (Ranked Rises) (sym (steps_are m diary formed)) (rising m diary.node 0 formed.start diary.entries formed.follows).1)

  part_rises : (node : ℕ) → HasDiary m diaries node ⊎ (¬ In node (nodes_of diaries)) → Ranked Rises (of_node node every)
  part_rises node (inl k) = subst (λ (n : ℕ). Ranked Rises (of_node n every)) k.own (subst (Ranked Rises) (sym (diary_part k.diary k.there)) (diary_rises k.diary k.there))
  part_rises node (inr none) = subst (Ranked Rises) (sym (none_part node none)) tt

  module _ (history : List Event) (h : IsHistoryOf (flat_map (found_tellings shape diaries) (nodes_in_order shape)) history) where
    shown : Follows telling (λ (t : Telling). t) every h.order
    shown = permuted_along telling (λ (t : Telling). t) every (flat_map (found_tellings shape diaries) (nodes_in_order shape)) h.order
        (all_found (nodes_in_order shape) ∙ sym (same_members (flat_map (found_tellings shape diaries) (nodes_in_order shape)))) h.same

    abbrev steps : List (Step LawState)
    steps = shown.order

    tells : map telling steps ≡ h.order
    tells = shown.shows ∙ same_members h.order

    timely_steps : Each Timely steps
    timely_steps = in_each Timely steps (λ x among. timely_every x (in_permuted every steps shown.same x among))

    ordered : Ranked IsBefore steps
    ordered =
        ranked_by_key steps (each_weaker Timely (λ (x : Step LawState). x.node < NODES) (λ x k. k.1) steps timely_steps)
        (same_rise key_of (λ (t : Telling). t.key) steps h.order (keys_told steps timely_steps ∙ ap (map (λ (t : Telling). t.key)) tells) (record { key = 0; events = [] })
        (IsNonDecreasingBy-from_sort (λ (t : Telling). t.key) h.order h.sorted))

    part : (node : ℕ) → of_node node steps ≡ of_node node every
    part node =
        same_passes (λ (x : Step LawState). x.time) (λ (x : Step LawState). x.node == node) every steps shown.same (part_rises node (diary_or_none m node diaries))
        (ranked_weaker IsBefore (λ (x y : Step LawState). x.time ≤ y.time) (λ x y k. elim k [ inl lt ↦ omega (arith, lt) | inr e ↦ (let same = e.0 in omega arith) ]) steps ordered)

    module _ (merged : List (Step LawState)) (is : IsMerged m diaries merged) where
      merged_part : (node : ℕ) → HasDiary m diaries node ⊎ (¬ In node (nodes_of diaries)) → of_node node every ≡ of_node node merged
      merged_part node (inl k) = subst (λ (n : ℕ). of_node n every ≡ of_node n merged) k.own (diary_part k.diary k.there ∙ sym (part_of_diary m diaries are merged is k.diary k.there))
      merged_part node (inr none) = none_part node none ∙ sym (part_of_none m diaries are merged is node none)

      same_steps : steps ≡ merged
      same_steps = one_order steps merged ordered is.ordered (λ node. part node ∙ merged_part node (diary_or_none m node diaries))

      pub history_told : history ≡ told_by merged
      history_told = h.is ∙ ap (flat_map (λ (t : Telling). t.events)) (sym tells) ∙ told_tellings steps ∙ ap told_by same_steps
