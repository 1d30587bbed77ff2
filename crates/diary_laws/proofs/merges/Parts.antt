-- The steps of one node in a merge are those of its diary.
use Rattle.std.proofs.Common.{◌≡◌, ◌⊎◌, ℕ, ◌<◌, ◌≤◌, List, [], ◌∷◌, ◌++◌, Bool, true, false, cond, Option, Some, None, inl, inr, refl, sym, ap, ◌∙◌, subst, arith, eqb-true, eq-eqb, ne_eqb, append-nil}
use Rattle.std.specs.Prelude.{◌==◌, filter}
use Rattle.std.specs.Option.{option_map_or}
use Rattle.std.proofs.lemmas.List.Elements.{filter-append}
use Rattle.list_facts.specs.Lists.{In, Each, Distinct}
use Rattle.list_facts.proofs.Cases.{by_test}
use Rattle.list_facts.proofs.Members.{each_in, each_weaker, in_map}
use Rattle.world_facts.proofs.goes.Sends.{each_filter}
use Rattle.lazy_msgs.specs.declared.diary.Diary.{Diary}
use Rattle.lazy_msgs.specs.declared.diary.DiaryEntry.{DiaryEntry}
use Rattle.diary_laws.specs.Machines.{Machine, Step, steps_from, steps_in, all_steps}
use Rattle.diary_laws.specs.Formed.{IsFormed, Follows, AreDiaries, nodes_of}
use Rattle.diary_laws.specs.Merges.{Ranked, IsBefore, IsMerged, is_event, event_steps}
use Rattle.diary_laws.proofs.merges.Ranks.{ranked_weaker, ranked_filter, same_passes}

module _ {A : Type 0} (p : A → Bool) where
  filter_all : (xs : List A) → Each (λ (x : A). p x ≡ true) xs → filter p xs ≡ xs
  filter_all [] h = refl
  filter_all (x ∷ xs) h = ap (λ (b : Bool). cond b (x ∷ filter p xs) (filter p xs)) h.0 ∙ ap (λ (zs : List A). x ∷ zs) (filter_all xs h.1)

  filter_none : (xs : List A) → Each (λ (x : A). p x ≡ false) xs → filter p xs ≡ []
  filter_none [] h = refl
  filter_none (x ∷ xs) h = ap (λ (b : Bool). cond b (x ∷ filter p xs) (filter p xs)) h.0 ∙ filter_none xs h.1

abbrev pub of_node : {S : Type 0} → ℕ → List (Step S) → List (Step S)
of_node node steps = filter (λ step. step.node == node) steps

module _ (m : Machine) where
  abbrev Here : Type 0
  Here = Step m.State

  -- each step of a diary is its node's
  own_steps : (node : ℕ) (s : m.State) (entries : List DiaryEntry) → Each (λ (x : Here). x.node ≡ node) (steps_from m node s entries)
  own_steps node s [] = tt
  own_steps node s (entry ∷ entries) = (refl, own_steps node (m.step s entry.input).next entries)

  own_some : (node : ℕ) (o : Option m.State) (entries : List DiaryEntry) → Each (λ (x : Here). x.node ≡ node) (option_map_or (λ (s : m.State). steps_from m node s entries) o [])
  own_some node None entries = tt
  own_some node (Some s) entries = own_steps node s entries

  abbrev events_in : Diary → List Here
  events_in diary = filter is_event (steps_in m diary)

  own_events : (diary : Diary) → Each (λ (x : Here). x.node ≡ diary.node) (events_in diary)
  own_events diary = each_filter (λ (x : Here). x.node ≡ diary.node) is_event (steps_in m diary) (own_some diary.node (m.first diary.node) diary.entries)

  of_own : (diary : Diary) → of_node diary.node (events_in diary) ≡ events_in diary
  of_own diary = filter_all (λ (x : Here). x.node == diary.node) (events_in diary) (each_weaker (λ (x : Here). x.node ≡ diary.node) (λ (x : Here). (x.node == diary.node) ≡ true) (λ x h. eq-eqb x.node diary.node h) (events_in diary) (own_events diary))

  of_other : (diary : Diary) (node : ℕ) → ¬ (diary.node ≡ node) → of_node node (events_in diary) ≡ []
  of_other diary node other = filter_none (λ (x : Here). x.node == node) (events_in diary) (each_weaker (λ (x : Here). x.node ≡ diary.node) (λ (x : Here). (x.node == node) ≡ false) (λ x h. ne_eqb x.node node (λ e. other (sym h ∙ e))) (events_in diary) (own_events diary))

  -- the steps of one node, diary by diary
  by_diary : (node : ℕ) (diary : Diary) (diaries : List Diary) → of_node node (event_steps m (diary ∷ diaries)) ≡ of_node node (events_in diary) ++ of_node node (event_steps m diaries)
  by_diary node diary diaries =
      ap (of_node node) (filter-append is_event (steps_in m diary) (all_steps m diaries))
      ∙ filter-append (λ (x : Here). x.node == node) (events_in diary) (event_steps m diaries)

  of_none : (node : ℕ) (diaries : List Diary) → ¬ In node (nodes_of diaries) → of_node node (event_steps m diaries) ≡ []
  of_none node [] none = refl
  of_none node (diary ∷ diaries) none =
      by_diary node diary diaries
      ∙ ap (λ (xs : List Here). xs ++ of_node node (event_steps m diaries)) (of_other diary node (λ e. none (inl e)))
      ∙ of_none node diaries (λ there. none (inr there))

  pub of_diary : (diaries : List Diary) → Distinct (nodes_of diaries) → (diary : Diary) → In diary diaries → of_node diary.node (event_steps m diaries) ≡ events_in diary
  of_diary [] once diary there = absurd there
  of_diary (first ∷ diaries) once diary (inl e) =
      by_diary diary.node first diaries
      ∙ ap (λ (d : Diary). of_node diary.node (events_in d) ++ of_node diary.node (event_steps m diaries)) e
      ∙ ap (λ (xs : List Here). xs ++ of_node diary.node (event_steps m diaries)) (of_own diary)
      ∙ ap (λ (xs : List Here). events_in diary ++ xs) (of_none diary.node diaries (subst (λ (d : Diary). ¬ In d.node (nodes_of diaries)) e once.0))
      ∙ append-nil (events_in diary)
  of_diary (first ∷ diaries) once diary (inr there) =
      by_diary diary.node first diaries
      ∙ ap (λ (xs : List Here). xs ++ of_node diary.node (event_steps m diaries)) (of_other first diary.node (λ e. once.0 (subst (λ (n : ℕ). In n (nodes_of diaries)) (sym e) (in_map (λ (d : Diary). d.node) diary diaries there))))
      ∙ of_diary diaries once.1 diary there

  -- a node has a diary or it has none
  pub record HasDiary (diaries : List Diary) (node : ℕ) : Type 0 where
    pub diary : Diary
    pub there : In diary diaries
    pub own : diary.node ≡ node

  pub diary_or_none : (node : ℕ) (diaries : List Diary) → HasDiary diaries node ⊎ (¬ In node (nodes_of diaries))
  diary_or_none node [] = inr (λ there. there)
  diary_or_none node (diary ∷ diaries) = by_test (diary.node == node) (λ h. inl (record { diary = diary; there = inl refl; own = eqb-true diary.node node h })) (λ h. later h (diary_or_none node diaries))
    where
      later : (diary.node == node) ≡ false → HasDiary diaries node ⊎ (¬ In node (nodes_of diaries)) → HasDiary (diary ∷ diaries) node ⊎ (¬ In node (nodes_of (diary ∷ diaries)))
      later other (inl k) = inl (record { diary = k.diary; there = inr k.there; own = k.own })
      later other (inr none) = inr (λ there. elim there [ inl e ↦ (let wrong : true ≡ false = sym (eq-eqb diary.node node e) ∙ other in cc) | inr k ↦ none k ])

  -- the steps of a diary rise
  abbrev time_of : Here → ℕ
  time_of x = x.time

  rising : (node last : ℕ) (s : m.State) (entries : List DiaryEntry) → Follows m node last s entries → Each (λ (x : Here). last < x.time) (steps_from m node s entries) × Ranked (λ (x y : Here). x.time < y.time) (steps_from m node s entries)
  rising node last s [] h = (tt, tt)
  rising node last s (entry ∷ entries) h =
      let rest = rising node entry.time (m.step s entry.input).next entries h.2 in
      let later = h.0.later in
      ((later, each_weaker (λ (x : Here). entry.time < x.time) (λ (x : Here). last < x.time) (λ x k. omega arith) (steps_from m node (m.step s entry.input).next entries) rest.0), (rest.0, rest.1))

  pub steps_are : (diary : Diary) (h : IsFormed m diary) → steps_in m diary ≡ steps_from m diary.node h.start diary.entries
  steps_are diary h = ap (λ (o : Option m.State). option_map_or (λ (s : m.State). steps_from m diary.node s diary.entries) o []) h.first

  rising_events : (diary : Diary) → IsFormed m diary → Ranked (λ (x y : Here). x.time < y.time) (events_in diary)
  rising_events diary h =
      ranked_filter (λ (x y : Here). x.time < y.time) is_event (steps_in m diary)
      (subst (Ranked (λ (x y : Here). x.time < y.time)) (sym (steps_are diary h)) (rising diary.node 0 h.start diary.entries h.follows).1)

  pub rising_merge : (diaries : List Diary) (merged : List Here) → IsMerged m diaries merged → Ranked (λ (x y : Here). x.time ≤ y.time) merged
  rising_merge diaries merged h = ranked_weaker IsBefore (λ (x y : Here). x.time ≤ y.time) (λ x y k. elim k [ inl lt ↦ omega (arith, lt) | inr e ↦ (let same = e.0 in omega arith) ]) merged h.ordered

  module _ (diaries : List Diary) (are : AreDiaries m diaries) (merged : List Here) (is : IsMerged m diaries merged) where
    part_rises : (node : ℕ) → HasDiary diaries node ⊎ (¬ In node (nodes_of diaries)) → Ranked (λ (x y : Here). x.time < y.time) (of_node node (event_steps m diaries))
    part_rises node (inl k) =
        subst (λ (n : ℕ). Ranked (λ (x y : Here). x.time < y.time) (of_node n (event_steps m diaries))) k.own
        (subst (Ranked (λ (x y : Here). x.time < y.time)) (sym (of_diary diaries are.once k.diary k.there)) (rising_events k.diary (each_in (IsFormed m) diaries are.formed k.diary k.there)))
    part_rises node (inr none) = subst (Ranked (λ (x y : Here). x.time < y.time)) (sym (of_none node diaries none)) tt

    pub part : (node : ℕ) → of_node node merged ≡ of_node node (event_steps m diaries)
    part node = same_passes time_of (λ (x : Here). x.node == node) (event_steps m diaries) merged is.all (part_rises node (diary_or_none node diaries)) (rising_merge diaries merged is)

    -- the steps of a diary's node
    pub part_of_diary : (diary : Diary) → In diary diaries → of_node diary.node merged ≡ filter is_event (steps_in m diary)
    part_of_diary diary there = part diary.node ∙ of_diary diaries are.once diary there

    -- of a node without one there are none
    pub part_of_none : (node : ℕ) → ¬ In node (nodes_of diaries) → of_node node merged ≡ []
    part_of_none node none = part node ∙ of_none node diaries none
