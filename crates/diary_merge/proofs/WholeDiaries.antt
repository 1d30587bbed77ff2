-- Whole diaries, whose places are put in order by their keys, are merged, and their messages are numbered.
use Rattle.std.proofs.Common.{◌≡◌, ◌≢◌, ◌⊎◌, ◌<◌, ◌≤◌, ◌+◌, ◌*◌, ◌^◌, IfOk, Result, Ok, Err, ℕ, suc, List, [], ◌∷◌, length, map, Bool, true, false, cond, Option, Some, None, IsPermutation, inl, inr, refl, sym, ap, ◌∙◌, subst, arith, eqb-true, eq-eqb}
use Rattle.std.specs.Prelude.{◌==◌, filter, sum_by, IsSortedByKey, slice_index_or}
use Rattle.std.specs.Ordering.{nat_cmp}
use Rattle.std.proofs.lemmas.Bool.{eqb-false}
use Rattle.std.specs.List.Sorted.{IsNonDecreasingBy}
use Rattle.std.proofs.lemmas.List.{length-map, get_or-map}
use Rattle.std.proofs.lemmas.List.Sorted.{IsNonDecreasingBy-from_sort, sum_by-IsPermutation}
use Rattle.std.proofs.lemmas.List.Sums.{sum_by-cons}
use Rattle.list_facts.specs.Lists.{Each, In}
use Rattle.list_facts.proofs.Cases.{by_test}
use Rattle.list_facts.proofs.Members.{each_in, each_map, each_weaker, filter_in, in_each, in_filter}
use Rattle.view_config.specs.Shape.{Dimensions, IsShape, node_of}
use Rattle.view_config.specs.declared.nodes.Node.{Node}
use Rattle.view_config.specs.declared.nodes.Node.TheVariants.{Client, Controller, Seq, Shard}
use Rattle.lazy_msgs.specs.declared.diary.Diary.{Diary}
use Rattle.lazy_msgs.specs.declared.diary.DiaryEntry.{DiaryEntry}
use Rattle.lazy_msgs.specs.declared.input.Input.{Input}
use Rattle.lazy_msgs.specs.declared.input.Input.TheVariants.{Peek}
use Rattle.lazy_msgs.specs.declared.input.WorldEvent.{WorldEvent}
use Rattle.lazy_msgs.specs.declared.limits.TheConstants.{TIME_LIMIT}
use Rattle.lazy_msgs.specs.declared.msg.Envelope.{Envelope}
use Rattle.lazy_rules.specs.WorldState.{first_world}
use Rattle.world_facts.proofs.Nodes.{client_is, controller_is, seq_is, shard_is}
use Rattle.diary_laws.specs.Closed.{IsJustified, all_sent}
use Rattle.diary_laws.specs.Formed.{AreDiaries, Follows, IsFormed, nodes_of}
use Rattle.diary_laws.specs.Machines.{Machine, Step, all_steps, steps_from, steps_in}
use Rattle.diary_laws.specs.Merges.{AreEventsOf, IsBefore, IsFirstNumber, IsFound, IsMerge, IsMerged, Ranked, event_steps, is_event, sent_by}
use Rattle.diary_laws.specs.Nodes.{NodeState, nodes_of_shape, state_of}
use Rattle.diary_laws.proofs.merges.Crashes.{made_of}
use Rattle.diary_laws.proofs.merges.Keys.{key_of, ranked_by_key}
use Rattle.diary_laws.proofs.merges.Parts.{HasDiary, diary_or_none, of_node, part_of_diary, part_of_none, steps_are}
use Rattle.diary_laws.proofs.merges.Ranks.{in_permuted, ranked_filter}
use Rattle.diary_laws.proofs.runs.Due.{IsDueIn, all_due}
use Rattle.diary_laws.proofs.runs.Found.{nodes_found}
use Rattle.diary_laws.proofs.runs.Quiet.{nodes_quiet}
use Rattle.diary_merge.specs.Acts.{Act, AreNumbered, CanBeEvent, CanBeMerged, IsThere, IsTimely, IsWithinClaim, act_at, act_of, acts_at, places_of, starts_from}
use Rattle.diary_merge.specs.Merging.{AreWhole}
use Rattle.diary_merge.specs.declared.place.Place.{Place}
use Rattle.diary_merge.specs.declared.place.TheConstants.{NODES}
use Rattle.diary_merge.proofs.Acts.{acts_of, acts_sent, events_acts, places_acts, there_key, word_key}
use Rattle.diary_merge.proofs.Counting.{count_of, few_sent, sent_count}
use Rattle.diary_merge.proofs.Permuted.{Follows as Shown, permuted_along}

-- ---- lists by what they show
module _ {A B : Type 0} (f : A → B) (R : B → B → Type 0) where
  each_shown : (x : A) (xs : List A) → Each (R (f x)) (map f xs) → Each (λ (y : A). R (f x) (f y)) xs
  each_shown x [] h = tt
  each_shown x (y ∷ ys) h = (h.0, each_shown x ys h.1)

  pub ranked_shown : (xs : List A) → Ranked R (map f xs) → Ranked (λ (x y : A). R (f x) (f y)) xs
  ranked_shown [] h = tt
  ranked_shown (x ∷ xs) h = (each_shown x xs h.0, ranked_shown xs h.1)

  each_showing : (x : A) (xs : List A) → Each (λ (y : A). R (f x) (f y)) xs → Each (R (f x)) (map f xs)
  each_showing x [] h = tt
  each_showing x (y ∷ ys) h = (h.0, each_showing x ys h.1)

  pub ranked_showing : (xs : List A) → Ranked (λ (x y : A). R (f x) (f y)) xs → Ranked R (map f xs)
  ranked_showing [] h = tt
  ranked_showing (x ∷ xs) h = (each_showing x xs h.0, ranked_showing xs h.1)

-- two lists that show the same numbers rise together
pub same_rise : {A B : Type 0} (f : A → ℕ) (g : B → ℕ) (xs : List A) (ys : List B) → map f xs ≡ map g ys → B → IsNonDecreasingBy g ys → (i j : ℕ) (d : A) → i ≤ j → j < length xs → f (slice_index_or xs i d) ≤ f (slice_index_or xs j d)
same_rise f g xs ys same e up i j d le within =
    let long : length xs ≡ length ys = sym (length-map xs f) ∙ ap length same ∙ length-map ys g in
    let a : i < length xs = omega arith in
    let b : i < length ys = omega arith in
    let c : j < length ys = omega arith in
    let first : f (slice_index_or xs i d) ≡ g (slice_index_or ys i e) = sym (get_or-map f xs i d 0 a) ∙ ap (λ l. slice_index_or l i 0) same ∙ get_or-map g ys i e 0 b in
    let last : f (slice_index_or xs j d) ≡ g (slice_index_or ys j e) = sym (get_or-map f xs j d 0 within) ∙ ap (λ l. slice_index_or l j 0) same ∙ get_or-map g ys j e 0 c in
    let least = up i j e le c in
    omega arith

-- ---- steps of diaries
module _ (m : Machine) where
  -- of a node's steps, each is timely, and they rise
  pub record IsOf (node : ℕ) (x : Step m.State) : Type 0 where
    pub own : x.node ≡ node
    pub early : x.time < TIME_LIMIT

  pub of_steps : (node last : ℕ) (s : m.State) (entries : List DiaryEntry) → Follows m node last s entries → Each (IsOf node) (steps_from m node s entries)
  of_steps node last s [] h = tt
  of_steps node last s (entry ∷ entries) h = (record { own = refl; early = h.0.early }, of_steps node entry.time (m.step s entry.input).next entries h.2)

  pub rising : (node last : ℕ) (s : m.State) (entries : List DiaryEntry) → Follows m node last s entries → Each (λ (x : Step m.State). last < x.time) (steps_from m node s entries) × Ranked (λ (x y : Step m.State). x.time < y.time) (steps_from m node s entries)
  rising node last s [] h = (tt, tt)
  rising node last s (entry ∷ entries) h =
      let rest = rising node entry.time (m.step s entry.input).next entries h.2 in
      let later = h.0.later in
      ((later, each_weaker (λ (x : Step m.State). entry.time < x.time) (λ (x : Step m.State). last < x.time) (λ x k. omega arith) (steps_from m node (m.step s entry.input).next entries) rest.0), (rest.0, rest.1))

  -- of one node, a step that stands before another is earlier
  head_rises : (x : Step m.State) (xs : List (Step m.State)) → Ranked (λ (a b : Step m.State). a.time < b.time) (of_node x.node (x ∷ xs)) → (y : Step m.State) → In y xs → y.node ≡ x.node → x.time < y.time
  head_rises x xs up y there own =
      let first : of_node x.node (x ∷ xs) ≡ x ∷ of_node x.node xs = ap (λ (b : Bool). cond b (x ∷ of_node x.node xs) (of_node x.node xs)) (eq-eqb x.node x.node refl) in
      let ranks : Ranked (λ (a b : Step m.State). a.time < b.time) (x ∷ of_node x.node xs) = subst (Ranked (λ (a b : Step m.State). a.time < b.time)) first up in
      each_in (λ (b : Step m.State). x.time < b.time) (of_node x.node xs) ranks.0 y (filter_in (λ (z : Step m.State). z.node == x.node) xs y there (eq-eqb y.node x.node own))

  tail_rises : (x : Step m.State) (xs : List (Step m.State)) (node : ℕ) → Ranked (λ (a b : Step m.State). a.time < b.time) (of_node node (x ∷ xs)) → Ranked (λ (a b : Step m.State). a.time < b.time) (of_node node xs)
  tail_rises x xs node = by (x.node == node)
    where
      by : (b : Bool) → Ranked (λ (a b : Step m.State). a.time < b.time) (cond b (x ∷ of_node node xs) (of_node node xs)) → Ranked (λ (a b : Step m.State). a.time < b.time) (of_node node xs)
      by true h = h.1
      by false h = h

  keys_rise : (xs : List (Step m.State)) → Each (λ (x : Step m.State). x.node < NODES) xs → Ranked IsBefore xs → ((node : ℕ) → Ranked (λ (x y : Step m.State). x.time < y.time) (of_node node xs)) → Ranked (λ (x y : Step m.State). key_of x < key_of y) xs
  keys_rise [] few before up = tt
  keys_rise (x ∷ xs) few before up = (
    in_each (λ (y : Step m.State). key_of x < key_of y) xs (λ y there.
        let a = few.0 in
        let b = each_in (λ (z : Step m.State). z.node < NODES) xs few.1 y there in
        elim (each_in (IsBefore x) xs before.0 y there) [
          | inl lt ↦ omega arith
          | inr k ↦ (let time = k.0 in let least = k.1 in by_test (x.node == y.node)
              (λ same. let later = head_rises x xs (up x.node) y there (sym (eqb-true x.node y.node same)) in omega arith)
              (λ other. let apart = eqb-false x.node y.node other in omega arith))
        ]),
    keys_rise xs few.1 before.1 (λ node. tail_rises x xs node (up node)),
  )

  apart_by_key : (x y : Step m.State) → key_of x < key_of y → ¬ ((x.time ≡ y.time) × (x.node ≡ y.node))
  apart_by_key x y lt same = let a = same.0 in let b = same.1 in omega arith

-- ---- the diaries of a shape
pub node_below : (shape : Dimensions) → IsShape shape → (node : ℕ) (role : Option Node) → node_of shape node ≡ role → (s : NodeState) → state_of (first_world shape) role ≡ Some s → node < NODES
node_below shape formed node (Some (Client c)) is s h = let k = client_is shape node c is in let own = k.0 in let below = k.1 in let most = formed.clients_most in omega arith
node_below shape formed node (Some Controller) is s h = let own = controller_is shape node is in omega arith
node_below shape formed node (Some (Seq i)) is s h = let k = seq_is shape node i is in let own = k.0 in let below = k.1 in let most = formed.seq_most in omega arith
node_below shape formed node (Some (Shard i j)) is s h = let k = shard_is shape node i j is in let own = k.0 in let row = k.1 in let column = k.2 in let most = formed.shards_most in let many = formed.copies_most in omega arith
node_below shape formed node None is s h = let wrong : None ≡ Some s = h in absurd (let no : ⊥ = cc in no)

module _ (shape : Dimensions) (diaries : List Diary) (whole : AreWhole shape diaries) (places : List Place) (perm : IsPermutation (places_of 0 diaries) places) (sorted : IsSortedByKey (λ (place : Place). place.key) nat_cmp places) (there : Each (IsThere diaries) places) where
  abbrev m : Machine
  m = nodes_of_shape shape

  abbrev are : AreDiaries m diaries
  are = whole.closed.are

  pub shown : Shown act_of (act_at diaries) (event_steps m diaries) places
  shown = permuted_along act_of (act_at diaries) (event_steps m diaries) (places_of 0 diaries) places (events_acts m diaries are.formed ∙ sym (places_acts diaries)) perm

  abbrev merged : List (Step NodeState)
  merged = shown.order

  pub merged_acts : map act_of merged ≡ acts_at diaries places
  merged_acts = shown.shows

  -- which diary a merged step is of
  formed_below : (diary : Diary) → IsFormed m diary → diary.node < NODES
  formed_below diary h = node_below shape whole.formed diary.node (node_of shape diary.node) refl h.start h.first

  step_timely : (x : Step NodeState) → In x merged → (x.time < TIME_LIMIT) × (x.node < NODES)
  step_timely x among =
      let kept = in_filter is_event (all_steps m diaries) x (in_permuted (event_steps m diaries) merged shown.same x among) in
      let from = made_of (steps_in m) diaries x kept.0 in
      let formed = each_in (IsFormed m) diaries are.formed from.origin from.there in
      let of = each_in (IsOf m from.origin.node) (steps_from m from.origin.node formed.start from.origin.entries) (of_steps m from.origin.node 0 formed.start from.origin.entries formed.follows) x (subst (In x) (steps_are m from.origin formed) from.made) in
      (of.early, subst (λ (n : ℕ). n < NODES) (sym of.own) (formed_below from.origin formed))

  nodes_below : Each (λ (x : Step NodeState). x.node < NODES) merged
  nodes_below = in_each (λ (x : Step NodeState). x.node < NODES) merged (λ x among. (step_timely x among).1)

  timely : Each IsTimely (acts_at diaries places)
  timely = subst (Each IsTimely) merged_acts (each_map act_of IsTimely merged (in_each (λ (x : Step NodeState). IsTimely (act_of x)) merged (λ x among. let k = step_timely x among in record { early = k.0; few = k.1 })))

  -- keys are those of the steps
  keys_at : (ps : List Place) → Each (IsThere diaries) ps → Each IsTimely (acts_at diaries ps) → map key_of (acts_at diaries ps) ≡ map (λ (place : Place). place.key) ps
  keys_at [] ok early = refl
  keys_at (place ∷ ps) ok early =
      let key = there_key diaries place ok.0 ∙ word_key (act_at diaries place).time (act_at diaries place).node early.0.early early.0.few in
      ap (λ k. k ∷ map key_of (acts_at diaries ps)) (sym key) ∙ ap (λ l. place.key ∷ l) (keys_at ps ok.1 early.1)

  same_keys : (xs : List (Step NodeState)) → map key_of (map act_of xs) ≡ map key_of xs
  same_keys [] = refl
  same_keys (x ∷ xs) = ap (λ l. key_of x ∷ l) (same_keys xs)

  keys : map key_of merged ≡ map (λ (place : Place). place.key) places
  keys = sym (same_keys merged) ∙ ap (map key_of) merged_acts ∙ keys_at places there timely

  pub in_order : IsMerged m diaries merged
  in_order = record {
    all = shown.same;
    ordered = ranked_by_key merged nodes_below (same_rise key_of (λ (place : Place). place.key) merged places keys (record { key = 0; diary = 0; entry = 0 }) (IsNonDecreasingBy-from_sort (λ (place : Place). place.key) places sorted));
  }

  -- of each node the merged steps are its diary's, which rise
  part_rises : (node : ℕ) → HasDiary m diaries node ⊎ (¬ In node (nodes_of diaries)) → Ranked (λ (x y : Step NodeState). x.time < y.time) (of_node node merged)
  part_rises node (inl k) =
      let formed = each_in (IsFormed m) diaries are.formed k.diary k.there in
      subst (λ (n : ℕ). Ranked (λ (x y : Step NodeState). x.time < y.time) (of_node n merged)) k.own
      (subst (Ranked (λ (x y : Step NodeState). x.time < y.time)) (sym (part_of_diary m diaries are merged in_order k.diary k.there))
      (ranked_filter (λ (x y : Step NodeState). x.time < y.time) is_event (steps_in m k.diary)
      (subst (Ranked (λ (x y : Step NodeState). x.time < y.time)) (sym (steps_are m k.diary formed)) (rising m k.diary.node 0 formed.start k.diary.entries formed.follows).1)))
  part_rises node (inr none) = subst (Ranked (λ (x y : Step NodeState). x.time < y.time)) (sym (part_of_none m diaries are merged in_order node none)) tt

  strict : Ranked (λ (x y : Step NodeState). key_of x < key_of y) merged
  strict = keys_rise m merged nodes_below in_order.ordered (λ node. part_rises node (diary_or_none m node diaries))

  pub keys_strict : Ranked (λ (p q : Place). p.key < q.key) places
  keys_strict = ranked_shown (λ (place : Place). place.key) (λ a b. a < b) places (subst (Ranked (λ a b. a < b)) keys (ranked_showing key_of (λ a b. a < b) merged strict))

  acts_count : (xs : List (Step NodeState)) → sum_by count_of (map act_of xs) ≡ sum_by count_of xs
  acts_count [] = refl
  acts_count (x ∷ xs) =
      let acts = sum_by-cons count_of (act_of x) (map act_of xs) in
      let steps = sum_by-cons count_of x xs in
      let rest = acts_count xs in
      omega arith

  few : length (sent_by (acts_at diaries places)) < 2 ^ 32
  few =
      let below = each_map (λ (diary : Diary). diary.node) (λ node. node < NODES) diaries (each_weaker (IsFormed m) (λ (diary : Diary). diary.node < NODES) formed_below diaries are.formed) in
      let all = few_sent diaries whole.within are.once below in
      let count = sent_count (acts_at diaries places) in
      let shows : sum_by count_of (acts_at diaries places) ≡ sum_by count_of (map act_of merged) = ap (sum_by count_of) (sym merged_acts) in
      let steps = acts_count merged in
      let moved = sum_by-IsPermutation count_of (event_steps m diaries) merged shown.same in
      let unmoved = acts_count (event_steps m diaries) in
      let whole_acts : sum_by count_of (map act_of (event_steps m diaries)) ≡ sum_by count_of (acts_of diaries) = ap (sum_by count_of) (events_acts m diaries are.formed) in
      omega arith

  pub numbered : (starts : List ℕ) → starts ≡ starts_from 0 (acts_at diaries places) → AreNumbered diaries places starts
  numbered starts is = record { timely = timely; rising = keys_strict; counted = is; few = few }

  claim_within : (sent : List Envelope) (now : ℕ) (input : Input) → IsJustified m sent merged now input → IsWithinClaim input
  claim_within sent now (Peek stable time replica from ids) h = h.within
  claim_within sent now _ h = tt

  can_be : (x : Step NodeState) → In x merged → CanBeEvent (acts_at diaries places) x.input
  can_be x among =
      let due = each_in (IsDueIn m (all_sent diaries) merged) merged (all_due m (nodes_quiet shape) diaries are whole.closed.closed merged in_order) x among in
      let found = each_in (λ (y : Step NodeState). IsFound (sent_by merged) y.input) merged (nodes_found shape diaries merged are whole.closed.closed in_order) x among in
      record {
        found = subst (λ (sent : List Envelope). IsFound sent x.input) (sym (acts_sent merged) ∙ ap sent_by merged_acts) found;
        within = claim_within (all_sent diaries) x.time x.input due.justified;
      }

  pub mergeable : (starts : List ℕ) → starts ≡ starts_from 0 (acts_at diaries places) → CanBeMerged diaries places starts
  mergeable starts is = record {
    numbered = numbered starts is;
    each = subst (Each (λ (act : Act). CanBeEvent (acts_at diaries places) act.input)) merged_acts
        (each_map act_of (λ (act : Act). CanBeEvent (acts_at diaries places) act.input) merged (in_each (λ (x : Step NodeState). CanBeEvent (acts_at diaries places) x.input) merged can_be));
  }

  events_become : (Number : Envelope → ℕ → Type 0) (xs : List (Step NodeState)) (events : List WorldEvent) → AreEventsOf Number (map act_of xs) events → AreEventsOf Number xs events
  events_become Number [] [] h = h
  events_become Number [] (event ∷ events) h = h
  events_become Number (x ∷ xs) [] h = h
  events_become Number (x ∷ xs) (event ∷ events) h = (h.0, events_become Number xs events h.1)

  pub merge_of : (events : List WorldEvent) → AreEventsOf (IsFirstNumber (sent_by (acts_at diaries places))) (acts_at diaries places) events → IsMerge m diaries events
  merge_of events become = record {
    merged = merged;
    in_order = in_order;
    become = events_become (IsFirstNumber (sent_by merged)) merged events
        (subst (λ (sent : List Envelope). AreEventsOf (IsFirstNumber sent) (map act_of merged) events) (ap sent_by (sym merged_acts) ∙ acts_sent merged)
        (subst (λ (acts : List Act). AreEventsOf (IsFirstNumber (sent_by (acts_at diaries places))) acts events) (sym merged_acts) become));
  }

-- where the diaries are whole, the events that code finds are their merge
pub merge_answered : (shape : Dimensions) (diaries : List Diary) (places : List Place) → IsPermutation (places_of 0 diaries) places → IsSortedByKey (λ (place : Place). place.key) nat_cmp places → Each (IsThere diaries) places
    → (starts : List ℕ) → starts ≡ starts_from 0 (acts_at diaries places) → {E : Type 0} (outcome : Result (List WorldEvent) E)
    → IfOk outcome (λ (events : List WorldEvent). CanBeMerged diaries places starts → AreEventsOf (IsFirstNumber (sent_by (acts_at diaries places))) (acts_at diaries places) events)
    → IfOk outcome (λ (events : List WorldEvent). AreWhole shape diaries → IsMerge (nodes_of_shape shape) diaries events)
merge_answered shape diaries places perm sorted there starts is (Ok events) h = λ whole. merge_of shape diaries whole places perm sorted there events (h (mergeable shape diaries whole places perm sorted there starts is))
merge_answered shape diaries places perm sorted there starts is (Err e) h = h
