-- A node that was fed, fed once more.
use Rattle.std.proofs.Common.{◌≡◌, ◌<◌, ◌≤◌, ◌+◌, ℕ, List, [], ◌∷◌, ◌++◌, length, Bool, true, false, Option, Some, None, inl, inr, refl, sym, ap, ◌∙◌, subst, arith, length-append}
use Rattle.std.specs.Prelude.{◌||◌, nat_le, nat_lt, if◌then◌else◌}
use Rattle.std.specs.Option.{option_map_or}
use Rattle.std.proofs.lemmas.Bool.{le-leb, lt-leb, leb-false, ltb-false, lt-ltb, le-ltb, or_parts}
use Rattle.std.proofs.lemmas.List.Sums.{sum_by-append, sum_by-cons}
use Rattle.rec_id.specs.declared.event.Event.{Event}
use Rattle.view_config.specs.Shape.{Dimensions}
use Rattle.lazy_msgs.specs.declared.diary.DiaryEntry.{DiaryEntry}
use Rattle.lazy_msgs.specs.declared.input.Input.{Input}
use Rattle.lazy_msgs.specs.declared.limits.TheConstants.{TIME_LIMIT}
use Rattle.lazy_msgs.specs.Step.{Row}
use Rattle.lazy_msgs.specs.Weight.{sends_weight}
use Rattle.diary_laws.specs.Machines.{Machine, state_behind}
use Rattle.diary_laws.specs.Nodes.{NodeState as LawState, node_step as law_step, nodes_of_shape}
use Rattle.lazy_core.specs.declared.node_state.NodeState.{NodeState}
use Rattle.lazy_core.specs.NodeStep.{node_step}
use Rattle.node_diary.specs.declared.refused.FeedRefused.{FeedRefused}
use Rattle.node_diary.specs.declared.refused.FeedRefused.TheVariants.{ClockSpent, DiaryFull}
use Rattle.node_diary.specs.Fed.{IsFedEntry, IsFedIn, IsSeated, last_time}
use Rattle.node_diary.specs.Feeding.{Diarist, IsFedBy, entry_of, feed_refusal, grown, heard, is_full, is_overfull, next_time}
use Rattle.node_diary.specs.Refusals.{own_refusal}
use Rattle.node_diary.specs.States.{law_state}
use Rattle.diary_merge.specs.Weights.{diary_weight, entry_weight, input_weight}
use Rattle.diary_merge.specs.declared.limits.TheConstants.{DIARY_WEIGHT_LIMIT, ENTRIES_LIMIT}
use Rattle.node_diary.proofs.Folds.{behind_more, fed_more, last_more, law_row, same_rule, told_more}
use Rattle.node_diary.proofs.Seats.{state_seated}

-- what must be so for a node to be fed
pub record IsFree (d : Diarist) (input : Input) : Type 0 where
  pub early : next_time d input < TIME_LIMIT
  pub few : length d.entries < ENTRIES_LIMIT
  pub allowed : own_refusal (law_state d.state) input ≡ None
  pub light : diary_weight d.entries + input_weight input + sends_weight (node_step d.state input).sends ≤ DIARY_WEIGHT_LIMIT

module _ (shape : Dimensions) (d : Diarist) (input : Input) (h : IsFedIn shape d) where
  abbrev m : Machine
  m = nodes_of_shape shape

  abbrev row : Row NodeState
  row = node_step d.state input

  abbrev entry : DiaryEntry
  entry = entry_of (next_time d input) d.state input

  -- the rule, behind the diary
  rule : law_step (state_behind m (law_state h.start) d.entries) input ≡ law_row row
  rule = ap (λ (s : LawState). law_step s input) h.state ∙ same_rule d.state input

  new_entry : IsFree d input → IsFedEntry (last_time 0 d.entries) (state_behind m (law_state h.start) d.entries) entry
  new_entry free = record {
    later = (let past = h.past in omega arith);
    early = free.early;
    older = omega arith;
    allowed = ap (λ (s : LawState). own_refusal s input) h.state ∙ free.allowed;
    sends = ap (λ (r : Row LawState). r.sends) (sym rule);
  }

  heavier : diary_weight (d.entries ++ entry ∷ []) ≡ diary_weight d.entries + (input_weight input + sends_weight row.sends)
  heavier = sum_by-append entry_weight d.entries (entry ∷ []) ∙ (let one = sum_by-cons entry_weight entry [] in omega arith)

  longer : length (d.entries ++ entry ∷ []) ≡ length d.entries + 1
  longer = length-append d.entries (entry ∷ [])

  pub grown_in : IsFree d input → IsFedIn shape (grown d input)
  grown_in free = record {
    start = h.start;
    begins = h.begins;
    entries = fed_more shape 0 (law_state h.start) d.entries entry h.entries (new_entry free);
    state = behind_more m (law_state h.start) d.entries entry ∙ ap (λ (r : Row LawState). r.next) rule;
    told = told_more m d.node (law_state h.start) d.entries entry
        ∙ ap (λ (told : List Event). told ++ (law_step (state_behind m (law_state h.start) d.entries) input).events) h.told
        ∙ ap (λ (r : Row LawState). d.told ++ r.events) rule;
    past = (let at = last_more 0 d.entries entry in omega arith);
    early = free.early;
    within = record {
      in_number = (let few = free.few in let long = longer in omega arith);
      in_weight = (let light = free.light in let heavy = heavier in omega arith);
    };
    seated = subst (λ (n : ℕ). IsSeated shape n row.next) (sym longer) (state_seated shape (length d.entries) d.state h.seated input);
  }

pub heavier_by : (d : Diarist) (input : Input) → diary_weight (grown d input).entries ≡ diary_weight d.entries + (input_weight input + sends_weight (node_step d.state input).sends)
heavier_by d input =
    let entry = entry_of (next_time d input) d.state input in
    sum_by-append entry_weight d.entries (entry ∷ []) ∙ (let one = sum_by-cons entry_weight entry [] in omega arith)

pub heard_in : (shape : Dimensions) (d : Diarist) (time : ℕ) → IsFedIn shape d → time < TIME_LIMIT → IsFedIn shape (heard d time)
heard_in shape d time h before = record {
  start = h.start;
  begins = h.begins;
  entries = h.entries;
  state = h.state;
  told = h.told;
  past = (let past = h.past in omega arith);
  early = (let early = h.early in omega arith);
  within = h.within;
  seated = h.seated;
}

-- what a feed did to a node that was fed
pub fed_on : (shape : Dimensions) (d after : Diarist) (input : Input) → IsFedIn shape d → IsFree d input → IsFedBy input d after → IsFedIn shape after
fed_on shape d after input h free (inl idle) = subst (IsFedIn shape) (sym idle.1) h
fed_on shape d after input h free (inr busy) = subst (IsFedIn shape) (sym busy.1) (grown_in shape d input h free)

-- ---- why a feed is refused
abbrev reason : Bool → Bool → Option FeedRefused → Bool → Option FeedRefused
reason late full own over = if late then Some ClockSpent else (if full then Some DiaryFull else option_map_or Some own (if over then Some DiaryFull else None))

parts : (late full : Bool) (own : Option FeedRefused) (over : Bool) → reason late full own over ≡ None → (late ≡ false) × (full ≡ false) × (own ≡ None) × (over ≡ false)
parts true full own over h = let wrong : Some ClockSpent ≡ None = h in cc
parts false true own over h = let wrong : Some DiaryFull ≡ None = h in cc
parts false false (Some refused) over h = let wrong : Some refused ≡ None = h in cc
parts false false None true h = let wrong : Some DiaryFull ≡ None = h in cc
parts false false None false h = (refl, refl, refl, refl)

module _ (d : Diarist) (input : Input) where
  abbrev late : Bool
  late = nat_le TIME_LIMIT (next_time d input)

  abbrev own : Option FeedRefused
  own = own_refusal (law_state d.state) input

  pub free_of : feed_refusal d input ≡ None → IsFree d input
  free_of h =
      let k = parts late (is_full d input) own (is_overfull d input) h in
      let room = or_parts (nat_le ENTRIES_LIMIT (length d.entries)) (nat_lt DIARY_WEIGHT_LIMIT (diary_weight d.entries + input_weight input)) k.1 in
      record {
        early = leb-false TIME_LIMIT (next_time d input) k.0;
        few = leb-false ENTRIES_LIMIT (length d.entries) room.0;
        allowed = k.2;
        light = ltb-false DIARY_WEIGHT_LIMIT (diary_weight d.entries + input_weight input + sends_weight (node_step d.state input).sends) k.3;
      }

  pub clock_refused : TIME_LIMIT ≤ next_time d input → feed_refusal d input ≡ Some ClockSpent
  clock_refused h = ap (λ (b : Bool). reason b (is_full d input) own (is_overfull d input)) (le-leb TIME_LIMIT (next_time d input) h)

  in_time : next_time d input < TIME_LIMIT → feed_refusal d input ≡ reason false (is_full d input) own (is_overfull d input)
  in_time h = ap (λ (b : Bool). reason b (is_full d input) own (is_overfull d input)) (lt-leb TIME_LIMIT (next_time d input) h)

  pub full_refused : next_time d input < TIME_LIMIT → is_full d input ≡ true → feed_refusal d input ≡ Some DiaryFull
  full_refused h full = in_time h ∙ ap (λ (b : Bool). reason false b own (is_overfull d input)) full

  -- there is room for the input
  pub record HasRoom (left : ℕ) : Type 0 where
    pub early : next_time d input < TIME_LIMIT
    pub few : length d.entries < ENTRIES_LIMIT
    pub sum : diary_weight d.entries + input_weight input + left ≡ DIARY_WEIGHT_LIMIT

  in_room : (left : ℕ) → HasRoom left → feed_refusal d input ≡ reason false false own (is_overfull d input)
  in_room left h =
      let few : nat_le ENTRIES_LIMIT (length d.entries) ≡ false = lt-leb ENTRIES_LIMIT (length d.entries) h.few in
      let sum = h.sum in
      let light : nat_lt DIARY_WEIGHT_LIMIT (diary_weight d.entries + input_weight input) ≡ false = le-ltb DIARY_WEIGHT_LIMIT (diary_weight d.entries + input_weight input) (omega arith) in
      in_time h.early
      ∙ ap (λ (b : Bool). reason false (b || nat_lt DIARY_WEIGHT_LIMIT (diary_weight d.entries + input_weight input)) own (is_overfull d input)) few
      ∙ ap (λ (b : Bool). reason false b own (is_overfull d input)) light

  pub own_refused : (left : ℕ) → HasRoom left → (e : FeedRefused) → own ≡ Some e → feed_refusal d input ≡ Some e
  own_refused left h e is = in_room left h ∙ ap (λ (o : Option FeedRefused). reason false false o (is_overfull d input)) is

  pub over_refused : (left : ℕ) → HasRoom left → own ≡ None → left < sends_weight (node_step d.state input).sends → feed_refusal d input ≡ Some DiaryFull
  over_refused left h none heavy =
      let sum = h.sum in
      in_room left h
      ∙ ap (λ (o : Option FeedRefused). reason false false o (is_overfull d input)) none
      ∙ ap (λ (b : Bool). reason false false None b) (lt-ltb DIARY_WEIGHT_LIMIT (diary_weight d.entries + input_weight input + sends_weight (node_step d.state input).sends) (omega arith))

  pub none_refused : (left : ℕ) → HasRoom left → own ≡ None → sends_weight (node_step d.state input).sends ≤ left → feed_refusal d input ≡ None
  none_refused left h none light =
      let sum = h.sum in
      in_room left h
      ∙ ap (λ (o : Option FeedRefused). reason false false o (is_overfull d input)) none
      ∙ ap (λ (b : Bool). reason false false None b) (le-ltb DIARY_WEIGHT_LIMIT (diary_weight d.entries + input_weight input + sends_weight (node_step d.state input).sends) (omega arith))
