-- The batches that pass once a shard's answer is noted, one after the other.
use Rattle.std.proofs.Common.{◌≡◌, ℕ, suc, ◌+◌, ◌<◌, ◌≤◌, List, [], ◌∷◌, ◌++◌, Bool, true, false, cond, length, drop, drop-cons, get_or, Some, sym, ap, ◌∙◌, refl, arith}
use Rattle.std.specs.Prelude.{flat_map, option_map, slice_get}
use Rattle.std.proofs.lemmas.Bool.{cond_both}
use Rattle.std.proofs.lemmas.List.{drop_all}
use Rattle.std.proofs.lemmas.Option.{slice_get-get_or}
use Rattle.binder.specs.declared.batch.Batch.{Batch as Outline}
use Rattle.binder.specs.Binding.{outline}
use Rattle.binder.proofs.PassedLeaving.{still_ordering}
use Rattle.lazy_msgs.specs.declared.msg.Msg.{Msg}
use Rattle.lazy_rules.specs.Flight.{Batch, answered_by, has_all, is_placing_to, new_batch, now_ordering, passing, place_noted, with_place}
use Rattle.lazy_rules.specs.Leading.{order_sends}
use Rattle.lazy_rules.specs.SeqState.{SeqState}

pub seen_here : (flight : List Batch) (i : ℕ) (batch : Batch) (seen : Outline) → slice_get flight i ≡ Some batch → option_map outline (slice_get flight i) ≡ Some seen → outline batch ≡ seen
seen_here flight i batch seen there is =
    let same : Some (outline batch) ≡ Some seen = sym (ap (option_map outline) there) ∙ is in
    cc

-- a noted answer changes neither the places of a batch nor what is sent of it once it is ordered
sends_noted : (s : SeqState) (upto shard : ℕ) (x : Batch) → order_sends s (now_ordering (place_noted upto shard x)) ≡ order_sends s (now_ordering x)
sends_noted s upto shard x =
    cond_both (is_placing_to upto x) (record x { placed = answered_by x.placed shard }) x (λ (b : Batch). order_sends s (now_ordering b) ≡ order_sends s (now_ordering x)) (λ _. refl) (λ _. refl)

module _ (s : SeqState) (shards shard upto : ℕ) where
  abbrev pub pass_sends : List Batch → List (ℕ × Msg)
  pass_sends flight = flat_map (order_sends s) (passing shards (with_place flight shard upto))

  pub passed_over : (x : Batch) (xs : List Batch) → x.ordering ≡ true → pass_sends (x ∷ xs) ≡ pass_sends xs
  passed_over x xs ordered =
      let y : Batch = place_noted upto shard x in
      let others : List Batch = with_place xs shard upto in
      let now : y.ordering ≡ true = still_ordering upto shard x ∙ ordered in
      ap (λ (b : Bool). flat_map (order_sends s) (cond b (passing shards others) (cond (has_all shards y.placed) (now_ordering y ∷ passing shards others) []))) now

  pub passes_here : (x : Batch) (xs : List Batch) → x.ordering ≡ false → has_all shards (place_noted upto shard x).placed ≡ true → pass_sends (x ∷ xs) ≡ order_sends s (now_ordering x) ++ pass_sends xs
  passes_here x xs placing all =
      let y : Batch = place_noted upto shard x in
      let others : List Batch = with_place xs shard upto in
      let now : y.ordering ≡ false = still_ordering upto shard x ∙ placing in
      ap (λ (b : Bool). flat_map (order_sends s) (cond b (passing shards others) (cond (has_all shards y.placed) (now_ordering y ∷ passing shards others) []))) now
      ∙ ap (λ (b : Bool). flat_map (order_sends s) (cond b (now_ordering y ∷ passing shards others) [])) all
      ∙ ap (λ (l : List (ℕ × Msg)). l ++ pass_sends xs) (sends_noted s upto shard x)

  pub passes_no_more : (x : Batch) (xs : List Batch) → x.ordering ≡ false → has_all shards (place_noted upto shard x).placed ≡ false → pass_sends (x ∷ xs) ≡ []
  passes_no_more x xs placing lacks =
      let y : Batch = place_noted upto shard x in
      let others : List Batch = with_place xs shard upto in
      let now : y.ordering ≡ false = still_ordering upto shard x ∙ placing in
      ap (λ (b : Bool). flat_map (order_sends s) (cond b (passing shards others) (cond (has_all shards y.placed) (now_ordering y ∷ passing shards others) []))) now
      ∙ ap (λ (b : Bool). flat_map (order_sends s) (cond b (now_ordering y ∷ passing shards others) [])) lacks

split_at : (flight : List Batch) (i : ℕ) (d : Batch) → i < length flight → drop i flight ≡ get_or flight i d ∷ drop (i + 1) flight
split_at flight i d inside =
    let split : drop i flight ≡ get_or flight i d ∷ drop (suc i) flight = rw (drop-cons flight i d) refl in
    let next : suc i ≡ i + 1 = omega arith in
    split ∙ ap (λ (k : ℕ). get_or flight i d ∷ drop k flight) next

-- what is asked of a member says so of the member
seen_at : {A B : Type 0} (see : A → B) (xs : List A) (i : ℕ) (d : A) (y : B) → i < length xs → option_map see (slice_get xs i) ≡ Some y → see (get_or xs i d) ≡ y
seen_at see xs i d y inside is =
    let same : Some (see (get_or xs i d)) ≡ Some y = sym (ap (option_map see) (slice_get-get_or xs i d inside)) ∙ is in
    cc

-- ---- from batch i on
module _ (s : SeqState) (shards shard upto : ℕ) (flight : List Batch) (i : ℕ) where
  first_is : (seen : Outline) → i < length flight → option_map outline (slice_get flight i) ≡ Some seen → (get_or flight i (new_batch 0 0)).ordering ≡ seen.ordering
  first_is seen inside is = ap (λ (o : Outline). o.ordering) (seen_at outline flight i (new_batch 0 0) seen inside is)

  all_is : (all : Bool) → i < length flight → option_map (λ (b : Batch). has_all shards (place_noted upto shard b).placed) (slice_get flight i) ≡ Some all
      → has_all shards (place_noted upto shard (get_or flight i (new_batch 0 0))).placed ≡ all
  all_is all inside is = seen_at (λ (b : Batch). has_all shards (place_noted upto shard b).placed) flight i (new_batch 0 0) all inside is

  pub none_pass : length flight ≤ i → pass_sends s shards shard upto (drop i flight) ≡ []
  none_pass past = ap (pass_sends s shards shard upto) (drop_all i flight past)

  pub over_at : (seen : Outline) → i < length flight → option_map outline (slice_get flight i) ≡ Some seen → seen.ordering ≡ true
      → pass_sends s shards shard upto (drop i flight) ≡ pass_sends s shards shard upto (drop (i + 1) flight)
  over_at seen inside is ordered =
      ap (pass_sends s shards shard upto) (split_at flight i (new_batch 0 0) inside)
      ∙ passed_over s shards shard upto (get_or flight i (new_batch 0 0)) (drop (i + 1) flight) (first_is seen inside is ∙ ordered)

  pub stops_at : (seen : Outline) (all : Bool) → i < length flight → option_map outline (slice_get flight i) ≡ Some seen → seen.ordering ≡ false
      → option_map (λ (b : Batch). has_all shards (place_noted upto shard b).placed) (slice_get flight i) ≡ Some all → all ≡ false
      → pass_sends s shards shard upto (drop i flight) ≡ []
  stops_at seen all inside is placing placed lacks =
      ap (pass_sends s shards shard upto) (split_at flight i (new_batch 0 0) inside)
      ∙ passes_no_more s shards shard upto (get_or flight i (new_batch 0 0)) (drop (i + 1) flight) (first_is seen inside is ∙ placing) (all_is all inside placed ∙ lacks)

  pub passes_at : (seen : Outline) (all : Bool) → i < length flight → option_map outline (slice_get flight i) ≡ Some seen → seen.ordering ≡ false
      → option_map (λ (b : Batch). has_all shards (place_noted upto shard b).placed) (slice_get flight i) ≡ Some all → all ≡ true
      → (batch : Batch) × (slice_get flight i ≡ Some batch) × (pass_sends s shards shard upto (drop i flight) ≡ order_sends s (now_ordering batch) ++ pass_sends s shards shard upto (drop (i + 1) flight))
  passes_at seen all inside is placing placed whole = (
    get_or flight i (new_batch 0 0),
    slice_get-get_or flight i (new_batch 0 0) inside,
    ap (pass_sends s shards shard upto) (split_at flight i (new_batch 0 0) inside)
        ∙ passes_here s shards shard upto (get_or flight i (new_batch 0 0)) (drop (i + 1) flight) (first_is seen inside is ∙ placing) (all_is all inside placed ∙ whole),
  )
