-- The places of all entries are those of the steps that become events, in their order.
use Rattle.std.proofs.Common.{◌≡◌, ◌<◌, ◌≤◌, ◌+◌, ◌*◌, ◌^◌, ℕ, zero, suc, List, [], ◌∷◌, ◌++◌, length, map, min, Bool, true, false, cond, Option, Some, None, inl, inr, refl, sym, ap, ◌∙◌, subst, arith, append_assoc, length-append}
use Rattle.std.specs.Prelude.{◌-◌, not, filter, if◌then◌else◌, slice_get}
use Rattle.std.specs.List.{flat_map}
use Rattle.std.proofs.lemmas.List.{map-append}
use Rattle.std.proofs.lemmas.List.Elements.{filter-append}
use Rattle.list_facts.specs.Lists.{Each, In}
use Rattle.list_facts.proofs.Members.{each_append, each_in, each_weaker}
use Rattle.lazy_msgs.specs.declared.diary.Diary.{Diary}
use Rattle.lazy_msgs.specs.declared.diary.DiaryEntry.{DiaryEntry}
use Rattle.lazy_msgs.specs.declared.limits.TheConstants.{TIME_LIMIT}
use Rattle.lazy_msgs.specs.declared.msg.Envelope.{Envelope}
use Rattle.lazy_msgs.specs.declared.msg.Msg.{Msg}
use Rattle.lazy_rules.specs.WorldRules.{enveloped}
use Rattle.lazy_msgs.specs.Weight.{capped}
use Rattle.diary_laws.specs.Formed.{Follows, IsFormed}
use Rattle.diary_laws.specs.Machines.{Machine, Step, all_steps, step_of, steps_from, steps_in}
use Rattle.diary_laws.specs.Merges.{event_steps, finds_none, is_event, sent_by}
use Rattle.diary_laws.proofs.merges.Parts.{steps_are}
use Rattle.diary_merge.specs.Acts.{Act, IsThere, act_at, act_from, act_in, act_of, act_of_entry, acts_at, key_at, places_from, places_of, word_at}
use Rattle.diary_merge.specs.declared.place.Place.{Place}
use Rattle.diary_merge.specs.declared.place.TheConstants.{NODES}

module _ {A : Type 0} where
  pub at_end : (xs : List A) (x : A) (ys : List A) → slice_get (xs ++ x ∷ ys) (length xs) ≡ Some x
  at_end [] x ys = refl
  at_end (z ∷ xs) x ys = at_end xs x ys

-- ---- a diary's acts
abbrev pub acts_from : ℕ → List DiaryEntry → List Act
acts_from node [] = []
acts_from node (entry ∷ entries) = cond (finds_none entry.input) (acts_from node entries) (act_from node entry ∷ acts_from node entries)

abbrev pub acts_of : List Diary → List Act
acts_of diaries = flat_map (λ diary. acts_from diary.node diary.entries) diaries

module _ (all : List Diary) (diary : Diary) (number : ℕ) (here : slice_get all number ≡ Some diary) where
  entry_here : (before : List DiaryEntry) (entry : DiaryEntry) (rest : List DiaryEntry) → diary.entries ≡ before ++ entry ∷ rest → slice_get diary.entries (length before) ≡ Some entry
  entry_here before entry rest is = ap (λ es. slice_get es (length before)) is ∙ at_end before entry rest

  one_more : (before : List DiaryEntry) (entry : DiaryEntry) (rest : List DiaryEntry) → diary.entries ≡ before ++ entry ∷ rest → diary.entries ≡ (before ++ entry ∷ []) ++ rest
  one_more before entry rest is = is ∙ sym (append_assoc before (entry ∷ []) rest)

  -- what stands at the place of an entry
  pub act_here : (before : List DiaryEntry) (entry : DiaryEntry) (rest : List DiaryEntry) (key : ℕ) → diary.entries ≡ before ++ entry ∷ rest → act_at all (record { key = key; diary = number; entry = length before }) ≡ act_from diary.node entry
  act_here before entry rest key is =
      ap (λ (o : Option Diary). act_in o (length before)) here ∙ ap (act_of_entry diary.node) (entry_here before entry rest is)

  acts_are : (before entries : List DiaryEntry) (at : ℕ) → at ≡ length before → diary.entries ≡ before ++ entries → map (act_at all) (places_from diary.node number at entries) ≡ acts_from diary.node entries
  acts_are before [] at long is = refl
  acts_are before (entry ∷ entries) at long is = by (finds_none entry.input) (acts_are (before ++ entry ∷ []) entries (at + 1) (let more = length-append before (entry ∷ []) in omega arith) (one_more before entry entries is))
    where
      first : act_at all (record { key = word_at entry.time diary.node; diary = number; entry = at }) ≡ act_from diary.node entry
      first = ap (λ n. act_at all (record { key = word_at entry.time diary.node; diary = number; entry = n })) long ∙ act_here before entry entries (word_at entry.time diary.node) is

      by : (b : Bool) → map (act_at all) (places_from diary.node number (at + 1) entries) ≡ acts_from diary.node entries
          → map (act_at all) ((if b then [] else record { key = word_at entry.time diary.node; diary = number; entry = at } ∷ []) ++ places_from diary.node number (at + 1) entries) ≡ cond b (acts_from diary.node entries) (act_from diary.node entry ∷ acts_from diary.node entries)
      by true rest = rest
      by false rest = ap (λ (a : Act). a ∷ map (act_at all) (places_from diary.node number (at + 1) entries)) first ∙ ap (λ l. act_from diary.node entry ∷ l) rest

  there_are : (before entries : List DiaryEntry) (at : ℕ) → at ≡ length before → diary.entries ≡ before ++ entries → Each (IsThere all) (places_from diary.node number at entries)
  there_are before [] at long is = tt
  there_are before (entry ∷ entries) at long is = by (finds_none entry.input) (there_are (before ++ entry ∷ []) entries (at + 1) (let more = length-append before (entry ∷ []) in omega arith) (one_more before entry entries is))
    where
      by : (b : Bool) → Each (IsThere all) (places_from diary.node number (at + 1) entries) → Each (IsThere all) ((if b then [] else record { key = word_at entry.time diary.node; diary = number; entry = at } ∷ []) ++ places_from diary.node number (at + 1) entries)
      by true rest = rest
      by false rest = (record { diary = diary; entry = entry; among = here; inside = ap (slice_get diary.entries) long ∙ entry_here before entry entries is; keyed = refl }, rest)

module _ (all : List Diary) where
  all_acts : (before diaries : List Diary) (at : ℕ) → at ≡ length before → all ≡ before ++ diaries → map (act_at all) (places_of at diaries) ≡ acts_of diaries
  all_acts before [] at long is = refl
  all_acts before (diary ∷ diaries) at long is =
      let here : slice_get all at ≡ Some diary = ap (slice_get all) long ∙ ap (λ ds. slice_get ds (length before)) is ∙ at_end before diary diaries in
      map-append (act_at all) (places_from diary.node at 0 diary.entries) (places_of (at + 1) diaries)
      ∙ ap (λ l. l ++ map (act_at all) (places_of (at + 1) diaries)) (acts_are all diary at here [] diary.entries 0 refl refl)
      ∙ ap (λ l. acts_from diary.node diary.entries ++ l)
      (all_acts (before ++ diary ∷ []) diaries (at + 1) (let more = length-append before (diary ∷ []) in omega arith) (is ∙ sym (append_assoc before (diary ∷ []) diaries)))

  all_there : (before diaries : List Diary) (at : ℕ) → at ≡ length before → all ≡ before ++ diaries → Each (IsThere all) (places_of at diaries)
  all_there before [] at long is = tt
  all_there before (diary ∷ diaries) at long is =
      let here : slice_get all at ≡ Some diary = ap (slice_get all) long ∙ ap (λ ds. slice_get ds (length before)) is ∙ at_end before diary diaries in
      each_append (IsThere all) (places_from diary.node at 0 diary.entries) (places_of (at + 1) diaries)
      (there_are all diary at here [] diary.entries 0 refl refl)
      (all_there (before ++ diary ∷ []) diaries (at + 1) (let more = length-append before (diary ∷ []) in omega arith) (is ∙ sym (append_assoc before (diary ∷ []) diaries)))

pub places_acts : (diaries : List Diary) → acts_at diaries (places_of 0 diaries) ≡ acts_of diaries
places_acts diaries = all_acts diaries [] diaries 0 refl refl

pub places_there : (diaries : List Diary) → Each (IsThere diaries) (places_of 0 diaries)
places_there diaries = all_there diaries [] diaries 0 refl refl

-- the step at a place, where there is one
pub there_act : (diaries : List Diary) (place : Place) (h : IsThere diaries place) → act_at diaries place ≡ act_from h.diary.node h.entry
there_act diaries place h = ap (λ (o : Option Diary). act_in o place.entry) h.among ∙ ap (act_of_entry h.diary.node) h.inside

pub there_key : (diaries : List Diary) (place : Place) → IsThere diaries place → place.key ≡ word_at (act_at diaries place).time (act_at diaries place).node
there_key diaries place h = h.keyed ∙ ap (λ (a : Act). word_at a.time a.node) (sym (there_act diaries place h))

-- ---- and of steps
module _ (m : Machine) where
  steps_acts : (node last : ℕ) (s : m.State) (entries : List DiaryEntry) → Follows m node last s entries → map act_of (filter is_event (steps_from m node s entries)) ≡ acts_from node entries
  steps_acts node last s [] h = refl
  steps_acts node last s (entry ∷ entries) h = by (finds_none entry.input) (steps_acts node entry.time (m.step s entry.input).next entries h.2)
    where
      first : act_of (step_of m node s entry) ≡ act_from node entry
      first = ap (λ (sends : List (ℕ × Msg)). act_from node (record { time = entry.time; input = entry.input; sends = sends })) (sym h.0.sends)

      by : (b : Bool) → map act_of (filter is_event (steps_from m node (m.step s entry.input).next entries)) ≡ acts_from node entries
          → map act_of (cond (not b) (step_of m node s entry ∷ filter is_event (steps_from m node (m.step s entry.input).next entries)) (filter is_event (steps_from m node (m.step s entry.input).next entries)))
          ≡ cond b (acts_from node entries) (act_from node entry ∷ acts_from node entries)
      by true rest = rest
      by false rest = ap (λ (a : Act). a ∷ map act_of (filter is_event (steps_from m node (m.step s entry.input).next entries))) first ∙ ap (λ l. act_from node entry ∷ l) rest

  pub events_acts : (diaries : List Diary) → Each (IsFormed m) diaries → map act_of (event_steps m diaries) ≡ acts_of diaries
  events_acts [] h = refl
  events_acts (diary ∷ diaries) h =
      ap (map act_of) (filter-append is_event (steps_in m diary) (all_steps m diaries))
      ∙ map-append act_of (filter is_event (steps_in m diary)) (event_steps m diaries)
      ∙ ap (λ l. l ++ map act_of (event_steps m diaries)) (ap (λ (l : List (Step m.State)). map act_of (filter is_event l)) (steps_are m diary h.0) ∙ steps_acts diary.node 0 h.0.start diary.entries h.0.follows)
      ∙ ap (λ l. acts_from diary.node diary.entries ++ l) (events_acts diaries h.1)

-- what steps sent, their acts sent
pub acts_sent : {S : Type 0} (steps : List (Step S)) → sent_by (map act_of steps) ≡ sent_by steps
acts_sent [] = refl
acts_sent (x ∷ xs) = ap (λ (l : List Envelope). enveloped x.node x.time x.row.sends ++ l) (acts_sent xs)

-- a key is the word while times are below their limit
pub word_key : (time node : ℕ) → time < TIME_LIMIT → node < NODES → word_at time node ≡ key_at time node
word_key time node early few = omega arith
