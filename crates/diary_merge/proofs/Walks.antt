-- Walks over diaries, places and steps, as far as they have come.
use Rattle.std.proofs.Common.{◌≡◌, ◌<◌, ◌≤◌, ◌+◌, ◌^◌, ℕ, zero, suc, List, [], ◌∷◌, ◌++◌, length, map, take, drop, Bool, true, false, Option, Some, None, refl, sym, ap, ◌∙◌, subst, arith, add-one, append_assoc, length-append}
use Rattle.std.specs.Prelude.{if◌then◌else◌, slice_get}
use Rattle.std.specs.Option.{option_map}
use Rattle.std.proofs.lemmas.List.{length-map}
use Rattle.std.proofs.lemmas.Option.{slice_get-map}
use Rattle.lazy_msgs.specs.declared.diary.Diary.{Diary}
use Rattle.lazy_msgs.specs.declared.diary.DiaryEntry.{DiaryEntry}
use Rattle.lazy_msgs.specs.declared.input.WorldEvent.{WorldEvent}
use Rattle.lazy_msgs.specs.declared.msg.Envelope.{Envelope}
use Rattle.lazy_msgs.specs.Weight.{capped}
use Rattle.lazy_rules.specs.WorldRules.{enveloped}
use Rattle.diary_laws.specs.Machines.{Step}
use Rattle.diary_laws.specs.Merges.{AreEventsOf, IsEventOf, sent_by}
use Rattle.diary_merge.specs.Acts.{Act, act_at, act_from, act_in, act_of_entry, acts_at, place_here, places_from, places_of, starts_from}
use Rattle.diary_merge.specs.declared.place.Place.{Place}

module _ {A : Type 0} where
  pub drop_one : (xs : List A) (k : ℕ) (x : A) → slice_get xs k ≡ Some x → drop k xs ≡ x ∷ drop (k + 1) xs
  drop_one xs k x h = rw add-one (by xs k h)
    where
      by : (ys : List A) (i : ℕ) → slice_get ys i ≡ Some x → drop i ys ≡ x ∷ drop (suc i) ys
      by [] i h = cc
      by (y ∷ ys) zero h = let same : y ≡ x = cc in ap (λ (z : A). z ∷ ys) same
      by (y ∷ ys) (suc i) h = by ys i h

  pub take_one : (xs : List A) (k : ℕ) (x : A) → slice_get xs k ≡ Some x → take (k + 1) xs ≡ take k xs ++ x ∷ []
  take_one xs k x h = rw add-one (by xs k h)
    where
      by : (ys : List A) (i : ℕ) → slice_get ys i ≡ Some x → take (suc i) ys ≡ take i ys ++ x ∷ []
      by [] i h = cc
      by (y ∷ ys) zero h = let same : y ≡ x = cc in ap (λ (z : A). z ∷ []) same
      by (y ∷ ys) (suc i) h = ap (λ (zs : List A). y ∷ zs) (by ys i h)

pub place_walked : (node number : ℕ) (before all : List Place) (entries : List DiaryEntry) (at : ℕ) (entry : DiaryEntry) → slice_get entries at ≡ Some entry → before ++ places_from node number at (drop at entries) ≡ all
    → (before ++ place_here node number at entry) ++ places_from node number (at + 1) (drop (at + 1) entries) ≡ all
place_walked node number before all entries at entry here so_far =
    append_assoc before (place_here node number at entry) (places_from node number (at + 1) (drop (at + 1) entries))
    ∙ ap (λ (l : List DiaryEntry). before ++ places_from node number at l) (sym (drop_one entries at entry here))
    ∙ so_far

pub diary_walked : (before all : List Place) (diaries : List Diary) (number : ℕ) (diary : Diary) → slice_get diaries number ≡ Some diary → before ++ places_of number (drop number diaries) ≡ all
    → (before ++ places_from diary.node number 0 diary.entries) ++ places_of (number + 1) (drop (number + 1) diaries) ≡ all
diary_walked before all diaries number diary here so_far =
    append_assoc before (places_from diary.node number 0 diary.entries) (places_of (number + 1) (drop (number + 1) diaries))
    ∙ ap (λ (l : List Diary). before ++ places_of number l) (sym (drop_one diaries number diary here))
    ∙ so_far

-- the step at a place of those at places
pub act_there : (diaries : List Diary) (places : List Place) (i : ℕ) (place : Place) → slice_get places i ≡ Some place → slice_get (acts_at diaries places) i ≡ Some (act_at diaries place)
act_there diaries places i place here = slice_get-map (act_at diaries) places i ∙ ap (option_map (act_at diaries)) here

-- the entry there, as code reads it
pub read_there : (diaries : List Diary) (places : List Place) (i : ℕ) (place : Place) (diary : Diary) (entry : DiaryEntry) → slice_get places i ≡ Some place → slice_get diaries place.diary ≡ Some diary → slice_get diary.entries place.entry ≡ Some entry
    → slice_get (acts_at diaries places) i ≡ Some (act_from diary.node entry)
read_there diaries places i place diary entry here among inside =
    act_there diaries places i place here ∙ ap Some (ap (λ (o : Option Diary). act_in o place.entry) among ∙ ap (act_of_entry diary.node) inside)

pub start_walked : (before new all : List ℕ) (acts : List Act) (sent next i : ℕ) (act : Act) → slice_get acts i ≡ Some act → new ≡ before ++ sent ∷ [] → next ≡ capped (sent + length act.row.sends) → before ++ starts_from sent (drop i acts) ≡ all
    → new ++ starts_from next (drop (i + 1) acts) ≡ all
start_walked before new all acts sent next i act here more is so_far =
    ap (λ (l : List ℕ). l ++ starts_from next (drop (i + 1) acts)) more
    ∙ ap (λ (n : ℕ). (before ++ sent ∷ []) ++ starts_from n (drop (i + 1) acts)) is
    ∙ append_assoc before (sent ∷ []) (starts_from (capped (sent + length act.row.sends)) (drop (i + 1) acts))
    ∙ ap (λ (l : List Act). before ++ starts_from sent l) (sym (drop_one acts i act here))
    ∙ so_far

-- there are as many starts as steps
starts_as_many : (acts : List Act) (sent : ℕ) → length (starts_from sent acts) ≡ length acts
starts_as_many [] sent = refl
starts_as_many (act ∷ acts) sent = ap suc (starts_as_many acts (capped (sent + length act.row.sends)))

pub starts_counted : (diaries : List Diary) (places : List Place) (starts : List ℕ) → starts ≡ starts_from 0 (acts_at diaries places) → length starts ≡ length places
starts_counted diaries places starts is = ap length is ∙ starts_as_many (acts_at diaries places) 0 ∙ length-map places (act_at diaries)

-- what was sent before a step, where words hold it
pub starts_at : (acts : List Act) (sent i start : ℕ) → sent + length (sent_by acts) < 2 ^ 64 → slice_get (starts_from sent acts) i ≡ Some start → start ≡ sent + length (sent_by (take i acts))
starts_at [] sent i start few h = cc
starts_at (act ∷ acts) sent zero start few h = let same : sent ≡ start = cc in omega arith
starts_at (act ∷ acts) sent (suc i) start few h =
    let own : length (enveloped act.node act.time act.row.sends) ≡ length act.row.sends = length-map act.row.sends _ in
    let all = length-append (enveloped act.node act.time act.row.sends) (sent_by acts) in
    let cut = length-append (enveloped act.node act.time act.row.sends) (sent_by (take i acts)) in
    let rest = starts_at acts (capped (sent + length act.row.sends)) i start (omega arith) h in
    omega arith

-- one event more
events_more : {S : Type 0} (Number : Envelope → ℕ → Type 0) (steps : List (Step S)) (events : List WorldEvent) (step : Step S) (event : WorldEvent) → AreEventsOf Number steps events → IsEventOf Number step.node step.input event → AreEventsOf Number (steps ++ step ∷ []) (events ++ event ∷ [])
events_more Number [] [] step event h one = (one, tt)
events_more Number [] (other ∷ events) step event h one = absurd h
events_more Number (first ∷ steps) [] step event h one = absurd h
events_more Number (first ∷ steps) (other ∷ events) step event h one = (h.0, events_more Number steps events step event h.1 one)

pub events_walked : (Number : Envelope → ℕ → Type 0) (acts : List Act) (i : ℕ) (act : Act) (events new : List WorldEvent) (event : WorldEvent) → slice_get acts i ≡ Some act → AreEventsOf Number (take i acts) events → IsEventOf Number act.node act.input event
    → new ≡ events ++ event ∷ [] → AreEventsOf Number (take (i + 1) acts) new
events_walked Number acts i act events new event here so_far one more =
    subst (AreEventsOf Number (take (i + 1) acts)) (sym more)
    (subst (λ (l : List Act). AreEventsOf Number l (events ++ event ∷ [])) (sym (take_one acts i act here)) (events_more Number (take i acts) events act event so_far one))
