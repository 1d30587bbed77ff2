-- In a closed list of diaries each merged step comes of what merged steps sent and claimed.
use Rattle.std.proofs.Common.{◌≡◌, ℕ, List, [], ◌∷◌, true, not, Option, Some, None, refl, ap, ◌∙◌, subst}
use Rattle.std.specs.Option.{option_map_or}
use Rattle.list_facts.specs.Lists.{In, Each}
use Rattle.list_facts.proofs.Cases.{by_test}
use Rattle.list_facts.proofs.Members.{each_in, in_each, in_filter}
use Rattle.rec_id.specs.Identity.{Identity}
use Rattle.lazy_msgs.specs.declared.diary.Diary.{Diary}
use Rattle.lazy_msgs.specs.declared.diary.DiaryEntry.{DiaryEntry}
use Rattle.lazy_msgs.specs.declared.input.Input.{Input}
use Rattle.lazy_msgs.specs.declared.input.Input.TheVariants.{Take, Tick, Grace, Crash, Post, Ask, Trim, Suspect, Peek}
use Rattle.lazy_msgs.specs.declared.msg.Envelope.{Envelope}
use Rattle.lazy_msgs.specs.declared.msg.Msg.{Msg}
use Rattle.lazy_msgs.specs.declared.msg.Msg.TheVariants.{Claim}
use Rattle.world_facts.proofs.goes.Sends.{each_flat_map}
use Rattle.diary_laws.specs.Closed.{AreClosed, IsClaimed, IsClosedIn, IsJustified, all_sent}
use Rattle.diary_laws.specs.Formed.{AreDiaries}
use Rattle.diary_laws.specs.Machines.{Machine, Step, steps_from, steps_in, all_steps}
use Rattle.diary_laws.specs.Merges.{IsMerged, finds_none, is_event, event_steps}
use Rattle.diary_laws.proofs.merges.Crashes.{step_merged, made_of}
use Rattle.diary_laws.proofs.merges.Going.{IsQuiet}
use Rattle.diary_laws.proofs.merges.Ranks.{in_permuted}

-- a step that some merged step is to come of
pub record IsDueIn (m : Machine) (sent : List Envelope) (merged : List (Step m.State)) (x : Step m.State) : Type 0 where
  pub event : is_event x ≡ true
  pub justified : IsJustified m sent merged x.time x.input

module _ (m : Machine) where
  -- what holds of each entry's time and input holds of its step's
  of_entries : (P : ℕ → Input → Type 0) (me : ℕ) (s : m.State) (entries : List DiaryEntry) → Each (λ (entry : DiaryEntry). P entry.time entry.input) entries → Each (λ (x : Step m.State). P x.time x.input) (steps_from m me s entries)
  of_entries P me s [] h = tt
  of_entries P me s (entry ∷ entries) h = (h.0, of_entries P me (m.step s entry.input).next entries h.1)

  of_start : (P : ℕ → Input → Type 0) (me : ℕ) (o : Option m.State) (entries : List DiaryEntry) → Each (λ (entry : DiaryEntry). P entry.time entry.input) entries → Each (λ (x : Step m.State). P x.time x.input) (option_map_or (λ (s : m.State). steps_from m me s entries) o [])
  of_start P me None entries h = tt
  of_start P me (Some s) entries h = of_entries P me s entries h

  -- each step is a row of the rule
  pub record IsRow (x : Step m.State) : Type 0 where
    pub state : m.State
    pub is : x.row ≡ m.step state x.input

  rows_from : (me : ℕ) (s : m.State) (entries : List DiaryEntry) → Each IsRow (steps_from m me s entries)
  rows_from me s [] = tt
  rows_from me s (entry ∷ entries) = (record { state = s; is = refl }, rows_from me (m.step s entry.input).next entries)

  rows_start : (me : ℕ) (o : Option m.State) (entries : List DiaryEntry) → Each IsRow (option_map_or (λ (s : m.State). steps_from m me s entries) o [])
  rows_start me None entries = tt
  rows_start me (Some s) entries = rows_from me s entries

  module _ (quiet : IsQuiet m) (diaries : List Diary) (are : AreDiaries m diaries) (closed : AreClosed m diaries) (merged : List (Step m.State)) (is : IsMerged m diaries merged) where
    row_of : (x : Step m.State) → In x (all_steps m diaries) → IsRow x
    row_of x there =
        let from = made_of (steps_in m) diaries x there in
        each_in IsRow (steps_in m from.origin) (rows_start from.origin.node (m.first from.origin.node) from.origin.entries) x from.made

    -- what sends is an event
    pub sends_event : (x : Step m.State) → In x (all_steps m diaries) → (send : ℕ × Msg) → In send x.row.sends → is_event x ≡ true
    sends_event x there send sent = by_test (finds_none x.input)
        (λ none.
        let row = row_of x there in
        let empty : x.row.sends ≡ [] = ap (λ r. r.sends) row.is ∙ quiet.sends row.state x.input none in
        absurd (subst (In send) empty sent))
        (λ some. ap not some)

    claimed_in : (now stable time replica from : ℕ) (ids : List Identity) → IsClaimed m (all_steps m diaries) now stable time replica from ids → IsClaimed m merged now stable time replica from ids
    claimed_in now stable time replica from ids h = record {
      step = h.step;
      there = step_merged m diaries are merged is h.step h.there (sends_event h.step h.there (h.addressee, Claim stable) h.claims);
      at = h.at;
      before = h.before;
      by = h.by;
      addressee = h.addressee;
      claims = h.claims;
      has = h.has;
    }

    among : (sent : List Envelope) (now : ℕ) (input : Input) → IsJustified m sent (all_steps m diaries) now input → IsJustified m sent merged now input
    among sent now (Take envelope) h = h
    among sent now (Peek stable time replica from ids) h = record { few = h.few; within = h.within; claimed = λ some. claimed_in now stable time replica from ids (h.claimed some) }
    among sent now Tick h = h
    among sent now Grace h = h
    among sent now Crash h = h
    among sent now (Post bytes) h = h
    among sent now (Ask ask) h = h
    among sent now (Trim floor) h = h
    among sent now (Suspect other) h = h

    all_justified : Each (λ (x : Step m.State). IsJustified m (all_sent diaries) (all_steps m diaries) x.time x.input) (all_steps m diaries)
    all_justified =
        each_flat_map (λ (x : Step m.State). IsJustified m (all_sent diaries) (all_steps m diaries) x.time x.input) (steps_in m) (IsClosedIn m (all_sent diaries) (all_steps m diaries))
        (λ diary h. of_start (IsJustified m (all_sent diaries) (all_steps m diaries)) diary.node (m.first diary.node) diary.entries h) diaries closed

    pub all_due : Each (IsDueIn m (all_sent diaries) merged) merged
    all_due = in_each (IsDueIn m (all_sent diaries) merged) merged (λ x there.
        let kept = in_filter is_event (all_steps m diaries) x (in_permuted (event_steps m diaries) merged is.all x there) in
        record {
          event = kept.1;
          justified = among (all_sent diaries) x.time x.input (each_in (λ (y : Step m.State). IsJustified m (all_sent diaries) (all_steps m diaries) y.time y.input) (all_steps m diaries) all_justified x kept.0);
        })
