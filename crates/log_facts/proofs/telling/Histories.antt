-- A history with one event more: what begins is new, and what ends had begun and hadn't ended.
use Rattle.std.proofs.Common.{◌≡◌, ◌≢◌, ℕ, ◌<◌, ◌≤◌, List, [], ◌∷◌, ◌++◌, Option, Some, None, ◌⊎◌, inl, inr, sym, ap, ◌∙◌}
use Rattle.list_facts.specs.Lists.{In, Precedes}
use Rattle.list_facts.proofs.Members.{in_more}
use Rattle.list_facts.proofs.Precedence.{precedes_across, precedes_left, precedes_more}
use Rattle.rec_id.specs.Identity.{Identity}
use Rattle.rec_id.specs.declared.event.Ask.{Ask}
use Rattle.rec_id.specs.declared.event.Event.{Event}
use Rattle.rec_id.specs.declared.event.Event.TheVariants.{Invoke, Begin, TrimAsk, TrimDone, Trimmed}
use Rattle.rec_id.specs.History.{Read, asked_trim, begun_read, done_trim, ended_read, finished_id, invoked_id}
use Rattle.view_config.specs.Shape.{Dimensions}
use Rattle.log_facts.specs.facts.OfHistory.{AppendsFacts, HadBegun, HistoryFacts, ReadsFacts, ToldOnce, TrimmedFacts, TrimsFacts}

-- what is told now wasn't told before
abbrev pub IsNew : {A : Type 0} → (Event → Option A) → List Event → Event → Type 0
IsNew {A = A} tells history event = (x : A) → tells event ≡ Some x → (before : Event) → In before history → tells before ≢ Some x

pub once_more : {A : Type 0} (tells : Event → Option A) (history : List Event) (event : Event) → IsNew tells history event → ToldOnce tells history → ToldOnce tells (history ++ event ∷ [])
once_more {A = A} tells history event new once x first second one other p = by (precedes_more first second event history p)
  where
    by : Precedes first second history ⊎ (In first history × (event ≡ second)) → ⊥
    by (inl q) = once x first second one other q
    by (inr q) = new x (ap tells q.1 ∙ other) first q.0 one

-- an event that tells nothing of the sort
pub none_new : {A : Type 0} (tells : Event → Option A) (history : List Event) (event : Event) → tells event ≡ None → IsNew tells history event
none_new tells history event none x is before i one = let wrong : None ≡ Some x = sym none ∙ is in absurd (not_some x wrong)
  where
    not_some : {B : Type 0} (y : B) → None ≡ Some y → ⊥
    not_some y wrong = cc

-- what is to be known of an event about appends
pub record AppendAllowed (shape : Dimensions) (history : List Event) (event : Event) : Type 0 where
  pub client : (id : Identity) (bytes : List ℕ) → event ≡ Invoke id bytes → (id.client < shape.clients) × (1 ≤ id.number)
  pub invoked : IsNew invoked_id history event
  pub begun : (id : Identity) → finished_id event ≡ Some id → (bytes : List ℕ) × In (Invoke id bytes) history
  pub ended : IsNew finished_id history event

pub appends_more : (shape : Dimensions) (history : List Event) (event : Event) → AppendAllowed shape history event → AppendsFacts shape history → AppendsFacts shape (history ++ event ∷ [])
appends_more shape history event allowed f = record {
  clients = λ id bytes i. by_client id bytes (in_more (Invoke id bytes) event history i);
  numbers = λ id bytes i. by_number id bytes (in_more (Invoke id bytes) event history i);
  begun_once = once_more invoked_id history event allowed.invoked f.begun_once;
  begun_before = λ id other ends i. by_end id other ends (in_more other event history i);
  ended_once = once_more finished_id history event allowed.ended f.ended_once;
}
  where
    by_client : (id : Identity) (bytes : List ℕ) → In (Invoke id bytes) history ⊎ (event ≡ Invoke id bytes) → id.client < shape.clients
    by_client id bytes (inl i) = f.clients id bytes i
    by_client id bytes (inr is) = (allowed.client id bytes is).0

    by_number : (id : Identity) (bytes : List ℕ) → In (Invoke id bytes) history ⊎ (event ≡ Invoke id bytes) → 1 ≤ id.number
    by_number id bytes (inl i) = f.numbers id bytes i
    by_number id bytes (inr is) = (allowed.client id bytes is).1

    by_end : (id : Identity) (other : Event) → finished_id other ≡ Some id → In other history ⊎ (event ≡ other) → (bytes : List ℕ) × Precedes (Invoke id bytes) other (history ++ event ∷ [])
    by_end id other ends (inl i) = let before = f.begun_before id other ends i in (before.0, precedes_left (Invoke id before.0) other history (event ∷ []) before.1)
    by_end id other ends (inr is) =
        let before = allowed.begun id (ap finished_id is ∙ ends) in
        (before.0, precedes_across (Invoke id before.0) other history (event ∷ []) before.1 (inl is))

-- and of one about reads
pub record ReadAllowed (history : List Event) (event : Event) : Type 0 where
  pub begun_new : IsNew begun_read history event
  pub begun : (read : Read) → ended_read event ≡ Some read → (ask : Ask) × In (Begin read.client read.number ask) history
  pub ended_new : IsNew ended_read history event
  pub trimmed : (client read floor : ℕ) → event ≡ Trimmed client read floor → TrimmedFacts (history ++ event ∷ []) client read floor

pub reads_more : (history : List Event) (event : Event) → ReadAllowed history event → ReadsFacts history → ReadsFacts (history ++ event ∷ [])
reads_more history event allowed f = record {
  begun_once = once_more begun_read history event allowed.begun_new f.begun_once;
  begun_before = λ read other ends i. by_end read other ends (in_more other event history i);
  ended_once = once_more ended_read history event allowed.ended_new f.ended_once;
  trimmed = λ client read floor i. by_trim client read floor (in_more (Trimmed client read floor) event history i);
}
  where
    by_end : (read : Read) (other : Event) → ended_read other ≡ Some read → In other history ⊎ (event ≡ other) → HadBegun (history ++ event ∷ []) read other
    by_end read other ends (inl i) =
        let before = f.begun_before read other ends i in
        record { ask = before.ask; before = precedes_left (Begin read.client read.number before.ask) other history (event ∷ []) before.before }
    by_end read other ends (inr is) =
        let before = allowed.begun read (ap ended_read is ∙ ends) in
        record { ask = before.0; before = precedes_across (Begin read.client read.number before.0) other history (event ∷ []) before.1 (inl is) }

    by_trim : (client read floor : ℕ) → In (Trimmed client read floor) history ⊎ (event ≡ Trimmed client read floor) → TrimmedFacts (history ++ event ∷ []) client read floor
    by_trim client read floor (inl i) =
        let t = f.trimmed client read floor i in
        record {
          ask = t.ask;
          begun = precedes_left (Begin client read t.ask) (Trimmed client read floor) history (event ∷ []) t.begun;
          below = t.below;
          trimmer = t.trimmer;
          trim = t.trim;
          asked = t.asked;
          before = precedes_left (TrimAsk t.trimmer t.trim t.asked) (Trimmed client read floor) history (event ∷ []) t.before;
          at_least = t.at_least;
        }
    by_trim client read floor (inr is) = allowed.trimmed client read floor is

-- and of one about trims
pub record TrimAllowed (history : List Event) (event : Event) : Type 0 where
  pub asked_new : (read : Read) (low high : ℕ) (before : Event) → In before history → asked_trim before ≡ Some (read, low) → asked_trim event ≢ Some (read, high)
  pub asked : (client read floor : ℕ) → event ≡ TrimDone client read floor → In (TrimAsk client read floor) history
  pub done_new : IsNew done_trim history event

pub trims_more : (history : List Event) (event : Event) → TrimAllowed history event → TrimsFacts history → TrimsFacts (history ++ event ∷ [])
trims_more history event allowed f = record {
  asked_once = λ read low high first second one other p. by_ask read low high first second one other (precedes_more first second event history p);
  asked_before = λ client read floor i. by_done client read floor (in_more (TrimDone client read floor) event history i);
  done_once = once_more done_trim history event allowed.done_new f.done_once;
}
  where
    by_ask : (read : Read) (low high : ℕ) (first second : Event) → asked_trim first ≡ Some (read, low) → asked_trim second ≡ Some (read, high) → Precedes first second history ⊎ (In first history × (event ≡ second)) → ⊥
    by_ask read low high first second one other (inl p) = f.asked_once read low high first second one other p
    by_ask read low high first second one other (inr q) = allowed.asked_new read low high first q.0 one (ap asked_trim q.1 ∙ other)

    by_done : (client read floor : ℕ) → In (TrimDone client read floor) history ⊎ (event ≡ TrimDone client read floor) → Precedes (TrimAsk client read floor) (TrimDone client read floor) (history ++ event ∷ [])
    by_done client read floor (inl i) = precedes_left (TrimAsk client read floor) (TrimDone client read floor) history (event ∷ []) (f.asked_before client read floor i)
    by_done client read floor (inr is) = precedes_across (TrimAsk client read floor) (TrimDone client read floor) history (event ∷ []) (allowed.asked client read floor is) (inl is)

-- an event that isn't about appends, isn't about reads, or isn't about trims
pub no_append : (shape : Dimensions) (history : List Event) (event : Event) → invoked_id event ≡ None → finished_id event ≡ None → AppendAllowed shape history event
no_append shape history event begins ends = record {
  client = λ id bytes is. let wrong : None ≡ Some id = sym begins ∙ ap invoked_id is in cc;
  invoked = none_new invoked_id history event begins;
  begun = λ id is. let wrong : None ≡ Some id = sym ends ∙ is in cc;
  ended = none_new finished_id history event ends;
}

pub no_read : (history : List Event) (event : Event) → begun_read event ≡ None → ended_read event ≡ None → ReadAllowed history event
no_read history event begins ends = record {
  begun_new = none_new begun_read history event begins;
  begun = λ read is. let wrong : None ≡ Some read = sym ends ∙ is in cc;
  ended_new = none_new ended_read history event ends;
  trimmed = λ client read floor is. let wrong : None ≡ Some (record { client = client; number = read }) = sym ends ∙ ap ended_read is in cc;
}

pub no_trim : (history : List Event) (event : Event) → asked_trim event ≡ None → done_trim event ≡ None → TrimAllowed history event
no_trim history event asks done = record {
  asked_new = λ read low high before i one is. let wrong : None ≡ Some (read, high) = sym asks ∙ is in cc;
  asked = λ client read floor is. let wrong : None ≡ Some (record { client = client; number = read }) = sym done ∙ ap done_trim is in cc;
  done_new = none_new done_trim history event done;
}

pub history_more : (shape : Dimensions) (history : List Event) (event : Event) → AppendAllowed shape history event → ReadAllowed history event → TrimAllowed history event → HistoryFacts shape history → HistoryFacts shape (history ++ event ∷ [])
history_more shape history event appends reads trims f = record {
  appends = appends_more shape history event appends f.appends;
  reads = reads_more history event reads f.reads;
  trims = trims_more history event trims f.trims;
}
