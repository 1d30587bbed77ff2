-- What is shown of a history and a line makes the line lawful, clause by clause.
use Rattle.std.proofs.Common.{◌≡◌, ℕ, ◌+◌, ◌-◌, ◌≤◌, List, length, map, min, take, IsTrue, IsSome, Option, Some, None, inl, inr, refl, ap, ◌∙◌, subst, arith}
use Rattle.std.specs.Prelude.{slice_get}
use Rattle.std.proofs.lemmas.Bool.{cases_lt}
use Rattle.list_facts.specs.Lists.{In, Precedes, Distinct}
use Rattle.list_facts.proofs.Places.{in_at, at_in}
use Rattle.list_facts.proofs.Precedence.{precedes_at, at_precedes}
use Rattle.list_facts.proofs.Distinctness.{distinct_place}
use Rattle.law_cases.specs.Precedes.{KeepsPrecedence, KeepsReach}
use Rattle.law_cases.proofs.ToldAt.{told_cases, told_from}
use Rattle.law_cases.proofs.Consequences.{id_listed, listed_id, precedence_from, reach_from}
use Rattle.rec_id.specs.Identity.{Identity}
use Rattle.rec_id.specs.History.{Read, asked_from, asked_to, asked_trim, begun_read, done_trim, ended_read, finished_id, forced_tail, invoked_id, is_tail, shown_reach, told_at, told_reach, NoneBefore, OneBefore}
use Rattle.rec_id.specs.Line.{IsToldAt, appended_id, id_at, named_id}
use Rattle.rec_id.specs.Lawful.{BehindRead, Covered, EndsRead, Finished as FinishedClause, Invoked, IsSlice, IsTrimmedRead, Lawful, Ordered, Slices, TailsNeverFall, Trims, Unique}
use Rattle.rec_id.specs.declared.entry.Entry.{Entry}
use Rattle.rec_id.specs.declared.entry.Entry.TheVariants.{Kept, Noop, Gone}
use Rattle.rec_id.specs.declared.event.Ask.{Ask}
use Rattle.rec_id.specs.declared.event.Event.{Event}
use Rattle.rec_id.specs.declared.event.Event.TheVariants.{Invoke, Acked, Rejected, Begin, Answer, Seen, TrimAsk, TrimDone, Trimmed}
use Rattle.view_config.specs.Shape.{Dimensions}
use Rattle.log_facts.specs.Handed.{EachFrom}
use Rattle.log_facts.specs.Past.{Covers, IsBegun, IsTrimAsked}
use Rattle.log_facts.specs.facts.OfHistory.{HistoryFacts, ToldOnce}
use Rattle.log_facts.proofs.Places.{at_take, each_from_first}

-- an entry is of an append that began, with its bytes; one that is gone was asked to go
abbrev pub EntryShown : List Event → ℕ → Entry → Type 0
EntryShown history place (Kept id bytes) = In (Invoke id bytes) history
EntryShown history place (Noop id) = IsBegun history id
EntryShown history place (Gone id) = IsBegun history id × IsTrimAsked history (place + 1)

-- an entry of the record with its bytes stands in the line, or one whose bytes were given up
pub record IsThere (line : List Entry) (id : Identity) : Type 0 where
  pub entry : Entry
  pub among : In entry line
  pub appends : appended_id entry ≡ Some id

-- what an answer tells is what its read asked for, of the line
pub record AnswerShown (history : List Event) (line : List Entry) (client read from : ℕ) (entries : List Entry) (tail : Option ℕ) : Type 0 where
  pub ask : Ask
  pub begun : Precedes (Begin client read ask) (Answer client read from entries tail) history
  pub asked : asked_from ask ≡ from
  pub forced : IsTrue (is_tail ask) → IsSome tail
  pub count : (t : ℕ) → tail ≡ Some t → length entries ≡ min (asked_to ask) t - from
  pub within : (t : ℕ) → tail ≡ Some t → t ≤ length line
  pub whole : tail ≡ None → from + length entries ≡ asked_to ask
  pub told : (k : ℕ) (entry : Entry) → slice_get entries k ≡ Some entry → IsToldAt history line (from + k) entry
  pub covers : (t : ℕ) → tail ≡ Some t → Covers history client read (take t (map named_id line)) t

-- what the line must show
pub record LineShown (history : List Event) (line : List Entry) : Type 0 where
  pub distinct : Distinct (map named_id line)
  pub entries : EachFrom (EntryShown history) 0 line
  pub acked : (id : Identity) → In (Acked id) history → IsThere line id
  pub rejected : (id : Identity) (place : ℕ) → In (Rejected id place) history → slice_get line place ≡ Some (Noop id)
  pub ordered : KeepsPrecedence history line
  pub reached : KeepsReach history line
  pub answers : (client read from : ℕ) (entries : List Entry) (tail : Option ℕ) → In (Answer client read from entries tail) history → AnswerShown history line client read from entries tail
  pub seen : (client from : ℕ) (ids : List Identity) → In (Seen client from ids) history → (k : ℕ) (id : Identity) → slice_get ids k ≡ Some id → id_at line (from + k) ≡ Some id

module _ (shape : Dimensions) (history : List Event) (line : List Entry) (past : HistoryFacts shape history) (shows : LineShown history line) where
  unique : Unique line
  unique p q = record {
    differ = λ id lt first second.
        let same = distinct_place (map named_id line) shows.distinct p q id (id_listed line p id first) (id_listed line q id second) in
        omega arith;
  }

  entry_at : (place : ℕ) (e : Entry) → slice_get line place ≡ Some e → EntryShown history place e
  entry_at place e at = each_from_first (EntryShown history) line shows.entries place e at

  begun_at : (id : Identity) → IsBegun history id → (i : ℕ) × (told_at invoked_id history i ≡ Some id)
  begun_at id begun = let k = at_in history (Invoke id begun.bytes) begun.stands in (k.0, told_from invoked_id history k.0 (Invoke id begun.bytes) id k.1 refl)

  invoked : Invoked history line
  invoked place = record {
    kept = λ id bytes at. let k = at_in history (Invoke id bytes) (entry_at place (Kept id bytes) at) in record { index = k.0; stands = k.1 };
    noop = λ id at. let k = begun_at id (entry_at place (Noop id) at) in record { index = k.0; tells = k.1 };
    gone = λ id at. let k = begun_at id (entry_at place (Gone id) at).0 in record { index = k.0; tells = k.1 };
    trimmed = λ id at.
        let asked = (entry_at place (Gone id) at).1 in
        let k = at_in history (TrimAsk asked.client asked.read asked.asked) asked.stands in
        let far = asked.at_least in
        record {
          index = k.0;
          trim = record { client = asked.client; number = asked.read };
          floor = asked.asked;
          asks = told_from asked_trim history k.0 (TrimAsk asked.client asked.read asked.asked) _ k.1 refl;
          above = omega arith;
        };
  }

  -- what is told once is told at one place
  module _ {A : Type 0} (f : Event → Option A) (once : ToldOnce f history) where
    one_place : (i j : ℕ) (x : A) → told_at f history i ≡ Some x → told_at f history j ≡ Some x → i ≡ j
    one_place i j x first second =
        let one = told_cases f history i x first in
        let two = told_cases f history j x second in
        elim (cases_lt i j) [
          | inl lt ↦ absurd (once x one.0 two.0 one.2 two.2 (precedes_at history i j one.0 two.0 lt one.1 two.1))
          | inr le ↦ elim (cases_lt j i) [
            | inl lt ↦ absurd (once x two.0 one.0 two.2 one.2 (precedes_at history j i two.0 one.0 lt two.1 one.1))
            | inr ge ↦ omega arith
          ]
        ]

    pub none_before : (j : ℕ) (x : A) → told_at f history j ≡ Some x → NoneBefore f history j x
    none_before j x at = record { none = λ i lt first. let same = one_place i j x first at in absurd (omega arith) }

  -- what comes before an event that is told once comes before its place
  one_before : {A B : Type 0} (f : Event → Option A) (g : Event → Option B) → ToldOnce f history → ToldOnce g history → (e y : Event) (b : B) (x : A) (j : ℕ) → Precedes e y history → g e ≡ Some b → f y ≡ Some x → told_at f history j ≡ Some x → OneBefore g history j b
  one_before f g once_f once_g e y b x j before tells ends at =
      let k = at_precedes history e y before in
      let same = one_place f once_f k.second j x (told_from f history k.second y x k.has_y ends) at in
      let lt = k.before in
      record {
        index = k.first;
        before = omega arith;
        tells = told_from g history k.first e b k.has_x tells;
        only = λ i less told. one_place g once_g i k.first b told (told_from g history k.first e b k.has_x tells);
      }

  finished : FinishedClause history line
  finished j = record {
    invoked_once = λ id at. none_before invoked_id past.appends.begun_once j id at;
    invoked_before = λ id at.
        let y = told_cases finished_id history j id at in
        let begun = past.appends.begun_before id y.0 y.2 (in_at history j y.0 y.1) in
        let places = at_precedes history (Invoke id begun.0) y.0 begun.1 in
        let same = one_place finished_id past.appends.ended_once places.second j id (told_from finished_id history places.second y.0 id places.has_y y.2) at in
        let before = places.before in
        record { index = places.first; before = omega arith; tells = told_from invoked_id history places.first (Invoke id begun.0) id places.has_x refl };
    finished_once = λ id at. none_before finished_id past.appends.ended_once j id at;
    acked = λ id at.
        let there = shows.acked id (in_at history j (Acked id) at) in
        let place = at_in line there.entry there.among in
        record { place = place.0; tells = told_from appended_id line place.0 there.entry id place.1 there.appends };
    rejected = λ id place at. shows.rejected id place (in_at history j (Rejected id place) at);
  }

  ordered : Ordered history line
  ordered = precedence_from history line unique shows.ordered

  behind_read : BehindRead history line
  behind_read = reach_from history line shows.reached

  -- a read that ended at a place began before it
  module _ (client read j : ℕ) (told : Event) (is : ended_read told ≡ Some (record { client = client; number = read })) (here : slice_get history j ≡ Some told) (ask : Ask) (begun : Precedes (Begin client read ask) told history) where
    abbrev own : Read
    own = record { client = client; number = read }

    pub ends_here : told_at ended_read history j ≡ Some own
    ends_here = told_from ended_read history j told own here is

    pub begun_once_before : OneBefore begun_read history j own
    begun_once_before = one_before ended_read begun_read past.reads.ended_once past.reads.begun_once (Begin client read ask) told own own j begun refl is ends_here

    pub asks_here : slice_get history begun_once_before.index ≡ Some (Begin client read ask)
    asks_here =
        let k = at_precedes history (Begin client read ask) told begun in
        let same : begun_once_before.index ≡ k.first = one_place begun_read past.reads.begun_once begun_once_before.index k.first own begun_once_before.tells (told_from begun_read history k.first (Begin client read ask) own k.has_x refl) in
        ap (slice_get history) same ∙ k.has_x

    abbrev pub ends_read : EndsRead history j own
    ends_read = record {
      begun = begun_once_before;
      ask = ask;
      asks = asks_here;
      not_ended = none_before ended_read past.reads.ended_once j own ends_here;
    }

  slice_at : (client read from : ℕ) (entries : List Entry) (tail : Option ℕ) (j : ℕ) → slice_get history j ≡ Some (Answer client read from entries tail) → IsSlice history line j (record { client = client; number = read }) from entries tail
  slice_at client read from entries tail j here =
      let shown = shows.answers client read from entries tail (in_at history j (Answer client read from entries tail) here) in
      record {
        ends = ends_read client read j (Answer client read from entries tail) refl here shown.ask shown.begun;
        asked = shown.asked;
        forced = shown.forced;
        count = shown.count;
        within = shown.within;
        whole = shown.whole;
        told = shown.told;
      }

  slices : Slices history line
  slices j = record {
    answer = λ client read from entries tail here. slice_at client read from entries tail j here;
    seen = λ client from ids here. shows.seen client from ids (in_at history j (Seen client from ids) here);
  }

  -- what a forced answer covers
  forced_covers : (j : ℕ) (read : Read) (tail : ℕ) → told_at forced_tail history j ≡ Some (read, tail) → Covers history read.client read.number (take tail (map named_id line)) tail
  forced_covers j read tail at = by (told_cases forced_tail history j (read, tail) at)
    where
      by_answer : (client number from : ℕ) (entries : List Entry) (t : Option ℕ) → In (Answer client number from entries t) history → forced_tail (Answer client number from entries t) ≡ Some (read, tail) → Covers history read.client read.number (take tail (map named_id line)) tail
      by_answer client number from entries None m e = cc
      by_answer client number from entries (Some t) m e =
          let pair : (record { client = client; number = number }, t) ≡ (read, tail) = cc in
          subst (λ (k : Read × ℕ). Covers history k.0.client k.0.number (take k.1 (map named_id line)) k.1) pair ((shows.answers client number from entries (Some t) m).covers t refl)

      by_event : (e : Event) → In e history → forced_tail e ≡ Some (read, tail) → Covers history read.client read.number (take tail (map named_id line)) tail
      by_event (Answer client number from entries t) m e = by_answer client number from entries t m e
      by_event (Invoke id bytes) m e = cc
      by_event (Acked id) m e = cc
      by_event (Rejected id place) m e = cc
      by_event (Begin client number ask) m e = cc
      by_event (Seen client from ids) m e = cc
      by_event (TrimAsk client number floor) m e = cc
      by_event (TrimDone client number floor) m e = cc
      by_event (Trimmed client number floor) m e = cc

      by : (x : Event) × (slice_get history j ≡ Some x) × (forced_tail x ≡ Some (read, tail)) → Covers history read.client read.number (take tail (map named_id line)) tail
      by k = by_event k.0 (in_at history j k.0 k.1) k.2

  -- the Begin that is told at a place
  begin_at : (b : ℕ) (read : Read) → told_at begun_read history b ≡ Some read → (ask : Ask) × (slice_get history b ≡ Some (Begin read.client read.number ask))
  begin_at b read at = by (told_cases begun_read history b read at)
    where
      by_event : (e : Event) → slice_get history b ≡ Some e → begun_read e ≡ Some read → (ask : Ask) × (slice_get history b ≡ Some (Begin read.client read.number ask))
      by_event (Begin client number ask) here e =
          let is : record { client = client; number = number } ≡ read = cc in
          (ask, here ∙ ap (λ (r : Read). Some (Begin r.client r.number ask)) is)
      by_event (Answer client number from entries t) here e = cc
      by_event (Invoke id bytes) here e = cc
      by_event (Acked id) here e = cc
      by_event (Rejected id place) here e = cc
      by_event (Seen client from ids) here e = cc
      by_event (TrimAsk client number floor) here e = cc
      by_event (TrimDone client number floor) here e = cc
      by_event (Trimmed client number floor) here e = cc

      by : (x : Event) × (slice_get history b ≡ Some x) × (begun_read x ≡ Some read) → (ask : Ask) × (slice_get history b ≡ Some (Begin read.client read.number ask))
      by k = by_event k.0 k.1 k.2

  covered : Covered history line
  covered i b = record {
    below = λ a read tail j lt later ends begins at.
        let x = told_cases finished_id history i a ends in
        let y = begin_at b read begins in
        let before = precedes_at history i b x.0 (Begin read.client read.number y.0) lt x.1 y.1 in
        let stands = at_in (take tail (map named_id line)) a ((forced_covers j read tail at).ended a (record { event = x.0; ends = x.2; ask = y.0; before = before })) in
        let low = at_take tail (map named_id line) stands.0 a stands.1 in
        record { place = stands.0; below = low.0; names = listed_id line stands.0 a low.1 };
  }

  shown_told : (e : Event) (reach : ℕ) → shown_reach e ≡ Some reach → told_reach e ≡ Some reach
  shown_told (Answer client read from entries tail) reach e = e
  shown_told (Seen client from ids) reach e = e
  shown_told (Invoke id bytes) reach e = cc
  shown_told (Acked id) reach e = cc
  shown_told (Rejected id place) reach e = cc
  shown_told (Begin client number ask) reach e = cc
  shown_told (TrimAsk client number floor) reach e = cc
  shown_told (TrimDone client number floor) reach e = cc
  shown_told (Trimmed client number floor) reach e = cc

  tails_never_fall : TailsNeverFall history
  tails_never_fall i j = record {
    no_less = λ reach b tail read lt later shown begins at.
        let x = told_cases shown_reach history i reach shown in
        let y = begin_at b read begins in
        let before = precedes_at history i b x.0 (Begin read.client read.number y.0) lt x.1 y.1 in
        (forced_covers j read tail at).reached reach (record { event = x.0; reaches = shown_told x.0 reach x.2; ask = y.0; before = before });
  }

  trimmed_at : (client read floor j : ℕ) → slice_get history j ≡ Some (Trimmed client read floor) → IsTrimmedRead history j (record { client = client; number = read }) floor
  trimmed_at client read floor j here =
      let told = past.reads.trimmed client read floor (in_at history j (Trimmed client read floor) here) in
      let own : Read = record { client = client; number = read } in
      let ends : told_at ended_read history j ≡ Some own = told_from ended_read history j (Trimmed client read floor) own here refl in
      let k = at_precedes history (TrimAsk told.trimmer told.trim told.asked) (Trimmed client read floor) told.before in
      let same = one_place ended_read past.reads.ended_once k.second j own (told_from ended_read history k.second (Trimmed client read floor) own k.has_y refl) ends in
      let lt = k.before in
      record {
        ends = ends_read client read j (Trimmed client read floor) refl here told.ask told.begun;
        below = told.below;
        asked = record {
          index = k.first;
          before = omega arith;
          trim = record { client = told.trimmer; number = told.trim };
          asked_floor = told.asked;
          asks = told_from asked_trim history k.first (TrimAsk told.trimmer told.trim told.asked) _ k.has_x refl;
          at_least = told.at_least;
        };
      }

  asked_once : ToldOnce asked_trim history
  asked_once x first second e f = past.trims.asked_once x.0 x.1 x.1 first second e f

  trims : Trims history
  trims j = record {
    trimmed = λ client read floor here. trimmed_at client read floor j here;
    asked = λ client read floor here.
        let own : Read = record { client = client; number = read } in
        one_before done_trim asked_trim past.trims.done_once asked_once (TrimAsk client read floor) (TrimDone client read floor) (own, floor) own j (past.trims.asked_before client read floor (in_at history j (TrimDone client read floor) here)) refl refl (told_from done_trim history j (TrimDone client read floor) own here refl);
    done_once = λ client read floor here.
        let own : Read = record { client = client; number = read } in
        none_before done_trim past.trims.done_once j own (told_from done_trim history j (TrimDone client read floor) own here refl);
  }

  pub lawful : Lawful history line
  lawful = record {
    unique = unique;
    invoked = invoked;
    finished = finished;
    ordered = ordered;
    slices = slices;
    covered = covered;
    tails_never_fall = tails_never_fall;
    behind_read = behind_read;
    trims = trims;
  }
