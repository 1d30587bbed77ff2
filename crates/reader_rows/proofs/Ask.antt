-- Ask at a reader: the read gets the next number. An empty range is answered at once, another is fetched, and a tail is
-- forced.
use Rattle.std.proofs.Common.{◌≡◌, ◌≢◌, ℕ, ◌+◌, ◌-◌, ◌≤◌, List, [], ◌∷◌, ◌++◌, Option, Some, None, Bool, true, false, ◌⊎◌, inl, inr, refl, sym, ap, ◌∙◌, subst, arith}
use Rattle.std.specs.Prelude.{◌==◌, nat_lt, if◌then◌else◌}
use Rattle.std.specs.Option.{is_none, option_map_or}
use Rattle.std.proofs.Math.Path.{fun_ext}
use Rattle.std.proofs.lemmas.Bool.{cases_lt, eqb-true, ltb-false}
use Rattle.std.proofs.lemmas.List.{append_assoc}
use Rattle.list_facts.specs.Lists.{In, Precedes, put}
use Rattle.list_facts.proofs.Cases.{either}
use Rattle.list_facts.proofs.Members.{each_in, in_last, in_more}
use Rattle.list_facts.proofs.Precedence.{precedes_first, precedes_more}
use Rattle.list_facts.proofs.Puts.{put_cases, put_own}
use Rattle.rec_id.specs.declared.event.Ask.{Ask}
use Rattle.rec_id.specs.declared.event.Ask.TheVariants.{Range, Tail}
use Rattle.rec_id.specs.declared.event.Event.{Event}
use Rattle.rec_id.specs.declared.event.Event.TheVariants.{Begin, TrimAsk}
use Rattle.rec_id.specs.declared.limits.TheConstants.{READ_LIMIT}
use Rattle.rec_id.specs.History.{Read, begun_read, ended_read}
use Rattle.view_config.specs.Shape.{Dimensions}
use Rattle.lazy_msgs.specs.Step.{Row}
use Rattle.lazy_msgs.specs.declared.refused.BeginRefused.{BeginRefused}
use Rattle.lazy_msgs.specs.declared.refused.BeginRefused.TheVariants.{Backward, Outstanding, Wide}
use Rattle.lazy_rules.specs.ReaderRules.{answered, begin_refusal, begins_read, fetches, has_number, on_ask, opens, range_refusal, seeks, with_number}
use Rattle.lazy_rules.specs.ReaderState.{Fetching, Idle, Probing, ReaderState, Stage, Trimming, outstanding}
use Rattle.lazy_rules.specs.Rows.{followed, stays}
use Rattle.lazy_rules.specs.SeqRules.{is_leader}
use Rattle.world_facts.specs.MembersOf.{ReaderOf}
use Rattle.log_facts.specs.Finality.{BarredOrCovered, IsShut, line_ids}
use Rattle.log_facts.specs.Ghosts.{Ghost, Probed}
use Rattle.log_facts.specs.Good.{Good, GoodReader, Moment}
use Rattle.log_facts.specs.Parts.{Formed, Parts, with_reader}
use Rattle.log_facts.specs.Past.{HasBegun}
use Rattle.log_facts.specs.facts.OfReads.{IsReading, ReaderFacts, StageFacts, StageNotes}
use Rattle.log_facts.proofs.telling.Histories.{ReadAllowed, history_more, no_append, no_trim, none_new}
use Rattle.log_facts.proofs.telling.Told.{BeginsNow, Tells}
use Rattle.reader_rows.proofs.Answering.{answered_good}
use Rattle.reader_rows.proofs.Deciding.{fetches_good, probes_good}
use Rattle.reader_rows.proofs.Stepping.{KeepsTold, stays_good, tells_good}

-- the event that begins a read
begin_is : (event : Event) (client number : ℕ) → begun_read event ≡ Some (record { client = client; number = number }) → (ask : Ask) × (event ≡ Begin client number ask)
begin_is (Begin c n ask) client number is =
    let read : Read = record { client = c; number = n } in
    let other : Read = record { client = client; number = number } in
    let both : Some read ≡ Some other = is in
    let same : read ≡ other = cc in
    let one : c ≡ client = ap (λ (x : Read). x.client) same in
    let two : n ≡ number = ap (λ (x : Read). x.number) same in
    (ask, ap (λ (x : ℕ). Begin x n ask) one ∙ ap (λ (x : ℕ). Begin client x ask) two)
begin_is _ client number is = let wrong : None ≡ Some (record { client = client; number = number }) = is in cc

-- a read that isn't refused finds nothing outstanding, and asks for no backward range
idle_of : (stage : Stage) (range : Option BeginRefused) → is_none (option_map_or (λ number. Some (Outstanding number)) (outstanding stage) range) ≡ true → (stage ≡ Idle) × (is_none range ≡ true)
idle_of Idle range h = (refl, h)
idle_of (Fetching fetch) range h = cc
idle_of (Probing force) range h = cc
idle_of (Trimming trimmer) range h = cc

forward_of : (from to : ℕ) → is_none (range_refusal (Range from to)) ≡ true → from ≤ to
forward_of from to h = by (nat_lt to from) refl h
  where
    by : (b : Bool) → nat_lt to from ≡ b → is_none (if b then Some Backward else (if nat_lt READ_LIMIT (to - from) then Some Wide else None)) ≡ true → from ≤ to
    by true is none = cc
    by false is none = ltb-false to from is

-- two values put at one number: the second stands
put_twice : {A : Type 0} (f : ℕ → A) (n : ℕ) (x y : A) → put (put f n x) n y ≡ put f n y
put_twice f n x y = fun_ext (λ k. by k (k == n))
  where
    by : (k : ℕ) (b : Bool) → (if b then y else (if b then x else f k)) ≡ (if b then y else f k)
    by k true = refl
    by k false = refl

module _ (shape : Dimensions) (g : Ghost) (a : Parts) (c : ℕ) (moment : Moment shape g a) (ask : Ask) where
  abbrev r : ReaderState
  r = a.readers c

  abbrev number : ℕ
  number = r.count + 1

  abbrev read : Read
  read = record { client = c; number = number }

  abbrev event : Event
  event = Begin c number ask

  abbrev later : List Event
  later = a.history ++ event ∷ []

  abbrev opened : ReaderState
  opened = with_number r

  own : r.client ≡ c
  own = (moment.formed.readers c).numbered

  facts : ReaderFacts g.views a.history c r
  facts = moment.agreed.clients.reads c

  unbegun : ¬ HasBegun a.history c number
  unbegun b = let most = facts.reads number b.ask b.stands in absurd (omega arith)

  unread : (node view : ℕ) → ¬ In (record { node = node; view = view; client = c; read = number }) g.log.probed
  unread node view i = unbegun (each_in (λ (one : Probed). HasBegun a.history one.client one.read) g.log.probed moment.agreed.among_seqs.probed (record { node = node; view = view; client = c; read = number }) i)

  -- what came before it is in the history
  came_before : (other : Event) (asked : Ask) → Precedes other (Begin c number asked) later → In other a.history
  came_before other asked p = elim (precedes_more other (Begin c number asked) event a.history p) [
    | inl before ↦ precedes_first other (Begin c number asked) a.history before
    | inr last ↦ last.0
  ]

  -- who leads the current view has all that it must see; in a closed one it is barred by who closed that
  cover : (node : ℕ) → 1 ≤ (a.seqs node).view → is_leader (a.seqs node) ≡ true → BarredOrCovered g.views g.log.probed later a.seqs (a.seqs node).view c number (line_ids g.log.line (a.seqs node)) (a.seqs node).bound
  cover node some leads = elim (cases_lt (a.seqs node).view g.views.cur) [
    | inl closed ↦
        let by = moment.agreed.among_seqs.closers (a.seqs node).view some closed in
        let started = ((moment.agreed.seqs node).joined some).started in
        inl (record {
          node = g.views.cx (a.seqs node).view;
          member = subst (λ (w : ℕ). In (g.views.cx (a.seqs node).view) (g.views.cf w).seq) started.is by.member;
          shut = subst (IsShut (a.seqs (g.views.cx (a.seqs node).view))) started.is by.shut;
          silent = unread (g.views.cx (a.seqs node).view) (a.seqs node).view;
        })
    | inr least ↦
        let known = (moment.agreed.seqs node).known in
        let latest = moment.agreed.views.started.latest in
        let member = moment.agreed.line.members node (omega arith) in
        inr (record {
          ended = λ id e. member.held.past.ended id (record { event = e.event; ends = e.ends; stands = came_before e.event e.ask e.before });
          reached = λ reach e. let most = moment.agreed.line.reached e.event reach e.reaches (came_before e.event e.ask e.before) in let low = member.least in omega arith;
        })
  ]

  allowed : ReadAllowed a.history event
  allowed = record {
    begun_new = λ other is before i one.
        let both : Some read ≡ Some other = is in
        let same : read ≡ other = cc in
        let first = begin_is before c number (one ∙ ap (λ (x : Read). Some x) (sym same)) in
        unbegun (record { ask = first.0; stands = subst (λ (e : Event). In e a.history) first.1 i });
    begun = λ other is. let wrong : None ≡ Some other = is in cc;
    ended_new = none_new ended_read a.history event refl;
    trimmed = λ client other floor is. cc;
  }

  tells : Tells shape g a event
  tells = record {
    once = history_more shape a.history event (no_append shape a.history event refl refl) allowed (no_trim a.history event refl refl) moment.agreed.history;
    begins = λ client other asked is.
        let one : c ≡ client = cc in
        let two : number ≡ other = cc in
        subst (λ (x : ℕ). BeginsNow g a later x other) one (subst (BeginsNow g a later c) two (record { unbegun = unbegun; unread = unread; cover = cover }));
    invokes = λ id bytes is. cc;
    ends = λ id is. let wrong : None ≡ Some id = is in cc;
    reaches = λ x is. let wrong : None ≡ Some x = is in cc;
    acked = λ id apart is. cc;
    rejected = λ id place is. cc;
    trimmed = λ client other floor is. cc;
    answers = λ client other from entries tail is. cc;
    seen = λ client from ids is. cc;
  }

  -- the read goes on from now
  reading : IsReading later c number ask
  reading = record {
    begun = in_last event a.history;
    going = λ other i. by other (in_more other event a.history i);
  }
    where
      by : (other : Event) → In other a.history ⊎ (event ≡ other) → ended_read other ≢ Some read
      by other (inl i) = λ is.
          let before = moment.agreed.history.reads.begun_before read other is i in
          unbegun (record { ask = before.ask; stands = precedes_first (Begin c number before.ask) other a.history before.before })
      by other (inr same) = λ is. let wrong : None ≡ Some read = ap ended_read same ∙ is in cc

  module _ (idle : r.stage ≡ Idle) where
    facts_now : ReaderFacts g.views later c opened
    facts_now = record {
      config = facts.config;
      reads = λ other asked i. by other asked (in_more (Begin c other asked) event a.history i);
      trims = λ other floor i. by_trim other floor (in_more (TrimAsk c other floor) event a.history i);
      stage = subst (StageFacts later c) (sym idle) tt;
    }
      where
        by : (other : ℕ) (asked : Ask) → In (Begin c other asked) a.history ⊎ (event ≡ Begin c other asked) → other ≤ r.count + 1
        by other asked (inl i) = let most = facts.reads other asked i in omega arith
        by other asked (inr is) = let same : number ≡ other = cc in omega arith

        by_trim : (other floor : ℕ) → In (TrimAsk c other floor) a.history ⊎ (event ≡ TrimAsk c other floor) → other ≤ r.count + 1
        by_trim other floor (inl i) = let most = facts.trims other floor i in omega arith
        by_trim other floor (inr is) = cc

    opened_keeps : KeepsTold shape g a c moment opened event
    opened_keeps = record {
      facts = facts_now;
      notes = record { reach = (moment.agreed.clients.reads_noted c).reach; stage = subst (StageNotes shape g.views g.log later a.seqs a.shards c r.config.view) (sym idle) tt };
      tells = tells;
      others = λ n other. record {
        begins = λ x asked is. let same : c ≡ n = cc in other (sym same);
        asks = λ x floor is. cc;
        ends = λ x is. let wrong : None ≡ Some (record { client = n; number = x }) = is in cc;
        done = λ x is. let wrong : None ≡ Some (record { client = n; number = x }) = is in cc;
      };
      no_append = λ n. record { invoked = λ id bytes is. cc; ended = λ id is. let wrong : None ≡ Some id = is in cc };
    }

    -- the read has begun, and nothing was asked yet
    abbrev b : Parts
    b = with_reader a c opened (event ∷ [])

    begun_good : Good shape g a c b []
    begun_good = subst (λ (x : ℕ). Good shape g a c (with_reader a c opened (Begin x number ask ∷ [])) []) own (tells_good shape g a c moment (opens r ask) event (ap (λ (x : ℕ). Begin x number ask ∷ []) own) opened_keeps tt)

    abbrev h : Ghost
    h = begun_good.ghost

    formed : Formed shape b
    formed = record {
      clients = moment.formed.clients;
      readers = put_cases (λ (n : ℕ) (s : ReaderState). ReaderOf shape n s) a.readers c opened (let f = moment.formed.readers c in record { shaped = f.shaped; numbered = f.numbered; config = f.config }) (λ n other. moment.formed.readers n);
      control = moment.formed.control;
      seqs = moment.formed.seqs;
      shards = moment.formed.shards;
    }

    begun_moment : Moment shape h b
    begun_moment = record { is_shape = moment.is_shape; formed = formed; agreed = begun_good.agreed }

    facts_then : ReaderFacts h.views later c opened
    facts_then = subst (ReaderFacts h.views later c) (put_own a.readers c opened) (begun_good.agreed.clients.reads c)

    reach_then : r.reach ≤ h.log.low
    reach_then = subst (λ (s : ReaderState). s.reach ≤ h.log.low) (put_own a.readers c opened) (begun_good.agreed.clients.reads_noted c).reach

    -- two steps are one
    followed_good : (row : Row ReaderState) → GoodReader shape h b c row → Good shape g a c (with_reader a c row.next (Begin r.client number ask ∷ row.events)) row.sends
    followed_good row second =
        let one : Good shape g a c (with_reader b c row.next row.events) row.sends = record {
          ghost = second.ghost;
          agreed = second.agreed;
          lifts = λ node to msg said. second.lifts node to msg (begun_good.lifts node to msg said);
          said = second.said;
        } in
        subst (λ (x : ℕ). Good shape g a c (with_reader a c row.next (Begin x number ask ∷ row.events)) row.sends) (sym own)
        (subst (λ (history : List Event). Good shape g a c (record a { readers = put a.readers c row.next; history = history }) row.sends) (append_assoc a.history (event ∷ []) row.events)
        (subst (λ (f : ℕ → ReaderState). Good shape g a c (record a { readers = f; history = (a.history ++ event ∷ []) ++ row.events }) row.sends) (put_twice a.readers c opened row.next) one))

-- what the read does then
module _ (shape : Dimensions) (g : Ghost) (a : Parts) (c : ℕ) (moment : Moment shape g a) (idle : (a.readers c).stage ≡ Idle) where
  abbrev s : ReaderState
  s = with_number (a.readers c)

  module _ (from to : ℕ) (forward : from ≤ to) where
    abbrev k : Ghost
    k = h shape g a c moment (Range from to) idle

    abbrev p : Parts
    p = b shape g a c moment (Range from to) idle

    range_good : GoodReader shape k p c (seeks s (Range from to))
    range_good = either (GoodReader shape k p c) (from == to) (answered s s.count (Range from to) [] None) (fetches s s.count (Range from to) to None)
        (λ e. answered_good shape k p c (begun_moment shape g a c moment (Range from to) idle) s (moment.formed.readers c).numbered (facts_then shape g a c moment (Range from to) idle) (reach_then shape g a c moment (Range from to) idle) s.count (Range from to) [] None (record {
          reading = reading shape g a c moment (Range from to);
          unforced = λ none. refl;
          whole = λ none. let same = eqb-true from to e in omega arith;
          count = λ t is. cc;
          covers = λ t is. cc;
          below = omega arith;
          told = λ i entry at. cc;
        }))
        (λ e. fetches_good shape k p c (begun_moment shape g a c moment (Range from to) idle) s (moment.formed.readers c).numbered (moment.formed.readers c).shaped (facts_then shape g a c moment (Range from to) idle) (reach_then shape g a c moment (Range from to) idle) s.count (Range from to) (reading shape g a c moment (Range from to)) to None (record {
          forward = forward;
          unforced = λ none. refl;
          whole = λ none. refl;
          forced = λ t is. cc;
          below = λ t is. cc;
          covers = λ t is. cc;
        }))

  tail_good : (from : ℕ) → GoodReader shape (h shape g a c moment (Tail from) idle) (b shape g a c moment (Tail from) idle) c (seeks s (Tail from))
  tail_good from = probes_good shape (h shape g a c moment (Tail from) idle) (b shape g a c moment (Tail from) idle) c (begun_moment shape g a c moment (Tail from) idle) s (moment.formed.readers c).numbered (moment.formed.readers c).shaped (facts_then shape g a c moment (Tail from) idle) (reach_then shape g a c moment (Tail from) idle) s.count (Tail from) (reading shape g a c moment (Tail from))

  seeks_good : (ask : Ask) → is_none (range_refusal ask) ≡ true → GoodReader shape (h shape g a c moment ask idle) (b shape g a c moment ask idle) c (seeks s ask)
  seeks_good (Range from to) allowed = range_good from to (forward_of from to allowed)
  seeks_good (Tail from) allowed = tail_good from

  begins_good : (ask : Ask) → is_none (range_refusal ask) ≡ true → GoodReader shape g a c (begins_read (a.readers c) ask)
  begins_good ask allowed = either (GoodReader shape g a c) (has_number (a.readers c)) (followed (opens (a.readers c) ask) (λ after. seeks after ask)) (stays (a.readers c))
      (λ e. followed_good shape g a c moment ask idle (seeks s ask) (seeks_good ask allowed)) (λ e. stays_good shape g a c moment)

module _ (shape : Dimensions) (g : Ghost) (a : Parts) (c : ℕ) (moment : Moment shape g a) where
  pub ask_good : (ask : Ask) → GoodReader shape g a c (on_ask (a.readers c) ask)
  ask_good ask = either (GoodReader shape g a c) (is_none (begin_refusal (a.readers c) ask)) (begins_read (a.readers c) ask) (stays (a.readers c))
      (λ e. let both = idle_of (a.readers c).stage (range_refusal ask) e in begins_good shape g a c moment both.0 ask both.1) (λ e. stays_good shape g a c moment)
