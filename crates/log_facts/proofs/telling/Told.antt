-- A world in which one event more is told: what has to be known of it, and that all that isn't of its client stays.
use Rattle.std.proofs.Common.{◌≡◌, ℕ, zero, suc, ◌<◌, ◌≤◌, List, [], ◌∷◌, ◌++◌, Option, Some, None, ◌⊎◌, inl, inr, ap, ◌∙◌, true, subst}
use Rattle.std.specs.Prelude.{◌+◌, take, slice_get}
use Rattle.list_facts.specs.Lists.{Each, In, Precedes}
use Rattle.list_facts.proofs.Members.{each_weaker, in_cases, in_left, in_more}
use Rattle.list_facts.proofs.Places.{in_at}
use Rattle.list_facts.proofs.Precedence.{precedes_first, precedes_left, precedes_more}
use Rattle.rec_id.specs.Identity.{Identity}
use Rattle.rec_id.specs.declared.entry.Entry.{Entry}
use Rattle.rec_id.specs.declared.event.Ask.{Ask}
use Rattle.rec_id.specs.declared.event.Event.{Event}
use Rattle.rec_id.specs.declared.event.Event.TheVariants.{Invoke, Acked, Rejected, Begin, Answer, Seen, TrimDone}
use Rattle.rec_id.specs.declared.item.Body.{Body}
use Rattle.rec_id.specs.declared.item.Body.TheVariants.{Elsewhere, Kept, Noop, Open, Gone}
use Rattle.rec_id.specs.declared.item.Cell.{Cell}
use Rattle.rec_id.specs.declared.item.Item.{Item}
use Rattle.rec_id.specs.declared.marks.Marks.{Marks}
use Rattle.rec_id.specs.History.{finished_id, told_reach}
use Rattle.view_config.specs.Shape.{Dimensions}
use Rattle.view_config.specs.declared.edition.Mode.TheVariants.{St}
use Rattle.lazy_rules.specs.ControlState.{Phase, Taken, Flushing}
use Rattle.lazy_rules.specs.Flight.{Probe}
use Rattle.lazy_rules.specs.Ids.{ids_of}
use Rattle.lazy_rules.specs.SeqRules.{is_leader}
use Rattle.lazy_rules.specs.SeqState.{SeqState}
use Rattle.lazy_rules.specs.Store.{Store}
use Rattle.log_facts.specs.Agreed.{Agreed, ToldFacts}
use Rattle.log_facts.specs.Finality.{BarredOrCovered, GivenByAll, line_ids, TellsPlace, TellsSign}
use Rattle.log_facts.specs.Ghosts.{Ghost, Log, Probed, Views}
use Rattle.log_facts.specs.Handed.{BodyBegun, CellBegun}
use Rattle.log_facts.specs.Parts.{Parts}
use Rattle.log_facts.specs.Past.{HasBegun, HasEnded, IsBegun, ToldAs}
use Rattle.log_facts.specs.Says.{RejectedSays}
use Rattle.log_facts.specs.Signs.{Away, Filled, IsPiece, Lacking, Sign, Sort, Void}
use Rattle.log_facts.specs.facts.OfData.{DataFacts, TrimIsDone}
use Rattle.log_facts.specs.facts.OfHistory.{HistoryFacts}
use Rattle.log_facts.specs.facts.OfLine.{BaseFacts, EndedFacts, Held, IsWhole, LineFacts, LiveFacts, MemberFacts, SeesFacts, TakenHeld}
use Rattle.log_facts.specs.facts.OfReads.{AnswerFacts, PlaceTold}
use Rattle.log_facts.specs.facts.OfSeqs.{AmongSeqs, FlightFacts, LeaderReads, SeqFacts, WaitsFor}
use Rattle.log_facts.proofs.telling.Past.{asked_stays, begun_stays, covered_stays, covers_stays, read_stays}

-- the identity stands in all that may go on with the line
pub record StandsEverywhere (v : Views) (log : Log) (phase : Phase) (seqs : ℕ → SeqState) (id : Identity) : Type 0 where
  pub members : (node : ℕ) → (seqs node).view ≡ v.cur → In id (line_ids log.line (seqs node))
  pub base : v.lv ≡ v.cur → (node : ℕ) → In node (v.cf v.cur).seq → (seqs node).view < v.cur → In id (take (v.bs v.lv) log.line)
  pub taken : (taken : Taken) → phase ≡ Flushing taken → In id (take taken.from log.line ++ ids_of taken.items)

-- a read that begins is a new one, which nobody acknowledged; who leads a view knows all that it must see, or it is
-- barred there
pub record BeginsNow (g : Ghost) (a : Parts) (later : List Event) (client read : ℕ) : Type 0 where
  pub unbegun : ¬ HasBegun a.history client read
  pub unread : (node view : ℕ) → ¬ In (record { node = node; view = view; client = client; read = read }) g.log.probed
  pub cover :
      (node : ℕ) → 1 ≤ (a.seqs node).view → is_leader (a.seqs node) ≡ true →
      BarredOrCovered g.views g.log.probed later a.seqs (a.seqs node).view client read (line_ids g.log.line (a.seqs node)) (a.seqs node).bound

-- this event may be told
pub record Tells (shape : Dimensions) (g : Ghost) (a : Parts) (event : Event) : Type 0 where
  pub once : HistoryFacts shape (a.history ++ event ∷ [])
  pub begins : (client read : ℕ) (ask : Ask) → event ≡ Begin client read ask → BeginsNow g a (a.history ++ event ∷ []) client read
  pub invokes : (id : Identity) (bytes : List ℕ) → event ≡ Invoke id bytes → ¬ IsBegun a.history id
  pub ends : (id : Identity) → finished_id event ≡ Some id → StandsEverywhere g.views g.log a.control.phase a.seqs id
  pub reaches : (reach : ℕ) → told_reach event ≡ Some reach → reach ≤ g.log.low
  pub acked : (id : Identity) → shape.mode ≡ St → event ≡ Acked id → GivenByAll shape g.views g.log.given id
  pub rejected : (id : Identity) (place : ℕ) → event ≡ Rejected id place → RejectedSays shape g.views g.log a.shards id place
  pub trimmed : (client read floor : ℕ) → event ≡ TrimDone client read floor → TrimIsDone g.views a.shards floor
  pub answers :
      (client read from : ℕ) (entries : List Entry) (tail : Option ℕ) → event ≡ Answer client read from entries tail →
      AnswerFacts shape g.views g.log (a.history ++ event ∷ []) a.shards client read from entries tail
  pub seen : (client from : ℕ) (ids : List Identity) → event ≡ Seen client from ids → IsPiece g.log.line from ids

in_take : {A : Type 0} (n : ℕ) (xs : List A) (x : A) → In x (take n xs) → In x xs
in_take zero xs x i = absurd i
in_take (suc n) [] x i = absurd i
in_take (suc n) (y ∷ xs) x (inl e) = inl e
in_take (suc n) (y ∷ xs) x (inr i) = inr (in_take n xs x i)

module _ (shape : Dimensions) (g : Ghost) (a : Parts) (event : Event) (agreed : Agreed shape g a) (tells : Tells shape g a event) where
  abbrev later : List Event
  later = a.history ++ event ∷ []

  alone : (other : Event) → In other (event ∷ []) → event ≡ other
  alone other (inl e) = e
  alone other (inr i) = absurd i

  pub fresh : (client read : ℕ) (ask : Ask) → In (Begin client read ask) (event ∷ []) → ¬ HasBegun a.history client read
  fresh client read ask i = (tells.begins client read ask (alone (Begin client read ask) i)).unbegun

  -- what goes on with the line
  whole_told : (item : Item) → IsWhole shape a.history item → IsWhole shape later item
  whole_told item w = record { own = w.own; begun = in_left (Invoke item.id w.own) a.history (event ∷ []) w.begun; has = w.has }

  sees_told : (window : List Marks) (ids : List Identity) → SeesFacts shape a.history window ids → SeesFacts shape later window ids
  sees_told window ids f = record {
    known = f.known;
    seen = f.seen;
    tops = λ c marks at some. begun_stays a.history (event ∷ []) (record { client = c; number = marks.top }) (f.tops c marks at some);
  }

  module _ (ids : List Identity) (begun : (id : Identity) → In id ids → IsBegun a.history id) (stands : (id : Identity) → finished_id event ≡ Some id → In id ids) where
    past_told : EndedFacts a.history ids → EndedFacts later ids
    past_told f = record {
      ended = λ id e. by_end id e (in_more e.event event a.history e.stands);
      ordered = λ x y bytes last ends p i. by_order x y bytes last ends i (precedes_more last (Invoke y bytes) event a.history p);
    }
      where
        by_end : (id : Identity) (e : HasEnded later id) → In e.event a.history ⊎ (event ≡ e.event) → In id ids
        by_end id e (inl i) = f.ended id (record { event = e.event; ends = e.ends; stands = i })
        by_end id e (inr is) = stands id (ap finished_id is ∙ e.ends)

        by_order : (x y : Identity) (bytes : List ℕ) (last : Event) → finished_id last ≡ Some x → In y ids → Precedes last (Invoke y bytes) a.history ⊎ (In last a.history × (event ≡ Invoke y bytes)) → Precedes x y ids
        by_order x y bytes last ends i (inl p) = f.ordered x y bytes last ends p i
        by_order x y bytes last ends i (inr q) = absurd (tells.invokes y bytes q.1 (begun y i))

  held_told :
      (bound : ℕ) (window : List Marks) (items : List Item) →
      ((id : Identity) → In id (take bound g.log.line ++ ids_of items) → IsBegun a.history id) →
      ((id : Identity) → finished_id event ≡ Some id → In id (take bound g.log.line ++ ids_of items)) →
      Held shape a.history g.log.line bound window items → Held shape later g.log.line bound window items
  held_told bound window items begun stands f = record {
    short = f.short;
    distinct = f.distinct;
    window_formed = f.window_formed;
    sees = sees_told window (take bound g.log.line ++ ids_of items) f.sees;
    past = past_told (take bound g.log.line ++ ids_of items) begun stands f.past;
  }

  -- the identities of a list of items that began
  items_begun : (items : List Item) → Each (IsWhole shape a.history) items → (id : Identity) → In id (ids_of items) → IsBegun a.history id
  items_begun [] each id i = absurd i
  items_begun (item ∷ items) each id (inl e) = subst (IsBegun a.history) e (record { bytes = each.0.own; stands = each.0.begun })
  items_begun (item ∷ items) each id (inr i) = items_begun items each.1 id i

  -- and of the line with these behind it
  held_begun : (bound : ℕ) (items : List Item) → Each (IsWhole shape a.history) items → (id : Identity) → In id (take bound g.log.line ++ ids_of items) → IsBegun a.history id
  held_begun bound items each id i = by (in_cases id (take bound g.log.line) (ids_of items) i)
    where
      by : In id (take bound g.log.line) ⊎ In id (ids_of items) → IsBegun a.history id
      by (inl i) = agreed.line.begun id (in_take bound g.log.line id i)
      by (inr i) = items_begun items each id i

  member_told : (node : ℕ) → (a.seqs node).view ≡ g.views.cur → MemberFacts shape g.views g.log a.history (a.seqs node) → MemberFacts shape g.views g.log later (a.seqs node)
  member_told node now f = record {
    held = held_told (a.seqs node).bound (a.seqs node).window (a.seqs node).pending (held_begun (a.seqs node).bound (a.seqs node).pending (agreed.seqs node).items) (λ id ends. (tells.ends id ends).members node now) f.held;
    least = f.least;
    most = f.most;
  }

  nothing_behind : (xs : List Identity) (id : Identity) → In id xs → In id (xs ++ [])
  nothing_behind xs id i = in_left id xs [] i

  base_told : g.views.lv ≡ g.views.cur → (node : ℕ) → In node (g.views.cf g.views.cur).seq → (a.seqs node).view < g.views.cur → BaseFacts shape g.views g.log a.history → BaseFacts shape g.views g.log later
  base_told live node member absent f = record {
    held = held_told (g.views.bs g.views.lv) (g.views.wn g.views.lv) [] (held_begun (g.views.bs g.views.lv) [] tt) (λ id ends. nothing_behind (take (g.views.bs g.views.lv) g.log.line) id ((tells.ends id ends).base live node member absent)) f.held;
    low = f.low;
  }

  taken_told : (taken : Taken) → a.control.phase ≡ Flushing taken → TakenHeld shape g.log a.history taken → TakenHeld shape g.log later taken
  taken_told taken is f = record {
    held = held_told taken.from taken.window taken.items (held_begun taken.from taken.items f.whole) (λ id ends. (tells.ends id ends).taken taken is) f.held;
    whole = each_weaker (IsWhole shape a.history) (IsWhole shape later) whole_told taken.items f.whole;
    low = f.low;
    line = f.line;
  }

  live_told : g.views.lv ≡ g.views.cur → LiveFacts shape g.views g.log a.history a.seqs a.shards → LiveFacts shape g.views g.log later a.seqs a.shards
  live_told live f = record {
    based = f.based;
    absent = λ node member absent. base_told live node member absent (f.absent node member absent);
    leader = f.leader;
    settled = f.settled;
  }

  reached_told : (other : Event) (reach : ℕ) → told_reach other ≡ Some reach → In other a.history ⊎ (event ≡ other) → reach ≤ g.log.low
  reached_told other reach reaches (inl i) = agreed.line.reached other reach reaches i
  reached_told other reach reaches (inr is) = tells.reaches reach (ap told_reach is ∙ reaches)

  behind_told :
      (id : Identity) (bytes : List ℕ) (other : Event) (reach place : ℕ) → told_reach other ≡ Some reach → slice_get g.log.line place ≡ Some id →
      Precedes other (Invoke id bytes) a.history ⊎ (In other a.history × (event ≡ Invoke id bytes)) → reach ≤ place
  behind_told id bytes other reach place reaches at (inl p) = agreed.line.behind id bytes other reach place reaches p at
  behind_told id bytes other reach place reaches at (inr q) = absurd (tells.invokes id bytes q.1 (agreed.line.begun id (in_at g.log.line place id at)))

  pub line_told : LineFacts shape g.views g.log later a.control.phase a.seqs a.shards
  line_told = record {
    distinct = agreed.line.distinct;
    low = agreed.line.low;
    high = agreed.line.high;
    closed = agreed.line.closed;
    closing = agreed.line.closing;
    begun = λ id i. begun_stays a.history (event ∷ []) id (agreed.line.begun id i);
    reached = λ other reach reaches i. reached_told other reach reaches (in_more other event a.history i);
    behind = λ id bytes other reach place reaches p at. behind_told id bytes other reach place reaches at (precedes_more other (Invoke id bytes) event a.history p);
    members = λ node now. member_told node now (agreed.line.members node now);
    live = λ live. live_told live (agreed.line.live live);
    taken = λ taken is. taken_told taken is (agreed.line.taken taken is);
  }

  -- sequencing replicas
  waits_told : (s : SeqState) (probe : Probe) → WaitsFor a.history s probe → WaitsFor later s probe
  waits_told s probe w = record { begun = read_stays a.history (event ∷ []) probe.client probe.read w.begun; above = w.above; within = w.within }

  flight_told : (s : SeqState) → FlightFacts a.history s → FlightFacts later s
  flight_told s f = record {
    follow = f.follow;
    sorted = f.sorted;
    placed = f.placed;
    waiting = each_weaker (WaitsFor a.history s) (WaitsFor later s) (waits_told s) s.probes f.waiting;
  }

  pub seq_told : (node : ℕ) → SeqFacts shape g.views later node (a.seqs node)
  seq_told node =
      let f : SeqFacts shape g.views a.history node (a.seqs node) = agreed.seqs node in
      record {
        known = f.known;
        joined = f.joined;
        based = f.based;
        unled = f.unled;
        unasked = f.unasked;
        closed = f.closed;
        items = each_weaker (IsWhole shape a.history) (IsWhole shape later) whole_told (a.seqs node).pending f.items;
        leads = λ leads. flight_told (a.seqs node) (f.leads leads);
      }

  cover_told :
      (node : ℕ) → 1 ≤ (a.seqs node).view → is_leader (a.seqs node) ≡ true → LeaderReads g.views g.log a.history a.seqs (a.seqs node) →
      (client read : ℕ) (ask : Ask) → In (Begin client read ask) a.history ⊎ (event ≡ Begin client read ask) →
      BarredOrCovered g.views g.log.probed later a.seqs (a.seqs node).view client read (line_ids g.log.line (a.seqs node)) (a.seqs node).bound
  cover_told node some leads f client read ask (inl i) =
      let begun : HasBegun a.history client read = record { ask = ask; stands = i } in
      covered_stays a.history (event ∷ []) fresh g.views g.log.probed a.seqs (a.seqs node).view client read (line_ids g.log.line (a.seqs node)) (a.seqs node).bound begun (f.cover client read begun)
  cover_told node some leads f client read ask (inr is) = (tells.begins client read ask is).cover node some leads

  waiting_told : (s : SeqState) (probes : List Probe) → Each (WaitsFor a.history s) probes →
      Each (λ (probe : Probe). BarredOrCovered g.views g.log.probed a.history a.seqs s.view probe.client probe.read (take probe.target (line_ids g.log.line s)) probe.target) probes →
      Each (λ (probe : Probe). BarredOrCovered g.views g.log.probed later a.seqs s.view probe.client probe.read (take probe.target (line_ids g.log.line s)) probe.target) probes
  waiting_told s [] waits each = tt
  waiting_told s (probe ∷ probes) waits each =
      (covered_stays a.history (event ∷ []) fresh g.views g.log.probed a.seqs s.view probe.client probe.read (take probe.target (line_ids g.log.line s)) probe.target waits.0.begun each.0, waiting_told s probes waits.1 each.1)

  leader_told : (node : ℕ) → 1 ≤ (a.seqs node).view → is_leader (a.seqs node) ≡ true → LeaderReads g.views g.log a.history a.seqs (a.seqs node) → LeaderReads g.views g.log later a.seqs (a.seqs node)
  leader_told node some leads f = record {
    cover = λ client read begun. cover_told node some leads f client read begun.ask (in_more (Begin client read begun.ask) event a.history begun.stands);
    waiting = waiting_told (a.seqs node) (a.seqs node).probes ((agreed.seqs node).leads leads).waiting f.waiting;
    old = f.old;
  }

  pub among_told : AmongSeqs g.views g.log later a.seqs a.shards
  among_told = record {
    closers = agreed.among_seqs.closers;
    noted = agreed.among_seqs.noted;
    reads = λ node some leads. leader_told node some leads (agreed.among_seqs.reads node some leads);
    probed = each_weaker (λ (one : Probed). HasBegun a.history one.client one.read) (λ (one : Probed). HasBegun later one.client one.read) (λ one b. read_stays a.history (event ∷ []) one.client one.read b) g.log.probed agreed.among_seqs.probed;
  }

  -- data
  body_told : (cell : Cell) → CellBegun a.history cell → CellBegun later cell
  body_told cell b = by cell.id cell.body b
    where
      by : (id : Identity) (body : Body) → BodyBegun a.history id body → BodyBegun later id body
      by id (Kept bytes) b = in_left (Invoke id bytes) a.history (event ∷ []) b
      by id Elsewhere b = begun_stays a.history (event ∷ []) id b
      by id Noop b = begun_stays a.history (event ∷ []) id b
      by id Open b = begun_stays a.history (event ∷ []) id b
      by id Gone b = begun_stays a.history (event ∷ []) id b

  pub data_told : (store : Store) → DataFacts a.history store → DataFacts later store
  data_told store f = record {
    cells = each_weaker (CellBegun a.history) (CellBegun later) body_told store.order f.cells;
    held = each_weaker (λ (one : Identity × List ℕ). In (Invoke one.0 one.1) a.history) (λ (one : Identity × List ℕ). In (Invoke one.0 one.1) later) (λ one i. in_left (Invoke one.0 one.1) a.history (event ∷ []) i) store.held f.held;
    asked = λ some. asked_stays a.history (event ∷ []) store.floor (f.asked some);
  }

  -- what was told
  told_as : (id : Identity) (sort : Sort) (entry : Entry) → ToldAs a.history id sort entry → ToldAs later id sort entry
  told_as id Away entry t = absurd t
  told_as id Filled entry t = (t.0, t.1, in_left (Invoke id t.0) a.history (event ∷ []) t.2)
  told_as id Void entry t = t
  told_as id Lacking entry t = absurd t

  tells_sign : (sign : Sign) (told : Option Entry) → TellsSign a.history sign told → TellsSign later sign told
  tells_sign sign None t = t
  tells_sign sign (Some entry) t = told_as sign.id sign.sort entry t

  pub tells_place : (shard place : ℕ) (told : Option Entry) → TellsPlace g.views g.log.high a.history a.shards shard place told → TellsPlace g.views g.log.high later a.shards shard place told
  tells_place shard place told t d sign home some final at = tells_sign sign told (t d sign home some final at)

  place_told : (place : ℕ) (entry : Entry) → PlaceTold shape g.views g.log a.history a.shards place entry → PlaceTold shape g.views g.log later a.shards place entry
  place_told place entry t = record { shard = t.shard; known = t.known; tells = tells_place t.shard place (Some entry) t.tells }

  answer_told :
      (client read from : ℕ) (entries : List Entry) (tail : Option ℕ) → In (Answer client read from entries tail) a.history ⊎ (event ≡ Answer client read from entries tail) →
      AnswerFacts shape g.views g.log later a.shards client read from entries tail
  answer_told client read from entries tail (inl i) =
      let f : AnswerFacts shape g.views g.log a.history a.shards client read from entries tail = agreed.told.of_reads.answers client read from entries tail i in
      record {
        ask = f.ask;
        begun = precedes_left (Begin client read f.ask) (Answer client read from entries tail) a.history (event ∷ []) f.begun;
        starts = f.starts;
        unforced = f.unforced;
        whole = f.whole;
        count = f.count;
        covers = λ t is. covers_stays a.history (event ∷ []) fresh client read (take t g.log.line) t (record { ask = f.ask; stands = precedes_first (Begin client read f.ask) (Answer client read from entries tail) a.history f.begun }) (f.covers t is);
        told = λ k entry at. place_told (from + k) entry (f.told k entry at);
      }
  answer_told client read from entries tail (inr is) = tells.answers client read from entries tail is

  seen_told : (client from : ℕ) (ids : List Identity) → In (Seen client from ids) a.history ⊎ (event ≡ Seen client from ids) → IsPiece g.log.line from ids
  seen_told client from ids (inl i) = agreed.told.of_reads.seen client from ids i
  seen_told client from ids (inr is) = tells.seen client from ids is

  acked_told : (id : Identity) → shape.mode ≡ St → In (Acked id) a.history ⊎ (event ≡ Acked id) → GivenByAll shape g.views g.log.given id
  acked_told id apart (inl i) = agreed.told.of_data.acked id apart i
  acked_told id apart (inr is) = tells.acked id apart is

  rejected_told : (id : Identity) (place : ℕ) → In (Rejected id place) a.history ⊎ (event ≡ Rejected id place) → RejectedSays shape g.views g.log a.shards id place
  rejected_told id place (inl i) = agreed.told.of_data.rejected id place i
  rejected_told id place (inr is) = tells.rejected id place is

  trimmed_told : (client read floor : ℕ) → In (TrimDone client read floor) a.history ⊎ (event ≡ TrimDone client read floor) → TrimIsDone g.views a.shards floor
  trimmed_told client read floor (inl i) = agreed.told.of_data.trimmed client read floor i
  trimmed_told client read floor (inr is) = tells.trimmed client read floor is

  pub told_told : ToldFacts shape g.views g.log later a.shards
  told_told = record {
    of_data = record {
      acked = λ id apart i. acked_told id apart (in_more (Acked id) event a.history i);
      rejected = λ id place i. rejected_told id place (in_more (Rejected id place) event a.history i);
      trimmed = λ client read floor i. trimmed_told client read floor (in_more (TrimDone client read floor) event a.history i);
    };
    of_reads = record {
      answers = λ client read from entries tail i. answer_told client read from entries tail (in_more (Answer client read from entries tail) event a.history i);
      seen = λ client from ids i. seen_told client from ids (in_more (Seen client from ids) event a.history i);
    };
  }
