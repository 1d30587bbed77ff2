use Rattle.std.specs.Prelude.{◌≡◌, ◌<◌, ◌≤◌, ℕ, List, [], ◌++◌, length, take, true, Some, slice_get}
use Rattle.list_facts.specs.Lists.{In, Each, Precedes, Distinct}
use Rattle.rec_id.specs.Identity.{Identity}
use Rattle.rec_id.specs.History.{finished_id, told_reach}
use Rattle.rec_id.specs.Marks.{span_of}
use Rattle.rec_id.specs.declared.event.Event.{Event}
use Rattle.rec_id.specs.declared.event.Event.TheVariants.{Invoke}
use Rattle.rec_id.specs.declared.item.Item.{Item}
use Rattle.rec_id.specs.declared.marks.Marks.{Marks}
use Rattle.view_config.specs.Limits.{window_of}
use Rattle.view_config.specs.Shape.{Dimensions}
use Rattle.lazy_rules.specs.ClientRules.{carried}
use Rattle.lazy_rules.specs.ControlState.{Phase, Taken, Flushing}
use Rattle.lazy_rules.specs.Ids.{ids_of}
use Rattle.lazy_rules.specs.Roles.{is_first}
use Rattle.lazy_rules.specs.SeqState.{SeqState}
use Rattle.lazy_rules.specs.ShardState.{ShardState}
use Rattle.lazy_rules.specs.Windows.{has_seen}
use Rattle.log_facts.specs.Finality.{line_ids, AllSettledIn}
use Rattle.log_facts.specs.Ghosts.{Views, Log}
use Rattle.log_facts.specs.Past.{IsBegun, HasEnded}

-- Of the line: what it has, how far it is bound, and what each of those has of it that may go on with it. These are
-- the members of the latest started view, what that view began with while not all have taken it, and the taken state.

-- an item whose append began, with the bytes of that where records go whole
pub record IsWhole (shape : Dimensions) (history : List Event) (item : Item) : Type 0 where
  pub own : List ℕ
  pub begun : In (Invoke item.id own) history
  pub has : item.bytes ≡ carried shape.mode own

-- a window has the marks of each client, in the edition's number of words
pub record WindowFacts (shape : Dimensions) (window : List Marks) : Type 0 where
  pub clients : length window ≡ shape.clients
  pub spans : (c : ℕ) (marks : Marks) → slice_get window c ≡ Some marks → span_of marks ≡ window_of shape.edition

-- of these identities and no others, of which each stands once, the window has seen each; the greatest mark of a client
-- is of an append that began
pub record SeesFacts (shape : Dimensions) (history : List Event) (window : List Marks) (ids : List Identity) : Type 0 where
  pub known : (id : Identity) → In id ids → has_seen window id ≡ true
  pub seen : (id : Identity) → id.client < shape.clients → 1 ≤ id.number → has_seen window id ≡ true → In id ids
  pub tops : (c : ℕ) (marks : Marks) → slice_get window c ≡ Some marks → 1 ≤ marks.top → IsBegun history (record { client = c; number = marks.top })

-- in these identities all that ended stands, in front of what began afterwards
pub record EndedFacts (history : List Event) (ids : List Identity) : Type 0 where
  pub ended : (id : Identity) → HasEnded history id → In id ids
  pub ordered : (a b : Identity) (bytes : List ℕ) (last : Event) → finished_id last ≡ Some a → Precedes last (Invoke b bytes) history → In b ids → Precedes a b ids

-- what goes on with the line: so many positions that are bound, the marks, and the identities that follow
pub record Held (shape : Dimensions) (history : List Event) (line : List Identity) (bound : ℕ) (window : List Marks) (items : List Item) : Type 0 where
  pub short : bound ≤ length line
  pub distinct : Distinct (take bound line ++ ids_of items)
  pub window_formed : WindowFacts shape window
  pub sees : SeesFacts shape history window (take bound line ++ ids_of items)
  pub past : EndedFacts history (take bound line ++ ids_of items)

-- a member that took the current view
pub record MemberFacts (shape : Dimensions) (v : Views) (log : Log) (history : List Event) (s : SeqState) : Type 0 where
  pub held : Held shape history log.line s.bound s.window s.pending
  pub least : log.low ≤ s.bound
  pub most : s.bound ≤ log.high

-- what the view began with, while some member hasn't taken it: then nothing was bound in it
pub record BaseFacts (shape : Dimensions) (v : Views) (log : Log) (history : List Event) : Type 0 where
  pub held : Held shape history log.line (v.bs v.lv) (v.wn v.lv) []
  pub low : log.low ≡ v.bs v.lv

-- the taken state, by which the line ends
pub record TakenHeld (shape : Dimensions) (log : Log) (history : List Event) (taken : Taken) : Type 0 where
  pub held : Held shape history log.line taken.from taken.window taken.items
  pub whole : Each (IsWhole shape history) taken.items
  pub low : log.low ≡ taken.from
  pub line : take taken.from log.line ++ ids_of taken.items ≡ log.line

-- the leader has the whole line, and no less is bound than it knows; what isn't there before it took the view isn't
pub record LeaderFacts (v : Views) (log : Log) (s : SeqState) : Type 0 where
  pub taken : s.view ≡ v.cur → line_ids log.line s ≡ log.line
  pub low : s.view ≡ v.cur → log.low ≡ s.bound
  pub absent : s.view < v.cur → length log.line ≡ v.bs v.lv

-- while no view lives, all views since the latest started one were closed at one place
pub record ClosingFacts (v : Views) (log : Log) : Type 0 where
  pub one : log.high ≡ log.low
  pub closed : (w : ℕ) → v.lv ≤ w → v.cl w ≡ log.low
  pub ended : (w : ℕ) → v.lv ≤ w → v.le w ≡ length log.line

-- while the latest started view lives
pub record LiveFacts (shape : Dimensions) (v : Views) (log : Log) (history : List Event) (seqs : ℕ → SeqState) (shards : ℕ → ShardState) : Type 0 where
  pub based : v.bs v.lv ≤ log.low
  pub absent : (node : ℕ) → In node (v.cf v.cur).seq → (seqs node).view < v.cur → BaseFacts shape v log history
  pub leader : (node : ℕ) → is_first (v.cf v.cur).seq node ≡ true → LeaderFacts v log (seqs node)
  pub settled : (shard : ℕ) → AllSettledIn v shards v.cur shard log.high

-- what reached up to a place before an append began came before it
abbrev pub BehindReached : List Event → List Identity → Type 0
BehindReached history line =
    (id : Identity) (bytes : List ℕ) (event : Event) (reach place : ℕ) → told_reach event ≡ Some reach → Precedes event (Invoke id bytes) history →
    slice_get line place ≡ Some id → reach ≤ place

pub record LineFacts (shape : Dimensions) (v : Views) (log : Log) (history : List Event) (phase : Phase) (seqs : ℕ → SeqState) (shards : ℕ → ShardState) : Type 0 where
  pub distinct : Distinct log.line
  pub begun : (id : Identity) → In id log.line → IsBegun history id
  pub low : log.low ≤ log.high
  pub high : log.high ≤ length log.line
  pub closed : (w : ℕ) → w < v.cur → v.cl w ≤ log.low
  pub reached : (event : Event) (reach : ℕ) → told_reach event ≡ Some reach → In event history → reach ≤ log.low
  pub behind : BehindReached history log.line
  pub members : (node : ℕ) → (seqs node).view ≡ v.cur → MemberFacts shape v log history (seqs node)
  pub live : v.lv ≡ v.cur → LiveFacts shape v log history seqs shards
  pub closing : v.lv < v.cur → ClosingFacts v log
  pub taken : (taken : Taken) → phase ≡ Flushing taken → TakenHeld shape log history taken
