use Rattle.std.specs.Prelude.{◌≡◌, ◌≢◌, ◌<◌, ◌≤◌, ℕ, ◌+◌, ◌-◌, min, List, length, take, false, Option, Some, None, slice_get}
use Rattle.list_facts.specs.Lists.{In, Each, Precedes}
use Rattle.rec_id.specs.Identity.{Identity}
use Rattle.rec_id.specs.History.{ended_read, done_trim, asked_from, asked_to, is_tail}
use Rattle.rec_id.specs.declared.entry.Entry.{Entry}
use Rattle.rec_id.specs.declared.event.Ask.{Ask}
use Rattle.rec_id.specs.declared.event.Event.{Event}
use Rattle.rec_id.specs.declared.event.Event.TheVariants.{Begin, Answer, Seen, TrimAsk}
use Rattle.view_config.specs.Shape.{Dimensions}
use Rattle.lazy_rules.specs.ReaderState.{Fetch, Force, Trimmer, ReaderState, Stage, Idle, Fetching, Probing, Trimming}
use Rattle.lazy_rules.specs.SeqState.{SeqState}
use Rattle.lazy_rules.specs.ShardState.{ShardState}
use Rattle.log_facts.specs.Finality.{TellsPlace}
use Rattle.log_facts.specs.Ghosts.{Views, Log}
use Rattle.log_facts.specs.Past.{Covers}
use Rattle.log_facts.specs.Says.{IsReign, PartSays, ProbeAckSays, TailSays}
use Rattle.log_facts.specs.Signs.{IsPiece}

-- Of reads and trims: what a reader is at, what it notes, and what clients were told of the order.

-- ---- what a reader is at

-- a read that began with this ask, and hasn't ended
pub record IsReading (history : List Event) (client read : ℕ) (ask : Ask) : Type 0 where
  pub begun : In (Begin client read ask) history
  pub going : (event : Event) → In event history → ended_read event ≢ Some (record { client = client; number = read })

-- a trim that was asked for, and isn't done
pub record IsTrimming (history : List Event) (client read floor : ℕ) : Type 0 where
  pub asked : In (TrimAsk client read floor) history
  pub going : (event : Event) → In event history → done_trim event ≢ Some (record { client = client; number = read })

abbrev pub StageFacts : List Event → ℕ → Stage → Type 0
StageFacts history client Idle = Unit {0}
StageFacts history client (Fetching fetch) = IsReading history client fetch.number fetch.ask
StageFacts history client (Probing force) = IsReading history client force.number force.ask
StageFacts history client (Trimming trimmer) = IsTrimming history client trimmer.number trimmer.floor

-- its reads and trims are numbered from 1 on
pub record ReaderFacts (v : Views) (history : List Event) (c : ℕ) (r : ReaderState) : Type 0 where
  pub config : IsReign v r.config
  pub reads : (read : ℕ) (ask : Ask) → In (Begin c read ask) history → read ≤ r.count
  pub trims : (read floor : ℕ) → In (TrimAsk c read floor) history → read ≤ r.count
  pub stage : StageFacts history c r.stage

-- ---- what it notes

-- what a fetch wants: without a tail all that was asked, with one what lies below it
pub record FetchFacts (log : Log) (history : List Event) (client : ℕ) (fetch : Fetch) : Type 0 where
  pub forward : asked_from fetch.ask ≤ fetch.end
  pub unforced : fetch.tail ≡ None → is_tail fetch.ask ≡ false
  pub whole : fetch.tail ≡ None → fetch.end ≡ asked_to fetch.ask
  pub forced : (tail : ℕ) → fetch.tail ≡ Some tail → fetch.end ≡ min (asked_to fetch.ask) tail
  pub below : (tail : ℕ) → fetch.tail ≡ Some tail → tail ≤ log.low
  pub covers : (tail : ℕ) → fetch.tail ≡ Some tail → Covers history client fetch.number (take tail log.line) tail

-- what a shard told, up to the end of what the fetch wants
abbrev pub PartNoted : Dimensions → Views → Log → List Event → (ℕ → ShardState) → ℕ → Fetch → Type 0
PartNoted shape v log history shards client fetch =
    (shard : ℕ) (entries : List (ℕ × Entry)) → slice_get fetch.parts shard ≡ Some (Some entries) →
    PartSays shape v log history shards shard client fetch.number (asked_from fetch.ask) fetch.end entries

pub record FetchNotes (shape : Dimensions) (v : Views) (log : Log) (history : List Event) (shards : ℕ → ShardState) (client : ℕ) (fetch : Fetch) : Type 0 where
  pub wants : FetchFacts log history client fetch
  pub count : length fetch.parts ≡ shape.shards
  pub parts : PartNoted shape v log history shards client fetch

-- who acknowledged the probe in the reader's view, and the tail
pub record ForceNotes (v : Views) (log : Log) (history : List Event) (seqs : ℕ → SeqState) (client view : ℕ) (force : Force) : Type 0 where
  pub acked : Each (λ (node : ℕ). ProbeAckSays log.probed node view client force.number) force.acked
  pub tail : (tail : ℕ) → force.tail ≡ Some tail → TailSays v log history seqs view client force.number tail

-- who gave up what is below the floor, which no answer reached less far than
pub record TrimNotes (log : Log) (shards : ℕ → ShardState) (trimmer : Trimmer) : Type 0 where
  pub below : trimmer.floor ≤ log.low
  pub acked : Each (λ (node : ℕ). trimmer.floor ≤ (shards node).store.floor) trimmer.acked

abbrev pub StageNotes : Dimensions → Views → Log → List Event → (ℕ → SeqState) → (ℕ → ShardState) → ℕ → ℕ → Stage → Type 0
StageNotes shape v log history seqs shards client view Idle = Unit {0}
StageNotes shape v log history seqs shards client view (Fetching fetch) = FetchNotes shape v log history shards client fetch
StageNotes shape v log history seqs shards client view (Probing force) = ForceNotes v log history seqs client view force
StageNotes shape v log history seqs shards client view (Trimming trimmer) = TrimNotes log shards trimmer

pub record ReaderNotes (shape : Dimensions) (v : Views) (log : Log) (history : List Event) (seqs : ℕ → SeqState) (shards : ℕ → ShardState) (c : ℕ) (r : ReaderState) : Type 0 where
  pub reach : r.reach ≤ log.low
  pub stage : StageNotes shape v log history seqs shards c r.config.view r.stage

-- ---- what was told

-- an entry is what one of the shards has at the place
pub record PlaceTold (shape : Dimensions) (v : Views) (log : Log) (history : List Event) (shards : ℕ → ShardState) (place : ℕ) (entry : Entry) : Type 0 where
  pub shard : ℕ
  pub known : shard < shape.shards
  pub tells : TellsPlace v log.high history shards shard place (Some entry)

-- an answer has what its read asked for: all of it or, where it was forced, what lies below the tail. The tail covers what
-- the read must see, and the entries are what the shards have
pub record AnswerFacts (shape : Dimensions) (v : Views) (log : Log) (history : List Event) (shards : ℕ → ShardState) (client read from : ℕ) (entries : List Entry) (tail : Option ℕ) : Type 0 where
  pub ask : Ask
  pub begun : Precedes (Begin client read ask) (Answer client read from entries tail) history
  pub starts : asked_from ask ≡ from
  pub unforced : tail ≡ None → is_tail ask ≡ false
  pub whole : tail ≡ None → from + length entries ≡ asked_to ask
  pub count : (t : ℕ) → tail ≡ Some t → length entries ≡ min (asked_to ask) t - from
  pub covers : (t : ℕ) → tail ≡ Some t → Covers history client read (take t log.line) t
  pub told : (k : ℕ) (entry : Entry) → slice_get entries k ≡ Some entry → PlaceTold shape v log history shards (from + k) entry

pub record ToldOfReads (shape : Dimensions) (v : Views) (log : Log) (history : List Event) (shards : ℕ → ShardState) : Type 0 where
  pub answers :
      (client read from : ℕ) (entries : List Entry) (tail : Option ℕ) → In (Answer client read from entries tail) history →
      AnswerFacts shape v log history shards client read from entries tail
  pub seen : (client from : ℕ) (ids : List Identity) → In (Seen client from ids) history → IsPiece log.line from ids
