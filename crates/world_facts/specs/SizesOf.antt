use Rattle.lazy_rules.specs.ReaderState.{Stage, Idle, Fetching, Probing, Trimming, Fetch, Force, Trimmer, ReaderState}
use Rattle.lazy_rules.specs.Flight.{Batch, Probe}
use Rattle.lazy_msgs.specs.declared.input.Input.{Input}
use Rattle.lazy_msgs.specs.declared.input.Input.TheVariants.{Ask as AskInput}
use Rattle.rec_id.specs.declared.event.Ask.{Ask}
use Rattle.rec_id.specs.declared.event.Ask.TheVariants.{Range, Tail}
use Rattle.lazy_msgs.specs.FrameLimits.{IsWord, IsCounted, BytesFit, IsTwo}
use Rattle.lazy_msgs.specs.declared.limits.TheConstants.{BATCH_LIMIT, PENDING_LIMIT}
use Rattle.lazy_rules.specs.declared.limits.TheConstants.{POSITION_LIMIT, FLIGHT_LIMIT}
use Rattle.rec_id.specs.declared.limits.TheConstants.{READ_LIMIT}
use Rattle.world_facts.specs.Sizes.{line_limit, IsOwn, IsPending, IsCell, IsWindow, Sized}
use Rattle.lazy_rules.specs.ClientState.{ClientState, OpenAppend}
use Rattle.lazy_rules.specs.ControlState.{ControlState, Flushing, Phase, Running, Sealing, Taken}
use Rattle.view_config.specs.Shape.{Dimensions}
use Rattle.list_facts.specs.Lists.{Each}
use Rattle.lazy_rules.specs.ShardState.{FlushJob, PlaceJob, ShardState}
use Rattle.rec_id.specs.Identity.{Identity}
use Rattle.lazy_rules.specs.SeqState.{SeqState}
use Rattle.lazy_rules.specs.Store.{Store}
use Rattle.rec_id.specs.History.{asked_from, asked_to}
use Rattle.lazy_rules.specs.SeqRules.{is_leader}
use Rattle.std.specs.Prelude.{◌≡◌, ◌+◌, ◌≤◌, ◌∷◌, ℕ, length, List, Bool, Some, true, Option, None, [], slice_get}
use Rattle.lazy_rules.specs.WorldState.{WorldState}

-- The sizes of what each node has, in a world that is asked with numbers of 32 bits.

-- a read is asked with numbers of 32 bits
abbrev pub IsAskOfWords : Ask → Type 0
IsAskOfWords (Range from to) = IsWord from × IsWord to
IsAskOfWords (Tail from) = IsWord from

abbrev pub IsOfWords : Input → Type 0
IsOfWords (AskInput ask) = IsAskOfWords ask
IsOfWords _ = Unit {0}

-- an append that isn't finished
pub record IsUnfinished (shape : Dimensions) (append : OpenAppend) : Type 0 where
  pub least : 1 ≤ append.number
  pub word : IsWord append.number
  pub bytes : BytesFit shape.edition append.bytes

pub record ClientSized (shape : Dimensions) (s : ClientState) : Type 0 where
  pub view : IsWord s.config.view
  pub least : 1 ≤ s.next
  pub word : IsWord s.next
  pub unfinished : Each (IsUnfinished shape) s.unfinished

-- what a read asks for
pub record IsWanted (ask : Ask) : Type 0 where
  pub words : IsAskOfWords ask
  pub few : asked_to ask ≤ asked_from ask + READ_LIMIT

pub record IsFetch (fetch : Fetch) : Type 0 where
  pub number : IsCounted fetch.number
  pub ask : IsWanted fetch.ask
  pub end : IsWord fetch.end
  pub few : fetch.end ≤ asked_from fetch.ask + READ_LIMIT
  pub tail : (tail : ℕ) → fetch.tail ≡ Some tail → tail ≤ line_limit

pub record IsForce (force : Force) : Type 0 where
  pub number : IsCounted force.number
  pub ask : IsWanted force.ask
  pub tail : (tail : ℕ) → force.tail ≡ Some tail → tail ≤ line_limit

pub record IsTrimmer (shape : Dimensions) (trimmer : Trimmer) : Type 0 where
  pub number : IsCounted trimmer.number
  pub floor : IsWord trimmer.floor
  pub two : IsTwo shape.edition

abbrev pub IsStage : Dimensions → Stage → Type 0
IsStage shape Idle = Unit {0}
IsStage shape (Fetching fetch) = IsFetch fetch
IsStage shape (Probing force) = IsForce force
IsStage shape (Trimming trimmer) = IsTrimmer shape trimmer

pub record ReaderSized (shape : Dimensions) (r : ReaderState) : Type 0 where
  pub view : IsWord r.config.view
  pub count : IsWord r.count
  pub reach : IsWord r.reach
  pub stage : IsStage shape r.stage

-- what the controller took
pub record IsTaken (shape : Dimensions) (taken : Taken) : Type 0 where
  pub view : IsWord taken.config.view
  pub few : length taken.items ≤ PENDING_LIMIT
  pub end : taken.from + length taken.items ≤ line_limit
  pub items : Each (IsPending shape) taken.items
  pub window : IsWindow shape taken.window

abbrev pub IsPhase : Dimensions → Phase → Type 0
IsPhase shape (Running reign) = IsWord reign.config.view
IsPhase shape (Sealing change) = IsWord change.old.view × IsWord change.coming.view
IsPhase shape (Flushing taken) = IsTaken shape taken

pub record ControlSized (shape : Dimensions) (k : ControlState) : Type 0 where
  pub base : k.base ≤ line_limit
  pub window : IsWindow shape k.window
  pub phase : IsPhase shape k.phase

-- batches on their way, one behind the other from this position on, up to this one at most
abbrev pub AreFlying : ℕ → ℕ → List Batch → Type 0
AreFlying from limit [] = Unit {0}
AreFlying from limit (batch ∷ others) =
    (batch.from ≡ from) × (1 ≤ batch.count) × (batch.count ≤ BATCH_LIMIT) × (from + batch.count ≤ limit) × AreFlying (from + batch.count) limit others

-- a read that waits
pub record IsWaiting (probe : Probe) : Type 0 where
  pub read : IsCounted probe.read
  pub target : probe.target ≤ line_limit

-- what a leader has beside
pub record LeaderSized (s : SeqState) : Type 0 where
  pub flight : AreFlying s.bound (s.bound + length s.pending) s.flight
  pub few : length s.flight ≤ FLIGHT_LIMIT
  pub room : 1 ≤ length s.pending → s.bound + length s.pending ≤ POSITION_LIMIT

pub record SeqSized (shape : Dimensions) (s : SeqState) : Type 0 where
  pub view : IsWord s.view
  pub few : length s.pending ≤ PENDING_LIMIT
  pub bound : s.bound ≤ line_limit
  pub room : 1 ≤ length s.pending → s.bound ≤ POSITION_LIMIT
  pub pending : Each (IsPending shape) s.pending
  pub window : IsWindow shape s.window
  pub probes : Each IsWaiting s.probes
  pub leads : is_leader s ≡ true → LeaderSized s

-- data that has no place yet
pub record IsHeld (shape : Dimensions) (held : Identity × List ℕ) : Type 0 where
  pub id : IsOwn shape held.0
  pub bytes : BytesFit shape.edition held.1

pub record StoreSized (shape : Dimensions) (store : Store) : Type 0 where
  pub order : Each (IsCell shape) store.order
  pub held : Each (IsHeld shape) store.held
  pub long : length store.order ≤ line_limit
  pub stable : store.stable ≤ length store.order
  pub floor : store.floor ≤ store.stable
  pub two : 1 ≤ store.floor → IsTwo shape.edition

-- a batch that is being placed, in an order of this length
pub record IsJob (long : ℕ) (job : PlaceJob) : Type 0 where
  pub least : job.from ≤ job.end
  pub most : job.end ≤ job.from + BATCH_LIMIT
  pub within : job.end ≤ long

-- a primary that is at a flush places no batch, so the order stays as long as the flush made it
pub record IsFlush (primary : Bool) (long : ℕ) (job : FlushJob) : Type 0 where
  pub leads : primary ≡ true
  pub from : job.from ≤ long
  pub few : long ≤ job.from + PENDING_LIMIT

abbrev pub IsFlushIn : Bool → ℕ → Option FlushJob → Type 0
IsFlushIn primary long None = Unit {0}
IsFlushIn primary long (Some job) = IsFlush primary long job

pub record ShardSized (shape : Dimensions) (s : ShardState) : Type 0 where
  pub view : IsCounted s.view
  pub store : StoreSized shape s.store
  pub jobs : Each (IsJob (length s.store.order)) s.jobs
  pub flush : IsFlushIn s.primary (length s.store.order) s.flush

-- everything in a world has its sizes
pub record HasSizes (shape : Dimensions) (w : WorldState) : Type 0 where
  pub clients : (c : ℕ) (s : ClientState) → slice_get w.clients c ≡ Some s → ClientSized shape s
  pub readers : (c : ℕ) (r : ReaderState) → slice_get w.readers c ≡ Some r → ReaderSized shape r
  pub control : ControlSized shape w.control
  pub seqs : (i : ℕ) (s : SeqState) → slice_get w.seqs i ≡ Some s → SeqSized shape s
  pub shards : (k : ℕ) (s : ShardState) → slice_get w.shards k ≡ Some s → ShardSized shape s
  pub sent : Each (λ e. Sized shape e.msg) w.sent
