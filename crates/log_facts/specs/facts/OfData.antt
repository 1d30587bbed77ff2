use Rattle.std.specs.Prelude.{◌≡◌, ◌<◌, ◌≤◌, ◌⊎◌, ℕ, List, true, None, Some, slice_get}
use Rattle.list_facts.specs.Lists.{In, Each}
use Rattle.rec_id.specs.Identity.{Identity, shard_of}
use Rattle.rec_id.specs.declared.event.Event.{Event}
use Rattle.rec_id.specs.declared.event.Event.TheVariants.{Invoke, Acked, Rejected, TrimDone}
use Rattle.rec_id.specs.declared.item.Body.TheVariants.{Open}
use Rattle.rec_id.specs.declared.item.Cell.{Cell}
use Rattle.view_config.specs.declared.edition.Mode.TheVariants.{St}
use Rattle.view_config.specs.Shape.{Dimensions}
use Rattle.lazy_rules.specs.Roles.{is_first, replicas_at}
use Rattle.lazy_rules.specs.ShardState.{ShardState}
use Rattle.lazy_rules.specs.Store.{Store, has, held_bytes}
use Rattle.log_facts.specs.Finality.{GivenByAll}
use Rattle.log_facts.specs.Ghosts.{Views, Log, Given}
use Rattle.log_facts.specs.Handed.{CellBegun}
use Rattle.log_facts.specs.Parts.{home_of}
use Rattle.log_facts.specs.Past.{IsTrimAsked}
use Rattle.log_facts.specs.Says.{RejectedSays}
use Rattle.log_facts.specs.Signs.{Void, sign_at}

-- Of data: where it comes from, that what was acknowledged is there, and what was given up. In Erwin-st a replica
-- acknowledges data by itself; none of this reads the line or what is bound.

-- ---- what one replica has

-- each append that a store names began, with the bytes that are there; what was given up was asked for
pub record DataFacts (history : List Event) (store : Store) : Type 0 where
  pub cells : Each (CellBegun history) store.order
  pub held : Each (λ (one : Identity × List ℕ). In (Invoke one.0 one.1) history) store.held
  pub asked : 1 ≤ store.floor → IsTrimAsked history store.floor

-- in the current view what is awaited isn't here
abbrev pub AwaitedFacts : Views → ShardState → Type 0
AwaitedFacts v s = s.view ≡ v.cur → (place : ℕ) (cell : Cell) → slice_get s.store.order place ≡ Some cell → cell.body ≡ Open → held_bytes s.store.held cell.id ≡ None

-- ---- what was acknowledged

-- a no-op of the record stands at a place of the replica
abbrev pub IsVoidAt : ShardState → Identity → ℕ → Type 0
IsVoidAt s id place = sign_at s place ≡ Some (record { id = id; sort = Void })

-- a place of a replica of this view counts: what lies behind in a closed view is cut off, or never told
abbrev pub IsCounted : Views → ℕ → ℕ → Type 0
IsCounted v view place = (view ≡ v.cur) ⊎ ((view < v.cur) × (place < v.cl view))

-- who acknowledged data in a view has it from then on
pub record GivenFacts (shape : Dimensions) (shards : ℕ → ShardState) (one : Given) : Type 0 where
  pub apart : shape.mode ≡ St
  pub some : 1 ≤ one.view
  pub own : one.view ≤ (shards one.node).view
  pub has : has (shards one.node).store one.id ≡ true

-- where the first replica acknowledged it, no replica has a no-op of it but behind where the view was closed
abbrev pub FirstGiven : Dimensions → Views → (ℕ → ShardState) → Given → Type 0
FirstGiven shape v shards one =
    is_first (replicas_at (v.cf one.view) (shard_of one.id shape.shards)) one.node ≡ true →
    (d place : ℕ) → home_of d ≡ shard_of one.id shape.shards → one.view ≤ (shards d).view → IsVoidAt (shards d) one.id place →
    (one.view < v.cur) × (v.cl one.view ≤ place)

-- those of the view's replicas that went on acknowledged it
abbrev pub GivenBeyond : Dimensions → Views → List Given → (ℕ → ShardState) → ℕ → Identity → Type 0
GivenBeyond shape v given shards view id =
    (b : ℕ) → In b (replicas_at (v.cf view) (shard_of id shape.shards)) → view < (shards b).view → In (record { node = b; view = view; id = id }) given

-- then no replica that went on has a no-op of it at a place that counts, but below where the view was closed
abbrev pub OthersGiven : Dimensions → Views → List Given → (ℕ → ShardState) → ℕ → Identity → Type 0
OthersGiven shape v given shards view id =
    GivenBeyond shape v given shards view id →
    (d place : ℕ) → home_of d ≡ shard_of id shape.shards → view < (shards d).view → IsCounted v (shards d).view place → IsVoidAt (shards d) id place →
    place < v.cl view

pub record AmongGiven (shape : Dimensions) (v : Views) (given : List Given) (shards : ℕ → ShardState) : Type 0 where
  pub each : Each (GivenFacts shape shards) given
  pub first : (one : Given) → In one given → FirstGiven shape v shards one
  pub others : (view : ℕ) (id : Identity) → 1 ≤ view → OthersGiven shape v given shards view id

-- ---- what was told

-- a trim that was told to be done is done at every replica of the current view
abbrev pub TrimIsDone : Views → (ℕ → ShardState) → ℕ → Type 0
TrimIsDone v shards floor = (shard d : ℕ) → In d (replicas_at (v.cf v.cur) shard) → floor ≤ (shards d).store.floor

pub record ToldOfData (shape : Dimensions) (v : Views) (log : Log) (history : List Event) (shards : ℕ → ShardState) : Type 0 where
  pub acked : (id : Identity) → shape.mode ≡ St → In (Acked id) history → GivenByAll shape v log.given id
  pub rejected : (id : Identity) (place : ℕ) → In (Rejected id place) history → RejectedSays shape v log shards id place
  pub trimmed : (client read floor : ℕ) → In (TrimDone client read floor) history → TrimIsDone v shards floor
