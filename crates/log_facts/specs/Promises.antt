use Rattle.std.specs.Prelude.{◌≡◌, ◌<◌, ◌≤◌, ℕ, List, map, true, ◌==◌, if◌then◌else◌, Some, Ok, slice_get}
use Rattle.std.specs.Option.{option_map_or}
use Rattle.list_facts.specs.Lists.{In}
use Rattle.rec_id.specs.Identity.{Identity, shard_of}
use Rattle.rec_id.specs.Line.{named_id}
use Rattle.rec_id.specs.declared.entry.Entry.{Entry}
use Rattle.rec_id.specs.declared.event.Event.TheVariants.{Acked, TrimDone}
use Rattle.rec_id.specs.declared.item.Body.{Body}
use Rattle.rec_id.specs.declared.item.Body.TheVariants.{Elsewhere, Kept, Noop, Open, Gone}
use Rattle.rec_id.specs.declared.item.Cell.{Cell}
use Rattle.rec_id.specs.declared.marks.Marks.{Marks}
use Rattle.view_config.specs.declared.config.Config.{Config}
use Rattle.view_config.specs.declared.edition.Mode.TheVariants.{St}
use Rattle.lazy_msgs.specs.declared.msg.Envelope.{Envelope}
use Rattle.lazy_msgs.specs.declared.msg.Msg.{Msg}
use Rattle.lazy_msgs.specs.declared.msg.Msg.TheVariants.{Rejected, Stable, TailReady, Claim}
use Rattle.lazy_rules.specs.ControlState.{ControlState, Flushing, latest_started, newest}
use Rattle.lazy_rules.specs.Holders.{holders, holding, seq_numbered}
use Rattle.lazy_rules.specs.Lines.{line_told}
use Rattle.lazy_rules.specs.Pushing.{length_of}
use Rattle.lazy_rules.specs.Roles.{replicas_at}
use Rattle.lazy_rules.specs.SeqState.{SeqState}
use Rattle.lazy_rules.specs.ShardState.{ShardState}
use Rattle.lazy_rules.specs.Store.{has}
use Rattle.lazy_rules.specs.Windows.{has_seen}
use Rattle.lazy_rules.specs.WorldState.{WorldState}
use Rattle.log_facts.specs.Finality.{IsShut}
use Rattle.log_facts.specs.Ghosts.{Views, IsStarted}
use Rattle.log_facts.specs.Parts.{parts_of, home_of}
use Rattle.log_facts.specs.Past.{HasEnded}
use Rattle.log_facts.specs.Signs.{NoneOpen, ordered_at}

-- What is promised of every world across changes of view, named as users know it: of holders, of shard replicas, and
-- of three messages.

-- ---- what replicas agree on

-- two bodies agree: they are the same, but that one replica may have given up what the other keeps
abbrev pub BodiesAgree : Body → Body → Type 0
BodiesAgree Elsewhere Elsewhere = Unit {0}
BodiesAgree (Kept bytes) (Kept others) = bytes ≡ others
BodiesAgree (Kept bytes) Gone = Unit {0}
BodiesAgree Gone (Kept bytes) = Unit {0}
BodiesAgree Gone Gone = Unit {0}
BodiesAgree Noop Noop = Unit {0}
BodiesAgree Open Open = Unit {0}
BodiesAgree one other = ⊥

-- the state of a shard replica, by its number
abbrev pub replica : WorldState → ℕ → ShardState
replica w d = (parts_of w).shards d

-- two replicas have bodies that agree at a place
abbrev pub AgreeAt : WorldState → ℕ → ℕ → ℕ → Type 0
AgreeAt w d e place =
    (one other : Cell) → slice_get (replica w d).store.order place ≡ Some one → slice_get (replica w e).store.order place ≡ Some other →
    BodiesAgree one.body other.body

-- the replica is one of the newest configuration's, of this shard
abbrev pub IsListed : WorldState → ℕ → ℕ → Type 0
IsListed w shard d = In d (replicas_at (newest w.control) shard)

-- ---- windows

-- the window of a holder: its own once it took the latest started view, else that view's, and the taken one
abbrev pub shared_window : ControlState → List Marks
shared_window k = elim k.phase [ Flushing taken ↦ taken.window | _ ↦ k.window ]

abbrev pub member_window : List Marks → ℕ → SeqState → List Marks
member_window shared view seq = if seq.view == view then seq.window else shared

abbrev pub window_of_member : WorldState → ℕ → Config → List Marks
window_of_member w holder config =
    option_map_or (member_window (shared_window w.control) config.view) (seq_numbered w holder) (shared_window w.control)

abbrev pub holder_window : WorldState → ℕ → List Marks
holder_window w holder = option_map_or (window_of_member w holder) (latest_started w.control.phase) (shared_window w.control)

-- ---- Known: a holder's window sees what its line names and all that is finished, and no mark of it is of anything
-- else

pub record Known (w : WorldState) (holder : ℕ) (line : List Entry) : Type 0 where
  pub sees : (id : Identity) → In id (map named_id line) → has_seen (holder_window w holder) id ≡ true
  pub stands : (id : Identity) → id.client < w.shape.clients → 1 ≤ id.number → has_seen (holder_window w holder) id ≡ true → In id (map named_id line)
  pub finished : (id : Identity) → HasEnded w.history id → has_seen (holder_window w holder) id ≡ true

-- ---- Agreement: below a bound all replicas of the newest configuration have the same; below its own stable number
-- every replica has that, also one that was removed or crashed

pub record Agreement (w : WorldState) (bound : ℕ) : Type 0 where
  pub has : (shard d : ℕ) → IsListed w shard d → bound ≤ length_of (replica w d)
  pub same : (i d j e place : ℕ) → IsListed w i d → IsListed w j e → place < bound → ordered_at (replica w d) place ≡ ordered_at (replica w e) place
  pub bodies : (shard d e place : ℕ) → IsListed w shard d → IsListed w shard e → place < bound → AgreeAt w d e place
  pub whole : (shard d : ℕ) → IsListed w shard d → NoneOpen (replica w d) bound
  pub stable_same : (d j e place : ℕ) → 1 ≤ (replica w d).view → IsListed w j e → place < (replica w d).store.stable → ordered_at (replica w d) place ≡ ordered_at (replica w e) place
  pub stable_bodies : (d e place : ℕ) → 1 ≤ (replica w d).view → IsListed w (home_of d) e → place < (replica w d).store.stable → AgreeAt w d e place

-- what is gone lies below the floor, and that isn't above the stable number
pub record IsFloored (w : WorldState) (d : ℕ) : Type 0 where
  pub gone : (place : ℕ) (cell : Cell) → slice_get (replica w d).store.order place ≡ Some cell → cell.body ≡ Gone → place < (replica w d).store.floor
  pub within : (replica w d).store.floor ≤ (replica w d).store.stable

-- ---- Stable: no stable number, stored or sent, is above a holder's bound position

abbrev pub IsBelow : ℕ → Msg → Type 0
IsBelow bound (Stable view upto) = upto ≤ bound
IsBelow bound (TailReady view read tail) = tail ≤ bound
IsBelow bound (Claim stable) = stable ≤ bound
IsBelow bound _ = Unit {0}

pub record StableBelow (w : WorldState) (bound : ℕ) : Type 0 where
  pub stored : (d : ℕ) → 1 ≤ (replica w d).view → (replica w d).store.stable ≤ bound
  pub sent : (e : Envelope) → In e w.sent → IsBelow bound e.msg

-- ---- Data: what is acknowledged is at every replica of its shard, and no no-op of it is bound; what is rejected is a
-- no-op that is

-- a no-op of the record at a place of all replicas of its shard
abbrev pub IsNoop : WorldState → Identity → ℕ → Type 0
IsNoop w id place =
    (d : ℕ) → IsListed w (shard_of id w.shape.shards) d →
    slice_get (replica w d).store.order place ≡ Some (record { id = id; body = Noop })

abbrev pub IsRejection : WorldState → ℕ → Msg → Type 0
IsRejection w bound (Rejected id place) = (place < bound) × IsNoop w id place
IsRejection w bound _ = Unit {0}

pub record DataKept (w : WorldState) (bound : ℕ) : Type 0 where
  pub there : (id : Identity) (d : ℕ) → w.shape.mode ≡ St → In (Acked id) w.history → IsListed w (shard_of id w.shape.shards) d → has (replica w d).store id ≡ true
  pub no_noop : (id : Identity) (d place : ℕ) → w.shape.mode ≡ St → In (Acked id) w.history → IsListed w (shard_of id w.shape.shards) d → place < bound → ¬ (slice_get (replica w d).store.order place ≡ Some (record { id = id; body = Noop }))
  pub rejected : (e : Envelope) → In e w.sent → IsRejection w bound e.msg

-- ---- Sealed: each started view but the latest has a member that does nothing more in it

pub record Sealed (w : WorldState) (v : Views) : Type 0 where
  pub member : (view : ℕ) → IsStarted v view → view < v.lv → (node : ℕ) × In node (v.cf view).seq × IsShut ((parts_of w).seqs node) view

-- ---- Trimmed: what a trim that is done asked for is given up at every replica of the newest configuration

pub record Trimmed (w : WorldState) : Type 0 where
  pub floors : (client read floor shard d : ℕ) → In (TrimDone client read floor) w.history → IsListed w shard d → floor ≤ (replica w d).store.floor
  pub gone : (d place : ℕ) (bytes : List ℕ) (id : Identity) → place < (replica w d).store.floor → ¬ (slice_get (replica w d).store.order place ≡ Some (record { id = id; body = Kept bytes }))

-- ---- three facts on messages, while the sender is in the message's view

-- Placed: the sender and each backup have so much, and none of it is open
pub record PlacedFact (w : WorldState) (v : Views) (sender view upto : ℕ) : Type 0 where
  pub each : (d : ℕ) → In d (replicas_at (v.cf view) (home_of sender)) → (replica w d).view ≡ view → (upto ≤ length_of (replica w d)) × NoneOpen (replica w d) upto

-- Ordered: the sender knows so much to be bound
pub record OrderedFact (w : WorldState) (sender view upto : ℕ) : Type 0 where
  pub bound : ((parts_of w).seqs sender).view ≡ view → upto ≤ ((parts_of w).seqs sender).bound

-- Copied: the sender has so much. While the primary is in that view, too, they have the same there
pub record CopiedFact (w : WorldState) (sender view upto : ℕ) : Type 0 where
  pub has : (replica w sender).view ≡ view → upto ≤ length_of (replica w sender)
  pub same : (p place : ℕ) → 1 ≤ view → home_of p ≡ home_of sender → (replica w sender).view ≡ view → (replica w p).view ≡ view → (replica w p).primary ≡ true → place < upto → (ordered_at (replica w sender) place ≡ ordered_at (replica w p) place) × AgreeAt w sender p place

-- ---- all that speaks of no ghost

pub record HolderPromises (w : WorldState) (holder : ℕ) : Type 0 where
  pub agreement : Agreement w (holding w holder).bound
  pub stable : StableBelow w (holding w holder).bound
  pub kept : DataKept w (holding w holder).bound

pub record PromisesKept (w : WorldState) : Type 0 where
  pub known : (holder : ℕ) (line : List Entry) → In holder (holders w) → line_told w holder ≡ Ok line → Known w holder line
  pub holder : (holder : ℕ) → In holder (holders w) → HolderPromises w holder
  pub floored : (d : ℕ) → IsFloored w d
  pub trimmed : Trimmed w
