use Rattle.std.specs.Prelude.{◌≡◌, ◌<◌, ◌≤◌, ◌⊎◌, ℕ, List, ◌++◌, take, Option, None, Some, true}
use Rattle.list_facts.specs.Lists.{In}
use Rattle.rec_id.specs.Identity.{Identity, shard_of}
use Rattle.rec_id.specs.declared.entry.Entry.{Entry}
use Rattle.rec_id.specs.declared.event.Event.{Event}
use Rattle.view_config.specs.Shape.{Dimensions}
use Rattle.lazy_rules.specs.Ids.{ids_of}
use Rattle.lazy_rules.specs.Pushing.{length_of}
use Rattle.lazy_rules.specs.Roles.{replicas_at}
use Rattle.lazy_rules.specs.SeqState.{SeqState}
use Rattle.lazy_rules.specs.ShardRules.{first_unplaced}
use Rattle.lazy_rules.specs.ShardState.{ShardState}
use Rattle.log_facts.specs.Ghosts.{Views, Given, Probed, IsStarted}
use Rattle.log_facts.specs.Parts.{home_of}
use Rattle.log_facts.specs.Past.{Covers, ToldAs}
use Rattle.log_facts.specs.Signs.{Sign, Away, NoneOpen, sign_at}

-- What is final, who has it, and who can't change it any more.

-- the identities of a replica's line: those that it knows to be bound, and those that wait
abbrev pub line_ids : List Identity → SeqState → List Identity
line_ids line s = take s.bound line ++ ids_of s.pending

-- a place of a shard replica of this view stays what it is: as long as the view lives, or for good once it is closed
abbrev pub IsFinal : Views → ℕ → ℕ → ℕ → Type 0
IsFinal v high view place = ((view ≡ v.cur) × (place < high)) ⊎ ((view < v.cur) × (place < v.cl view))

-- a replica has the order up to here, no cell of it is open, and it isn't being placed
pub record HasSettled (s : ShardState) (upto : ℕ) : Type 0 where
  pub has : upto ≤ length_of s
  pub whole : NoneOpen s upto
  pub placed : upto ≤ first_unplaced s s.jobs

-- that, as long as it is in this view, which it has taken
pub record IsSettled (s : ShardState) (view upto : ℕ) : Type 0 where
  pub own : view ≤ s.view
  pub settled : s.view ≡ view → HasSettled s upto

-- all replicas of a shard have, in the configuration of this view
abbrev pub AllSettledIn : Views → (ℕ → ShardState) → ℕ → ℕ → ℕ → Type 0
AllSettledIn v shards view shard upto = (d : ℕ) → In d (replicas_at (v.cf view) shard) → IsSettled (shards d) view upto

-- a replica sends nothing more in this view, but that it is sealed: it went on, or is sealed, or never takes it
abbrev pub IsShut : SeqState → ℕ → Type 0
IsShut s view = (view < s.view) ⊎ (((s.view ≡ view) × (s.sealed ≡ true)) ⊎ ((s.view < view) × (view ≤ s.barred)))

-- some member of the view is shut for it and didn't acknowledge the read's probe, so no answer of the read can be
-- forced in it
pub record IsBarred (v : Views) (probed : List Probed) (seqs : ℕ → SeqState) (view client read : ℕ) : Type 0 where
  pub node : ℕ
  pub member : In node (v.cf view).seq
  pub shut : IsShut (seqs node) view
  pub silent : ¬ In (record { node = node; view = view; client = client; read = read }) probed

-- the read is barred, or these identities, of which so many are bound, have all that it must see
abbrev pub BarredOrCovered : Views → List Probed → List Event → (ℕ → SeqState) → ℕ → ℕ → ℕ → List Identity → ℕ → Type 0
BarredOrCovered v probed history seqs view client read ids bound =
    IsBarred v probed seqs view client read ⊎ Covers history client read ids bound

-- what is told of a place with this sign: nothing where the data belongs to another shard
abbrev pub TellsSign : List Event → Sign → Option Entry → Type 0
TellsSign history sign None = sign.sort ≡ Away
TellsSign history sign (Some entry) = ToldAs history sign.id sign.sort entry

-- what is told of a place is what each replica of the shard has there where it is final
abbrev pub TellsPlace : Views → ℕ → List Event → (ℕ → ShardState) → ℕ → ℕ → Option Entry → Type 0
TellsPlace v high history shards shard place told =
    (d : ℕ) (sign : Sign) → home_of d ≡ shard → 1 ≤ (shards d).view → IsFinal v high (shards d).view place → sign_at (shards d) place ≡ Some sign →
    TellsSign history sign told

-- each replica of the record's shard acknowledged its data in one started view
pub record GivenByAll (shape : Dimensions) (v : Views) (given : List Given) (id : Identity) : Type 0 where
  pub view : ℕ
  pub started : IsStarted v view
  pub by_all : (d : ℕ) → In d (replicas_at (v.cf view) (shard_of id shape.shards)) → In (record { node = d; view = view; id = id }) given
