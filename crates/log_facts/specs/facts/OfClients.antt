use Rattle.std.specs.Prelude.{◌≡◌, ◌<◌, ◌≤◌, ◌⊎◌, ℕ, ◌+◌, List, [], ◌∷◌}
use Rattle.list_facts.specs.Lists.{In, Each}
use Rattle.rec_id.specs.Identity.{Identity}
use Rattle.rec_id.specs.declared.event.Event.{Event}
use Rattle.rec_id.specs.declared.event.Event.TheVariants.{Invoke}
use Rattle.view_config.specs.Limits.{window_of}
use Rattle.view_config.specs.Shape.{Dimensions}
use Rattle.lazy_rules.specs.ClientRules.{homes_of}
use Rattle.lazy_rules.specs.ClientState.{ClientState, OpenAppend, id_of, lowest}
use Rattle.lazy_rules.specs.SeqState.{SeqState}
use Rattle.log_facts.specs.Ghosts.{Views, Log}
use Rattle.log_facts.specs.Past.{HasEnded}
use Rattle.log_facts.specs.Says.{AckSays, DataAckSays, IsReign}

-- Of a client's appends: its numbers below the next are those that it has begun; each of them is open or has ended, and
-- the lowest open one is less than a window below the next.

-- the numbers rise, from this one on
abbrev pub Rises : ℕ → List OpenAppend → Type 0
Rises n [] = Unit {0}
Rises n (append ∷ others) = (n ≤ append.number) × Rises (append.number + 1) others

-- an open append began with its bytes, and hasn't ended
pub record OpenFacts (history : List Event) (k : ClientState) (append : OpenAppend) : Type 0 where
  pub below : append.number < k.next
  pub begun : In (Invoke (id_of k append.number) append.bytes) history
  pub not_ended : ¬ HasEnded history (id_of k append.number)

-- an open append has this number
pub record IsOpen (k : ClientState) (n : ℕ) : Type 0 where
  pub append : OpenAppend
  pub among : In append k.unfinished
  pub number_is : append.number ≡ n

pub record ClientFacts (shape : Dimensions) (v : Views) (history : List Event) (c : ℕ) (k : ClientState) : Type 0 where
  pub config : IsReign v k.config
  pub next : 1 ≤ k.next
  pub few : k.next ≤ lowest k.next k.unfinished + window_of shape.edition
  pub rising : Rises 1 k.unfinished
  pub opened : Each (OpenFacts history k) k.unfinished
  pub begun : (id : Identity) (bytes : List ℕ) → id.client ≡ c → In (Invoke id bytes) history → id.number < k.next
  pub ended : (n : ℕ) → 1 ≤ n → n < k.next → IsOpen k n ⊎ HasEnded history (id_of k n)

-- who is noted for an append said so: a member of the client's view that it has the record, a replica of its shard that it
-- has the data
pub record AckNoted (v : Views) (log : Log) (seqs : ℕ → SeqState) (k : ClientState) (id : Identity) (node : ℕ) : Type 0 where
  pub member : In node k.config.seq → AckSays v log.line (seqs node) node k.config.view id
  pub home : In node (homes_of k id) → DataAckSays log.given node k.config.view id

abbrev pub ClientNotes : Views → Log → (ℕ → SeqState) → ClientState → Type 0
ClientNotes v log seqs k = Each (λ (append : OpenAppend). Each (AckNoted v log seqs k (id_of k append.number)) append.acked) k.unfinished
