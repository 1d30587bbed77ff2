use Rattle.std.specs.Prelude.{◌≤◌, ℕ, List}
use Rattle.list_facts.specs.Lists.{Each}
use Rattle.rec_id.specs.Identity.{Identity}
use Rattle.rec_id.specs.declared.event.Event.{Event}
use Rattle.view_config.specs.Shape.{Dimensions}
use Rattle.lazy_msgs.specs.declared.msg.Envelope.{Envelope}
use Rattle.lazy_rules.specs.ShardState.{ShardState}
use Rattle.lazy_rules.specs.WorldState.{WorldState}
use Rattle.log_facts.specs.Ghosts.{Ghost, Views, Log}
use Rattle.log_facts.specs.Parts.{Parts, parts_of}
use Rattle.log_facts.specs.Said.{Said}
use Rattle.log_facts.specs.facts.OfClients.{ClientFacts, ClientNotes}
use Rattle.log_facts.specs.facts.OfData.{AmongGiven, AwaitedFacts, DataFacts, ToldOfData}
use Rattle.log_facts.specs.facts.OfHistory.{HistoryFacts}
use Rattle.log_facts.specs.facts.OfLine.{LineFacts}
use Rattle.log_facts.specs.facts.OfReads.{ReaderFacts, ReaderNotes, ToldOfReads}
use Rattle.log_facts.specs.facts.OfSeqs.{AmongSeqs, SeqFacts}
use Rattle.log_facts.specs.facts.OfShards.{AmongShards, FinalFacts, JobFacts, OrderFacts, RankFacts, StoreFacts}
use Rattle.log_facts.specs.facts.OfViews.{ControlNotes, ViewFacts}

-- All that the states of a world's nodes say of each other. Facts stand together that read the same: a step passes on
-- those of which it touches nothing.

-- of shard replicas and their views; a number that no replica has stands for none of them
pub record ShardsAgree (shape : Dimensions) (v : Views) (shards : ℕ → ShardState) : Type 0 where
  pub stores : (d : ℕ) → StoreFacts shape d (shards d).store
  pub ranks : (d : ℕ) → 1 ≤ (shards d).view → RankFacts v d (shards d)
  pub jobs : (d : ℕ) → 1 ≤ (shards d).view → JobFacts v (shards d)
  pub awaited : (d : ℕ) → AwaitedFacts v (shards d)

-- and of what they have of the line
pub record PlacesAgree (shape : Dimensions) (v : Views) (line : List Identity) (low high : ℕ) (shards : ℕ → ShardState) : Type 0 where
  pub orders : (d : ℕ) → 1 ≤ (shards d).view → OrderFacts v line (shards d)
  pub finals : (d : ℕ) → 1 ≤ (shards d).view → FinalFacts v low high (shards d)
  pub among : AmongShards shape v high shards

-- of appends and reads: what clients have begun, and what they note
pub record ClientsAgree (shape : Dimensions) (v : Views) (log : Log) (a : Parts) : Type 0 where
  pub appends : (c : ℕ) → ClientFacts shape v a.history c (a.clients c)
  pub appends_noted : (c : ℕ) → ClientNotes v log a.seqs (a.clients c)
  pub reads : (c : ℕ) → ReaderFacts v a.history c (a.readers c)
  pub reads_noted : (c : ℕ) → ReaderNotes shape v log a.history a.seqs a.shards c (a.readers c)

-- of what clients were told
pub record ToldFacts (shape : Dimensions) (v : Views) (log : Log) (history : List Event) (shards : ℕ → ShardState) : Type 0 where
  pub of_data : ToldOfData shape v log history shards
  pub of_reads : ToldOfReads shape v log history shards

pub record Agreed (shape : Dimensions) (g : Ghost) (a : Parts) : Type 0 where
  pub views : ViewFacts shape g.views a.control
  pub history : HistoryFacts shape a.history
  pub line : LineFacts shape g.views g.log a.history a.control.phase a.seqs a.shards
  pub seqs : (node : ℕ) → SeqFacts shape g.views a.history node (a.seqs node)
  pub among_seqs : AmongSeqs g.views g.log a.history a.seqs a.shards
  pub shards : ShardsAgree shape g.views a.shards
  pub places : PlacesAgree shape g.views g.log.line g.log.low g.log.high a.shards
  pub bytes : (d : ℕ) → DataFacts a.history (a.shards d).store
  pub given : AmongGiven shape g.views g.log.given a.shards
  pub clients : ClientsAgree shape g.views g.log a
  pub flushed : ControlNotes g.views a.shards a.control.phase
  pub told : ToldFacts shape g.views g.log a.history a.shards

-- what holds of a world with this ghost
pub record Holds (shape : Dimensions) (g : Ghost) (w : WorldState) : Type 0 where
  pub agreed : Agreed shape g (parts_of w)
  pub sent : Each (λ (e : Envelope). Said shape g (parts_of w) e.from e.to e.msg) w.sent

-- what holds of every world
pub record Kept (shape : Dimensions) (w : WorldState) : Type 0 where
  pub ghost : Ghost
  pub holds : Holds shape ghost w
