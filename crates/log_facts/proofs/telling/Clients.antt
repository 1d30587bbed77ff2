-- What clients have and note stays, where the event that is told isn't theirs.
use Rattle.std.proofs.Common.{◌≡◌, ◌≢◌, ℕ, ◌<◌, ◌≤◌, List, [], ◌∷◌, ◌++◌, Some, ◌⊎◌, inl, inr, ap, ◌∙◌}
use Rattle.std.specs.Prelude.{take}
use Rattle.list_facts.specs.Lists.{In}
use Rattle.list_facts.proofs.Members.{each_weaker, in_left, in_more}
use Rattle.rec_id.specs.Identity.{Identity}
use Rattle.rec_id.specs.declared.entry.Entry.{Entry}
use Rattle.rec_id.specs.declared.event.Ask.{Ask}
use Rattle.rec_id.specs.declared.event.Event.{Event}
use Rattle.rec_id.specs.declared.event.Event.TheVariants.{Invoke, Begin, TrimAsk}
use Rattle.rec_id.specs.History.{asked_from, done_trim, ended_read, finished_id}
use Rattle.view_config.specs.Shape.{Dimensions}
use Rattle.lazy_rules.specs.ClientState.{ClientState, OpenAppend, id_of}
use Rattle.lazy_rules.specs.ReaderRules.{entry_at}
use Rattle.lazy_rules.specs.ReaderState.{Fetching, Idle, Probing, ReaderState, Stage, Trimming}
use Rattle.log_facts.specs.Agreed.{Agreed}
use Rattle.log_facts.specs.Ghosts.{Ghost}
use Rattle.log_facts.specs.Parts.{Parts}
use Rattle.log_facts.specs.Past.{HasEnded}
use Rattle.log_facts.specs.Says.{FetchSays, PartSays, TailSays}
use Rattle.log_facts.specs.facts.OfClients.{ClientFacts, IsOpen, OpenFacts}
use Rattle.log_facts.specs.facts.OfReads.{IsReading, IsTrimming, ReaderFacts, ReaderNotes, StageFacts, StageNotes}
use Rattle.log_facts.proofs.telling.Past.{covered_stays, covers_stays, ended_stays, read_stays}
use Rattle.log_facts.proofs.telling.Told.{Tells, fresh, tells_place}

-- the event is none of this client's appends, and none of its reads and trims
pub record IsNoAppendOf (event : Event) (c : ℕ) : Type 0 where
  pub invoked : (id : Identity) (bytes : List ℕ) → event ≡ Invoke id bytes → id.client ≢ c
  pub ended : (id : Identity) → finished_id event ≡ Some id → id.client ≢ c

pub record IsNoReadOf (event : Event) (c : ℕ) : Type 0 where
  pub begins : (read : ℕ) (ask : Ask) → event ≢ Begin c read ask
  pub asks : (read floor : ℕ) → event ≢ TrimAsk c read floor
  pub ends : (read : ℕ) → ended_read event ≢ Some (record { client = c; number = read })
  pub done : (read : ℕ) → done_trim event ≢ Some (record { client = c; number = read })

module _ (shape : Dimensions) (g : Ghost) (a : Parts) (event : Event) (agreed : Agreed shape g a) (tells : Tells shape g a event) where
  abbrev later : List Event
  later = a.history ++ event ∷ []

  -- the half that appends
  module _ (c : ℕ) (k : ClientState) (own : k.client ≡ c) (apart : IsNoAppendOf event c) where
    unended : (n : ℕ) → ¬ HasEnded a.history (id_of k n) → ¬ HasEnded later (id_of k n)
    unended n before e = by (in_more e.event event a.history e.stands)
      where
        by : In e.event a.history ⊎ (event ≡ e.event) → ⊥
        by (inl i) = before (record { event = e.event; ends = e.ends; stands = i })
        by (inr is) = apart.ended (id_of k n) (ap finished_id is ∙ e.ends) own

    opened_told : (append : OpenAppend) → OpenFacts a.history k append → OpenFacts later k append
    opened_told append f = record {
      below = f.below;
      begun = in_left (Invoke (id_of k append.number) append.bytes) a.history (event ∷ []) f.begun;
      not_ended = unended append.number f.not_ended;
    }

    open_or_ended : (n : ℕ) → IsOpen k n ⊎ HasEnded a.history (id_of k n) → IsOpen k n ⊎ HasEnded later (id_of k n)
    open_or_ended n (inl o) = inl o
    open_or_ended n (inr e) = inr (ended_stays a.history (event ∷ []) (id_of k n) e)

    pub client_told : ClientFacts shape g.views a.history c k → ClientFacts shape g.views later c k
    client_told f = record {
      config = f.config;
      next = f.next;
      few = f.few;
      rising = f.rising;
      opened = each_weaker (OpenFacts a.history k) (OpenFacts later k) opened_told k.unfinished f.opened;
      begun = λ id bytes own i. by id bytes own (in_more (Invoke id bytes) event a.history i);
      ended = λ n some below. open_or_ended n (f.ended n some below);
    }
      where
        by : (id : Identity) (bytes : List ℕ) → id.client ≡ c → In (Invoke id bytes) a.history ⊎ (event ≡ Invoke id bytes) → id.number < k.next
        by id bytes own (inl i) = f.begun id bytes own i
        by id bytes own (inr is) = absurd (apart.invoked id bytes is own)

  -- the half that reads
  reading_told : (c read : ℕ) (ask : Ask) → ended_read event ≢ Some (record { client = c; number = read }) → IsReading a.history c read ask → IsReading later c read ask
  reading_told c read ask apart f = record {
    begun = in_left (Begin c read ask) a.history (event ∷ []) f.begun;
    going = λ other i. by other (in_more other event a.history i);
  }
    where
      by : (other : Event) → In other a.history ⊎ (event ≡ other) → ended_read other ≢ Some (record { client = c; number = read })
      by other (inl i) = f.going other i
      by other (inr is) = λ ends. apart (ap ended_read is ∙ ends)

  trimming_told : (c read floor : ℕ) → done_trim event ≢ Some (record { client = c; number = read }) → IsTrimming a.history c read floor → IsTrimming later c read floor
  trimming_told c read floor apart f = record {
    asked = in_left (TrimAsk c read floor) a.history (event ∷ []) f.asked;
    going = λ other i. by other (in_more other event a.history i);
  }
    where
      by : (other : Event) → In other a.history ⊎ (event ≡ other) → done_trim other ≢ Some (record { client = c; number = read })
      by other (inl i) = f.going other i
      by other (inr is) = λ ends. apart (ap done_trim is ∙ ends)

  stage_told : (c : ℕ) (stage : Stage) → IsNoReadOf event c → StageFacts a.history c stage → StageFacts later c stage
  stage_told c Idle apart f = tt
  stage_told c (Fetching fetch) apart f = reading_told c fetch.number fetch.ask (apart.ends fetch.number) f
  stage_told c (Probing force) apart f = reading_told c force.number force.ask (apart.ends force.number) f
  stage_told c (Trimming trimmer) apart f = trimming_told c trimmer.number trimmer.floor (apart.done trimmer.number) f

  pub reader_told : (c : ℕ) (r : ReaderState) → IsNoReadOf event c → ReaderFacts g.views a.history c r → ReaderFacts g.views later c r
  reader_told c r apart f = record {
    config = f.config;
    reads = λ read ask i. by read ask (in_more (Begin c read ask) event a.history i);
    trims = λ read floor i. by_trim read floor (in_more (TrimAsk c read floor) event a.history i);
    stage = stage_told c r.stage apart f.stage;
  }
    where
      by : (read : ℕ) (ask : Ask) → In (Begin c read ask) a.history ⊎ (event ≡ Begin c read ask) → read ≤ r.count
      by read ask (inl i) = f.reads read ask i
      by read ask (inr is) = absurd (apart.begins read ask is)

      by_trim : (read floor : ℕ) → In (TrimAsk c read floor) a.history ⊎ (event ≡ TrimAsk c read floor) → read ≤ r.count
      by_trim read floor (inl i) = f.trims read floor i
      by_trim read floor (inr is) = absurd (apart.asks read floor is)

  -- and what it notes, whoever's event it is
  fetched_told : (client read from : ℕ) → FetchSays a.history client read from → FetchSays later client read from
  fetched_told client read from f = record { ask = f.ask; begun = in_left (Begin client read f.ask) a.history (event ∷ []) f.begun; is = f.is }

  pub part_told : (shard client read from end : ℕ) (entries : List (ℕ × Entry)) → PartSays shape g.views g.log a.history a.shards shard client read from end entries → PartSays shape g.views g.log later a.shards shard client read from end entries
  part_told shard client read from end entries f = record {
    fetched = fetched_told client read from f.fetched;
    below = f.below;
    told = λ place least most. tells_place shape g a event agreed tells shard place (entry_at entries place) (f.told place least most);
  }

  tail_told : (view client read tail : ℕ) → TailSays g.views g.log a.history a.seqs view client read tail → TailSays g.views g.log later a.seqs view client read tail
  tail_told view client read tail f = record {
    begun = read_stays a.history (event ∷ []) client read f.begun;
    stable = f.stable;
    covers = covered_stays a.history (event ∷ []) (fresh shape g a event agreed tells) g.views g.log.probed a.seqs view client read (take tail g.log.line) tail f.begun f.covers;
  }

  stage_noted : (c view : ℕ) (stage : Stage) → StageFacts a.history c stage → StageNotes shape g.views g.log a.history a.seqs a.shards c view stage → StageNotes shape g.views g.log later a.seqs a.shards c view stage
  stage_noted c view Idle f n = tt
  stage_noted c view (Fetching fetch) f n = record {
    wants = record {
      forward = n.wants.forward;
      unforced = n.wants.unforced;
      whole = n.wants.whole;
      forced = n.wants.forced;
      below = n.wants.below;
      covers = λ tail is. covers_stays a.history (event ∷ []) (fresh shape g a event agreed tells) c fetch.number (take tail g.log.line) tail (record { ask = fetch.ask; stands = f.begun }) (n.wants.covers tail is);
    };
    count = n.count;
    parts = λ shard entries at. part_told shard c fetch.number (asked_from fetch.ask) fetch.end entries (n.parts shard entries at);
  }
  stage_noted c view (Probing force) f n = record { acked = n.acked; tail = λ tail is. tail_told view c force.number tail (n.tail tail is) }
  stage_noted c view (Trimming trimmer) f n = n

  pub notes_told : (c : ℕ) (r : ReaderState) → ReaderFacts g.views a.history c r → ReaderNotes shape g.views g.log a.history a.seqs a.shards c r → ReaderNotes shape g.views g.log later a.seqs a.shards c r
  notes_told c r f n = record { reach = n.reach; stage = stage_noted c r.config.view r.stage f.stage n.stage }
