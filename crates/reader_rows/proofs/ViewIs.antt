-- ViewIs at a reader: it goes on in a later view.
use Rattle.std.proofs.Common.{◌≡◌, ℕ, ◌≤◌, not, refl, sym, subst}
use Rattle.std.specs.Prelude.{filter, nat_lt, if◌then◌else◌}
use Rattle.list_facts.specs.Lists.{put}
use Rattle.list_facts.proofs.Cases.{either}
use Rattle.view_config.specs.Shape.{Dimensions}
use Rattle.view_config.specs.declared.config.Config.{Config}
use Rattle.lazy_rules.specs.ReaderRules.{ends_trim, fetch_first, goes_on, is_trim_complete, lacks_part, on_reader_view_is, probes_all, trim_sends}
use Rattle.lazy_rules.specs.ReaderState.{Fetching, Idle, Probing, ReaderState, Stage, Trimming}
use Rattle.lazy_rules.specs.Roles.{first_of, replicas_of}
use Rattle.lazy_rules.specs.Rows.{each_numbered, has_node, sends_all, stays}
use Rattle.log_facts.specs.Ghosts.{Ghost}
use Rattle.log_facts.specs.Good.{GoodReader, Moment}
use Rattle.log_facts.specs.Parts.{Parts}
use Rattle.log_facts.specs.Says.{IsReign}
use Rattle.log_facts.specs.facts.OfReads.{FetchNotes, IsReading, IsTrimming, ReaderFacts, StageFacts, StageNotes, TrimNotes}
use Rattle.reader_rows.proofs.Asking.{fetches_said_if, numbered_said, trims_said}
use Rattle.reader_rows.proofs.Deciding.{probes_good}
use Rattle.reader_rows.proofs.EndingTrims.{ends_trim_good}
use Rattle.reader_rows.proofs.Stepping.{keeps_good, stays_good}

module _ (shape : Dimensions) (g : Ghost) (a : Parts) (c : ℕ) (moment : Moment shape g a) (config : Config) (reign : IsReign g.views config) where
  abbrev r : ReaderState
  r = a.readers c

  abbrev next : ReaderState
  next = record r { config = config }

  facts : ReaderFacts g.views a.history c next
  facts = let f = moment.agreed.clients.reads c in record { config = reign; reads = f.reads; trims = f.trims; stage = f.stage }

  reach : r.reach ≤ g.log.low
  reach = (moment.agreed.clients.reads_noted c).reach

  stage_facts : (stage : Stage) → r.stage ≡ stage → StageFacts a.history c stage
  stage_facts stage is = subst (StageFacts a.history c) is (moment.agreed.clients.reads c).stage

  stage_notes : (stage : Stage) → r.stage ≡ stage → StageNotes shape g.views g.log a.history a.seqs a.shards c r.config.view stage
  stage_notes stage is = subst (StageNotes shape g.views g.log a.history a.seqs a.shards c r.config.view) is (moment.agreed.clients.reads_noted c).stage

  by_stage : (stage : Stage) → r.stage ≡ stage → GoodReader shape g a c (elim stage [
    | Idle ↦ stays next
    | Fetching fetch ↦ sends_all next (each_numbered (fetch_first fetch) 0 next.config.shards)
    | Probing force ↦ probes_all next force.number force.ask
    | Trimming trimmer ↦ if is_trim_complete next trimmer then ends_trim next trimmer else sends_all next (trim_sends next trimmer)
  ])
  by_stage Idle is = keeps_good shape g a c moment (stays next) refl (record {
    facts = facts;
    notes = record { reach = reach; stage = subst (StageNotes shape g.views g.log a.history a.seqs a.shards c config.view) (sym is) tt };
  }) tt
  by_stage (Fetching fetch) is =
      let reading : IsReading a.history c fetch.number fetch.ask = stage_facts (Fetching fetch) is in
      let notes : FetchNotes shape g.views g.log a.history a.shards c fetch = stage_notes (Fetching fetch) is in
      keeps_good shape g a c moment (sends_all next (each_numbered (fetch_first fetch) 0 config.shards)) refl (record {
        facts = facts;
        notes = record { reach = reach; stage = subst (StageNotes shape g.views g.log a.history a.seqs a.shards c config.view) (sym is) notes };
      }) (numbered_said shape g (record a { readers = put a.readers c next }) c (fetch_first fetch) 0 config.shards
      (λ shard nodes. fetches_said_if shape g (record a { readers = put a.readers c next }) c fetch.number fetch.ask reading.begun (lacks_part fetch shard) fetch.end (first_of nodes)))
  by_stage (Probing force) is = probes_good shape g a c moment next (moment.formed.readers c).numbered (moment.formed.readers c).shaped facts reach force.number force.ask (stage_facts (Probing force) is)
  by_stage (Trimming trimmer) is =
      let trimming : IsTrimming a.history c trimmer.number trimmer.floor = stage_facts (Trimming trimmer) is in
      let notes : TrimNotes g.log a.shards trimmer = stage_notes (Trimming trimmer) is in
      either (GoodReader shape g a c) (is_trim_complete next trimmer) (ends_trim next trimmer) (sends_all next (trim_sends next trimmer))
      (λ e. ends_trim_good shape g a c moment next (moment.formed.readers c).numbered facts reach trimmer trimming notes e)
      (λ e. keeps_good shape g a c moment (sends_all next (trim_sends next trimmer)) refl (record {
        facts = facts;
        notes = record { reach = reach; stage = subst (StageNotes shape g.views g.log a.history a.seqs a.shards c config.view) (sym is) notes };
      }) (trims_said shape g (record a { readers = put a.readers c next }) c trimmer.number trimmer.floor trimming.asked (filter (λ node. not (has_node trimmer.acked node)) (replicas_of config))))

  pub view_is_good : GoodReader shape g a c (on_reader_view_is r config)
  view_is_good = either (GoodReader shape g a c) (nat_lt r.config.view config.view) (goes_on next) (stays r) (λ e. by_stage r.stage refl) (λ e. stays_good shape g a c moment)
