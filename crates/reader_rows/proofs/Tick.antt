-- Tick at a reader: what isn't answered is sent again.
use Rattle.std.proofs.Common.{◌≡◌, ℕ, ◌+◌, ◌^◌, ◌++◌, not, refl, subst}
use Rattle.std.specs.Prelude.{filter, nat_lt}
use Rattle.std.specs.Option.{is_some}
use Rattle.list_facts.specs.Lists.{Each, put}
use Rattle.list_facts.proofs.Cases.{either}
use Rattle.list_facts.proofs.Members.{each_append}
use Rattle.view_config.specs.Shape.{Dimensions}
use Rattle.lazy_rules.specs.ReaderRules.{at_stage, awaits, fetch_in_turn, fetches_again, fetches_in_turn, in_turn, lacks_part, on_reader_tick, probes_again, reminds, trim_sends, with_turn}
use Rattle.lazy_rules.specs.ReaderState.{Fetch, Fetching, Idle, Probing, ReaderState, Stage, Trimming}
use Rattle.lazy_rules.specs.Roles.{first_of, replicas_of}
use Rattle.lazy_rules.specs.Rows.{each_numbered, has_node, sends_all, stays}
use Rattle.log_facts.specs.Ghosts.{Ghost}
use Rattle.log_facts.specs.Good.{GoodReader, Moment}
use Rattle.log_facts.specs.Parts.{Parts}
use Rattle.log_facts.specs.facts.OfReads.{FetchNotes, IsReading, IsTrimming, StageFacts, StageNotes}
use Rattle.reader_rows.proofs.Asking.{Says, fetches_said_if, numbered_said, probes_said, probes_said_if, trims_said}
use Rattle.reader_rows.proofs.Stepping.{keeps_good, stays_good, unchanged}

module _ (shape : Dimensions) (g : Ghost) (a : Parts) (c : ℕ) (moment : Moment shape g a) where
  abbrev r : ReaderState
  r = a.readers c

  abbrev same : Parts
  same = record a { readers = put a.readers c r }

  stage_facts : (stage : Stage) → r.stage ≡ stage → StageFacts a.history c stage
  stage_facts stage is = subst (StageFacts a.history c) is (moment.agreed.clients.reads c).stage

  module _ (fetch : Fetch) (is : r.stage ≡ Fetching fetch) where
    reading : IsReading a.history c fetch.number fetch.ask
    reading = stage_facts (Fetching fetch) is

    notes : FetchNotes shape g.views g.log a.history a.shards c fetch
    notes = subst (StageNotes shape g.views g.log a.history a.seqs a.shards c r.config.view) is (moment.agreed.clients.reads_noted c).stage

    abbrev turned : Fetch
    turned = with_turn fetch

    abbrev next : ReaderState
    next = at_stage r (Fetching turned)

    abbrev b : Parts
    b = record a { readers = put a.readers c next }

    said : Each (Says shape g b c) (each_numbered (fetch_in_turn turned) 0 r.config.shards ++ reminds r turned)
    said = each_append (Says shape g b c) (each_numbered (fetch_in_turn turned) 0 r.config.shards) (reminds r turned)
        (numbered_said shape g b c (fetch_in_turn turned) 0 r.config.shards (λ shard nodes. fetches_said_if shape g b c fetch.number fetch.ask reading.begun (lacks_part turned shard) fetch.end (in_turn turned.turn nodes)))
        (probes_said_if shape g b c fetch.number fetch.ask reading.begun (is_some fetch.tail) r.config.view (first_of r.config.seq))

    in_turn_good : GoodReader shape g a c (fetches_in_turn r turned)
    in_turn_good =
        let facts = moment.agreed.clients.reads c in
        keeps_good shape g a c moment (fetches_in_turn r turned) refl (record {
          facts = record { config = facts.config; reads = facts.reads; trims = facts.trims; stage = reading };
          notes = record {
            reach = (moment.agreed.clients.reads_noted c).reach;
            stage = record {
              wants = record {
                forward = notes.wants.forward;
                unforced = notes.wants.unforced;
                whole = notes.wants.whole;
                forced = notes.wants.forced;
                below = notes.wants.below;
                covers = notes.wants.covers;
              };
              count = notes.count;
              parts = notes.parts;
            };
          };
        }) said

    again_good : GoodReader shape g a c (fetches_again r fetch)
    again_good = either (GoodReader shape g a c) (nat_lt (fetch.turn + 1) (2 ^ 32)) (fetches_in_turn r turned) (stays r) (λ e. in_turn_good) (λ e. stays_good shape g a c moment)

  by_stage : (stage : Stage) → r.stage ≡ stage → GoodReader shape g a c (elim stage [
    | Idle ↦ stays r
    | Fetching fetch ↦ fetches_again r fetch
    | Probing force ↦ probes_again r force
    | Trimming trimmer ↦ sends_all r (trim_sends r trimmer)
  ])
  by_stage Idle is = stays_good shape g a c moment
  by_stage (Fetching fetch) is = again_good fetch is
  by_stage (Probing force) is =
      let reading : IsReading a.history c force.number force.ask = stage_facts (Probing force) is in
      keeps_good shape g a c moment (probes_again r force) refl (unchanged shape g a c moment) (probes_said shape g same c force.number force.ask reading.begun r.config.view (filter (awaits r force) r.config.seq))
  by_stage (Trimming trimmer) is =
      let trimming : IsTrimming a.history c trimmer.number trimmer.floor = stage_facts (Trimming trimmer) is in
      keeps_good shape g a c moment (sends_all r (trim_sends r trimmer)) refl (unchanged shape g a c moment) (trims_said shape g same c trimmer.number trimmer.floor trimming.asked (filter (λ node. not (has_node trimmer.acked node)) (replicas_of r.config)))

  pub tick_good : GoodReader shape g a c (on_reader_tick r)
  tick_good = by_stage r.stage refl
