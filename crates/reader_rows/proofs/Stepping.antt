-- A step of a client that reads and trims: what of it has to be shown, and that it is good then.
use Rattle.std.proofs.Common.{◌≡◌, ◌≢◌, ℕ, List, [], ◌∷◌, ◌++◌, refl, sym, subst, append-nil}
use Rattle.list_facts.specs.Lists.{Each, put}
use Rattle.list_facts.proofs.Puts.{put_cases}
use Rattle.rec_id.specs.declared.event.Event.{Event}
use Rattle.view_config.specs.Shape.{Dimensions}
use Rattle.lazy_msgs.specs.Step.{Row}
use Rattle.lazy_msgs.specs.declared.msg.Msg.{Msg}
use Rattle.lazy_rules.specs.ReaderState.{ReaderState}
use Rattle.lazy_rules.specs.Rows.{stays}
use Rattle.log_facts.specs.Agreed.{Agreed}
use Rattle.log_facts.specs.Ghosts.{Ghost}
use Rattle.log_facts.specs.Good.{Good, GoodReader, Moment}
use Rattle.log_facts.specs.Parts.{Parts, with_reader}
use Rattle.log_facts.specs.Said.{Said}
use Rattle.log_facts.specs.facts.OfReads.{ReaderFacts, ReaderNotes}
use Rattle.log_facts.proofs.growth.SaidNodes.{said_nodes}
use Rattle.log_facts.proofs.telling.Clients.{IsNoAppendOf, IsNoReadOf, client_told, notes_told, reader_told}
use Rattle.log_facts.proofs.telling.Stands.{told_grows, unchanged_grows}
use Rattle.log_facts.proofs.telling.Told.{Tells, among_told, data_told, line_told, seq_told, told_told}

module _ (shape : Dimensions) (g : Ghost) (a : Parts) (c : ℕ) (moment : Moment shape g a) where
  -- what the client has after a step that tells nothing, and after one that tells an event
  pub record Keeps (r : ReaderState) : Type 0 where
    pub facts : ReaderFacts g.views a.history c r
    pub notes : ReaderNotes shape g.views g.log a.history a.seqs a.shards c r

  pub record KeepsTold (r : ReaderState) (event : Event) : Type 0 where
    pub facts : ReaderFacts g.views (a.history ++ event ∷ []) c r
    pub notes : ReaderNotes shape g.views g.log (a.history ++ event ∷ []) a.seqs a.shards c r
    pub tells : Tells shape g a event
    pub others : (n : ℕ) → n ≢ c → IsNoReadOf event n
    pub no_append : (n : ℕ) → IsNoAppendOf event n

  -- with nothing told
  module _ (r : ReaderState) (keeps : Keeps r) (sends : List (ℕ × Msg)) where
    abbrev silent : Parts
    silent = record a { readers = put a.readers c r }

    silent_agreed : Agreed shape g silent
    silent_agreed = record {
      views = moment.agreed.views;
      history = moment.agreed.history;
      line = moment.agreed.line;
      seqs = moment.agreed.seqs;
      among_seqs = moment.agreed.among_seqs;
      shards = moment.agreed.shards;
      places = moment.agreed.places;
      bytes = moment.agreed.bytes;
      given = moment.agreed.given;
      flushed = moment.agreed.flushed;
      told = moment.agreed.told;
      clients = record {
        appends = moment.agreed.clients.appends;
        appends_noted = moment.agreed.clients.appends_noted;
        reads = put_cases (λ (n : ℕ) (s : ReaderState). ReaderFacts g.views a.history n s) a.readers c r keeps.facts (λ n other. moment.agreed.clients.reads n);
        reads_noted = put_cases (λ (n : ℕ) (s : ReaderState). ReaderNotes shape g.views g.log a.history a.seqs a.shards n s) a.readers c r keeps.notes (λ n other. moment.agreed.clients.reads_noted n);
      };
    }

    silent_good : Each (λ (send : ℕ × Msg). Said shape g silent c send.0 send.1) sends → Good shape g a c silent sends
    silent_good said = record {
      ghost = g;
      agreed = silent_agreed;
      lifts = said_nodes shape g g.log a silent moment.agreed (unchanged_grows g a silent refl refl refl);
      said = said;
    }

  -- a step that tells nothing is good
  pub keeps_good : (row : Row ReaderState) → row.events ≡ [] → Keeps row.next → Each (λ (send : ℕ × Msg). Said shape g (record a { readers = put a.readers c row.next }) c send.0 send.1) row.sends → GoodReader shape g a c row
  keeps_good row none keeps said =
      subst (λ (told : List Event). Good shape g a c (with_reader a c row.next told) row.sends) (sym none)
      (subst (λ (history : List Event). Good shape g a c (record a { readers = put a.readers c row.next; history = history }) row.sends) (sym (append-nil a.history)) (silent_good row.next keeps row.sends said))

  pub unchanged : Keeps (a.readers c)
  unchanged = record { facts = moment.agreed.clients.reads c; notes = moment.agreed.clients.reads_noted c }

  pub stays_good : GoodReader shape g a c (stays (a.readers c))
  stays_good = keeps_good (stays (a.readers c)) refl unchanged tt

  -- a step that tells an event, and sends what is said then
  module _ (r : ReaderState) (event : Event) (keeps : KeepsTold r event) (sends : List (ℕ × Msg)) where
    abbrev telling : Parts
    telling = with_reader a c r (event ∷ [])

    telling_agreed : Agreed shape g telling
    telling_agreed = record {
      views = moment.agreed.views;
      history = keeps.tells.once;
      line = line_told shape g a event moment.agreed keeps.tells;
      seqs = seq_told shape g a event moment.agreed keeps.tells;
      among_seqs = among_told shape g a event moment.agreed keeps.tells;
      shards = moment.agreed.shards;
      places = moment.agreed.places;
      bytes = λ d. data_told shape g a event moment.agreed keeps.tells (a.shards d).store (moment.agreed.bytes d);
      given = moment.agreed.given;
      clients = record {
        appends = λ n. client_told shape g a event moment.agreed keeps.tells n (a.clients n) (moment.formed.clients n).numbered (keeps.no_append n) (moment.agreed.clients.appends n);
        appends_noted = moment.agreed.clients.appends_noted;
        reads = put_cases (λ (n : ℕ) (s : ReaderState). ReaderFacts g.views telling.history n s) a.readers c r keeps.facts (λ n other. reader_told shape g a event moment.agreed keeps.tells n (a.readers n) (keeps.others n other) (moment.agreed.clients.reads n));
        reads_noted = put_cases (λ (n : ℕ) (s : ReaderState). ReaderNotes shape g.views g.log telling.history a.seqs a.shards n s) a.readers c r keeps.notes (λ n other. notes_told shape g a event moment.agreed keeps.tells n (a.readers n) (moment.agreed.clients.reads n) (moment.agreed.clients.reads_noted n));
      };
      flushed = moment.agreed.flushed;
      told = told_told shape g a event moment.agreed keeps.tells;
    }

    pub telling_good : Each (λ (send : ℕ × Msg). Said shape g telling c send.0 send.1) sends → Good shape g a c telling sends
    telling_good said = record {
      ghost = g;
      agreed = telling_agreed;
      lifts = said_nodes shape g g.log a telling moment.agreed (told_grows shape g a event moment.agreed keeps.tells telling refl refl refl);
      said = said;
    }

  pub tells_good : (row : Row ReaderState) (event : Event) → row.events ≡ event ∷ [] → KeepsTold row.next event → Each (λ (send : ℕ × Msg). Said shape g (with_reader a c row.next (event ∷ [])) c send.0 send.1) row.sends → GoodReader shape g a c row
  tells_good row event one keeps said =
      subst (λ (told : List Event). Good shape g a c (with_reader a c row.next told) row.sends) (sym one) (telling_good row.next event keeps row.sends said)
