-- A turn of a client's node, both of whose halves are good: first the one, then the other.
use Rattle.std.proofs.Common.{◌≡◌, ℕ, List, [], ◌∷◌, ◌++◌, Bool, true, false, refl, sym, ◌∙◌, ap, subst, append_assoc, append-nil}
use Rattle.list_facts.specs.Lists.{Each, put}
use Rattle.list_facts.proofs.Cases.{either}
use Rattle.list_facts.proofs.Puts.{put_cases, put_same}
use Rattle.rec_id.specs.Identity.{Identity}
use Rattle.rec_id.specs.declared.event.Event.{Event}
use Rattle.rec_id.specs.declared.event.Event.TheVariants.{Seen}
use Rattle.view_config.specs.Shape.{Dimensions}
use Rattle.lazy_msgs.specs.Step.{Row}
use Rattle.lazy_msgs.specs.declared.input.Input.{Input}
use Rattle.lazy_msgs.specs.declared.input.Input.TheVariants.{Take, Tick, Grace, Crash, Post, Ask, Trim, Suspect, Peek}
use Rattle.lazy_msgs.specs.declared.msg.Envelope.{Envelope}
use Rattle.lazy_msgs.specs.declared.msg.Msg.{Msg}
use Rattle.lazy_msgs.specs.declared.msg.Msg.TheVariants.{AppendAck, DataAck, Rejected, ProbeAck, TailReady, Part, ViewIs, TrimAck, TrimmedAt}
use Rattle.lazy_rules.specs.ClientNode.{Appends, Both, ClientNode, Half, Reads, appends_tick, asks_view, client_node_step, half_of, half_took, in_appends, in_reads, is_busy, reads_tick}
use Rattle.lazy_rules.specs.ClientRules.{client_row, client_step, client_took}
use Rattle.lazy_rules.specs.ClientState.{ClientState}
use Rattle.lazy_rules.specs.Door.{is_turned_away}
use Rattle.lazy_rules.specs.ReaderRules.{reader_row, reader_step, reader_took}
use Rattle.lazy_rules.specs.ReaderState.{ReaderState}
use Rattle.lazy_rules.specs.Rows.{followed, stays}
use Rattle.world_facts.specs.Members.{IsClientNode}
use Rattle.world_facts.specs.MembersOf.{ClientOf}
use Rattle.world_facts.proofs.goes.Client.{client_kept}
use Rattle.world_facts.proofs.goes.Sends.{GivenTo}
use Rattle.log_facts.specs.Ghosts.{Ghost}
use Rattle.log_facts.specs.Good.{AllRows, Good, GoodClient, GoodReader, Heard, IsShown, Moment}
use Rattle.log_facts.specs.Parts.{Formed, Parts, with_client, with_node, with_reader}
use Rattle.log_facts.specs.Said.{Said}
use Rattle.log_facts.proofs.worlds.Steps.{good_client_stays, good_reader_stays, good_same, good_then}

-- parts stay formed where one client is changed
pub formed_client : (shape : Dimensions) (a : Parts) (c : ℕ) (s : ClientState) (told : List Event) → Formed shape a → ClientOf shape c s → Formed shape (with_client a c s told)
formed_client shape a c s told formed of = record {
  clients = put_cases (λ k t. ClientOf shape k t) a.clients c s of (λ k apart. formed.clients k);
  readers = formed.readers;
  control = formed.control;
  seqs = formed.seqs;
  shards = formed.shards;
}

module _ (shape : Dimensions) (rows : AllRows shape) (c : ℕ) (node : IsClientNode shape c) where
  abbrev GoodNode : Ghost → Parts → Row ClientNode → Type 0
  GoodNode g a row = Good shape g a c (with_node a c row.next row.events) row.sends

  -- what is known of an input
  abbrev HeardOf : Ghost → Parts → Input → Type 0
  HeardOf g a input = (e : Envelope) → input ≡ Take e → Heard shape g a e.from c e.msg

  -- ---- each half
  module _ (g : Ghost) (a : Parts) (moment : Moment shape g a) where
    client_takes : (sender : ℕ) (msg : Msg) → Heard shape g a sender c msg → GoodClient shape g a c (client_row (a.clients c) sender msg)
    client_takes sender (AppendAck view id) heard = rows.clients.append_ack view id g a sender c moment node heard
    client_takes sender (DataAck view id) heard = rows.clients.data_ack view id g a sender c moment node heard
    client_takes sender (Rejected id place) heard = rows.clients.rejected id place g a sender c moment node heard
    client_takes sender (ViewIs config) heard = rows.clients.view_is config g a sender c moment node heard
    client_takes sender _ heard = good_client_stays shape g a moment.agreed c

    client_good : (input : Input) → HeardOf g a input → GoodClient shape g a c (client_step (a.clients c) input)
    client_good (Take e) heard =
        either (GoodClient shape g a c) (is_turned_away (a.clients c).shape e.from e.msg) (stays (a.clients c)) (client_row (a.clients c) e.from e.msg)
        (λ away. good_client_stays shape g a moment.agreed c) (λ let_in. client_takes e.from e.msg (heard e refl))
    client_good Tick heard = rows.clients.tick g a c moment node
    client_good (Post bytes) heard = rows.clients.post bytes g a c moment node
    client_good _ heard = good_client_stays shape g a moment.agreed c

    reader_takes : (sender : ℕ) (msg : Msg) → Heard shape g a sender c msg → GoodReader shape g a c (reader_row (a.readers c) sender msg)
    reader_takes sender (ProbeAck view read) heard = rows.readers.probe_ack view read g a sender c moment node heard
    reader_takes sender (TailReady view read tail) heard = rows.readers.tail_ready view read tail g a sender c moment node heard
    reader_takes sender (Part read from end entries) heard = rows.readers.part read from end entries g a sender c moment node heard
    reader_takes sender (ViewIs config) heard = rows.readers.view_is config g a sender c moment node heard
    reader_takes sender (TrimAck read) heard = rows.readers.trim_ack read g a sender c moment node heard
    reader_takes sender (TrimmedAt read floor) heard = rows.readers.trimmed_at read floor g a sender c moment node heard
    reader_takes sender _ heard = good_reader_stays shape g a moment.agreed c

    reader_good : (input : Input) → HeardOf g a input → GoodReader shape g a c (reader_step (a.readers c) input)
    reader_good (Take e) heard =
        either (GoodReader shape g a c) (is_turned_away (a.readers c).shape e.from e.msg) (stays (a.readers c)) (reader_row (a.readers c) e.from e.msg)
        (λ away. good_reader_stays shape g a moment.agreed c) (λ let_in. reader_takes e.from e.msg (heard e refl))
    reader_good Tick heard = rows.readers.tick g a c moment node
    reader_good (Ask ask) heard = rows.readers.ask ask g a c moment node
    reader_good (Trim floor) heard = rows.readers.trim floor g a c moment node
    reader_good _ heard = good_reader_stays shape g a moment.agreed c

  -- ---- both halves in one node
  module _ (g : Ghost) (a : Parts) (moment : Moment shape g a) where
    module _ (n : ClientNode) (appends : a.clients c ≡ n.appends) (reads : a.readers c ≡ n.reads) where
      clients_same : put a.clients c n.appends ≡ a.clients
      clients_same = ap (put a.clients c) (sym appends) ∙ put_same a.clients c

      readers_same : put a.readers c n.reads ≡ a.readers
      readers_same = ap (put a.readers c) (sym reads) ∙ put_same a.readers c

      appends_good : (row : Row ClientState) → GoodClient shape g a c row → GoodNode g a (in_appends n row)
      appends_good row good = subst (λ (readers : ℕ → ReaderState). Good shape g a c (record (with_client a c row.next row.events) { readers = readers }) row.sends) (sym readers_same) good

      reads_good : (row : Row ReaderState) → GoodReader shape g a c row → GoodNode g a (in_reads n row)
      reads_good row good = subst (λ (clients : ℕ → ClientState). Good shape g a c (record (with_reader a c row.next row.events) { clients = clients }) row.sends) (sym clients_same) good

      same_good : GoodNode g a (stays n)
      same_good =
          subst (λ (history : List Event). Good shape g a c (record a { clients = put a.clients c n.appends; readers = put a.readers c n.reads; history = history }) []) (sym (append-nil a.history))
          (subst (λ (clients : ℕ → ClientState). Good shape g a c (record a { clients = clients; readers = put a.readers c n.reads }) []) (sym clients_same)
          (subst (λ (readers : ℕ → ReaderState). Good shape g a c (record a { readers = readers }) []) (sym readers_same) (good_same shape g a moment.agreed c)))

      client_there : (input : Input) → HeardOf g a input → GoodClient shape g a c (client_step n.appends input)
      client_there input heard = subst (λ (s : ClientState). GoodClient shape g a c (client_step s input)) appends (client_good g a moment input heard)

      reader_there : (input : Input) → HeardOf g a input → GoodReader shape g a c (reader_step n.reads input)
      reader_there input heard = subst (λ (r : ReaderState). GoodReader shape g a c (reader_step r input)) reads (reader_good g a moment input heard)

      -- ---- the appends and then the reads
      module _ (formed : Formed shape a) (input : Input) (heard : HeardOf g a input) where
        first : GoodClient shape g a c (client_step n.appends input)
        first = client_there input heard

        abbrev between : Parts
        between = with_client a c (client_step n.appends input).next (client_step n.appends input).events

        given_of : (i : Input) → HeardOf g a i → GivenTo shape c i
        given_of (Take e) h = (h e refl).goes
        given_of Tick h = tt
        given_of Grace h = tt
        given_of Crash h = tt
        given_of (Post bytes) h = tt
        given_of (Ask ask) h = tt
        given_of (Trim floor) h = tt
        given_of (Suspect other) h = tt
        given_of (Peek stable time replica from ids) h = tt

        client_of : ClientOf shape c n.appends
        client_of = subst (ClientOf shape c) appends (formed.clients c)

        then_formed : Formed shape between
        then_formed = formed_client shape a c (client_step n.appends input).next (client_step n.appends input).events formed (client_kept shape c node n.appends client_of input (given_of input heard)).next

        then_moment : Moment shape first.ghost between
        then_moment = record { is_shape = moment.is_shape; formed = then_formed; agreed = first.agreed }

        then_heard : HeardOf first.ghost between input
        then_heard e is = let h = heard e is in record { goes = h.goes; said = first.lifts e.from c e.msg h.said }

        second : GoodReader shape first.ghost between c (reader_step n.reads input)
        second = subst (λ (r : ReaderState). GoodReader shape first.ghost between c (reader_step r input)) reads (reader_good first.ghost between then_moment input then_heard)

        -- the row of both halves, whose reader is as it was
        abbrev both_rows : Row ClientNode
        both_rows = followed (in_appends n (client_step n.appends input)) (λ after. in_reads after (reader_step after.reads input))

        two_good : GoodNode g a both_rows
        two_good =
            subst (λ (history : List Event). Good shape g a c (record (with_reader between c (reader_step n.reads input).next (reader_step n.reads input).events) { history = history }) both_rows.sends)
            (append_assoc a.history (client_step n.appends input).events (reader_step n.reads input).events)
            (good_then shape g a between (with_reader between c (reader_step n.reads input).next (reader_step n.reads input).events) c (client_step n.appends input).sends (reader_step n.reads input).sends first second)

      -- and then a client that was busy asks for the latest view
      more : (row : Row ClientNode) (good : GoodNode g a row) (last : Row ClientNode) → Each (λ (send : ℕ × Msg). Said shape good.ghost (with_node a c row.next row.events) c send.0 send.1) last.sends → last.next ≡ row.next → last.events ≡ []
          → Good shape g a c (with_node a c last.next (row.events ++ last.events)) (row.sends ++ last.sends)
      more row good last said same none =
          subst (λ (next : ClientNode). Good shape g a c (with_node a c next (row.events ++ last.events)) (row.sends ++ last.sends)) (sym same)
          (subst (λ (told : List Event). Good shape g a c (with_node a c row.next told) (row.sends ++ last.sends)) (sym (ap (λ (es : List Event). row.events ++ es) none ∙ append-nil row.events))
          (good_then shape g a (with_node a c row.next row.events) (with_node a c row.next row.events) c row.sends last.sends good
          (record { ghost = good.ghost; agreed = good.agreed; lifts = λ from to msg h. h; said = said })))

      asks_good : (row : Row ClientNode) → GoodNode g a row → (busy : Bool) → GoodNode g a (followed row (asks_view busy))
      asks_good row good true = more row good (asks_view true row.next) (tt, tt) refl refl
      asks_good row good false = more row good (asks_view false row.next) tt refl refl

      -- a message for one half, or for both
      half_good : (formed : Formed shape a) (e : Envelope) → HeardOf g a (Take e) → (h : Half) → GoodNode g a (half_took h n e.from e.msg)
      half_good formed e heard Appends = appends_good (client_took n.appends e.from e.msg) (client_there (Take e) heard)
      half_good formed e heard Reads = reads_good (reader_took n.reads e.from e.msg) (reader_there (Take e) heard)
      half_good formed e heard Both = two_good formed (Take e) heard

      -- what is shown of the order
      sees_good : (from : ℕ) (ids : List Identity) → IsShown shape a from ids → n.appends.client ≡ c → Good shape g a c (with_node a c n (Seen n.appends.client from ids ∷ [])) []
      sees_good from ids shown own =
          subst (λ (k : ℕ). Good shape g a c (with_node a c n (Seen k from ids ∷ [])) []) (sym own)
          (subst (λ (clients : ℕ → ClientState). Good shape g a c (record a { clients = clients; readers = put a.readers c n.reads; history = a.history ++ Seen c from ids ∷ [] }) []) (sym clients_same)
          (subst (λ (readers : ℕ → ReaderState). Good shape g a c (record a { readers = readers; history = a.history ++ Seen c from ids ∷ [] }) []) (sym readers_same)
          (rows.seen.seen g a c from ids moment node shown)))

      -- ---- every input
      pub node_good : (formed : Formed shape a) (input : Input) → HeardOf g a input → ((stable time replica from : ℕ) (ids : List Identity) → input ≡ Peek stable time replica from ids → IsShown shape a from ids) → GoodNode g a (client_node_step n input)
      node_good formed (Take e) heard shown = half_good formed e heard (half_of e.msg)
      node_good formed Tick heard shown = asks_good (followed (appends_tick n) reads_tick) (two_good formed Tick heard) (is_busy n)
      node_good formed (Post bytes) heard shown = appends_good (client_step n.appends (Post bytes)) (client_there (Post bytes) heard)
      node_good formed (Ask ask) heard shown = reads_good (reader_step n.reads (Ask ask)) (reader_there (Ask ask) heard)
      node_good formed (Trim floor) heard shown = reads_good (reader_step n.reads (Trim floor)) (reader_there (Trim floor) heard)
      node_good formed (Peek stable time replica from ids) heard shown =
          let of : ClientOf shape c n.appends = subst (ClientOf shape c) appends (formed.clients c) in
          sees_good from ids (shown stable time replica from ids refl) of.numbered
      node_good formed Grace heard shown = same_good
      node_good formed Crash heard shown = same_good
      node_good formed (Suspect other) heard shown = same_good
