-- What a client is told to have begun was posted: no other input begins an append.
use Rattle.std.proofs.Common.{◌≡◌, ℕ, List, [], ◌∷◌, ◌++◌, Option, Some, None, Bool, true, false, ◌⊎◌, inl, inr, refl, sym, subst}
use Rattle.std.specs.Prelude.{◌==◌, ◌&&◌, nat_le, nat_lt, not, if◌then◌else◌}
use Rattle.std.specs.Option.{is_none, option_map_or}
use Rattle.list_facts.specs.Lists.{Each, In}
use Rattle.list_facts.proofs.Cases.{either, some_or_none}
use Rattle.list_facts.proofs.Members.{each_append}
use Rattle.rec_id.specs.Identity.{Identity}
use Rattle.rec_id.specs.declared.entry.Entry.{Entry}
use Rattle.rec_id.specs.History.{asked_from}
use Rattle.rec_id.specs.declared.event.Ask.{Ask as AskOf}
use Rattle.rec_id.specs.declared.event.Ask.TheVariants.{Range, Tail}
use Rattle.rec_id.specs.declared.event.Event.{Event}
use Rattle.rec_id.specs.declared.event.Event.TheVariants.{Invoke}
use Rattle.view_config.specs.Shape.{Dimensions, IsShape}
use Rattle.view_config.specs.declared.config.Config.{Config}
use Rattle.view_config.specs.declared.edition.Edition.{Edition}
use Rattle.view_config.specs.declared.edition.Edition.TheVariants.{One, Two}
use Rattle.lazy_msgs.specs.Step.{Row}
use Rattle.lazy_msgs.specs.declared.input.Input.{Input}
use Rattle.lazy_msgs.specs.declared.input.Input.TheVariants.{Take, Tick, Post, Ask, Trim, Peek}
use Rattle.lazy_msgs.specs.declared.input.WorldEvent.{WorldEvent}
use Rattle.lazy_msgs.specs.declared.msg.Msg.{Msg}
use Rattle.lazy_msgs.specs.declared.msg.Msg.TheVariants.{AppendAck, DataAck, Rejected, ProbeAck, TailReady, Part, ViewIs, TrimAck, TrimmedAt}
use Rattle.lazy_rules.specs.ClientNode.{is_busy, ClientNode, Half, Appends, Reads, Both, appends_took, asks_view, client_node_step, half_of, half_took, in_appends, in_reads, reads_tick, reads_took}
use Rattle.lazy_rules.specs.ClientRules.{advances, client_row, client_took, noted, notes, on_append_ack, on_client_tick, on_data_ack, on_post, on_rejected, on_view_is}
use Rattle.lazy_rules.specs.ClientState.{ClientState, OpenAppend}
use Rattle.lazy_rules.specs.ReaderRules.{acked_force, acked_trim, begins_read, begins_trim, concludes, decides, ends_read, ends_trim, falls_short, fetch_first, fetches_again, gathers, goes_on, is_fetch_of, is_force_of, is_trim_complete, keeps_part, notes_trim, has_number, probes_again, probes_all, trim_refusal, trim_sends, with_part, with_tail, on_ask, on_part, on_probe_ack, on_reader_tick, on_reader_view_is, on_tail_ready, on_trim_ack, on_trim_input, on_trimmed_at, opens, reader_row, reader_took, seeks}
use Rattle.lazy_rules.specs.ReaderState.{Fetch, Fetching, Force, Idle, Probing, ReaderState, Stage, Trimmer, Trimming}
use Rattle.lazy_rules.specs.Roles.{is_first, replicas_of, shard_kept_by}
use Rattle.lazy_rules.specs.Rows.{each_numbered, followed, has_node, sends_all, stays}
use Rattle.lazy_rules.specs.WorldRules.{run}
use Rattle.lazy_rules.specs.WorldState.{WorldState, first_world}
use Rattle.world_facts.specs.Reached.{reached}
use Rattle.world_facts.specs.Turns.{ClientTurn, ControlTurn, CrashTurn, IsGiven, IsNext, IsTurn, Meets, SeqTurn, ShardTurn, Turn, turned}
use Rattle.world_facts.proofs.Runs.{every_world}
use Rattle.log_facts.proofs.worlds.Quiet.{quiet_control, quiet_seq, quiet_shard}

module _ (P : List ℕ → Type 0) where
  -- what is posted meets this
  abbrev pub IsAsked : Input → Type 0
  IsAsked (Post bytes) = P bytes
  IsAsked _ = Unit {0}

  -- an append that began has data that meets this
  abbrev pub IsOf : Event → Type 0
  IsOf (Invoke id bytes) = P bytes
  IsOf _ = Unit {0}

  abbrev Tells : {S : Type 0} → Row S → Type 0
  Tells row = Each IsOf row.events

  both : {S : Type 0} (first : Row S) (more : S → Row S) → Tells first → Tells (more first.next) → Tells (followed first more)
  both first more h k = each_append IsOf first.events (more first.next).events h k

  -- ---- the half that appends
  abbrev Client : Row ClientState → Type 0
  Client row = Tells row

  advances_tells : (c : ClientState) (i : ℕ) (append : OpenAppend) → Client (advances c i append)
  advances_tells c i append = search (either Client) depth 12

  notes_tells : (c : ClientState) (node number : ℕ) → Client (notes c node number)
  notes_tells c node number = search (some_or_none {A = ℕ} Client, some_or_none {A = OpenAppend} Client, advances_tells) depth 12

  client_tells : (c : ClientState) (sender : ℕ) (msg : Msg) → Client (client_row c sender msg)
  client_tells c sender (AppendAck view id) = search (either Client, notes_tells) depth 12
  client_tells c sender (DataAck view id) = search (either Client, notes_tells) depth 12
  client_tells c sender (Rejected id place) = search (either Client, some_or_none {A = ℕ} Client) depth 12
  client_tells c sender (ViewIs config) = search (either Client) depth 12
  client_tells c sender _ = tt

  took_tells : (c : ClientState) (sender : ℕ) (msg : Msg) → Client (client_took c sender msg)
  took_tells c sender msg = search (either Client, client_tells) depth 12

  post_tells : (c : ClientState) (bytes : List ℕ) → P bytes → Client (on_post c bytes)
  post_tells c bytes p = search (either Client, p) depth 12

  -- ---- the half that reads
  abbrev Reader : Row ReaderState → Type 0
  Reader row = Tells row

  seeks_tells : (r : ReaderState) (ask : AskOf) → Reader (seeks r ask)
  seeks_tells r (Range from to) = search (either Reader) depth 12
  seeks_tells r (Tail from) = tt

  begins_tells : (r : ReaderState) (ask : AskOf) → Reader (begins_read r ask)
  begins_tells r ask = either Reader (has_number r) (followed (opens r ask) (λ after. seeks after ask)) (stays r) (λ e. both (opens r ask) (λ after. seeks after ask) (tt, tt) (seeks_tells (opens r ask).next ask)) (λ e. tt)

  concludes_tells : (r : ReaderState) (force : Force) (tail : ℕ) → Reader (concludes r force tail)
  concludes_tells r force tail = search (either Reader) depth 12

  decides_tells : (r : ReaderState) (force : Force) → Reader (decides r force)
  decides_tells r force = search (either Reader, some_or_none {A = ℕ} Reader, concludes_tells) depth 12

  gathers_tells : (r : ReaderState) (fetch : Fetch) → Reader (gathers r fetch)
  gathers_tells r fetch = search (either Reader) depth 12

  notes_trim_tells : (r : ReaderState) (trimmer : Trimmer) → Reader (notes_trim r trimmer)
  notes_trim_tells r trimmer = search (either Reader) depth 12

  probe_ack_tells : (r : ReaderState) (sender view number : ℕ) → Reader (on_probe_ack r sender view number)
  probe_ack_tells r sender view number = by r.stage
    where
      by : (stage : Stage) → Reader (elim stage [
        | Probing force ↦
            if is_force_of r force view number && has_node r.config.seq sender then decides r (acked_force force sender)
            else stays r
        | _ ↦ stays r
      ])
      by Idle = tt
      by (Fetching fetch) = tt
      by (Trimming trimmer) = tt
      by (Probing force) = search (either Reader, decides_tells) depth 12

  tail_ready_tells : (r : ReaderState) (sender view number tail : ℕ) → Reader (on_tail_ready r sender view number tail)
  tail_ready_tells r sender view number tail = by r.stage
    where
      by : (stage : Stage) → Reader (elim stage [
        | Probing force ↦
            if is_force_of r force view number && is_first r.config.seq sender && is_none force.tail
            then decides r (with_tail force tail)
            else stays r
        | _ ↦ stays r
      ])
      by Idle = tt
      by (Fetching fetch) = tt
      by (Trimming trimmer) = tt
      by (Probing force) = search (either Reader, decides_tells) depth 12

  keeps_part_tells : (r : ReaderState) (fetch : Fetch) (entries : List (ℕ × Entry)) (shard : ℕ) → Reader (keeps_part r fetch entries shard)
  keeps_part_tells r fetch entries shard = search (either Reader, gathers_tells) depth 12

  falls_short_tells : (r : ReaderState) (fetch : Fetch) → Reader (falls_short r fetch)
  falls_short_tells r fetch = search (either Reader) depth 12

  part_tells : (r : ReaderState) (sender number from end : ℕ) (entries : List (ℕ × Entry)) → Reader (on_part r sender number from end entries)
  part_tells r sender number from end entries = by r.stage
    where
      by : (stage : Stage) → Reader (elim stage [
        | Fetching fetch ↦
            if not (is_fetch_of fetch number from) then stays r
            else (if nat_le fetch.end end then option_map_or (keeps_part r fetch entries) (shard_kept_by r.shape sender) (stays r)
            else falls_short r fetch)
        | _ ↦ stays r
      ])
      by Idle = tt
      by (Probing force) = tt
      by (Trimming trimmer) = tt
      by (Fetching fetch) = search (either Reader, some_or_none {A = ℕ} Reader, keeps_part_tells, falls_short_tells) depth 12

  view_is_tells : (r : ReaderState) (config : Config) → Reader (on_reader_view_is r config)
  view_is_tells r config = either Reader (nat_lt r.config.view config.view) (goes_on (record r { config = config })) (stays r) (λ e. by r.stage) (λ e. tt)
    where
      by : (stage : Stage) → Reader (elim stage [
        | Idle ↦ stays (record r { config = config })
        | Fetching fetch ↦ sends_all (record r { config = config }) (each_numbered (fetch_first fetch) 0 config.shards)
        | Probing force ↦ probes_all (record r { config = config }) force.number force.ask
        | Trimming trimmer ↦ if is_trim_complete (record r { config = config }) trimmer then ends_trim (record r { config = config }) trimmer else sends_all (record r { config = config }) (trim_sends (record r { config = config }) trimmer)
      ])
      by Idle = tt
      by (Fetching fetch) = tt
      by (Probing force) = tt
      by (Trimming trimmer) = search (either Reader) depth 12

  trim_ack_tells : (r : ReaderState) (sender number : ℕ) → Reader (on_trim_ack r sender number)
  trim_ack_tells r sender number = by r.stage
    where
      by : (stage : Stage) → Reader (elim stage [
        | Trimming trimmer ↦
            if trimmer.number == number && has_node (replicas_of r.config) sender then notes_trim r (acked_trim trimmer sender)
            else stays r
        | _ ↦ stays r
      ])
      by Idle = tt
      by (Fetching fetch) = tt
      by (Probing force) = tt
      by (Trimming trimmer) = search (either Reader, notes_trim_tells) depth 12

  trimmed_at_tells : (r : ReaderState) (number floor : ℕ) → Reader (on_trimmed_at r number floor)
  trimmed_at_tells r number floor = by r.stage
    where
      by : (stage : Stage) → Reader (elim stage [
        | Fetching fetch ↦
            if fetch.number == number && nat_lt (asked_from fetch.ask) floor then ends_read r number floor else stays r
        | _ ↦ stays r
      ])
      by Idle = tt
      by (Probing force) = tt
      by (Trimming trimmer) = tt
      by (Fetching fetch) = search (either Reader) depth 12

  reader_tells : (r : ReaderState) (sender : ℕ) (msg : Msg) → Reader (reader_row r sender msg)
  reader_tells r sender (ProbeAck view number) = probe_ack_tells r sender view number
  reader_tells r sender (TailReady view number tail) = tail_ready_tells r sender view number tail
  reader_tells r sender (Part number from end entries) = part_tells r sender number from end entries
  reader_tells r sender (ViewIs config) = view_is_tells r config
  reader_tells r sender (TrimAck number) = trim_ack_tells r sender number
  reader_tells r sender (TrimmedAt number floor) = trimmed_at_tells r number floor
  reader_tells r sender _ = tt

  reads_tells : (r : ReaderState) (sender : ℕ) (msg : Msg) → Reader (reader_took r sender msg)
  reads_tells r sender msg = search (either Reader, reader_tells) depth 12

  tick_tells : (r : ReaderState) → Reader (on_reader_tick r)
  tick_tells r = by r.stage
    where
      by : (stage : Stage) → Reader (elim stage [
        | Idle ↦ stays r
        | Fetching fetch ↦ fetches_again r fetch
        | Probing force ↦ probes_again r force
        | Trimming trimmer ↦ sends_all r (trim_sends r trimmer)
      ])
      by Idle = tt
      by (Fetching fetch) = search (either Reader) depth 12
      by (Probing force) = tt
      by (Trimming trimmer) = tt

  ask_tells : (r : ReaderState) (ask : AskOf) → Reader (on_ask r ask)
  ask_tells r ask = search (either Reader, begins_tells) depth 12

  trim_tells : (r : ReaderState) (floor : ℕ) → Reader (on_trim_input r floor)
  trim_tells r floor = by r.shape.edition
    where
      by : (edition : Edition) → Reader (elim edition [
        | One ↦ stays r
        | Two ↦ if is_none (trim_refusal r floor) then begins_trim r floor else stays r
      ])
      by One = tt
      by Two = search (either Reader) depth 12

  -- ---- a client's node
  abbrev Node : Row ClientNode → Type 0
  Node row = Tells row

  half_tells : (half : Half) (n : ClientNode) (sender : ℕ) (msg : Msg) → Node (half_took half n sender msg)
  half_tells Appends n sender msg = took_tells n.appends sender msg
  half_tells Reads n sender msg = reads_tells n.reads sender msg
  half_tells Both n sender msg = both (appends_took n sender msg) (λ after. reads_took after sender msg) (took_tells n.appends sender msg) (reads_tells n.reads sender msg)

  asks_tells : (busy : Bool) (n : ClientNode) → Node (asks_view busy n)
  asks_tells busy n = search (either Node) depth 12

  pub node_tells : (w : WorldState) (c : ℕ) (n : ClientNode) (input : Input) → IsGiven IsAsked w c input → Node (client_node_step n input)
  node_tells w c n (Take envelope) given = half_tells (half_of envelope.msg) n envelope.from envelope.msg
  node_tells w c n Tick given =
      both (followed (in_appends n (on_client_tick n.appends)) reads_tick) (asks_view (is_busy n))
      (both (in_appends n (on_client_tick n.appends)) reads_tick tt (tick_tells n.reads)) (asks_tells (is_busy n) _)
  node_tells w c n (Post bytes) given = post_tells n.appends bytes given
  node_tells w c n (Ask ask) given = ask_tells n.reads ask
  node_tells w c n (Trim floor) given = trim_tells n.reads floor
  node_tells w c n (Peek stable time replica from ids) given = (tt, tt)
  node_tells w c n _ given = tt

  -- ---- a world
  turn_tells : (w : WorldState) → Each IsOf w.history → (turn : Turn) → IsTurn IsAsked w turn → Each IsOf (turned w turn).history
  turn_tells w before (ClientTurn c n input) is = each_append IsOf w.history (client_node_step n input).events before (node_tells w c n input is.1)
  turn_tells w before (ControlTurn input) is = each_append IsOf w.history _ before (subst (Each IsOf) (sym (quiet_control w.control input)) tt)
  turn_tells w before (SeqTurn i s input) is = each_append IsOf w.history _ before (subst (Each IsOf) (sym (quiet_seq s input)) tt)
  turn_tells w before (ShardTurn i j s input) is = each_append IsOf w.history _ before (subst (Each IsOf) (sym (quiet_shard s input)) tt)
  turn_tells w before (CrashTurn node) is = each_append IsOf w.history [] before tt

  -- all that began was posted
  pub begun_were_posted : (shape : Dimensions) (events : List WorldEvent) → IsShape shape → Each (Meets IsAsked) events → Each IsOf (reached shape events).history
  begun_were_posted shape events formed met =
      every_world shape IsAsked (λ w. Each IsOf w.history) tt
      (λ done met_before before next is. subst (λ (w : WorldState). Each IsOf w.history) (sym is.did) (turn_tells (run done (first_world shape)) before is.turn is.is))
      events met
