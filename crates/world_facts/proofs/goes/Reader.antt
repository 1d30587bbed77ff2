-- What a client's reads send, and to whom.
use Rattle.std.proofs.Common.{◌≡◌, ℕ, ◌+◌, ◌<◌, List, [], ◌∷◌, ◌++◌, length, Option, Some, None, refl, ◌∙◌, sym, subst, nat_lt, ◌^◌}
use Rattle.std.specs.Prelude.{◌%◌, if◌then◌else◌, not, slice_get, ◌==◌}
use Rattle.std.specs.List.{filter}
use Rattle.std.specs.Option.{is_none, is_some, option_to_list}
use Rattle.list_facts.specs.Lists.{Each}
use Rattle.list_facts.proofs.Cases.{either, some_or_none}
use Rattle.list_facts.proofs.Members.{each_append, each_weaker}
use Rattle.list_facts.proofs.Places.{each_at}
use Rattle.rec_id.specs.History.{asked_from}
use Rattle.rec_id.specs.declared.entry.Entry.{Entry}
use Rattle.rec_id.specs.declared.event.Ask.{Ask}
use Rattle.rec_id.specs.declared.event.Ask.TheVariants.{Range, Tail}
use Rattle.view_config.specs.Shape.{Dimensions}
use Rattle.view_config.specs.declared.config.Config.{Config}
use Rattle.view_config.specs.declared.edition.Edition.{Edition}
use Rattle.view_config.specs.declared.edition.Edition.TheVariants.{One, Two}
use Rattle.lazy_msgs.specs.declared.input.Input.{Input}
use Rattle.lazy_msgs.specs.declared.msg.Msg.{Msg}
use Rattle.lazy_msgs.specs.declared.msg.Msg.TheVariants.{Probe, ProbeAck, TailReady, Fetch as FetchMsg, Part, ViewIs, Trim, TrimAck, TrimmedAt}
use Rattle.lazy_msgs.specs.Step.{Row}
use Rattle.lazy_rules.specs.Door.{is_turned_away}
use Rattle.lazy_rules.specs.ReaderRules.{fetches, fetch_first, fetch_in_turn, fetch_msg, in_turn, lacks_part, reminds, awaits, probes_all, trim_sends, begins_read, begins_trim, trim_refusal, on_trim_ack, on_part, on_trimmed_at, decides, on_probe_ack, on_tail_ready, goes_on, on_reader_view_is, fetches_in_turn, on_reader_tick, on_ask, reader_row, reader_took, with_number, opens, seeks, is_trim_complete, has_number, ends_trim, with_trimmer, reader_step, with_turn}
use Rattle.lazy_rules.specs.ReaderState.{ReaderState, Fetch, Force, Trimmer, Stage, Idle, Fetching, Probing, Trimming}
use Rattle.lazy_rules.specs.Roles.{first_of, primaries_of, replicas_of}
use Rattle.lazy_rules.specs.Rows.{stays, sends_all, followed, to_each, each_numbered, has_node}
use Rattle.world_facts.specs.MembersOf.{ReaderOf}
use Rattle.world_facts.specs.Members.{IsGroup, IsNamed, IsSeqNode, IsShardNode, Goes}
use Rattle.world_facts.proofs.Claims.{Keeps}
use Rattle.world_facts.proofs.Rows.{keeps_followed, sends_each}
use Rattle.world_facts.proofs.goes.Sends.{each_filter, each_first, each_of_numbered, primaries_named, replicas_named, GivenTo}
use Rattle.rec_id.specs.declared.event.Event.TheVariants.{TrimAsk}
use Rattle.lazy_msgs.specs.declared.input.Input.TheVariants.{Take, Tick, Ask as AskInput, Trim as TrimInput}

module _ (shape : Dimensions) (c : ℕ) (few : c < shape.clients) where
  abbrev Kept : Row ReaderState → Type 0
  Kept = Keeps (ReaderOf shape c) (Goes shape c)

  abbrev Sent : List (ℕ × Msg) → Type 0
  Sent sends = Each (λ (send : ℕ × Msg). Goes shape c send.0 send.1) sends

  -- a message to each of some nodes
  to_seqs : (nodes : List ℕ) → Each (IsSeqNode shape) nodes → (view number : ℕ) → Sent (to_each nodes (Probe view number))
  to_seqs nodes h view number = sends_each (Goes shape c) nodes (Probe view number) (each_weaker (IsSeqNode shape) (λ (node : ℕ). Goes shape c node (Probe view number)) (λ node k. (few, k)) nodes h)

  to_shards : (nodes : List ℕ) → Each (IsShardNode shape) nodes → (number from end : ℕ) → Sent (to_each nodes (FetchMsg number from end))
  to_shards nodes h number from end = sends_each (Goes shape c) nodes (FetchMsg number from end) (each_weaker (IsShardNode shape) (λ (node : ℕ). Goes shape c node (FetchMsg number from end)) (λ node k. (few, k)) nodes h)

  to_trimmed : (nodes : List ℕ) → Each (IsShardNode shape) nodes → (number floor : ℕ) → Sent (to_each nodes (Trim number floor))
  to_trimmed nodes h number floor = sends_each (Goes shape c) nodes (Trim number floor) (each_weaker (IsShardNode shape) (λ (node : ℕ). Goes shape c node (Trim number floor)) (λ node k. (few, k)) nodes h)

  module _ (r : ReaderState) (ok : ReaderOf shape c r) where
    -- a reader that differs in its bookkeeping alone
    quiet : (row : Row ReaderState) → row.next.shape ≡ r.shape → row.next.client ≡ r.client → row.next.config ≡ r.config → Sent row.sends → Kept row
    quiet row a b e sent = record {
      next = record { shaped = a ∙ ok.shaped; numbered = b ∙ ok.numbered; config = subst (IsNamed shape) (sym e) ok.config };
      sends = sent;
    }

    pub probing : (number : ℕ) (ask : Ask) → Kept (probes_all r number ask)
    probing number ask = quiet (probes_all r number ask) refl refl refl (to_seqs r.config.seq ok.config.seq r.config.view number)

    pub fetching : (number : ℕ) (ask : Ask) (end : ℕ) (tail : Option ℕ) → Kept (fetches r number ask end tail)
    fetching number ask end tail = quiet (fetches r number ask end tail) refl refl refl (to_shards (primaries_of r.config) (primaries_named shape r.config ok.config) number (asked_from ask) end)

    trimming : (trimmer : Trimmer) → Sent (trim_sends r trimmer)
    trimming trimmer = to_trimmed (filter (λ (node : ℕ). not (has_node trimmer.acked node)) (replicas_of r.config)) (each_filter (IsShardNode shape) (λ (node : ℕ). not (has_node trimmer.acked node)) (replicas_of r.config) (replicas_named shape r.config ok.config)) trimmer.number trimmer.floor

    first_fetches : (fetch : Fetch) (shard : ℕ) (nodes : List ℕ) → IsGroup shape nodes → Sent (fetch_first fetch shard nodes)
    first_fetches fetch shard nodes h = either Sent (lacks_part fetch shard) (to_each (first_of nodes) (fetch_msg fetch)) []
        (λ k. to_shards (first_of nodes) (each_first (IsShardNode shape) nodes h.each) fetch.number (asked_from fetch.ask) fetch.end) (λ k. tt)

    one_in_turn : (nodes : List ℕ) → Each (IsShardNode shape) nodes → (o : Option ℕ) → ((node : ℕ) → o ≡ Some node → IsShardNode shape node) → Each (IsShardNode shape) (option_to_list o)
    one_in_turn nodes h None f = tt
    one_in_turn nodes h (Some node) f = (f node refl, tt)

    turn_fetches : (fetch : Fetch) (shard : ℕ) (nodes : List ℕ) → IsGroup shape nodes → Sent (fetch_in_turn fetch shard nodes)
    turn_fetches fetch shard nodes h = either Sent (lacks_part fetch shard) (to_each (in_turn fetch.turn nodes) (fetch_msg fetch)) []
        (λ k. to_shards (in_turn fetch.turn nodes)
        (one_in_turn nodes h.each (slice_get nodes (fetch.turn % length nodes)) (λ node is. each_at (IsShardNode shape) nodes h.each (fetch.turn % length nodes) node is))
        fetch.number (asked_from fetch.ask) fetch.end) (λ k. tt)

    reminded : (fetch : Fetch) → Sent (reminds r fetch)
    reminded fetch = either Sent (is_some fetch.tail) (to_each (first_of r.config.seq) (Probe r.config.view fetch.number)) []
        (λ k. to_seqs (first_of r.config.seq) (each_first (IsSeqNode shape) r.config.seq ok.config.seq) r.config.view fetch.number) (λ k. tt)

    all_first : (fetch : Fetch) → Sent (each_numbered (fetch_first fetch) 0 r.config.shards)
    all_first fetch = each_of_numbered (λ (send : ℕ × Msg). Goes shape c send.0 send.1) (fetch_first fetch) (IsGroup shape) (first_fetches fetch) 0 r.config.shards ok.config.shards

    all_in_turn : (fetch : Fetch) → Sent (each_numbered (fetch_in_turn fetch) 0 r.config.shards)
    all_in_turn fetch = each_of_numbered (λ (send : ℕ × Msg). Goes shape c send.0 send.1) (fetch_in_turn fetch) (IsGroup shape) (turn_fetches fetch) 0 r.config.shards ok.config.shards

    again : (fetch : Fetch) → Sent (each_numbered (fetch_in_turn fetch) 0 r.config.shards ++ reminds r fetch)
    again fetch = each_append (λ (send : ℕ × Msg). Goes shape c send.0 send.1) (each_numbered (fetch_in_turn fetch) 0 r.config.shards) (reminds r fetch) (all_in_turn fetch) (reminded fetch)

  -- DECIDE and what leads to it, by the stage
  module _ (r : ReaderState) (ok : ReaderOf shape c r) where
    decided : (force : Force) → Kept (decides r force)
    decided force = search (either Kept, some_or_none {A = ℕ} Kept, fetching r ok, quiet r ok) depth 14

    acks : (stage : Stage) → ((force : Force) → Kept (decides (record r { stage = stage }) force)) → (sender view number : ℕ) → Kept (on_probe_ack (record r { stage = stage }) sender view number)
    acks Idle h sender view number = quiet r ok _ refl refl refl tt
    acks (Fetching fetch) h sender view number = quiet r ok _ refl refl refl tt
    acks (Probing force) h sender view number = search (either Kept, h, quiet r ok) depth 12
    acks (Trimming trimmer) h sender view number = quiet r ok _ refl refl refl tt

    tails : (stage : Stage) → ((force : Force) → Kept (decides (record r { stage = stage }) force)) → (sender view number tail : ℕ) → Kept (on_tail_ready (record r { stage = stage }) sender view number tail)
    tails Idle h sender view number tail = quiet r ok _ refl refl refl tt
    tails (Fetching fetch) h sender view number tail = quiet r ok _ refl refl refl tt
    tails (Probing force) h sender view number tail = search (either Kept, h, quiet r ok) depth 12
    tails (Trimming trimmer) h sender view number tail = quiet r ok _ refl refl refl tt

    parts : (stage : Stage) (sender number from end : ℕ) (entries : List (ℕ × Entry)) → ((number : ℕ) (ask : Ask) → Kept (probes_all (record r { stage = stage }) number ask)) → Kept (on_part (record r { stage = stage }) sender number from end entries)
    parts Idle sender number from end entries h = quiet r ok _ refl refl refl tt
    parts (Fetching fetch) sender number from end entries h = search (either Kept, some_or_none {A = ℕ} Kept, h, quiet r ok) depth 14
    parts (Probing force) sender number from end entries h = quiet r ok _ refl refl refl tt
    parts (Trimming trimmer) sender number from end entries h = quiet r ok _ refl refl refl tt

    gone : (stage : Stage) (number floor : ℕ) → Kept (on_trimmed_at (record r { stage = stage }) number floor)
    gone Idle number floor = quiet r ok _ refl refl refl tt
    gone (Fetching fetch) number floor = search (either Kept, quiet r ok) depth 12
    gone (Probing force) number floor = quiet r ok _ refl refl refl tt
    gone (Trimming trimmer) number floor = quiet r ok _ refl refl refl tt

    trim_acks : (stage : Stage) (sender number : ℕ) → Kept (on_trim_ack (record r { stage = stage }) sender number)
    trim_acks Idle sender number = quiet r ok _ refl refl refl tt
    trim_acks (Fetching fetch) sender number = quiet r ok _ refl refl refl tt
    trim_acks (Probing force) sender number = quiet r ok _ refl refl refl tt
    trim_acks (Trimming trimmer) sender number = search (either Kept, quiet r ok) depth 12

    goes : (stage : Stage) → ReaderOf shape c (record r { stage = stage }) → Kept (goes_on (record r { stage = stage }))
    goes Idle own = quiet r ok _ refl refl refl tt
    goes (Fetching fetch) own = quiet r ok _ refl refl refl (all_first r ok fetch)
    goes (Probing force) own = probing (record r { stage = Probing force }) own force.number force.ask
    goes (Trimming trimmer) own = either Kept (is_trim_complete r trimmer) (ends_trim (record r { stage = Trimming trimmer }) trimmer) (sends_all (record r { stage = Trimming trimmer }) (trim_sends r trimmer))
        (λ h. quiet r ok _ refl refl refl tt) (λ h. quiet r ok _ refl refl refl (trimming r ok trimmer))

    turns : (fetch : Fetch) → Kept (fetches_in_turn r fetch)
    turns fetch = quiet r ok (fetches_in_turn r fetch) refl refl refl (again r ok fetch)

    ticks : (stage : Stage) → Kept (on_reader_tick (record r { stage = stage }))
    ticks Idle = quiet r ok _ refl refl refl tt
    ticks (Fetching fetch) = either Kept (nat_lt (fetch.turn + 1) (2 ^ 32)) (fetches_in_turn (record r { stage = Fetching fetch }) (with_turn fetch)) (stays (record r { stage = Fetching fetch })) (λ h. quiet r ok _ refl refl refl (again r ok (with_turn fetch))) (λ h. quiet r ok _ refl refl refl tt)
    ticks (Probing force) = quiet r ok _ refl refl refl (to_seqs (filter (awaits r force) r.config.seq) (each_filter (IsSeqNode shape) (awaits r force) r.config.seq ok.config.seq) r.config.view force.number)
    ticks (Trimming trimmer) = quiet r ok _ refl refl refl (trimming r ok trimmer)

    begins : (ask : Ask) → Kept (begins_read r ask)
    begins (Range from to) = either Kept (has_number r) (followed (opens r (Range from to)) (λ after. seeks after (Range from to))) (stays r)
        (λ h. keeps_followed (ReaderOf shape c) (Goes shape c) (opens r (Range from to)) (λ after. seeks after (Range from to)) (quiet r ok _ refl refl refl tt)
        (either Kept (from == to) _ _ (λ k. quiet r ok _ refl refl refl tt) (λ k. fetching (with_number r) (record { shaped = ok.shaped; numbered = ok.numbered; config = ok.config }) (r.count + 1) (Range from to) to None)))
        (λ h. quiet r ok _ refl refl refl tt)
    begins (Tail from) = either Kept (has_number r) (followed (opens r (Tail from)) (λ after. seeks after (Tail from))) (stays r)
        (λ h. keeps_followed (ReaderOf shape c) (Goes shape c) (opens r (Tail from)) (λ after. seeks after (Tail from)) (quiet r ok _ refl refl refl tt)
        (probing (with_number r) (record { shaped = ok.shaped; numbered = ok.numbered; config = ok.config }) (r.count + 1) (Tail from)))
        (λ h. quiet r ok _ refl refl refl tt)

    pub asks : (ask : Ask) → Kept (on_ask r ask)
    asks ask = search (either Kept, begins ask, quiet r ok) depth 12

    begins_trims : (floor : ℕ) → Kept (begins_trim r floor)
    begins_trims floor =
        either Kept (has_number r)
        (record { next = with_trimmer r floor; sends = to_each (replicas_of r.config) (Trim (r.count + 1) floor); events = TrimAsk r.client (r.count + 1) floor ∷ [] })
        (stays r)
        (λ h. quiet r ok _ refl refl refl (to_trimmed (replicas_of r.config) (replicas_named shape r.config ok.config) (r.count + 1) floor))
        (λ h. quiet r ok _ refl refl refl tt)

    trims_in : (edition : Edition) (floor : ℕ) → Kept (elim edition [ One ↦ stays r | Two ↦ if is_none (trim_refusal r floor) then begins_trim r floor else stays r ])
    trims_in One floor = quiet r ok _ refl refl refl tt
    trims_in Two floor = search (either Kept, begins_trims floor, quiet r ok) depth 12

  module _ (r : ReaderState) (ok : ReaderOf shape c r) where
    views : (config : Config) → IsNamed shape config → Kept (on_reader_view_is r config)
    views config named =
        let later : ReaderOf shape c (record r { config = config }) = record { shaped = ok.shaped; numbered = ok.numbered; config = named } in
        either Kept (nat_lt r.config.view config.view) (goes_on (record r { config = config })) (stays r)
        (λ h. goes (record r { config = config }) later r.stage later) (λ h. quiet r ok _ refl refl refl tt)

    rows : (sender : ℕ) (msg : Msg) → Goes shape sender c msg → Kept (reader_row r sender msg)
    rows sender (ProbeAck view number) says = acks r ok r.stage (decided r ok) sender view number
    rows sender (TailReady view number tail) says = tails r ok r.stage (decided r ok) sender view number tail
    rows sender (Part number from end entries) says = parts r ok r.stage sender number from end entries (probing r ok)
    rows sender (ViewIs config) says = views config says.2
    rows sender (TrimAck number) says = trim_acks r ok r.stage sender number
    rows sender (TrimmedAt number floor) says = gone r ok r.stage number floor
    rows sender _ says = quiet r ok _ refl refl refl tt

    takes : (sender : ℕ) (msg : Msg) → Goes shape sender c msg → Kept (reader_took r sender msg)
    takes sender msg says =
        either Kept (is_turned_away r.shape sender msg) (stays r) (reader_row r sender msg)
        (λ h. quiet r ok (stays r) refl refl refl tt) (λ h. rows sender msg says)

    pub reader_kept : (input : Input) → GivenTo shape c input → Kept (reader_step r input)
    reader_kept (Take e) given = takes e.from e.msg given
    reader_kept Tick given = ticks r ok r.stage
    reader_kept (AskInput ask) given = asks r ok ask
    reader_kept (TrimInput floor) given = trims_in r ok r.shape.edition floor
    reader_kept _ given = quiet r ok (stays r) refl refl refl tt
