-- Each turn keeps what holds of a world, where all rows are good.
use Rattle.std.proofs.Common.{◌≡◌, ℕ, ◌+◌, ◌<◌, List, [], ◌++◌, Option, Some, slice_get, refl, ◌∙◌, ap, subst, arith, append-nil}
use Rattle.std.specs.Prelude.{unwrap_or}
use Rattle.std.proofs.lemmas.Option.{slice_get_within}
use Rattle.list_facts.specs.Lists.{In}
use Rattle.list_facts.proofs.Cases.{either}
use Rattle.list_facts.proofs.Members.{each_in}
use Rattle.rec_id.specs.declared.event.Event.{Event}
use Rattle.view_config.specs.Nodes.{seq_id, shard_id}
use Rattle.view_config.specs.Shape.{Dimensions, IsShape, node_of}
use Rattle.view_config.specs.declared.nodes.Node.{Node}
use Rattle.view_config.specs.declared.nodes.Node.TheVariants.{Seq, Shard}
use Rattle.view_config.specs.declared.nodes.TheConstants.{CONTROLLER}
use Rattle.lazy_msgs.specs.declared.input.Input.{Input}
use Rattle.lazy_msgs.specs.declared.input.Input.TheVariants.{Take, Tick, Grace, Suspect}
use Rattle.lazy_msgs.specs.declared.msg.Envelope.{Envelope}
use Rattle.lazy_msgs.specs.declared.msg.Msg.{Msg}
use Rattle.lazy_msgs.specs.declared.msg.Msg.TheVariants.{Append, Put, Place, Placed, Copy, Copied, Order, Ordered, Stable, Probe, Fetch, Flush, FlushCopy, Flushed, Seal, Sealed, SealedEmpty, NewView, Started, AskView, Trim as TrimMsg}
use Rattle.lazy_rules.specs.ControlRules.{control_row, control_step}
use Rattle.lazy_rules.specs.Door.{is_turned_away}
use Rattle.lazy_rules.specs.Holders.{seq_at}
use Rattle.lazy_rules.specs.Lines.{shard_at}
use Rattle.lazy_rules.specs.Rows.{stays}
use Rattle.lazy_rules.specs.SeqRules.{seq_row, seq_step}
use Rattle.lazy_rules.specs.SeqState.{SeqState}
use Rattle.lazy_rules.specs.ShardRules.{shard_row, shard_step}
use Rattle.lazy_rules.specs.ShardState.{ShardState}
use Rattle.lazy_rules.specs.WorldRules.{step_time}
use Rattle.lazy_rules.specs.WorldState.{WorldState}
use Rattle.world_facts.specs.Forms.{HasForm}
use Rattle.world_facts.specs.Members.{Goes, IsSeqNode, IsShardNode}
use Rattle.world_facts.specs.MembersOf.{HasMembers}
use Rattle.world_facts.specs.Turns.{ControlTurn, CrashTurn, IsGiven, IsShardTurn, SeqTurn, ShardTurn, time_in, turned}
use Rattle.world_facts.proofs.Nodes.{seq_node_of, shard_node_at}
use Rattle.log_facts.specs.Agreed.{Holds, Kept}
use Rattle.log_facts.specs.Ghosts.{Ghost}
use Rattle.log_facts.specs.Good.{AllRows, GoodControl, GoodSeq, GoodShard, Heard, Moment}
use Rattle.log_facts.specs.Parts.{Parts, no_seq, no_shard, parts_of, with_control, with_seq, with_shard}
use Rattle.log_facts.specs.Said.{Said}
use Rattle.log_facts.proofs.worlds.Changed.{seq_put, shard_put}
use Rattle.log_facts.proofs.worlds.Formed.{formed_of}
use Rattle.log_facts.proofs.worlds.Quiet.{quiet_control, quiet_seq, quiet_shard}
use Rattle.log_facts.proofs.worlds.Steps.{good_same, good_control_stays, good_seq_stays, good_shard_stays, kept_by}

module _ (shape : Dimensions) (rows : AllRows shape) where
  -- ---- each row at its node
  module _ (g : Ghost) (a : Parts) (moment : Moment shape g a) where
    seq_takes : (me sender : ℕ) (msg : Msg) → IsSeqNode shape me → Heard shape g a sender me msg → GoodSeq shape g a me (seq_row (a.seqs me) sender msg)
    seq_takes me sender (Append view id bytes) node heard = rows.seqs.append view id bytes g a sender me moment node heard
    seq_takes me sender (Placed view upto) node heard = rows.seqs.placed view upto g a sender me moment node heard
    seq_takes me sender (Order view from ids) node heard = rows.seqs.order view from ids g a sender me moment node heard
    seq_takes me sender (Ordered view upto) node heard = rows.seqs.ordered view upto g a sender me moment node heard
    seq_takes me sender (Probe view read) node heard = rows.seqs.probe view read g a sender me moment node heard
    seq_takes me sender (Seal view) node heard = rows.seqs.seal view g a sender me moment node heard
    seq_takes me sender (NewView config base window) node heard = rows.seqs.new_view config base window g a sender me moment node heard
    seq_takes me sender _ node heard = good_seq_stays shape g a moment.agreed me

    pub seq_good : (me : ℕ) (input : Input) → IsSeqNode shape me → ((e : Envelope) → input ≡ Take e → Heard shape g a e.from me e.msg) → GoodSeq shape g a me (seq_step (a.seqs me) input)
    seq_good me (Take e) node heard =
        either (GoodSeq shape g a me) (is_turned_away (a.seqs me).shape e.from e.msg) (stays (a.seqs me)) (seq_row (a.seqs me) e.from e.msg)
        (λ away. good_seq_stays shape g a moment.agreed me) (λ let_in. seq_takes me e.from e.msg node (heard e refl))
    seq_good me Tick node heard = rows.seqs.tick g a me moment node
    seq_good me _ node heard = good_seq_stays shape g a moment.agreed me

    shard_takes : (me sender : ℕ) (msg : Msg) → IsShardNode shape me → Heard shape g a sender me msg → GoodShard shape g a me (shard_row (a.shards me) sender msg)
    shard_takes me sender (Put id bytes) node heard = rows.shards.put id bytes g a sender me moment node heard
    shard_takes me sender (Place view from items) node heard = rows.shards.place view from items g a sender me moment node heard
    shard_takes me sender (Copy view from cells) node heard = rows.shards.copy view from cells g a sender me moment node heard
    shard_takes me sender (Copied view upto) node heard = rows.shards.copied view upto g a sender me moment node heard
    shard_takes me sender (Stable view upto) node heard = rows.shards.stable view upto g a sender me moment node heard
    shard_takes me sender (Fetch read from end) node heard = rows.shards.fetch read from end g a sender me moment node heard
    shard_takes me sender (Flush config from items) node heard = rows.shards.flush config from items g a sender me moment node heard
    shard_takes me sender (FlushCopy view from cells) node heard = rows.shards.flush_copy view from cells g a sender me moment node heard
    shard_takes me sender (TrimMsg read floor) node heard = rows.shards.trim read floor g a sender me moment node heard
    shard_takes me sender _ node heard = good_shard_stays shape g a moment.agreed me

    pub shard_good : (me : ℕ) (input : Input) → IsShardNode shape me → ((e : Envelope) → input ≡ Take e → Heard shape g a e.from me e.msg) → GoodShard shape g a me (shard_step (a.shards me) input)
    shard_good me (Take e) node heard =
        either (GoodShard shape g a me) (is_turned_away (a.shards me).shape e.from e.msg) (stays (a.shards me)) (shard_row (a.shards me) e.from e.msg)
        (λ away. good_shard_stays shape g a moment.agreed me) (λ let_in. shard_takes me e.from e.msg node (heard e refl))
    shard_good me Grace node heard = rows.shards.grace g a me moment node
    shard_good me _ node heard = good_shard_stays shape g a moment.agreed me

    control_takes : (sender : ℕ) (msg : Msg) → Heard shape g a sender CONTROLLER msg → GoodControl shape g a (control_row a.control sender msg)
    control_takes sender (Sealed view bound window items) heard = rows.control.sealed view bound window items g a sender moment heard
    control_takes sender (SealedEmpty view) heard = rows.control.sealed_empty view g a sender moment heard
    control_takes sender (Flushed view) heard = rows.control.flushed view g a sender moment heard
    control_takes sender (Started view) heard = rows.control.started view g a sender moment heard
    control_takes sender AskView heard = rows.control.ask_view g a sender moment heard
    control_takes sender _ heard = good_control_stays shape g a moment.agreed

    pub control_good : (input : Input) → ((e : Envelope) → input ≡ Take e → Heard shape g a e.from CONTROLLER e.msg) → GoodControl shape g a (control_step a.control input)
    control_good (Take e) heard =
        either (GoodControl shape g a) (is_turned_away a.control.shape e.from e.msg) (stays a.control) (control_row a.control e.from e.msg)
        (λ away. good_control_stays shape g a moment.agreed) (λ let_in. control_takes e.from e.msg (heard e refl))
    control_good Tick heard = rows.control.tick g a moment
    control_good (Suspect node) heard = rows.control.suspect node g a moment
    control_good _ heard = good_control_stays shape g a moment.agreed

  -- ---- in a world
  module _ (formed : IsShape shape) (w : WorldState) (form : HasForm shape w) (members : HasMembers shape w) (g : Ghost) (holds : Holds shape g w) where
    abbrev Asked : Input → Type 0
    Asked input = Unit {0}

    pub moment_of : Moment shape g (parts_of w)
    moment_of = record { is_shape = formed; formed = formed_of shape formed w form members; agreed = holds.agreed }

    -- what was sent was said, and goes where it is due
    pub heard_of : (me : ℕ) (input : Input) → IsGiven Asked w me input → (e : Envelope) → input ≡ Take e → Heard shape g (parts_of w) e.from me e.msg
    heard_of me input given e is =
        let here : (e.to ≡ me) × In e w.sent = subst (IsGiven Asked w me) is given in
        record {
          goes = subst (λ (to : ℕ). Goes shape e.from to e.msg) here.0 (each_in (λ (x : Envelope). Goes shape x.from x.to x.msg) w.sent members.sent e here.1);
          said = subst (λ (to : ℕ). Said shape g (parts_of w) e.from to e.msg) here.0 (each_in (λ (x : Envelope). Said shape g (parts_of w) x.from x.to x.msg) w.sent holds.sent e here.1);
        }

    -- a node that tells nothing leaves the history
    quiet : (told : List Event) → told ≡ [] → w.history ++ told ≡ w.history
    quiet told none = ap (λ (es : List Event). w.history ++ es) none ∙ append-nil w.history

    pub control_turn : (input : Input) → IsGiven Asked w CONTROLLER input → Kept shape (turned w (ControlTurn input))
    control_turn input given =
        let row = control_step w.control input in
        kept_by shape g w (turned w (ControlTurn input)) holds CONTROLLER (step_time w CONTROLLER (time_in input)) (with_control (parts_of w) row.next) row.sends
        (ap (λ (history : List Event). record (with_control (parts_of w) row.next) { history = history }) (quiet row.events (quiet_control w.control input)))
        refl (control_good g (parts_of w) moment_of input (heard_of CONTROLLER input given))

    pub seq_turn : (i : ℕ) (s : SeqState) (input : Input) → slice_get w.seqs i ≡ Some s → IsGiven Asked w (seq_id i) input → Kept shape (turned w (SeqTurn i s input))
    seq_turn i s input here given =
        let row = seq_step s input in
        let next = turned w (SeqTurn i s input) in
        let within = slice_get_within w.seqs i s here in
        let counted = form.seqs in
        let there : i < shape.seq + shape.spares = omega arith in
        let role : node_of w.shape (seq_id i) ≡ Some (Seq i) = ap (λ (d : Dimensions). node_of d (seq_id i)) form.shaped ∙ seq_node_of shape formed i there in
        let own : (parts_of w).seqs (seq_id i) ≡ s =
        ap (λ (o : Option Node). unwrap_or (seq_at w o) (no_seq w.shape (seq_id i))) role ∙ ap (λ (o : Option SeqState). unwrap_or o (no_seq w.shape (seq_id i))) here in
        kept_by shape g w next holds (seq_id i) (step_time w (seq_id i) (time_in input)) (with_seq (parts_of w) (seq_id i) row.next) row.sends
        (ap (λ (history : List Event). record (parts_of next) { history = history }) (quiet row.events (quiet_seq s input))
        ∙ ap (λ (seqs : ℕ → SeqState). record (parts_of w) { seqs = seqs }) (seq_put w next refl i s row.next here refl role))
        refl
        (subst (λ (t : SeqState). GoodSeq shape g (parts_of w) (seq_id i) (seq_step t input)) own
        (seq_good g (parts_of w) moment_of (seq_id i) input (record { place = i; few = there; is = refl }) (heard_of (seq_id i) input given)))

    pub shard_turn : (i j : ℕ) (s : ShardState) (input : Input) → IsShardTurn Asked w i j s input → Kept shape (turned w (ShardTurn i j s input))
    shard_turn i j s input is =
        let row = shard_step s input in
        let next = turned w (ShardTurn i j s input) in
        let few : i < shape.shards = subst (λ (d : Dimensions). i < d.shards) form.shaped is.shard in
        let column : j < shape.copies = subst (λ (d : Dimensions). j < d.copies) form.shaped is.copy in
        let role : node_of w.shape (shard_id i j) ≡ Some (Shard i j) = ap (λ (d : Dimensions). node_of d (shard_id i j)) form.shaped ∙ shard_node_at shape formed i j few column in
        let own : (parts_of w).shards (shard_id i j) ≡ s =
        ap (λ (o : Option Node). unwrap_or (shard_at w o) (no_shard w.shape (shard_id i j))) role ∙ ap (λ (o : Option ShardState). unwrap_or o (no_shard w.shape (shard_id i j))) is.here in
        kept_by shape g w next holds (shard_id i j) (step_time w (shard_id i j) (time_in input)) (with_shard (parts_of w) (shard_id i j) row.next) row.sends
        (ap (λ (history : List Event). record (parts_of next) { history = history }) (quiet row.events (quiet_shard s input))
        ∙ ap (λ (shards : ℕ → ShardState). record (parts_of w) { shards = shards }) (shard_put w next refl i j s row.next is.shard is.copy is.here refl role))
        refl
        (subst (λ (t : ShardState). GoodShard shape g (parts_of w) (shard_id i j) (shard_step t input)) own
        (shard_good g (parts_of w) moment_of (shard_id i j) input (record { shard = i; copy = j; row = few; column = column; is = refl }) (heard_of (shard_id i j) input is.given)))

    -- a crash changes no part
    pub crash_turn : (node : ℕ) → Kept shape (turned w (CrashTurn node))
    crash_turn node =
        kept_by shape g w (turned w (CrashTurn node)) holds node (step_time w node 0) (parts_of w) []
        (ap (λ (history : List Event). record (parts_of w) { history = history }) (append-nil w.history))
        refl (good_same shape g (parts_of w) holds.agreed node)
