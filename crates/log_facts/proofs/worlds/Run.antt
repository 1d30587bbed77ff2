-- What holds of the world at first, and is kept by each turn, holds after every list of events.
use Rattle.std.proofs.Common.{◌≡◌, ℕ, ◌+◌, ◌*◌, ◌<◌, List, Option, Some, refl, sym, ◌∙◌, ap, subst, arith}
use Rattle.std.specs.Prelude.{slice_range, unwrap_or}
use Rattle.std.proofs.lemmas.Option.{slice_get_within}
use Rattle.list_facts.proofs.Members.{each_in}
use Rattle.list_facts.proofs.Places.{below_at}
use Rattle.rec_id.specs.Identity.{Identity}
use Rattle.view_config.specs.Shape.{Dimensions, IsShape, node_of}
use Rattle.view_config.specs.declared.nodes.Node.{Node}
use Rattle.view_config.specs.declared.nodes.Node.TheVariants.{Shard}
use Rattle.lazy_msgs.specs.declared.input.Input.{Input}
use Rattle.lazy_msgs.specs.declared.input.WorldEvent.{WorldEvent}
use Rattle.lazy_msgs.specs.declared.msg.Envelope.{Envelope}
use Rattle.lazy_rules.specs.ClientNode.{ClientNode, client_node_step}
use Rattle.lazy_rules.specs.ClientState.{ClientState, first_client}
use Rattle.lazy_rules.specs.Lines.{shard_at}
use Rattle.lazy_rules.specs.ReaderState.{ReaderState, first_reader}
use Rattle.lazy_rules.specs.ShardState.{ShardState}
use Rattle.lazy_rules.specs.WorldRules.{client_node, ids_at, ids_in, ids_of_shard, run, step_time}
use Rattle.lazy_rules.specs.WorldState.{WorldState, first_world, shard_place}
use Rattle.world_facts.specs.Forms.{HasForm}
use Rattle.world_facts.specs.Members.{Goes, IsShardNode}
use Rattle.world_facts.specs.MembersOf.{HasMembers}
use Rattle.world_facts.specs.Turns.{ClientTurn, ControlTurn, CrashTurn, IsGiven, IsPeeked, IsTurn, SeqTurn, ShardTurn, Turn, time_in, turned}
use Rattle.world_facts.proofs.ClientTurns.{appends_of, reads_of}
use Rattle.world_facts.proofs.Lists.{place_below}
use Rattle.world_facts.proofs.Nodes.{shard_node_at}
use Rattle.world_facts.proofs.Runs.{every_world, form_of_run, met_all}
use Rattle.world_facts.proofs.goes.All.{members_of_run}
use Rattle.log_facts.specs.Agreed.{Holds, Kept}
use Rattle.log_facts.specs.Ghosts.{Ghost}
use Rattle.log_facts.specs.Good.{AllRows, IsShown}
use Rattle.log_facts.specs.Parts.{no_shard, parts_of, with_node}
use Rattle.log_facts.specs.Said.{Said}
use Rattle.log_facts.proofs.worlds.Changed.{client_put, reader_put}
use Rattle.log_facts.proofs.worlds.ClientTurns.{node_good}
use Rattle.log_facts.proofs.worlds.First.{kept_first}
use Rattle.log_facts.proofs.worlds.Formed.{formed_of}
use Rattle.log_facts.proofs.worlds.Steps.{kept_by}
use Rattle.log_facts.proofs.worlds.Turns.{control_turn, crash_turn, heard_of, moment_of, seq_turn, shard_turn}

module _ (shape : Dimensions) (rows : AllRows shape) (formed : IsShape shape) where
  abbrev Asked : Input → Type 0
  Asked input = Unit {0}

  module _ (w : WorldState) (form : HasForm shape w) (members : HasMembers shape w) (g : Ghost) (holds : Holds shape g w) where
    -- what a client is shown is what the sender of a claim has
    shown_of : (from : ℕ) (ids : List Identity) → IsPeeked w from ids → IsShown shape (parts_of w) from ids
    shown_of from ids peeked =
        let sender = peeked.envelope.from in
        let goes : Goes shape sender peeked.envelope.to peeked.envelope.msg = each_in (λ (x : Envelope). Goes shape x.from x.to x.msg) w.sent members.sent peeked.envelope peeked.sent in
        let said : Said shape g (parts_of w) sender peeked.envelope.to peeked.envelope.msg = each_in (λ (x : Envelope). Said shape g (parts_of w) x.from x.to x.msg) w.sent holds.sent peeked.envelope peeked.sent in
        let replica : IsShardNode shape sender = (subst (Goes shape sender peeked.envelope.to) peeked.claims goes).0 in
        record {
          node = sender;
          replica = replica;
          stable = peeked.stable;
          claimed = subst (Said shape g (parts_of w) sender peeked.envelope.to) peeked.claims said;
          to = peeked.to;
          forward = peeked.forward;
          within = peeked.within;
          is = peeked.is ∙ order_of sender from peeked.to replica;
        }
      where
        order_of : (sender from to : ℕ) → IsShardNode shape sender → ids_at w from to (node_of w.shape sender) ≡ ids_in (slice_range ((parts_of w).shards sender).store.order from to)
        order_of sender from to replica =
            let role : node_of w.shape sender ≡ Some (Shard replica.shard replica.copy) =
            ap (λ (d : Dimensions). node_of d sender) form.shaped ∙ ap (node_of shape) replica.is ∙ shard_node_at shape formed replica.shard replica.copy replica.row replica.column in
            let copies : w.shape.copies ≡ shape.copies = ap (λ (d : Dimensions). d.copies) form.shaped in
            let below : replica.shard * shape.copies + replica.copy < shape.shards * shape.copies = place_below shape.shards shape.copies replica.shard replica.copy replica.row replica.column in
            let count = form.shards in
            let at : replica.shard * w.shape.copies + replica.copy ≡ replica.shard * shape.copies + replica.copy = ap (λ (n : ℕ). replica.shard * n + replica.copy) copies in
            let there = below_at w.shards (shard_place w.shape replica.shard replica.copy) (omega arith) in
            let own : (parts_of w).shards sender ≡ there.0 =
            ap (λ (o : Option Node). unwrap_or (shard_at w o) (no_shard w.shape sender)) role ∙ ap (λ (o : Option ShardState). unwrap_or o (no_shard w.shape sender)) there.1 in
            ap (ids_at w from to) role
            ∙ ap (ids_of_shard from to) there.1
            ∙ ap (λ (s : ShardState). ids_in (slice_range s.store.order from to)) (sym own)

    client_turn : (c : ℕ) (n : ClientNode) (input : Input) → client_node w c ≡ Some n → IsGiven Asked w c input → Kept shape (turned w (ClientTurn c n input))
    client_turn c n input here given =
        let appends = appends_of w c n here in
        let reads = reads_of w c n here in
        let within = slice_get_within w.clients c n.appends appends in
        let counted = form.clients in
        let there : c < shape.clients = omega arith in
        let row = client_node_step n input in
        kept_by shape g w (turned w (ClientTurn c n input)) holds c (step_time w c (time_in input)) (with_node (parts_of w) c row.next row.events) row.sends
        (ap (λ (clients : ℕ → ClientState). record (parts_of (turned w (ClientTurn c n input))) { clients = clients }) (client_put w.shape w.clients c n.appends row.next.appends appends)
        ∙ ap (λ (readers : ℕ → ReaderState). record (with_node (parts_of w) c row.next row.events) { readers = readers }) (reader_put w.shape w.readers c n.reads row.next.reads reads))
        refl
        (node_good shape rows c there g (parts_of w) (moment_of shape rows formed w form members g holds) n
        (ap (λ (o : Option ClientState). unwrap_or o (first_client w.shape c)) appends)
        (ap (λ (o : Option ReaderState). unwrap_or o (first_reader w.shape c)) reads)
        (formed_of shape formed w form members) input (heard_of shape rows formed w form members g holds c input given)
        (λ stable time replica from ids is. shown_of from ids (subst (IsGiven Asked w c) is given)))

    turn_kept : (turn : Turn) → IsTurn Asked w turn → Kept shape (turned w turn)
    turn_kept (ClientTurn c n input) is = client_turn c n input is.0 is.1
    turn_kept (ControlTurn input) is = control_turn shape rows formed w form members g holds input is
    turn_kept (SeqTurn i s input) is = seq_turn shape rows formed w form members g holds i s input is.0 is.1
    turn_kept (ShardTurn i j s input) is = shard_turn shape rows formed w form members g holds i j s input is
    turn_kept (CrashTurn node) is = crash_turn shape rows formed w form members g holds node

  -- where all rows are good, the facts hold after every list of events
  pub kept_of_run : (events : List WorldEvent) → Kept shape (run events (first_world shape))
  kept_of_run events =
      every_world shape Asked (Kept shape) (kept_first shape formed)
      (λ done met kept next is.
      subst (Kept shape) (sym is.did)
      (turn_kept (run done (first_world shape)) (form_of_run shape done) (members_of_run shape done formed) kept.ghost kept.holds is.turn is.is))
      events (met_all events)
