-- Each event that isn't refused is one turn of one node, unless it delivers a message to a number that no node
-- has.
use Rattle.std.proofs.Common.{◌≡◌, ◌⊎◌, ℕ, ◌+◌, ◌*◌, ◌<◌, ◌≤◌, List, length, Bool, true, false, Option, Some, None, inl, inr, refl, sym, ap, ◌∙◌, arith}
use Rattle.std.specs.Prelude.{◌-◌, nat_lt, if◌then◌else◌, slice_get, slice_set}
use Rattle.std.proofs.lemmas.Bool.{ltb-false}
use Rattle.rec_id.specs.declared.limits.TheConstants.{READ_LIMIT}
use Rattle.std.specs.Option.{is_none}
use Rattle.std.proofs.lemmas.Option.{slice_get_within}
use Rattle.list_facts.specs.Lists.{In}
use Rattle.list_facts.proofs.Places.{below_at}
use Rattle.rec_id.specs.declared.event.Ask.{Ask as AskOf}
use Rattle.view_config.specs.Shape.{Dimensions, node_of}
use Rattle.view_config.specs.declared.edition.Edition.{Edition}
use Rattle.view_config.specs.declared.edition.Edition.TheVariants.{One, Two}
use Rattle.view_config.specs.declared.nodes.Node.{Node}
use Rattle.view_config.specs.declared.nodes.Node.TheVariants.{Client, Controller, Seq, Shard}
use Rattle.view_config.specs.declared.nodes.TheConstants.{FIRST_SHARD}
use Rattle.lazy_msgs.specs.declared.input.Input.{Input}
use Rattle.lazy_msgs.specs.declared.input.Input.TheVariants.{Take, Tick as TickInput, Grace as GraceInput, Post as PostInput, Ask as AskInput, Trim as TrimInput, Suspect as SuspectInput, Peek as PeekInput}
use Rattle.lazy_msgs.specs.declared.input.WorldEvent.{WorldEvent}
use Rattle.lazy_msgs.specs.declared.input.WorldEvent.TheVariants.{Post, Ask, Trim, Peek, Deliver, Tick, Grace, Crash, Suspect}
use Rattle.lazy_msgs.specs.declared.msg.Envelope.{Envelope}
use Rattle.lazy_msgs.specs.declared.msg.Msg.{Msg}
use Rattle.lazy_msgs.specs.declared.msg.Msg.TheVariants.{Claim}
use Rattle.lazy_msgs.specs.declared.refused.BeginRefused.{BeginRefused}
use Rattle.lazy_msgs.specs.declared.refused.PostRefused.{PostRefused}
use Rattle.lazy_msgs.specs.declared.refused.SuspectRefused.{SuspectRefused}
use Rattle.lazy_msgs.specs.declared.refused.TrimRefused.{TrimRefused}
use Rattle.lazy_msgs.specs.declared.refused.EventRefused.TheVariants.{NoNode, NoMessage, IsClaim, NotClaim, Crashed, NoTrim, Backward, Wide, NotYet, Post as PostRefusedSo, Begin as BeginRefusedSo, Suspect as SuspectRefusedSo, Trim as TrimRefusedSo}
use Rattle.lazy_msgs.specs.Step.{Row}
use Rattle.lazy_rules.specs.ClientNode.{ClientNode, Half, Appends, Reads, Both, half_of, half_took, in_appends, in_reads}
use Rattle.lazy_rules.specs.ClientRules.{post_refusal, invokes, client_took}
use Rattle.lazy_rules.specs.ClientState.{ClientState}
use Rattle.lazy_rules.specs.ControlRules.{suspect_refusal, replaces}
use Rattle.lazy_rules.specs.ReaderRules.{begin_refusal, begins_read, trim_refusal, begins_trim, on_trim_input, reader_took}
use Rattle.lazy_rules.specs.ReaderState.{ReaderState}
use Rattle.lazy_rules.specs.Rows.{stays, has_node}
use Rattle.lazy_rules.specs.SeqRules.{seq_took}
use Rattle.lazy_rules.specs.SeqState.{SeqState}
use Rattle.lazy_rules.specs.ShardRules.{shard_took}
use Rattle.lazy_rules.specs.ShardState.{ShardState}
use Rattle.lazy_rules.specs.WorldState.{WorldState, shard_place}
use Rattle.lazy_rules.specs.WorldRules.{after, refusal, stepped, client_did, reader_did, client_node_did, control_did, halves, client_node, posted, asked, trimmed, peeked, delivered, received, client_received, appends_received, reads_received, both_received, seq_did, shard_did, seq_received, shard_received, given, client_given, seq_given, shard_given, ids_at, claimed, message_at, post_refused_at, posting_refused, ask_refused_at, asking_refused, trim_refused_at, trim_refused_in, trimming_refused, peek_refused_at, peek_refused, claim_refused, range_refused, delivery_refused, delivery_to_refused, step_refused_at, suspect_refused_at, suspecting_refused}
use Rattle.world_facts.specs.Forms.{HasForm}
use Rattle.world_facts.specs.Turns.{ClientTurn, ControlTurn, SeqTurn, ShardTurn, CrashTurn, IsNext, IsMail, IsLost, Meets}
use Rattle.world_facts.proofs.Lists.{set_same, numbered_in, place_below, not_then}
use Rattle.world_facts.proofs.Nodes.{client_is, controller_is, seq_is, shard_is}

posting_free : (o : Option PostRefused) → posting_refused o ≡ None → o ≡ None
posting_free None h = refl
posting_free (Some r) h = let wrong : Some (PostRefusedSo r) ≡ None = h in cc

asking_free : (o : Option BeginRefused) → asking_refused o ≡ None → o ≡ None
asking_free None h = refl
asking_free (Some r) h = let wrong : Some (BeginRefusedSo r) ≡ None = h in cc

trimming_free : (o : Option TrimRefused) → trimming_refused o ≡ None → o ≡ None
trimming_free None h = refl
trimming_free (Some r) h = let wrong : Some (TrimRefusedSo r) ≡ None = h in cc

suspecting_free : (o : Option SuspectRefused) → suspecting_refused o ≡ None → o ≡ None
suspecting_free None h = refl
suspecting_free (Some r) h = let wrong : Some (SuspectRefusedSo r) ≡ None = h in cc

-- edition Two has trims
trim_free : (edition : Edition) (r : ReaderState) (floor : ℕ) → trim_refused_in edition r floor ≡ None → (edition ≡ Two) × (trim_refusal r floor ≡ None)
trim_free One r floor h = let wrong : Some NoTrim ≡ None = h in cc
trim_free Two r floor h = (refl, trimming_free (trim_refusal r floor) h)

mail : (w : WorldState) (k to : ℕ) (msg : Msg) → delivery_to_refused w k to msg ≡ None → IsMail msg
mail w k to (Claim stable) h = let wrong : Some (IsClaim k) ≡ None = h in cc
mail w k to _ h = tt

peek_past : (w : WorldState) (c k from to : ℕ) (o : Option ClientState) → peek_refused_at w c k from to o ≡ None → peek_refused w c k from to (message_at w k) ≡ None
peek_past w c k from to None free = let wrong : Some (NoNode c) ≡ None = free in cc
peek_past w c k from to (Some s) free = free

-- a peek that isn't refused is of a claim, below what that claimed
range_free : (from to stable : ℕ) → range_refused from to stable ≡ None → (from ≤ to) × (to ≤ stable)
range_free from to stable free = by (nat_lt to from) refl (nat_lt READ_LIMIT (to - from)) (nat_lt stable to) refl free
  where
    by : (a : Bool) → nat_lt to from ≡ a → (b c : Bool) → nat_lt stable to ≡ c
        → (if a then Some Backward else (if b then Some Wide else (if c then Some (NotYet stable) else None))) ≡ None → (from ≤ to) × (to ≤ stable)
    by true e b c f h = let wrong : Some Backward ≡ None = h in cc
    by false e true c f h = let wrong : Some Wide ≡ None = h in cc
    by false e false true f h = let wrong : Some (NotYet stable) ≡ None = h in cc
    by false e false false f h = (ltb-false to from e, ltb-false stable to f)

claim_free : (w : WorldState) (c k from to : ℕ) (msg : Msg) → claim_refused w c k from to msg ≡ None → (stable : ℕ) × (msg ≡ Claim stable) × (from ≤ to) × (to ≤ stable)
claim_free w c k from to (Claim stable) free =
    let range = range_free from to stable (not_then (has_node w.crashed c) (Crashed c) (range_refused from to stable) free) in
    (stable, refl, range.0, range.1)
claim_free w c k from to _ free = let wrong : Some (NotClaim k) ≡ None = free in cc

module _ (shape : Dimensions) (Asked : Input → Type 0) (w : WorldState) (form : HasForm shape w) where
  abbrev Next : WorldState → Type 0
  Next next = IsNext Asked w next

  -- both halves of a client are there
  module _ (c : ℕ) (appends : ClientState) (reads : ReaderState) (here : slice_get w.clients c ≡ Some appends) (there : slice_get w.readers c ≡ Some reads) where
    abbrev node : ClientNode
    node = record { appends = appends; reads = reads }

    node_here : client_node w c ≡ Some node
    node_here = ap (λ (o : Option ClientState). halves o (slice_get w.readers c)) here ∙ ap (halves (Some appends)) there

    appends_did : (time : ℕ) (row : Row ClientState) → client_did w c time row ≡ client_node_did w c time (in_appends node row)
    appends_did time row = ap (λ (rs : List ReaderState). stepped (record w { clients = slice_set w.clients c row.next; readers = rs }) c time row.sends row.events) (sym (set_same w.readers c reads there))

    reads_did : (time : ℕ) (row : Row ReaderState) → reader_did w c time row ≡ client_node_did w c time (in_reads node row)
    reads_did time row = ap (λ (cs : List ClientState). stepped (record w { clients = cs; readers = slice_set w.readers c row.next }) c time row.sends row.events) (sym (set_same w.clients c appends here))

  reader_there : (c : ℕ) (appends : ClientState) → slice_get w.clients c ≡ Some appends → (r : ReaderState) × (slice_get w.readers c ≡ Some r)
  reader_there c appends here =
      let within = slice_get_within w.clients c appends here in
      let clients = form.clients in
      let readers = form.readers in
      below_at w.readers c (omega arith)

  client_there : (c : ℕ) (reads : ReaderState) → slice_get w.readers c ≡ Some reads → (s : ClientState) × (slice_get w.clients c ≡ Some s)
  client_there c reads there =
      let within = slice_get_within w.readers c reads there in
      let clients = form.clients in
      let readers = form.readers in
      below_at w.clients c (omega arith)

  post : (c : ℕ) (bytes : List ℕ) (o : Option ClientState) → slice_get w.clients c ≡ o → post_refused_at w c bytes o ≡ None → Asked (PostInput bytes) → Next (posted w c bytes o)
  post c bytes None here free may = let wrong : Some (NoNode c) ≡ None = free in cc
  post c bytes (Some s) here free may =
      let reader = reader_there c s here in
      let allowed = posting_free (post_refusal s (length bytes)) (not_then (has_node w.crashed c) (Crashed c) (posting_refused (post_refusal s (length bytes))) free) in
      record {
        turn = ClientTurn c (node c s reader.0 here reader.1) (PostInput bytes);
        is = (node_here c s reader.0 here reader.1, may);
        did = appends_did c s reader.0 here reader.1 0 (invokes s bytes)
            ∙ ap (λ (o : Option PostRefused). client_node_did w c 0 (in_appends (node c s reader.0 here reader.1) (if is_none o then invokes s bytes else stays s))) (sym allowed);
      }

  ask : (c : ℕ) (wanted : AskOf) (o : Option ReaderState) → slice_get w.readers c ≡ o → ask_refused_at w c wanted o ≡ None → Asked (AskInput wanted) → Next (asked w c wanted o)
  ask c wanted None there free may = let wrong : Some (NoNode c) ≡ None = free in cc
  ask c wanted (Some r) there free may =
      let client = client_there c r there in
      let allowed = asking_free (begin_refusal r wanted) (not_then (has_node w.crashed c) (Crashed c) (asking_refused (begin_refusal r wanted)) free) in
      record {
        turn = ClientTurn c (node c client.0 r client.1 there) (AskInput wanted);
        is = (node_here c client.0 r client.1 there, may);
        did = reads_did c client.0 r client.1 there 0 (begins_read r wanted)
            ∙ ap (λ (o : Option BeginRefused). client_node_did w c 0 (in_reads (node c client.0 r client.1 there) (if is_none o then begins_read r wanted else stays r))) (sym allowed);
      }

  trim_row : (r : ReaderState) (floor : ℕ) → r.shape.edition ≡ Two → trim_refusal r floor ≡ None → begins_trim r floor ≡ on_trim_input r floor
  trim_row r floor two allowed =
      ap (λ (o : Option TrimRefused). if is_none o then begins_trim r floor else stays r) (sym allowed)
      ∙ ap (λ (edition : Edition). elim edition as (λ (e : Edition). Row ReaderState) [ One ↦ stays r | Two ↦ if is_none (trim_refusal r floor) then begins_trim r floor else stays r ]) (sym two)

  trim : (c floor : ℕ) (o : Option ReaderState) → slice_get w.readers c ≡ o → trim_refused_at w c floor o ≡ None → Asked (TrimInput floor) → Next (trimmed w c floor o)
  trim c floor None there free may = let wrong : Some (NoNode c) ≡ None = free in cc
  trim c floor (Some r) there free may =
      let client = client_there c r there in
      let allowed = trim_free w.shape.edition r floor (not_then (has_node w.crashed c) (Crashed c) (trim_refused_in w.shape.edition r floor) free) in
      let two = ap (λ (d : Dimensions). d.edition) (form.readers_shaped c r there ∙ sym form.shaped) ∙ allowed.0 in
      record {
        turn = ClientTurn c (node c client.0 r client.1 there) (TrimInput floor);
        is = (node_here c client.0 r client.1 there, may);
        did = reads_did c client.0 r client.1 there 0 (begins_trim r floor)
            ∙ ap (λ (row : Row ReaderState). client_node_did w c 0 (in_reads (node c client.0 r client.1 there) row)) (trim_row r floor two allowed.1);
      }

  peek : (c k from to : ℕ) (o : Option ClientState) → slice_get w.clients c ≡ o → (found : Option Envelope) → message_at w k ≡ found → peek_refused_at w c k from to o ≡ None → peek_refused w c k from to found ≡ None → Next (peeked w c from to found)
  peek c k from to None here found there free past = let wrong : Some (NoNode c) ≡ None = free in cc
  peek c k from to (Some s) here None there free past = let wrong : Some (NoMessage k) ≡ None = past in cc
  peek c k from to (Some s) here (Some e) there free past =
      let reader = reader_there c s here in
      let claim = claim_free w c k from to e.msg past in
      record {
        turn = ClientTurn c (node c s reader.0 here reader.1) (PeekInput (claimed e.msg) e.time (e.from - FIRST_SHARD) from (ids_at w from to (node_of w.shape e.from)));
        is = (
          node_here c s reader.0 here reader.1,
          record {
            envelope = e;
            sent = numbered_in w.sent k e there;
            stable = claim.0;
            claims = claim.1;
            to = to;
            forward = claim.2;
            within = claim.3;
            is = refl;
          },
        );
        did = ap (client_given w c (PeekInput (claimed e.msg) e.time (e.from - FIRST_SHARD) from (ids_at w from to (node_of w.shape e.from)))) (node_here c s reader.0 here reader.1);
      }

  client_at : (c : ℕ) → c < w.shape.clients → (s : ClientState) × (slice_get w.clients c ≡ Some s)
  client_at c there =
      let shaped : w.shape.clients ≡ shape.clients = ap (λ (d : Dimensions). d.clients) form.shaped in
      let counted = form.clients in
      below_at w.clients c (omega arith)

  seq_at : (i : ℕ) → i < w.shape.seq + w.shape.spares → (s : SeqState) × (slice_get w.seqs i ≡ Some s)
  seq_at i there =
      let shaped : w.shape.seq + w.shape.spares ≡ shape.seq + shape.spares = ap (λ (d : Dimensions). d.seq + d.spares) form.shaped in
      let counted = form.seqs in
      below_at w.seqs i (omega arith)

  shard_at : (i j : ℕ) → i < w.shape.shards → j < w.shape.copies → (s : ShardState) × (slice_get w.shards (shard_place w.shape i j) ≡ Some s)
  shard_at i j row column =
      let shaped : w.shape.shards * w.shape.copies ≡ shape.shards * shape.copies = ap (λ (d : Dimensions). d.shards * d.copies) form.shaped in
      let counted = form.shards in
      let below = place_below w.shape.shards w.shape.copies i j row column in
      below_at w.shards (shard_place w.shape i j) (omega arith)

  -- an input from outside that asks for nothing
  give_tick : (number : ℕ) (o : Option Node) → node_of w.shape number ≡ o → step_refused_at w number o ≡ None → Next (given w number TickInput o)
  give_tick number None is free = let wrong : Some (NoNode number) ≡ None = free in cc
  give_tick number (Some (Client c)) is free =
      let client = client_at c (client_is w.shape number c is).1 in
      let reader = reader_there c client.0 client.1 in
      record {
        turn = ClientTurn c (node c client.0 reader.0 client.1 reader.1) TickInput;
        is = (node_here c client.0 reader.0 client.1 reader.1, tt);
        did = ap (client_given w c TickInput) (node_here c client.0 reader.0 client.1 reader.1);
      }
  give_tick number (Some Controller) is free = record { turn = ControlTurn TickInput; is = tt; did = refl }
  give_tick number (Some (Seq i)) is free =
      let k = seq_is w.shape number i is in
      let seq = seq_at i k.1 in
      record {
        turn = SeqTurn i seq.0 TickInput;
        is = (seq.1, tt);
        did = ap (seq_given w number i TickInput) seq.1 ∙ ap (λ (m : ℕ). seq_given w m i TickInput (Some seq.0)) k.0;
      }
  give_tick number (Some (Shard i j)) is free =
      let k = shard_is w.shape number i j is in
      let shard = shard_at i j k.1 k.2 in
      record {
        turn = ShardTurn i j shard.0 TickInput;
        is = record { shard = k.1; copy = k.2; here = shard.1; given = tt };
        did = ap (shard_given w number (shard_place w.shape i j) TickInput) shard.1 ∙ ap (λ (m : ℕ). shard_given w m (shard_place w.shape i j) TickInput (Some shard.0)) k.0;
      }

  give_grace : (number : ℕ) (o : Option Node) → node_of w.shape number ≡ o → step_refused_at w number o ≡ None → Next (given w number GraceInput o)
  give_grace number None is free = let wrong : Some (NoNode number) ≡ None = free in cc
  give_grace number (Some (Client c)) is free =
      let client = client_at c (client_is w.shape number c is).1 in
      let reader = reader_there c client.0 client.1 in
      record {
        turn = ClientTurn c (node c client.0 reader.0 client.1 reader.1) GraceInput;
        is = (node_here c client.0 reader.0 client.1 reader.1, tt);
        did = ap (client_given w c GraceInput) (node_here c client.0 reader.0 client.1 reader.1);
      }
  give_grace number (Some Controller) is free = record { turn = ControlTurn GraceInput; is = tt; did = refl }
  give_grace number (Some (Seq i)) is free =
      let k = seq_is w.shape number i is in
      let seq = seq_at i k.1 in
      record {
        turn = SeqTurn i seq.0 GraceInput;
        is = (seq.1, tt);
        did = ap (seq_given w number i GraceInput) seq.1 ∙ ap (λ (m : ℕ). seq_given w m i GraceInput (Some seq.0)) k.0;
      }
  give_grace number (Some (Shard i j)) is free =
      let k = shard_is w.shape number i j is in
      let shard = shard_at i j k.1 k.2 in
      record {
        turn = ShardTurn i j shard.0 GraceInput;
        is = record { shard = k.1; copy = k.2; here = shard.1; given = tt };
        did = ap (shard_given w number (shard_place w.shape i j) GraceInput) shard.1 ∙ ap (λ (m : ℕ). shard_given w m (shard_place w.shape i j) GraceInput (Some shard.0)) k.0;
      }

  -- what suspects a node is a step of the controller
  suspect : (number : ℕ) (o : Option Node) → suspect_refused_at w number o ≡ None → Asked (SuspectInput number) → Next (control_did w 0 (replaces w.control number))
  suspect number None free may = let wrong : Some (NoNode number) ≡ None = free in cc
  suspect number (Some role) free may =
      let allowed = suspecting_free (suspect_refusal w.control number) free in
      record {
        turn = ControlTurn (SuspectInput number);
        is = may;
        did = ap (λ (o : Option SuspectRefused). control_did w 0 (if is_none o then replaces w.control number else stays w.control)) (sym allowed);
      }

  -- a delivery
  module _ (e : Envelope) (sent : In e w.sent) where
    client_took_it : (c : ℕ) → e.to ≡ c → (s : ClientState) (r : ReaderState) → slice_get w.clients c ≡ Some s → slice_get w.readers c ≡ Some r → (h : Half) → half_of e.msg ≡ h → Next (client_received w c e h)
    client_took_it c to s r here there Appends is = record {
      turn = ClientTurn c (record { appends = s; reads = r }) (Take e);
      is = (node_here c s r here there, (to, sent));
      did = ap (appends_received w c e) here
          ∙ appends_did c s r here there e.time (client_took s e.from e.msg)
          ∙ ap (λ (h : Half). client_node_did w c e.time (half_took h (record { appends = s; reads = r }) e.from e.msg)) (sym is);
    }
    client_took_it c to s r here there Reads is = record {
      turn = ClientTurn c (record { appends = s; reads = r }) (Take e);
      is = (node_here c s r here there, (to, sent));
      did = ap (reads_received w c e) there
          ∙ reads_did c s r here there e.time (reader_took r e.from e.msg)
          ∙ ap (λ (h : Half). client_node_did w c e.time (half_took h (record { appends = s; reads = r }) e.from e.msg)) (sym is);
    }
    client_took_it c to s r here there Both is = record {
      turn = ClientTurn c (record { appends = s; reads = r }) (Take e);
      is = (node_here c s r here there, (to, sent));
      did = ap (both_received w c e) (node_here c s r here there)
          ∙ ap (λ (h : Half). client_node_did w c e.time (half_took h (record { appends = s; reads = r }) e.from e.msg)) (sym is);
    }

    receive : IsMail e.msg → (o : Option Node) → node_of w.shape e.to ≡ o → Next (received w e o) ⊎ IsLost w (received w e o)
    receive letter None is = inr (record { envelope = e; sent = sent; mail = letter; nowhere = is; same = refl })
    receive letter (Some (Client c)) is =
        let k = client_is w.shape e.to c is in
        let client = client_at c k.1 in
        let reader = reader_there c client.0 client.1 in
        inl (client_took_it c k.0 client.0 reader.0 client.1 reader.1 (half_of e.msg) refl)
    receive letter (Some Controller) is = inl (record { turn = ControlTurn (Take e); is = (controller_is w.shape e.to is, sent); did = refl })
    receive letter (Some (Seq i)) is =
        let k = seq_is w.shape e.to i is in
        let seq = seq_at i k.1 in
        inl (record {
          turn = SeqTurn i seq.0 (Take e);
          is = (seq.1, (k.0, sent));
          did = ap (seq_received w i e) seq.1 ∙ ap (λ (m : ℕ). seq_did w m i e.time (seq_took seq.0 e.from e.msg)) k.0;
        })
    receive letter (Some (Shard i j)) is =
        let k = shard_is w.shape e.to i j is in
        let shard = shard_at i j k.1 k.2 in
        inl (record {
          turn = ShardTurn i j shard.0 (Take e);
          is = record { shard = k.1; copy = k.2; here = shard.1; given = (k.0, sent) };
          did = ap (shard_received w (shard_place w.shape i j) e) shard.1 ∙ ap (λ (m : ℕ). shard_did w m (shard_place w.shape i j) e.time (shard_took shard.0 e.from e.msg)) k.0;
        })

  deliver : (k : ℕ) (o : Option Envelope) → message_at w k ≡ o → delivery_refused w k o ≡ None → Next (delivered w o) ⊎ IsLost w (delivered w o)
  deliver k None here free = let wrong : Some (NoMessage k) ≡ None = free in cc
  deliver k (Some e) here free = receive e (numbered_in w.sent k e here) (mail w k e.to e.msg free) (node_of w.shape e.to) refl

  -- each event that isn't refused
  pub turning : (event : WorldEvent) → Meets Asked event → refusal w event ≡ None → Next (after w event) ⊎ IsLost w (after w event)
  turning (Post c bytes) may free = inl (post c bytes (slice_get w.clients c) refl free may)
  turning (Ask c wanted) may free = inl (ask c wanted (slice_get w.readers c) refl free may)
  turning (Trim c floor) may free = inl (trim c floor (slice_get w.readers c) refl free may)
  turning (Peek c k from to) may free = inl (peek c k from to (slice_get w.clients c) refl (message_at w k) refl free (peek_past w c k from to (slice_get w.clients c) free))
  turning (Deliver k) may free = deliver k (message_at w k) refl free
  turning (Tick number) may free = inl (give_tick number (node_of w.shape number) refl free)
  turning (Grace number) may free = inl (give_grace number (node_of w.shape number) refl free)
  turning (Crash number) may free = inl (record { turn = CrashTurn number; is = tt; did = refl })
  turning (Suspect number) may free = inl (suspect number (node_of w.shape number) free may)
