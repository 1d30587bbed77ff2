-- The events that are steps of a client.
use Rattle.std.proofs.Common.{◌≡◌, ℕ, ◌+◌, List, [], ◌∷◌, length, Bool, false, Option, Some, None, refl, sym, ap, ◌∙◌, subst, arith}
use Rattle.std.specs.Prelude.{◌-◌, if◌then◌else◌, slice_get, slice_set}
use Rattle.std.specs.Option.{is_none}
use Rattle.rec_id.specs.Identity.{Identity}
use Rattle.rec_id.specs.declared.event.Ask.{Ask as AskOf}
use Rattle.view_config.specs.Shape.{Dimensions, node_of}
use Rattle.view_config.specs.declared.edition.Edition.{Edition}
use Rattle.view_config.specs.declared.edition.Edition.TheVariants.{One, Two}
use Rattle.view_config.specs.declared.nodes.Node.TheVariants.{Client}
use Rattle.view_config.specs.declared.nodes.TheConstants.{FIRST_SHARD}
use Rattle.lazy_msgs.specs.declared.input.Input.{Input}
use Rattle.lazy_msgs.specs.declared.input.Input.TheVariants.{Take, Tick, Grace, Crash, Post, Ask, Trim, Suspect, Peek}
use Rattle.lazy_msgs.specs.declared.input.WorldEvent.{WorldEvent}
use Rattle.lazy_msgs.specs.declared.input.WorldEvent.TheVariants.{Post as PostEvent, Ask as AskEvent, Trim as TrimEvent, Peek as PeekEvent, Deliver, Tick as TickEvent, Grace as GraceEvent, Crash as CrashEvent}
use Rattle.lazy_msgs.specs.declared.msg.Envelope.{Envelope}
use Rattle.lazy_msgs.specs.declared.msg.Msg.{Msg}
use Rattle.lazy_msgs.specs.declared.refused.BeginRefused.{BeginRefused}
use Rattle.lazy_msgs.specs.declared.refused.EventRefused.{EventRefused}
use Rattle.lazy_msgs.specs.declared.refused.EventRefused.TheVariants.{Crashed}
use Rattle.lazy_msgs.specs.declared.refused.PostRefused.{PostRefused}
use Rattle.lazy_msgs.specs.declared.refused.TrimRefused.{TrimRefused}
use Rattle.lazy_msgs.specs.Step.{Row}
use Rattle.lazy_rules.specs.ClientNode.{ClientNode, Half, Appends, Reads, Both, half_of, half_took, in_appends, in_reads, client_node_step, client_node_took, sees}
use Rattle.lazy_rules.specs.ClientRules.{post_refusal, invokes, client_took}
use Rattle.lazy_rules.specs.ClientState.{ClientState}
use Rattle.lazy_rules.specs.ReaderRules.{begin_refusal, begins_read, begins_trim, on_trim_input, reader_took, trim_refusal}
use Rattle.lazy_rules.specs.ReaderState.{ReaderState}
use Rattle.lazy_rules.specs.Rows.{stays, has_node}
use Rattle.lazy_rules.specs.WorldRules.{after, refusal, stepped, client_did, reader_did, client_node_did, client_node, posted, asked, trimmed, peeked, delivered, received, client_received, appends_received, reads_received, both_received, given, client_given, ids_at, claimed, post_refused_at, posting_refused, ask_refused_at, asking_refused, trim_refused_at, trim_refused_in, trimming_refused, peek_refused_at, peek_refused, claim_refused, range_refused, crash_refused_at, crashes}
use Rattle.lazy_rules.specs.WorldState.{WorldState}
use Rattle.world_facts.specs.Forms.{HasForm}
use Rattle.world_facts.specs.Turns.{ClientTurn, IsGiven, turned}
use Rattle.world_facts.proofs.ClientTurns.{appends_of, reads_of}
use Rattle.world_facts.proofs.Lists.{set_same, numbered_in}
use Rattle.diary_laws.specs.Nodes.{OfClient, ClientAllows, as_row, node_step, state_at}
use Rattle.diary_laws.proofs.worlds.Ready.{Acts, IsHeard, IsLooked, IsReady, acts_by, gone_by, heard_free, range_free, step_free}
use Rattle.diary_laws.proofs.worlds.Turned.{Any, client_did as turn_did, crash_did}

module _ (shape : Dimensions) (w : WorldState) (form : HasForm shape w) (c : ℕ) (n : ClientNode) (role : node_of w.shape c ≡ Some (Client c)) (here : client_node w c ≡ Some n) (alive : has_node w.crashed c ≡ false) where
  appends : slice_get w.clients c ≡ Some n.appends
  appends = appends_of w c n here

  reads : slice_get w.readers c ≡ Some n.reads
  reads = reads_of w c n here

  abbrev ActsAs : Row ClientNode → WorldEvent → Type 0
  ActsAs row event = Acts shape w c (as_row OfClient row) [] event

  -- one half did, the other stays
  appends_did : (time : ℕ) (row : Row ClientState) → client_did w c time row ≡ client_node_did w c time (in_appends n row)
  appends_did time row = ap (λ (rs : List ReaderState). stepped (record w { clients = slice_set w.clients c row.next; readers = rs }) c time row.sends row.events) (sym (set_same w.readers c n.reads reads))

  reads_did : (time : ℕ) (row : Row ReaderState) → reader_did w c time row ≡ client_node_did w c time (in_reads n row)
  reads_did time row = ap (λ (cs : List ClientState). stepped (record w { clients = cs; readers = slice_set w.readers c row.next }) c time row.sends row.events) (sym (set_same w.clients c n.appends appends))

  acts_turn : (input : Input) (event : WorldEvent) → IsGiven Any w c input → refusal w event ≡ None → after w event ≡ turned w (ClientTurn c n input) → ActsAs (client_node_step n input) event
  acts_turn input event given free is = acts_by shape w c (as_row OfClient (client_node_step n input)) [] event free (turned w (ClientTurn c n input)) is (turn_did shape w form c n input role here given)

  -- unless it crashed, what is behind that decides
  past : (o : Option EventRefused) → o ≡ None → (if has_node w.crashed c then Some (Crashed c) else o) ≡ None
  past o free = ap (λ (b : Bool). if b then Some (Crashed c) else o) alive ∙ free

  posts : (bytes : List ℕ) → post_refusal n.appends (length bytes) ≡ None → ActsAs (client_node_step n (Post bytes)) (PostEvent c bytes)
  posts bytes allowed =
      acts_turn (Post bytes) (PostEvent c bytes) tt
      (ap (post_refused_at w c bytes) appends ∙ past (posting_refused (post_refusal n.appends (length bytes))) (ap posting_refused allowed))
      (ap (posted w c bytes) appends
      ∙ appends_did 0 (invokes n.appends bytes)
      ∙ ap (λ (o : Option PostRefused). client_node_did w c 0 (in_appends n (if is_none o then invokes n.appends bytes else stays n.appends))) (sym allowed))

  asks : (ask : AskOf) → begin_refusal n.reads ask ≡ None → ActsAs (client_node_step n (Ask ask)) (AskEvent c ask)
  asks ask allowed =
      acts_turn (Ask ask) (AskEvent c ask) tt
      (ap (ask_refused_at w c ask) reads ∙ past (asking_refused (begin_refusal n.reads ask)) (ap asking_refused allowed))
      (ap (asked w c ask) reads
      ∙ reads_did 0 (begins_read n.reads ask)
      ∙ ap (λ (o : Option BeginRefused). client_node_did w c 0 (in_reads n (if is_none o then begins_read n.reads ask else stays n.reads))) (sym allowed))

  trim_row : (floor : ℕ) → n.reads.shape.edition ≡ Two → trim_refusal n.reads floor ≡ None → begins_trim n.reads floor ≡ on_trim_input n.reads floor
  trim_row floor two allowed =
      ap (λ (o : Option TrimRefused). if is_none o then begins_trim n.reads floor else stays n.reads) (sym allowed)
      ∙ ap (λ (edition : Edition). elim edition as (λ (e : Edition). Row ReaderState) [ One ↦ stays n.reads | Two ↦ if is_none (trim_refusal n.reads floor) then begins_trim n.reads floor else stays n.reads ]) (sym two)

  trims : (floor : ℕ) → shape.edition ≡ Two → trim_refusal n.reads floor ≡ None → ActsAs (client_node_step n (Trim floor)) (TrimEvent c floor)
  trims floor two allowed =
      let own : n.reads.shape.edition ≡ Two = ap (λ (d : Dimensions). d.edition) (form.readers_shaped c n.reads reads) ∙ two in
      let worlds : w.shape.edition ≡ Two = ap (λ (d : Dimensions). d.edition) form.shaped ∙ two in
      acts_turn (Trim floor) (TrimEvent c floor) tt
      (ap (trim_refused_at w c floor) reads
      ∙ past (trim_refused_in w.shape.edition n.reads floor) (ap (λ (e : Edition). trim_refused_in e n.reads floor) worlds ∙ ap trimming_refused allowed))
      (ap (trimmed w c floor) reads
      ∙ reads_did 0 (begins_trim n.reads floor)
      ∙ ap (λ (row : Row ReaderState). client_node_did w c 0 (in_reads n row)) (trim_row floor own allowed))

  ticks : ActsAs (client_node_step n Tick) (TickEvent c)
  ticks = acts_turn Tick (TickEvent c) tt (step_free shape w c (Client c) role alive) (ap (given w c Tick) role ∙ ap (client_given w c Tick) here)

  graces : ActsAs (client_node_step n Grace) (GraceEvent c)
  graces = acts_turn Grace (GraceEvent c) tt (step_free shape w c (Client c) role alive) (ap (given w c Grace) role ∙ ap (client_given w c Grace) here)

  crash : state_at w c ≡ Some (OfClient n) → Acts shape w c (node_step (OfClient n) Crash) (c ∷ []) (CrashEvent c)
  crash own =
      acts_by shape w c (node_step (OfClient n) Crash) (c ∷ []) (CrashEvent c)
      (ap (crash_refused_at w c) role ∙ ap (λ (b : Bool). if b then Some (Crashed c) else None) alive)
      (crashes w c) refl (crash_did shape w form c (OfClient n) own)

  -- a message for one half, or for both
  took : (e : Envelope) (h : Half) → client_received w c e h ≡ client_node_did w c e.time (half_took h n e.from e.msg)
  took e Appends = ap (appends_received w c e) appends ∙ appends_did e.time (client_took n.appends e.from e.msg)
  took e Reads = ap (reads_received w c e) reads ∙ reads_did e.time (reader_took n.reads e.from e.msg)
  took e Both = ap (both_received w c e) here

  hears : (envelope : Envelope) (event : WorldEvent) → IsHeard w envelope event → envelope.to ≡ c → ActsAs (client_node_step n (Take envelope)) event
  hears envelope event h own =
      let to : h.found.to ≡ c = ap (λ (t : ℕ × ℕ × Msg). t.1) h.like ∙ own in
      let acts : ActsAs (client_node_step n (Take h.found)) (Deliver h.number) =
      acts_turn (Take h.found) (Deliver h.number) (to, numbered_in w.sent h.number h.found h.there)
      (heard_free shape w c envelope event h own alive)
      (ap (delivered w) h.there
      ∙ ap (λ (m : ℕ). received w h.found (node_of w.shape m)) to
      ∙ ap (received w h.found) role
      ∙ took h.found (half_of h.found.msg)) in
      subst (ActsAs (client_node_step n (Take envelope))) (sym h.is)
      (subst (λ (t : ℕ × ℕ × Msg). ActsAs (client_node_took n t.0 t.2) (Deliver h.number)) h.like acts)

  looks : (stable time replica from : ℕ) (ids : List Identity) (event : WorldEvent) → IsLooked w c stable from ids event → ActsAs (client_node_step n (Peek stable time replica from ids)) event
  looks stable time replica from ids event h =
      let end : ℕ = from + length ids in
      let seen : List Identity = ids_at w from end (node_of w.shape h.found.from) in
      let acts : ActsAs (sees n from seen) (PeekEvent c h.number from end) =
      acts_turn (Peek (claimed h.found.msg) h.found.time (h.found.from - FIRST_SHARD) from seen) (PeekEvent c h.number from end)
      (record { envelope = h.found; sent = numbered_in w.sent h.number h.found h.there; stable = stable; claims = h.says; to = end; forward = omega arith; within = h.within; is = refl })
      (ap (peek_refused_at w c h.number from end) appends
      ∙ ap (peek_refused w c h.number from end) h.there
      ∙ ap (claim_refused w c h.number from end) h.says
      ∙ past (range_refused from end stable) (range_free shape w from (length ids) stable h.few h.within))
      (ap (peeked w c from end) h.there ∙ ap (client_given w c (Peek (claimed h.found.msg) h.found.time (h.found.from - FIRST_SHARD) from seen)) here) in
      subst (ActsAs (client_node_step n (Peek stable time replica from ids))) (sym h.is)
      (subst (λ (xs : List Identity). ActsAs (sees n from xs) (PeekEvent c h.number from end)) h.has acts)

  pub client_acts : state_at w c ≡ Some (OfClient n) → (input : Input) (event : WorldEvent) → ClientAllows shape n input → IsReady w c input event → Acts shape w c (node_step (OfClient n) input) (gone_by c input) event
  client_acts own (Take envelope) event allowed ready = hears envelope event ready.0 ready.1
  client_acts own (Peek stable time replica from ids) event allowed ready = looks stable time replica from ids event ready
  client_acts own (Post bytes) event allowed ready = subst (ActsAs (client_node_step n (Post bytes))) (sym ready) (posts bytes allowed)
  client_acts own (Ask ask) event allowed ready = subst (ActsAs (client_node_step n (Ask ask))) (sym ready) (asks ask allowed)
  client_acts own (Trim floor) event allowed ready = subst (ActsAs (client_node_step n (Trim floor))) (sym ready) (trims floor allowed.0 allowed.1)
  client_acts own Tick event allowed ready = subst (ActsAs (client_node_step n Tick)) (sym ready) ticks
  client_acts own Grace event allowed ready = subst (ActsAs (client_node_step n Grace)) (sym ready) graces
  client_acts own Crash event allowed ready = subst (Acts shape w c (node_step (OfClient n) Crash) (c ∷ [])) (sym ready) (crash own)
  client_acts own (Suspect other) event allowed ready = absurd allowed
