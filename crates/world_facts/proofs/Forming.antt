-- Every turn keeps a world's form.
use Rattle.std.proofs.Common.{◌≡◌, ℕ, ◌+◌, ◌*◌, ◌≤◌, List, [], ◌∷◌, ◌++◌, length, max, Some, inl, inr, refl, sym, ap, ◌∙◌, subst, arith}
use Rattle.std.specs.Prelude.{slice_get, slice_set, slice_index}
use Rattle.std.proofs.lemmas.List.{length-set, length-replicate}
use Rattle.std.proofs.lemmas.List.FromFn.{length-map-range_with_len}
use Rattle.list_facts.specs.Lists.{Each}
use Rattle.list_facts.proofs.Changes.{each_set}
use Rattle.list_facts.proofs.Members.{each_append, each_weaker, each_map, each_in}
use Rattle.list_facts.proofs.Places.{at_set_cases}
use Rattle.rec_id.specs.declared.event.Event.{Event}
use Rattle.view_config.specs.Nodes.{seq_id, shard_id, node_count}
use Rattle.view_config.specs.Shape.{Dimensions}
use Rattle.view_config.specs.declared.nodes.TheConstants.{CONTROLLER}
use Rattle.lazy_msgs.specs.declared.input.Input.{Input}
use Rattle.lazy_msgs.specs.declared.input.Input.TheVariants.{Take, Tick, Grace, Crash, Post, Ask, Trim, Suspect, Peek}
use Rattle.lazy_msgs.specs.declared.msg.Envelope.{Envelope}
use Rattle.lazy_msgs.specs.declared.msg.Msg.{Msg}
use Rattle.lazy_rules.specs.ClientNode.{client_node_step}
use Rattle.lazy_rules.specs.ClientState.{first_client}
use Rattle.lazy_rules.specs.ReaderState.{ReaderState, first_reader}
use Rattle.lazy_rules.specs.SeqState.{first_seq}
use Rattle.lazy_rules.specs.ControlRules.{control_step}
use Rattle.lazy_rules.specs.SeqRules.{seq_step}
use Rattle.lazy_rules.specs.ShardRules.{shard_step}
use Rattle.lazy_rules.specs.WorldState.{WorldState, first_world, first_shard_at, shard_place}
use Rattle.lazy_rules.specs.WorldRules.{step_time, enveloped, stepped}
use Rattle.world_facts.specs.Forms.{HasForm}
use Rattle.world_facts.specs.Turns.{Turn, ClientTurn, ControlTurn, SeqTurn, ShardTurn, CrashTurn, IsGiven, IsTurn, time_in, turned}
use Rattle.world_facts.proofs.ClientTurns.{node_reader_shape, reads_of}
use Rattle.world_facts.proofs.Lists.{each_get_or, each_same, made_at}

-- times and messages after a step
module _ (n : ℕ) (times : List ℕ) (past : Each (λ (t : ℕ). t ≤ n) times) (node received : ℕ) (early : received ≤ n) where
  time_past : max (slice_index times node) received + 1 ≤ n + 1
  time_past =
      let before : slice_index times node ≤ n = each_get_or (λ (t : ℕ). t ≤ n) times past 0 (omega arith) node in
      omega arith

  times_past : Each (λ (t : ℕ). t ≤ n + 1) (slice_set times node (max (slice_index times node) received + 1))
  times_past = each_set (λ (t : ℕ). t ≤ n + 1) times node (max (slice_index times node) received + 1) (each_weaker (λ (t : ℕ). t ≤ n) (λ (t : ℕ). t ≤ n + 1) (λ t h. omega arith) times past) time_past

  sent_past : (sent : List Envelope) → Each (λ (e : Envelope). e.time ≤ n) sent → (sends : List (ℕ × Msg)) → Each (λ (e : Envelope). e.time ≤ n + 1) (sent ++ enveloped node (max (slice_index times node) received + 1) sends)
  sent_past sent h sends =
      each_append (λ (e : Envelope). e.time ≤ n + 1) sent (enveloped node (max (slice_index times node) received + 1) sends)
      (each_weaker (λ (e : Envelope). e.time ≤ n) (λ (e : Envelope). e.time ≤ n + 1) (λ e k. omega arith) sent h)
      (each_map (λ (send : ℕ × Msg). record { from = node; to = send.0; time = max (slice_index times node) received + 1; msg = send.1 }) (λ (e : Envelope). e.time ≤ n + 1) sends (all sends))
    where
      all : (more : List (ℕ × Msg)) → Each (λ (send : ℕ × Msg). max (slice_index times node) received + 1 ≤ n + 1) more
      all [] = tt
      all (send ∷ more) = (time_past, all more)

module _ (shape : Dimensions) (Asked : Input → Type 0) (w : WorldState) (form : HasForm shape w) where
  early : (node : ℕ) (input : Input) → IsGiven Asked w node input → time_in input ≤ w.events
  early node (Take e) h = each_in (λ (x : Envelope). x.time ≤ w.events) w.sent form.sent_past e h.1
  early node Tick h = omega arith
  early node Grace h = omega arith
  early node Crash h = omega arith
  early node (Post bytes) h = omega arith
  early node (Ask ask) h = omega arith
  early node (Trim floor) h = omega arith
  early node (Suspect other) h = omega arith
  early node (Peek stable time replica from ids) h = omega arith

  -- a step by which no list of nodes changes its length, nor a reader its shape
  step_formed : (v : WorldState) → v.shape ≡ w.shape → v.times ≡ w.times → v.sent ≡ w.sent → v.events ≡ w.events
      → length v.clients ≡ length w.clients → length v.readers ≡ length w.readers → length v.seqs ≡ length w.seqs → length v.shards ≡ length w.shards
      → ((c : ℕ) (r : ReaderState) → slice_get v.readers c ≡ Some r → r.shape ≡ shape)
      → (node received : ℕ) → received ≤ w.events → (sends : List (ℕ × Msg)) (told : List Event) → HasForm shape (stepped v node received sends told)
  step_formed v same_shape same_times same_sent same_events clients readers seqs shards readers_shaped node received early sends told =
      let past : Each (λ (t : ℕ). t ≤ v.events) v.times = subst (λ (n : ℕ). Each (λ (t : ℕ). t ≤ n) v.times) (sym same_events) (subst (λ (ts : List ℕ). Each (λ (t : ℕ). t ≤ w.events) ts) (sym same_times) form.past) in
      let gone : Each (λ (e : Envelope). e.time ≤ v.events) v.sent = subst (λ (n : ℕ). Each (λ (e : Envelope). e.time ≤ n) v.sent) (sym same_events) (subst (λ (es : List Envelope). Each (λ (e : Envelope). e.time ≤ w.events) es) (sym same_sent) form.sent_past) in
      let soon : received ≤ v.events = omega arith in
      record {
        shaped = same_shape ∙ form.shaped;
        clients = clients ∙ form.clients;
        readers = readers ∙ form.readers;
        seqs = seqs ∙ form.seqs;
        shards = shards ∙ form.shards;
        times = length-set v.times node (step_time v node received) ∙ ap length same_times ∙ form.times;
        past = times_past v.events v.times past node received soon;
        sent_past = sent_past v.events v.times past node received soon v.sent gone sends;
        readers_shaped = readers_shaped;
      }

  pub turn_formed : (turn : Turn) → IsTurn Asked w turn → HasForm shape (turned w turn)
  turn_formed (ClientTurn c n input) is =
      step_formed (record w { clients = slice_set w.clients c (client_node_step n input).next.appends; readers = slice_set w.readers c (client_node_step n input).next.reads })
      refl refl refl refl (length-set w.clients c (client_node_step n input).next.appends) (length-set w.readers c (client_node_step n input).next.reads) refl refl
      (λ k r h. elim (at_set_cases w.readers c (client_node_step n input).next.reads k r h) [
        | inl own ↦ ap (λ (x : ReaderState). x.shape) own.1 ∙ node_reader_shape n input ∙ form.readers_shaped c n.reads (reads_of w c n is.0)
        | inr other ↦ form.readers_shaped k r other.1
      ])
      c (time_in input) (early c input is.1) (client_node_step n input).sends (client_node_step n input).events
  turn_formed (ControlTurn input) is =
      step_formed (record w { control = (control_step w.control input).next }) refl refl refl refl refl refl refl refl form.readers_shaped
      CONTROLLER (time_in input) (early CONTROLLER input is) (control_step w.control input).sends (control_step w.control input).events
  turn_formed (SeqTurn i s input) is =
      step_formed (record w { seqs = slice_set w.seqs i (seq_step s input).next }) refl refl refl refl refl refl (length-set w.seqs i (seq_step s input).next) refl form.readers_shaped
      (seq_id i) (time_in input) (early (seq_id i) input is.1) (seq_step s input).sends (seq_step s input).events
  turn_formed (ShardTurn i j s input) is =
      step_formed (record w { shards = slice_set w.shards (shard_place w.shape i j) (shard_step s input).next }) refl refl refl refl refl refl refl (length-set w.shards (shard_place w.shape i j) (shard_step s input).next) form.readers_shaped
      (shard_id i j) (time_in input) (early (shard_id i j) input is.given) (shard_step s input).sends (shard_step s input).events
  turn_formed (CrashTurn node) is =
      step_formed (record w { crashed = w.crashed ++ node ∷ [] }) refl refl refl refl refl refl refl refl form.readers_shaped
      node 0 (omega arith) [] []

pub first_formed : (shape : Dimensions) → HasForm shape (first_world shape)
first_formed shape = record {
  shaped = refl;
  clients = length-map-range_with_len (first_client shape) 0 shape.clients;
  readers = length-map-range_with_len (first_reader shape) 0 shape.clients;
  seqs = length-map-range_with_len (first_seq shape) 0 (shape.seq + shape.spares);
  shards = length-map-range_with_len (first_shard_at shape) 0 (shape.shards * shape.copies);
  times = length-replicate {A = ℕ} node_count 0;
  past = each_same (λ (t : ℕ). t ≤ 0) 0 (omega arith) node_count;
  sent_past = tt;
  readers_shaped = λ c r h. ap (λ (x : ReaderState). x.shape) (made_at (first_reader shape) shape.clients c r h).1;
}
