-- What each case keeps, every turn keeps.
use Rattle.std.proofs.Common.{◌≡◌, ℕ, ◌+◌, ◌*◌, ◌<◌, List, [], ◌++◌, Some, inl, inr, sym, ap, ◌∙◌, subst, arith}
use Rattle.std.specs.Prelude.{◌/◌, ◌%◌, slice_get, slice_set}
use Rattle.std.proofs.Math.Nat.{div-lt_iff_lt-mul, mod-lt}
use Rattle.std.proofs.lemmas.Nat.{div-mul-add, mod-mul-add}
use Rattle.std.proofs.lemmas.Option.{slice_get_within}
use Rattle.list_facts.specs.Lists.{Each}
use Rattle.list_facts.proofs.Members.{each_append, each_weaker, each_map, each_in}
use Rattle.list_facts.proofs.Places.{at_set_cases}
use Rattle.view_config.specs.Nodes.{seq_id, shard_id}
use Rattle.view_config.specs.Shape.{Dimensions, IsShape}
use Rattle.view_config.specs.declared.nodes.TheConstants.{CONTROLLER}
use Rattle.lazy_msgs.specs.declared.input.Input.{Input}
use Rattle.lazy_msgs.specs.declared.input.Input.TheVariants.{Take, Tick, Grace, Crash, Post, Ask, Trim, Suspect, Peek}
use Rattle.lazy_msgs.specs.declared.msg.Envelope.{Envelope}
use Rattle.lazy_msgs.specs.declared.msg.Msg.{Msg}
use Rattle.lazy_rules.specs.ClientNode.{ClientNode, client_node_step}
use Rattle.lazy_rules.specs.ClientState.{ClientState, first_client}
use Rattle.lazy_rules.specs.ControlRules.{control_step}
use Rattle.lazy_rules.specs.ReaderState.{ReaderState, first_reader}
use Rattle.lazy_rules.specs.SeqRules.{seq_step}
use Rattle.lazy_rules.specs.SeqState.{SeqState, first_seq}
use Rattle.lazy_rules.specs.ShardRules.{shard_step}
use Rattle.lazy_rules.specs.ShardState.{ShardState}
use Rattle.lazy_rules.specs.WorldState.{WorldState, first_world, first_shard_at, shard_place}
use Rattle.lazy_rules.specs.WorldRules.{client_node, enveloped, step_time}
use Rattle.world_facts.specs.Forms.{HasForm}
use Rattle.world_facts.specs.Turns.{Turn, ClientTurn, ControlTurn, SeqTurn, ShardTurn, CrashTurn, IsGiven, IsTurn, IsShardTurn, time_in, turned}
use Rattle.world_facts.proofs.Claims.{Claims, Holds, Given, Cases}
use Rattle.world_facts.proofs.ClientTurns.{appends_of, reads_of, kept_node}
use Rattle.world_facts.proofs.Lists.{made_at}

-- the members of a list of which one changed
set_kept : {A : Type 0} (P : ℕ → A → Type 0) (xs : List A) (i : ℕ) (y : A) → P i y → ((k : ℕ) (x : A) → slice_get xs k ≡ Some x → P k x) → (k : ℕ) (x : A) → slice_get (slice_set xs i y) k ≡ Some x → P k x
set_kept P xs i y own others k x h = elim (at_set_cases xs i y k x h) [
  | inl same ↦ subst (λ (j : ℕ). P j x) (sym same.0) (subst (P i) (sym same.1) own)
  | inr other ↦ others k x other.1
]

module _ (shape : Dimensions) (Asked : Input → Type 0) (known claims : Claims) (cases : Cases shape Asked known claims) where
  module _ (w : WorldState) (form : HasForm shape w) (knows : Holds shape known w) (holds : Holds shape claims w) where
    abbrev n : ℕ
    n = w.events

    given_of : (me : ℕ) (input : Input) → IsGiven Asked w me input → Given Asked known claims n me input
    given_of me (Take e) h = record {
      knew = subst (λ (to : ℕ). known.sent n e.from to e.msg) h.0 (each_in (λ (x : Envelope). known.sent n x.from x.to x.msg) w.sent knows.sent e h.1);
      said = subst (λ (to : ℕ). claims.sent n e.from to e.msg) h.0 (each_in (λ (x : Envelope). claims.sent n x.from x.to x.msg) w.sent holds.sent e h.1);
    }
    given_of me Tick h = tt
    given_of me Grace h = tt
    given_of me Crash h = tt
    given_of me (Post bytes) h = h
    given_of me (Ask ask) h = h
    given_of me (Trim floor) h = h
    given_of me (Suspect other) h = h
    given_of me (Peek stable time replica from ids) h = tt

    sent_kept : (sender time : ℕ) (sends : List (ℕ × Msg)) → Each (λ (send : ℕ × Msg). claims.sent (n + 1) sender send.0 send.1) sends → Each (λ (e : Envelope). claims.sent (n + 1) e.from e.to e.msg) (w.sent ++ enveloped sender time sends)
    sent_kept sender time sends h =
        each_append (λ (e : Envelope). claims.sent (n + 1) e.from e.to e.msg) w.sent (enveloped sender time sends)
        (each_weaker (λ (e : Envelope). claims.sent n e.from e.to e.msg) (λ (e : Envelope). claims.sent (n + 1) e.from e.to e.msg) (λ e k. cases.lasting.sent n e.from e.to e.msg k) w.sent holds.sent)
        (each_map (λ (send : ℕ × Msg). record { from = sender; to = send.0; time = time; msg = send.1 }) (λ (e : Envelope). claims.sent (n + 1) e.from e.to e.msg) sends h)

    clients_later : (c : ℕ) (s : ClientState) → slice_get w.clients c ≡ Some s → claims.client (n + 1) c s
    clients_later c s h = cases.lasting.client n c s (holds.clients c s h)

    readers_later : (c : ℕ) (s : ReaderState) → slice_get w.readers c ≡ Some s → claims.reader (n + 1) c s
    readers_later c s h = cases.lasting.reader n c s (holds.readers c s h)

    control_later : claims.control (n + 1) w.control
    control_later = cases.lasting.control n w.control holds.control

    seqs_later : (i : ℕ) (s : SeqState) → slice_get w.seqs i ≡ Some s → claims.seq (n + 1) i s
    seqs_later i s h = cases.lasting.seq n i s (holds.seqs i s h)

    shards_later : (k : ℕ) (s : ShardState) → slice_get w.shards k ≡ Some s → claims.shard (n + 1) (k / shape.copies) (k % shape.copies) s
    shards_later k s h = cases.lasting.shard n (k / shape.copies) (k % shape.copies) s (holds.shards k s h)

    client_turn : (c : ℕ) (node : ClientNode) (input : Input) → client_node w c ≡ Some node → IsGiven Asked w c input → Holds shape claims (turned w (ClientTurn c node input))
    client_turn c node input here given =
        let appends = appends_of w c node here in
        let reads = reads_of w c node here in
        let within = slice_get_within w.clients c node.appends appends in
        let counted = form.clients in
        let there : c < shape.clients = omega arith in
        let row = client_node_step node input in
        let kept = kept_node (claims.client (n + 1) c) (claims.reader (n + 1) c) (claims.sent (n + 1) c) node
        (clients_later c node.appends appends) (readers_later c node.reads reads) (cases.asking (n + 1) c there) input
        ((cases.client c there).steps n node.appends input (knows.clients c node.appends appends) (holds.clients c node.appends appends) (given_of c input given))
        ((cases.reader c there).steps n node.reads input (knows.readers c node.reads reads) (holds.readers c node.reads reads) (given_of c input given)) in
        record {
          clients = set_kept (claims.client (n + 1)) w.clients c row.next.appends kept.next.appends clients_later;
          readers = set_kept (claims.reader (n + 1)) w.readers c row.next.reads kept.next.reads readers_later;
          control = control_later;
          seqs = seqs_later;
          shards = shards_later;
          sent = sent_kept c (step_time w c (time_in input)) row.sends kept.sends;
        }

    control_turn : (input : Input) → IsGiven Asked w CONTROLLER input → Holds shape claims (turned w (ControlTurn input))
    control_turn input given =
        let kept = cases.control.steps n w.control input knows.control holds.control (given_of CONTROLLER input given) in
        record {
          clients = clients_later;
          readers = readers_later;
          control = kept.next;
          seqs = seqs_later;
          shards = shards_later;
          sent = sent_kept CONTROLLER (step_time w CONTROLLER (time_in input)) (control_step w.control input).sends kept.sends;
        }

    seq_turn : (i : ℕ) (s : SeqState) (input : Input) → slice_get w.seqs i ≡ Some s → IsGiven Asked w (seq_id i) input → Holds shape claims (turned w (SeqTurn i s input))
    seq_turn i s input here given =
        let within = slice_get_within w.seqs i s here in
        let counted = form.seqs in
        let there : i < shape.seq + shape.spares = omega arith in
        let kept = (cases.seq i there).steps n s input (knows.seqs i s here) (holds.seqs i s here) (given_of (seq_id i) input given) in
        record {
          clients = clients_later;
          readers = readers_later;
          control = control_later;
          seqs = set_kept (claims.seq (n + 1)) w.seqs i (seq_step s input).next kept.next seqs_later;
          shards = shards_later;
          sent = sent_kept (seq_id i) (step_time w (seq_id i) (time_in input)) (seq_step s input).sends kept.sends;
        }

    shard_turn : (i j : ℕ) (s : ShardState) (input : Input) → IsShardTurn Asked w i j s input → Holds shape claims (turned w (ShardTurn i j s input))
    shard_turn i j s input is =
        let row : i < shape.shards = subst (λ (d : Dimensions). i < d.shards) form.shaped is.shard in
        let column : j < shape.copies = subst (λ (d : Dimensions). j < d.copies) form.shaped is.copy in
        let of_shard : shard_place w.shape i j / shape.copies ≡ i = ap (λ (d : Dimensions). shard_place d i j / shape.copies) form.shaped ∙ div-mul-add i shape.copies j column in
        let of_copy : shard_place w.shape i j % shape.copies ≡ j = ap (λ (d : Dimensions). shard_place d i j % shape.copies) form.shaped ∙ mod-mul-add i shape.copies j column in
        let knew : known.shard n i j s = subst (λ (a : ℕ). known.shard n a j s) of_shard (subst (λ (b : ℕ). known.shard n (shard_place w.shape i j / shape.copies) b s) of_copy (knows.shards (shard_place w.shape i j) s is.here)) in
        let held : claims.shard n i j s = subst (λ (a : ℕ). claims.shard n a j s) of_shard (subst (λ (b : ℕ). claims.shard n (shard_place w.shape i j / shape.copies) b s) of_copy (holds.shards (shard_place w.shape i j) s is.here)) in
        let kept = (cases.shard i j row column).steps n s input knew held (given_of (shard_id i j) input is.given) in
        let own : claims.shard (n + 1) (shard_place w.shape i j / shape.copies) (shard_place w.shape i j % shape.copies) (shard_step s input).next =
        subst (λ (a : ℕ). claims.shard (n + 1) a (shard_place w.shape i j % shape.copies) (shard_step s input).next) (sym of_shard) (subst (λ (b : ℕ). claims.shard (n + 1) i b (shard_step s input).next) (sym of_copy) kept.next) in
        record {
          clients = clients_later;
          readers = readers_later;
          control = control_later;
          seqs = seqs_later;
          shards = set_kept (λ (k : ℕ) (x : ShardState). claims.shard (n + 1) (k / shape.copies) (k % shape.copies) x) w.shards (shard_place w.shape i j) (shard_step s input).next own shards_later;
          sent = sent_kept (shard_id i j) (step_time w (shard_id i j) (time_in input)) (shard_step s input).sends kept.sends;
        }

    pub turn_holds : (turn : Turn) → IsTurn Asked w turn → Holds shape claims (turned w turn)
    turn_holds (ClientTurn c node input) is = client_turn c node input is.0 is.1
    turn_holds (ControlTurn input) is = control_turn input is
    turn_holds (SeqTurn i s input) is = seq_turn i s input is.0 is.1
    turn_holds (ShardTurn i j s input) is = shard_turn i j s input is
    turn_holds (CrashTurn node) is = record {
      clients = clients_later;
      readers = readers_later;
      control = control_later;
      seqs = seqs_later;
      shards = shards_later;
      sent = sent_kept node (step_time w node 0) [] tt;
    }

  pub first_holds : IsShape shape → Holds shape claims (first_world shape)
  first_holds formed = record {
    clients = λ c s h. let k = made_at (first_client shape) shape.clients c s h in subst (claims.client 0 c) (sym k.1) (cases.client c k.0).first;
    readers = λ c s h. let k = made_at (first_reader shape) shape.clients c s h in subst (claims.reader 0 c) (sym k.1) (cases.reader c k.0).first;
    control = cases.control.first;
    seqs = λ i s h. let k = made_at (first_seq shape) (shape.seq + shape.spares) i s h in subst (claims.seq 0 i) (sym k.1) (cases.seq i k.0).first;
    shards = λ place s h.
        let k = made_at (first_shard_at shape) (shape.shards * shape.copies) place s h in
        let some : 0 < shape.copies = let least = formed.copies_least in omega arith in
        let row : place / shape.copies < shape.shards = (div-lt_iff_lt-mul {k = shape.copies} {x = place} {y = shape.shards} some).1 k.0 in
        let column : place % shape.copies < shape.copies = mod-lt place {m = shape.copies} some in
        subst (claims.shard 0 (place / shape.copies) (place % shape.copies)) (sym k.1) (cases.shard (place / shape.copies) (place % shape.copies) row column).first;
    sent = tt;
  }
