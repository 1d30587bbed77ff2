-- Posts, reads and trims are turns of their client.
use Rattle.std.proofs.Common.{◌≡◌, ℕ, List, length, Bool, true, false, Option, Some, None, refl, ap, ◌∙◌, arith}
use Rattle.std.specs.Prelude.{if◌then◌else◌, nat_lt, slice_get}
use Rattle.std.proofs.lemmas.Bool.{ltb-false, ltb-true}
use Rattle.std.proofs.lemmas.Option.{slice_get_past}
use Rattle.list_facts.proofs.Places.{below_at}
use Rattle.rec_id.specs.declared.event.Ask.{Ask as AskOf}
use Rattle.view_config.specs.Shape.{node_of}
use Rattle.view_config.specs.declared.nodes.Node.TheVariants.{Client as ClientNode}
use Rattle.lazy_msgs.specs.declared.input.Input.TheVariants.{Post as PostInput, Ask as AskInput, Trim as TrimInput}
use Rattle.lazy_msgs.specs.declared.input.WorldEvent.TheVariants.{Post, Ask, Trim}
use Rattle.lazy_msgs.specs.declared.refused.EventRefused.{EventRefused}
use Rattle.lazy_msgs.specs.declared.refused.EventRefused.TheVariants.{Crashed, NoNode}
use Rattle.lazy_rules.specs.ClientRules.{invokes, post_refusal}
use Rattle.lazy_rules.specs.ReaderRules.{begin_refusal, begins_read, begins_trim}
use Rattle.lazy_rules.specs.Rows.{has_node}
use Rattle.lazy_rules.specs.WorldState.{WorldState}
use Rattle.lazy_rules.specs.WorldRules.{ask_refused_at, asked, asking_refused, post_refused_at, posted, posting_refused, refusal, trim_refused_at, trim_refused_in, trimmed}
use Rattle.lazy_core.specs.declared.node_state.NodeState.TheVariants.{Client}
use Rattle.lazy_core.specs.States.{client_there}
use Rattle.lazy_core.specs.Turning.{IsKnown, IsTurnIn, IsTurnOf, client_refused}
use Rattle.lazy_core.specs.declared.turns.Turn.{Turn}
use Rattle.lazy_core.proofs.RoleStates.{HasHalves, appends_did, halves_at, node_here, reads_did}

-- a client that takes something from outside is there, and isn't crashed
pub client_free : (there dead : Bool) (x y : EventRefused) → (if there then (if dead then Some x else None) else Some y) ≡ None → (there ≡ true) × (dead ≡ false)
client_free true true x y h = cc
client_free true false x y h = (refl, refl)
client_free false dead x y h = cc

-- what isn't refused for a crash is refused for the node's own reason
alive_reason : {A : Type 0} (dead : Bool) (x y : A) → dead ≡ false → (if dead then x else y) ≡ y
alive_reason true x y h = cc
alive_reason false x y h = refl

-- a client of the shape
module _ (w : WorldState) (known : IsKnown w) (c : ℕ) (there : nat_lt c w.shape.clients ≡ true) where
  pub own : HasHalves w c
  own = let few = ltb-true c w.shape.clients there in halves_at w known c (omega arith)

  pub client_seated : node_of w.shape c ≡ Some (ClientNode c)
  client_seated = rw there refl

  -- it takes this input
  abbrev pub client_turn : (turn : Turn) → turn.node ≡ c → turn.received ≡ 0 → IsTurnIn w turn
  client_turn turn mine nothing = record {
    role = ClientNode c;
    seated = ap (node_of w.shape) mine ∙ client_seated;
    state = Client own.appends own.reads;
    there = ap client_there (node_here w c own);
    past = omega arith;
  }

module _ (w : WorldState) (known : IsKnown w) (c : ℕ) (free : client_refused w c ≡ None) where
  there : nat_lt c w.shape.clients ≡ true
  there = (client_free (nat_lt c w.shape.clients) (has_node w.crashed c) (Crashed c) (NoNode c) free).0

  alive : has_node w.crashed c ≡ false
  alive = (client_free (nat_lt c w.shape.clients) (has_node w.crashed c) (Crashed c) (NoNode c) free).1

  abbrev mine : HasHalves w c
  mine = own w known c there

  pub post_turn : (bytes : List ℕ) → IsTurnOf w (Post c bytes) (record { node = c; input = PostInput bytes; received = 0 })
  post_turn bytes = record {
    is = client_turn w known c there (record { node = c; input = PostInput bytes; received = 0 }) refl refl;
    next = ap (posted w c bytes) mine.as_client ∙ appends_did w c mine 0 (invokes mine.appends bytes);
    reason = ap (post_refused_at w c bytes) mine.as_client ∙ alive_reason (has_node w.crashed c) (Some (Crashed c)) (posting_refused (post_refusal mine.appends (length bytes))) alive;
  }

  pub ask_turn : (wanted : AskOf) → IsTurnOf w (Ask c wanted) (record { node = c; input = AskInput wanted; received = 0 })
  ask_turn wanted = record {
    is = client_turn w known c there (record { node = c; input = AskInput wanted; received = 0 }) refl refl;
    next = ap (asked w c wanted) mine.as_reader ∙ reads_did w c mine 0 (begins_read mine.reads wanted);
    reason = ap (ask_refused_at w c wanted) mine.as_reader ∙ alive_reason (has_node w.crashed c) (Some (Crashed c)) (asking_refused (begin_refusal mine.reads wanted)) alive;
  }

  pub trim_turn : (floor : ℕ) → IsTurnOf w (Trim c floor) (record { node = c; input = TrimInput floor; received = 0 })
  trim_turn floor = record {
    is = client_turn w known c there (record { node = c; input = TrimInput floor; received = 0 }) refl refl;
    next = ap (trimmed w c floor) mine.as_reader ∙ reads_did w c mine 0 (begins_trim mine.reads floor);
    reason = ap (trim_refused_at w c floor) mine.as_reader ∙ alive_reason (has_node w.crashed c) (Some (Crashed c)) (trim_refused_in w.shape.edition mine.reads floor) alive;
  }

refused_there : (dead : Bool) (x : EventRefused) (y : Option EventRefused) (e : EventRefused) → (if dead then Some x else None) ≡ Some e → (if dead then Some x else y) ≡ Some e
refused_there true x y e h = h
refused_there false x y e h = cc

-- what is refused by a client that isn't there, or is crashed
module _ (w : WorldState) (c : ℕ) (e : EventRefused) (refused : client_refused w c ≡ Some e) where
  refused_so : {A : Type 0} (f : Option A → Option EventRefused) (xs : List A) → length xs ≡ w.shape.clients → f None ≡ Some (NoNode c)
      → ((x : A) → (y : Option EventRefused) × (f (Some x) ≡ (if has_node w.crashed c then Some (Crashed c) else y))) → f (slice_get xs c) ≡ Some e
  refused_so f xs counted none some = by (nat_lt c w.shape.clients) refl refused
    where
      by : (b : Bool) → nat_lt c w.shape.clients ≡ b → (if b then (if has_node w.crashed c then Some (Crashed c) else None) else Some (NoNode c)) ≡ Some e → f (slice_get xs c) ≡ Some e
      by true is h =
          let few = ltb-true c w.shape.clients is in
          let at = below_at xs c (omega arith) in
          let told = some at.0 in
          ap f at.1 ∙ told.1 ∙ refused_there (has_node w.crashed c) (Crashed c) told.0 e h
      by false is h =
          let far = ltb-false c w.shape.clients is in
          ap f (slice_get_past xs c (omega arith)) ∙ none ∙ h

  module _ (known : IsKnown w) where
    pub post_refused : (bytes : List ℕ) → refusal w (Post c bytes) ≡ Some e
    post_refused bytes = refused_so (post_refused_at w c bytes) w.clients known.form.clients refl (λ s. (posting_refused (post_refusal s (length bytes)), refl))

    pub ask_refused : (wanted : AskOf) → refusal w (Ask c wanted) ≡ Some e
    ask_refused wanted = refused_so (ask_refused_at w c wanted) w.readers known.form.readers refl (λ r. (asking_refused (begin_refusal r wanted), refl))

    pub trim_refused : (floor : ℕ) → refusal w (Trim c floor) ≡ Some e
    trim_refused floor = refused_so (trim_refused_at w c floor) w.readers known.form.readers refl (λ r. (trim_refused_in w.shape.edition r floor, refl))
