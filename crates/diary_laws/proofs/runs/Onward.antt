-- One step of a merge, and with it the rest.
use Rattle.std.proofs.Common.{◌≡◌, ℕ, ◌≤◌, List, [], ◌∷◌, ◌++◌, map, false, Option, Some, None, inl, inr, refl, sym, ap, ◌∙◌, subst, arith, eqb-true, append_assoc, append-nil}
use Rattle.std.specs.Prelude.{◌==◌}
use Rattle.list_facts.specs.Lists.{In, Each}
use Rattle.list_facts.proofs.Cases.{by_test}
use Rattle.list_facts.proofs.Members.{each_append, each_weaker, in_cases}
use Rattle.rec_id.specs.declared.event.Event.{Event}
use Rattle.view_config.specs.Shape.{Dimensions}
use Rattle.lazy_msgs.specs.declared.input.Input.{Input}
use Rattle.lazy_msgs.specs.declared.input.WorldEvent.{WorldEvent}
use Rattle.lazy_msgs.specs.declared.msg.Envelope.{Envelope}
use Rattle.lazy_msgs.specs.declared.msg.Msg.{Msg}
use Rattle.lazy_msgs.specs.Step.{Row}
use Rattle.lazy_rules.specs.Rows.{has_node}
use Rattle.lazy_rules.specs.WorldRules.{after, accepted, enveloped, happened, refusal, run}
use Rattle.lazy_rules.specs.WorldState.{WorldState}
use Rattle.diary_laws.specs.Formed.{IsLast}
use Rattle.diary_laws.specs.Lived.{AreFree}
use Rattle.diary_laws.specs.Machines.{Step}
use Rattle.diary_laws.specs.Merges.{AreEventsOf, IsEventOf, IsNumber, Ranked, sent_by, told_by}
use Rattle.diary_laws.specs.Nodes.{NodeState, node_step, nodes_of_shape, state_at}
use Rattle.diary_laws.proofs.merges.Crashes.{crash_gone, gone_of}
use Rattle.diary_laws.proofs.merges.Going.{GoesOn, behind}
use Rattle.diary_laws.proofs.merges.Parts.{of_node}
use Rattle.diary_laws.proofs.runs.Lists.{first_own, first_other, none_left, not_among, sent_one_more}
use Rattle.diary_laws.proofs.runs.Reached.{IsDue, IsSettled, Onward, Ran, Reached}
use Rattle.diary_laws.proofs.runs.Ready.{ready}
use Rattle.diary_laws.proofs.runs.Steady.{Solid, Still, StableIn, claims_step, solid_step, still_own, still_step}
use Rattle.diary_laws.proofs.worlds.Acting.{node_acts}
use Rattle.diary_laws.proofs.worlds.Did.{Did, bare}
use Rattle.diary_laws.proofs.worlds.Ready.{IsReady, gone_by}

-- the state in which a node makes its first step
pub record Begins (shape : Dimensions) (w : WorldState) (x : Step NodeState) (xs : List (Step NodeState)) : Type 0 where
  pub state : NodeState
  pub here : state_at w x.node ≡ Some state
  pub goes : GoesOn (nodes_of_shape shape) x.node state (x ∷ of_node x.node xs)

module _ (shape : Dimensions) (w : WorldState) (done : List (Step NodeState)) (x : Step NodeState) (xs : List (Step NodeState)) (reached : Reached shape w done (x ∷ xs)) where
  begins_from : (o : Option NodeState) → state_at w x.node ≡ o → Onward shape x.node o (x ∷ of_node x.node xs) → Begins shape w x xs
  begins_from None is h = let wrong : x ∷ of_node x.node xs ≡ [] = h in cc
  begins_from (Some s) is h = record { state = s; here = is; goes = h }

  pub begins : Begins shape w x xs
  begins = begins_from (state_at w x.node) refl (subst (Onward shape x.node (state_at w x.node)) (first_own x xs) (reached.onward x.node))

  pub alive : has_node w.crashed x.node ≡ false
  alive = not_among w.crashed x.node (λ gone. let wrong : x ∷ of_node x.node xs ≡ [] = sym (first_own x xs) ∙ reached.ended x.node gone in cc)

  module _ (event : WorldEvent) (s : NodeState) (here : state_at w x.node ≡ Some s) (goes : GoesOn (nodes_of_shape shape) x.node s (x ∷ of_node x.node xs)) (did : Did shape w (after w event) x.node (node_step s x.input) (gone_by x.node x.input)) where
    abbrev next : WorldState
    next = after w event

    now_own : state_at next x.node ≡ Some x.row.next
    now_own = did.own ∙ ap (λ (row : Row NodeState). Some row.next) (sym goes.0.row)

    onward : (me : ℕ) → Onward shape me (state_at next me) (of_node me xs)
    onward me = by_test (me == x.node)
        (λ own.
        let same : x.node ≡ me = sym (eqb-true me x.node own) in
        subst (λ (n : ℕ). Onward shape n (state_at next n) (of_node n xs)) same
        (subst (λ (o : Option NodeState). Onward shape x.node o (of_node x.node xs)) (sym now_own) goes.2))
        (λ other.
        subst (λ (o : Option NodeState). Onward shape me o (of_node me xs)) (sym (did.others me other))
        (subst (Onward shape me (state_at w me)) (first_other x xs me other) (reached.onward me)))

    own_solid : Solid x.row.next
    own_solid = subst (λ (row : Row NodeState). Solid row.next) (sym goes.0.row) (solid_step s x.input (reached.solid x.node s here))

    solid : (me : ℕ) (t : NodeState) → state_at next me ≡ Some t → Solid t
    solid me t is = by_test (me == x.node)
        (λ own.
        let at : state_at next me ≡ Some x.row.next = ap (state_at next) (eqb-true me x.node own) ∙ now_own in
        let both : Some x.row.next ≡ Some t = sym at ∙ is in
        let same : x.row.next ≡ t = cc in
        subst Solid same own_solid)
        (λ other. reached.solid me t (sym (did.others me other) ∙ is))

    settles : (y : Step NodeState) → IsSettled w y → IsSettled next y
    settles y h = by_test (y.node == x.node)
        (λ own.
        let same = eqb-true y.node x.node own in
        let both : Some h.now ≡ Some s = sym h.here ∙ ap (state_at w) same ∙ here in
        let state : h.now ≡ s = cc in
        record {
          now = x.row.next;
          here = ap (state_at next) same ∙ now_own;
          still = subst (λ (row : Row NodeState). Still y.row.next row.next) (sym goes.0.row) (still_step y.row.next s x.input (subst (Still y.row.next) state h.still));
          stable = h.stable;
        })
        (λ other. record { now = h.now; here = did.others y.node other ∙ h.here; still = h.still; stable = h.stable })

    own_settled : IsSettled next x
    own_settled = record {
      now = x.row.next;
      here = now_own;
      still = still_own x.row.next own_solid;
      stable = subst (λ (row : Row NodeState). StableIn row.next row.sends) (sym goes.0.row) (claims_step s x.input (reached.solid x.node s here));
    }

    ended_by : (me : ℕ) (input : Input) → x.input ≡ input → In me (gone_by x.node input) → of_node me xs ≡ []
    ended_by me input is gone =
        let crash = crash_gone x.node me input gone in
        let none : of_node x.node xs ≡ [] = subst (λ (i : Input). IsLast i (of_node x.node xs)) (is ∙ crash.0) goes.1 in
        subst (λ (n : ℕ). of_node n xs ≡ []) crash.1 none

    ended : (me : ℕ) → In me next.crashed → of_node me xs ≡ []
    ended me gone = elim (in_cases me w.crashed (gone_by x.node x.input) (subst (In me) did.crashed gone)) [
      | inl before ↦ none_left x xs me (reached.ended me before)
      | inr now ↦ ended_by me x.input refl now
    ]

    pub reaches : Reached shape next (done ++ x ∷ []) xs
    reaches = record {
      form = did.form;
      onward = onward;
      solid = solid;
      settled = each_append (IsSettled next) done (x ∷ []) (each_weaker (IsSettled w) (IsSettled next) settles done reached.settled) (own_settled, tt);
      sent = did.sent
          ∙ ap (λ (row : Row NodeState). map bare w.sent ++ map bare (enveloped x.node 0 row.sends)) (sym goes.0.row)
          ∙ ap (λ (zs : List (ℕ × ℕ × Msg)). zs ++ map bare (enveloped x.node 0 x.row.sends)) reached.sent
          ∙ sent_one_more done x;
      ended = ended;
    }

    -- with the rest behind it
    states_on : (events : List WorldEvent) → Ran next xs events → (me : ℕ) (t : NodeState) → state_at w me ≡ Some t → state_at (run events next) me ≡ Some (behind t (of_node me (x ∷ xs)))
    states_on events ran me t is = by_test (me == x.node)
        (λ own.
        let same = eqb-true me x.node own in
        let now : state_at next me ≡ Some x.row.next = ap (state_at next) same ∙ now_own in
        let first : of_node me (x ∷ xs) ≡ x ∷ of_node me xs = subst (λ (n : ℕ). of_node n (x ∷ xs) ≡ x ∷ of_node n xs) (sym same) (first_own x xs) in
        ran.states me x.row.next now ∙ ap (λ (ys : List (Step NodeState)). Some (behind t ys)) (sym first))
        (λ other. ran.states me t (did.others me other ∙ is) ∙ ap (λ (ys : List (Step NodeState)). Some (behind t ys)) (sym (first_other x xs me other)))

    pub ran_on : (events : List WorldEvent) → refusal w event ≡ None → Ran next xs events → Ran w (x ∷ xs) (event ∷ events)
    ran_on events free ran =
        let goes_by : happened w event ≡ next = ap (accepted w event) free in
        record {
          free = (free, subst (λ (v : WorldState). AreFree v events) (sym goes_by) ran.free);
          states = λ me t is. ap (λ (v : WorldState). state_at (run events v) me) goes_by ∙ states_on events ran me t is;
          crashed = ap (λ (v : WorldState). (run events v).crashed) goes_by ∙ ran.crashed ∙ ap (λ (ns : List ℕ). ns ++ gone_of xs) did.crashed ∙ append_assoc w.crashed (gone_by x.node x.input) (gone_of xs);
          history = ap (λ (v : WorldState). (run events v).history) goes_by
              ∙ ran.history
              ∙ ap (λ (es : List Event). es ++ told_by xs) did.history
              ∙ append_assoc w.history (node_step s x.input).events (told_by xs)
              ∙ ap (λ (row : Row NodeState). w.history ++ (row.events ++ told_by xs)) (sym goes.0.row);
        }

-- all that is left, step by step
pub ran_all : (shape : Dimensions) (all : List Envelope) (merged done rest : List (Step NodeState)) (events : List WorldEvent) (w : WorldState) → done ++ rest ≡ merged → Reached shape w done rest
    → Ranked (λ (x y : Step NodeState). x.time ≤ y.time) rest → Each (IsDue shape all merged) rest → AreEventsOf (IsNumber (sent_by merged)) rest events → Ran w rest events
ran_all shape all merged done [] [] w split reached up due are = record {
  free = tt;
  states = λ me s is. is;
  crashed = sym (append-nil w.crashed);
  history = sym (append-nil w.history);
}
ran_all shape all merged done [] (event ∷ events) w split reached up due are = absurd are
ran_all shape all merged done (x ∷ xs) [] w split reached up due are = absurd are
ran_all shape all merged done (x ∷ xs) (event ∷ events) w split reached up due are =
    let b = begins shape w done x xs reached in
    let late : Each (λ (y : Step NodeState). x.time ≤ y.time) (x ∷ xs) = (omega arith, up.0) in
    let became : IsReady w x.node x.input event = ready shape w done (x ∷ xs) reached x.time late all x.node x.input event due.0.event
    (subst (λ (steps : List (Step NodeState)). IsDue shape all steps x) (sym split) due.0).justified b.goes.0.received
    (subst (λ (steps : List (Step NodeState)). IsEventOf (IsNumber (sent_by steps)) x.node x.input event) (sym split) are.0) in
    let acts = node_acts shape w reached.form x.node b.state b.here (alive shape w done x xs reached) x.input event b.goes.0.allowed became in
    ran_on shape w done x xs reached event b.state b.here b.goes acts.did events acts.free
    (ran_all shape all merged (done ++ x ∷ []) xs events (after w event) (append_assoc done (x ∷ []) xs ∙ split) (reaches shape w done x xs reached event b.state b.here b.goes acts.did) up.1 due.1 are.1)
