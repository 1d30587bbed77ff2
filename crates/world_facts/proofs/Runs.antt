-- What each case keeps holds of every world.
use Rattle.std.proofs.Common.{◌≡◌, ◌⊎◌, List, [], ◌∷◌, ◌++◌, Option, Some, None, inl, inr, refl, sym, subst, append_assoc, append-nil}
use Rattle.list_facts.specs.Lists.{Each}
use Rattle.list_facts.proofs.Members.{each_append}
use Rattle.view_config.specs.Shape.{Dimensions, IsShape}
use Rattle.lazy_msgs.specs.declared.input.Input.{Input}
use Rattle.lazy_msgs.specs.declared.input.WorldEvent.{WorldEvent}
use Rattle.lazy_msgs.specs.declared.input.WorldEvent.TheVariants.{Post, Ask, Trim, Peek, Deliver, Tick, Grace, Crash, Suspect}
use Rattle.lazy_msgs.specs.declared.msg.Envelope.{Envelope}
use Rattle.lazy_msgs.specs.declared.refused.EventRefused.{EventRefused}
use Rattle.lazy_rules.specs.WorldState.{WorldState, first_world}
use Rattle.lazy_rules.specs.WorldRules.{after, refusal, accepted, happened, run}
use Rattle.world_facts.specs.Forms.{HasForm}
use Rattle.world_facts.specs.Turns.{IsNext, IsLost, IsStep, Meets}
use Rattle.world_facts.proofs.Claims.{Claims, Holds, Cases, Always, nothing, both}
use Rattle.world_facts.proofs.Forming.{turn_formed, first_formed}
use Rattle.world_facts.proofs.Keeping.{turn_holds, first_holds}
use Rattle.world_facts.proofs.Turning.{turning}

-- a run in two parts
pub run_append : (first more : List WorldEvent) (w : WorldState) → run (first ++ more) w ≡ run more (run first w)
run_append [] more w = refl
run_append (event ∷ first) more w = run_append first more (happened w event)

-- what holds whether an event is refused, is a turn, or is a delivery to nobody
module _ (shape : Dimensions) (Asked : Input → Type 0) (P : WorldState → Type 0) (w : WorldState) (form : HasForm shape w) (stays : P w) (turns : (next : WorldState) → IsNext Asked w next → P next) where
  pub happens : (event : WorldEvent) → Meets Asked event → P (happened w event)
  happens event may = by (refusal w event) refl
    where
      came : IsNext Asked w (after w event) ⊎ IsLost w (after w event) → P (after w event)
      came (inl next) = turns (after w event) next
      came (inr lost) = subst P (sym lost.same) stays

      by : (o : Option EventRefused) → refusal w event ≡ o → P (accepted w event o)
      by (Some refused) is = stays
      by None is = came (turning shape Asked w form event may is)

met : (event : WorldEvent) → Meets (λ (input : Input). Unit {0}) event
met (Post c bytes) = tt
met (Ask c ask) = tt
met (Trim c floor) = tt
met (Peek c k from to) = tt
met (Deliver k) = tt
met (Tick node) = tt
met (Grace node) = tt
met (Crash node) = tt
met (Suspect node) = tt

form_kept : (shape : Dimensions) (events : List WorldEvent) (w : WorldState) → HasForm shape w → HasForm shape (run events w)
form_kept shape [] w form = form
form_kept shape (event ∷ events) w form =
    form_kept shape events (happened w event)
    (happens shape (λ (input : Input). Unit {0}) (HasForm shape) w form form
    (λ next is. subst (HasForm shape) (sym is.did) (turn_formed shape (λ (input : Input). Unit {0}) w form is.turn is.is))
    event (met event))

-- every world has the form of its shape
pub form_of_run : (shape : Dimensions) (events : List WorldEvent) → HasForm shape (run events (first_world shape))
form_of_run shape events = form_kept shape events (first_world shape) (first_formed shape)

-- an event that isn't refused is one turn, or a delivery to nobody
pub step_of_run : (shape : Dimensions) (events : List WorldEvent) (event : WorldEvent) → refusal (run events (first_world shape)) event ≡ None → IsStep (run events (first_world shape)) (after (run events (first_world shape)) event)
step_of_run shape events event free = turning shape (λ (input : Input). Unit {0}) (run events (first_world shape)) (form_of_run shape events) event (met event) free

pub met_all : (events : List WorldEvent) → Each (Meets (λ (input : Input). Unit {0})) events
met_all [] = tt
met_all (event ∷ events) = (met event, met_all events)

-- what holds at first, and is kept by each turn of a world that is reached, holds of every world. Of each world that is
-- reached all is known that was shown before
module _ (shape : Dimensions) (Asked : Input → Type 0) (P : WorldState → Type 0) (start : P (first_world shape))
    (turns : (done : List WorldEvent) → Each (Meets Asked) done → P (run done (first_world shape)) → (next : WorldState) → IsNext Asked (run done (first_world shape)) next → P next) where
  abbrev reached : List WorldEvent → WorldState
  reached events = run events (first_world shape)

  one_more : (done : List WorldEvent) (event : WorldEvent) → Each (Meets Asked) done → Meets Asked event → P (reached done) → P (reached (done ++ event ∷ []))
  one_more done event met_before may h =
      subst P (sym (run_append done (event ∷ []) (first_world shape)))
      (happens shape Asked P (reached done) (form_of_run shape done) h (turns done met_before h) event may)

  all_more : (done more : List WorldEvent) → Each (Meets Asked) done → Each (Meets Asked) more → P (reached done) → P (reached (done ++ more))
  all_more done [] met_before may h = subst (λ (es : List WorldEvent). P (reached es)) (sym (append-nil done)) h
  all_more done (event ∷ more) met_before may h =
      subst (λ (es : List WorldEvent). P (reached es)) (append_assoc done (event ∷ []) more)
      (all_more (done ++ event ∷ []) more (each_append (Meets Asked) done (event ∷ []) met_before (may.0, tt)) may.1 (one_more done event met_before may.0 h))

  pub every_world : (events : List WorldEvent) → Each (Meets Asked) events → P (reached events)
  every_world events may = all_more [] events tt may start

-- the same of claims, by a case for each role
module _ (shape : Dimensions) (formed : IsShape shape) (Asked : Input → Type 0) (known claims : Claims) (cases : Cases shape Asked known claims) (always : Always shape Asked known) where
  turn_keeps : (done : List WorldEvent) → Each (Meets Asked) done → Holds shape claims (run done (first_world shape)) → (next : WorldState) → IsNext Asked (run done (first_world shape)) next → Holds shape claims next
  turn_keeps done met_before h next is =
      subst (Holds shape claims) (sym is.did)
      (turn_holds shape Asked known claims cases (run done (first_world shape)) (form_of_run shape done) (always.holds done met_before) h is.turn is.is)

  pub run_keeps : Always shape Asked claims
  run_keeps = record { holds = every_world shape Asked (Holds shape claims) (first_holds shape Asked known claims cases formed) turn_keeps }

no_messages : (es : List Envelope) → Each (λ (e : Envelope). Unit {0}) es
no_messages [] = tt
no_messages (e ∷ es) = (tt, no_messages es)

-- nothing is known at first
pub nothing_always : (shape : Dimensions) (Asked : Input → Type 0) → Always shape Asked nothing
nothing_always shape Asked = record {
  holds = λ events may. record {
    clients = λ c s h. tt;
    readers = λ c s h. tt;
    control = tt;
    seqs = λ i s h. tt;
    shards = λ k s h. tt;
    sent = no_messages (run events (first_world shape)).sent;
  };
}

each_both : (P Q : Envelope → Type 0) (es : List Envelope) → Each P es → Each Q es → Each (λ (e : Envelope). P e × Q e) es
each_both P Q [] h k = tt
each_both P Q (e ∷ es) h k = ((h.0, k.0), each_both P Q es h.1 k.1)

-- and what was shown is known to the next
pub both_always : (shape : Dimensions) (Asked : Input → Type 0) (a b : Claims) → Always shape Asked a → Always shape Asked b → Always shape Asked (both a b)
both_always shape Asked a b first second = record {
  holds = λ events may.
      let p = first.holds events may in
      let q = second.holds events may in
      record {
        clients = λ c s h. (p.clients c s h, q.clients c s h);
        readers = λ c s h. (p.readers c s h, q.readers c s h);
        control = (p.control, q.control);
        seqs = λ i s h. (p.seqs i s h, q.seqs i s h);
        shards = λ k s h. (p.shards k s h, q.shards k s h);
        sent = each_both (λ (e : Envelope). a.sent (run events (first_world shape)).events e.from e.to e.msg) (λ (e : Envelope). b.sent (run events (first_world shape)).events e.from e.to e.msg) (run events (first_world shape)).sent p.sent q.sent;
      };
}
