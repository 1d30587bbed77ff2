-- The message of each merged step is among those that merged steps sent.
use Rattle.std.proofs.Common.{◌≡◌, ℕ, ◌+◌, List, [], ◌∷◌, length, Bool, not, true, None, inl, inr, refl, sym, ap, ◌∙◌, subst, arith, ne_eqb}
use Rattle.std.specs.Prelude.{◌-◌, if◌then◌else◌, slice_get}
use Rattle.list_facts.specs.Lists.{In, Each}
use Rattle.list_facts.proofs.Members.{each_in, in_each, in_map, in_mapped}
use Rattle.list_facts.proofs.Places.{at_in}
use Rattle.rec_id.specs.Identity.{Identity}
use Rattle.view_config.specs.Shape.{Dimensions}
use Rattle.lazy_msgs.specs.declared.diary.Diary.{Diary}
use Rattle.lazy_msgs.specs.declared.diary.DiaryEntry.{DiaryEntry}
use Rattle.lazy_msgs.specs.declared.input.Input.{Input}
use Rattle.lazy_msgs.specs.declared.input.Input.TheVariants.{Take, Tick, Grace, Crash, Post, Ask, Trim, Suspect, Peek}
use Rattle.lazy_msgs.specs.declared.input.WorldEvent.{WorldEvent}
use Rattle.lazy_msgs.specs.declared.input.WorldEvent.TheVariants.{Post as PostEvent, Ask as AskEvent, Trim as TrimEvent, Peek as PeekEvent, Deliver, Tick as TickEvent, Grace as GraceEvent, Crash as CrashEvent, Suspect as SuspectEvent}
use Rattle.lazy_msgs.specs.declared.msg.Envelope.{Envelope}
use Rattle.lazy_msgs.specs.declared.msg.Msg.{Msg}
use Rattle.lazy_msgs.specs.declared.msg.Msg.TheVariants.{Claim}
use Rattle.lazy_rules.specs.WorldRules.{enveloped}
use Rattle.diary_laws.specs.Closed.{AreClosed, IsClaimed, IsJustified, all_sent, sent_in}
use Rattle.diary_laws.specs.Formed.{AreDiaries, Follows, IsFormed}
use Rattle.diary_laws.specs.Machines.{Machine, Step, step_of, steps_from, steps_in}
use Rattle.diary_laws.specs.Merges.{AreEventsOf, CanBecome, IsClaimFound, IsEventOf, IsFound, IsMerged, IsNumber, finds_none, sent_by}
use Rattle.diary_laws.specs.Nodes.{NodeState, nodes_of_shape}
use Rattle.diary_laws.proofs.merges.Crashes.{in_flat, made_of, step_merged}
use Rattle.diary_laws.proofs.merges.Going.{IsQuiet}
use Rattle.diary_laws.proofs.merges.Parts.{steps_are}
use Rattle.diary_laws.proofs.runs.Due.{IsDueIn, all_due, sends_event}
use Rattle.diary_laws.proofs.runs.Quiet.{nodes_quiet}
use Rattle.diary_laws.proofs.runs.Ready.{positive}

module _ (m : Machine) where
  -- the step of an entry
  pub record EntryStep (me : ℕ) (s : m.State) (entries : List DiaryEntry) (entry : DiaryEntry) : Type 0 where
    pub step : Step m.State
    pub there : In step (steps_from m me s entries)
    pub own : step.node ≡ me
    pub at : step.time ≡ entry.time
    pub sends : step.row.sends ≡ entry.sends

  entry_step : (me last : ℕ) (s : m.State) (entries : List DiaryEntry) → Follows m me last s entries → (entry : DiaryEntry) → In entry entries → EntryStep me s entries entry
  entry_step me last s [] h entry there = absurd there
  entry_step me last s (first ∷ entries) h entry (inl e) = record {
    step = step_of m me s first;
    there = inl refl;
    own = refl;
    at = ap (λ (x : DiaryEntry). x.time) e;
    sends = sym h.0.sends ∙ ap (λ (x : DiaryEntry). x.sends) e;
  }
  entry_step me last s (first ∷ entries) h entry (inr there) =
      let rest = entry_step me first.time (m.step s first.input).next entries h.2 entry there in
      record { step = rest.step; there = inr rest.there; own = rest.own; at = rest.at; sends = rest.sends }

  module _ (quiet : IsQuiet m) (diaries : List Diary) (are : AreDiaries m diaries) (closed : AreClosed m diaries) (merged : List (Step m.State)) (is : IsMerged m diaries merged) where
    -- what a diary sent, a merged step sent
    sent_merged : (e : Envelope) → In e (all_sent diaries) → In e (sent_by merged)
    sent_merged e there =
        let diary = made_of sent_in diaries e there in
        let entry = made_of (λ (x : DiaryEntry). enveloped diary.origin.node x.time x.sends) diary.origin.entries e diary.made in
        let formed = each_in (IsFormed m) diaries are.formed diary.origin diary.there in
        let step = entry_step diary.origin.node 0 formed.start diary.origin.entries formed.follows entry.origin entry.there in
        let by_node : In e (enveloped step.step.node entry.origin.time entry.origin.sends) = subst (λ (n : ℕ). In e (enveloped n entry.origin.time entry.origin.sends)) (sym step.own) entry.made in
        let by_time : In e (enveloped step.step.node step.step.time entry.origin.sends) = subst (λ (t : ℕ). In e (enveloped step.step.node t entry.origin.sends)) (sym step.at) by_node in
        let sent : In e (enveloped step.step.node step.step.time step.step.row.sends) = subst (λ (sends : List (ℕ × Msg)). In e (enveloped step.step.node step.step.time sends)) (sym step.sends) by_time in
        let among = in_flat (steps_in m) diary.origin diaries step.step diary.there (subst (In step.step) (sym (steps_are m diary.origin formed)) step.there) in
        let send = in_mapped (λ (send : ℕ × Msg). record { from = step.step.node; to = send.0; time = step.step.time; msg = send.1 }) e step.step.row.sends sent in
        in_flat (λ (x : Step m.State). enveloped x.node x.time x.row.sends) step.step merged e
        (step_merged m diaries are merged is step.step among (sends_event m quiet diaries are closed merged is step.step among send.0 send.1)) sent

    claim_merged : (now stable time replica from : ℕ) (ids : List Identity) → IsClaimed m merged now stable time replica from ids → IsClaimFound (sent_by merged) stable time replica
    claim_merged now stable time replica from ids h =
        let claim : Envelope = record { from = h.step.node; to = h.addressee; time = h.step.time; msg = Claim stable } in
        record {
          claim = claim;
          there = in_flat (λ (x : Step m.State). enveloped x.node x.time x.row.sends) h.step merged claim h.there
              (in_map (λ (send : ℕ × Msg). record { from = h.step.node; to = send.0; time = h.step.time; msg = send.1 }) (h.addressee, Claim stable) h.step.row.sends h.claims);
          by = h.by;
          at = h.at;
          says = refl;
        }

    found : (now : ℕ) (input : Input) → not (finds_none input) ≡ true → IsJustified m (all_sent diaries) merged now input → IsFound (sent_by merged) input
    found now (Take envelope) some h = sent_merged envelope h
    found now (Peek stable time replica from ids) some h = claim_merged now stable time replica from ids (h.claimed (positive stable some))
    found now Tick some h = tt
    found now Grace some h = tt
    found now Crash some h = tt
    found now (Post bytes) some h = tt
    found now (Ask ask) some h = tt
    found now (Trim floor) some h = tt
    found now (Suspect other) some h = tt

    pub all_found : Each (λ (x : Step m.State). IsFound (sent_by merged) x.input) merged
    all_found = in_each (λ (x : Step m.State). IsFound (sent_by merged) x.input) merged (λ x there.
        let due = each_in (IsDueIn m (all_sent diaries) merged) merged (all_due m quiet diaries are closed merged is) x there in
        found x.time x.input due.event due.justified)

-- a number of what is there
pub record HasNumber (sent : List Envelope) (e : Envelope) : Type 0 where
  pub number : ℕ
  pub numbered : IsNumber sent e number

numbered_at : (sent : List Envelope) (e : Envelope) → In e sent → HasNumber sent e
numbered_at sent e there =
    let at = at_in sent e there in
    let place : at.0 + 1 - 1 ≡ at.0 = omega arith in
    record {
      number = at.0 + 1;
      numbered = ap (λ (b : Bool). if b then None else slice_get sent (at.0 + 1 - 1)) (ne_eqb (at.0 + 1) 0 (omega arith)) ∙ ap (slice_get sent) place ∙ at.1;
    }

-- the event of a step
pub record HasEvent (sent : List Envelope) (node : ℕ) (input : Input) : Type 0 where
  pub event : WorldEvent
  pub is : IsEventOf (IsNumber sent) node input event

event_for : (sent : List Envelope) (node : ℕ) (input : Input) → IsFound sent input → HasEvent sent node input
event_for sent node (Take envelope) h = let k = numbered_at sent envelope h in record { event = Deliver k.number; is = record { number = k.number; numbered = k.numbered; is = refl } }
event_for sent node (Peek stable time replica from ids) h =
    let k = numbered_at sent h.claim h.there in
    record {
      event = PeekEvent node k.number from (from + length ids);
      is = record { claim = h.claim; by = h.by; at = h.at; says = h.says; number = k.number; numbered = k.numbered; is = refl };
    }
event_for sent node Tick h = record { event = TickEvent node; is = refl }
event_for sent node Grace h = record { event = GraceEvent node; is = refl }
event_for sent node Crash h = record { event = CrashEvent node; is = refl }
event_for sent node (Post bytes) h = record { event = PostEvent node bytes; is = refl }
event_for sent node (Ask ask) h = record { event = AskEvent node ask; is = refl }
event_for sent node (Trim floor) h = record { event = TrimEvent node floor; is = refl }
event_for sent node (Suspect other) h = record { event = SuspectEvent other; is = refl }

pub record HaveEvents {S : Type 0} (sent : List Envelope) (steps : List (Step S)) : Type 0 where
  pub events : List WorldEvent
  pub are : AreEventsOf (IsNumber sent) steps events

events_for : {S : Type 0} (sent : List Envelope) (steps : List (Step S)) → Each (λ x. IsFound sent x.input) steps → HaveEvents sent steps
events_for sent [] h = record { events = []; are = tt }
events_for sent (x ∷ xs) h =
    let first = event_for sent x.node x.input h.0 in
    let rest = events_for sent xs h.1 in
    record { events = first.event ∷ rest.events; are = (first.is, rest.are) }

module _ (shape : Dimensions) (diaries : List Diary) (merged : List (Step NodeState)) (are : AreDiaries (nodes_of_shape shape) diaries) (closed : AreClosed (nodes_of_shape shape) diaries) (is : IsMerged (nodes_of_shape shape) diaries merged) where
  pub nodes_found : Each (λ (x : Step NodeState). IsFound (sent_by merged) x.input) merged
  nodes_found = all_found (nodes_of_shape shape) (nodes_quiet shape) diaries are closed merged is

  pub nodes_become : CanBecome merged
  nodes_become = let k = events_for (sent_by merged) merged nodes_found in record { events = k.events; are = k.are }
