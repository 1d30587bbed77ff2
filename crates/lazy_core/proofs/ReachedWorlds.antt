-- Worlds that events lead to: one event more, and the lines of the holders.
use Rattle.std.proofs.Common.{◌≡◌, ℕ, List, [], ◌∷◌, ◌++◌, ◌+◌, length-append, true, None, refl, sym, ap, ◌∙◌, subst}
use Rattle.std.specs.Prelude.{◌==◌, Result, Ok, Err, IfOk}
use Rattle.std.proofs.lemmas.Bool.{eqb-true}
use Rattle.list_facts.specs.Lists.{In}
use Rattle.list_facts.proofs.Members.{each_append, in_passes}
use Rattle.log_facts.specs.LawfulLines.{AreLinesLawful}
use Rattle.all_rows.proofs.Everywhere.{lines_lawful}
use Rattle.all_rows.proofs.Rows.{all_rows}
use Rattle.rec_id.specs.Lawful.{Lawful}
use Rattle.rec_id.specs.declared.entry.Entry.{Entry}
use Rattle.lazy_msgs.specs.declared.input.WorldEvent.{WorldEvent}
use Rattle.lazy_msgs.specs.declared.refused.EventRefused.{EventRefused}
use Rattle.lazy_rules.specs.Holders.{holders}
use Rattle.lazy_rules.specs.Lines.{line_told}
use Rattle.lazy_rules.specs.Rows.{has_node}
use Rattle.lazy_rules.specs.WorldState.{WorldState, first_world}
use Rattle.lazy_rules.specs.WorldRules.{after, accepted, happened, refusal, run}
use Rattle.world_facts.specs.SizesOf.{IsOfWords}
use Rattle.world_facts.specs.Turns.{Meets, Turn, ClientTurn, ControlTurn, SeqTurn, ShardTurn, CrashTurn, turned}
use Rattle.world_facts.proofs.Runs.{run_append}
use Rattle.world_facts.proofs.goes.Lost.{turn_of_run}
use Rattle.lazy_core.specs.declared.line.LineError.{LineError}
use Rattle.lazy_core.specs.Happens.{HappensIn}
use Rattle.lazy_core.specs.LinesOf.{IsLawfulWhere, TellsLine, bare}
use Rattle.lazy_core.specs.Reached.{Appends, AreAccepted, IsReached}

accepted_more : (events : List WorldEvent) (event : WorldEvent) (w : WorldState) → AreAccepted events w → refusal (run events w) event ≡ None → AreAccepted (events ++ event ∷ []) w
accepted_more [] event w h allowed = (allowed, tt)
accepted_more (first ∷ events) event w h allowed = (h.0, accepted_more events event (happened w first) h.1 allowed)

-- a turn is one event
one_event : (w : WorldState) (turn : Turn) → (turned w turn).events ≡ w.events + 1
one_event w (ClientTurn c n input) = refl
one_event w (ControlTurn input) = refl
one_event w (SeqTurn i s input) = refl
one_event w (ShardTurn i j s input) = refl
one_event w (CrashTurn node) = refl

-- an event that isn't refused is counted
counts : (w : WorldState) (r : IsReached w) (event : WorldEvent) → refusal w event ≡ None → (after w event).events ≡ w.events + 1
counts w r event allowed =
    let next = subst (λ (x : WorldState). (e : WorldEvent) → refusal x e ≡ None → (after x e).events ≡ x.events + 1) (sym r.is)
    (λ e free. let turn = turn_of_run r.shape r.events r.formed e free in ap (λ (x : WorldState). x.events) turn.did ∙ one_event (run r.events (first_world r.shape)) turn.turn) in
    next event allowed

-- one event more
reached_more : (w : WorldState) (event : WorldEvent) (r : IsReached w) → Meets IsOfWords event → refusal w event ≡ None → (s : IsReached (after w event)) × (s.events ≡ r.events ++ event ∷ [])
reached_more w event r asked allowed = (
  record {
    shape = r.shape;
    formed = r.formed;
    events = r.events ++ event ∷ [];
    accepted = accepted_more r.events event (first_world r.shape) r.accepted (subst (λ (x : WorldState). refusal x event ≡ None) r.is allowed);
    asked = each_append (Meets IsOfWords) r.events (event ∷ []) r.asked (asked, tt);
    counted = counts w r event allowed ∙ ap (λ (n : ℕ). n + 1) r.counted ∙ sym (length-append r.events (event ∷ []));
    is = ap (accepted w event) (sym allowed) ∙ ap (λ (x : WorldState). happened x event) r.is ∙ sym (run_append r.events (event ∷ []) (first_world r.shape));
  },
  refl,
)

module _ (F : Type 0) (w new : WorldState) (event : WorldEvent) (asked : Meets IsOfWords event) where
  pub reached_after : (outcome : Result (Unit {0}) EventRefused) → IsReached w → HappensIn F (after w event) (refusal w event) w new outcome → IsReached new
  reached_after (Ok done) r h = subst IsReached (sym h.happened) (reached_more w event r asked h.allowed).0
  reached_after (Err refused) r h = subst IsReached (sym h.unchanged) r

  pub appends_after : (outcome : Result (Unit {0}) EventRefused) → HappensIn F (after w event) (refusal w event) w new outcome → Appends event w new outcome
  appends_after (Ok done) h = record {
    appended = λ r. subst (λ (x : WorldState). (s : IsReached x) × (s.events ≡ r.events ++ event ∷ [])) (sym h.happened) (reached_more w event r asked h.allowed);
  }
  appends_after (Err refused) h = record { appended = λ r. tt }

-- the line of a holder is lawful
among : (w : WorldState) (holder : ℕ) → has_node (holders w) holder ≡ true → In holder (holders w)
among w holder there =
    let k = in_passes (λ (other : ℕ). other == holder) (holders w) there in
    subst (λ (n : ℕ). In n (holders w)) (eqb-true k.0 holder k.2) k.1

pub told_lawful : {E : Type 0} (w : WorldState) (holder : ℕ) (outcome : Result (List Entry) E) → IfOk outcome (λ line. line_told w holder ≡ Ok line) → IsReached w → has_node (holders w) holder ≡ true → IfOk outcome (λ line. Lawful w.history line)
told_lawful w holder (Ok line) told r there = subst AreLinesLawful (sym r.is) (lines_lawful all_rows r.shape r.events r.formed) holder line (among w holder there) told
told_lawful w holder (Err e) told r there = tt

-- the same of each world that events lead to and that stands so
pub lawful_where : (standing : WorldState) (holder : ℕ) (outcome : Result (List Entry) LineError) → IfOk outcome (λ line. line_told standing holder ≡ Ok line) → IsLawfulWhere standing holder outcome
lawful_where standing holder outcome told w reached same =
    told_lawful w holder outcome (subst (λ (s : WorldState). IfOk outcome (λ line. line_told s holder ≡ Ok line)) (sym same) told) reached

-- a line hangs on how a world stands alone
pub tells_bare : (w : WorldState) (holder : ℕ) (outcome : Result (List Entry) LineError) → TellsLine (bare w) holder outcome → TellsLine w holder outcome
tells_bare w holder outcome h = record { told = h.told; lost = h.lost }
