-- Every message of a world that events lead to has a frame.
use Rattle.std.proofs.Common.{◌≡◌, ◌^◌, ◌-◌, ◌<◌, ℕ, suc, zero, List, [], ◌∷◌, Option, None, sym, subst, arith}
use Rattle.std.specs.Prelude.{◌==◌, IfSome, slice_get}
use Rattle.list_facts.specs.Lists.{Each}
use Rattle.list_facts.proofs.Cases.{either}
use Rattle.view_config.specs.Shape.{Dimensions}
use Rattle.lazy_msgs.specs.FrameLimits.{Fits}
use Rattle.lazy_msgs.specs.declared.msg.Envelope.{Envelope}
use Rattle.lazy_rules.specs.WorldRules.{message_at, run}
use Rattle.lazy_rules.specs.WorldState.{WorldState, first_world}
use Rattle.world_facts.proofs.Runs.{form_of_run}
use Rattle.all_rows.proofs.Everywhere.{messages_fit}
use Rattle.all_rows.proofs.Rows.{all_rows}
use Rattle.lazy_core.specs.Reached.{IsReached}

-- each message has one
all_framed : (w : WorldState) → IsReached w → w.events < 2 ^ 32 → Each (Fits w.shape.edition) w.sent
all_framed w r few =
    let run_is : WorldState = run r.events (first_world r.shape) in
    let small : run_is.events < 2 ^ 32 = subst (λ (x : WorldState). x.events < 2 ^ 32) r.is few in
    let shaped : run_is.shape ≡ r.shape = (form_of_run r.shape r.events).shaped in
    let fit : Each (Fits r.shape.edition) run_is.sent = messages_fit all_rows r.shape r.events r.formed r.asked (omega arith) in
    subst (λ (x : WorldState). Each (Fits x.shape.edition) x.sent) (sym r.is) (subst (λ (d : Dimensions). Each (Fits d.edition) run_is.sent) (sym shaped) fit)

-- what holds of each member holds of the one at a place
module _ {A : Type 0} (P : A → Type 0) where
  each_found : (xs : List A) (i : ℕ) → Each P xs → IfSome (slice_get xs i) P
  each_found [] i h = tt
  each_found (x ∷ xs) zero h = h.0
  each_found (x ∷ xs) (suc i) h = each_found xs i h.1

pub message_framed : (w : WorldState) (k : ℕ) → IsReached w → w.events < 2 ^ 32 → IfSome (message_at w k) (Fits w.shape.edition)
message_framed w k r few =
    either (λ (o : Option Envelope). IfSome o (Fits w.shape.edition)) (k == 0) None (slice_get w.sent (k - 1)) (λ e. tt)
    (λ e. each_found (Fits w.shape.edition) w.sent (k - 1) (all_framed w r few))
