-- Rows that send and tell nothing. A message that no row heeds leaves all as it was, turned away or not.
use Rattle.std.proofs.Common.{◌≡◌, ◌++◌, ◌-◌, ℕ, List, [], Bool, true, false, Ok, refl, sym, ap, ◌∙◌, subst, arith}
use Rattle.std.specs.Prelude.{Result, Err, OnOk, if◌then◌else◌}
use Rattle.std.proofs.lemmas.List.{append-nil}
use Rattle.std.proofs.Math.Nat.{sub-zero}
use Rattle.rec_id.specs.declared.event.Event.{Event}
use Rattle.lazy_msgs.specs.declared.msg.Msg.{Msg}
use Rattle.lazy_msgs.specs.declared.refused.StepRefused.TheVariants.{Over}
use Rattle.lazy_msgs.specs.Outbox.{Out, put_on}
use Rattle.lazy_msgs.specs.Step.{Row, StepsTo}
use Rattle.lazy_rules.specs.ClientRules.{client_row, client_took}
use Rattle.lazy_rules.specs.ClientState.{ClientState}
use Rattle.lazy_rules.specs.Door.{is_turned_away}
use Rattle.lazy_rules.specs.Rows.{stays}

nothing_put : (out : Out) → out ≡ put_on out [] []
nothing_put out =
    let made : List (ℕ × Msg) → List Event → ℕ → ℕ → Out = λ sends events messages weight. record { sends = sends; events = events; messages_left = messages; weight_left = weight } in
    ap (λ (l : List (ℕ × Msg)). made l out.events out.messages_left out.weight_left) (sym (append-nil out.sends))
    ∙ ap (λ (l : List Event). made (out.sends ++ []) l out.messages_left out.weight_left) (sym (append-nil out.events))
    ∙ ap (λ (n : ℕ). made (out.sends ++ []) (out.events ++ []) n out.weight_left) (sym (sub-zero out.messages_left))
    ∙ ap (made (out.sends ++ []) (out.events ++ []) (out.messages_left - 0)) (sym (sub-zero out.weight_left))

pub moves_put : (before after next : ClientState) (out : Out) → after ≡ next → StepsTo {R = Unit {0}} (stays next) before after out out (Ok tt) Over
moves_put before after next out is = record {
  state = is;
  sent = nothing_put out;
  fits = record { in_number = omega arith; in_weight = omega arith };
  room = λ is. absurd cc;
  few = omega arith;
  unchanged = tt;
  unsent = tt;
}

pub on_ok_map : {R E P Q : Type 0} (result : Result R E) → (P → Q) → OnOk result P → OnOk result Q
on_ok_map (Ok x) f p = f p
on_ok_map (Err e) f p = tt

either_way : {A : Type 0} (b : Bool) (x y : A) → y ≡ x → (if b then x else y) ≡ x
either_way true x y same = refl
either_way false x y same = same

pub ignored : (c : ClientState) (sender : ℕ) (msg : Msg) (out : Out) → client_row c sender msg ≡ stays c
    → StepsTo {R = Unit {0}} (client_took c sender msg) c c out out (Ok tt) Over
ignored c sender msg out same =
    let row : client_took c sender msg ≡ stays c = either_way (is_turned_away c.shape sender msg) (stays c) (client_row c sender msg) same in
    subst (λ (r : Row ClientState). StepsTo {R = Unit {0}} r c c out out (Ok tt) Over) (sym row) (moves_put c c c out refl)
