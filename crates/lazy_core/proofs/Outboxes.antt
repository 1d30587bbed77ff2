-- What an outbox has room for, where a step puts it there in two parts, and what is cut back.
use Rattle.std.proofs.Common.{◌≡◌, ℕ, ◌+◌, ◌-◌, ◌≤◌, List, [], ◌∷◌, ◌++◌, length, take, drop, refl, sym, ap, ◌∙◌, arith, append_assoc, length-append}
use Rattle.std.proofs.lemmas.List.{append-nil}
use Rattle.std.proofs.Math.Nat.{sub-zero}
use Rattle.std.proofs.lemmas.List.Sums.{sum_by-append}
use Rattle.rec_id.specs.declared.event.Event.{Event}
use Rattle.lazy_msgs.specs.declared.msg.Msg.{Msg}
use Rattle.lazy_msgs.specs.Outbox.{Out, Fits, cut_to, put_on}
use Rattle.lazy_msgs.specs.Weight.{sends_weight, weight_of}
use Rattle.lazy_core.specs.ClientParts.{IsGrown}

pub weight_both : (a b : List (ℕ × Msg)) → sends_weight (a ++ b) ≡ sends_weight a + sends_weight b
weight_both a b = sum_by-append (λ (send : ℕ × Msg). weight_of send.1) a b

module _ (out : Out) (a b : List (ℕ × Msg)) (told more : List Event) where
  pub both_fit : Fits a out → Fits b (put_on out a told) → Fits (a ++ b) out
  both_fit h k =
      let n : length a ≤ out.messages_left = h.in_number in
      let w : sends_weight a ≤ out.weight_left = h.in_weight in
      let m : length b ≤ out.messages_left - length a = k.in_number in
      let v : sends_weight b ≤ out.weight_left - sends_weight a = k.in_weight in
      record { in_number = omega (arith, length-append a b); in_weight = omega (arith, weight_both a b) }

  pub first_fits : Fits (a ++ b) out → Fits a out
  first_fits h =
      let n : length (a ++ b) ≤ out.messages_left = h.in_number in
      let w : sends_weight (a ++ b) ≤ out.weight_left = h.in_weight in
      record { in_number = omega (arith, length-append a b); in_weight = omega (arith, weight_both a b) }

  pub second_fits : Fits (a ++ b) out → Fits b (put_on out a told)
  second_fits h =
      let n : length (a ++ b) ≤ out.messages_left = h.in_number in
      let w : sends_weight (a ++ b) ≤ out.weight_left = h.in_weight in
      record { in_number = omega (arith, length-append a b); in_weight = omega (arith, weight_both a b) }

  pub put_both : put_on (put_on out a told) b more ≡ put_on out (a ++ b) (told ++ more)
  put_both =
      let s : (out.sends ++ a) ++ b ≡ out.sends ++ (a ++ b) = append_assoc out.sends a b in
      let e : (out.events ++ told) ++ more ≡ out.events ++ (told ++ more) = append_assoc out.events told more in
      let m : (out.messages_left - length a) - length b ≡ out.messages_left - length (a ++ b) = omega (arith, length-append a b) in
      let w : (out.weight_left - sends_weight a) - sends_weight b ≡ out.weight_left - sends_weight (a ++ b) = omega (arith, weight_both a b) in
      cc

abbrev made : List (ℕ × Msg) → List Event → ℕ → ℕ → Out
made sends events messages weight = record { sends = sends; events = events; messages_left = messages; weight_left = weight }

-- an outbox with nothing more in it
pub nothing_put : (out : Out) → out ≡ put_on out [] []
nothing_put out =
    ap (λ (l : List (ℕ × Msg)). made l out.events out.messages_left out.weight_left) (sym (append-nil out.sends))
    ∙ ap (λ (l : List Event). made (out.sends ++ []) l out.messages_left out.weight_left) (sym (append-nil out.events))
    ∙ ap (λ (n : ℕ). made (out.sends ++ []) (out.events ++ []) n out.weight_left) (sym (sub-zero out.messages_left))
    ∙ ap (made (out.sends ++ []) (out.events ++ []) (out.messages_left - 0)) (sym (sub-zero out.weight_left))

pub not_grown : (out after : Out) → after ≡ out → IsGrown out after
not_grown out after same = record {
  sends = [];
  events = [];
  fits = record { in_number = omega arith; in_weight = omega arith };
  is = same ∙ nothing_put out;
}

module _ {A : Type 0} where
  take_front : (xs ys : List A) → take (length xs) (xs ++ ys) ≡ xs
  take_front [] ys = refl
  take_front (x ∷ xs) ys = ap (λ (zs : List A). x ∷ zs) (take_front xs ys)

  drop_front : (xs ys : List A) → drop (length xs) (xs ++ ys) ≡ ys
  drop_front [] ys = refl
  drop_front (x ∷ xs) ys = drop_front xs ys

-- what is cut back to what was there before is as before
pub cut_back_grown : (out after : Out) → IsGrown out after → cut_to after (length out.sends) (length out.events) ≡ out
cut_back_grown out after grown =
    let n : length grown.sends ≤ out.messages_left = grown.fits.in_number in
    let h : sends_weight grown.sends ≤ out.weight_left = grown.fits.in_weight in
    let s : take (length out.sends) (out.sends ++ grown.sends) ≡ out.sends = take_front out.sends grown.sends in
    let e : take (length out.events) (out.events ++ grown.events) ≡ out.events = take_front out.events grown.events in
    let m : (out.messages_left - length grown.sends) + (length (out.sends ++ grown.sends) - length out.sends) ≡ out.messages_left = omega (arith, length-append out.sends grown.sends) in
    let cut : sends_weight (drop (length out.sends) (out.sends ++ grown.sends)) ≡ sends_weight grown.sends = ap sends_weight (drop_front out.sends grown.sends) in
    let w : (out.weight_left - sends_weight grown.sends) + sends_weight (drop (length out.sends) (out.sends ++ grown.sends)) ≡ out.weight_left = omega arith in
    ap (λ (o : Out). cut_to o (length out.sends) (length out.events)) grown.is
    ∙ ap (λ (l : List (ℕ × Msg)). made l (take (length out.events) (out.events ++ grown.events)) ((out.messages_left - length grown.sends) + (length (out.sends ++ grown.sends) - length out.sends)) ((out.weight_left - sends_weight grown.sends) + sends_weight (drop (length out.sends) (out.sends ++ grown.sends)))) s
    ∙ ap (λ (l : List Event). made out.sends l ((out.messages_left - length grown.sends) + (length (out.sends ++ grown.sends) - length out.sends)) ((out.weight_left - sends_weight grown.sends) + sends_weight (drop (length out.sends) (out.sends ++ grown.sends)))) e
    ∙ ap (λ (n : ℕ). made out.sends out.events n ((out.weight_left - sends_weight grown.sends) + sends_weight (drop (length out.sends) (out.sends ++ grown.sends)))) m
    ∙ ap (made out.sends out.events out.messages_left) w

-- nothing that was there before is missing
pub sends_grown : (out after : Out) → IsGrown out after → length out.sends ≤ length after.sends
sends_grown out after grown = let longer : length after.sends ≡ length (out.sends ++ grown.sends) = ap (λ (o : Out). length o.sends) grown.is in omega (arith, length-append out.sends grown.sends)

pub events_grown : (out after : Out) → IsGrown out after → length out.events ≤ length after.events
events_grown out after grown = let longer : length after.events ≡ length (out.events ++ grown.events) = ap (λ (o : Out). length o.events) grown.is in omega (arith, length-append out.events grown.events)
