-- Events applied, one by one.
use Rattle.std.proofs.Common.{◌≡◌, ℕ, ◌+◌, ◌-◌, ◌<◌, List, [], ◌∷◌, Bool, true, false, not, ◌&&◌, Option, Some, None, refl, sym, ap, ◌∙◌, arith, suc}
use Rattle.std.specs.Prelude.{if◌then◌else◌}
use Rattle.std.specs.Option.{is_none}
use Rattle.lazy_msgs.specs.declared.input.WorldEvent.{WorldEvent}
use Rattle.lazy_msgs.specs.declared.input.WorldEvent.TheVariants.{Deliver}
use Rattle.lazy_msgs.specs.declared.refused.EventRefused.{EventRefused}
use Rattle.lazy_rules.specs.WorldRules.{IsWithinLimits, after, accepted, happened, refusal, run}
use Rattle.lazy_rules.specs.WorldState.{WorldState}
use Rattle.lazy_core.specs.Spending.{is_spent, is_within}
use Rattle.lazy_core.proofs.Spending.{beyond_false, within_true}
use Rattle.lazylog_trace.specs.declared.apply.Outcome.TheVariants.{Through, Spent}
use Rattle.lazylog_trace.specs.Apply.{Applies, Applied, led_to, deliveries, applied, until_spent}

-- one event
one_applied : (w : WorldState) (event : WorldEvent) → is_spent w event ≡ false → applied w (event ∷ []) ≡ led_to (happened w event) false
one_applied w event fits = ap (λ (b : Bool). if b then led_to w true else led_to (happened w event) false) fits

one_spent : (w : WorldState) (event : WorldEvent) → is_spent w event ≡ true → applied w (event ∷ []) ≡ led_to w true
one_spent w event spent = ap (λ (b : Bool). if b then led_to w true else led_to (happened w event) false) spent

module _ (w new : WorldState) (event : WorldEvent) where
  pub happened_applied : refusal w event ≡ None → IsWithinLimits (after w event) → new ≡ after w event → Applies (event ∷ []) w new Through
  happened_applied allowed within is = record {
    done =
        one_applied w event (ap (λ (r : Option EventRefused). is_none r && not (is_within (after w event))) allowed ∙ ap (λ (b : Bool). not b) (within_true (after w event) within))
        ∙ ap (λ (x : WorldState). led_to x false) (ap (accepted w event) allowed ∙ sym is);
  }

  pub spent_applied : refusal w event ≡ None → ¬ IsWithinLimits (after w event) → new ≡ w → Applies (event ∷ []) w new Spent
  spent_applied allowed beyond is = record {
    done =
        one_spent w event (ap (λ (r : Option EventRefused). is_none r && not (is_within (after w event))) allowed ∙ ap (λ (b : Bool). not b) (beyond_false (after w event) beyond))
        ∙ ap (λ (x : WorldState). led_to x true) (sym is);
  }

  pub refused_applied : (refused : EventRefused) → refusal w event ≡ Some refused → new ≡ w → Applies (event ∷ []) w new Through
  refused_applied refused why is = record {
    done =
        one_applied w event (ap (λ (r : Option EventRefused). is_none r && not (is_within (after w event))) why)
        ∙ ap (λ (x : WorldState). led_to x false) (ap (accepted w event) why ∙ sym is);
  }

pub ruleset events_applied = (happened_applied, spent_applied, refused_applied)

-- events behind one that went through, or was spent
applied_on : (w new : WorldState) (event : WorldEvent) (events : List WorldEvent) → Applies (event ∷ []) w new Through → applied w (event ∷ events) ≡ applied new events
applied_on w new event events d = by (is_spent w event) refl d.done
  where
    by : (b : Bool) → is_spent w event ≡ b → (if b then led_to w true else led_to (happened w event) false) ≡ led_to new false → (if b then led_to w true else applied (happened w event) events) ≡ applied new events
    by true e h = let wrong : true ≡ false = ap (λ (x : Applied). x.spent) h in cc
    by false e h = ap (λ (x : WorldState). applied x events) (ap (λ (x : Applied). x.world) h)

applied_stop : (w new : WorldState) (event : WorldEvent) (events : List WorldEvent) → Applies (event ∷ []) w new Spent → applied w (event ∷ events) ≡ led_to new true
applied_stop w new event events d = by (is_spent w event) refl d.done
  where
    by : (b : Bool) → is_spent w event ≡ b → (if b then led_to w true else led_to (happened w event) false) ≡ led_to new true → (if b then led_to w true else applied (happened w event) events) ≡ led_to new true
    by true e h = h
    by false e h = let wrong : false ≡ true = ap (λ (x : Applied). x.spent) h in cc

next_delivery : (first count i : ℕ) → i < count → deliveries (first + i) (count - i) ≡ Deliver (first + i) ∷ deliveries (first + (i + 1)) (count - (i + 1))
next_delivery first count i lt =
    let more : count - i ≡ suc (count - (i + 1)) = omega arith in
    let next : first + i + 1 ≡ first + (i + 1) = omega arith in
    ap (deliveries (first + i)) more ∙ ap (λ (n : ℕ). Deliver (first + i) ∷ deliveries n (count - (i + 1))) next

module _ (first count i : ℕ) (lt : i < count) (w new : WorldState) where
  pub deliver_on : Applies (Deliver (first + i) ∷ []) w new Through → applied w (deliveries (first + i) (count - i)) ≡ applied new (deliveries (first + (i + 1)) (count - (i + 1)))
  deliver_on d = ap (applied w) (next_delivery first count i lt) ∙ applied_on w new (Deliver (first + i)) (deliveries (first + (i + 1)) (count - (i + 1))) d

  pub deliver_stop : Applies (Deliver (first + i) ∷ []) w new Spent → applied w (deliveries (first + i) (count - i)) ≡ led_to new true
  deliver_stop d = ap (applied w) (next_delivery first count i lt) ∙ applied_stop w new (Deliver (first + i)) (deliveries (first + (i + 1)) (count - (i + 1))) d

module _ (first count i : ℕ) (lt : i < count) (start w new : WorldState) (on : applied start (deliveries first count) ≡ applied w (deliveries (first + i) (count - i))) where
  pub loop_on : Applies (Deliver (first + i) ∷ []) w new Through → applied start (deliveries first count) ≡ applied new (deliveries (first + (i + 1)) (count - (i + 1)))
  loop_on d = on ∙ deliver_on first count i lt w new d

  pub loop_stop : Applies (Deliver (first + i) ∷ []) w new Spent → Applies (deliveries first count) start new Spent
  loop_stop d = record { done = on ∙ deliver_stop first count i lt w new d }

-- the world that events lead to is that of the run of those that happen
until_spent_by : (w : WorldState) (event : WorldEvent) (events : List WorldEvent) (b : Bool) → (applied (happened w event) events).world ≡ run (until_spent (happened w event) events) (happened w event) → (if b then led_to w true else applied (happened w event) events).world ≡ run (if b then [] else event ∷ until_spent (happened w event) events) w
until_spent_by w event events true later = refl
until_spent_by w event events false later = later

pub until_spent_run : (w : WorldState) (events : List WorldEvent) → (applied w events).world ≡ run (until_spent w events) w
until_spent_run w [] = refl
until_spent_run w (event ∷ events) = until_spent_by w event events (is_spent w event) (until_spent_run (happened w event) events)
