-- From what a turn is made of to what an event comes to.
use Rattle.std.proofs.Common.{◌≡◌, ℕ, Option, Some, None, Result, Ok, Err, refl, sym, subst}
use Rattle.std.specs.Prelude.{IfErr, IfOk, OnOk, true, false}
use Rattle.std.specs.Option.{is_none}
use Rattle.std.specs.Prelude.{is_some}
use Rattle.lazy_msgs.specs.declared.input.WorldEvent.{WorldEvent}
use Rattle.lazy_msgs.specs.declared.refused.EventRefused.{EventRefused}
use Rattle.lazy_rules.specs.WorldRules.{refusal}
use Rattle.lazy_rules.specs.WorldState.{WorldState}
use Rattle.lazy_core.specs.declared.turns.Turn.{Turn}
use Rattle.lazy_core.specs.Turning.{ComesTo, IsPlain, IsTurnOf, client_refused}

module _ (w : WorldState) (event : WorldEvent) where
  pub comes_to : (made turn : Turn) → made ≡ turn → IsTurnOf w event turn → ComesTo w event (Ok made)
  comes_to made turn is h = record { turn = subst (IsTurnOf w event) (sym is) h; named = tt; unspent = tt }

  -- a turn of a client that is there and isn't crashed
  pub client_comes_to : (c : ℕ) (turn : Turn) (result : Result Turn EventRefused) → IfOk result (λ made. made ≡ turn) → OnOk result (client_refused w c ≡ None) → IfErr result (λ e. client_refused w c ≡ Some e) → IfErr result IsPlain
      → (client_refused w c ≡ None → IsTurnOf w event turn) → ((e : EventRefused) → client_refused w c ≡ Some e → refusal w event ≡ Some e) → ComesTo w event result
  client_comes_to c turn (Ok made) is free refused plain turns stops = comes_to made turn is (turns free)
  client_comes_to c turn (Err e) is free refused plain turns stops = record { turn = tt; named = λ _. stops e refused; unspent = plain.room }

pub not_none : {A : Type 0} (o : Option A) → is_none o ≡ false → (x : A) × (o ≡ Some x)
not_none None h = cc
not_none (Some x) h = (x, refl)

pub some_of : {A : Type 0} (o : Option A) → is_some o ≡ true → (x : A) × (o ≡ Some x)
some_of None h = cc
some_of (Some x) h = (x, refl)
