-- What a step of one node does to a world, as far as a merge needs it.
use Rattle.std.proofs.Common.{◌≡◌, ℕ, zero, suc, List, [], ◌∷◌, ◌++◌, map, Some, refl, ap, ◌∙◌, false}
use Rattle.std.specs.Prelude.{◌==◌, slice_get, slice_set}
use Rattle.view_config.specs.Shape.{Dimensions}
use Rattle.lazy_msgs.specs.declared.msg.Envelope.{Envelope}
use Rattle.lazy_msgs.specs.declared.msg.Msg.{Msg}
use Rattle.lazy_msgs.specs.Step.{Row}
use Rattle.lazy_rules.specs.WorldRules.{enveloped}
use Rattle.lazy_rules.specs.WorldState.{WorldState}
use Rattle.world_facts.specs.Forms.{HasForm}
use Rattle.diary_laws.specs.Nodes.{NodeState, state_at}

-- an envelope but its time
abbrev pub bare : Envelope → ℕ × ℕ × Msg
bare e = (e.from, e.to, e.msg)

-- a row of this node: it changes that node alone, appends what it sends, at whatever time, and what it tells; and these
-- nodes are gone
pub record Did (shape : Dimensions) (w next : WorldState) (me : ℕ) (row : Row NodeState) (gone : List ℕ) : Type 0 where
  pub form : HasForm shape next
  pub own : state_at next me ≡ Some row.next
  pub others : (n : ℕ) → (n == me) ≡ false → state_at next n ≡ state_at w n
  pub sent : map bare next.sent ≡ map bare w.sent ++ map bare (enveloped me 0 row.sends)
  pub history : next.history ≡ w.history ++ row.events
  pub crashed : next.crashed ≡ w.crashed ++ gone

pub map_append : {A B : Type 0} (f : A → B) (xs ys : List A) → map f (xs ++ ys) ≡ map f xs ++ map f ys
map_append f [] ys = refl
map_append f (x ∷ xs) ys = ap (λ zs. f x ∷ zs) (map_append f xs ys)

-- times aside, what is sent at one time is what is sent at another
pub timeless : (sender time other : ℕ) (sends : List (ℕ × Msg)) → map bare (enveloped sender time sends) ≡ map bare (enveloped sender other sends)
timeless sender time other [] = refl
timeless sender time other (send ∷ sends) = ap (λ zs. (sender, send.0, send.1) ∷ zs) (timeless sender time other sends)

pub sent_more : (sent : List Envelope) (sender time other : ℕ) (sends : List (ℕ × Msg)) → map bare (sent ++ enveloped sender time sends) ≡ map bare sent ++ map bare (enveloped sender other sends)
sent_more sent sender time other sends = map_append bare sent (enveloped sender time sends) ∙ ap (λ zs. map bare sent ++ zs) (timeless sender time other sends)

module _ {A : Type 0} where
  pub set_own : (xs : List A) (i : ℕ) (x y : A) → slice_get xs i ≡ Some x → slice_get (slice_set xs i y) i ≡ Some y
  set_own [] i x y h = cc
  set_own (z ∷ zs) zero x y h = refl
  set_own (z ∷ zs) (suc i) x y h = set_own zs i x y h

  pub set_other : (xs : List A) (i j : ℕ) (y : A) → ¬ (j ≡ i) → slice_get (slice_set xs i y) j ≡ slice_get xs j
  set_other [] i j y h = refl
  set_other (z ∷ zs) zero zero y h = absurd (h refl)
  set_other (z ∷ zs) zero (suc j) y h = refl
  set_other (z ∷ zs) (suc i) zero y h = refl
  set_other (z ∷ zs) (suc i) (suc j) y h = set_other zs i j y (λ e. h (ap suc e))
