-- Where a frame comes from that is handed out.
use Rattle.std.proofs.Common.{◌≡◌, suc, Bool, List, [], ◌∷◌, ◌++◌, true, false, Option, None, Some, IfSome, All, Contains, if◌then◌else◌, subst, arith, option_to_list}
use Rattle.std.proofs.lemmas.List.Elements.{All-nil, All-cons, All-append}
use Rattle.link_queue.specs.Rule.{Bytes}
use Rattle.chaos_net.specs.declared.fate.Fate.{Fate}
use Rattle.chaos_net.specs.declared.fate.Fate.TheVariants.{Dropped, Repeated, Delayed, Passed}
use Rattle.chaos_net.specs.Fates.{Injector, has_room, holding, dealt, HeldOf, OutOf}

-- both branches of a choice
either : {A : Type 0} (P : A → Type 0) (b : Bool) (x y : A) → P x → P y → P (if b then x else y)
either P true x y f g = f
either P false x y f g = g

-- what holds of each member holds of the first, and of the others
all_first : {A : Type 0} (P : A → Type 0) (x : A) (xs : List A) → All P (x ∷ xs) → P x × All P xs
all_first P x xs all = (all 0 x (omega arith), λ k d below. all (suc k) d (omega arith))

module _ (given : List Bytes) where
  origin_holding : (c : Injector) (frame : Bytes) → Contains given frame → HeldOf given c → HeldOf given (holding c frame)
  origin_holding c frame comes held = All-append (λ f. Contains given f) c.held (frame ∷ []) held (All-cons (λ f. Contains given f) frame [] comes (All-nil (λ f. Contains given f)))

  pub origin_dealt : (fate : Fate) (c : Injector) (frame : Bytes) → Contains given frame → HeldOf given c → OutOf given (dealt fate c frame).0 (dealt fate c frame).1
  origin_dealt Dropped c frame comes held = (tt, held)
  origin_dealt Passed c frame comes held = (comes, held)
  origin_dealt Repeated c frame comes held = (comes, either (HeldOf given) (has_room c) (holding c frame) c (origin_holding c frame comes held) held)
  origin_dealt Delayed c frame comes held = either (λ (x : Option Bytes × Injector). OutOf given x.0 x.1) (has_room c) (None, holding c frame) (Some frame, c) (tt, origin_holding c frame comes held) (comes, held)

  pub origin_oldest : (out : Option Bytes) (held left : List Bytes) → held ≡ option_to_list out ++ left → All (λ f. Contains given f) held
      → IfSome out (λ f. Contains given f) × All (λ f. Contains given f) left
  origin_oldest None held left is all = (tt, subst (All (λ f. Contains given f)) is all)
  origin_oldest (Some frame) held left is all = all_first (λ f. Contains given f) frame left (subst (All (λ f. Contains given f)) is all)
