-- The first step of a list, and the steps of one node.
use Rattle.std.proofs.Common.{◌≡◌, ℕ, List, [], ◌∷◌, ◌++◌, map, Bool, true, false, cond, refl, sym, ap, ◌∙◌, subst, eq-eqb, eqb-true, ne_eqb, append_assoc, append-nil}
use Rattle.std.specs.Prelude.{◌==◌}
use Rattle.std.specs.List.{flat_map}
use Rattle.list_facts.specs.Lists.{In}
use Rattle.list_facts.proofs.Members.{in_passes}
use Rattle.lazy_msgs.specs.declared.msg.Envelope.{Envelope}
use Rattle.lazy_msgs.specs.declared.msg.Msg.{Msg}
use Rattle.lazy_rules.specs.Rows.{has_node}
use Rattle.lazy_rules.specs.WorldRules.{enveloped}
use Rattle.diary_laws.specs.Machines.{Step}
use Rattle.diary_laws.specs.Merges.{sent_by}
use Rattle.diary_laws.proofs.merges.Parts.{of_node}
use Rattle.diary_laws.proofs.worlds.Did.{bare, map_append, timeless}

module _ {S : Type 0} (x : Step S) (xs : List (Step S)) where
  pub first_own : of_node x.node (x ∷ xs) ≡ x ∷ of_node x.node xs
  first_own = ap (λ (b : Bool). cond b (x ∷ of_node x.node xs) (of_node x.node xs)) (eq-eqb x.node x.node refl)

  pub first_other : (me : ℕ) → (me == x.node) ≡ false → of_node me (x ∷ xs) ≡ of_node me xs
  first_other me other = ap (λ (b : Bool). cond b (x ∷ of_node me xs) (of_node me xs)) (ne_eqb x.node me (λ e. apart (sym e)))
    where
      apart : ¬ (me ≡ x.node)
      apart e = let wrong : true ≡ false = sym (eq-eqb me x.node e) ∙ other in cc

  -- if nothing is left of a node, nothing is left behind the first step
  pub none_left : (me : ℕ) → of_node me (x ∷ xs) ≡ [] → of_node me xs ≡ []
  none_left me none = by (x.node == me) none
    where
      by : (b : Bool) → cond b (x ∷ of_node me xs) (of_node me xs) ≡ [] → of_node me xs ≡ []
      by true h = let wrong : x ∷ of_node me xs ≡ [] = h in cc
      by false h = h

pub flat_append : {A B : Type 0} (f : A → List B) (xs ys : List A) → flat_map f (xs ++ ys) ≡ flat_map f xs ++ flat_map f ys
flat_append f [] ys = refl
flat_append f (x ∷ xs) ys = ap (λ zs. f x ++ zs) (flat_append f xs ys) ∙ sym (append_assoc (f x) (flat_map f xs) (flat_map f ys))

-- what was sent by these steps and one more
pub sent_one_more : {S : Type 0} (done : List (Step S)) (x : Step S) → map bare (sent_by done) ++ map bare (enveloped x.node 0 x.row.sends) ≡ map bare (sent_by (done ++ x ∷ []))
sent_one_more {S} done x =
    ap (λ (zs : List (ℕ × ℕ × Msg)). map bare (sent_by done) ++ zs) (timeless x.node 0 x.time x.row.sends)
    ∙ sym (map_append bare (sent_by done) (enveloped x.node x.time x.row.sends))
    ∙ ap (λ (es : List Envelope). map bare (sent_by done ++ es)) (sym (append-nil (enveloped x.node x.time x.row.sends)))
    ∙ ap (map bare) (sym (flat_append (λ (y : Step S). enveloped y.node y.time y.row.sends) done (x ∷ [])))

-- a node that isn't among these
pub not_among : (nodes : List ℕ) (me : ℕ) → ¬ In me nodes → has_node nodes me ≡ false
not_among nodes me none = by (has_node nodes me) refl
  where
    by : (b : Bool) → has_node nodes me ≡ b → b ≡ false
    by false is = refl
    by true is = let k = in_passes (λ (other : ℕ). other == me) nodes is in absurd (none (subst (λ (n : ℕ). In n nodes) (eqb-true k.0 me k.2) k.1))
