-- The nodes that acknowledged an append, with one more.
use Rattle.std.proofs.Common.{◌≡◌, ◌≢◌, ◌++◌, ◌∷◌, ℕ, List, [], Bool, true, false, eqb, refl, ◌∙◌, sym, ap}
use Rattle.std.specs.Prelude.{◌||◌, if◌then◌else◌}
use Rattle.std.proofs.lemmas.Bool.{eq-eqb, ne_eqb}
use Rattle.std.proofs.lemmas.List.Folds.{list_any-append}
use Rattle.lazy_rules.specs.ClientRules.{with_node}
use Rattle.lazy_rules.specs.Rows.{has_node}

or_false : (b : Bool) → (b || false) ≡ b
or_false true = refl
or_false false = refl

more_is_in : (acked : List ℕ) (more : ℕ) (b : Bool) → has_node acked more ≡ b → has_node (if b then acked else acked ++ more ∷ []) more ≡ true
more_is_in acked more true is = is
more_is_in acked more false is =
    list_any-append (λ other. eqb other more) acked (more ∷ [])
    ∙ ap (λ (b : Bool). b || (eqb more more || false)) is
    ∙ ap (λ (b : Bool). b || false) (eq-eqb more more refl)

others_stay : (acked : List ℕ) (more node : ℕ) (b : Bool) → node ≢ more → has_node (if b then acked else acked ++ more ∷ []) node ≡ has_node acked node
others_stay acked more node true apart = refl
others_stay acked more node false apart =
    list_any-append (λ other. eqb other node) acked (more ∷ [])
    ∙ ap (λ (b : Bool). has_node acked node || (b || false)) (ne_eqb more node (λ (e : more ≡ node). apart (sym e)))
    ∙ or_false (has_node acked node)

pub has_more : (acked : List ℕ) (more : ℕ) → has_node (with_node acked more) more ≡ true
has_more acked more = more_is_in acked more (has_node acked more) refl

pub has_other : (acked : List ℕ) (more node : ℕ) → node ≢ more → has_node (with_node acked more) node ≡ has_node acked node
has_other acked more node apart = others_stay acked more node (has_node acked more) apart
