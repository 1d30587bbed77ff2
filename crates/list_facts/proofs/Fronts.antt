-- How a list begins.
use Rattle.std.proofs.Common.{List, [], ◌++◌, refl, sym, ap, ◌∙◌, append_assoc}
use Rattle.std.proofs.lemmas.List.{append-nil}
use Rattle.list_facts.specs.Lists.{In, Front}
use Rattle.list_facts.proofs.Members.{in_left}

module _ {A : Type 0} where
  pub front_same : (xs : List A) → Front xs xs
  front_same xs = record { rest = []; is = sym (append-nil xs) }

  pub front_append : (xs ys : List A) → Front xs (xs ++ ys)
  front_append xs ys = record { rest = ys; is = refl }

  pub front_trans : (xs ys zs : List A) → Front xs ys → Front ys zs → Front xs zs
  front_trans xs ys zs f g = record { rest = f.rest ++ g.rest; is = g.is ∙ ap (λ ws. ws ++ g.rest) f.is ∙ append_assoc xs f.rest g.rest }

  pub front_in : (xs ys : List A) → Front xs ys → (x : A) → In x xs → In x ys
  front_in xs ys f x h = rw f.is (in_left x xs f.rest h)
