-- The steps of diaries are merged in one order.
use Rattle.std.proofs.Common.{◌≡◌, ℕ, List, [], ◌∷◌, Bool, true, false, cond, inl, inr, refl, sym, ap, ◌∙◌, subst, arith, eq-eqb, eqb-true, ne_eqb}
use Rattle.std.specs.Prelude.{◌==◌}
use Rattle.list_facts.specs.Lists.{In}
use Rattle.list_facts.proofs.Cases.{by_test}
use Rattle.list_facts.proofs.Members.{each_in, in_filter}
use Rattle.lazy_msgs.specs.declared.diary.Diary.{Diary}
use Rattle.diary_laws.specs.Formed.{AreDiaries}
use Rattle.diary_laws.specs.Machines.{Machine, Step}
use Rattle.diary_laws.specs.Merges.{IsBefore, IsMerged, Ranked}
use Rattle.diary_laws.proofs.merges.Parts.{of_node, part}

module _ {S : Type 0} where
  own_first : (x : Step S) (xs : List (Step S)) → of_node x.node (x ∷ xs) ≡ x ∷ of_node x.node xs
  own_first x xs = ap (λ (b : Bool). cond b (x ∷ of_node x.node xs) (of_node x.node xs)) (eq-eqb x.node x.node refl)

  -- each is before the other
  even : (x y : Step S) → IsBefore x y → IsBefore y x → x.node ≡ y.node
  even x y (inl a) (inl b) = absurd (omega arith)
  even x y (inl a) (inr b) = let same = b.0 in absurd (omega arith)
  even x y (inr a) (inl b) = let same = a.0 in absurd (omega arith)
  even x y (inr a) (inr b) = let least = a.1 in let most = b.1 in omega arith

  -- the first of one list stands behind the first of the other, unless they are of one node
  behind_first : (x y : Step S) (xs ys : List (Step S)) → Ranked IsBefore (y ∷ ys) → of_node x.node (x ∷ xs) ≡ of_node x.node (y ∷ ys) → ¬ (y.node ≡ x.node) → IsBefore y x
  behind_first x y xs ys up same other =
      let skips : of_node x.node (y ∷ ys) ≡ of_node x.node ys = ap (λ (b : Bool). cond b (y ∷ of_node x.node ys) (of_node x.node ys)) (ne_eqb y.node x.node other) in
      let there : In x (of_node x.node ys) = subst (In x) (sym (own_first x xs) ∙ same ∙ skips) (inl refl) in
      each_in (IsBefore y) ys up.0 x (in_filter (λ (z : Step S). z.node == x.node) ys x there).0

  one_node : (x y : Step S) (xs ys : List (Step S)) → Ranked IsBefore (x ∷ xs) → Ranked IsBefore (y ∷ ys) → ((node : ℕ) → of_node node (x ∷ xs) ≡ of_node node (y ∷ ys)) → x.node ≡ y.node
  one_node x y xs ys first second same = by_test (x.node == y.node) (λ h. eqb-true x.node y.node h) (λ h.
      let apart : ¬ (x.node ≡ y.node) = λ e. let wrong : true ≡ false = sym (eq-eqb x.node y.node e) ∙ h in cc in
      even x y
      (behind_first y x ys xs first (sym (same y.node)) apart)
      (behind_first x y xs ys second (same x.node) (λ e. apart (sym e))))

  tails : (x : Step S) (xs ys : List (Step S)) (node : ℕ) → of_node node (x ∷ xs) ≡ of_node node (x ∷ ys) → of_node node xs ≡ of_node node ys
  tails x xs ys node = by (x.node == node)
    where
      by : (b : Bool) → cond b (x ∷ of_node node xs) (of_node node xs) ≡ cond b (x ∷ of_node node ys) (of_node node ys) → of_node node xs ≡ of_node node ys
      by true h = let both : x ∷ of_node node xs ≡ x ∷ of_node node ys = h in cc
      by false h = h

  pub one_order : (xs ys : List (Step S)) → Ranked IsBefore xs → Ranked IsBefore ys → ((node : ℕ) → of_node node xs ≡ of_node node ys) → xs ≡ ys
  one_order [] [] first second same = refl
  one_order [] (y ∷ ys) first second same = let wrong : [] ≡ y ∷ of_node y.node ys = same y.node ∙ own_first y ys in cc
  one_order (x ∷ xs) [] first second same = let wrong : x ∷ of_node x.node xs ≡ [] = sym (own_first x xs) ∙ same x.node in cc
  one_order (x ∷ xs) (y ∷ ys) first second same =
      let node = one_node x y xs ys first second same in
      let both : x ∷ of_node x.node xs ≡ y ∷ of_node y.node ys = sym (own_first x xs) ∙ same x.node ∙ ap (λ (n : ℕ). of_node n (y ∷ ys)) node ∙ own_first y ys in
      let equal : x ≡ y = cc in
      let more : (n : ℕ) → of_node n (x ∷ xs) ≡ of_node n (x ∷ ys) = λ n. same n ∙ ap (λ (z : Step S). of_node n (z ∷ ys)) (sym equal) in
      ap (λ (z : Step S). z ∷ xs) equal ∙ ap (λ (zs : List (Step S)). y ∷ zs) (one_order xs ys first.1 second.1 (λ n. tails x xs ys n (more n)))

pub merged_once : (m : Machine) (diaries : List Diary) (first second : List (Step m.State)) → AreDiaries m diaries → IsMerged m diaries first → IsMerged m diaries second → first ≡ second
merged_once m diaries first second are one two = one_order first second one.ordered two.ordered (λ node. part m diaries are first one node ∙ sym (part m diaries are second two node))
