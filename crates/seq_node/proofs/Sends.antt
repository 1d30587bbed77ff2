-- Lists of messages, written member by member.
use Rattle.std.proofs.Common.{◌≡◌, ℕ, Bool, true, false, cond, ◌+◌, ◌<◌, List, [], ◌∷◌, ◌++◌, length, drop, drop-cons, add-one, get_or, append_assoc, append-nil, sym, ap, ◌∙◌, refl}
use Rattle.std.specs.Prelude.{flat_map}
use Rattle.lazy_msgs.specs.declared.msg.Msg.{Msg}
use Rattle.lazy_msgs.specs.declared.msg.Msg.TheVariants.{Stable, Started}
use Rattle.rec_id.specs.declared.marks.Marks.{Marks}
use Rattle.view_config.specs.declared.config.Config.{Config}
use Rattle.lazy_rules.specs.Roles.{is_first, replicas_of}
use Rattle.lazy_rules.specs.Rows.{to_each, sends_all, answers}
use Rattle.lazy_rules.specs.SeqRules.{in_view, starts}
use Rattle.lazy_rules.specs.SeqState.{SeqState}
use Rattle.seq_node.specs.Starting.{starting}
use Rattle.seq_node.proofs.Known.{first_there}

-- what was written, more of it, and what is to come
pub moved : {X : Type 0} (sends new more rest tail all : List X) → new ≡ sends ++ more → tail ≡ more ++ rest → sends ++ tail ≡ all → new ++ rest ≡ all
moved sends new more rest tail all written splits whole =
    ap (λ l. l ++ rest) written ∙ append_assoc sends more rest ∙ ap (λ l. sends ++ l) (sym splits) ∙ whole

pub ended : {X : Type 0} (sends rest all : List X) → rest ≡ [] → sends ++ rest ≡ all → sends ≡ all
ended sends rest all none whole = sym (append-nil sends) ∙ ap (λ l. sends ++ l) (sym none) ∙ whole

module _ (msg : Msg) where
  pub each_next : (nodes : List ℕ) (i : ℕ) → i < length nodes → to_each (drop i nodes) msg ≡ (get_or nodes i 0, msg) ∷ to_each (drop (i + 1) nodes) msg
  each_next nodes i inside = rw (add-one, drop-cons nodes i 0) refl

  pub each_append : (xs ys : List ℕ) → to_each (xs ++ ys) msg ≡ to_each xs msg ++ to_each ys msg
  each_append [] ys = refl
  each_append (x ∷ xs) ys = ap (λ (l : List (ℕ × Msg)). (x, msg) ∷ l) (each_append xs ys)

  pub flat_next : (lists : List (List ℕ)) (i : ℕ) (nodes : List ℕ) → i < length lists → nodes ≡ get_or lists i nodes
      → to_each (flat_map (λ l. l) (drop i lists)) msg ≡ to_each nodes msg ++ to_each (flat_map (λ l. l) (drop (i + 1) lists)) msg
  flat_next lists i nodes inside is =
      ap (λ (x : List (List ℕ)). to_each (flat_map (λ l. l) x) msg) (first_there lists i nodes inside is)
      ∙ each_append nodes (flat_map (λ l. l) (drop (i + 1) lists))

-- what is sent with a new view is sent whatever the window
pub starts_is : (s : SeqState) (config : Config) (base sender : ℕ) (window : List Marks)
    → starts (in_view s config base window) sender ≡ sends_all (in_view s config base window) (starting s.node sender config base)
starts_is s config base sender window = by_role (is_first config.seq s.node)
  where
    by_role : (b : Bool) → cond b (sends_all (in_view s config base window) ((sender, Started config.view) ∷ to_each (replicas_of config) (Stable config.view base))) (answers (in_view s config base window) sender (Started config.view))
        ≡ sends_all (in_view s config base window) (cond b ((sender, Started config.view) ∷ to_each (replicas_of config) (Stable config.view base)) ((sender, Started config.view) ∷ []))
    by_role true = refl
    by_role false = refl
