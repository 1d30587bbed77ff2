-- What has its sizes in a list of messages that a row makes.
use Rattle.world_facts.specs.Sizes.{Sized, line_limit}
use Rattle.view_config.specs.Shape.{Dimensions}
use Rattle.list_facts.specs.Lists.{Each}
use Rattle.lazy_msgs.specs.declared.input.Input.{Input}
use Rattle.world_facts.specs.SizesOf.{IsOfWords}
use Rattle.lazy_msgs.specs.FrameLimits.{IsWord}
use Rattle.lazy_msgs.specs.declared.msg.Msg.{Msg}
use Rattle.lazy_msgs.specs.declared.input.Input.TheVariants.{Take, Ask as AskInput}
use Rattle.list_facts.proofs.Members.{each_append}
use Rattle.lazy_rules.specs.Rows.{each_numbered, to_each}
use Rattle.std.proofs.Common.{◌+◌, ◌≤◌, ◌++◌, ◌∷◌, [], ℕ, List, arith}

module _ (shape : Dimensions) where
  abbrev pub AreSized : List (ℕ × Msg) → Type 0
  AreSized sends = Each (λ (send : ℕ × Msg). Sized shape send.1) sends

  pub to_all : (nodes : List ℕ) (msg : Msg) → Sized shape msg → AreSized (to_each nodes msg)
  to_all [] msg h = tt
  to_all (node ∷ nodes) msg h = (h, to_all nodes msg h)

  pub two_lists : (xs ys : List (ℕ × Msg)) → AreSized xs → AreSized ys → AreSized (xs ++ ys)
  two_lists xs ys h k = each_append (λ (send : ℕ × Msg). Sized shape send.1) xs ys h k

  pub numbered_all : {A : Type 0} (make : ℕ → A → List (ℕ × Msg)) → ((i : ℕ) (x : A) → AreSized (make i x)) → (i : ℕ) (xs : List A) → AreSized (each_numbered make i xs)
  numbered_all make f i [] = tt
  numbered_all make f i (x ∷ xs) = two_lists (make i x) (each_numbered make (i + 1) xs) (f i x) (numbered_all make f (i + 1) xs)

-- what a node takes has its sizes, and what is asked from outside is of numbers of 32 bits
abbrev pub SizedInput : Dimensions → Input → Type 0
SizedInput shape (Take e) = Sized shape e.msg
SizedInput shape (AskInput ask) = IsOfWords (AskInput ask)
SizedInput shape _ = Unit {0}

-- no word is longer than a line
pub line_is_word : (n : ℕ) → n ≤ line_limit → IsWord n
line_is_word n h = omega arith
