use Rattle.std.specs.Prelude.{ℕ, ◌+◌, List, [], ◌∷◌, ◌++◌, map, Bool, ◌==◌}
use Rattle.std.specs.List.{list_any}
use Rattle.lazy_msgs.specs.declared.msg.Msg.{Msg}
use Rattle.lazy_msgs.specs.Step.{Row}

-- the state stays, and nothing is sent or told
abbrev pub stays : {S : Type 0} → S → Row S
stays s = record { next = s; sends = []; events = [] }

-- the state stays, and one message is sent
abbrev pub answers : {S : Type 0} → S → ℕ → Msg → Row S
answers s to msg = record { next = s; sends = (to, msg) ∷ []; events = [] }

-- the state stays, and these messages are sent
abbrev pub sends_all : {S : Type 0} → S → List (ℕ × Msg) → Row S
sends_all s sends = record { next = s; sends = sends; events = [] }

-- one part of a row, and then the part that goes on from the state that the first one leaves
abbrev pub joined : {S : Type 0} → Row S → Row S → Row S
joined first second = record {
  next = second.next;
  sends = first.sends ++ second.sends;
  events = first.events ++ second.events;
}

abbrev pub followed : {S : Type 0} → Row S → (S → Row S) → Row S
followed first more = joined first (more first.next)

-- the same message to each of these nodes
abbrev pub to_each : List ℕ → Msg → List (ℕ × Msg)
to_each nodes msg = map (λ node. (node, msg)) nodes

-- what is made of each member and its place, the first place being i
abbrev pub each_numbered : {A B : Type 0} → (ℕ → A → List B) → ℕ → List A → List B
each_numbered make i [] = []
each_numbered make i (x ∷ xs) = make i x ++ each_numbered make (i + 1) xs

-- the node is among these
abbrev pub has_node : List ℕ → ℕ → Bool
has_node nodes node = list_any (λ other. other == node) nodes
