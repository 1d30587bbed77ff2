-- A peek that found no claim changes nothing but the history.
use Rattle.std.proofs.Common.{◌≡◌, ℕ, List, [], true, false, refl}
use Rattle.rec_id.specs.Identity.{Identity}
use Rattle.view_config.specs.Shape.{Dimensions}
use Rattle.lazy_msgs.specs.declared.input.Input.{Input}
use Rattle.lazy_msgs.specs.declared.input.Input.TheVariants.{Peek}
use Rattle.diary_laws.specs.Merges.{finds_none}
use Rattle.diary_laws.specs.Nodes.{NodeState, OfClient, OfControl, OfSeq, OfShard, node_step, nodes_of_shape}
use Rattle.diary_laws.proofs.merges.Going.{IsQuiet}

peek_next : (s : NodeState) (stable time replica from : ℕ) (ids : List Identity) → (node_step s (Peek stable time replica from ids)).next ≡ s
peek_next (OfClient n) stable time replica from ids = refl
peek_next (OfControl k) stable time replica from ids = refl
peek_next (OfSeq s) stable time replica from ids = refl
peek_next (OfShard s) stable time replica from ids = refl

peek_sends : (s : NodeState) (stable time replica from : ℕ) (ids : List Identity) → (node_step s (Peek stable time replica from ids)).sends ≡ []
peek_sends (OfClient n) stable time replica from ids = refl
peek_sends (OfControl k) stable time replica from ids = refl
peek_sends (OfSeq s) stable time replica from ids = refl
peek_sends (OfShard s) stable time replica from ids = refl

next_same : (s : NodeState) (input : Input) → finds_none input ≡ true → (node_step s input).next ≡ s
next_same s (Peek stable time replica from ids) h = peek_next s stable time replica from ids
next_same s _ h = let wrong : false ≡ true = h in absurd (let no : ⊥ = cc in no)

none_sent : (s : NodeState) (input : Input) → finds_none input ≡ true → (node_step s input).sends ≡ []
none_sent s (Peek stable time replica from ids) h = peek_sends s stable time replica from ids
none_sent s _ h = let wrong : false ≡ true = h in absurd (let no : ⊥ = cc in no)

pub nodes_quiet : (shape : Dimensions) → IsQuiet (nodes_of_shape shape)
nodes_quiet shape = record { stays = next_same; sends = none_sent }
