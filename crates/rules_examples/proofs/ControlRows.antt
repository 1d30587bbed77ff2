use Rattle.std.proofs.Common.{◌≡◌, ℕ, List, [], ◌∷◌, Some, None, refl, map}
use Rattle.rec_id.specs.declared.item.Item.{Item}
use Rattle.rec_id.specs.declared.marks.Marks.{Marks}
use Rattle.view_config.specs.declared.config.Config.{Config}
use Rattle.view_config.specs.declared.edition.Edition.TheVariants.{One}
use Rattle.view_config.specs.declared.edition.Mode.TheVariants.{M}
use Rattle.view_config.specs.Shape.{Dimensions}
use Rattle.lazy_msgs.specs.declared.input.Input.{Input}
use Rattle.lazy_msgs.specs.declared.input.Input.TheVariants.{Tick, Suspect}
use Rattle.lazy_msgs.specs.declared.msg.Msg.TheVariants.{Flush, Flushed, Seal, Sealed, SealedEmpty, NewView, Started, AskView, ViewIs}
use Rattle.lazy_msgs.specs.declared.refused.SuspectRefused.TheVariants.{NotInView, LastSeq, LastOfShard, ViewsSpent}
use Rattle.lazy_rules.specs.ControlRules.{control_step, suspect_refusal}
use Rattle.lazy_rules.specs.ControlState.{ControlState, first_control, Running}
use Rattle.lazy_rules.specs.SeqState.{empty_window}
use Rattle.lazy_rules.specs.Windows.{marked_in}
use Rattle.rules_examples.proofs.Shows.{c#, item, shape_in, from_node, steps}

-- The controller, row by row. The shape has the sequencing replicas 257 (the leader) and 258, the spare 259,
-- and two shards with the replicas 264 and 265, and 268 and 269.

abbrev pub shape : Dimensions
shape = shape_in One M 2 1 2 2 1

abbrev pub control : ControlState
control = first_control shape

-- two records with their bytes, the marks of both, and the items as a shard is given them
abbrev pub two_items : List Item
two_items = item 0 1 97 ∷ item 0 2 98 ∷ []

abbrev pub two_marks : List Marks
two_marks = marked_in (marked_in (empty_window shape) (c# 0 1)) (c# 0 2)

abbrev pub bare : ℕ → Item
bare n = record { id = c# 0 n; bytes = None }

abbrev pub sealed : ℕ → ℕ → ℕ → Input
sealed node view bound = from_node node (Sealed view bound two_marks two_items)

-- views 2 to 4: the leader is replaced by the spare, then the other one by nobody, then a primary
abbrev pub second : Config
second = record { view = 2; seq = 258 ∷ 259 ∷ []; shards = (264 ∷ 265 ∷ []) ∷ (268 ∷ 269 ∷ []) ∷ [] }

abbrev pub third : Config
third = record { view = 3; seq = 259 ∷ []; shards = (264 ∷ 265 ∷ []) ∷ (268 ∷ 269 ∷ []) ∷ [] }

abbrev pub fourth : Config
fourth = record { view = 4; seq = 259 ∷ []; shards = (265 ∷ []) ∷ (268 ∷ 269 ∷ []) ∷ [] }

-- a view is sealed; what the first of its replicas had is taken, and flushed from its bound position on, to
-- each shard with the bytes of its own places; once a primary of each shard has it, the next view starts behind
-- it with its marks. Two are replaced while the view is being sealed, and one while it is flushed
abbrev pub changes : List Input
changes = Suspect 257
    ∷ from_node 0 AskView
    ∷ Suspect 258
    ∷ Tick
    ∷ sealed 258 2 9
    ∷ sealed 258 1 1
    ∷ sealed 257 1 0
    ∷ from_node 264 (Flushed 3)
    ∷ Suspect 264
    ∷ from_node 0 AskView
    ∷ from_node 268 (Flushed 3)
    ∷ Tick
    ∷ from_node 264 (Flushed 4)
    ∷ from_node 269 (Flushed 4)
    ∷ from_node 268 (Flushed 4)
    ∷ from_node 268 (Flushed 4)
    ∷ Tick
    ∷ from_node 265 (Flushed 4)
    ∷ from_node 0 AskView
    ∷ from_node 259 (Started 3)
    ∷ Tick
    ∷ from_node 259 (Started 4)
    ∷ Tick
    ∷ from_node 268 (Flushed 4)
    ∷ []

pub changes_sends : (steps control_step control changes).sends ≡ ((257, Seal 1) ∷ (258, Seal 1) ∷ [])
    ∷ []
    ∷ []
    ∷ ((257, Seal 1) ∷ (258, Seal 1) ∷ [])
    ∷ []
    ∷ ((264, Flush third 1 (bare 1 ∷ item 0 2 98 ∷ [])) ∷ (268, Flush third 1 (item 0 1 97 ∷ bare 2 ∷ [])) ∷ [])
    ∷ []
    ∷ []
    ∷ ((265, Flush fourth 1 (bare 1 ∷ item 0 2 98 ∷ [])) ∷ (268, Flush fourth 1 (item 0 1 97 ∷ bare 2 ∷ [])) ∷ [])
    ∷ []
    ∷ []
    ∷ ((265, Flush fourth 1 (bare 1 ∷ item 0 2 98 ∷ [])) ∷ (268, Flush fourth 1 (item 0 1 97 ∷ bare 2 ∷ [])) ∷ [])
    ∷ []
    ∷ []
    ∷ []
    ∷ []
    ∷ ((265, Flush fourth 1 (bare 1 ∷ item 0 2 98 ∷ [])) ∷ [])
    ∷ ((259, NewView fourth 3 two_marks) ∷ [])
    ∷ ((0, ViewIs fourth) ∷ [])
    ∷ []
    ∷ ((259, NewView fourth 3 two_marks) ∷ [])
    ∷ []
    ∷ []
    ∷ []
    ∷ []
changes_sends = refl

-- a replica that never started the view had nothing: what the view began with is taken
abbrev pub wide_shape : Dimensions
wide_shape = shape_in One M 2 2 1 1 1

abbrev pub wide_second : Config
wide_second = record { view = 2; seq = 258 ∷ 259 ∷ []; shards = (264 ∷ []) ∷ [] }

abbrev pub wide_third : Config
wide_third = record { view = 3; seq = 259 ∷ 260 ∷ []; shards = (264 ∷ []) ∷ [] }

pub sealed_empty : (steps control_step (first_control wide_shape)
    (Suspect 257
    ∷ sealed 258 1 1
    ∷ from_node 264 (Flushed 2)
    ∷ from_node 259 (Started 2)
    ∷ Tick
    ∷ Suspect 258
    ∷ from_node 258 (SealedEmpty 1)
    ∷ from_node 258 (SealedEmpty 2)
    ∷ from_node 264 (Flushed 3)
    ∷ Tick
    ∷ [])).sends ≡ ((257, Seal 1) ∷ (258, Seal 1) ∷ [])
    ∷ ((264, Flush wide_second 1 two_items) ∷ [])
    ∷ ((258, NewView wide_second 3 two_marks) ∷ (259, NewView wide_second 3 two_marks) ∷ [])
    ∷ []
    ∷ ((258, NewView wide_second 3 two_marks) ∷ [])
    ∷ ((258, Seal 2) ∷ (259, Seal 2) ∷ [])
    ∷ []
    ∷ ((264, Flush wide_third 3 []) ∷ [])
    ∷ ((259, NewView wide_third 3 two_marks) ∷ (260, NewView wide_third 3 two_marks) ∷ [])
    ∷ ((259, NewView wide_third 3 two_marks) ∷ (260, NewView wide_third 3 two_marks) ∷ [])
    ∷ []
sealed_empty = refl

-- in view 1 all have started
pub nothing_at_first : (steps control_step control (Tick ∷ from_node 0 AskView ∷ from_node 258 (SealedEmpty 1) ∷ sealed 258 1 1 ∷ from_node 264 (Flushed 1) ∷ [])).sends ≡ []
    ∷ ((0, ViewIs (record { view = 1; seq = 257 ∷ 258 ∷ []; shards = (264 ∷ 265 ∷ []) ∷ (268 ∷ 269 ∷ []) ∷ [] })) ∷ [])
    ∷ []
    ∷ []
    ∷ []
    ∷ []
nothing_at_first = refl

-- whom the controller doesn't replace: it goes by the newest configuration
pub not_replaced : map (suspect_refusal (steps control_step control changes).last)
    (257 ∷ 258 ∷ 264 ∷ 0 ∷ 256 ∷ 259 ∷ 265 ∷ 268 ∷ []) ≡ Some NotInView
    ∷ Some NotInView
    ∷ Some NotInView
    ∷ Some NotInView
    ∷ Some NotInView
    ∷ Some LastSeq
    ∷ Some (LastOfShard 0)
    ∷ None
    ∷ []
not_replaced = refl

pub not_replaced_while_sealing : map (suspect_refusal (steps control_step control (Suspect 257 ∷ Suspect 258 ∷ [])).last) (257 ∷ 259 ∷ 264 ∷ []) ≡ Some NotInView ∷ Some LastSeq ∷ None ∷ []
not_replaced_while_sealing = refl

pub no_view_left : suspect_refusal (record control { phase = Running (record { config = record { view = 4294967295; seq = 257 ∷ 258 ∷ []; shards = (264 ∷ 265 ∷ []) ∷ [] }; started = [] }) }) 258 ≡ Some ViewsSpent
no_view_left = refl
