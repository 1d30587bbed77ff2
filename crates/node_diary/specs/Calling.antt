use Rattle.std.specs.Prelude.{◌≡◌, ◌≢◌, ◌+◌, ◌<◌, ◌^◌, ℕ, length, Bool, true, false, Option, Some, None, Result, Err, OnOk, IfErr}
use Rattle.view_config.specs.Shape.{Dimensions, IsShape}
use Rattle.lazy_msgs.specs.declared.input.Input.{Input}
use Rattle.lazy_msgs.specs.declared.input.Input.TheVariants.{Post}
use Rattle.lazy_msgs.specs.Outbox.{Out}
use Rattle.lazy_msgs.specs.Step.{Row, StepsTo}
use Rattle.lazy_rules.specs.Store.{has_open}
use Rattle.lazy_core.specs.declared.node_state.NodeState.{NodeState}
use Rattle.lazy_core.specs.declared.node_state.NodeState.TheVariants.{Seq, Shard, Client, Control}
use Rattle.lazy_core.specs.NodeStep.{node_step}
use Rattle.node_diary.specs.declared.refused.FeedRefused.{FeedRefused}
use Rattle.node_diary.specs.declared.refused.FeedRefused.TheVariants.{DiaryFull, Memory}
use Rattle.node_diary.specs.Fed.{IsSeated}
use Rattle.node_diary.specs.Feeding.{IsIdle}
use Rattle.node_diary.specs.Refusals.{own_refusal}
use Rattle.node_diary.specs.States.{law_state}

-- A node takes one input into an outbox.

-- a node took the step of a row, or refused and left all as it was: for this reason, as full where its outbox had no room,
-- or for want of memory
pub record CallsTo {S R : Type 0} (row : Row S) (reason : Option FeedRefused) (before after : S) (out_before out_after : Out) (outcome : Result R FeedRefused) : Type 0 where
  pub steps : StepsTo row before after out_before out_after outcome DiaryFull
  pub allowed : OnOk outcome (reason ≡ None)
  pub named : IfErr outcome (λ e. e ≢ DiaryFull → e ≢ Memory → reason ≡ Some e)
  pub unspent : outcome ≡ Err DiaryFull → reason ≡ None

-- the same of a node, by its rule
abbrev pub Takes : {R : Type 0} → Input → NodeState → NodeState → Out → Out → Result R FeedRefused → Type 0
Takes input before after out_before out_after outcome =
    CallsTo (node_step before input) (own_refusal (law_state before) input) before after out_before out_after outcome

-- what must be known of a node, so that it takes an input: it is one of some shape, and few steps were made
pub record IsReady (state : NodeState) : Type 0 where
  pub shape : Dimensions
  pub formed : IsShape shape
  pub steps : ℕ
  pub few : steps + 1 < 2 ^ 32
  pub seated : IsSeated shape steps state

-- a shard replica has an open cell
abbrev pub has_open_cell : NodeState → Bool
has_open_cell (Shard s) = has_open s.store
has_open_cell (Seq s) = false
has_open_cell (Client appends reads) = false
has_open_cell (Control k) = false

-- whether a step leaves a trace: it does, unless the node is idle
pub record IsTraced (state : NodeState) (input : Input) (traced : Bool) : Type 0 where
  pub idle : traced ≡ false → IsIdle state input
  pub busy : traced ≡ true → ¬ IsIdle state input

-- a post of so many bytes
abbrev pub IsPostOf : ℕ → Input → Type 0
IsPostOf size (Post bytes) = length bytes ≡ size
IsPostOf size _ = ⊥
