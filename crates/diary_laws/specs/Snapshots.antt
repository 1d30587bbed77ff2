use Rattle.std.specs.Prelude.{◌≡◌, ◌↔◌, ◌+◌, ◌*◌, ℕ, List, length}
use Rattle.list_facts.specs.Lists.{In, Each}
use Rattle.view_config.specs.Shape.{Dimensions}
use Rattle.lazy_msgs.specs.declared.diary.Diary.{Diary}
use Rattle.lazy_rules.specs.Holders.{holders}
use Rattle.lazy_rules.specs.Lines.{line_told}
use Rattle.lazy_rules.specs.WorldState.{WorldState}
use Rattle.diary_laws.specs.Lived.{IsCrashedIn}
use Rattle.diary_laws.specs.Machines.{last_state}
use Rattle.diary_laws.specs.Nodes.{nodes_of_shape, state_at}

-- Worlds of which only the states and the crashes are known.

-- a world of this shape, whose nodes have the states that their diaries lead to, and in which those are crashed whose
-- diaries end in a crash; its times, messages and history are any
pub record IsSnapshot (shape : Dimensions) (diaries : List Diary) (w : WorldState) : Type 0 where
  pub shaped : w.shape ≡ shape
  pub seqs : length w.seqs ≡ shape.seq + shape.spares
  pub shards : length w.shards ≡ shape.shards * shape.copies
  pub states : Each (λ diary. state_at w diary.node ≡ last_state (nodes_of_shape shape) diary) diaries
  pub crashed : (node : ℕ) → In node w.crashed ↔ IsCrashedIn diaries node

-- two worlds have the same holders, and each of them the same line
pub record HoldAlike (v w : WorldState) : Type 0 where
  pub holders : holders v ≡ holders w
  pub lines : (holder : ℕ) → line_told v holder ≡ line_told w holder
