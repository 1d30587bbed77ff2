use Rattle.std.specs.Prelude.{List}
use Rattle.list_facts.specs.Lists.{Each}
use Rattle.view_config.specs.Shape.{Dimensions, IsShape}
use Rattle.lazy_msgs.specs.declared.diary.Diary.{Diary}
use Rattle.diary_laws.specs.Closed.{AreClosedDiaries}
use Rattle.diary_laws.specs.Nodes.{nodes_of_shape}
use Rattle.diary_merge.specs.Weights.{IsWithinLimits}

-- the diaries of all nodes of a shape, one each: well formed, closed, and within their limits
pub record AreWhole (shape : Dimensions) (diaries : List Diary) : Type 0 where
  pub formed : IsShape shape
  pub closed : AreClosedDiaries (nodes_of_shape shape) diaries
  pub within : Each (λ diary. IsWithinLimits diary.entries) diaries
