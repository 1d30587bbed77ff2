use Rattle.std.specs.Prelude.{◌≡◌, List, []}
use Rattle.view_config.specs.Shape.{Dimensions}
use Rattle.lazy_msgs.specs.declared.diary.Diary.{Diary}
use Rattle.lazy_msgs.specs.declared.input.WorldEvent.{WorldEvent}
use Rattle.lazy_rules.specs.WorldRules.{run}
use Rattle.lazy_rules.specs.WorldState.{first_world}
use Rattle.diary_laws.specs.Merges.{IsMerge}
use Rattle.diary_laws.specs.Nodes.{nodes_of_shape}
use Rattle.lazy_core.specs.declared.trail.Trail.{Trail}
use Rattle.lazy_core.specs.Filled.{AreLawful, spared_lines}

-- The trail of diaries.

-- a trail has the history of the run of these events, and the lines of its holders that aren't lost, each of them lawful
-- for that history
pub record IsTrailOf (shape : Dimensions) (events : List WorldEvent) (trail : Trail) : Type 0 where
  pub history : trail.history ≡ (run events (first_world shape)).history
  pub lines : trail.lines ≡ spared_lines (run events (first_world shape))
  pub lawful : AreLawful trail.history trail.lines

-- a trail is that of the diaries' merge
abbrev pub IsReplay : Dimensions → List Diary → Trail → Type 0
IsReplay shape diaries trail = (events : List WorldEvent) → IsMerge (nodes_of_shape shape) diaries events → IsTrailOf shape events trail

-- it has these diaries, and nothing that only threads leave
pub record HasDiaries (given : List Diary) (trail : Trail) : Type 0 where
  pub diaries : trail.diaries ≡ given
  pub polls : trail.polls ≡ []
  pub claimed : trail.claimed ≡ 0
