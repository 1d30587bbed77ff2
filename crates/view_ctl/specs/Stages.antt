use Rattle.lazy_rules.specs.ControlState.{Phase, Running, Sealing, Flushing}
use Rattle.view_ctl.specs.declared.phase.CtlPhase.{CtlPhase}
use Rattle.view_ctl.specs.declared.phase.CtlPhase.TheVariants.{Running as IsRunning, Sealing as IsSealing, Flushing as IsFlushing}
use Rattle.view_ctl.specs.declared.stage.Stage.{Stage}
use Rattle.view_ctl.specs.declared.stage.Stage.TheVariants.{Running as RunningStage, Sealing as SealingStage, Flushing as FlushingStage}

-- what the controller keeps, as the rules have it
abbrev pub phase_of : Stage → Phase
phase_of (RunningStage reign) = Running reign
phase_of (SealingStage change) = Sealing change
phase_of (FlushingStage taken) = Flushing taken

-- the phase without what is kept in it
abbrev pub kind_of : Phase → CtlPhase
kind_of (Running reign) = IsRunning
kind_of (Sealing change) = IsSealing
kind_of (Flushing taken) = IsFlushing
