use Rattle.lazy_msgs.specs.declared.refused.OutboxRefused.{OutboxRefused}
use Rattle.lazy_msgs.specs.declared.refused.OutboxRefused.TheVariants.{Over as OutboxOver, Memory as OutboxMemory}
use Rattle.lazy_msgs.specs.declared.refused.StepRefused.{StepRefused}
use Rattle.lazy_msgs.specs.declared.refused.StepRefused.TheVariants.{Over as StepOver, Memory as StepMemory}
use Rattle.lazy_msgs.specs.declared.refused.PostRefused.{PostRefused}
use Rattle.lazy_msgs.specs.declared.refused.PostRefused.TheVariants.{TooLong, NumbersSpent, WindowFull, Over as PostOver, Memory as PostMemory}
use Rattle.lazy_msgs.specs.declared.refused.EventRefused.{EventRefused}
use Rattle.lazy_msgs.specs.declared.refused.EventRefused.TheVariants.{Post, Spent, Memory as EventMemory}

-- how a step is refused, where its outbox refused so
abbrev pub step_refused : OutboxRefused → StepRefused
step_refused OutboxOver = StepOver
step_refused OutboxMemory = StepMemory

-- how a post is refused, where its outbox refused so
abbrev pub post_refused : OutboxRefused → PostRefused
post_refused OutboxOver = PostOver
post_refused OutboxMemory = PostMemory

-- how a post is refused, where a part of it was refused so
abbrev pub post_step_refused : StepRefused → PostRefused
post_step_refused StepOver = PostOver
post_step_refused StepMemory = PostMemory

-- how an event is refused, where its node took no step for this reason
abbrev pub event_step_refused : StepRefused → EventRefused
event_step_refused StepOver = Spent
event_step_refused StepMemory = EventMemory

-- how an event is refused, where its client refused to append for this reason
abbrev pub event_post_refused : PostRefused → EventRefused
event_post_refused TooLong = Post TooLong
event_post_refused NumbersSpent = Post NumbersSpent
event_post_refused (WindowFull low) = Post (WindowFull low)
event_post_refused PostOver = Spent
event_post_refused PostMemory = EventMemory
