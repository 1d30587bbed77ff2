use Rattle.lazy_msgs.specs.declared.refused.BeginRefused.{BeginRefused}
use Rattle.lazy_msgs.specs.declared.refused.BeginRefused.TheVariants.{Outstanding, Backward, Wide, Over as BeginOver, Memory as BeginMemory}
use Rattle.lazy_msgs.specs.declared.refused.EventRefused.{EventRefused}
use Rattle.lazy_msgs.specs.declared.refused.EventRefused.TheVariants.{Begin, Trim, Suspect, Spent, Memory}
use Rattle.lazy_msgs.specs.declared.refused.SuspectRefused.{SuspectRefused}
use Rattle.lazy_msgs.specs.declared.refused.SuspectRefused.TheVariants.{NotInView, LastSeq, LastOfShard, ViewsSpent, Over as SuspectOver, Memory as SuspectMemory}
use Rattle.lazy_msgs.specs.declared.refused.TrimRefused.{TrimRefused}
use Rattle.lazy_msgs.specs.declared.refused.TrimRefused.TheVariants.{Outstanding as TrimOutstanding, Ahead, Over as TrimOver, Memory as TrimMemory}

-- How an event is refused, where its node refused so: that of a post stands with the refusals themselves.

abbrev pub event_begin_refused : BeginRefused → EventRefused
event_begin_refused (Outstanding number) = Begin (Outstanding number)
event_begin_refused Backward = Begin Backward
event_begin_refused Wide = Begin Wide
event_begin_refused BeginOver = Spent
event_begin_refused BeginMemory = Memory

abbrev pub event_trim_refused : TrimRefused → EventRefused
event_trim_refused (TrimOutstanding number) = Trim (TrimOutstanding number)
event_trim_refused (Ahead reach) = Trim (Ahead reach)
event_trim_refused TrimOver = Spent
event_trim_refused TrimMemory = Memory

abbrev pub event_suspect_refused : SuspectRefused → EventRefused
event_suspect_refused NotInView = Suspect NotInView
event_suspect_refused LastSeq = Suspect LastSeq
event_suspect_refused (LastOfShard shard) = Suspect (LastOfShard shard)
event_suspect_refused ViewsSpent = Suspect ViewsSpent
event_suspect_refused SuspectOver = Spent
event_suspect_refused SuspectMemory = Memory
