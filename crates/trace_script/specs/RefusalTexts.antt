use Rattle.std.specs.Prelude.{List, ℕ, ◌++◌, codes, decimal}
use Rattle.lazy_msgs.specs.declared.refused.PostRefused.{PostRefused}
use Rattle.lazy_msgs.specs.declared.refused.PostRefused.TheVariants.{TooLong, NumbersSpent, WindowFull, Over as PostOver, Memory as PostMemory}
use Rattle.lazy_msgs.specs.declared.refused.BeginRefused.{BeginRefused}
use Rattle.lazy_msgs.specs.declared.refused.BeginRefused.TheVariants.{Outstanding, Backward as BeginBackward, Wide as BeginWide, Over as BeginOver, Memory as BeginMemory}
use Rattle.lazy_msgs.specs.declared.refused.TrimRefused.{TrimRefused}
use Rattle.lazy_msgs.specs.declared.refused.TrimRefused.TheVariants.{Outstanding as TrimOutstanding, Ahead, Over as TrimOver, Memory as TrimMemory}
use Rattle.lazy_msgs.specs.declared.refused.SuspectRefused.{SuspectRefused}
use Rattle.lazy_msgs.specs.declared.refused.SuspectRefused.TheVariants.{NotInView, LastSeq, LastOfShard, ViewsSpent, Over as SuspectOver, Memory as SuspectMemory}
use Rattle.lazy_msgs.specs.declared.refused.EventRefused.{EventRefused}
use Rattle.lazy_msgs.specs.declared.refused.EventRefused.TheVariants.{NoNode, NoMessage, IsClaim, NotClaim, Crashed, NoTrim, Post, Begin as BeginRefusedSo, Suspect, Trim, Backward, Wide, NotYet, Spent, Memory}
use Rattle.trace_script.specs.declared.node_word.NodeWord.{NodeWord}
use Rattle.trace_script.specs.Names.{node_name, word_text}

-- why a node's own call was refused
abbrev pub post_reason : PostRefused → List ℕ
post_reason TooLong = codes "too long"
post_reason NumbersSpent = codes "numbers spent"
post_reason (WindowFull low) = codes "window full at " ++ decimal low
post_reason PostOver = codes "over"
post_reason PostMemory = codes "memory"

abbrev pub begin_reason : BeginRefused → List ℕ
begin_reason (Outstanding read) = codes "read " ++ (decimal read ++ codes " outstanding")
begin_reason BeginBackward = codes "backward"
begin_reason BeginWide = codes "wide"
begin_reason BeginOver = codes "over"
begin_reason BeginMemory = codes "memory"

abbrev pub trim_reason : TrimRefused → List ℕ
trim_reason (TrimOutstanding read) = codes "read " ++ (decimal read ++ codes " outstanding")
trim_reason (Ahead reach) = codes "ahead, reach " ++ decimal reach
trim_reason TrimOver = codes "over"
trim_reason TrimMemory = codes "memory"

abbrev pub suspect_reason : SuspectRefused → List ℕ
suspect_reason NotInView = codes "not in view"
suspect_reason LastSeq = codes "last sequencing replica"
suspect_reason (LastOfShard shard) = codes "last replica of shard " ++ decimal shard
suspect_reason ViewsSpent = codes "views spent"
suspect_reason SuspectOver = codes "over"
suspect_reason SuspectMemory = codes "memory"

-- why an event was refused
abbrev pub reason : EventRefused → List ℕ
reason (NoNode node) = codes "no node " ++ node_name node
reason (NoMessage message) = codes "no message " ++ decimal message
reason (IsClaim message) = codes "claim " ++ decimal message
reason (NotClaim message) = codes "not a claim " ++ decimal message
reason (Crashed node) = node_name node ++ codes " crashed"
reason NoTrim = codes "no trim"
reason (Post refused) = post_reason refused
reason (BeginRefusedSo refused) = begin_reason refused
reason (Suspect refused) = suspect_reason refused
reason (Trim refused) = trim_reason refused
reason Backward = codes "backward"
reason Wide = codes "wide"
reason (NotYet stable) = codes "not yet, stable " ++ decimal stable
reason Spent = codes "spent"
reason Memory = codes "memory"

-- a refused event
abbrev pub refused_text : EventRefused → List ℕ
refused_text refused = codes "refused: " ++ reason refused

-- the refusal of a word whose number no node has
abbrev pub no_node_text : NodeWord → List ℕ
no_node_text word = codes "refused: no node " ++ word_text word
