use Rattle.std.specs.Prelude.{ℕ, length, Option, None}
use Rattle.std.specs.Option.{option_map}
use Rattle.view_config.specs.declared.edition.Edition.{Edition}
use Rattle.view_config.specs.declared.edition.Edition.TheVariants.{One, Two}
use Rattle.lazy_msgs.specs.declared.input.Input.{Input}
use Rattle.lazy_msgs.specs.declared.input.Input.TheVariants.{Post, Ask, Trim, Suspect}
use Rattle.lazy_rules.specs.ClientNode.{ClientNode}
use Rattle.lazy_rules.specs.ClientRules.{post_refusal}
use Rattle.lazy_rules.specs.ControlRules.{suspect_refusal}
use Rattle.lazy_rules.specs.ControlState.{ControlState}
use Rattle.lazy_rules.specs.ReaderRules.{begin_refusal, trim_refusal}
use Rattle.lazy_rules.specs.ReaderState.{ReaderState}
use Rattle.diary_laws.specs.Nodes.{NodeState, OfClient, OfControl, OfSeq, OfShard}
use Rattle.lazy_msgs.specs.declared.refused.BeginRefused.{BeginRefused}
use Rattle.lazy_msgs.specs.declared.refused.BeginRefused.TheVariants.{Outstanding, Backward, Wide, Over as BeginOver, Memory as BeginMemory}
use Rattle.lazy_msgs.specs.declared.refused.StepRefused.{StepRefused}
use Rattle.lazy_msgs.specs.declared.refused.StepRefused.TheVariants.{Over as StepOver, Memory as StepMemory}
use Rattle.lazy_msgs.specs.declared.refused.SuspectRefused.{SuspectRefused}
use Rattle.lazy_msgs.specs.declared.refused.SuspectRefused.TheVariants.{NotInView, LastSeq, LastOfShard, ViewsSpent, Over as SuspectOver, Memory as SuspectMemory}
use Rattle.lazy_msgs.specs.declared.refused.TrimRefused.{TrimRefused}
use Rattle.lazy_msgs.specs.declared.refused.TrimRefused.TheVariants.{Outstanding as TrimOutstanding, Ahead, Over as TrimOver, Memory as TrimMemory}
use Rattle.node_diary.specs.declared.refused.FeedRefused.{FeedRefused}
use Rattle.node_diary.specs.declared.refused.FeedRefused.TheVariants.{DiaryFull, Memory, Post as PostSo, Begin as BeginSo, Suspect as SuspectSo, Trim as TrimSo}

-- Why a node itself refuses an input, if it does. In edition One a trim has no row, and nothing refuses it.

abbrev pub trim_refusal_in : Edition → ReaderState → ℕ → Option FeedRefused
trim_refusal_in One reads floor = None
trim_refusal_in Two reads floor = option_map TrimSo (trim_refusal reads floor)

abbrev pub client_refusal : ClientNode → Input → Option FeedRefused
client_refusal n (Post bytes) = option_map PostSo (post_refusal n.appends (length bytes))
client_refusal n (Ask ask) = option_map BeginSo (begin_refusal n.reads ask)
client_refusal n (Trim floor) = trim_refusal_in n.reads.shape.edition n.reads floor
client_refusal n _ = None

abbrev pub control_refusal : ControlState → Input → Option FeedRefused
control_refusal k (Suspect node) = option_map SuspectSo (suspect_refusal k node)
control_refusal k _ = None

abbrev pub own_refusal : NodeState → Input → Option FeedRefused
own_refusal (OfClient n) input = client_refusal n input
own_refusal (OfControl k) input = control_refusal k input
own_refusal (OfSeq s) input = None
own_refusal (OfShard s) input = None

-- How a feed is refused, where the node's step, read, trim or suspicion was refused so: for want of room the diary is full.

abbrev pub feed_step_refused : StepRefused → FeedRefused
feed_step_refused StepOver = DiaryFull
feed_step_refused StepMemory = Memory

abbrev pub feed_begin_refused : BeginRefused → FeedRefused
feed_begin_refused (Outstanding number) = BeginSo (Outstanding number)
feed_begin_refused Backward = BeginSo Backward
feed_begin_refused Wide = BeginSo Wide
feed_begin_refused BeginOver = DiaryFull
feed_begin_refused BeginMemory = Memory

abbrev pub feed_trim_refused : TrimRefused → FeedRefused
feed_trim_refused (TrimOutstanding number) = TrimSo (TrimOutstanding number)
feed_trim_refused (Ahead reach) = TrimSo (Ahead reach)
feed_trim_refused TrimOver = DiaryFull
feed_trim_refused TrimMemory = Memory

abbrev pub feed_suspect_refused : SuspectRefused → FeedRefused
feed_suspect_refused NotInView = SuspectSo NotInView
feed_suspect_refused LastSeq = SuspectSo LastSeq
feed_suspect_refused (LastOfShard shard) = SuspectSo (LastOfShard shard)
feed_suspect_refused ViewsSpent = SuspectSo ViewsSpent
feed_suspect_refused SuspectOver = DiaryFull
feed_suspect_refused SuspectMemory = Memory
