use Rattle.std.specs.Prelude.{◌≡◌, ◌≢◌, ◌+◌, ◌<◌, ◌^◌, length, Option, Some, None, Result, Err, OnOk, IfErr}
use Rattle.view_config.specs.Shape.{Dimensions}
use Rattle.view_config.specs.declared.edition.Edition.{Edition}
use Rattle.lazy_msgs.specs.declared.input.Input.{Input}
use Rattle.lazy_msgs.specs.declared.input.Input.TheVariants.{Post, Ask, Trim, Suspect}
use Rattle.lazy_msgs.specs.declared.refused.EventRefused.{EventRefused}
use Rattle.lazy_msgs.specs.declared.refused.EventRefused.TheVariants.{Spent, Memory}
use Rattle.lazy_msgs.specs.Outbox.{Out}
use Rattle.lazy_msgs.specs.Step.{Row, StepsTo}
use Rattle.lazy_rules.specs.ClientNode.{ClientNode, client_node_step, in_appends, in_reads}
use Rattle.lazy_rules.specs.ClientRules.{invokes, post_refusal}
use Rattle.lazy_rules.specs.ControlRules.{control_step, replaces, suspect_refusal}
use Rattle.lazy_rules.specs.ControlState.{ControlState}
use Rattle.lazy_rules.specs.ReaderRules.{begin_refusal, begins_read, begins_trim}
use Rattle.lazy_rules.specs.SeqRules.{seq_step}
use Rattle.lazy_rules.specs.ShardRules.{shard_step}
use Rattle.lazy_rules.specs.WorldRules.{asking_refused, posting_refused, suspecting_refused, trim_refused_in}
use Rattle.lazy_core.specs.declared.node_state.NodeState.{NodeState}
use Rattle.lazy_core.specs.declared.node_state.NodeState.TheVariants.{Seq, Shard, Client, Control}
use Rattle.lazy_core.specs.NodeStep.{as_node, client_of, halves_of}

-- What a node does in an event of a world. Its own calls may refuse an input, for a reason; a step has none.

-- what an input does that isn't refused
abbrev pub client_call : ClientNode → Input → Row ClientNode
client_call n (Post bytes) = in_appends n (invokes n.appends bytes)
client_call n (Ask ask) = in_reads n (begins_read n.reads ask)
client_call n (Trim floor) = in_reads n (begins_trim n.reads floor)
client_call n input = client_node_step n input

abbrev pub control_call : ControlState → Input → Row ControlState
control_call k (Suspect node) = replaces k node
control_call k input = control_step k input

abbrev pub node_call : NodeState → Input → Row NodeState
node_call (Seq s) input = as_node Seq (seq_step s input)
node_call (Shard s) input = as_node Shard (shard_step s input)
node_call (Client appends reads) input = as_node client_of (client_call (halves_of appends reads) input)
node_call (Control k) input = as_node Control (control_call k input)

-- why it is refused, if it is, in a world of this edition
abbrev pub client_refusal : Edition → ClientNode → Input → Option EventRefused
client_refusal edition n (Post bytes) = posting_refused (post_refusal n.appends (length bytes))
client_refusal edition n (Ask ask) = asking_refused (begin_refusal n.reads ask)
client_refusal edition n (Trim floor) = trim_refused_in edition n.reads floor
client_refusal edition n input = None

abbrev pub control_refusal : ControlState → Input → Option EventRefused
control_refusal k (Suspect node) = suspecting_refused (suspect_refusal k node)
control_refusal k input = None

abbrev pub call_refusal : Edition → NodeState → Input → Option EventRefused
call_refusal edition (Seq s) input = None
call_refusal edition (Shard s) input = None
call_refusal edition (Client appends reads) input = client_refusal edition (halves_of appends reads) input
call_refusal edition (Control k) input = control_refusal k input

-- how an event ends
abbrev pub Outcome : Type 0
Outcome = Result (Unit {0}) EventRefused

-- a node took the step of a row, or refused and left all as it was: for this reason, as spent where its outbox
-- had no room, or for want of memory
pub record CallsTo {S : Type 0} (row : Row S) (reason : Option EventRefused) (before after : S) (out_before out_after : Out) (outcome : Outcome) : Type 0 where
  pub steps : StepsTo row before after out_before out_after outcome Spent
  pub allowed : OnOk outcome (reason ≡ None)
  pub named : IfErr outcome (λ e. e ≢ Spent → e ≢ Memory → reason ≡ Some e)
  pub unspent : outcome ≡ Err Spent → reason ≡ None

-- a client of a world: it has the world's shape, and may begin one more read
pub record IsClientOf (shape : Dimensions) (n : ClientNode) : Type 0 where
  pub shaped : n.reads.shape ≡ shape
  pub one_more : n.reads.count + 1 < 2 ^ 32

-- what a node's call needs to know of it
abbrev pub IsNodeOf : Dimensions → NodeState → Type 0
IsNodeOf shape (Client appends reads) = IsClientOf shape (halves_of appends reads)
IsNodeOf shape (Seq s) = Unit {0}
IsNodeOf shape (Shard s) = Unit {0}
IsNodeOf shape (Control k) = Unit {0}
