-- From what a node's own call answers to what it is in an event.
use Rattle.std.proofs.Common.{◌≡◌, ◌≢◌, Option, Some, None, Result, Ok, Err, refl, ap}
use Rattle.lazy_msgs.specs.declared.refused.BeginRefused.{BeginRefused}
use Rattle.lazy_msgs.specs.declared.refused.BeginRefused.TheVariants.{Outstanding, Backward, Wide, Over as BeginOver, Memory as BeginMemory}
use Rattle.lazy_msgs.specs.declared.refused.EventRefused.{EventRefused}
use Rattle.lazy_msgs.specs.declared.refused.EventRefused.TheVariants.{Post, Begin, Trim, Suspect, Spent, Memory}
use Rattle.lazy_msgs.specs.declared.refused.PostRefused.{PostRefused}
use Rattle.lazy_msgs.specs.declared.refused.PostRefused.TheVariants.{TooLong, NumbersSpent, WindowFull, Over as PostOver, Memory as PostMemory}
use Rattle.lazy_msgs.specs.declared.refused.StepRefused.{StepRefused}
use Rattle.lazy_msgs.specs.declared.refused.StepRefused.TheVariants.{Over as StepOver, Memory as StepMemory}
use Rattle.lazy_msgs.specs.declared.refused.SuspectRefused.{SuspectRefused}
use Rattle.lazy_msgs.specs.declared.refused.SuspectRefused.TheVariants.{NotInView, LastSeq, LastOfShard, ViewsSpent, Over as SuspectOver, Memory as SuspectMemory}
use Rattle.lazy_msgs.specs.declared.refused.TrimRefused.{TrimRefused}
use Rattle.lazy_msgs.specs.declared.refused.TrimRefused.TheVariants.{Outstanding as TrimOutstanding, Ahead, Over as TrimOver, Memory as TrimMemory}
use Rattle.lazy_msgs.specs.Outbox.{Out}
use Rattle.lazy_msgs.specs.Refused.{event_post_refused, event_step_refused}
use Rattle.lazy_msgs.specs.Step.{Row, StepsTo}
use Rattle.lazy_rules.specs.WorldRules.{asking_refused, posting_refused, suspecting_refused, trimming_refused}
use Rattle.lazy_core.specs.EventRefusals.{event_begin_refused, event_suspect_refused, event_trim_refused}
use Rattle.lazy_core.specs.NodeCall.{CallsTo, Outcome}
use Rattle.lazy_core.specs.Turning.{IsPlain}
use Rattle.lazy_core.proofs.StepForms.{part_row, part_steps}

module _ {S : Type 0} (row : Row S) (before after : S) (out out_after : Out) where
  abbrev Steps : {R E : Type 0} → Result R E → E → Type 0
  Steps outcome over = StepsTo row before after out out_after outcome over

  abbrev Calls : Option EventRefused → Outcome → Type 0
  Calls reason outcome = CallsTo row reason before after out out_after outcome

  -- the call was made
  pub call_made : {R E : Type 0} (x : R) (over : E) (reason : Option EventRefused) → Steps (Ok x) over → reason ≡ None → Calls reason (Ok tt)
  call_made x over reason h none = record {
    steps = record { state = h.state; sent = h.sent; fits = h.fits; room = λ e. cc; few = h.few; unchanged = tt; unsent = tt };
    allowed = none;
    named = tt;
    unspent = λ e. cc;
  }

  -- it was refused: for a reason of the node's, for want of room, for want of memory
  pub call_refused : {R E : Type 0} (over : E) (e : E) (reason : Option EventRefused) (refused : EventRefused) → Steps {R = R} (Err e) over → reason ≡ Some refused → IsPlain refused → Calls reason (Err refused)
  call_refused over e reason refused h named plain = record {
    steps = record { state = tt; sent = tt; fits = tt; room = λ is. absurd (plain.room (let same : refused ≡ Spent = cc in same)); few = tt; unchanged = h.unchanged; unsent = h.unsent };
    allowed = tt;
    named = λ a b. named;
    unspent = λ is. absurd (plain.room (let same : refused ≡ Spent = cc in same));
  }

  pub call_spent : {R E : Type 0} (over : E) (reason : Option EventRefused) → Steps {R = R} (Err over) over → reason ≡ None → Calls reason (Err Spent)
  call_spent over reason h none = record {
    steps = record { state = tt; sent = tt; fits = tt; room = λ is. h.room refl; few = tt; unchanged = h.unchanged; unsent = h.unsent };
    allowed = tt;
    named = λ a b. absurd (a refl);
    unspent = λ is. none;
  }

  pub call_memory : {R E : Type 0} (over e : E) (reason : Option EventRefused) → Steps {R = R} (Err e) over → Calls reason (Err Memory)
  call_memory over e reason h = record {
    steps = record { state = tt; sent = tt; fits = tt; room = λ is. cc; few = tt; unchanged = h.unchanged; unsent = h.unsent };
    allowed = tt;
    named = λ a b. absurd (b refl);
    unspent = λ is. cc;
  }

  -- a step has no refusal of its own
  pub step_made : (done : Unit {0}) → Steps (Ok done) StepOver → Calls None (Ok tt)
  step_made done h = call_made done StepOver None h refl

  pub step_refused : (e : StepRefused) → Steps {R = Unit {0}} (Err e) StepOver → Calls None (Err (event_step_refused e))
  step_refused StepOver h = call_spent StepOver None h refl
  step_refused StepMemory h = call_memory StepOver StepMemory None h

  -- a post
  pub post_refused : {R : Type 0} (e : PostRefused) (why : Option PostRefused) → Steps {R = R} (Err e) PostOver
      → (e ≢ PostOver → e ≢ PostMemory → why ≡ Some e) → (◌≡◌ {A = Result R PostRefused} (Err e) (Err PostOver) → why ≡ None)
      → Calls (posting_refused why) (Err (event_post_refused e))
  post_refused TooLong why h named none = call_refused PostOver TooLong (posting_refused why) (Post TooLong) h (ap posting_refused (named (λ x. cc) (λ x. cc))) (record { room = λ x. cc; memory = λ x. cc })
  post_refused NumbersSpent why h named none = call_refused PostOver NumbersSpent (posting_refused why) (Post NumbersSpent) h (ap posting_refused (named (λ x. cc) (λ x. cc))) (record { room = λ x. cc; memory = λ x. cc })
  post_refused (WindowFull low) why h named none = call_refused PostOver (WindowFull low) (posting_refused why) (Post (WindowFull low)) h (ap posting_refused (named (λ x. cc) (λ x. cc))) (record { room = λ x. cc; memory = λ x. cc })
  post_refused PostOver why h named none = call_spent PostOver (posting_refused why) h (ap posting_refused (none refl))
  post_refused PostMemory why h named none = call_memory PostOver PostMemory (posting_refused why) h

  -- a read
  pub begin_refused : {R : Type 0} (e : BeginRefused) (why : Option BeginRefused) → Steps {R = R} (Err e) BeginOver
      → (e ≢ BeginOver → e ≢ BeginMemory → why ≡ Some e) → (◌≡◌ {A = Result R BeginRefused} (Err e) (Err BeginOver) → why ≡ None)
      → Calls (asking_refused why) (Err (event_begin_refused e))
  begin_refused (Outstanding number) why h named none = call_refused BeginOver (Outstanding number) (asking_refused why) (Begin (Outstanding number)) h (ap asking_refused (named (λ x. cc) (λ x. cc))) (record { room = λ x. cc; memory = λ x. cc })
  begin_refused Backward why h named none = call_refused BeginOver Backward (asking_refused why) (Begin Backward) h (ap asking_refused (named (λ x. cc) (λ x. cc))) (record { room = λ x. cc; memory = λ x. cc })
  begin_refused Wide why h named none = call_refused BeginOver Wide (asking_refused why) (Begin Wide) h (ap asking_refused (named (λ x. cc) (λ x. cc))) (record { room = λ x. cc; memory = λ x. cc })
  begin_refused BeginOver why h named none = call_spent BeginOver (asking_refused why) h (ap asking_refused (none refl))
  begin_refused BeginMemory why h named none = call_memory BeginOver BeginMemory (asking_refused why) h

  -- a trim
  pub trim_refused : {R : Type 0} (e : TrimRefused) (why : Option TrimRefused) → Steps {R = R} (Err e) TrimOver
      → (e ≢ TrimOver → e ≢ TrimMemory → why ≡ Some e) → (◌≡◌ {A = Result R TrimRefused} (Err e) (Err TrimOver) → why ≡ None)
      → Calls (trimming_refused why) (Err (event_trim_refused e))
  trim_refused (TrimOutstanding number) why h named none = call_refused TrimOver (TrimOutstanding number) (trimming_refused why) (Trim (TrimOutstanding number)) h (ap trimming_refused (named (λ x. cc) (λ x. cc))) (record { room = λ x. cc; memory = λ x. cc })
  trim_refused (Ahead reach) why h named none = call_refused TrimOver (Ahead reach) (trimming_refused why) (Trim (Ahead reach)) h (ap trimming_refused (named (λ x. cc) (λ x. cc))) (record { room = λ x. cc; memory = λ x. cc })
  trim_refused TrimOver why h named none = call_spent TrimOver (trimming_refused why) h (ap trimming_refused (none refl))
  trim_refused TrimMemory why h named none = call_memory TrimOver TrimMemory (trimming_refused why) h

  -- a suspicion
  pub suspect_refused : {R : Type 0} (e : SuspectRefused) (why : Option SuspectRefused) → Steps {R = R} (Err e) SuspectOver
      → (e ≢ SuspectOver → e ≢ SuspectMemory → why ≡ Some e) → (◌≡◌ {A = Result R SuspectRefused} (Err e) (Err SuspectOver) → why ≡ None)
      → Calls (suspecting_refused why) (Err (event_suspect_refused e))
  suspect_refused NotInView why h named none = call_refused SuspectOver NotInView (suspecting_refused why) (Suspect NotInView) h (ap suspecting_refused (named (λ x. cc) (λ x. cc))) (record { room = λ x. cc; memory = λ x. cc })
  suspect_refused LastSeq why h named none = call_refused SuspectOver LastSeq (suspecting_refused why) (Suspect LastSeq) h (ap suspecting_refused (named (λ x. cc) (λ x. cc))) (record { room = λ x. cc; memory = λ x. cc })
  suspect_refused (LastOfShard shard) why h named none = call_refused SuspectOver (LastOfShard shard) (suspecting_refused why) (Suspect (LastOfShard shard)) h (ap suspecting_refused (named (λ x. cc) (λ x. cc))) (record { room = λ x. cc; memory = λ x. cc })
  suspect_refused ViewsSpent why h named none = call_refused SuspectOver ViewsSpent (suspecting_refused why) (Suspect ViewsSpent) h (ap suspecting_refused (named (λ x. cc) (λ x. cc))) (record { room = λ x. cc; memory = λ x. cc })
  suspect_refused SuspectOver why h named none = call_spent SuspectOver (suspecting_refused why) h (ap suspecting_refused (none refl))
  suspect_refused SuspectMemory why h named none = call_memory SuspectOver SuspectMemory (suspecting_refused why) h

-- what a part of a node is called to is what the node is
pub part_calls : {S T : Type 0} (into : S → T) (row : Row S) (reason : Option EventRefused) (before after : S) (out out_after : Out) (outcome : Outcome) → CallsTo row reason before after out out_after outcome → CallsTo (part_row into row) reason (into before) (into after) out out_after outcome
part_calls into row reason before after out out_after outcome h = record {
  steps = part_steps into row before after out out_after outcome Spent h.steps;
  allowed = h.allowed;
  named = h.named;
  unspent = h.unspent;
}
