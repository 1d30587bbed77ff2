-- A step that was refused, in writing.
use Rattle.std.proofs.Common.{◌≡◌, ◌<◌, ◌≤◌, ◌+◌, ◌^◌, ℕ, List, Bool, Err, ap, ◌∙◌, subst, arith}
use Rattle.rec_id.specs.declared.event.Event.{Event}
use Rattle.lazy_msgs.specs.declared.diary.DiaryEntry.{DiaryEntry}
use Rattle.lazy_msgs.specs.declared.input.Input.{Input}
use Rattle.lazy_msgs.specs.Outbox.{Fits, Out}
use Rattle.lazy_msgs.specs.Weight.{sends_weight}
use Rattle.lazy_core.specs.declared.node_state.NodeState.{NodeState}
use Rattle.lazy_core.specs.NodeStep.{node_step}
use Rattle.node_diary.specs.declared.refused.FeedRefused.{FeedRefused}
use Rattle.node_diary.specs.declared.refused.FeedRefused.TheVariants.{DiaryFull}
use Rattle.node_diary.specs.Calling.{Takes}
use Rattle.node_diary.specs.Writing.{Writes, page_of}
use Rattle.diary_merge.proofs.Loads.{too_heavy}

pub write_refused : (time left : ℕ) (input : Input) (state after : NodeState) (entries entries_after : List DiaryEntry) (told told_after : List Event) (out out_after : Out) (e : FeedRefused)
    → Takes {R = Bool} input state after out out_after (Err e) → entries_after ≡ entries → told_after ≡ told → out.weight_left ≡ left → left < 2 ^ 32 → 2 ^ 32 ≤ out.messages_left + 1
    → Writes time left input (page_of state entries told) (page_of after entries_after told_after) (Err e)
write_refused time left input state after entries entries_after told told_after out out_after e h same_entries same_told room low many = record {
  written = tt;
  allowed = tt;
  light = tt;
  named = h.named;
  unspent = λ full. h.unspent (let same : e ≡ DiaryFull = cc in ap Err same);
  heavy = λ full.
      let same : e ≡ DiaryFull = cc in
      let none : ¬ Fits (node_step state input).sends out = h.steps.room (ap Err same) in
      let heavy = too_heavy (node_step state input).sends out (omega arith) many none in
      subst (λ (n : ℕ). n < sends_weight (node_step state input).sends) room heavy;
  unchanged = ap (λ (s : NodeState). page_of s entries_after told_after) h.steps.unchanged
      ∙ ap (λ (es : List DiaryEntry). page_of state es told_after) same_entries
      ∙ ap (page_of state entries) same_told;
}
