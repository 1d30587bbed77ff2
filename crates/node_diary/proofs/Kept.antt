-- What a feed keeps of the step that was written.
use Rattle.std.proofs.Common.{◌≡◌, ◌≢◌, ◌<◌, ◌≤◌, ◌+◌, ℕ, List, length, max, Option, Some, Result, Ok, Err, refl, sym, ap, ◌∙◌, subst, arith}
use Rattle.rec_id.specs.declared.event.Event.{Event}
use Rattle.view_config.specs.Shape.{Dimensions}
use Rattle.lazy_msgs.specs.declared.diary.DiaryEntry.{DiaryEntry}
use Rattle.lazy_msgs.specs.declared.input.Input.{Input}
use Rattle.lazy_msgs.specs.declared.limits.TheConstants.{TIME_LIMIT}
use Rattle.lazy_msgs.specs.Weight.{sends_weight}
use Rattle.world_facts.specs.Turns.{time_in}
use Rattle.lazy_core.specs.declared.node_state.NodeState.{NodeState}
use Rattle.lazy_core.specs.NodeStep.{node_step}
use Rattle.diary_merge.specs.declared.limits.TheConstants.{DIARY_WEIGHT_LIMIT, ENTRIES_LIMIT}
use Rattle.node_diary.specs.declared.refused.FeedRefused.{FeedRefused}
use Rattle.node_diary.specs.declared.refused.FeedRefused.TheVariants.{ClockSpent, DiaryFull, Memory, Post, Begin, Suspect, Trim}
use Rattle.node_diary.specs.Calling.{IsReady}
use Rattle.node_diary.specs.Fed.{IsFed, IsFedIn}
use Rattle.node_diary.specs.Feeding.{Diarist, feed_refusal, grown, next_time}
use Rattle.diary_merge.specs.Weights.{diary_weight, input_weight}
use Rattle.node_diary.specs.Writing.{Page, Writes, page_of, turned_page}
use Rattle.node_diary.proofs.Feeds.{HasRoom, IsFree, grown_in, heavier_by, over_refused, own_refused}

pub ready_of : (d : Diarist) → IsFed d → IsReady d.state
ready_of d h = record {
  shape = h.shape;
  formed = h.is.begins.formed;
  steps = length d.entries;
  few = (let most = h.is.within.in_number in omega arith);
  seated = h.is.seated;
}

pub room_for : (d : Diarist) (input : Input) (received time entries weight heavy left : ℕ) → received ≡ time_in input → time ≡ max d.time received + 1 → time < TIME_LIMIT → entries ≡ length d.entries → entries < ENTRIES_LIMIT
    → weight ≡ diary_weight d.entries → heavy ≡ input_weight input → weight + heavy + left ≡ DIARY_WEIGHT_LIMIT → HasRoom d input left
room_for d input received time entries weight heavy left at when early count few total load sum = record {
  early = subst (λ (t : ℕ). t < TIME_LIMIT) (when ∙ ap (λ (r : ℕ). max d.time r + 1) at) early;
  few = subst (λ (n : ℕ). n < ENTRIES_LIMIT) count few;
  sum = ap (λ (w : ℕ). w + input_weight input + left) (sym total) ∙ ap (λ (i : ℕ). weight + i + left) (sym load) ∙ sum;
}

module _ (d : Diarist) (input : Input) (time left : ℕ) (entries entries_after entries_kept : List DiaryEntry) (told told_after told_kept : List Event) (after : NodeState)
    (room : HasRoom d input left) (same_entries : entries ≡ d.entries) (same_told : told ≡ d.told) where
  before_is : page_of d.state entries told ≡ page_of d.state d.entries d.told
  before_is = ap (λ (es : List DiaryEntry). page_of d.state es told) same_entries ∙ ap (page_of d.state d.entries) same_told

  abbrev Wrote : Result (Option ℕ) FeedRefused → Type 0
  Wrote outcome = Writes time left input (page_of d.state entries told) (page_of after entries_after told_after) outcome

  -- ---- refused
  pub refused_by : (e : FeedRefused) → Wrote (Err e) → e ≢ Memory → feed_refusal d input ≡ Some e
  refused_by DiaryFull h other = over_refused d input left room (h.unspent refl) (h.heavy refl)
  refused_by Memory h other = absurd (other refl)
  refused_by ClockSpent h other = own_refused d input left room ClockSpent (h.named (λ x. cc) (λ x. cc))
  refused_by (Post r) h other = own_refused d input left room (Post r) (h.named (λ x. cc) (λ x. cc))
  refused_by (Begin r) h other = own_refused d input left room (Begin r) (h.named (λ x. cc) (λ x. cc))
  refused_by (Suspect r) h other = own_refused d input left room (Suspect r) (h.named (λ x. cc) (λ x. cc))
  refused_by (Trim r) h other = own_refused d input left room (Trim r) (h.named (λ x. cc) (λ x. cc))

  -- ---- written
  module _ (weight : ℕ) (wrote : Wrote (Ok (Some weight))) (when : time ≡ next_time d input) (kept_entries : entries_kept ≡ entries_after) (kept_told : told_kept ≡ told_after) where
    free : IsFree d input
    free = record {
      early = room.early;
      few = room.few;
      allowed = wrote.allowed;
      light = (let light : sends_weight (node_step d.state input).sends ≤ left = wrote.light in let sum = room.sum in omega arith);
    }

    turned : page_of after entries_kept told_kept ≡ turned_page (next_time d input) input (page_of d.state d.entries d.told)
    turned =
        ap (λ (es : List DiaryEntry). page_of after es told_kept) kept_entries
        ∙ ap (page_of after entries_after) kept_told
        ∙ wrote.written.1
        ∙ ap (turned_page time input) before_is
        ∙ ap (λ (t : ℕ). turned_page t input (page_of d.state d.entries d.told)) when

    abbrev with_page : ℕ → Page → Diarist
    with_page t p = record { node = d.node; state = p.state; entries = p.entries; told = p.told; time = t }

    abbrev kept : Diarist
    kept = record { node = d.node; state = after; entries = entries_kept; told = told_kept; time = time }

    kept_is : kept ≡ grown d input
    kept_is = ap (with_page time) turned ∙ ap (λ (t : ℕ). with_page t (turned_page (next_time d input) input (page_of d.state d.entries d.told))) when

    pub kept_fed : (shape : Dimensions) → IsFedIn shape d → IsFedIn shape kept
    kept_fed shape h = subst (IsFedIn shape) (sym kept_is) (grown_in shape d input h free)

    pub kept_weight : (total heavy : ℕ) → total ≡ diary_weight d.entries → heavy ≡ input_weight input → total + (heavy + weight) ≡ diary_weight entries_kept
    kept_weight total heavy all load =
        let sum = heavier_by d input in
        let own : diary_weight entries_kept ≡ diary_weight (grown d input).entries = ap (λ (a : Diarist). diary_weight a.entries) kept_is in
        let sent : weight ≡ sends_weight (node_step d.state input).sends = wrote.written.2 in
        omega arith
