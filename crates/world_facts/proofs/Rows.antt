-- The forms of rows: what is to be shown of each.
use Rattle.std.proofs.Common.{ℕ, List}
use Rattle.list_facts.specs.Lists.{Each}
use Rattle.list_facts.proofs.Members.{each_append, each_map}
use Rattle.lazy_msgs.specs.declared.msg.Msg.{Msg}
use Rattle.lazy_msgs.specs.Step.{Row}
use Rattle.lazy_rules.specs.Rows.{stays, answers, sends_all, followed, to_each}
use Rattle.world_facts.proofs.Claims.{Keeps}

module _ {S : Type 0} (State : S → Type 0) (Send : ℕ → Msg → Type 0) where
  pub keeps_stays : (s : S) → State s → Keeps State Send (stays s)
  keeps_stays s h = record { next = h; sends = tt }

  pub keeps_answers : (s : S) (to : ℕ) (msg : Msg) → State s → Send to msg → Keeps State Send (answers s to msg)
  keeps_answers s to msg h k = record { next = h; sends = (k, tt) }

  pub keeps_sends : (s : S) (sends : List (ℕ × Msg)) → State s → Each (λ (send : ℕ × Msg). Send send.0 send.1) sends → Keeps State Send (sends_all s sends)
  keeps_sends s sends h k = record { next = h; sends = k }

  pub keeps_followed : (first : Row S) (more : S → Row S) → Keeps State Send first → Keeps State Send (more first.next) → Keeps State Send (followed first more)
  keeps_followed first more h k = record {
    next = k.next;
    sends = each_append (λ (send : ℕ × Msg). Send send.0 send.1) first.sends (more first.next).sends h.sends k.sends;
  }

pub sends_each : (Send : ℕ → Msg → Type 0) (nodes : List ℕ) (msg : Msg) → Each (λ (node : ℕ). Send node msg) nodes → Each (λ (send : ℕ × Msg). Send send.0 send.1) (to_each nodes msg)
sends_each Send nodes msg h = each_map (λ (node : ℕ). (node, msg)) (λ (send : ℕ × Msg). Send send.0 send.1) nodes h
