-- A client's next number grows by one with an event at most.
use Rattle.lazy_msgs.specs.declared.msg.Msg.TheVariants.{AppendAck, DataAck, Rejected, ViewIs}
use Rattle.lazy_msgs.specs.declared.input.Input.TheVariants.{Take, Tick, Post}
use Rattle.lazy_rules.specs.ClientState.{ClientState, OpenAppend}
use Rattle.lazy_msgs.specs.declared.input.Input.{Input}
use Rattle.lazy_msgs.specs.declared.msg.Msg.{Msg}
use Rattle.world_facts.proofs.ReaderShape.{Next}
use Rattle.lazy_msgs.specs.Step.{Row}
use Rattle.lazy_rules.specs.ClientRules.{client_row, client_step, client_took, on_post, post_refusal, invokes}
use Rattle.std.specs.Option.{is_none}
use Rattle.lazy_rules.specs.Door.{is_turned_away}
use Rattle.list_facts.proofs.Cases.{some_or_none, either}
use Rattle.std.proofs.Common.{arith, length, refl, ◌≡◌, ◌+◌, ◌≤◌, ℕ, List}
use Rattle.lazy_rules.specs.Rows.{stays}

module _ (s : ClientState) where
  abbrev Counts : Row ClientState → Type 0
  Counts = Next (λ (x : ClientState). x.next ≤ s.next + 1)

  same : (row : Row ClientState) → row.next.next ≡ s.next → Counts row
  same row is = record { next = omega arith }

  rows : (sender : ℕ) (msg : Msg) → Counts (client_row s sender msg)
  rows sender (AppendAck view id) = search (either Counts, some_or_none {A = ℕ} Counts, some_or_none {A = OpenAppend} Counts, same) depth 14
  rows sender (DataAck view id) = search (either Counts, some_or_none {A = ℕ} Counts, some_or_none {A = OpenAppend} Counts, same) depth 14
  rows sender (Rejected id place) = search (either Counts, some_or_none {A = ℕ} Counts, same) depth 12
  rows sender (ViewIs config) = search (either Counts, same) depth 12
  rows sender _ = same _ refl

  takes : (sender : ℕ) (msg : Msg) → Counts (client_took s sender msg)
  takes sender msg = either Counts (is_turned_away s.shape sender msg) (stays s) (client_row s sender msg) (λ h. same _ refl) (λ h. rows sender msg)

  posts : (bytes : List ℕ) → Counts (on_post s bytes)
  posts bytes = either Counts (is_none (post_refusal s (length bytes))) (invokes s bytes) (stays s) (λ h. record { next = omega arith }) (λ h. same _ refl)

pub client_counts : (s : ClientState) (input : Input) → (client_step s input).next.next ≤ s.next + 1
client_counts s (Take e) = (takes s e.from e.msg).next
client_counts s (Post bytes) = (posts s bytes).next
client_counts s Tick = omega arith
client_counts s _ = omega arith
