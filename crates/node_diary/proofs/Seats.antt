-- What a node has of its shape, it keeps.
use Rattle.std.proofs.Common.{◌≡◌, ◌≤◌, ◌+◌, ℕ, List, length, refl, ◌∙◌, arith}
use Rattle.std.specs.Option.{is_none}
use Rattle.list_facts.proofs.Cases.{either, some_or_none}
use Rattle.view_config.specs.Shape.{Dimensions}
use Rattle.lazy_msgs.specs.declared.input.Input.{Input}
use Rattle.lazy_msgs.specs.declared.input.Input.TheVariants.{Take, Tick, Post}
use Rattle.lazy_msgs.specs.declared.msg.Msg.{Msg}
use Rattle.lazy_msgs.specs.declared.msg.Msg.TheVariants.{AppendAck, DataAck, Rejected, ViewIs}
use Rattle.lazy_msgs.specs.Step.{Row}
use Rattle.lazy_rules.specs.ClientRules.{client_row, client_step, client_took, invokes, on_post, post_refusal}
use Rattle.lazy_rules.specs.ClientState.{ClientState, OpenAppend}
use Rattle.lazy_rules.specs.Door.{is_turned_away}
use Rattle.lazy_rules.specs.ReaderRules.{reader_step}
use Rattle.lazy_rules.specs.ReaderState.{ReaderState}
use Rattle.lazy_rules.specs.Rows.{stays}
use Rattle.world_facts.proofs.ClientTurns.{kept_node}
use Rattle.world_facts.proofs.ReaderShape.{Next, reader_shape}
use Rattle.world_facts.proofs.counts.Reader.{reader_counts}
use Rattle.world_facts.proofs.goes.Sends.{any}
use Rattle.lazy_core.specs.declared.node_state.NodeState.{NodeState}
use Rattle.lazy_core.specs.declared.node_state.NodeState.TheVariants.{Seq, Shard, Client, Control}
use Rattle.lazy_core.specs.NodeStep.{halves_of, node_step}
use Rattle.node_diary.specs.Fed.{IsClientIn, IsSeated}
use Rattle.node_diary.proofs.SeqSeats.{seat_kept}

module _ (s : ClientState) where
  abbrev Shaped : Row ClientState → Type 0
  Shaped = Next (λ (x : ClientState). x.shape ≡ s.shape)

  same : (row : Row ClientState) → row.next.shape ≡ s.shape → Shaped row
  same row is = record { next = is }

  rows : (sender : ℕ) (msg : Msg) → Shaped (client_row s sender msg)
  rows sender (AppendAck view id) = search (either Shaped, some_or_none {A = ℕ} Shaped, some_or_none {A = OpenAppend} Shaped, same) depth 14
  rows sender (DataAck view id) = search (either Shaped, some_or_none {A = ℕ} Shaped, some_or_none {A = OpenAppend} Shaped, same) depth 14
  rows sender (Rejected id place) = search (either Shaped, some_or_none {A = ℕ} Shaped, same) depth 12
  rows sender (ViewIs config) = search (either Shaped, same) depth 12
  rows sender _ = same _ refl

  takes : (sender : ℕ) (msg : Msg) → Shaped (client_took s sender msg)
  takes sender msg = either Shaped (is_turned_away s.shape sender msg) (stays s) (client_row s sender msg) (λ h. same _ refl) (λ h. rows sender msg)

  posts : (bytes : List ℕ) → Shaped (on_post s bytes)
  posts bytes = either Shaped (is_none (post_refusal s (length bytes))) (invokes s bytes) (stays s) (λ h. same _ refl) (λ h. same _ refl)

client_shape : (s : ClientState) (input : Input) → (client_step s input).next.shape ≡ s.shape
client_shape s (Take e) = (takes s e.from e.msg).next
client_shape s (Post bytes) = (posts s bytes).next
client_shape s Tick = refl
client_shape s _ = refl

module _ (shape : Dimensions) (steps : ℕ) where
  record ReadsIn (r : ReaderState) : Type 0 where
    shaped : r.shape ≡ shape
    few : r.count ≤ steps + 1

  client_kept : (appends : ClientState) (reads : ReaderState) → IsClientIn shape steps appends.shape reads.shape reads.count → (input : Input) → IsSeated shape (steps + 1) (node_step (Client appends reads) input).next
  client_kept appends reads ok input =
      let few = ok.few in
      let more = (reader_counts reads input).reads in
      let kept = kept_node (λ (s : ClientState). s.shape ≡ shape) ReadsIn (λ (to : ℕ) (msg : Msg). Unit {0}) (halves_of appends reads) ok.appending
      (record { shaped = ok.reading; few = omega arith }) tt input
      (record { next = client_shape appends input ∙ ok.appending; sends = any (client_step appends input).sends })
      (record { next = record { shaped = reader_shape reads input ∙ ok.reading; few = omega arith }; sends = any (reader_step reads input).sends }) in
      record { appending = kept.next.appends; reading = kept.next.reads.shaped; few = kept.next.reads.few }

  pub state_seated : (state : NodeState) → IsSeated shape steps state → (input : Input) → IsSeated shape (steps + 1) (node_step state input).next
  state_seated (Client appends reads) ok input = client_kept appends reads ok input
  state_seated (Seq s) ok input = seat_kept shape s ok input
  state_seated (Shard s) ok input = tt
  state_seated (Control k) ok input = tt
