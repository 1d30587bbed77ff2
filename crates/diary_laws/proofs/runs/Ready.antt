-- The event of the first step that is left is that step.
use Rattle.std.proofs.Common.{◌≡◌, ℕ, zero, suc, ◌+◌, ◌<◌, ◌≤◌, List, [], ◌++◌, length, true, false, not, Option, inl, inr, sym, ap, ◌∙◌, arith}
use Rattle.std.specs.Prelude.{◌==◌}
use Rattle.std.specs.Option.{option_map_or}
use Rattle.list_facts.specs.Lists.{In, Each}
use Rattle.list_facts.proofs.Members.{each_in, in_cases}
use Rattle.rec_id.specs.Identity.{Identity}
use Rattle.view_config.specs.Shape.{Dimensions, node_of}
use Rattle.view_config.specs.declared.nodes.TheConstants.{FIRST_SHARD}
use Rattle.lazy_msgs.specs.declared.input.Input.{Input}
use Rattle.lazy_msgs.specs.declared.input.Input.TheVariants.{Take, Tick, Grace, Crash, Post, Ask, Trim, Suspect, Peek}
use Rattle.lazy_msgs.specs.declared.input.WorldEvent.{WorldEvent}
use Rattle.lazy_msgs.specs.declared.msg.Envelope.{Envelope}
use Rattle.lazy_msgs.specs.declared.msg.Msg.{Msg}
use Rattle.lazy_rules.specs.WorldRules.{enveloped, ids_at}
use Rattle.lazy_rules.specs.WorldState.{WorldState}
use Rattle.diary_laws.specs.Closed.{IsClaimed, IsJustified, IsPeek}
use Rattle.diary_laws.specs.Formed.{IsReceived}
use Rattle.diary_laws.specs.Machines.{Step}
use Rattle.diary_laws.specs.Merges.{IsEventOf, IsNumber, IsDelivery, IsPeekEvent, finds_none, sent_by}
use Rattle.diary_laws.specs.Nodes.{NodeState, ids_of, nodes_of_shape, state_at}
use Rattle.diary_laws.proofs.runs.Lists.{flat_append}
use Rattle.diary_laws.proofs.runs.Numbers.{IsSent, was_sent}
use Rattle.diary_laws.proofs.runs.Reached.{IsSettled, Reached}
use Rattle.diary_laws.proofs.runs.Steady.{claim_ids, ids_read}
use Rattle.diary_laws.proofs.worlds.Ready.{IsHeard, IsLooked, IsReady}

pub positive : (n : ℕ) → not (n == 0) ≡ true → 1 ≤ n
positive zero h = let wrong : false ≡ true = h in cc
positive (suc n) h = omega arith

module _ (shape : Dimensions) (w : WorldState) (done rest : List (Step NodeState)) (reached : Reached shape w done rest) (now : ℕ) (late : Each (λ (x : Step NodeState). now ≤ x.time) rest) where
  abbrev sent : List Envelope
  sent = sent_by (done ++ rest)

  was : (e : Envelope) → e.time < now → (k : ℕ) → IsNumber sent e k → IsSent w k e
  was e older k numbered = was_sent w done rest sent (flat_append (λ (x : Step NodeState). enveloped x.node x.time x.row.sends) done rest) reached.sent now late e older k numbered

  -- a step from before now is done
  is_done : (x : Step NodeState) → In x (done ++ rest) → x.time < now → In x done
  is_done x there before = elim (in_cases x done rest there) [
    | inl k ↦ k
    | inr k ↦ (let after = each_in (λ (y : Step NodeState). now ≤ y.time) rest late x k in absurd (omega arith))
  ]

  hears : (me : ℕ) (envelope : Envelope) (event : WorldEvent) → IsReceived me now (Take envelope) → IsDelivery (IsNumber sent) envelope event → IsHeard w envelope event × (envelope.to ≡ me)
  hears me envelope event received h =
      let found = was envelope received.older h.number h.numbered in
      (record { number = h.number; found = found.found; there = found.there; like = found.like; mail = received.mail; is = h.is }, received.own)

  -- what was claimed is read now
  reads : (stable time replica from : ℕ) (ids : List Identity) → IsClaimed (nodes_of_shape shape) (done ++ rest) now stable time replica from ids → from + length ids ≤ stable → (sender : ℕ) → sender ≡ FIRST_SHARD + replica → ids_at w from (from + length ids) (node_of w.shape sender) ≡ ids
  reads stable time replica from ids h within sender is =
      let at = h.at in
      let before = h.before in
      let settled = each_in (IsSettled w) done reached.settled h.step (is_done h.step h.there (omega arith)) in
      let end : ℕ = from + length ids in
      ids_read w from end (node_of w.shape sender)
      ∙ ap (λ (n : ℕ). option_map_or (λ (s : NodeState). ids_of s from end) (state_at w n) []) (is ∙ sym h.by)
      ∙ ap (λ (o : Option NodeState). option_map_or (λ (s : NodeState). ids_of s from end) o []) settled.here
      ∙ claim_ids h.step.row.next settled.now settled.still h.step.row.sends settled.stable h.addressee stable from (length ids) h.claims within
      ∙ h.has

  looks : (me stable time replica from : ℕ) (ids : List Identity) (event : WorldEvent) → not (stable == 0) ≡ true → IsPeek (nodes_of_shape shape) (done ++ rest) now stable time replica from ids → IsPeekEvent (IsNumber sent) me stable time replica from ids event → IsLooked w me stable from ids event
  looks me stable time replica from ids event some peek h =
      let some_claim : 1 ≤ stable = positive stable some in
      let claimed = peek.claimed some_claim in
      let before = claimed.before in
      let at = h.at in
      let found = was h.claim (omega arith) h.number h.numbered in
      let sender : found.found.from ≡ FIRST_SHARD + replica = ap (λ (t : ℕ × ℕ × Msg). t.0) found.like ∙ h.by in
      record {
        number = h.number;
        found = found.found;
        there = found.there;
        says = ap (λ (t : ℕ × ℕ × Msg). t.2) found.like ∙ h.says;
        has = reads stable time replica from ids claimed peek.within found.found.from sender;
        few = peek.few;
        within = peek.within;
        is = h.is;
      }

  pub ready : (all : List Envelope) (me : ℕ) (input : Input) (event : WorldEvent) → not (finds_none input) ≡ true → IsJustified (nodes_of_shape shape) all (done ++ rest) now input → IsReceived me now input → IsEventOf (IsNumber sent) me input event → IsReady w me input event
  ready all me (Take envelope) event some justified received h = hears me envelope event received h
  ready all me (Peek stable time replica from ids) event some justified received h = looks me stable time replica from ids event some justified h
  ready all me (Post bytes) event some justified received h = h
  ready all me (Ask ask) event some justified received h = h
  ready all me (Trim floor) event some justified received h = h
  ready all me (Suspect other) event some justified received h = h
  ready all me Tick event some justified received h = h
  ready all me Grace event some justified received h = h
  ready all me Crash event some justified received h = h
