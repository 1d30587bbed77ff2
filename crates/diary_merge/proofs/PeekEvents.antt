-- A peek is the peek of the Claim that code finds for it.
use Rattle.std.proofs.Common.{◌≡◌, ◌<◌, ◌≤◌, ◌+◌, ◌-◌, ◌^◌, ℕ, List, length, min, Option, Some, None, refl, sym, ap, ◌∙◌, subst, arith}
use Rattle.std.specs.Prelude.{IsSomeAnd}
use Rattle.std.specs.Option.{unwrap_or}
use Rattle.list_facts.specs.Lists.{Each}
use Rattle.rec_id.specs.Identity.{Identity}
use Rattle.view_config.specs.declared.nodes.TheConstants.{FIRST_SHARD}
use Rattle.lazy_msgs.specs.declared.diary.Diary.{Diary}
use Rattle.lazy_msgs.specs.declared.input.Input.TheVariants.{Peek}
use Rattle.lazy_msgs.specs.declared.input.WorldEvent.{WorldEvent}
use Rattle.lazy_msgs.specs.declared.input.WorldEvent.TheVariants.{Peek as PeekEvent}
use Rattle.lazy_msgs.specs.declared.msg.Envelope.{Envelope}
use Rattle.diary_laws.specs.Merges.{IsFirstNumber, IsPeekEvent, sent_by}
use Rattle.diary_merge.specs.Acts.{AreNumbered, CanBeEvent, IsThere, acts_at}
use Rattle.diary_merge.specs.Numbering.{ClaimsThere, IsClaimNumber}
use Rattle.diary_merge.specs.declared.place.Place.{Place}
use Rattle.diary_merge.specs.declared.place.TheConstants.{NODES}
use Rattle.diary_merge.proofs.FoundNumbers.{sender}

module _ (client stable time replica from : ℕ) (ids : List Identity) (sent : List Envelope) (node : ℕ) (own : node ≡ FIRST_SHARD + replica) where
  by_number : (number : Option ℕ) (event : WorldEvent) → IsSomeAnd number (IsClaimNumber sent stable time node) → event ≡ PeekEvent client (unwrap_or number 0) from (from + length ids) → IsPeekEvent (IsFirstNumber sent) client stable time replica from ids event
  by_number None event found is = absurd found
  by_number (Some number) event found is = record { claim = found.claim; by = found.by ∙ own; at = found.at; says = found.says; number = number; numbered = found.numbered; is = is }

module _ (diaries : List Diary) (places : List Place) (starts : List ℕ) (there : Each (IsThere diaries) places) (h : AreNumbered diaries places starts) where
  abbrev sent : List Envelope
  sent = sent_by (acts_at diaries places)

  pub peek_event : (client stable time replica from node message : ℕ) (ids : List Identity) (number : Option ℕ) (event : WorldEvent) → CanBeEvent (acts_at diaries places) (Peek stable time replica from ids)
      → node ≡ min (FIRST_SHARD + replica) (2 ^ 32 - 1) → (ClaimsThere sent stable time node → IsSomeAnd number (IsClaimNumber sent stable time node))
      → message ≡ unwrap_or number 0 → (from + length ids ≤ stable → event ≡ PeekEvent client message from (from + length ids)) → IsPeekEvent (IsFirstNumber sent) client stable time replica from ids event
  peek_event client stable time replica from node message ids number event can is finds named peeks =
      let found = can.found in
      let few : found.claim.from < NODES = (sender diaries places starts there h found.claim found.there).few in
      let by : found.claim.from ≡ FIRST_SHARD + replica = found.by in
      let own : node ≡ FIRST_SHARD + replica = omega arith in
      by_number client stable time replica from ids sent node own number event
      (finds (record { claim = found.claim; there = found.there; by = by ∙ sym own; at = found.at; says = found.says }))
      (peeks can.within ∙ ap (λ (k : ℕ). PeekEvent client k from (from + length ids)) named)
