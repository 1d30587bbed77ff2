-- When an event is the step of a node that it should be.
use Rattle.std.proofs.Common.{◌≡◌, ℕ, ◌+◌, ◌≤◌, List, [], ◌∷◌, length, Bool, false, Some, None, sym, ap, ◌∙◌, subst, arith, le-ltb}
use Rattle.std.specs.Prelude.{◌-◌, if◌then◌else◌, nat_lt}
use Rattle.rec_id.specs.Identity.{Identity}
use Rattle.rec_id.specs.declared.limits.TheConstants.{READ_LIMIT}
use Rattle.view_config.specs.Shape.{Dimensions, node_of}
use Rattle.view_config.specs.declared.nodes.Node.{Node}
use Rattle.lazy_msgs.specs.declared.input.Input.{Input}
use Rattle.lazy_msgs.specs.declared.input.Input.TheVariants.{Take, Tick, Grace, Crash, Post, Ask, Trim, Suspect, Peek}
use Rattle.lazy_msgs.specs.declared.input.WorldEvent.{WorldEvent}
use Rattle.lazy_msgs.specs.declared.input.WorldEvent.TheVariants.{Post as PostEvent, Ask as AskEvent, Trim as TrimEvent, Peek as PeekEvent, Deliver, Tick as TickEvent, Grace as GraceEvent, Crash as CrashEvent, Suspect as SuspectEvent}
use Rattle.lazy_msgs.specs.declared.msg.Envelope.{Envelope}
use Rattle.lazy_msgs.specs.declared.msg.Msg.{Msg}
use Rattle.lazy_msgs.specs.declared.msg.Msg.TheVariants.{Claim}
use Rattle.lazy_msgs.specs.declared.refused.EventRefused.TheVariants.{Backward, Crashed, NotYet, Wide}
use Rattle.lazy_msgs.specs.Step.{Row}
use Rattle.lazy_rules.specs.Rows.{has_node}
use Rattle.lazy_rules.specs.WorldRules.{after, refusal, message_at, ids_at, delivery_refused, delivery_to_refused, range_refused, step_refused_at}
use Rattle.lazy_rules.specs.WorldState.{WorldState}
use Rattle.world_facts.specs.Turns.{IsMail}
use Rattle.diary_laws.specs.Nodes.{NodeState}
use Rattle.diary_laws.proofs.worlds.Did.{Did, bare}

-- the event is the delivery of a message that is this envelope but its time
pub record IsHeard (w : WorldState) (envelope : Envelope) (event : WorldEvent) : Type 0 where
  pub number : ℕ
  pub found : Envelope
  pub there : message_at w number ≡ Some found
  pub like : bare found ≡ bare envelope
  pub mail : IsMail envelope.msg
  pub is : event ≡ Deliver number

-- the event is the peek of a message that claims this much, and its sender has these identities now
pub record IsLooked (w : WorldState) (client stable from : ℕ) (ids : List Identity) (event : WorldEvent) : Type 0 where
  pub number : ℕ
  pub found : Envelope
  pub there : message_at w number ≡ Some found
  pub says : found.msg ≡ Claim stable
  pub has : ids_at w from (from + length ids) (node_of w.shape found.from) ≡ ids
  pub few : length ids ≤ READ_LIMIT
  pub within : from + length ids ≤ stable
  pub is : event ≡ PeekEvent client number from (from + length ids)

abbrev pub IsReady : WorldState → ℕ → Input → WorldEvent → Type 0
IsReady w me (Take envelope) event = IsHeard w envelope event × (envelope.to ≡ me)
IsReady w me (Peek stable time replica from ids) event = IsLooked w me stable from ids event
IsReady w me (Post bytes) event = event ≡ PostEvent me bytes
IsReady w me (Ask ask) event = event ≡ AskEvent me ask
IsReady w me (Trim floor) event = event ≡ TrimEvent me floor
IsReady w me (Suspect other) event = event ≡ SuspectEvent other
IsReady w me Tick event = event ≡ TickEvent me
IsReady w me Grace event = event ≡ GraceEvent me
IsReady w me Crash event = event ≡ CrashEvent me

-- whom an input takes away
abbrev pub gone_by : ℕ → Input → List ℕ
gone_by me Crash = me ∷ []
gone_by me _ = []

-- the event isn't refused, and is this row
pub record Acts (shape : Dimensions) (w : WorldState) (me : ℕ) (row : Row NodeState) (gone : List ℕ) (event : WorldEvent) : Type 0 where
  pub free : refusal w event ≡ None
  pub did : Did shape w (after w event) me row gone

module _ (shape : Dimensions) (w : WorldState) where
  pub acts_by : (me : ℕ) (row : Row NodeState) (gone : List ℕ) (event : WorldEvent) → refusal w event ≡ None → (next : WorldState) → after w event ≡ next → Did shape w next me row gone → Acts shape w me row gone event
  acts_by me row gone event free next is did = record { free = free; did = subst (λ (v : WorldState). Did shape w v me row gone) (sym is) did }

  pub step_free : (me : ℕ) (role : Node) → node_of w.shape me ≡ Some role → has_node w.crashed me ≡ false → step_refused_at w me (node_of w.shape me) ≡ None
  step_free me role is alive = ap (step_refused_at w me) is ∙ ap (λ (b : Bool). if b then Some (Crashed me) else None) alive

  mail_free : (k to : ℕ) (msg : Msg) → IsMail msg → has_node w.crashed to ≡ false → delivery_to_refused w k to msg ≡ None
  mail_free k to (Claim stable) mail alive = absurd mail
  mail_free k to _ mail alive = ap (λ (b : Bool). if b then Some (Crashed to) else None) alive

  pub heard_free : (me : ℕ) (envelope : Envelope) (event : WorldEvent) (h : IsHeard w envelope event) → envelope.to ≡ me → has_node w.crashed me ≡ false → delivery_refused w h.number (message_at w h.number) ≡ None
  heard_free me envelope event h own alive =
      let to : h.found.to ≡ me = ap (λ (t : ℕ × ℕ × Msg). t.1) h.like ∙ own in
      let msg : h.found.msg ≡ envelope.msg = ap (λ (t : ℕ × ℕ × Msg). t.2) h.like in
      ap (delivery_refused w h.number) h.there
      ∙ ap (λ (n : ℕ). delivery_to_refused w h.number n h.found.msg) to
      ∙ mail_free h.number me h.found.msg (subst IsMail (sym msg) h.mail) alive

  pub range_free : (from count stable : ℕ) → count ≤ READ_LIMIT → from + count ≤ stable → range_refused from (from + count) stable ≡ None
  range_free from count stable few within =
      let forward : nat_lt (from + count) from ≡ false = le-ltb (from + count) from (omega arith) in
      let narrow : nat_lt READ_LIMIT (from + count - from) ≡ false = le-ltb READ_LIMIT (from + count - from) (omega arith) in
      let reached : nat_lt stable (from + count) ≡ false = le-ltb stable (from + count) within in
      ap (λ (b : Bool). if b then Some Backward else (if nat_lt READ_LIMIT (from + count - from) then Some Wide else (if nat_lt stable (from + count) then Some (NotYet stable) else None))) forward
      ∙ ap (λ (b : Bool). if b then Some Wide else (if nat_lt stable (from + count) then Some (NotYet stable) else None)) narrow
      ∙ ap (λ (b : Bool). if b then Some (NotYet stable) else None) reached
