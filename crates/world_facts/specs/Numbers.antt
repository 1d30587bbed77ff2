use Rattle.lazy_msgs.specs.declared.msg.Msg.{Msg}
use Rattle.lazy_msgs.specs.declared.msg.Msg.TheVariants.{Flush, FlushCopy}
use Rattle.lazy_rules.specs.ReaderState.{ReaderState, Fetch, Stage, Fetching}
use Rattle.lazy_msgs.specs.declared.limits.TheConstants.{BATCH_LIMIT, PENDING_LIMIT}
use Rattle.lazy_rules.specs.ClientState.{ClientState}
use Rattle.lazy_rules.specs.ControlState.{ControlState, Flushing, Taken, newest}
use Rattle.list_facts.specs.Lists.{Each}
use Rattle.lazy_rules.specs.SeqState.{SeqState}
use Rattle.lazy_rules.specs.ShardState.{ShardState}
use Rattle.lazy_rules.specs.WorldState.{WorldState}
use Rattle.lazy_rules.specs.ControlRules.{has_base}
use Rattle.lazy_rules.specs.ReaderRules.{has_number}
use Rattle.lazy_rules.specs.ShardRules.{has_places}
use Rattle.lazy_rules.specs.SeqRules.{has_positions}
use Rattle.lazy_rules.specs.Pushing.{length_of}
use Rattle.std.specs.Prelude.{nat_lt, slice_get, ◌==◌, length, ◌≡◌, ◌+◌, ◌≤◌, ◌^◌, ◌-◌, true, false, Some, ℕ}

-- Which numbers of 32 bits a row may want, and that there are such.

-- how often a fetch asked again
abbrev pub turn_of : Stage → ℕ
turn_of (Fetching fetch) = fetch.turn
turn_of _ = 0

-- what is counted after so many events
pub record ClientCounts (n : ℕ) (s : ClientState) : Type 0 where
  pub next : s.next ≤ n + 1

pub record ReaderCounts (n : ℕ) (r : ReaderState) : Type 0 where
  pub reads : r.count ≤ n
  pub turn : turn_of r.stage ≤ n

pub record ControlCounts (n : ℕ) (k : ControlState) : Type 0 where
  pub view : (newest k).view ≤ n + 1

-- a message that cuts an order and goes on from there leads to a length of 32 bits
abbrev pub PlacesCount : Msg → Type 0
PlacesCount (Flush config from items) = has_places from (length items) ≡ true
PlacesCount (FlushCopy view from cells) = has_places from (length cells) ≡ true
PlacesCount _ = Unit {0}

-- each number that a row wants next is one of 32 bits: of an append, of a read or trim, of a fetch's turn, of a view,
-- of a view's base, of a leader's and a follower's positions, of a shard replica's places
pub record HasNumbers (w : WorldState) : Type 0 where
  pub clients : (c : ℕ) (s : ClientState) → slice_get w.clients c ≡ Some s → (s.next == 2 ^ 32 - 1) ≡ false
  pub readers : (c : ℕ) (r : ReaderState) → slice_get w.readers c ≡ Some r → has_number r ≡ true
  pub turns : (c : ℕ) (r : ReaderState) → slice_get w.readers c ≡ Some r → (fetch : Fetch) → r.stage ≡ Fetching fetch → nat_lt (fetch.turn + 1) (2 ^ 32) ≡ true
  pub views : nat_lt ((newest w.control).view + 1) (2 ^ 32) ≡ true
  pub bases : (taken : Taken) → w.control.phase ≡ Flushing taken → has_base taken ≡ true
  pub leaders : (i : ℕ) (s : SeqState) → slice_get w.seqs i ≡ Some s → has_positions s ≡ true
  pub followers : (i : ℕ) (s : SeqState) → slice_get w.seqs i ≡ Some s → (count : ℕ) → count ≤ BATCH_LIMIT → nat_lt (s.bound + count) (2 ^ 32) ≡ true
  pub shards : (k : ℕ) (s : ShardState) → slice_get w.shards k ≡ Some s → (count : ℕ) → count ≤ PENDING_LIMIT → has_places (length_of s) count ≡ true
  pub sent : Each (λ e. PlacesCount e.msg) w.sent
