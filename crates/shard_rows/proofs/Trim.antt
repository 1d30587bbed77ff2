-- Trim at a shard replica: data below the floor is given up, as far as it is stable.
use Rattle.std.proofs.Common.{◌≡◌, ℕ, zero, suc, ◌<◌, ◌≤◌, List, [], ◌∷◌, ◌++◌, drop, length, map, take, max, Bool, Some, None, ◌⊎◌, inl, inr, refl, sym, ◌∙◌, ap, subst, arith}
use Rattle.std.specs.Prelude.{◌&&◌, ◌||◌, nat_le, slice_get}
use Rattle.std.specs.List.{list_any}
use Rattle.std.specs.Option.{is_some}
use Rattle.std.proofs.lemmas.Bool.{cases_lt, leb-true}
use Rattle.list_facts.specs.Lists.{put}
use Rattle.list_facts.proofs.Cases.{either}
use Rattle.list_facts.proofs.Places.{each_at}
use Rattle.list_facts.proofs.Puts.{put_own}
use Rattle.rec_id.specs.Identity.{Identity, same_id}
use Rattle.rec_id.specs.declared.event.Event.{Event}
use Rattle.rec_id.specs.declared.item.Body.{Body}
use Rattle.rec_id.specs.declared.item.Body.TheVariants.{Elsewhere, Kept, Noop, Open, Gone}
use Rattle.rec_id.specs.declared.item.Cell.{Cell}
use Rattle.view_config.specs.Shape.{Dimensions}
use Rattle.lazy_msgs.specs.declared.msg.Msg.TheVariants.{TrimAck}
use Rattle.lazy_rules.specs.Rows.{answers, stays}
use Rattle.lazy_rules.specs.ShardRules.{on_trim, with_store}
use Rattle.lazy_rules.specs.ShardState.{ShardState}
use Rattle.lazy_rules.specs.Store.{given_up, given_up_cell, has_data, held_bytes, is_cell_of, trim}
use Rattle.log_facts.specs.Ghosts.{Ghost}
use Rattle.log_facts.specs.Good.{GoodShard, Moment}
use Rattle.log_facts.specs.Handed.{BodyBegun, BodyFloored, BodyPlaced, CellBegun, CellFloored, CellPlaced}
use Rattle.log_facts.specs.Parts.{Parts, home_of}
use Rattle.log_facts.specs.Past.{IsTrimAsked}
use Rattle.log_facts.specs.Says.{TrimAckSays, TrimSays}
use Rattle.log_facts.specs.Signs.{sign_in, sort_of}
use Rattle.log_facts.specs.facts.OfData.{AwaitedFacts, DataFacts}
use Rattle.log_facts.specs.facts.OfShards.{StoreFacts}
use Rattle.log_facts.proofs.Places.{each_from_first}
use Rattle.shard_rows.proofs.Bookkeeping.{stays_good}
use Rattle.shard_rows.proofs.Placing.{at_each, at_first}
use Rattle.shard_rows.proofs.Storing.{Stores, stores_good}

-- ---- the order with its front given up

abbrev trimmed : ℕ → List Cell → List Cell
trimmed n order = map given_up_cell (take n order) ++ drop n order

trimmed_length : (n : ℕ) (order : List Cell) → length (trimmed n order) ≡ length order
trimmed_length zero order = refl
trimmed_length (suc n) [] = refl
trimmed_length (suc n) (cell ∷ cells) = ap suc (trimmed_length n cells)

same_sort : (body : Body) → sort_of (given_up body) ≡ sort_of body
same_sort Elsewhere = refl
same_sort (Kept bytes) = refl
same_sort Noop = refl
same_sort Open = refl
same_sort Gone = refl

trimmed_sign : (n : ℕ) (order : List Cell) (place : ℕ) → sign_in (trimmed n order) place ≡ sign_in order place
trimmed_sign zero order place = refl
trimmed_sign (suc n) [] place = refl
trimmed_sign (suc n) (cell ∷ cells) zero = ap (λ (sort : _). Some (record { id = cell.id; sort = sort })) (same_sort cell.body)
trimmed_sign (suc n) (cell ∷ cells) (suc place) = trimmed_sign n cells place

-- a cell of it was given up, or stands behind
pub record IsGivenUp (n : ℕ) (order : List Cell) (place : ℕ) (cell : Cell) : Type 0 where
  pub old : Cell
  pub below : place < n
  pub stood : slice_get order place ≡ Some old
  pub is : given_up_cell old ≡ cell

trimmed_at : (n : ℕ) (order : List Cell) (place : ℕ) (cell : Cell) → slice_get (trimmed n order) place ≡ Some cell → IsGivenUp n order place cell ⊎ ((n ≤ place) × (slice_get order place ≡ Some cell))
trimmed_at zero order place cell at = inr (omega arith, at)
trimmed_at (suc n) [] place cell at = cc
trimmed_at (suc n) (first ∷ cells) zero cell at = inl (record { old = first; below = omega arith; stood = refl; is = let both : Some (given_up_cell first) ≡ Some cell = at in cc })
trimmed_at (suc n) (first ∷ cells) (suc place) cell at = elim (trimmed_at n cells place cell at) [
  | inl one ↦ let below = one.below in inl (record { old = one.old; below = omega arith; stood = one.stood; is = one.is })
  | inr behind ↦ let least = behind.0 in inr (omega arith, behind.1)
]

same_data : (body : Body) → has_data (given_up body) ≡ has_data body
same_data Elsewhere = refl
same_data (Kept bytes) = refl
same_data Noop = refl
same_data Open = refl
same_data Gone = refl

trimmed_data : (n : ℕ) (order : List Cell) (id : Identity) → list_any (is_cell_of has_data id) (trimmed n order) ≡ list_any (is_cell_of has_data id) order
trimmed_data zero order id = refl
trimmed_data (suc n) [] id = refl
trimmed_data (suc n) (cell ∷ cells) id =
    ap (λ (b : Bool). (same_id cell.id id && b) || list_any (is_cell_of has_data id) (trimmed n cells)) (same_data cell.body)
    ∙ ap (λ (b : Bool). (same_id cell.id id && has_data cell.body) || b) (trimmed_data n cells id)

-- ---- bodies
placed_given : (shape : Dimensions) (shard owner : ℕ) (body : Body) → BodyPlaced shape shard owner body → BodyPlaced shape shard owner (given_up body)
placed_given shape shard owner Elsewhere h = h
placed_given shape shard owner (Kept bytes) h = h
placed_given shape shard owner Noop h = h
placed_given shape shard owner Open h = h
placed_given shape shard owner Gone h = h

floored_given : (floor later place : ℕ) (body : Body) → floor ≤ later → place < later → BodyFloored floor place body → BodyFloored later place (given_up body)
floored_given floor later place Elsewhere rises lt h = tt
floored_given floor later place (Kept bytes) rises lt h = lt
floored_given floor later place Noop rises lt h = tt
floored_given floor later place Open rises lt h = tt
floored_given floor later place Gone rises lt h = lt

floored_behind : (floor later place : ℕ) (body : Body) → floor ≤ later → later ≤ place → BodyFloored floor place body → BodyFloored later place body
floored_behind floor later place Elsewhere rises least h = tt
floored_behind floor later place (Kept bytes) rises least h = least
floored_behind floor later place Noop rises least h = tt
floored_behind floor later place Open rises least h = tt
floored_behind floor later place Gone rises least h = omega arith

begun_given : (history : List Event) (id : Identity) (body : Body) → BodyBegun history id body → BodyBegun history id (given_up body)
begun_given history id Elsewhere h = h
begun_given history id (Kept bytes) h = record { bytes = bytes; stands = h }
begun_given history id Noop h = h
begun_given history id Open h = h
begun_given history id Gone h = h

open_given : (body : Body) → given_up body ≡ Open → body ≡ Open
open_given Elsewhere h = h
open_given (Kept bytes) h = cc
open_given Noop h = h
open_given Open h = h
open_given Gone h = h

module _ (shape : Dimensions) (g : Ghost) (a : Parts) (me : ℕ) (moment : Moment shape g a) (sender read to : ℕ) (heard : TrimSays a.history sender read to) where
  abbrev s : ShardState
  s = a.shards me

  abbrev floor : ℕ
  floor = max s.store.floor to

  abbrev order : List Cell
  order = trimmed floor s.store.order

  module _ (stable : to ≤ s.store.stable) where
    facts : StoreFacts shape me (trim s.store to)
    facts =
        let f = moment.agreed.shards.stores me in
        let within = f.within in
        record {
          mode = f.mode;
          shards = f.shards;
          shard = f.shard;
          placed = at_first (CellPlaced shape (home_of me)) order (λ k cell at. elim (trimmed_at floor s.store.order k cell at) [
            | inl one ↦ subst (CellPlaced shape (home_of me) k) one.is (placed_given shape (home_of me) _ (one.old).body (each_from_first (CellPlaced shape (home_of me)) s.store.order f.placed k one.old one.stood))
            | inr behind ↦ each_from_first (CellPlaced shape (home_of me)) s.store.order f.placed k cell behind.1
          ]);
          floored = at_first (CellFloored floor) order (λ k cell at. elim (trimmed_at floor s.store.order k cell at) [
            | inl one ↦ subst (CellFloored floor k) one.is (floored_given s.store.floor floor k (one.old).body (omega arith) one.below (each_from_first (CellFloored s.store.floor) s.store.order f.floored k one.old one.stood))
            | inr behind ↦ floored_behind s.store.floor floor k cell.body (omega arith) behind.0 (each_from_first (CellFloored s.store.floor) s.store.order f.floored k cell behind.1)
          ]);
          within = omega arith;
          held = f.held;
        }

    asked : 1 ≤ floor → IsTrimAsked a.history floor
    asked some = elim (cases_lt s.store.floor to) [
      | inl lt ↦ record { client = sender; read = read; asked = to; stands = heard; at_least = omega arith }
      | inr le ↦
          let same : s.store.floor ≡ floor = omega arith in
          subst (IsTrimAsked a.history) same ((moment.agreed.bytes me).asked (omega arith))
    ]

    bytes : DataFacts a.history (trim s.store to)
    bytes =
        let b = moment.agreed.bytes me in
        record {
          cells = at_each (CellBegun a.history) order (λ k cell at. elim (trimmed_at floor s.store.order k cell at) [
            | inl one ↦ subst (CellBegun a.history) one.is (begun_given a.history (one.old).id (one.old).body (each_at (CellBegun a.history) s.store.order b.cells k one.old one.stood))
            | inr behind ↦ each_at (CellBegun a.history) s.store.order b.cells k cell behind.1
          ]);
          held = b.held;
          asked = asked;
        }

    awaited : AwaitedFacts g.views (with_store s (trim s.store to))
    awaited now place cell at opened = elim (trimmed_at floor s.store.order place cell at) [
      | inl one ↦
          let named : (one.old).id ≡ cell.id = ap (λ (c : Cell). c.id) one.is in
          let was : (one.old).body ≡ Open = open_given (one.old).body (ap (λ (c : Cell). c.body) one.is ∙ opened) in
          subst (λ (id : Identity). held_bytes s.store.held id ≡ None) named (moment.agreed.shards.awaited me now place one.old one.stood was)
      | inr behind ↦ moment.agreed.shards.awaited me now place cell behind.1 opened
    ]

    stores : Stores shape g a me moment g.log.given (trim s.store to)
    stores = record {
      length = trimmed_length floor s.store.order;
      places = λ place. inl (trimmed_sign floor s.store.order place);
      facts = facts;
      bytes = bytes;
      stable = omega arith;
      floor = omega arith;
      below = λ some. (moment.agreed.places.finals me some).stable;
      closed = λ some. (moment.agreed.places.finals me some).closed;
      unflushed = λ some job is. ((moment.agreed.shards.jobs me some).flush job is).stable;
      awaited = awaited;
      has = λ id h. ap (λ (b : Bool). is_some (held_bytes s.store.held id) || b) (trimmed_data floor s.store.order id) ∙ h;
      more = λ one i. i;
      fresh = λ one i. inl i;
    }

    abbrev given_up_to : ShardState
    given_up_to = with_store s (trim s.store to)

    says : TrimAckSays a.history (put a.shards me given_up_to me) sender read
    says = subst (λ (x : ShardState). TrimAckSays a.history x sender read) (sym (put_own a.shards me given_up_to)) (record { floor = to; asked = heard; given_up = omega arith })

    trims_good : GoodShard shape g a me (answers given_up_to sender (TrimAck read))
    trims_good = stores_good shape g a me moment g.log.given (trim s.store to) stores ((sender, TrimAck read) ∷ []) (says, tt)

  pub trim_good : GoodShard shape g a me (on_trim s sender read to)
  trim_good = either (GoodShard shape g a me) (nat_le to s.store.stable) (answers (with_store s (trim s.store to)) sender (TrimAck read)) (stays s)
      (λ e. trims_good (leb-true to s.store.stable e))
      (λ e. stays_good shape g a me moment)
