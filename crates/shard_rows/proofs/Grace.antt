-- Grace at a shard replica: a primary waits no longer for the data of its open cells.
use Rattle.std.proofs.Common.{◌≡◌, ◌≢◌, ℕ, ◌+◌, List, [], ◌∷◌, map, Bool, Option, Some, None, inl, inr, refl, sym, ◌∙◌, ap, arith}
use Rattle.std.specs.Prelude.{◌&&◌, ◌||◌, option_map, slice_get}
use Rattle.std.specs.List.{list_any}
use Rattle.std.specs.Option.{is_some, option_map_or}
use Rattle.std.proofs.lemmas.List.{length-map}
use Rattle.std.proofs.lemmas.Option.{slice_get-map}
use Rattle.list_facts.proofs.Cases.{either, some_or_none}
use Rattle.list_facts.proofs.Members.{each_map, each_weaker}
use Rattle.rec_id.specs.Identity.{Identity, same_id}
use Rattle.rec_id.specs.declared.event.Event.{Event}
use Rattle.rec_id.specs.declared.item.Body.{Body}
use Rattle.rec_id.specs.declared.item.Body.TheVariants.{Elsewhere, Kept, Noop, Open, Gone}
use Rattle.rec_id.specs.declared.item.Cell.{Cell}
use Rattle.view_config.specs.Shape.{Dimensions}
use Rattle.lazy_rules.specs.Pushing.{pushes_above}
use Rattle.lazy_rules.specs.Rows.{stays}
use Rattle.lazy_rules.specs.ShardRules.{gives_up, on_grace, with_store}
use Rattle.lazy_rules.specs.ShardState.{ShardState}
use Rattle.lazy_rules.specs.Store.{closed, closed_cell, first_open, has_data, held_bytes, is_cell_of, open_to_noop}
use Rattle.world_facts.specs.Members.{IsShardNode}
use Rattle.log_facts.specs.Ghosts.{Ghost}
use Rattle.log_facts.specs.Good.{GoodShard, Moment}
use Rattle.log_facts.specs.Handed.{BodyBegun, BodyFloored, BodyPlaced, CellBegun, CellFloored, CellPlaced, EachFrom}
use Rattle.log_facts.specs.Parts.{Parts, home_of}
use Rattle.log_facts.specs.Signs.{Void, sign_of}
use Rattle.log_facts.specs.facts.OfData.{DataFacts}
use Rattle.log_facts.specs.facts.OfShards.{StoreFacts}
use Rattle.shard_rows.proofs.Bookkeeping.{stays_good}
use Rattle.shard_rows.proofs.Deciding.{StaysOrDecided}
use Rattle.shard_rows.proofs.Joining.{followed_good, part_good}
use Rattle.shard_rows.proofs.Pushing.{pushes_above_part}
use Rattle.shard_rows.proofs.Storing.{Stores, stores_formed, stores_good}

-- ---- bodies that are open no more
placed_closed : (shape : Dimensions) (shard owner : ℕ) (body : Body) → BodyPlaced shape shard owner body → BodyPlaced shape shard owner (closed body)
placed_closed shape shard owner Elsewhere h = h
placed_closed shape shard owner (Kept bytes) h = h
placed_closed shape shard owner Noop h = h
placed_closed shape shard owner Open h = h
placed_closed shape shard owner Gone h = h

floored_closed : (floor place : ℕ) (body : Body) → BodyFloored floor place body → BodyFloored floor place (closed body)
floored_closed floor place Elsewhere h = h
floored_closed floor place (Kept bytes) h = h
floored_closed floor place Noop h = h
floored_closed floor place Open h = h
floored_closed floor place Gone h = h

begun_closed : (history : List Event) (id : Identity) (body : Body) → BodyBegun history id body → BodyBegun history id (closed body)
begun_closed history id Elsewhere h = h
begun_closed history id (Kept bytes) h = h
begun_closed history id Noop h = h
begun_closed history id Open h = h
begun_closed history id Gone h = h

data_closed : (body : Body) → has_data (closed body) ≡ has_data body
data_closed Elsewhere = refl
data_closed (Kept bytes) = refl
data_closed Noop = refl
data_closed Open = refl
data_closed Gone = refl

never_open : (body : Body) → closed body ≢ Open
never_open Elsewhere e = cc
never_open (Kept bytes) e = cc
never_open Noop e = cc
never_open Open e = cc
never_open Gone e = cc

order_data : (order : List Cell) (id : Identity) → list_any (is_cell_of has_data id) (map closed_cell order) ≡ list_any (is_cell_of has_data id) order
order_data [] id = refl
order_data (cell ∷ cells) id =
    ap (λ (b : Bool). (same_id cell.id id && b) || list_any (is_cell_of has_data id) (map closed_cell cells)) (data_closed cell.body)
    ∙ ap (λ (b : Bool). (same_id cell.id id && has_data cell.body) || b) (order_data cells id)

each_closed : (P : ℕ → Cell → Type 0) → ((place : ℕ) (cell : Cell) → P place cell → P place (closed_cell cell)) → (place : ℕ) (order : List Cell) → EachFrom P place order → EachFrom P place (map closed_cell order)
each_closed P f place [] h = tt
each_closed P f place (cell ∷ cells) h = (f place cell h.0, each_closed P f (place + 1) cells h.1)

-- an open cell becomes a no-op, and others stay
module _ (s : ShardState) (place : ℕ) where
  abbrev after : ShardState
  after = with_store s (open_to_noop s.store)

  here : (o : Option Cell) → slice_get s.store.order place ≡ o → slice_get (map closed_cell s.store.order) place ≡ option_map closed_cell o
  here o e = slice_get-map closed_cell s.store.order place ∙ ap (option_map closed_cell) e

  by_body : (id : Identity) (body : Body) → slice_get s.store.order place ≡ Some (record { id = id; body = body }) → StaysOrDecided s after place
  by_body id Elsewhere e = inl (ap (option_map sign_of) (here _ e) ∙ sym (ap (option_map sign_of) e))
  by_body id (Kept bytes) e = inl (ap (option_map sign_of) (here _ e) ∙ sym (ap (option_map sign_of) e))
  by_body id Noop e = inl (ap (option_map sign_of) (here _ e) ∙ sym (ap (option_map sign_of) e))
  by_body id Gone e = inl (ap (option_map sign_of) (here _ e) ∙ sym (ap (option_map sign_of) e))
  by_body id Open e = inr (record { id = id; sort = Void; some = λ wrong. cc; was = ap (option_map sign_of) e; now = ap (option_map sign_of) (here _ e) })

  closes : StaysOrDecided s after place
  closes = by (slice_get s.store.order place) refl
    where
      by : (o : Option Cell) → slice_get s.store.order place ≡ o → StaysOrDecided s after place
      by None e = inl (ap (option_map sign_of) (here None e) ∙ sym (ap (option_map sign_of) e))
      by (Some cell) e = by_body cell.id cell.body e

module _ (shape : Dimensions) (g : Ghost) (a : Parts) (me : ℕ) (moment : Moment shape g a) (node : IsShardNode shape me) where
  abbrev s : ShardState
  s = a.shards me

  facts : StoreFacts shape me (open_to_noop s.store)
  facts =
      let f = moment.agreed.shards.stores me in
      record {
        mode = f.mode;
        shards = f.shards;
        shard = f.shard;
        placed = each_closed (CellPlaced shape (home_of me)) (λ place cell h. placed_closed shape (home_of me) _ cell.body h) 0 s.store.order f.placed;
        floored = each_closed (CellFloored s.store.floor) (λ place cell h. floored_closed s.store.floor place cell.body h) 0 s.store.order f.floored;
        within = f.within;
        held = f.held;
      }

  bytes : DataFacts a.history (open_to_noop s.store)
  bytes =
      let b = moment.agreed.bytes me in
      record {
        cells = each_map closed_cell (CellBegun a.history) s.store.order (each_weaker (CellBegun a.history) (λ (cell : Cell). CellBegun a.history (closed_cell cell)) (λ cell h. begun_closed a.history cell.id cell.body h) s.store.order b.cells);
        held = b.held;
        asked = b.asked;
      }

  -- no cell of it is open
  none_awaited : (cells : List Cell) (place : ℕ) (cell : Cell) → slice_get (map closed_cell cells) place ≡ Some cell → cell.body ≢ Open
  none_awaited cells place cell at opened = by (slice_get cells place) (sym (slice_get-map closed_cell cells place) ∙ at)
    where
      by : (o : Option Cell) → option_map closed_cell o ≡ Some cell → ⊥
      by None e = cc
      by (Some old) e = let is : closed_cell old ≡ cell = let both : Some (closed_cell old) ≡ Some cell = e in cc in never_open old.body (ap (λ (c : Cell). c.body) is ∙ opened)

  stores : Stores shape g a me moment g.log.given (open_to_noop s.store)
  stores = record {
    length = length-map s.store.order closed_cell;
    places = λ place. closes s place;
    facts = facts;
    bytes = bytes;
    stable = omega arith;
    floor = omega arith;
    below = λ some. (moment.agreed.places.finals me some).stable;
    closed = λ some. (moment.agreed.places.finals me some).closed;
    unflushed = λ some job is. ((moment.agreed.shards.jobs me some).flush job is).stable;
    awaited = λ now place cell at opened. absurd (none_awaited s.store.order place cell at opened);
    has = λ id h. ap (λ (b : Bool). is_some (held_bytes s.store.held id) || b) (order_data s.store.order id) ∙ h;
    more = λ one i. i;
    fresh = λ one i. inl i;
  }

  abbrev given_up : ShardState
  given_up = with_store s (open_to_noop s.store)

  gives_up_good : (place : ℕ) → GoodShard shape g a me (gives_up s place)
  gives_up_good place = followed_good shape g a me moment (stays given_up)
      (stores_good shape g a me moment g.log.given (open_to_noop s.store) stores [] tt)
      (stores_formed shape g a me moment g.log.given (open_to_noop s.store) stores)
      (λ after. pushes_above after place)
      (λ h b begins own. part_good shape h b me (pushes_above (b.shards me) place) (pushes_above_part shape me node h b begins place))

  pub grace_good : GoodShard shape g a me (on_grace s)
  grace_good =
      let stayed : GoodShard shape g a me (stays s) = stays_good shape g a me moment in
      either (GoodShard shape g a me) s.primary (option_map_or (gives_up s) (first_open s.store) (stays s)) (stays s)
      (λ e. some_or_none (GoodShard shape g a me) (gives_up s) (first_open s.store) (stays s) (λ place is. gives_up_good place) (λ none. stayed))
      (λ e. stayed)
