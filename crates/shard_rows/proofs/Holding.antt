-- Data that is held: it is there, and no cell awaits it.
use Rattle.std.proofs.Common.{◌≡◌, ◌≢◌, ℕ, List, [], ◌∷◌, ◌++◌, Bool, Some, None, ◌⊎◌, inl, refl, sym, ◌∙◌, arith, true, false}
use Rattle.std.specs.Prelude.{◌||◌, if◌then◌else◌, slice_get}
use Rattle.std.specs.List.{list_any}
use Rattle.std.specs.Option.{is_some}
use Rattle.list_facts.specs.Lists.{In}
use Rattle.list_facts.proofs.Cases.{either}
use Rattle.list_facts.proofs.Members.{each_append}
use Rattle.rec_id.specs.Identity.{Identity, same_id}
use Rattle.rec_id.specs.declared.event.Event.TheVariants.{Invoke}
use Rattle.rec_id.specs.declared.item.Body.TheVariants.{Open}
use Rattle.rec_id.specs.declared.item.Cell.{Cell}
use Rattle.view_config.specs.Shape.{Dimensions}
use Rattle.view_config.specs.declared.edition.Mode.TheVariants.{M, St}
use Rattle.lazy_rules.specs.ShardRules.{with_store}
use Rattle.lazy_rules.specs.ShardState.{ShardState}
use Rattle.lazy_rules.specs.Store.{Store, has, has_data, held_bytes, hold, is_cell_of}
use Rattle.log_facts.specs.Ghosts.{Ghost, Given}
use Rattle.log_facts.specs.Good.{Moment}
use Rattle.log_facts.specs.Parts.{Parts}
use Rattle.log_facts.specs.Says.{PutSays}
use Rattle.log_facts.proofs.Identities.{is_same, same_is}
use Rattle.shard_rows.proofs.Deciding.{IsNewlyGiven}
use Rattle.shard_rows.proofs.Storing.{Stores}

abbrev Held : Type 0
Held = List (Identity × List ℕ)

-- ---- what is held with one more
held_more : (held more : Held) (id : Identity) → is_some (held_bytes held id) ≡ true → is_some (held_bytes (held ++ more) id) ≡ true
held_more [] more id h = let wrong : false ≡ true = h in cc
held_more (one ∷ others) more id h = by (λ k. held_more others more id k) (same_id one.0 id) h
  where
    by : (is_some (held_bytes others id) ≡ true → is_some (held_bytes (others ++ more) id) ≡ true) → (b : Bool) → is_some (if b then Some one.1 else held_bytes others id) ≡ true → is_some (if b then Some one.1 else held_bytes (others ++ more) id) ≡ true
    by rest true h = refl
    by rest false h = rest h

held_last : (held : Held) (id : Identity) (bytes : List ℕ) → is_some (held_bytes (held ++ (id, bytes) ∷ []) id) ≡ true
held_last [] id bytes = rw (is_same id) refl
held_last (one ∷ others) id bytes = by (held_last others id bytes) (same_id one.0 id)
  where
    by : is_some (held_bytes (others ++ (id, bytes) ∷ []) id) ≡ true → (b : Bool) → is_some (if b then Some one.1 else held_bytes (others ++ (id, bytes) ∷ []) id) ≡ true
    by rest true = refl
    by rest false = rest

held_other : (held : Held) (id : Identity) (bytes : List ℕ) (other : Identity) → other ≢ id → held_bytes held other ≡ None → held_bytes (held ++ (id, bytes) ∷ []) other ≡ None
held_other [] id bytes other apart h = by (same_id id other) refl
  where
    by : (b : Bool) → same_id id other ≡ b → (if b then Some bytes else None) ≡ None
    by true e = absurd (apart (sym (same_is id other e)))
    by false e = refl
held_other (one ∷ others) id bytes other apart h = by (λ k. held_other others id bytes other apart k) (same_id one.0 other) h
  where
    by : (held_bytes others other ≡ None → held_bytes (others ++ (id, bytes) ∷ []) other ≡ None) → (b : Bool) → (if b then Some one.1 else held_bytes others other) ≡ None → (if b then Some one.1 else held_bytes (others ++ (id, bytes) ∷ []) other) ≡ None
    by rest true h = h
    by rest false h = rest h

or_first : (b c d : Bool) → (b ≡ true → c ≡ true) → (b || d) ≡ true → (c || d) ≡ true
or_first true c d f h = rw (f refl) refl
or_first false true d f h = refl
or_first false false d f h = h

module _ (shape : Dimensions) (g : Ghost) (a : Parts) (me : ℕ) (moment : Moment shape g a) (id : Identity) (bytes : List ℕ) (heard : PutSays shape a.history id bytes) where
  abbrev s : ShardState
  s = a.shards me

  abbrev with_held : Store
  with_held = record s.store { held = s.store.held ++ (id, bytes) ∷ [] }

  -- which acknowledgements may be made of it, and that it isn't awaited
  module _ (given : List Given) (more : (one : Given) → In one g.log.given → In one given) (fresh : (store : Store) → store.order ≡ s.store.order → has store id ≡ true → (one : Given) → In one given → In one g.log.given ⊎ IsNewlyGiven shape me (with_store s store) one) (unawaited : s.view ≡ g.views.cur → (place : ℕ) (cell : Cell) → slice_get s.store.order place ≡ Some cell → cell.body ≡ Open → cell.id ≢ id) where
    held_stores : Stores shape g a me moment given with_held
    held_stores =
        let f = moment.agreed.shards.stores me in
        let b = moment.agreed.bytes me in
        record {
          length = refl;
          places = λ place. inl refl;
          facts = record {
            mode = f.mode;
            shards = f.shards;
            shard = f.shard;
            placed = f.placed;
            floored = f.floored;
            within = f.within;
            held = λ whole. let wrong : M ≡ St = sym whole ∙ heard.apart in absurd (let no : ⊥ = cc in no);
          };
          bytes = record { cells = b.cells; held = each_append (λ (one : Identity × List ℕ). In (Invoke one.0 one.1) a.history) s.store.held ((id, bytes) ∷ []) b.held (heard.begun, tt); asked = b.asked };
          stable = omega arith;
          floor = omega arith;
          below = λ some. (moment.agreed.places.finals me some).stable;
          closed = λ some. (moment.agreed.places.finals me some).closed;
          unflushed = λ some job is. ((moment.agreed.shards.jobs me some).flush job is).stable;
          awaited = λ now place cell at opened. held_other s.store.held id bytes cell.id (unawaited now place cell at opened) (moment.agreed.shards.awaited me now place cell at opened);
          has = λ other h. or_first (is_some (held_bytes s.store.held other)) (is_some (held_bytes with_held.held other)) (list_any (is_cell_of has_data other) s.store.order) (held_more s.store.held ((id, bytes) ∷ []) other) h;
          more = more;
          fresh = fresh with_held refl (rw (held_last s.store.held id bytes) refl);
        }

    same_stores : has s.store id ≡ true → Stores shape g a me moment given s.store
    same_stores there = record {
      length = refl;
      places = λ place. inl refl;
      facts = moment.agreed.shards.stores me;
      bytes = moment.agreed.bytes me;
      stable = omega arith;
      floor = omega arith;
      below = λ some. (moment.agreed.places.finals me some).stable;
      closed = λ some. (moment.agreed.places.finals me some).closed;
      unflushed = λ some job is. ((moment.agreed.shards.jobs me some).flush job is).stable;
      awaited = moment.agreed.shards.awaited me;
      has = λ other h. h;
      more = more;
      fresh = fresh s.store refl there;
    }

    pub hold_stores : Stores shape g a me moment given (hold s.store id bytes)
    hold_stores = either (Stores shape g a me moment given) (has s.store id) s.store with_held same_stores (λ none. held_stores)
