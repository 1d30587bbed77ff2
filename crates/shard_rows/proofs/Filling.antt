-- An open cell whose data has come.
use Rattle.std.proofs.Common.{◌≡◌, ◌≢◌, ℕ, zero, suc, ◌≤◌, List, [], ◌∷◌, Bool, Option, Some, None, ◌⊎◌, inl, inr, refl, sym, ◌∙◌, ap, subst, arith, true, false, length-set}
use Rattle.std.specs.Prelude.{◌||◌, option_map, slice_get, slice_set}
use Rattle.std.specs.List.{list_any}
use Rattle.std.specs.Option.{is_some}
use Rattle.std.proofs.lemmas.Bool.{cases_eq, cases_lt, or_cases}
use Rattle.list_facts.specs.Lists.{In}
use Rattle.list_facts.proofs.Changes.{each_set, in_set}
use Rattle.list_facts.proofs.Members.{in_passes}
use Rattle.list_facts.proofs.Places.{at_in, at_set_cases, in_at}
use Rattle.rec_id.specs.Identity.{Identity}
use Rattle.rec_id.specs.declared.event.Event.TheVariants.{Invoke}
use Rattle.rec_id.specs.declared.item.Body.{Body}
use Rattle.rec_id.specs.declared.item.Body.TheVariants.{Kept, Open}
use Rattle.rec_id.specs.declared.item.Cell.{Cell}
use Rattle.view_config.specs.Shape.{Dimensions}
use Rattle.lazy_rules.specs.Lines.{owner_of}
use Rattle.lazy_rules.specs.ShardRules.{with_store}
use Rattle.lazy_rules.specs.ShardState.{ShardState}
use Rattle.lazy_rules.specs.Store.{Store, fill, has, has_data, held_bytes, is_cell_of, with_body}
use Rattle.world_facts.specs.Members.{IsShardNode}
use Rattle.log_facts.specs.Ghosts.{Ghost, Given}
use Rattle.log_facts.specs.Good.{Moment}
use Rattle.log_facts.specs.Handed.{BodyPlaced, CellBegun, CellFloored, CellPlaced}
use Rattle.log_facts.specs.Parts.{Parts, home_of}
use Rattle.log_facts.specs.Says.{PutSays}
use Rattle.log_facts.specs.Signs.{Filled, Lacking, Sign, Sort, Void, sign_of}
use Rattle.log_facts.specs.facts.OfData.{AwaitedFacts, DataFacts, IsVoidAt}
use Rattle.log_facts.specs.facts.OfShards.{StoreFacts}
use Rattle.log_facts.proofs.Places.{each_from_first}
use Rattle.shard_rows.proofs.Deciding.{IsNewlyGiven, StaysOrDecided}
use Rattle.shard_rows.proofs.Finding.{any_in, cell_of, is_of}
use Rattle.shard_rows.proofs.Handing.{stable_final}
use Rattle.shard_rows.proofs.Placing.{at_first}
use Rattle.shard_rows.proofs.Settling.{there}
use Rattle.shard_rows.proofs.Storing.{Stores}

set_own : {A : Type 0} (xs : List A) (i : ℕ) (y x : A) → slice_get xs i ≡ Some x → slice_get (slice_set xs i y) i ≡ Some y
set_own [] i y x h = cc
set_own (z ∷ zs) zero y x h = refl
set_own (z ∷ zs) (suc i) y x h = set_own zs i y x h

set_other : {A : Type 0} (xs : List A) (i : ℕ) (y : A) (j : ℕ) → j ≢ i → slice_get (slice_set xs i y) j ≡ slice_get xs j
set_other [] i y j apart = refl
set_other (z ∷ zs) zero y zero apart = absurd (apart refl)
set_other (z ∷ zs) zero y (suc j) apart = refl
set_other (z ∷ zs) (suc i) y zero apart = refl
set_other (z ∷ zs) (suc i) y (suc j) apart = set_other zs i y j (λ same. apart (ap suc same))

abbrev sort_in : Option Sign → Sort
sort_in None = Filled
sort_in (Some sign) = sign.sort

-- data that is there is no no-op
differ : (o : Option Sign) (one other : Identity) → o ≡ Some (record { id = one; sort = Filled }) → o ≡ Some (record { id = other; sort = Void }) → ⊥
differ o one other filled void = let wrong : Filled ≡ Void = sym (ap sort_in filled) ∙ ap sort_in void in cc

or_right : (b c : Bool) → c ≡ true → (b || c) ≡ true
or_right true c h = refl
or_right false c h = h

module _ (shape : Dimensions) (g : Ghost) (a : Parts) (me : ℕ) (moment : Moment shape g a) (node : IsShardNode shape me) (id : Identity) (bytes : List ℕ) (heard : PutSays shape a.history id bytes) where
  abbrev s : ShardState
  s = a.shards me

  some : 1 ≤ s.view
  some = there shape g a me moment node

  abbrev pub new_given : Given
  new_given = record { node = me; view = s.view; id = id }

  -- the open cell of the record, of which there is no no-op
  module _ (place : ℕ) (cell : Cell) (at : slice_get s.store.order place ≡ Some cell) (named : cell.id ≡ id) (opened : cell.body ≡ Open) (unvoid : (other : ℕ) → ¬ IsVoidAt s id other) where
    abbrev filled : Cell
    filled = record { id = cell.id; body = Kept bytes }

    abbrev order : List Cell
    order = slice_set s.store.order place filled

    abbrev store : Store
    store = record s.store { order = order }

    lacks : option_map sign_of (slice_get s.store.order place) ≡ Some (record { id = cell.id; sort = Lacking })
    lacks = ap (option_map sign_of) at ∙ ap (λ (body : Body). Some (sign_of (record { id = cell.id; body = body }))) opened

    unstable : s.store.stable ≤ place
    unstable = elim (cases_lt place s.store.stable) [
      | inl lt ↦ absurd ((moment.agreed.places.finals me some).decided place (record { id = cell.id; sort = Lacking }) (stable_final shape g a me moment some place lt) lacks refl)
      | inr le ↦ le
    ]

    decides : (other : ℕ) → StaysOrDecided s (with_store s store) other
    decides other = elim (cases_eq other place) [
      | inl same ↦ inr (record {
        id = cell.id;
        sort = Filled;
        some = λ wrong. cc;
        was = ap (λ (n : ℕ). option_map sign_of (slice_get s.store.order n)) same ∙ lacks;
        now = ap (λ (n : ℕ). option_map sign_of (slice_get order n)) same ∙ ap (option_map sign_of) (set_own s.store.order place filled cell at);
      })
      | inr apart ↦ inl (ap (option_map sign_of) (set_other s.store.order place filled other apart))
    ]

    facts : StoreFacts shape me store
    facts =
        let f = moment.agreed.shards.stores me in
        let within = f.within in
        let behind = unstable in
        record {
          mode = f.mode;
          shards = f.shards;
          shard = f.shard;
          placed = at_first (CellPlaced shape (home_of me)) order (λ k x h. elim (at_set_cases s.store.order place filled k x h) [
            | inl own ↦
                let was : BodyPlaced shape (home_of me) (owner_of shape place cell.id) Open = subst (BodyPlaced shape (home_of me) (owner_of shape place cell.id)) opened (each_from_first (CellPlaced shape (home_of me)) s.store.order f.placed place cell at) in
                subst (λ (c : Cell). CellPlaced shape (home_of me) k c) (sym own.1) (subst (λ (n : ℕ). owner_of shape n cell.id ≡ home_of me) (sym own.0) was.0)
            | inr other ↦ each_from_first (CellPlaced shape (home_of me)) s.store.order f.placed k x other.1
          ]);
          floored = at_first (CellFloored s.store.floor) order (λ k x h. elim (at_set_cases s.store.order place filled k x h) [
            | inl own ↦ let same = own.0 in let above : s.store.floor ≤ k = omega arith in subst (λ (c : Cell). CellFloored s.store.floor k c) (sym own.1) above
            | inr other ↦ each_from_first (CellFloored s.store.floor) s.store.order f.floored k x other.1
          ]);
          within = f.within;
          held = f.held;
        }

    data_facts : DataFacts a.history store
    data_facts =
        let b = moment.agreed.bytes me in
        record {
          cells = each_set (CellBegun a.history) s.store.order place filled b.cells (subst (λ (x : Identity). In (Invoke x bytes) a.history) (sym named) heard.begun);
          held = b.held;
          asked = b.asked;
        }

    awaited : AwaitedFacts g.views (with_store s store)
    awaited now other x h open_now = elim (at_set_cases s.store.order place filled other x h) [
      | inl own ↦ let wrong : Kept bytes ≡ Open = sym (ap (λ (c : Cell). c.body) own.1) ∙ open_now in absurd (let no : ⊥ = cc in no)
      | inr old ↦ moment.agreed.shards.awaited me now other x old.1 open_now
    ]

    -- data that is there stays
    stays_there : (other : Identity) → list_any (is_cell_of has_data other) s.store.order ≡ true → list_any (is_cell_of has_data other) order ≡ true
    stays_there other h =
        let one = in_passes (is_cell_of has_data other) s.store.order h in
        let place_of = at_in s.store.order one.0 one.1 in
        elim (cases_eq place_of.0 place) [
          | inl same ↦
              let both : Some (one.0) ≡ Some cell = sym place_of.1 ∙ ap (slice_get s.store.order) same ∙ at in
              let is : one.0 ≡ cell = cc in
              let wrong : true ≡ false = sym (cell_of has_data other one.0 one.2).1 ∙ ap (λ (c : Cell). has_data c.body) is ∙ ap has_data opened in
              absurd (let no : ⊥ = cc in no)
          | inr apart ↦ any_in (is_cell_of has_data other) order one.0 (in_at order place_of.0 one.0 (set_other s.store.order place filled place_of.0 apart ∙ place_of.1)) one.2
        ]

    has_kept : (other : Identity) → has s.store other ≡ true → has store other ≡ true
    has_kept other h = elim (or_cases (is_some (held_bytes s.store.held other)) (list_any (is_cell_of has_data other) s.store.order) h) [
      | inl held ↦ rw held refl
      | inr kept ↦ or_right (is_some (held_bytes s.store.held other)) (list_any (is_cell_of has_data other) order) (stays_there other kept)
    ]

    has_now : has store id ≡ true
    has_now = or_right (is_some (held_bytes s.store.held id)) (list_any (is_cell_of has_data id) order)
        (any_in (is_cell_of has_data id) order filled (in_set s.store.order place filled cell at) (is_of has_data id filled named refl))

    unvoid_now : (other : ℕ) → ¬ IsVoidAt (with_store s store) id other
    unvoid_now other void = elim (cases_eq other place) [
      | inl same ↦
          let now : option_map sign_of (slice_get order other) ≡ Some (record { id = cell.id; sort = Filled }) = ap (λ (n : ℕ). option_map sign_of (slice_get order n)) same ∙ ap (option_map sign_of) (set_own s.store.order place filled cell at) in
          differ (option_map sign_of (slice_get order other)) cell.id id now void
      | inr apart ↦ unvoid other (sym (ap (option_map sign_of) (set_other s.store.order place filled other apart)) ∙ void)
    ]

    fresh : (one : Given) → In one (new_given ∷ g.log.given) → In one g.log.given ⊎ IsNewlyGiven shape me (with_store s store) one
    fresh one (inl is) = inr (subst (IsNewlyGiven shape me (with_store s store)) is (record { apart = heard.apart; own = refl; now = refl; some = some; has = has_now; unvoid = unvoid_now }))
    fresh one (inr i) = inl i

    set_stores : Stores shape g a me moment (new_given ∷ g.log.given) store
    set_stores = record {
      length = length-set s.store.order place filled;
      places = decides;
      facts = facts;
      bytes = data_facts;
      stable = omega arith;
      floor = omega arith;
      below = λ some. (moment.agreed.places.finals me some).stable;
      closed = λ some. (moment.agreed.places.finals me some).closed;
      unflushed = λ some job is. ((moment.agreed.shards.jobs me some).flush job is).stable;
      awaited = awaited;
      has = has_kept;
      more = λ one i. inr i;
      fresh = fresh;
    }

    pub fill_stores : Stores shape g a me moment (new_given ∷ g.log.given) (fill s.store place bytes)
    fill_stores = subst (λ (o : Option Cell). Stores shape g a me moment (new_given ∷ g.log.given) (record s.store { order = with_body s.store.order place (Kept bytes) o })) (sym at) set_stores
