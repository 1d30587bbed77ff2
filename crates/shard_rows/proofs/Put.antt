-- Put at a shard replica: data that came too late is rejected; other data fills its open cell, or is held.
use Rattle.std.proofs.Common.{◌≡◌, ◌≢◌, ℕ, ◌<◌, ◌≤◌, List, [], ◌∷◌, Some, None, ◌⊎◌, inl, inr, refl, sym, ◌∙◌, ap, subst, arith, true}
use Rattle.std.specs.Prelude.{nat_lt, option_map, slice_get}
use Rattle.std.specs.Option.{option_map_or}
use Rattle.std.proofs.lemmas.Bool.{ltb-true}
use Rattle.list_facts.specs.Lists.{In}
use Rattle.list_facts.proofs.Cases.{either, some_or_none}
use Rattle.list_facts.proofs.Distinctness.{distinct_place}
use Rattle.list_facts.proofs.Puts.{put_same}
use Rattle.rec_id.specs.Identity.{Identity, shard_of}
use Rattle.rec_id.specs.declared.item.Body.{Body}
use Rattle.rec_id.specs.declared.item.Body.TheVariants.{Noop, Open}
use Rattle.rec_id.specs.declared.item.Cell.{Cell}
use Rattle.view_config.specs.declared.edition.Mode.{Mode}
use Rattle.view_config.specs.declared.edition.Mode.TheVariants.{St}
use Rattle.view_config.specs.Shape.{Dimensions}
use Rattle.lazy_msgs.specs.declared.msg.Msg.TheVariants.{DataAck, Rejected}
use Rattle.lazy_rules.specs.Lines.{owner_of}
use Rattle.lazy_rules.specs.Pushing.{pushes_above}
use Rattle.lazy_rules.specs.Rows.{answers, stays}
use Rattle.lazy_rules.specs.ShardRules.{fills, finds_noop, holds, on_put, with_store}
use Rattle.lazy_rules.specs.ShardState.{ShardState}
use Rattle.lazy_rules.specs.Store.{Store, fill, has, hold, is_cell_of, is_noop, is_open, noop_at, open_at}
use Rattle.world_facts.specs.Members.{IsShardNode}
use Rattle.log_facts.specs.Finality.{IsFinal}
use Rattle.log_facts.specs.Ghosts.{Ghost, Given}
use Rattle.log_facts.specs.Good.{GoodShard, Moment}
use Rattle.log_facts.specs.Handed.{BodyPlaced, CellPlaced}
use Rattle.log_facts.specs.Parts.{Parts, home_of}
use Rattle.log_facts.specs.Says.{PutSays, RejectedSays}
use Rattle.log_facts.specs.Signs.{sign_of}
use Rattle.log_facts.specs.facts.OfData.{IsVoidAt}
use Rattle.log_facts.proofs.Places.{each_from_first}
use Rattle.shard_rows.proofs.Bookkeeping.{sends_good}
use Rattle.shard_rows.proofs.Deciding.{IsNewlyGiven}
use Rattle.shard_rows.proofs.Filling.{fill_stores, new_given}
use Rattle.shard_rows.proofs.Finding.{cell_of, found_at, no_open, no_void, noop_is, open_is}
use Rattle.shard_rows.proofs.Handing.{stable_final}
use Rattle.shard_rows.proofs.Holding.{hold_stores}
use Rattle.shard_rows.proofs.Joining.{followed_good, part_good}
use Rattle.shard_rows.proofs.Pushing.{pushes_above_part}
use Rattle.shard_rows.proofs.Settling.{there}
use Rattle.shard_rows.proofs.Storing.{stores_formed, stores_good}

-- where data goes apart a place belongs to the shard of its record
owner_apart : (shape : Dimensions) (place : ℕ) (id : Identity) → shape.mode ≡ St → owner_of shape place id ≡ shard_of id shape.shards
owner_apart shape place id apart = ap (λ (mode : Mode). owner_of (record shape { mode = mode }) place id) apart

module _ (shape : Dimensions) (g : Ghost) (a : Parts) (me : ℕ) (moment : Moment shape g a) (node : IsShardNode shape me) (sender : ℕ) (id : Identity) (bytes : List ℕ) (heard : PutSays shape a.history id bytes) where
  abbrev s : ShardState
  s = a.shards me

  some : 1 ≤ s.view
  some = there shape g a me moment node

  -- ---- the record became a no-op
  module _ (place : ℕ) (cell : Cell) (at : slice_get s.store.order place ≡ Some cell) (named : cell.id ≡ id) (noop : cell.body ≡ Noop) where
    void : IsVoidAt s id place
    void = ap (option_map sign_of) at ∙ ap (λ (x : Identity). Some (sign_of (record { id = x; body = cell.body }))) named ∙ ap (λ (body : Body). Some (sign_of (record { id = id; body = body }))) noop

    rejected_says : place < s.store.stable → RejectedSays shape g.views g.log a.shards id place
    rejected_says lt =
        let mine : IsFinal g.views g.log.high s.view place = stable_final shape g a me moment some place lt in
        let low = (moment.agreed.places.finals me some).stable in
        record {
          apart = heard.apart;
          below = omega arith;
          stands = stands_by mine;
          void = λ d home beside final. sym (moment.agreed.places.among.agree me d (home_by d home) some beside place mine final) ∙ void;
        }
      where
        stands_by : IsFinal g.views g.log.high s.view place → slice_get g.log.line place ≡ Some id
        stands_by (inl live) = (moment.agreed.places.orders me some).live live.0 place id (ap (option_map (λ (c : Cell). c.id)) at ∙ ap Some named)
        stands_by (inr closed) = (moment.agreed.places.orders me some).closed closed.0 place closed.1 id (ap (option_map (λ (c : Cell). c.id)) at ∙ ap Some named)

        home_by : (d : ℕ) → home_of d ≡ shard_of id shape.shards → home_of me ≡ home_of d
        home_by d home =
            let placed : BodyPlaced shape (home_of me) (owner_of shape place cell.id) Noop = subst (BodyPlaced shape (home_of me) (owner_of shape place cell.id)) noop (each_from_first (CellPlaced shape (home_of me)) s.store.order (moment.agreed.shards.stores me).placed place cell at) in
            sym placed.0 ∙ owner_apart shape place cell.id heard.apart ∙ ap (λ (x : Identity). shard_of x shape.shards) named ∙ sym home

    -- no cell awaits its data: in the current view each record has one place
    unawaited : s.view ≡ g.views.cur → (other : ℕ) (x : Cell) → slice_get s.store.order other ≡ Some x → x.body ≡ Open → x.id ≢ id
    unawaited now other x h opened same =
        let order = moment.agreed.places.orders me some in
        let here : slice_get g.log.line place ≡ Some id = order.live now place id (ap (option_map (λ (c : Cell). c.id)) at ∙ ap Some named) in
        let beside : slice_get g.log.line other ≡ Some id = order.live now other id (ap (option_map (λ (c : Cell). c.id)) h ∙ ap Some same) in
        let alike : other ≡ place = distinct_place g.log.line moment.agreed.line.distinct other place id beside here in
        let both : Some x ≡ Some cell = sym h ∙ ap (slice_get s.store.order) alike ∙ at in
        let is : x ≡ cell = cc in
        let wrong : Open ≡ Noop = sym opened ∙ ap (λ (c : Cell). c.body) is ∙ noop in
        absurd (let no : ⊥ = cc in no)

    finds_good : GoodShard shape g a me (finds_noop s sender id bytes place)
    finds_good = either (GoodShard shape g a me) (nat_lt place s.store.stable) (answers s sender (Rejected id place)) (stays (with_store s (hold s.store id bytes)))
        (λ e. sends_good shape g a me moment ((sender, Rejected id place) ∷ []) (subst (λ (f : ℕ → ShardState). RejectedSays shape g.views g.log f id place) (sym (put_same a.shards me)) (rejected_says (ltb-true place s.store.stable e)), tt))
        (λ e. stores_good shape g a me moment g.log.given (hold s.store id bytes)
        (hold_stores shape g a me moment id bytes heard g.log.given (λ one i. i) (λ store same stored one i. inl i) unawaited) [] tt)

  -- ---- it is acknowledged
  abbrev given : List Given
  given = new_given shape g a me moment node id bytes heard ∷ g.log.given

  module _ (none : noop_at s.store id ≡ None) where
    fills_good : (place : ℕ) → open_at s.store id ≡ Some place → GoodShard shape g a me (fills s sender id bytes place)
    fills_good place is =
        let found = found_at (is_cell_of is_open id) s.store.order place is in
        let its = cell_of is_open id found.0 found.2 in
        let stores = fill_stores shape g a me moment node id bytes heard place found.0 found.1 its.0 (open_is (found.0).body its.1) (no_void s id none) in
        followed_good shape g a me moment (answers (with_store s (fill s.store place bytes)) sender (DataAck s.view id))
        (stores_good shape g a me moment given (fill s.store place bytes) stores ((sender, DataAck s.view id) ∷ []) (inl refl, tt))
        (stores_formed shape g a me moment given (fill s.store place bytes) stores)
        (λ after. pushes_above after place)
        (λ h b begins own. part_good shape h b me (pushes_above (b.shards me) place) (pushes_above_part shape me node h b begins place))

    -- a store with this order, that has the data
    fresh : (store : Store) → store.order ≡ s.store.order → has store id ≡ true → (one : Given) → In one given → In one g.log.given ⊎ IsNewlyGiven shape me (with_store s store) one
    fresh store same stored one (inl is) = inr (subst (IsNewlyGiven shape me (with_store s store)) is (record {
      apart = heard.apart;
      own = refl;
      now = refl;
      some = some;
      has = stored;
      unvoid = λ place void. no_void s id none place (sym (ap (λ (order : List Cell). option_map sign_of (slice_get order place)) same) ∙ void);
    }))
    fresh store same stored one (inr i) = inl i

    holds_good : open_at s.store id ≡ None → GoodShard shape g a me (holds s sender id bytes)
    holds_good closed = stores_good shape g a me moment given (hold s.store id bytes)
        (hold_stores shape g a me moment id bytes heard given (λ one i. inr i) fresh (λ now. no_open s id closed))
        ((sender, DataAck s.view id) ∷ []) (inl refl, tt)

  pub put_good : GoodShard shape g a me (on_put s sender id bytes)
  put_good = some_or_none (GoodShard shape g a me) (finds_noop s sender id bytes) (noop_at s.store id) (option_map_or (fills s sender id bytes) (open_at s.store id) (holds s sender id bytes))
      (λ place is.
      let found = found_at (is_cell_of is_noop id) s.store.order place is in
      let its = cell_of is_noop id found.0 found.2 in
      finds_good place found.0 found.1 its.0 (noop_is (found.0).body its.1))
      (λ none. some_or_none (GoodShard shape g a me) (fills s sender id bytes) (open_at s.store id) (holds s sender id bytes)
      (λ place is. fills_good none place is)
      (λ closed. holds_good none closed))
