-- Fetch at a shard replica: what is stable is told, unless a part of what is asked was given up.
use Rattle.std.proofs.Common.{◌≡◌, ◌≢◌, ℕ, zero, suc, ◌+◌, ◌<◌, ◌≤◌, ◌-◌, List, [], ◌∷◌, ◌++◌, min, Option, Some, None, refl, sym, ◌∙◌, ap, subst, arith}
use Rattle.std.specs.Prelude.{nat_lt, option_map, slice_get, slice_range}
use Rattle.std.proofs.lemmas.Bool.{eq-eqb, ltb-false, ltb-true, ne_eqb}
use Rattle.list_facts.specs.Lists.{put}
use Rattle.list_facts.proofs.Cases.{either}
use Rattle.list_facts.proofs.Places.{each_at}
use Rattle.list_facts.proofs.Puts.{put_same}
use Rattle.rec_id.specs.Identity.{Identity}
use Rattle.rec_id.specs.declared.entry.Entry.{Entry}
use Rattle.rec_id.specs.declared.item.Body.{Body}
use Rattle.rec_id.specs.declared.item.Body.TheVariants.{Elsewhere, Kept, Noop, Open, Gone}
use Rattle.rec_id.specs.declared.item.Cell.{Cell}
use Rattle.view_config.specs.Shape.{Dimensions}
use Rattle.lazy_msgs.specs.declared.msg.Msg.TheVariants.{TrimmedAt}
use Rattle.lazy_rules.specs.ReaderRules.{entry_at}
use Rattle.lazy_rules.specs.Rows.{answers}
use Rattle.lazy_rules.specs.ShardRules.{fetched, on_fetch}
use Rattle.lazy_rules.specs.ShardState.{ShardState}
use Rattle.lazy_rules.specs.Store.{entries_from, entry_in, part, placed_entry}
use Rattle.world_facts.specs.Members.{IsShardNode}
use Rattle.log_facts.specs.Finality.{IsFinal, TellsPlace, TellsSign}
use Rattle.log_facts.specs.Ghosts.{Ghost}
use Rattle.log_facts.specs.Good.{GoodShard, Moment}
use Rattle.log_facts.specs.Handed.{BodyBegun, BodyFloored, CellBegun, CellFloored}
use Rattle.log_facts.specs.Parts.{Parts, home_of}
use Rattle.log_facts.specs.Says.{FetchSays, PartSays, TrimmedAtSays}
use Rattle.log_facts.specs.Signs.{Lacking, Sign, sign_at, sign_of}
use Rattle.log_facts.proofs.Places.{each_from_first}
use Rattle.shard_rows.proofs.Bookkeeping.{sends_good}
use Rattle.shard_rows.proofs.Handing.{range_at, stable_final}
use Rattle.shard_rows.proofs.Placing.{cell_at}
use Rattle.shard_rows.proofs.Settling.{there}

-- ---- the entry of a place in a part
entry_behind : (o : Option Entry) (others : List (ℕ × Entry)) (first place : ℕ) → first ≢ place → entry_at (placed_entry first o ++ others) place ≡ entry_at others place
entry_behind None others first place apart = refl
entry_behind (Some entry) others first place apart = rw (ne_eqb first place apart) refl

-- before the first place there is none
none_before : (first : ℕ) (cells : List Cell) (place : ℕ) → place < first → entry_at (entries_from first cells) place ≡ None
none_before first [] place lt = refl
none_before first (cell ∷ cells) place lt = entry_behind (entry_in cell.id cell.body) (entries_from (first + 1) cells) first place (omega arith) ∙ none_before (first + 1) cells place (omega arith)

own_entry : (o : Option Entry) (others : List (ℕ × Entry)) (place : ℕ) → entry_at others place ≡ None → entry_at (placed_entry place o ++ others) place ≡ o
own_entry None others place none = none
own_entry (Some entry) others place none = rw (eq-eqb place place refl) refl

entry_is : (first : ℕ) (cells : List Cell) (k : ℕ) (cell : Cell) → slice_get cells k ≡ Some cell → entry_at (entries_from first cells) (first + k) ≡ entry_in cell.id cell.body
entry_is first [] k cell at = cc
entry_is first (one ∷ cells) zero cell at =
    let is : one ≡ cell = cc in
    let here : first + 0 ≡ first = omega arith in
    ap (entry_at (entries_from first (one ∷ cells))) here ∙ own_entry (entry_in one.id one.body) (entries_from (first + 1) cells) first (none_before (first + 1) cells first (omega arith)) ∙ ap (λ (c : Cell). entry_in c.id c.body) is
entry_is first (one ∷ cells) (suc k) cell at =
    let later : first + suc k ≡ first + 1 + k = omega arith in
    entry_behind (entry_in one.id one.body) (entries_from (first + 1) cells) first (first + suc k) (omega arith)
    ∙ ap (entry_at (entries_from (first + 1) cells)) later ∙ entry_is (first + 1) cells k cell at

module _ (shape : Dimensions) (g : Ghost) (a : Parts) (me : ℕ) (moment : Moment shape g a) (node : IsShardNode shape me) (sender read from to : ℕ) (heard : FetchSays a.history sender read from) where
  abbrev s : ShardState
  s = a.shards me

  some : 1 ≤ s.view
  some = there shape g a me moment node

  below : s.store.stable ≤ g.log.low
  below = (moment.agreed.places.finals me some).stable

  trimmed_says : from < s.store.floor → TrimmedAtSays a.history g.log.low s.store.floor
  trimmed_says lt = let within = (moment.agreed.shards.stores me).within in let low = below in record { asked = (moment.agreed.bytes me).asked (omega arith); below = omega arith }

  abbrev end : ℕ
  end = min to s.store.stable

  -- of a final place that wasn't given up, what the replica has is told
  body_told : (place : ℕ) (id : Identity) (body : Body) → BodyBegun a.history id body → BodyFloored s.store.floor place body → s.store.floor ≤ place → (sign_of (record { id = id; body = body })).sort ≢ Lacking → TellsSign a.history (sign_of (record { id = id; body = body })) (entry_in id body)
  body_told place id Elsewhere begun floored above decided = refl
  body_told place id (Kept bytes) begun floored above decided = (bytes, refl, begun)
  body_told place id Noop begun floored above decided = refl
  body_told place id Open begun floored above decided = absurd (decided refl)
  body_told place id Gone begun floored above decided = absurd (omega arith)

  module _ (above : s.store.floor ≤ from) where
    -- the cell of a place is what its entry tells
    cell_told : (place : ℕ) (cell : Cell) → from ≤ place → place < s.store.stable → slice_get s.store.order place ≡ Some cell → TellsSign a.history (sign_of cell) (entry_in cell.id cell.body)
    cell_told place cell least lt at =
        let final : IsFinal g.views g.log.high s.view place = stable_final shape g a me moment some place lt in
        body_told place cell.id cell.body
        (each_at (CellBegun a.history) s.store.order (moment.agreed.bytes me).cells place cell at)
        (each_from_first (CellFloored s.store.floor) s.store.order (moment.agreed.shards.stores me).floored place cell at)
        (omega arith) ((moment.agreed.places.finals me some).decided place (sign_of cell) final (ap (option_map sign_of) at))

    entry_told : (place : ℕ) (cell : Cell) → from ≤ place → place < end → slice_get s.store.order place ≡ Some cell → entry_at (part s.store from end) place ≡ entry_in cell.id cell.body
    entry_told place cell least lt at =
        let whole : from + (place - from) ≡ place = omega arith in
        ap (entry_at (part s.store from end)) (sym whole)
        ∙ entry_is from (slice_range s.store.order from end) (place - from) cell (range_at s.store.order from end (place - from) cell (omega arith) (ap (slice_get s.store.order) whole ∙ at))

    tells_sign : (place : ℕ) (sign : Sign) → from ≤ place → place < end → sign_at s place ≡ Some sign → TellsSign a.history sign (entry_at (part s.store from end) place)
    tells_sign place sign least lt here = by (cell_at s place sign here)
      where
        by : (cell : Cell) × (slice_get s.store.order place ≡ Some cell) × (sign_of cell ≡ sign) → TellsSign a.history sign (entry_at (part s.store from end) place)
        by (cell, at, is) = subst (TellsSign a.history sign) (sym (entry_told place cell least lt at)) (subst (λ (x : Sign). TellsSign a.history x (entry_in cell.id cell.body)) is (cell_told place cell least (omega arith) at))

    tells : (place : ℕ) → from ≤ place → place < end → TellsPlace g.views g.log.high a.history a.shards (home_of me) place (entry_at (part s.store from end) place)
    tells place least lt d sign home beside final at =
        tells_sign place sign least lt (moment.agreed.places.among.agree me d (sym home) some beside place (stable_final shape g a me moment some place (omega arith)) final ∙ at)

    part_says : PartSays shape g.views g.log a.history a.shards (home_of me) sender read from end (part s.store from end)
    part_says = let low = below in record { fetched = heard; below = omega arith; told = tells }

  part_after : PartSays shape g.views g.log a.history a.shards (home_of me) sender read from end (part s.store from end) → PartSays shape g.views g.log a.history (put a.shards me s) (home_of me) sender read from end (part s.store from end)
  part_after = subst (λ (f : ℕ → ShardState). PartSays shape g.views g.log a.history f (home_of me) sender read from end (part s.store from end)) (sym (put_same a.shards me))

  pub fetch_good : GoodShard shape g a me (on_fetch s sender read from to)
  fetch_good = either (GoodShard shape g a me) (nat_lt from s.store.floor) (answers s sender (TrimmedAt read s.store.floor)) (answers s sender (fetched s read from end))
      (λ e. sends_good shape g a me moment ((sender, TrimmedAt read s.store.floor) ∷ []) (trimmed_says (ltb-true from s.store.floor e), tt))
      (λ e. sends_good shape g a me moment ((sender, fetched s read from end) ∷ []) (part_after (part_says (ltb-false from s.store.floor e)), tt))
