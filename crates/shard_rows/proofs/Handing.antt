-- What a primary hands to its backups: a piece of its order that is decided, none of it given up.
use Rattle.std.proofs.Common.{◌≡◌, ℕ, zero, suc, ◌+◌, ◌<◌, ◌≤◌, ◌-◌, List, [], ◌∷◌, drop, map, Some, inl, inr, ap, subst, arith, not, true, false}
use Rattle.std.specs.Prelude.{slice_get, slice_range, option_map}
use Rattle.std.proofs.lemmas.Bool.{cases_lt}
use Rattle.list_facts.specs.Lists.{In}
use Rattle.list_facts.proofs.Members.{in_filter, in_map, in_mapped}
use Rattle.list_facts.proofs.Places.{each_at}
use Rattle.rec_id.specs.declared.item.Body.{Body}
use Rattle.rec_id.specs.declared.item.Body.TheVariants.{Elsewhere, Kept, Noop, Open, Gone}
use Rattle.rec_id.specs.declared.item.Cell.{Cell}
use Rattle.view_config.specs.Shape.{Dimensions}
use Rattle.lazy_rules.specs.Pushing.{lagging, reaches}
use Rattle.lazy_rules.specs.Roles.{others_of, replicas_at}
use Rattle.lazy_rules.specs.ShardRules.{first_unplaced}
use Rattle.lazy_rules.specs.ShardState.{Backup, ShardState}
use Rattle.lazy_rules.specs.Store.{is_open}
use Rattle.log_facts.specs.Finality.{IsFinal}
use Rattle.log_facts.specs.Ghosts.{Ghost}
use Rattle.log_facts.specs.Good.{Moment}
use Rattle.log_facts.specs.Handed.{BodyDecided, BodyFloored, CellBegun, CellFloored, CellHanded, CellPlaced}
use Rattle.log_facts.specs.Parts.{Parts, home_of}
use Rattle.log_facts.specs.Says.{HandsCells}
use Rattle.log_facts.specs.Signs.{sign_of}
use Rattle.log_facts.proofs.Places.{at_each_from, at_take, each_from_first, take_at}
use Rattle.shard_rows.proofs.Backups.{leads_group}

-- members of what is left of a list, and of a range of it
pub at_drop : {A : Type 0} (n : ℕ) (xs : List A) (k : ℕ) (x : A) → slice_get (drop n xs) k ≡ Some x → slice_get xs (n + k) ≡ Some x
at_drop zero xs k x h = let same : k ≡ 0 + k = omega arith in subst (λ (i : ℕ). slice_get xs i ≡ Some x) same h
at_drop (suc n) [] k x h = cc
at_drop (suc n) (z ∷ zs) k x h = let same : suc (n + k) ≡ suc n + k = omega arith in subst (λ (i : ℕ). slice_get (z ∷ zs) i ≡ Some x) same (at_drop n zs k x h)

pub at_range : {A : Type 0} (xs : List A) (from end k : ℕ) (x : A) → slice_get (slice_range xs from end) k ≡ Some x → (from + k < end) × (slice_get xs (from + k) ≡ Some x)
at_range xs from end k x h =
    let front = at_take (end - from) (drop from xs) k x h in
    let lt = front.0 in
    (omega arith, at_drop from xs k x front.1)

pub drop_at : {A : Type 0} (n : ℕ) (xs : List A) (k : ℕ) (x : A) → slice_get xs (n + k) ≡ Some x → slice_get (drop n xs) k ≡ Some x
drop_at zero xs k x h = let same : 0 + k ≡ k = omega arith in subst (λ (i : ℕ). slice_get xs i ≡ Some x) same h
drop_at (suc n) [] k x h = cc
drop_at (suc n) (z ∷ zs) k x h = let same : suc n + k ≡ suc (n + k) = omega arith in drop_at n zs k x (subst (λ (i : ℕ). slice_get (z ∷ zs) i ≡ Some x) same h)

pub range_at : {A : Type 0} (xs : List A) (from end k : ℕ) (x : A) → from + k < end → slice_get xs (from + k) ≡ Some x → slice_get (slice_range xs from end) k ≡ Some x
range_at xs from end k x lt h = take_at (end - from) (drop from xs) k x (omega arith) (drop_at from xs k x h)

module _ (shape : Dimensions) (g : Ghost) (a : Parts) (me : ℕ) (moment : Moment shape g a) (there : 1 ≤ (a.shards me).view) where
  abbrev s : ShardState
  s = a.shards me

  -- what is stable is final
  pub stable_final : (place : ℕ) → place < s.store.stable → IsFinal g.views g.log.high s.view place
  stable_final place lt =
      let f = moment.agreed.places.finals me there in
      let known = (moment.agreed.shards.ranks me there).known in
      let low = f.stable in
      let most = moment.agreed.line.low in
      elim (cases_lt s.view g.views.cur) [
        | inl before ↦ let closed = f.closed before in inr (before, omega arith)
        | inr now ↦ inl (omega arith, omega arith)
      ]

  -- and isn't being placed any more
  pub stable_placed : s.store.stable ≤ first_unplaced s s.jobs
  stable_placed = elim (cases_lt (first_unplaced s s.jobs) s.store.stable) [
    | inr le ↦ le
    | inl lt ↦ let past = (moment.agreed.places.finals me there).placed (first_unplaced s s.jobs) (stable_final (first_unplaced s s.jobs) lt) in absurd (omega arith)
  ]

  -- a cell that isn't open, behind what is stable, may be handed on
  cell_handed : (place : ℕ) (cell : Cell) → s.store.stable ≤ place → slice_get s.store.order place ≡ Some cell → is_open cell.body ≡ false → CellHanded shape a.history (home_of me) place cell
  cell_handed place cell behind at shut =
      let f = moment.agreed.shards.stores me in
      let within = f.within in
      record {
        placed = each_from_first (CellPlaced shape (home_of me)) s.store.order f.placed place cell at;
        begun = each_at (CellBegun a.history) s.store.order (moment.agreed.bytes me).cells place cell at;
        decided = decided cell.body shut (each_from_first (CellFloored s.store.floor) s.store.order f.floored place cell at) (omega arith);
      }
    where
      decided : (body : Body) → is_open body ≡ false → BodyFloored s.store.floor place body → s.store.floor ≤ place → BodyDecided body
      decided Elsewhere shut h above = tt
      decided (Kept bytes) shut h above = tt
      decided Noop shut h above = tt
      decided Open shut h above = let wrong : true ≡ false = shut in cc
      decided Gone shut h above = absurd (omega arith)

  module _ (primary : s.primary ≡ true) (from : ℕ) (cells : List Cell) (behind : s.store.stable ≤ from) (piece : (k : ℕ) (cell : Cell) → slice_get cells k ≡ Some cell → slice_get s.store.order (from + k) ≡ Some cell) (shut : (k : ℕ) (cell : Cell) → slice_get cells k ≡ Some cell → is_open cell.body ≡ false) where
    pub hands : (to : ℕ) → In to (others_of (replicas_at (g.views.cf s.view) (home_of me))) → HandsCells shape g.views a.history s me to s.view from cells
    hands to i = record {
      leads = leads_group shape g a me moment there primary;
      follows = i;
      own = omega arith;
      each = at_each_from (CellHanded shape a.history (home_of me)) from cells (λ k cell at. cell_handed (from + k) cell (omega arith) (piece k cell at) (shut k cell at));
      piece = λ same k cell at. ap (option_map sign_of) (piece k cell at);
    }

  -- to the backups that lack it
  pub lagging_follows : (upto : ℕ) → s.primary ≡ true → (to : ℕ) → In to (lagging s upto) → In to (others_of (replicas_at (g.views.cf s.view) (home_of me)))
  lagging_follows upto primary to i =
      let one = in_mapped (λ (backup : Backup). backup.node) to _ i in
      let among = (in_filter (λ (backup : Backup). not (reaches upto backup)) s.backups one.0 one.1).0 in
      let node : In to (map (λ (backup : Backup). backup.node) s.backups) = subst (λ (n : ℕ). In n (map (λ (backup : Backup). backup.node) s.backups)) one.2 (in_map (λ (backup : Backup). backup.node) one.0 s.backups among) in
      subst (λ (nodes : List ℕ). In to nodes) ((moment.agreed.shards.ranks me there).backups primary) node
