-- What a backup is handed by its primary: cells of the shard, which the primary has where it is still in that view.
use Rattle.std.proofs.Common.{◌≡◌, ◌≢◌, ℕ, ◌+◌, ◌≤◌, List, [], ◌∷◌, Bool, true, false, Some, refl, sym, ap, ◌∙◌, subst, arith}
use Rattle.std.specs.Prelude.{slice_get, option_map}
use Rattle.std.proofs.lemmas.Bool.{eqb-true}
use Rattle.std.proofs.lemmas.Option.{slice_get-map}
use Rattle.list_facts.specs.Lists.{Distinct, In}
use Rattle.rec_id.specs.declared.item.Body.{Body}
use Rattle.rec_id.specs.declared.item.Body.TheVariants.{Elsewhere, Kept, Noop, Open, Gone}
use Rattle.rec_id.specs.declared.item.Cell.{Cell}
use Rattle.view_config.specs.Shape.{Dimensions}
use Rattle.lazy_rules.specs.Roles.{is_first, others_of, replicas_at}
use Rattle.lazy_rules.specs.WorldRules.{ids_in}
use Rattle.log_facts.specs.Ghosts.{Ghost, Views}
use Rattle.log_facts.specs.Good.{Moment}
use Rattle.log_facts.specs.Handed.{BodyDecided, CellHanded, CellPlaced, EachFrom}
use Rattle.log_facts.specs.Parts.{Parts, home_of}
use Rattle.log_facts.specs.Says.{HandsCells}
use Rattle.log_facts.specs.Signs.{IsPiece, IsSignPiece, Sign, sign_of, sort_of}
use Rattle.log_facts.specs.facts.OfData.{IsVoidAt}
use Rattle.log_facts.proofs.Places.{each_from_at, each_from_weaker}
use Rattle.shard_rows.proofs.Adding.{AddedCell}
use Rattle.shard_rows.proofs.Continued.{named_cell, signed_cell}
use Rattle.shard_rows.proofs.Placing.{first_alone}
use Rattle.shard_rows.proofs.Standing.{order, others_in, rank}

decided_here : (body : Body) → BodyDecided body → body ≢ Gone
decided_here Gone h e = h
decided_here Elsewhere h e = cc
decided_here (Kept bytes) h e = cc
decided_here Noop h e = cc
decided_here Open h e = cc

decided_not_open : (body : Body) → BodyDecided body → body ≢ Open
decided_not_open Open h e = h
decided_not_open Elsewhere h e = cc
decided_not_open (Kept bytes) h e = cc
decided_not_open Noop h e = cc
decided_not_open Gone h e = cc

-- one of the others isn't the first
pub other_not_first : (nodes : List ℕ) (node : ℕ) → Distinct nodes → In node (others_of nodes) → is_first nodes node ≡ false
other_not_first [] node distinct i = absurd i
other_not_first (first ∷ others) node distinct i = by (is_first (first ∷ others) node) refl
  where
    by : (b : Bool) → is_first (first ∷ others) node ≡ b → is_first (first ∷ others) node ≡ false
    by false e = e
    by true e = absurd (distinct.0 (subst (λ (n : ℕ). In n others) (sym (eqb-true first node e)) i))

module _ (shape : Dimensions) (g : Ghost) (a : Parts) (sender me : ℕ) (moment : Moment shape g a) (view from : ℕ) (cells : List Cell)
    (some : 1 ≤ view) (hands : HandsCells shape g.views a.history (a.shards sender) sender me view from cells) where
  abbrev v : Views
  v = g.views

  abbrev group : List ℕ
  group = replicas_at (v.cf view) (home_of me)

  in_group : In me (replicas_at (v.cf view) (home_of sender))
  in_group = others_in (replicas_at (v.cf view) (home_of sender)) me hands.follows

  pub homed : home_of me ≡ home_of sender
  homed = (moment.agreed.views.configs.lists view).homes (home_of sender) me in_group

  pub me_listed : In me group
  me_listed = subst (λ (shard : ℕ). In me (replicas_at (v.cf view) shard)) (sym homed) in_group

  pub me_not_first : is_first group me ≡ false
  me_not_first = other_not_first group me ((moment.agreed.views.configs.lists view).replicas (home_of me)) (subst (λ (shard : ℕ). In me (others_of (replicas_at (v.cf view) shard))) (sym homed) hands.follows)

  pub sender_first : is_first group sender ≡ true
  sender_first = subst (λ (shard : ℕ). is_first (replicas_at (v.cf view) shard) sender ≡ true) (sym homed) hands.leads

  pub first_is_sender : (e : ℕ) → is_first group e ≡ true → e ≡ sender
  first_is_sender e first = first_alone group e sender first sender_first

  sender_some : 1 ≤ (a.shards sender).view
  sender_some = let own = hands.own in omega (arith, some)

  -- in the current view the primary is still in it
  pub sender_current : view ≡ v.cur → (a.shards sender).view ≡ view
  sender_current now = let own = hands.own in let known = (rank shape g a moment sender sender_some).known in omega arith

  pub handed_added : EachFrom (AddedCell shape a.history (home_of me)) from cells
  handed_added = each_from_weaker (CellHanded shape a.history (home_of sender)) (AddedCell shape a.history (home_of me))
      (λ place cell h. record {
        placed = subst (λ (shard : ℕ). CellPlaced shape shard place cell) (sym homed) h.placed;
        begun = h.begun;
        here = decided_here cell.body h.decided;
      }) from cells hands.each

  pub handed_decided : (k : ℕ) (cell : Cell) → slice_get cells k ≡ Some cell → cell.body ≢ Open
  handed_decided k cell e = decided_not_open cell.body (each_from_at (CellHanded shape a.history (home_of sender)) from cells hands.each k cell e).decided

  pub handed_voids : view ≡ v.cur → (k : ℕ) (cell : Cell) → slice_get cells k ≡ Some cell → cell.body ≡ Noop →
      (d : ℕ) × (home_of d ≡ home_of me) × ((a.shards d).view ≡ v.cur) × IsVoidAt (a.shards d) cell.id (from + k)
  handed_voids now k cell e noop =
      let current = sender_current now in
      (sender, sym homed, current ∙ now, hands.piece current k cell e ∙ ap (λ (body : Body). Some (record { id = cell.id; sort = sort_of body })) noop)

  -- a primary of the shard in this view is who hands them
  pub handed_copied : (e : ℕ) → home_of me ≡ home_of e → view ≡ (a.shards e).view → (a.shards e).primary ≡ true → IsSignPiece (a.shards e).store.order from cells
  handed_copied e home same primary =
      let there : 1 ≤ (a.shards e).view = omega (arith, some) in
      let own : is_first (replicas_at (v.cf (a.shards e).view) (home_of e)) e ≡ true = sym (rank shape g a moment e there).first ∙ primary in
      let its : is_first group e ≡ true = subst (λ (shard : ℕ). is_first (replicas_at (v.cf view) shard) e ≡ true) (sym home) (subst (λ (w : ℕ). is_first (replicas_at (v.cf w) (home_of e)) e ≡ true) (sym same) own) in
      let is = first_is_sender e its in
      subst (λ (d : ℕ). IsSignPiece (a.shards d).store.order from cells) (sym is) (hands.piece (subst (λ (d : ℕ). (a.shards d).view ≡ view) is (sym same)))

  -- they are the line's, in the current view
  pub handed_piece : view ≡ v.cur → IsPiece g.log.line from (ids_in cells)
  handed_piece now k id e =
      let one = named_cell cells k id (sym (slice_get-map (λ (c : Cell). c.id) cells k) ∙ e) in
      let current = sender_current now in
      let signed = signed_cell (a.shards sender).store.order (from + k) (sign_of one.cell) (hands.piece current k one.cell one.stands) in
      (order shape g a moment sender sender_some).live (current ∙ now) (from + k) id
      (ap (option_map (λ (c : Cell). c.id)) signed.stands ∙ ap Some (ap (λ (x : Sign). x.id) signed.signed ∙ one.named))
