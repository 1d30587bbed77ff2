-- A leader's first batch, once every follower answered for it: all of the view have it, it lies within what a closed
-- view had, and the leader's line stays the same when it leaves the flight.
use Rattle.std.proofs.Common.{◌≡◌, ◌≢◌, ℕ, zero, suc, ◌+◌, ◌<◌, ◌≤◌, Some, List, [], ◌∷◌, ◌++◌, length, take, drop, slice_get, true, inl, inr, refl, sym, ap, ◌∙◌, subst, arith, append_assoc}
use Rattle.std.proofs.Math.Seq.{take-append-add}
use Rattle.std.proofs.lemmas.Bool.{and_parts, cases_lt, eqb-true}
use Rattle.std.proofs.lemmas.List.{length-append, length-map, length-take-le, take-append-drop}
use Rattle.std.proofs.lemmas.Option.{slice_get_within}
use Rattle.list_facts.specs.Lists.{Each, In}
use Rattle.list_facts.proofs.Places.{at_in}
use Rattle.rec_id.specs.Identity.{Identity}
use Rattle.rec_id.specs.declared.item.Item.{Item}
use Rattle.view_config.specs.Shape.{Dimensions}
use Rattle.view_config.specs.declared.config.Config.{Config}
use Rattle.lazy_rules.specs.Flight.{Batch, batch_end, has_all, is_finished}
use Rattle.lazy_rules.specs.Ids.{ids_of}
use Rattle.lazy_rules.specs.Leading.{without_first}
use Rattle.lazy_rules.specs.Roles.{followers_of, is_first, others_of}
use Rattle.lazy_rules.specs.SeqState.{SeqState}
use Rattle.world_facts.specs.SizesOf.{AreFlying}
use Rattle.world_facts.proofs.sizes.Flight.{flight_each}
use Rattle.log_facts.specs.Finality.{AllSettledIn, IsShut, line_ids}
use Rattle.log_facts.specs.Ghosts.{Ghost, Log, Views}
use Rattle.log_facts.specs.Good.{Moment}
use Rattle.log_facts.specs.Parts.{Parts}
use Rattle.log_facts.specs.Says.{OrderedSays}
use Rattle.log_facts.specs.facts.OfSeqs.{BatchNoted, FlightFacts, IsPlacedByAll, OrderingFirst}
use Rattle.seq_rows.proofs.Longer.{take_shorter}
use Rattle.seq_rows.proofs.leading.Batches.{all_answered}
use Rattle.seq_rows.proofs.leading.Batching.{has_line, settled}
use Rattle.seq_rows.proofs.leading.Leading.{Leading, first, flying, joined, known, noted, open_there, reads}

-- a member that isn't the first is one of the others
other_member : (nodes : List ℕ) (me node : ℕ) → is_first nodes me ≡ true → In node nodes → node ≢ me → In node (others_of nodes)
other_member [] me node first i other = absurd i
other_member (z ∷ zs) me node first (inl e) other = absurd (other (sym e ∙ eqb-true z me first))
other_member (z ∷ zs) me node first (inr i) other = i

drop_ids : (n : ℕ) (items : List Item) → ids_of (drop n items) ≡ drop n (ids_of items)
drop_ids zero items = refl
drop_ids (suc n) [] = refl
drop_ids (suc n) (item ∷ items) = drop_ids n items

module _ (shape : Dimensions) (me : ℕ) (g : Ghost) (a : Parts) (moment : Moment shape g a) (leading : Leading (a.seqs me)) (batch : Batch) (others : List Batch)
    (is : (a.seqs me).flight ≡ batch ∷ others) (done : is_finished (length (followers_of (a.seqs me).config)) batch ≡ true) where
  abbrev s : SeqState
  s = a.seqs me

  abbrev v : Views
  v = g.views

  abbrev log : Log
  log = g.log

  abbrev limit : ℕ
  limit = s.bound + length s.pending

  -- how much is bound then
  abbrev pub more : ℕ
  more = s.bound + batch.count

  had : FlightFacts a.history s
  had = flying shape g a me moment leading

  pub follow : AreFlying s.bound limit (batch ∷ others)
  follow = subst (AreFlying s.bound limit) is had.follow

  pub sorted : OrderingFirst (batch ∷ others)
  sorted = subst OrderingFirst is had.sorted

  pub placed : Each (IsPlacedByAll s) (batch ∷ others)
  placed = subst (Each (IsPlacedByAll s)) is had.placed

  pub noted_all : Each (BatchNoted v a.seqs a.shards s) (batch ∷ others)
  noted_all = subst (Each (BatchNoted v a.seqs a.shards s)) is (noted shape g a me moment leading)

  pub ends : batch_end batch ≡ more
  ends = ap (λ (n : ℕ). n + batch.count) follow.0

  pub fits : more ≤ limit
  fits = follow.3

  ordering : batch.ordering ≡ true
  ordering = (and_parts batch.ordering (has_all (length (followers_of s.config)) batch.ordered) done).0

  ordered : has_all (length (followers_of s.config)) batch.ordered ≡ true
  ordered = (and_parts batch.ordering (has_all (length (followers_of s.config)) batch.ordered) done).1

  -- each other member of the view said so
  pub said : (node : ℕ) → In node (v.cf s.view).seq → node ≢ me → OrderedSays v (a.seqs node) node s.view more
  said node member other =
      let is_config : v.cf s.view ≡ s.config = sym (joined shape g a me moment leading).config in
      let follower : In node (followers_of s.config) = subst (λ (config : Config). In node (followers_of config)) is_config (other_member (v.cf s.view).seq me node (first shape g a me moment leading) member other) in
      let place = at_in (followers_of s.config) node follower in
      let within = slice_get_within (followers_of s.config) place.0 node place.1 in
      let told = all_answered (λ (i : ℕ). (n : ℕ) → slice_get (followers_of s.config) i ≡ Some n → OrderedSays v (a.seqs n) n s.view (batch_end batch))
      (length (followers_of s.config)) batch.ordered ordered noted_all.0.ordered place.0 within node place.1 in
      subst (OrderedSays v (a.seqs node) node s.view) ends told

  -- a closed view was closed by another member, which said so before
  pub within_closed : s.view < v.cur → more ≤ v.cl s.view
  within_closed below =
      let some = leading.some in
      let closer = moment.agreed.among_seqs.closers s.view some below in
      let started = (joined shape g a me moment leading).started.is in
      let member : In (v.cx s.view) (v.cf s.view).seq = subst (λ (w : ℕ). In (v.cx s.view) (v.cf w).seq) started closer.member in
      let shut : IsShut (a.seqs (v.cx s.view)) s.view = subst (IsShut (a.seqs (v.cx s.view))) started closer.shut in
      (said (v.cx s.view) member (λ own. open_there shape g a me moment leading (subst (λ (n : ℕ). IsShut (a.seqs n) s.view) own shut))).closed below refl

  -- all shards have it
  pub settled_more : (shard : ℕ) → AllSettledIn v a.shards s.view shard more
  settled_more shard =
      let among = (flight_each s.bound limit (batch ∷ others) follow).0 in
      subst (AllSettledIn v a.shards s.view shard) ends (settled shape g a me moment leading batch among noted_all.0 (placed.0 ordering) shard)

  -- so far the leader's line is the line
  pub same_more : take more (line_ids log.line s) ≡ take more log.line
  same_more = elim (cases_lt s.view v.cur) [
    | inl below ↦
        let within = within_closed below in
        let old = (reads shape g a me moment leading).old below in
        sym (take_shorter more (v.cl s.view) (line_ids log.line s) within) ∙ ap (take more) old ∙ take_shorter more (v.cl s.view) log.line within
    | inr now ↦ let known = known shape g a me moment leading in ap (take more) (has_line shape g a me moment leading (omega arith))
  ]

  pub short : s.bound ≤ length log.line
  short = elim (cases_lt s.view v.cur) [
    | inl below ↦
        let within = within_closed below in
        let closed = moment.agreed.line.closed s.view below in
        let low = moment.agreed.line.low in
        let high = moment.agreed.line.high in
        omega arith
    | inr now ↦ let known = known shape g a me moment leading in (moment.agreed.line.members me (omega arith)).held.short
  ]

  -- the batch leaves what waits, and is bound
  pub line_then : line_ids log.line (without_first s batch others) ≡ line_ids log.line s
  line_then =
      let ids : List Identity = ids_of s.pending in
      let long = length-take-le s.bound log.line short in
      let at : length (take s.bound log.line) + batch.count ≡ more = ap (λ (n : ℕ). n + batch.count) long in
      let bound : take more log.line ≡ take s.bound log.line ++ take batch.count ids =
      sym same_more ∙ ap (λ (n : ℕ). take n (line_ids log.line s)) (sym at) ∙ take-append-add (take s.bound log.line) ids batch.count in
      ap (λ (xs : List Identity). xs ++ ids_of (drop batch.count s.pending)) bound
      ∙ append_assoc (take s.bound log.line) (take batch.count ids) (ids_of (drop batch.count s.pending))
      ∙ ap (λ (xs : List Identity). take s.bound log.line ++ (take batch.count ids ++ xs)) (drop_ids batch.count s.pending)
      ∙ ap (λ (xs : List Identity). take s.bound log.line ++ xs) (take-append-drop batch.count ids)

  -- and lies within the line
  pub more_short : more ≤ length log.line
  more_short = elim (cases_lt s.view v.cur) [
    | inl below ↦
        let within = within_closed below in
        let closed = moment.agreed.line.closed s.view below in
        let low = moment.agreed.line.low in
        let high = moment.agreed.line.high in
        omega arith
    | inr now ↦
        let known = known shape g a me moment leading in
        let whole : length (line_ids log.line s) ≡ length log.line = ap length (has_line shape g a me moment leading (omega arith)) in
        let long = length-take-le s.bound log.line short in
        let both = length-append (take s.bound log.line) (ids_of s.pending) in
        let each = length-map s.pending (λ (item : Item). item.id) in
        let end = fits in
        omega arith
  ]
