-- What a leader sends of a batch says what it should: to the primaries its items, to the followers its identities.
use Rattle.std.proofs.Common.{◌≡◌, ℕ, suc, ◌+◌, ◌-◌, ◌≤◌, Some, List, [], ◌∷◌, length, drop, slice_get, true, inl, inr, refl, sym, ap, ◌∙◌, subst, arith}
use Rattle.std.specs.Prelude.{unwrap_or}
use Rattle.std.proofs.lemmas.Bool.{cases_lt}
use Rattle.std.proofs.lemmas.Option.{slice_get_past}
use Rattle.list_facts.specs.Lists.{Each, In}
use Rattle.list_facts.proofs.Cases.{either}
use Rattle.list_facts.proofs.Members.{each_append}
use Rattle.rec_id.specs.Identity.{Identity}
use Rattle.rec_id.specs.declared.item.Item.{Item}
use Rattle.view_config.specs.Shape.{Dimensions}
use Rattle.view_config.specs.declared.config.Config.{Config}
use Rattle.lazy_msgs.specs.declared.msg.Msg.{Msg}
use Rattle.lazy_msgs.specs.declared.msg.Msg.TheVariants.{Order, Place}
use Rattle.lazy_rules.specs.Flight.{Batch, batch_end, has_all, lacks_order, lacks_place}
use Rattle.lazy_rules.specs.Ids.{ids_of}
use Rattle.lazy_rules.specs.Items.{items_for}
use Rattle.lazy_rules.specs.Leading.{items_in, order_sends, order_to, place_sends, place_to, resends}
use Rattle.lazy_rules.specs.Roles.{first_of, followers_of, is_first, replicas_at}
use Rattle.lazy_rules.specs.Rows.{each_numbered, to_each}
use Rattle.lazy_rules.specs.SeqState.{SeqState}
use Rattle.world_facts.proofs.goes.WithoutNamed.{each_take}
use Rattle.world_facts.proofs.sizes.Flight.{IsBatch, each_drop}
use Rattle.log_facts.specs.Finality.{AllSettledIn, line_ids}
use Rattle.log_facts.specs.Ghosts.{Ghost, Log, Views}
use Rattle.log_facts.specs.Good.{Moment}
use Rattle.log_facts.specs.Handed.{EachFrom, ItemGiven}
use Rattle.log_facts.specs.Parts.{Parts, home_of}
use Rattle.log_facts.specs.Said.{Said}
use Rattle.log_facts.specs.Signs.{IsPiece}
use Rattle.log_facts.specs.facts.OfLine.{IsWhole}
use Rattle.log_facts.specs.facts.OfSeqs.{BatchNoted, IsPlacedByAll}
use Rattle.seq_rows.proofs.leading.Batches.{all_answered}
use Rattle.seq_rows.proofs.leading.BatchItems.{items_begun, items_count, items_for_ids, items_given, items_piece}
use Rattle.seq_rows.proofs.leading.Leading.{Leading, first, joined, live}

-- what holds of what is made of each member and its place
numbered_from : {A B : Type 0} (P : B → Type 0) (make : ℕ → A → List B) (i : ℕ) (xs : List A) → ((k : ℕ) (x : A) → slice_get xs k ≡ Some x → Each P (make (i + k) x)) → Each P (each_numbered make i xs)
numbered_from P make i [] f = tt
numbered_from P make i (x ∷ xs) f =
    let here : i + 0 ≡ i = omega arith in
    each_append P (make i x) (each_numbered make (i + 1) xs) (subst (λ (n : ℕ). Each P (make n x)) here (f 0 x refl))
    (numbered_from P make (i + 1) xs (λ k y e. let there : i + suc k ≡ i + 1 + k = omega arith in subst (λ (n : ℕ). Each P (make n y)) there (f (suc k) y e)))

pub numbered_each : {A B : Type 0} (P : B → Type 0) (make : ℕ → A → List B) (xs : List A) → ((k : ℕ) (x : A) → slice_get xs k ≡ Some x → Each P (make k x)) → Each P (each_numbered make 0 xs)
numbered_each P make xs f = numbered_from P make 0 xs (λ k x e. let is : k ≡ 0 + k = omega arith in subst (λ (n : ℕ). Each P (make n x)) is (f k x e))

-- the replicas of a shard that the configuration has
pub replicas_there : (config : Config) (shard : ℕ) (nodes : List ℕ) → slice_get config.shards shard ≡ Some nodes → replicas_at config shard ≡ nodes
replicas_there config shard nodes e = ap (λ (o : _). unwrap_or o []) e

-- of a shard that it hasn't there are none
pub replicas_none : (config : Config) (shard : ℕ) → length config.shards ≤ shard → replicas_at config shard ≡ []
replicas_none config shard past = ap (λ (o : _). unwrap_or o []) (slice_get_past config.shards shard past)

-- a message to the first of some nodes
first_each : (P : ℕ × Msg → Type 0) (nodes : List ℕ) (msg : Msg) → ((node : ℕ) → In node nodes → P (node, msg)) → Each P (to_each (first_of nodes) msg)
first_each P [] msg f = tt
first_each P (node ∷ others) msg f = (f node (inl refl), tt)

module _ (shape : Dimensions) (g : Ghost) (a : Parts) (me : ℕ) (moment : Moment shape g a) (leading : Leading (a.seqs me)) where
  abbrev s : SeqState
  s = a.seqs me

  abbrev v : Views
  v = g.views

  abbrev log : Log
  log = g.log

  abbrev Says : ℕ × Msg → Type 0
  Says send = Said shape g a me send.0 send.1

  shaped : s.shape ≡ shape
  shaped = (moment.formed.seqs me).shaped

  -- in the current view the leader has the line
  pub has_line : s.view ≡ v.cur → line_ids log.line s ≡ log.line
  has_line now =
      let is_first_now = subst (λ (w : ℕ). is_first (v.cf w).seq me ≡ true) now (first shape g a me moment leading) in
      ((moment.agreed.line.live (live shape g a me moment leading now)).leader me is_first_now).taken now

  module _ (batch : Batch) (among : IsBatch s.bound (s.bound + length s.pending) batch) where
    piece : s.view ≡ v.cur → IsPiece log.line batch.from (ids_of (items_in s batch))
    piece now =
        let short = (moment.agreed.line.members me now).held.short in
        subst (λ (line : List Identity). IsPiece line batch.from (ids_of (items_in s batch))) (has_line now) (items_piece s batch among log.line short)

    whole : Each (IsWhole shape a.history) (items_in s batch)
    whole = each_take (IsWhole shape a.history) batch.count (drop (batch.from - s.bound) s.pending) (each_drop (IsWhole shape a.history) (batch.from - s.bound) s.pending (moment.agreed.seqs me).items)

    place_said : (shard to : ℕ) → home_of to ≡ shard → Said shape g a me to (Place s.view batch.from (items_for s.shape shard batch.from (items_in s batch)))
    place_said shard to home =
        let given : EachFrom (ItemGiven shape a.history shard) batch.from (items_for shape shard batch.from (items_in s batch)) = items_given shape a.history shard batch.from (items_in s batch) whole in
        let same : items_for shape shard batch.from (items_in s batch) ≡ items_for s.shape shard batch.from (items_in s batch) = ap (λ (d : Dimensions). items_for d shard batch.from (items_in s batch)) (sym shaped) in
        record {
          started = (joined shape g a me moment leading).started;
          piece = λ now. subst (λ (ids : List Identity). IsPiece log.line batch.from ids) (sym (items_for_ids s.shape shard batch.from (items_in s batch))) (piece now);
          given = subst (λ (items : List Item). EachFrom (ItemGiven shape a.history (home_of to)) batch.from items) same
              (subst (λ (k : ℕ). EachFrom (ItemGiven shape a.history k) batch.from (items_for shape shard batch.from (items_in s batch))) (sym home) given);
        }

    -- who is in a shard's list stores that shard
    home : (shard : ℕ) (nodes : List ℕ) → slice_get s.config.shards shard ≡ Some nodes → (to : ℕ) → In to nodes → home_of to ≡ shard
    home shard nodes e to i =
        let there : In to (replicas_at s.config shard) = subst (λ (list : List ℕ). In to list) (sym (replicas_there s.config shard nodes e)) i in
        (moment.agreed.views.configs.lists s.view).homes shard to (subst (λ (config : Config). In to (replicas_at config shard)) (joined shape g a me moment leading).config there)

    pub places_said : Each Says (place_sends s batch)
    places_said = numbered_each Says (place_to s batch) s.config.shards (λ shard nodes e.
        either (Each Says) (lacks_place batch shard) (to_each (first_of nodes) (Place s.view batch.from (items_for s.shape shard batch.from (items_in s batch)))) []
        (λ lacks. first_each Says nodes (Place s.view batch.from (items_for s.shape shard batch.from (items_in s batch))) (λ to i. place_said shard to (home shard nodes e to i)))
        (λ has. tt))

    module _ (noted : BatchNoted v a.seqs a.shards s batch) (all : has_all (length s.config.shards) batch.placed ≡ true) where
      -- all shards have the batch
      pub settled : (shard : ℕ) → AllSettledIn v a.shards s.view shard (batch_end batch)
      settled shard = elim (cases_lt shard (length s.config.shards)) [
        | inl there ↦ all_answered (λ (i : ℕ). AllSettledIn v a.shards s.view i (batch_end batch)) (length s.config.shards) batch.placed all noted.placed shard there
        | inr past ↦ λ d i.
            let none : replicas_at (v.cf s.view) shard ≡ [] = ap (λ (config : Config). replicas_at config shard) (sym (joined shape g a me moment leading).config) ∙ replicas_none s.config shard past in
            absurd (subst (λ (list : List ℕ). In d list) none i)
      ]

      order_said : (to : ℕ) → Said shape g a me to (Order s.view batch.from (ids_of (items_in s batch)))
      order_said to =
          let count = items_count s batch among in
          record {
            started = (joined shape g a me moment leading).started;
            begun = items_begun shape a.history (items_in s batch) whole;
            piece = piece;
            settled = λ now shard. subst (λ (n : ℕ). AllSettledIn v a.shards s.view shard n) (ap (λ (n : ℕ). batch.from + n) (sym count)) (settled shard);
          }

      pub orders_said : Each Says (order_sends s batch)
      orders_said = numbered_each Says (order_to s batch) (followers_of s.config) (λ i follower e.
          either (Each Says) (lacks_order batch i) ((follower, Order s.view batch.from (ids_of (items_in s batch))) ∷ []) []
          (λ lacks. (order_said follower, tt))
          (λ has. tt))

    pub resends_said : BatchNoted v a.seqs a.shards s batch → IsPlacedByAll s batch → Each Says (resends s batch)
    resends_said noted placed = either (Each Says) batch.ordering (order_sends s batch) (place_sends s batch) (λ e. orders_said noted (placed e)) (λ e. places_said)
