-- Every line of a world that events lead to is short.
use Rattle.std.proofs.Common.{◌≡◌, ◌+◌, ◌^◌, ◌<◌, ◌≤◌, ℕ, zero, suc, List, [], ◌∷◌, map, length, take, Option, Some, None, Result, Ok, Err, refl, sym, ap, subst, arith, length-append}
use Rattle.std.specs.Prelude.{◌==◌, IfOk, unwrap_or, option_and_then, slice_get}
use Rattle.std.specs.Option.{option_map, option_map_or}
use Rattle.std.proofs.lemmas.List.{length-map}
use Rattle.list_facts.proofs.Cases.{either}
use Rattle.rec_id.specs.declared.entry.Entry.{Entry}
use Rattle.rec_id.specs.declared.item.Cell.{Cell}
use Rattle.view_config.specs.Shape.{Dimensions, node_of}
use Rattle.view_config.specs.declared.config.Config.{Config}
use Rattle.view_config.specs.declared.nodes.Node.{Node}
use Rattle.view_config.specs.declared.nodes.Node.TheVariants.{Client, Controller, Seq, Shard}
use Rattle.lazy_msgs.specs.declared.limits.TheConstants.{PENDING_LIMIT}
use Rattle.lazy_rules.specs.ControlState.{Phase, Running, Sealing, Flushing, latest_started, newest, taken_items}
use Rattle.lazy_rules.specs.Holders.{Holding, holding, holding_of, member_holding, seq_at, seq_numbered, shared_holding}
use Rattle.lazy_rules.specs.Lines.{bound_entries, first_alive, first_store, first_stores, item_entry, line_of, line_told, lost_shard, order_of, shard_at, store_numbered}
use Rattle.lazy_rules.specs.SeqState.{SeqState}
use Rattle.lazy_rules.specs.ShardState.{ShardState}
use Rattle.lazy_rules.specs.Store.{Store}
use Rattle.lazy_rules.specs.WorldState.{WorldState, first_world, shard_place}
use Rattle.lazy_rules.specs.WorldRules.{run}
use Rattle.world_facts.specs.Sizes.{line_limit}
use Rattle.world_facts.specs.SizesOf.{HasSizes, IsPhase}
use Rattle.world_facts.proofs.Runs.{form_of_run}
use Rattle.world_facts.proofs.sizes.All.{sizes_of_run}
use Rattle.lazy_core.specs.Reached.{IsReached}

few_taken : (shape : Dimensions) (phase : Phase) → IsPhase shape phase → length (unwrap_or (taken_items phase) []) ≤ PENDING_LIMIT
few_taken shape (Running reign) h = omega arith
few_taken shape (Sealing change) h = omega arith
few_taken shape (Flushing taken) h = h.few

long_entries : (shape : Dimensions) (stores : List (Option Store)) (place : ℕ) (cells : List Cell) → length (bound_entries shape stores place cells) ≡ length cells
long_entries shape stores place [] = refl
long_entries shape stores place (cell ∷ cells) = ap suc (long_entries shape stores (place + 1) cells)

taken_short : (n : ℕ) (cells : List Cell) → length (take n cells) ≤ length cells
taken_short zero cells = omega arith
taken_short (suc n) [] = omega arith
taken_short (suc n) (cell ∷ cells) = let rest = taken_short n cells in omega arith

module _ (w : WorldState) (sizes : HasSizes w.shape w) where
  -- what a holder has itself
  shared_few : length (shared_holding w.control).items ≤ PENDING_LIMIT
  shared_few = few_taken w.shape w.control.phase sizes.control.phase

  seq_few : (node : Option Node) (seq : SeqState) → seq_at w node ≡ Some seq → length seq.pending ≤ PENDING_LIMIT
  seq_few (Some (Seq i)) seq there = (sizes.seqs i seq there).few
  seq_few (Some (Client c)) seq there = cc
  seq_few (Some Controller) seq there = cc
  seq_few (Some (Shard i j)) seq there = cc
  seq_few None seq there = cc

  module _ (holder : ℕ) where
    member_few : (config : Config) (seq : Option SeqState) → seq_numbered w holder ≡ seq → length (option_map_or (member_holding (shared_holding w.control) config.view) seq (shared_holding w.control)).items ≤ PENDING_LIMIT
    member_few config None there = shared_few
    member_few config (Some seq) there =
        either (λ (h : Holding). length h.items ≤ PENDING_LIMIT) (seq.view == config.view) (record { bound = seq.bound; items = seq.pending }) (shared_holding w.control)
        (λ e. seq_few (node_of w.shape holder) seq there) (λ e. shared_few)

    held_few : (started : Option Config) → length (option_map_or (holding_of w holder) started (shared_holding w.control)).items ≤ PENDING_LIMIT
    held_few None = shared_few
    held_few (Some config) = member_few config (seq_numbered w holder) refl

  -- what the first shard orders
  shard_long : (node : Option Node) → length (option_map_or (λ (store : Store). store.order) (option_map (λ (s : ShardState). s.store) (shard_at w node)) []) ≤ line_limit
  shard_long (Some (Shard i j)) = there (slice_get w.shards (shard_place w.shape i j)) refl
    where
      there : (s : Option ShardState) → slice_get w.shards (shard_place w.shape i j) ≡ s → length (option_map_or (λ (store : Store). store.order) (option_map (λ (s : ShardState). s.store) s) []) ≤ line_limit
      there None e = omega arith
      there (Some s) e = (sizes.shards (shard_place w.shape i j) s e).store.long
  shard_long (Some (Client c)) = omega arith
  shard_long (Some Controller) = omega arith
  shard_long (Some (Seq i)) = omega arith
  shard_long None = omega arith

  alive_long : (node : Option ℕ) → length (option_map_or (λ (store : Store). store.order) (option_and_then (store_numbered w) node) []) ≤ line_limit
  alive_long None = omega arith
  alive_long (Some node) = shard_long (node_of w.shape node)

  first_long : (shards : List (List ℕ)) → length (order_of (map (first_store w) shards) 0) ≤ line_limit
  first_long [] = omega arith
  first_long (nodes ∷ others) = alive_long (first_alive w nodes)

  line_short : (holder : ℕ) → length (line_of w holder) < 2 ^ 17
  line_short holder =
      let held : Holding = holding w holder in
      let stores : List (Option Store) = first_stores w in
      let cells : List Cell = take held.bound (order_of stores 0) in
      let few : length held.items ≤ PENDING_LIMIT = held_few holder (latest_started w.control.phase) in
      let long : length (order_of stores 0) ≤ line_limit = first_long (newest w.control).shards in
      let short : length cells ≤ length (order_of stores 0) = taken_short held.bound (order_of stores 0) in
      let bound : length (bound_entries w.shape stores 0 cells) ≡ length cells = long_entries w.shape stores 0 cells in
      let more : length (map (item_entry w.shape stores) held.items) ≡ length held.items = length-map held.items (item_entry w.shape stores) in
      let whole : length (line_of w holder) ≡ length (bound_entries w.shape stores 0 cells) + length (map (item_entry w.shape stores) held.items) = length-append (bound_entries w.shape stores 0 cells) (map (item_entry w.shape stores) held.items) in
      omega arith

  told_short : (holder : ℕ) (line : List Entry) (lost : Option ℕ) → option_map_or Err lost (Ok (line_of w holder)) ≡ Ok line → length line < 2 ^ 17
  told_short holder line None e = let same : line_of w holder ≡ line = cc in subst (λ (l : List Entry). length l < 2 ^ 17) same (line_short holder)
  told_short holder line (Some shard) e = cc

reached_sizes : (w : WorldState) → IsReached w → HasSizes w.shape w
reached_sizes w r =
    let made : WorldState = run r.events (first_world r.shape) in
    let shaped : made.shape ≡ r.shape = (form_of_run r.shape r.events).shaped in
    subst (λ (x : WorldState). HasSizes x.shape x) (sym r.is) (subst (λ (d : Dimensions). HasSizes d made) (sym shaped) (sizes_of_run r.shape r.events r.formed r.asked))

pub short_lines : {E : Type 0} (w : WorldState) (holder : ℕ) (outcome : Result (List Entry) E) → IfOk outcome (λ line. line_told w holder ≡ Ok line) → IsReached w → IfOk outcome (λ line. length line < 2 ^ 17)
short_lines w holder (Ok line) told r = told_short w (reached_sizes w r) holder line (lost_shard w) told
short_lines w holder (Err e) told r = tt
