-- At a Tick a node that changes sends something, and at a Grace it has no open cell any more.
use Rattle.std.proofs.Common.{◌≡◌, ◌≤◌, ℕ, List, [], ◌∷◌, ◌++◌, length, Bool, true, false, Some, refl, sym, ap, ◌∙◌, arith, eqb-true}
use Rattle.std.specs.Prelude.{◌&&◌, ◌==◌, nat_lt, not, if◌then◌else◌}
use Rattle.std.specs.List.{flat_map, list_all}
use Rattle.std.specs.Option.{is_some, option_map_or}
use Rattle.std.proofs.Math.Bool.{beq}
use Rattle.std.proofs.lemmas.Bool.{and_parts, or_parts}
use Rattle.list_facts.proofs.Cases.{either, some_or_none}
use Rattle.list_facts.proofs.Positions.{position_any}
use Rattle.rec_id.specs.declared.item.Cell.{Cell}
use Rattle.view_config.specs.Shape.{Dimensions, IsShape}
use Rattle.view_config.specs.declared.config.Config.{Config}
use Rattle.view_config.specs.declared.nodes.TheConstants.{CONTROLLER}
use Rattle.lazy_msgs.specs.declared.input.Input.{Input}
use Rattle.lazy_msgs.specs.declared.input.Input.TheVariants.{Tick, Grace}
use Rattle.lazy_msgs.specs.declared.msg.Msg.{Msg}
use Rattle.lazy_msgs.specs.declared.msg.Msg.TheVariants.{AskView, Place}
use Rattle.lazy_msgs.specs.Step.{Row}
use Rattle.lazy_rules.specs.ClientNode.{ClientNode, appends_tick, asks_view, is_appending, is_busy, is_reading, on_node_tick, reads_tick}
use Rattle.lazy_rules.specs.ClientState.{ClientState}
use Rattle.lazy_rules.specs.ControlState.{ControlState}
use Rattle.lazy_rules.specs.Door.{is_config, is_node_list}
use Rattle.lazy_rules.specs.Flight.{Batch, lacks_place}
use Rattle.lazy_rules.specs.Items.{items_for}
use Rattle.lazy_rules.specs.Leading.{begins, behind, items_in, next_batch, place_sends, place_to, resends, with_next}
use Rattle.lazy_rules.specs.ReaderRules.{on_reader_tick}
use Rattle.lazy_rules.specs.ReaderState.{ReaderState, Stage, Idle, Fetching, Probing, Trimming, is_at_work}
use Rattle.lazy_rules.specs.Roles.{first_of}
use Rattle.lazy_rules.specs.Rows.{stays, sends_all, followed, each_numbered, to_each}
use Rattle.lazy_rules.specs.SeqRules.{is_leading, on_tick}
use Rattle.lazy_rules.specs.SeqState.{SeqState}
use Rattle.lazy_rules.specs.ShardRules.{gives_up, on_grace, with_store}
use Rattle.lazy_rules.specs.ShardState.{ShardState}
use Rattle.lazy_rules.specs.Store.{first_open, has_open, is_open, open_to_noop}
use Rattle.lazy_rules.specs.declared.limits.TheConstants.{FLIGHT_LIMIT}
use Rattle.lazy_core.specs.declared.node_state.NodeState.{NodeState}
use Rattle.lazy_core.specs.declared.node_state.NodeState.TheVariants.{Seq, Shard, Client, Control}
use Rattle.lazy_core.specs.NodeStep.{client_of, halves_of, node_step}
use Rattle.node_diary.specs.Calling.{IsTraced, has_open_cell}
use Rattle.node_diary.specs.Fed.{IsSeated}
use Rattle.node_diary.specs.Feeding.{IsIdle, is_moment}
use Rattle.node_diary.proofs.SeqSeats.{Seated}
use Rattle.node_diary.proofs.ShardNoops.{all_pushed, noops_closed}

-- two lists that make the empty one
second_empty : {A : Type 0} (xs ys : List A) → xs ++ ys ≡ [] → ys ≡ []
second_empty [] ys h = h
second_empty (x ∷ xs) ys h = cc

-- ---- a client
asks_same : (busy : Bool) (n : ClientNode) → (asks_view busy n).next ≡ n
asks_same true n = refl
asks_same false n = refl

asks_none : (busy : Bool) (n : ClientNode) → (asks_view busy n).sends ≡ [] → busy ≡ false
asks_none true n h = let wrong : ◌≡◌ {A = List (ℕ × Msg)} ((CONTROLLER, AskView) ∷ []) [] = h in cc
asks_none false n h = refl

reader_still : (reads : ReaderState) (stage : Stage) → is_at_work stage ≡ false → (on_reader_tick (record reads { stage = stage })).next ≡ record reads { stage = stage }
reader_still reads Idle h = refl
reader_still reads (Fetching fetch) h = let wrong : true ≡ false = h in cc
reader_still reads (Probing force) h = let wrong : true ≡ false = h in cc
reader_still reads (Trimming trimmer) h = let wrong : true ≡ false = h in cc

client_still : (appends : ClientState) (reads : ReaderState) → (on_node_tick (halves_of appends reads)).sends ≡ [] → (on_node_tick (halves_of appends reads)).next ≡ halves_of appends reads
client_still appends reads silent =
    let n : ClientNode = halves_of appends reads in
    let first : Row ClientNode = followed (appends_tick n) reads_tick in
    let free = asks_none (is_busy n) first.next (second_empty first.sends (asks_view (is_busy n) first.next).sends silent) in
    let resting = (or_parts (is_appending appends) (is_reading reads) free).1 in
    asks_same (is_busy n) first.next ∙ ap (λ (r : ReaderState). halves_of appends r) (reader_still reads reads.stage resting)

-- ---- a sequencing replica
-- the first shard has a first replica
abbrev HasFirst : List (List ℕ) → Type 0
HasFirst [] = ⊥
HasFirst ([] ∷ others) = ⊥
HasFirst ((node ∷ nodes) ∷ others) = Unit {0}

first_there : (shape : Dimensions) → 1 ≤ shape.shards → (shards : List (List ℕ)) → (length shards == shape.shards) ≡ true → list_all (is_node_list shape) shards ≡ true → HasFirst shards
first_there shape some [] count all = let none : 0 ≡ shape.shards = eqb-true 0 shape.shards count in absurd (omega arith)
first_there shape some ([] ∷ others) count all = let wrong : false ≡ true = all in cc
first_there shape some ((node ∷ nodes) ∷ others) count all = tt

config_first : (shape : Dimensions) → 1 ≤ shape.shards → (config : Config) → is_config shape config ≡ true → HasFirst config.shards
config_first shape some config h =
    let parts = and_parts (is_node_list shape config.seq && length config.shards == shape.shards) (list_all (is_node_list shape) config.shards) h in
    let counted = (and_parts (is_node_list shape config.seq) (length config.shards == shape.shards) parts.0).1 in
    first_there shape some config.shards counted parts.1

places_some : (s : SeqState) (batch : Batch) → lacks_place batch 0 ≡ true → (shards : List (List ℕ)) → HasFirst shards → ¬ (each_numbered (place_to s batch) 0 shards ≡ [])
places_some s batch lacks [] there none = there
places_some s batch lacks ([] ∷ others) there none = there
places_some s batch lacks ((node ∷ nodes) ∷ others) there none =
    let msg : Msg = Place s.view batch.from (items_for s.shape 0 batch.from (items_in s batch)) in
    let first : place_to s batch 0 (node ∷ nodes) ≡ (node, msg) ∷ [] = ap (λ (b : Bool). if b then to_each (first_of (node ∷ nodes)) msg else []) lacks in
    let wrong : (node, msg) ∷ each_numbered (place_to s batch) 1 others ≡ [] = ap (λ (l : List (ℕ × Msg)). l ++ each_numbered (place_to s batch) 1 others) (sym first) ∙ none in
    absurd (let no : ⊥ = cc in no)

-- a row that sends nothing leaves the state
record Still (s : SeqState) (row : Row SeqState) : Type 0 where
  is : row.sends ≡ [] → row.next ≡ s

begins_still : (shape : Dimensions) → 1 ≤ shape.shards → (s : SeqState) → Seated shape s → Still s (begins s)
begins_still shape some s ok =
    either (Still s) (nat_lt (length s.flight) FLIGHT_LIMIT && nat_lt 0 (length (behind s))) (sends_all (with_next s) (place_sends s (next_batch s))) (stays s)
    (λ h. record { is = λ silent. absurd (places_some s (next_batch s) refl s.config.shards (config_first shape some s.config ok.1) silent) })
    (λ h. record { is = λ silent. refl })

seq_still : (shape : Dimensions) → 1 ≤ shape.shards → (s : SeqState) → Seated shape s → Still s (on_tick s)
seq_still shape some s ok =
    either (Still s) (is_leading s s.view) (followed (sends_all s (flat_map (resends s) s.flight)) begins) (stays s)
    (λ h. record { is = λ silent. (begins_still shape some s ok).is (second_empty (flat_map (resends s) s.flight) (begins s).sends silent) })
    (λ h. record { is = λ silent. refl })

-- ---- a shard replica
-- a row that leaves open what was open leaves the state
record StillOpen (s : ShardState) (row : Row ShardState) : Type 0 where
  is : has_open row.next.store ≡ has_open s.store → row.next ≡ s

given_up : (s : ShardState) (place : ℕ) → first_open s.store ≡ Some place → StillOpen s (gives_up s place)
given_up s place is = record {
  is = λ same.
      let some : has_open s.store ≡ true = sym (position_any (λ (cell : Cell). is_open cell.body) s.store.order) ∙ ap is_some is in
      let after : has_open (gives_up s place).next.store ≡ false = ap has_open (all_pushed (open_to_noop s.store) (with_store s (open_to_noop s.store)) refl place) ∙ noops_closed s.store in
      let wrong : false ≡ true = sym after ∙ same ∙ some in
      absurd (let no : ⊥ = cc in no);
}

shard_still : (s : ShardState) → StillOpen s (on_grace s)
shard_still s =
    either (StillOpen s) s.primary (option_map_or (gives_up s) (first_open s.store) (stays s)) (stays s)
    (λ h. some_or_none (StillOpen s) (gives_up s) (first_open s.store) (stays s) (given_up s) (λ none. record { is = λ same. refl }))
    (λ h. record { is = λ same. refl })

-- ---- a node of any role
module _ (shape : Dimensions) (formed : IsShape shape) (steps : ℕ) where
  abbrev Leaves : NodeState → Input → Type 0
  Leaves state input = is_moment input ≡ true → (node_step state input).sends ≡ [] → has_open_cell (node_step state input).next ≡ has_open_cell state → (node_step state input).next ≡ state

  still_client : (appends : ClientState) (reads : ReaderState) (input : Input) → Leaves (Client appends reads) input
  still_client appends reads Tick moment silent opens = ap client_of (client_still appends reads silent)
  still_client appends reads Grace moment silent opens = refl
  still_client appends reads _ moment silent opens = let wrong : false ≡ true = moment in cc

  still_control : (k : ControlState) (input : Input) → Leaves (Control k) input
  still_control k Tick moment silent opens = refl
  still_control k Grace moment silent opens = refl
  still_control k _ moment silent opens = let wrong : false ≡ true = moment in cc

  still_seq : (s : SeqState) → Seated shape s → (input : Input) → Leaves (Seq s) input
  still_seq s ok Tick moment silent opens = ap Seq ((seq_still shape formed.shards_least s ok).is silent)
  still_seq s ok Grace moment silent opens = refl
  still_seq s ok _ moment silent opens = let wrong : false ≡ true = moment in cc

  still_shard : (s : ShardState) (input : Input) → Leaves (Shard s) input
  still_shard s Tick moment silent opens = refl
  still_shard s Grace moment silent opens = ap Shard ((shard_still s).is opens)
  still_shard s _ moment silent opens = let wrong : false ≡ true = moment in cc

  pub node_still : (state : NodeState) → IsSeated shape steps state → (input : Input) → Leaves state input
  node_still (Client appends reads) ok input = still_client appends reads input
  node_still (Control k) ok input = still_control k input
  node_still (Seq s) ok input = still_seq s ok input
  node_still (Shard s) ok input = still_shard s input

-- whether a cell is open any more tells whether the node is idle
traced_by : (state : NodeState) (input : Input) (was is : Bool) → (is ≡ was → IsIdle state input) → (IsIdle state input → is ≡ was) → IsTraced state input (not (beq is was))
traced_by state input true true still same = record { idle = λ h. still refl; busy = λ h. cc }
traced_by state input false false still same = record { idle = λ h. still refl; busy = λ h. cc }
traced_by state input true false still same = record { idle = λ h. cc; busy = λ h idle. let wrong : false ≡ true = same idle in absurd (let no : ⊥ = cc in no) }
traced_by state input false true still same = record { idle = λ h. cc; busy = λ h idle. let wrong : true ≡ false = same idle in absurd (let no : ⊥ = cc in no) }

pub traced : (shape : Dimensions) → IsShape shape → (steps : ℕ) (state after : NodeState) (input : Input) → IsSeated shape steps state → is_moment input ≡ true → (node_step state input).sends ≡ [] → after ≡ (node_step state input).next
    → (was is : Bool) → was ≡ has_open_cell state → is ≡ has_open_cell after → IsTraced state input (not (beq is was))
traced shape formed steps state after input ok moment silent went was is had has =
    traced_by state input was is
    (λ same. record {
      moment = moment;
      same = node_still shape formed steps state ok input moment silent (ap has_open_cell (sym went) ∙ sym has ∙ same ∙ had);
      silent = silent;
    })
    (λ idle. has ∙ ap has_open_cell (went ∙ idle.same) ∙ sym had)
