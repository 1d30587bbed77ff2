-- Holders and lines read shape, controller, replicas, and who is crashed.
use Rattle.std.proofs.Common.{◌≡◌, ℕ, List, [], ◌∷◌, map, filter, find, position, not, Bool, Result, Ok, Err, refl, sym, ap, ◌∙◌, option_and_then, is_none}
use Rattle.std.specs.Option.{option_map_or}
use Rattle.std.proofs.Math.Path.{fun_ext}
use Rattle.rec_id.specs.declared.entry.Entry.{Entry}
use Rattle.view_config.specs.Nodes.{taken_state}
use Rattle.view_config.specs.Shape.{Dimensions}
use Rattle.view_config.specs.declared.config.Config.{Config}
use Rattle.lazy_rules.specs.ControlState.{ControlState, latest_started, newest}
use Rattle.lazy_rules.specs.Holders.{holders, holding, is_alive}
use Rattle.lazy_rules.specs.Lines.{line_over, line_told, store_numbered}
use Rattle.lazy_rules.specs.Rows.{has_node}
use Rattle.lazy_rules.specs.SeqState.{SeqState}
use Rattle.lazy_rules.specs.ShardState.{ShardState}
use Rattle.lazy_rules.specs.WorldState.{WorldState}
use Rattle.diary_laws.specs.Snapshots.{HoldAlike}

pub record Same (v w : WorldState) : Type 0 where
  pub shape : v.shape ≡ w.shape
  pub control : v.control ≡ w.control
  pub seqs : v.seqs ≡ w.seqs
  pub shards : v.shards ≡ w.shards
  pub crashed : (node : ℕ) → has_node v.crashed node ≡ has_node w.crashed node

-- a world with these replicas and nothing else
abbrev plain : Dimensions → ControlState → List SeqState → List ShardState → WorldState
plain shape k seqs shards = record {
  shape = shape;
  clients = [];
  readers = [];
  control = k;
  seqs = seqs;
  shards = shards;
  times = [];
  crashed = [];
  sent = [];
  history = [];
  events = 0;
}

abbrev holders_by : (ℕ → Bool) → ControlState → List ℕ
holders_by alive k = option_map_or (λ (config : Config). filter alive config.seq) (latest_started k.phase) (taken_state ∷ [])

abbrev line_by : Dimensions → (ℕ → Bool) → ControlState → List SeqState → List ShardState → ℕ → Result (List Entry) ℕ
line_by shape alive k seqs shards holder =
    option_map_or Err (position (λ (nodes : List ℕ). is_none (find alive nodes)) (newest k).shards)
    (Ok (line_over shape (map (λ (nodes : List ℕ). option_and_then (store_numbered (plain shape k seqs shards)) (find alive nodes)) (newest k).shards) (holding (plain shape k seqs shards) holder)))

holders_read : (w : WorldState) → holders w ≡ holders_by (is_alive w) w.control
holders_read w = refl

line_read : (w : WorldState) (holder : ℕ) → line_told w holder ≡ line_by w.shape (is_alive w) w.control w.seqs w.shards holder
line_read w holder = refl

module _ (v w : WorldState) (same : Same v w) where
  alive : is_alive v ≡ is_alive w
  alive = fun_ext (λ node. ap not (same.crashed node))

  pub alike : HoldAlike v w
  alike = record {
    holders = holders_read v
        ∙ ap (λ (a : ℕ → Bool). holders_by a v.control) alive
        ∙ ap (holders_by (is_alive w)) same.control
        ∙ sym (holders_read w);
    lines = λ holder. line_read v holder
        ∙ ap (λ (d : Dimensions). line_by d (is_alive v) v.control v.seqs v.shards holder) same.shape
        ∙ ap (λ (a : ℕ → Bool). line_by w.shape a v.control v.seqs v.shards holder) alive
        ∙ ap (λ (k : ControlState). line_by w.shape (is_alive w) k v.seqs v.shards holder) same.control
        ∙ ap (λ (s : List SeqState). line_by w.shape (is_alive w) w.control s v.shards holder) same.seqs
        ∙ ap (λ (s : List ShardState). line_by w.shape (is_alive w) w.control w.seqs s holder) same.shards
        ∙ sym (line_read w holder);
  }
