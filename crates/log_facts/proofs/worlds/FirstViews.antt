-- What is known of views at first, and that it is true.
use Rattle.std.proofs.Common.{◌≡◌, ℕ, zero, suc, ◌+◌, ◌<◌, ◌≤◌, min, List, [], map, Some, None, slice_get, inl, inr, refl, sym, subst, arith}
use Rattle.std.specs.Prelude.{unwrap_or}
use Rattle.std.specs.List.{range_with_len}
use Rattle.list_facts.specs.Lists.{In, Distinct}
use Rattle.list_facts.proofs.Members.{in_mapped}
use Rattle.list_facts.proofs.Ranges.{in_range_below}
use Rattle.view_config.specs.Config.{first_copies, first_seqs, initial_config}
use Rattle.view_config.specs.Nodes.{seq_id, shard_id}
use Rattle.view_config.specs.Shape.{Dimensions, IsShape}
use Rattle.lazy_rules.specs.ControlState.{first_control}
use Rattle.lazy_rules.specs.Roles.{replicas_at}
use Rattle.lazy_rules.specs.SeqState.{empty_window}
use Rattle.world_facts.proofs.Lists.{made_at}
use Rattle.world_facts.proofs.goes.All.{first_named}
use Rattle.log_facts.specs.Ghosts.{Ghost, Log, Views}
use Rattle.log_facts.specs.Parts.{home_of}
use Rattle.log_facts.specs.facts.OfViews.{BoundsFacts, ConfigFacts, ConfigsFacts, ControlFacts, StartedFacts, ViewFacts}

-- view 1 at first, in which nothing is bound
abbrev pub first_views : Dimensions → Views
first_views shape = record {
  lv = 1;
  cur = 1;
  cf = λ w. record (initial_config shape) { view = w };
  sv = λ w. min w 1;
  bs = λ w. 0;
  wn = λ w. empty_window shape;
  cl = λ w. 0;
  le = λ w. 0;
  cx = λ w. 0;
}

abbrev pub first_log : Log
first_log = record { line = []; low = 0; high = 0; given = []; probed = [] }

abbrev pub first_ghost : Dimensions → Ghost
first_ghost shape = record { views = first_views shape; log = first_log }

-- ---- lists without repetition
in_range_least : (from count n : ℕ) → In n (range_with_len from count) → from ≤ n
in_range_least from zero n h = absurd h
in_range_least from (suc count) n (inl e) = omega arith
in_range_least from (suc count) n (inr h) = let later = in_range_least (from + 1) count n h in omega arith

in_range_most : (from count n : ℕ) → In n (range_with_len from count) → n < from + count
in_range_most from zero n h = absurd h
in_range_most from (suc count) n (inl e) = omega arith
in_range_most from (suc count) n (inr h) = let later = in_range_most (from + 1) count n h in omega arith

-- numbers of nodes that rise with their places are different
map_distinct : (f : ℕ → ℕ) → ((m n : ℕ) → f m ≡ f n → m ≡ n) → (from count : ℕ) → Distinct (map f (range_with_len from count))
map_distinct f one from zero = tt
map_distinct f one from (suc count) = (
  (λ twice. let k = in_mapped f (f from) (range_with_len (from + 1) count) twice in
      let least = in_range_least (from + 1) count k.0 k.1 in
      let same = one k.0 from k.2 in
      omega arith),
  map_distinct f one (from + 1) count,
)

seq_once : (m n : ℕ) → seq_id m ≡ seq_id n → m ≡ n
seq_once m n e = omega arith

shard_once : (shard m n : ℕ) → shard_id shard m ≡ shard_id shard n → m ≡ n
shard_once shard m n e = omega arith

pub seqs_at_first : (count node : ℕ) → In node (first_seqs count) → (i : ℕ) × (i < count) × (node ≡ seq_id i)
seqs_at_first count node h = let k = in_mapped seq_id node (range_with_len 0 count) h in (k.0, in_range_below count k.0 k.1, sym k.2)

pub copies_at_first : (copies shard node : ℕ) → In node (first_copies copies shard) → (j : ℕ) × (j < copies) × (node ≡ shard_id shard j)
copies_at_first copies shard node h = let k = in_mapped (shard_id shard) node (range_with_len 0 copies) h in (k.0, in_range_below copies k.0 k.1, sym k.2)

pub home_at : (shard j : ℕ) → j < 4 → home_of (shard_id shard j) ≡ shard
home_at shard j few = omega arith

module _ (shape : Dimensions) (formed : IsShape shape) where
  -- the replicas of a shard, and none where the shape lacks it
  pub replicas_first : (w shard : ℕ) (P : List ℕ → Type 0) → (shard < shape.shards → P (first_copies shape.copies shard)) → P [] → P (replicas_at ((first_views shape).cf w) shard)
  replicas_first w shard P some none = by (slice_get (map (first_copies shape.copies) (range_with_len 0 shape.shards)) shard) refl
    where
      by : (o : _) → slice_get (map (first_copies shape.copies) (range_with_len 0 shape.shards)) shard ≡ o → P (unwrap_or o [])
      by None e = none
      by (Some nodes) e = let k = made_at (first_copies shape.copies) shape.shards shard nodes e in subst P (sym k.1) (some k.0)

  pub lists_first : (w : ℕ) → ConfigFacts ((first_views shape).cf w)
  lists_first w = record {
    members = map_distinct seq_id seq_once 0 shape.seq;
    replicas = λ shard. replicas_first w shard (λ (nodes : List ℕ). Distinct nodes) (λ there. map_distinct (shard_id shard) (shard_once shard) 0 shape.copies) tt;
    homes = λ shard d. replicas_first w shard (λ (nodes : List ℕ). In d nodes → home_of d ≡ shard)
        (λ there among.
        let k = copies_at_first shape.copies shard d among in
        let few = formed.copies_most in
        subst (λ (n : ℕ). home_of n ≡ shard) (sym k.2) (home_at shard k.0 (let lt = k.1 in omega arith)))
        (λ among. absurd among);
  }

  configs_first : ConfigsFacts shape (first_views shape)
  configs_first = record {
    named = λ w some.
        let first = first_named shape formed in
        record { view = some; some = first.some; few = first.few; seq = first.seq; count = first.count; shards = first.shards };
    numbered = λ w. refl;
    lists = lists_first;
    later = λ u w le shard. record { members = λ x h. h; pairs = λ x y h. h };
  }

  started_first : StartedFacts (first_views shape)
  started_first = record {
    some = omega arith;
    latest = omega arith;
    below = λ w. omega arith;
    again = λ w. omega arith;
    rise = λ u w le. omega arith;
    first = λ w some. omega arith;
    last = λ w le. omega arith;
  }

  bounds_first : BoundsFacts (first_views shape)
  bounds_first = record {
    bases_rise = λ u w le. omega arith;
    closings_rise = λ u w le. omega arith;
    ends_rise = λ u w le. omega arith;
    latest = λ w le. refl;
    closed = λ w lt. omega arith;
    ended = λ w lt. omega arith;
    based = λ u w lt started. omega arith;
    one_closing = λ w lt. refl;
    one_end = λ w lt. refl;
  }

  control_first : ControlFacts (first_views shape) (first_control shape)
  control_first = record {
    phase = record { live = refl; config = refl };
    base = refl;
    window = refl;
    spares = map_distinct seq_id seq_once shape.seq shape.spares;
    unnamed = λ node spare member.
        let k = seqs_at_first shape.seq node member in
        let m = in_mapped seq_id node (range_with_len shape.seq shape.spares) spare in
        let least = in_range_least shape.seq shape.spares m.0 m.1 in
        let same = m.2 in
        let lt = k.1 in
        let is = k.2 in
        omega arith;
  }

  pub views_first : ViewFacts shape (first_views shape) (first_control shape)
  views_first = record { configs = configs_first; started = started_first; bounds = bounds_first; control = control_first }
