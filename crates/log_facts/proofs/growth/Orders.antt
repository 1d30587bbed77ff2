-- What shard replicas have stays there.
use Rattle.std.proofs.Common.{◌≡◌, ◌≢◌, ℕ, ◌<◌, ◌≤◌, Some, sym, ◌∙◌, ap, subst, arith}
use Rattle.std.specs.Prelude.{option_map}
use Rattle.list_facts.proofs.Places.{below_at}
use Rattle.lazy_rules.specs.Pushing.{length_of}
use Rattle.lazy_rules.specs.ShardState.{ShardState}
use Rattle.log_facts.specs.Finality.{AllSettledIn, HasSettled, IsSettled}
use Rattle.log_facts.specs.Ghosts.{Views}
use Rattle.log_facts.specs.Growth.{OrderGrows, ShardGrows}
use Rattle.log_facts.specs.Signs.{NoneOpen, Sign, Lacking, sign_at, sign_of}

-- a place that an order has has a sign
pub sign_there : (s : ShardState) (place : ℕ) → place < length_of s → (sign : Sign) × (sign_at s place ≡ Some sign)
sign_there s place lt = let cell = below_at s.store.order place lt in (sign_of cell.0, ap (option_map sign_of) cell.1)

module _ (s t : ShardState) (grows : OrderGrows s t) where
  pub none_open_later : (upto : ℕ) → upto ≤ length_of s → NoneOpen s upto → NoneOpen t upto
  none_open_later upto le whole place sign lt is =
      let before = sign_there s place (omega arith) in
      let decided = whole place before.0 lt before.1 in
      let stays : sign_at t place ≡ Some before.0 = grows.signs place before.0 decided before.1 in
      let same : before.0 ≡ sign = let e : Some before.0 ≡ Some sign = sym stays ∙ is in cc in
      subst (λ (x : Sign). x.sort ≢ Lacking) same decided

  pub has_settled_later : (upto : ℕ) → HasSettled s upto → HasSettled t upto
  has_settled_later upto h =
      let longer = grows.longer in
      let rises = grows.placed in
      let has = h.has in
      let placed = h.placed in
      record { has = omega arith; whole = none_open_later upto h.has h.whole; placed = omega arith }

module _ (s t : ShardState) (grows : ShardGrows s t) where
  pub settled_later : (view upto : ℕ) → IsSettled s view upto → IsSettled t view upto
  settled_later view upto h =
      let own = h.own in
      let rises = grows.view in
      record {
        own = omega arith;
        settled = λ is.
            let stayed : s.view ≡ t.view = omega arith in
            has_settled_later s t (grows.order stayed) upto (h.settled (stayed ∙ is));
      }

module _ (v : Views) (shards next : ℕ → ShardState) (grow : (d : ℕ) → ShardGrows (shards d) (next d)) where
  pub all_settled_later : (view shard upto : ℕ) → AllSettledIn v shards view shard upto → AllSettledIn v next view shard upto
  all_settled_later view shard upto h d among = settled_later (shards d) (next d) (grow d) view upto (h d among)
