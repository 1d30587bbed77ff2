-- What was acknowledged to be there stays there, where a replica changes its order or its view.
use Rattle.std.proofs.Common.{◌≡◌, ℕ, ◌<◌, ◌≤◌, List, true, arith}
use Rattle.list_facts.specs.Lists.{In, put}
use Rattle.list_facts.proofs.Members.{each_weaker}
use Rattle.list_facts.proofs.Puts.{put_cases}
use Rattle.rec_id.specs.Identity.{Identity, shard_of}
use Rattle.view_config.specs.Shape.{Dimensions}
use Rattle.view_config.specs.declared.edition.Mode.TheVariants.{St}
use Rattle.lazy_rules.specs.Roles.{is_first, replicas_at}
use Rattle.lazy_rules.specs.ShardState.{ShardState}
use Rattle.lazy_rules.specs.Store.{has}
use Rattle.log_facts.specs.Ghosts.{Views, Given}
use Rattle.log_facts.specs.Parts.{home_of}
use Rattle.log_facts.specs.facts.OfData.{AmongGiven, FirstGiven, GivenBeyond, GivenFacts, IsCounted, IsVoidAt, OthersGiven}

module _ (shape : Dimensions) (v : Views) (given : List Given) (shards : ℕ → ShardState) (me : ℕ) (t : ShardState) where
  -- what is to be shown: what is there stays, and where a no-op stands that doesn't count
  pub record KeepsGiven : Type 0 where
    pub rises : (shards me).view ≤ t.view
    pub stays : shape.mode ≡ St → (id : Identity) → has (shards me).store id ≡ true → has t.store id ≡ true
    pub first : (one : Given) → In one given → is_first (replicas_at (v.cf one.view) (shard_of one.id shape.shards)) one.node ≡ true → home_of me ≡ shard_of one.id shape.shards → one.view ≤ t.view →
        (place : ℕ) → IsVoidAt t one.id place → (one.view < v.cur) × (v.cl one.view ≤ place)
    pub others : (view : ℕ) (id : Identity) → 1 ≤ view → GivenBeyond shape v given shards view id → home_of me ≡ shard_of id shape.shards → view < t.view →
        (place : ℕ) → IsCounted v t.view place → IsVoidAt t id place → place < v.cl view

  module _ (keeps : KeepsGiven) (among : AmongGiven shape v given shards) where
    grown : (d : ℕ) → (shards d).view ≤ (put shards me t d).view
    grown = put_cases (λ (d : ℕ) (x : ShardState). (shards d).view ≤ x.view) shards me t keeps.rises (λ d other. omega arith)

    still_has : (d : ℕ) → shape.mode ≡ St → (id : Identity) → has (shards d).store id ≡ true → has (put shards me t d).store id ≡ true
    still_has = put_cases (λ (d : ℕ) (x : ShardState). shape.mode ≡ St → (id : Identity) → has (shards d).store id ≡ true → has x.store id ≡ true) shards me t keeps.stays (λ d other apart id h. h)

    given_still : (one : Given) → GivenFacts shape shards one → GivenFacts shape (put shards me t) one
    given_still one f =
        let own = f.own in
        let rises = grown one.node in
        record { apart = f.apart; some = f.some; own = omega arith; has = still_has one.node f.apart one.id f.has }

    first_still : (one : Given) → In one given → FirstGiven shape v (put shards me t) one
    first_still one i leads = put_cases (λ (d : ℕ) (x : ShardState). (place : ℕ) → home_of d ≡ shard_of one.id shape.shards → one.view ≤ x.view → IsVoidAt x one.id place → (one.view < v.cur) × (v.cl one.view ≤ place)) shards me t
        (λ place home own void. keeps.first one i leads home own place void)
        (λ d other. among.first one i leads d)

    before : (view : ℕ) (id : Identity) → GivenBeyond shape v given (put shards me t) view id → GivenBeyond shape v given shards view id
    before view id beyond b listed past = let rises = grown b in beyond b listed (omega arith)

    others_still : (view : ℕ) (id : Identity) → 1 ≤ view → OthersGiven shape v given (put shards me t) view id
    others_still view id some beyond = put_cases (λ (d : ℕ) (x : ShardState). (place : ℕ) → home_of d ≡ shard_of id shape.shards → view < x.view → IsCounted v x.view place → IsVoidAt x id place → place < v.cl view) shards me t
        (λ place home past counted void. keeps.others view id some (before view id beyond) home past place counted void)
        (λ d other. among.others view id some (before view id beyond) d)

    pub given_kept : AmongGiven shape v given (put shards me t)
    given_kept = record { each = each_weaker (GivenFacts shape shards) (GivenFacts shape (put shards me t)) given_still given among.each; first = first_still; others = others_still }
