-- What shard replicas have of each other, and what they acknowledged, stays where the current view is closed.
use Rattle.std.proofs.Common.{◌≡◌, ℕ, ◌<◌, ◌≤◌, List, true, inl, inr, sym, ◌∙◌, subst, arith}
use Rattle.std.specs.Prelude.{slice_get}
use Rattle.std.proofs.lemmas.Bool.{cases_lt}
use Rattle.list_facts.specs.Lists.{In}
use Rattle.list_facts.proofs.Members.{each_in}
use Rattle.view_config.specs.declared.config.Config.{Config}
use Rattle.log_facts.specs.Parts.{home_of}
use Rattle.rec_id.specs.Identity.{Identity, shard_of}
use Rattle.rec_id.specs.declared.event.Event.{Event}
use Rattle.view_config.specs.Shape.{Dimensions}
use Rattle.lazy_rules.specs.Roles.{replicas_at, is_first}
use Rattle.lazy_rules.specs.ShardState.{ShardState}
use Rattle.log_facts.specs.Finality.{IsFinal, GivenByAll}
use Rattle.log_facts.specs.Ghosts.{Views, Log, Given, IsStarted}
use Rattle.log_facts.specs.Says.{RejectedSays}
use Rattle.log_facts.specs.facts.OfShards.{AmongShards}
use Rattle.log_facts.specs.facts.OfData.{GivenFacts, AwaitedFacts, IsCounted, FirstGiven, OthersGiven, AmongGiven, TrimIsDone, ToldOfData}
use Rattle.control_rows.proofs.Closing.{Closes, agree_still, still_started, was_final}

module _ (shape : Dimensions) (v w : Views) (from : ℕ) (c : Closes v w from) (shards : ℕ → ShardState)
    (known : (d : ℕ) → (shards d).view ≤ v.cur)
    (late : (view : ℕ) → v.cur ≤ view → v.sv view ≡ v.lv) where
  -- a started view is known
  pub started_known : (view : ℕ) → v.lv ≤ v.cur → IsStarted v view → view ≤ v.cur
  started_known view le h = elim (cases_lt v.cur view) [
    | inl after ↦ let is = late view (omega arith) in let own = h.is in absurd (omega arith)
    | inr not ↦ not
  ]

  -- whom a later view names the current one names
  named_before : (view shard d : ℕ) → v.cur < view → In d (replicas_at (w.cf view) shard) → In d (replicas_at (v.cf v.cur) shard)
  named_before view shard d lt m = (c.fewer view shard lt).members d m

  pub among_still : (high : ℕ) → from ≤ high → 1 ≤ v.cur → AmongShards shape v high shards → AmongShards shape w from shards
  among_still high below some m = record {
    there = m.there;
    agree = λ d e home one two. agree_still v w from c high below (shards d) (shards e) (known d) (known e) (m.agree d e home one two);
    copies = m.copies;
    noted = m.noted;
    ahead = λ d e one first. m.ahead d e one (subst (λ (config : Config). is_first (replicas_at config (home_of d)) e ≡ true) (c.named (shards d).view (known d)) first);
    present = λ view shard d least le named. elim (cases_lt v.cur view) [
      | inl after ↦
          let there = m.present v.cur shard d some (omega arith) (named_before view shard d after named) in
          let one = late view (omega arith) in
          let two = late v.cur (omega arith) in
          let same = c.sv_is view in
          omega arith
      | inr not ↦
          let there = m.present view shard d least not (subst (λ (config : Config). In d (replicas_at config shard)) (c.named view not) named) in
          let same = c.sv_is view in
          omega arith
    ];
  }

  -- ---- data
  pub awaited_still : (s : ShardState) → s.view ≤ v.cur → AwaitedFacts w s
  awaited_still s known is = let later = c.later in absurd (omega arith)

  was_counted : (view place : ℕ) → view ≤ v.cur → IsCounted w view place → IsCounted v view place
  was_counted view place within (inl now) = let later = c.later in absurd (omega arith)
  was_counted view place within (inr closed) = elim (cases_lt view v.cur) [
    | inl before ↦ let same = c.cl_is view before in let lt = closed.1 in let there : place < v.cl view = omega arith in inr (before, there)
    | inr not ↦ let is : view ≡ v.cur = omega arith in inl is
  ]

  first_still : (one : Given) → one.view ≤ (shards one.node).view → FirstGiven shape v shards one → FirstGiven shape w shards one
  first_still one own h first d place home le void =
      let within = known one.node in
      let below : one.view ≤ v.cur = omega arith in
      let k = h (subst (λ (config : Config). is_first (replicas_at config (shard_of one.id shape.shards)) one.node ≡ true) (c.named one.view below) first) d place home le void in
      let before = k.0 in
      let least = k.1 in
      let later = c.later in
      let same = c.cl_is one.view before in
      (omega arith, omega arith)

  others_still : (given : List Given) (view : ℕ) (id : Identity) → OthersGiven shape v given shards view id → OthersGiven shape w given shards view id
  others_still given view id h beyond d place home lt counted void =
      let within = known d in
      let before : view < v.cur = omega arith in
      let le : view ≤ v.cur = omega arith in
      let k = h (λ b m beyond_b. beyond b (subst (λ (config : Config). In b (replicas_at config (shard_of id shape.shards))) (sym (c.named view le)) m) beyond_b) d place home lt (was_counted (shards d).view place within counted) void in
      let same = c.cl_is view before in
      omega arith

  pub given_still : (given : List Given) → AmongGiven shape v given shards → AmongGiven shape w given shards
  given_still given m = record {
    each = m.each;
    first = λ one stands. first_still one (each_in (GivenFacts shape shards) given m.each one stands).own (m.first one stands);
    others = λ view id some. others_still given view id (m.others view id some);
  }

  trims_still : (floor : ℕ) → TrimIsDone v shards floor → TrimIsDone w shards floor
  trims_still floor h shard d m = h shard d (named_before w.cur shard d c.later m)

  all_still : v.lv ≤ v.cur → (given : List Given) (id : Identity) → GivenByAll shape v given id → GivenByAll shape w given id
  all_still within given id h =
      let le = started_known h.view within h.started in
      record {
        view = h.view;
        started = still_started v w from c h.view h.started;
        by_all = λ d m. h.by_all d (subst (λ (config : Config). In d (replicas_at config (shard_of id shape.shards))) (c.named h.view le) m);
      }

  module _ (log now : Log) (high_is : now.high ≡ from) (below : from ≤ log.high) (rises : log.low ≤ now.low) (within : log.low ≤ from)
      (kept : (place : ℕ) → place < from → slice_get now.line place ≡ slice_get log.line place) where
    pub rejected_still : (id : Identity) (place : ℕ) → RejectedSays shape v log shards id place → RejectedSays shape w now shards id place
    rejected_still id place r = record {
      apart = r.apart;
      below = let lt = r.below in omega arith;
      stands = let lt = r.below in let there : place < from = omega arith in kept place there ∙ r.stands;
      void = λ d home some final. r.void d home some (was_final v w from c log.high below (shards d).view place (known d) (subst (λ (high : ℕ). IsFinal w high (shards d).view place) high_is final));
    }

    pub told_still : v.lv ≤ v.cur → now.given ≡ log.given → (history : List Event) → ToldOfData shape v log history shards → ToldOfData shape w now history shards
    told_still le same history t = record {
      acked = λ id apart stands. rw same (all_still le log.given id (t.acked id apart stands));
      rejected = λ id place stands. rejected_still id place (t.rejected id place stands);
      trimmed = λ client read floor stands. trims_still floor (t.trimmed client read floor stands);
    }
