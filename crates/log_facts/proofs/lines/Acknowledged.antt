-- What was acknowledged is there: every first replica of its shard has its data, and none has a no-op of it.
use Rattle.std.proofs.Common.{◌≡◌, ℕ, ◌+◌, ◌<◌, ◌≤◌, List, [], ◌∷◌, length, true, Option, slice_get, inl, inr, refl, sym, ap, subst, arith}
use Rattle.std.specs.Prelude.{unwrap_or}
use Rattle.std.proofs.Math.Nat.{mod-lt}
use Rattle.std.proofs.lemmas.Bool.{cases_lt, eq-eqb}
use Rattle.list_facts.specs.Lists.{In}
use Rattle.list_facts.proofs.Members.{each_in}
use Rattle.list_facts.proofs.Places.{below_at, each_at}
use Rattle.rec_id.specs.Identity.{Identity, shard_of}
use Rattle.rec_id.specs.declared.event.Event.TheVariants.{Acked}
use Rattle.view_config.specs.declared.edition.Mode.TheVariants.{St}
use Rattle.view_config.specs.Shape.{Dimensions}
use Rattle.world_facts.specs.Members.{IsGroup}
use Rattle.lazy_rules.specs.ControlState.{newest}
use Rattle.lazy_rules.specs.Roles.{is_first, replicas_at}
use Rattle.lazy_rules.specs.Store.{has}
use Rattle.lazy_rules.specs.WorldState.{WorldState}
use Rattle.log_facts.specs.Finality.{GivenByAll, IsFinal}
use Rattle.log_facts.specs.Ghosts.{Ghost, Given}
use Rattle.log_facts.specs.facts.OfData.{GivenFacts, IsCounted, IsVoidAt}
use Rattle.log_facts.proofs.lines.Finals.{IsAgreed, a, at_home, final, listed, present}

-- a list that isn't empty has a first member
pub record First (nodes : List ℕ) : Type 0 where
  pub node : ℕ
  pub among : In node nodes
  pub is : is_first nodes node ≡ true

first_in : (nodes : List ℕ) → 1 ≤ length nodes → First nodes
first_in [] some = absurd (omega arith)
first_in (node ∷ nodes) some = record { node = node; among = inl refl; is = eq-eqb node node refl }

module _ (shape : Dimensions) (g : Ghost) (w : WorldState) (is : IsAgreed shape g w) where
  -- the shard of a record is one of the shape's
  pub some_shard : 0 < shape.shards
  some_shard = let some = is.formed.shards_least in omega arith

  pub shard_known : (id : Identity) → shard_of id shape.shards < shape.shards
  shard_known id = mod-lt (id.client + id.number) {m = shape.shards} some_shard

  -- the first replica of a shard in the configuration of a view
  pub leads_shard : (view shard : ℕ) → 1 ≤ view → shard < shape.shards → First (replicas_at (g.views.cf view) shard)
  leads_shard view shard some below =
      let named = is.agreed.views.configs.named view some in
      let count = named.count in
      let at = below_at (g.views.cf view).shards shard (omega arith) in
      let group : IsGroup shape at.0 = each_at (IsGroup shape) (g.views.cf view).shards named.shards shard at.0 at.1 in
      let nodes : unwrap_or (slice_get (g.views.cf view).shards shard) [] ≡ at.0 = ap (λ (o : Option (List ℕ)). unwrap_or o []) at.1 in
      subst First (sym nodes) (first_in at.0 group.some)

  module _ (id : Identity) (apart : shape.mode ≡ St) (acked : In (Acked id) w.history) where
    abbrev shard : ℕ
    shard = shard_of id shape.shards

    given : GivenByAll shape g.views g.log.given id
    given = is.agreed.told.of_data.acked id apart acked

    -- it was acknowledged in a view that was started
    is_past : given.view ≤ g.views.lv
    is_past = elim (cases_lt given.view g.views.lv) [
      | inl before ↦ omega arith
      | inr after ↦
          let latest = is.agreed.views.started.last given.view after in
          let started = given.started.is in
          omega arith
    ]

    gave : (d : ℕ) → In d (replicas_at (newest w.control) shard) → In (record { node = d; view = given.view; id = id }) g.log.given
    gave d h =
        let past = is_past in
        let latest = is.agreed.views.started.latest in
        given.by_all d ((is.agreed.views.configs.later given.view g.views.cur (omega arith) shard).members d (listed shape g w is shard d h))

    facts_of : (one : Given) → In one g.log.given → GivenFacts shape (a shape g w is).shards one
    facts_of one h = each_in (GivenFacts shape (a shape g w is).shards) g.log.given is.agreed.given.each one h

    pub has_it : (d : ℕ) → In d (replicas_at (newest w.control) shard) → has ((a shape g w is).shards d).store id ≡ true
    has_it d h = (facts_of (record { node = d; view = given.view; id = id }) (gave d h)).has

    -- in a view that went on no no-op of it counts
    no_void_beyond : (d place : ℕ) → In d (replicas_at (newest w.control) shard) → given.view < ((a shape g w is).shards d).view → IsCounted g.views ((a shape g w is).shards d).view place → IsVoidAt ((a shape g w is).shards d) id place → place < g.views.cl given.view
    no_void_beyond d place h beyond counted void =
        is.agreed.given.others given.view id given.started.some (λ b among later. given.by_all b among) d place (at_home shape g w is shard d h) beyond counted void

    pub no_void : (d place : ℕ) → In d (replicas_at (newest w.control) shard) → place < g.log.high → IsVoidAt ((a shape g w is).shards d) id place → ⊥
    no_void d place h below void =
        let first = leads_shard given.view shard given.started.some (shard_known id) in
        let past = is_past in
        let taken = present shape g w is shard d h in
        let behind = is.agreed.given.first (record { node = first.node; view = given.view; id = id }) (given.by_all first.node first.among) first.is d place (at_home shape g w is shard d h) (omega arith) void in
        let old = behind.0 in
        let after = behind.1 in
        by old after (final shape g w is shard d place h below)
      where
        by : given.view < g.views.cur → g.views.cl given.view ≤ place → IsFinal g.views g.log.high ((a shape g w is).shards d).view place → ⊥
        by old after (inl live) =
            let now = live.0 in
            let before = no_void_beyond d place h (omega arith) (inl live.0) void in
            absurd (omega arith)
        by old after (inr closed) = elim (cases_lt given.view ((a shape g w is).shards d).view) [
          | inl beyond ↦ let before = no_void_beyond d place h beyond (inr closed) void in absurd (omega arith)
          | inr within ↦
              let past = is_past in
              let taken = present shape g w is shard d h in
              let same : ((a shape g w is).shards d).view ≡ given.view = omega arith in
              let there_too = ap g.views.cl same in
              let here = closed.1 in
              absurd (omega arith)
        ]
