-- A step of a shard replica that keeps its view and its places, and may decide cells that are open.
use Rattle.std.proofs.Common.{◌≡◌, ◌≢◌, ℕ, ◌<◌, ◌≤◌, List, [], map, Some, None, ◌⊎◌, inl, inr, refl, sym, ◌∙◌, ap, subst, arith, Bool, true, false}
use Rattle.std.specs.Prelude.{option_map, slice_get}
use Rattle.std.specs.Option.{is_some}
use Rattle.std.specs.List.{list_any}
use Rattle.std.proofs.lemmas.Bool.{and_parts, cases_lt, or_cases}
use Rattle.list_facts.specs.Lists.{Each, In, put}
use Rattle.list_facts.proofs.Distinctness.{distinct_place}
use Rattle.list_facts.proofs.Members.{each_in, in_each, in_passes}
use Rattle.list_facts.proofs.Places.{at_in}
use Rattle.list_facts.proofs.Puts.{put_cases, put_own}
use Rattle.rec_id.specs.Identity.{Identity, same_id, shard_of}
use Rattle.rec_id.specs.declared.item.Body.TheVariants.{Open}
use Rattle.rec_id.specs.declared.item.Cell.{Cell}
use Rattle.view_config.specs.Shape.{Dimensions}
use Rattle.view_config.specs.declared.edition.Mode.TheVariants.{St}
use Rattle.lazy_rules.specs.Pushing.{length_of}
use Rattle.lazy_rules.specs.Roles.{is_first, others_of, replicas_at}
use Rattle.lazy_rules.specs.ShardRules.{first_unplaced}
use Rattle.lazy_rules.specs.ShardState.{Backup, ShardState}
use Rattle.lazy_rules.specs.Store.{has, has_data, held_bytes, is_cell_of}
use Rattle.log_facts.specs.Finality.{IsFinal}
use Rattle.log_facts.specs.Ghosts.{Ghost, Given}
use Rattle.log_facts.specs.Good.{Moment}
use Rattle.log_facts.specs.Growth.{ShardGrows, StaysFinal}
use Rattle.log_facts.specs.Parts.{Parts, home_of}
use Rattle.log_facts.specs.Signs.{Lacking, NoneOpen, Sign, Sort, Void, ordered_at, sign_at}
use Rattle.log_facts.specs.facts.OfData.{AmongGiven, AwaitedFacts, DataFacts, FirstGiven, GivenBeyond, GivenFacts, IsCounted, IsVoidAt, OthersGiven}
use Rattle.log_facts.specs.facts.OfShards.{AgreeOnFinal, BackupNoted, FinalFacts, IsCopyOf, JobFacts, OrderFacts, RankFacts, StoreFacts}
use Rattle.log_facts.proofs.Identities.{same_is}
use Rattle.log_facts.proofs.growth.Orders.{sign_there}
use Rattle.log_facts.proofs.telling.Stands.{shard_same}
use Rattle.shard_rows.proofs.Placing.{cell_at, first_alone, first_in, lacking_open, ordered_is, sign_within}
use Rattle.shard_rows.proofs.Stepping.{Shows}

-- an open cell was decided at this place
pub record IsDecided (s t : ShardState) (place : ℕ) : Type 0 where
  pub id : Identity
  pub sort : Sort
  pub some : sort ≢ Lacking
  pub was : sign_at s place ≡ Some (record { id = id; sort = Lacking })
  pub now : sign_at t place ≡ Some (record { id = id; sort = sort })

abbrev pub StaysOrDecided : ShardState → ShardState → ℕ → Type 0
StaysOrDecided s t place = (sign_at t place ≡ sign_at s place) ⊎ IsDecided s t place

-- an acknowledgement that this replica makes now, of data that it has and that didn't become a no-op
pub record IsNewlyGiven (shape : Dimensions) (me : ℕ) (t : ShardState) (one : Given) : Type 0 where
  pub apart : shape.mode ≡ St
  pub own : one.node ≡ me
  pub now : one.view ≡ t.view
  pub some : 1 ≤ t.view
  pub has : has t.store one.id ≡ true
  pub unvoid : (place : ℕ) → ¬ IsVoidAt t one.id place

module _ (shape : Dimensions) (g : Ghost) (a : Parts) (me : ℕ) (moment : Moment shape g a) where
  abbrev s : ShardState
  s = a.shards me

  pub record Decides (given : List Given) (t : ShardState) : Type 0 where
    pub view : t.view ≡ s.view
    pub primary : t.primary ≡ s.primary
    pub length : length_of t ≡ length_of s
    pub places : (place : ℕ) → StaysOrDecided s t place
    pub store : StoreFacts shape me t.store
    pub bytes : DataFacts a.history t.store
    pub backups : map (λ (backup : Backup). backup.node) t.backups ≡ map (λ (backup : Backup). backup.node) s.backups
    pub noted : Each (BackupNoted a.shards t.view) t.backups
    pub alone : 1 ≤ s.view → s.primary ≡ false → t.backups ≡ []
    pub idle : 1 ≤ s.view → s.primary ≡ false → t.jobs ≡ []
    pub unasked : 1 ≤ s.view → s.primary ≡ false → t.flush ≡ None
    pub jobs : 1 ≤ t.view → JobFacts g.views t
    pub placed : first_unplaced s s.jobs ≤ first_unplaced t t.jobs
    pub flushed : s.flush ≡ None → t.flush ≡ None
    pub stable : s.store.stable ≤ t.store.stable
    pub floor : s.store.floor ≤ t.store.floor
    pub below : 1 ≤ t.view → t.store.stable ≤ g.log.low
    pub closed : 1 ≤ t.view → t.view < g.views.cur → t.store.stable ≤ g.views.cl t.view
    pub awaited : AwaitedFacts g.views t
    pub has : (id : Identity) → has s.store id ≡ true → has t.store id ≡ true
    pub more : (one : Given) → In one g.log.given → In one given
    pub fresh : (one : Given) → In one given → In one g.log.given ⊎ IsNewlyGiven shape me t one

  -- ---- what an open cell tells
  module _ (there : 1 ≤ s.view) where
    rank : RankFacts g.views me s
    rank = moment.agreed.shards.ranks me there

    final : FinalFacts g.views g.log.low g.log.high s
    final = moment.agreed.places.finals me there

    order : OrderFacts g.views g.log.line s
    order = moment.agreed.places.orders me there

    -- what lies below where an earlier view was closed is final
    pub final_below : (d w place : ℕ) → 1 ≤ (a.shards d).view → w ≤ (a.shards d).view → w < g.views.cur → place < g.views.cl w → IsFinal g.views g.log.high (a.shards d).view place
    final_below d w place some least before lt =
        let known = (moment.agreed.shards.ranks d some).known in
        elim (cases_lt (a.shards d).view g.views.cur) [
          | inl below ↦ let rises = moment.agreed.views.bounds.closings_rise w (a.shards d).view least in inr (below, omega arith)
          | inr now ↦
              let bound = moment.agreed.line.closed w before in
              let most = moment.agreed.line.low in
              inl (omega arith, omega arith)
        ]

    module _ (id : Identity) (place : ℕ) (lacks : sign_at s place ≡ Some (record { id = id; sort = Lacking })) where
      pub lacking_behind : (w : ℕ) → w ≤ s.view → w < g.views.cur → g.views.cl w ≤ place
      lacking_behind w least before = elim (cases_lt place (g.views.cl w)) [
        | inl lt ↦ absurd (final.decided place (record { id = id; sort = Lacking }) (final_below me w place there least before lt) lacks refl)
        | inr le ↦ le
      ]

      pub lacking_primary : s.primary ≡ true
      lacking_primary = by s.primary refl
        where
          by : (b : Bool) → s.primary ≡ b → s.primary ≡ true
          by true is = is
          by false is = absurd (rank.whole is place (record { id = id; sort = Lacking }) (sign_within s place (record { id = id; sort = Lacking }) lacks) lacks refl)

      -- in the current view nothing is here of what is awaited
      pub lacking_unhad : s.view ≡ g.views.cur → has s.store id ≡ true → ⊥
      lacking_unhad now h =
          let found = cell_at s place (record { id = id; sort = Lacking }) lacks in
          let cell : Cell = found.0 in
          let named : cell.id ≡ id = ap (λ (sign : Sign). sign.id) found.2 in
          let opened : cell.body ≡ Open = lacking_open cell.body (ap (λ (sign : Sign). sign.sort) found.2) in
          let unheld : held_bytes s.store.held id ≡ None = subst (λ (x : Identity). held_bytes s.store.held x ≡ None) named (moment.agreed.shards.awaited me now place cell found.1 opened) in
          elim (or_cases (is_some (held_bytes s.store.held id)) (list_any (is_cell_of has_data id) s.store.order) h) [
            | inl held ↦ let wrong : false ≡ true = ap is_some (sym unheld) ∙ held in absurd (let no : ⊥ = cc in no)
            | inr kept ↦
                let one = in_passes (is_cell_of has_data id) s.store.order kept in
                let tests = and_parts (same_id (one.0).id id) (has_data (one.0).body) one.2 in
                let same : (one.0).id ≡ id = same_is (one.0).id id tests.0 in
                let where_is = at_in s.store.order one.0 one.1 in
                let here : slice_get g.log.line place ≡ Some id = order.live now place id (ap (option_map (λ (c : Cell). c.id)) found.1 ∙ ap Some named) in
                let there_too : slice_get g.log.line where_is.0 ≡ Some id = order.live now where_is.0 id (ap (option_map (λ (c : Cell). c.id)) where_is.1 ∙ ap Some same) in
                let alike : where_is.0 ≡ place = distinct_place g.log.line moment.agreed.line.distinct where_is.0 place id there_too here in
                let both : Some (one.0) ≡ Some cell = sym where_is.1 ∙ ap (slice_get s.store.order) alike ∙ found.1 in
                let is : one.0 ≡ cell = cc in
                let wrong : true ≡ false = sym tests.1 ∙ ap (λ (c : Cell). has_data c.body) is ∙ ap has_data opened in
                absurd (let no : ⊥ = cc in no)
          ]

  module _ (given : List Given) (t : ShardState) (d : Decides given t) where
    -- ---- what the replica has
    none_open : (upto : ℕ) → NoneOpen s upto → NoneOpen t upto
    none_open upto whole place sign lt at = elim (d.places place) [
      | inl same ↦ whole place sign lt (sym same ∙ at)
      | inr one ↦ absurd (whole place (record { id = one.id; sort = Lacking }) lt one.was refl)
    ]

    ordered_same : (place : ℕ) → ordered_at t place ≡ ordered_at s place
    ordered_same place = ordered_is t place ∙ by (d.places place) ∙ sym (ordered_is s place)
      where
        by : StaysOrDecided s t place → option_map (λ (sign : Sign). sign.id) (sign_at t place) ≡ option_map (λ (sign : Sign). sign.id) (sign_at s place)
        by (inl same) = ap (option_map (λ (sign : Sign). sign.id)) same
        by (inr one) = ap (option_map (λ (sign : Sign). sign.id)) one.now ∙ sym (ap (option_map (λ (sign : Sign). sign.id)) one.was)

    -- what was decided stays
    decided_stays : (place : ℕ) (sign : Sign) → sign.sort ≢ Lacking → sign_at s place ≡ Some sign → sign_at t place ≡ Some sign
    decided_stays place sign some at = elim (d.places place) [
      | inl same ↦ same ∙ at
      | inr one ↦
          let both : Some (record { id = one.id; sort = Lacking }) ≡ Some sign = sym one.was ∙ at in
          let is : record { id = one.id; sort = Lacking } ≡ sign = cc in
          absurd (some (sym (ap (λ (x : Sign). x.sort) is)))
    ]

    at_same : (place : ℕ) → 1 ≤ s.view → IsFinal g.views g.log.high s.view place → sign_at t place ≡ sign_at s place
    at_same place there f = elim (d.places place) [
      | inl same ↦ same
      | inr one ↦ absurd ((final there).decided place (record { id = one.id; sort = Lacking }) f one.was refl)
    ]

    final_before : (place : ℕ) → IsFinal g.views g.log.high t.view place → IsFinal g.views g.log.high s.view place
    final_before place = subst (λ (w : ℕ). IsFinal g.views g.log.high w place) d.view

    there_before : 1 ≤ t.view → 1 ≤ s.view
    there_before some = let is = d.view in omega arith

    grows : ShardGrows s t
    grows =
        let view = d.view in
        let long = d.length in
        let stable = d.stable in
        let floor = d.floor in
        record {
          view = omega arith;
          stable = omega arith;
          floor = omega arith;
          order = λ same. record { longer = omega arith; signs = decided_stays; placed = d.placed; flushed = d.flushed };
        }

    stays_final : (place : ℕ) → 1 ≤ t.view → place < g.log.low → IsFinal g.views g.log.high t.view place → StaysFinal g.views g.log.high place s t
    stays_final place some below f = record { some = there_before some; final = final_before place f; same = at_same place (there_before some) (final_before place f) }

    ranked : 1 ≤ t.view → RankFacts g.views me t
    ranked some =
        let r = rank (there_before some) in
        let view = d.view in
        let known = r.known in
        let length = d.length in
        record {
          known = omega arith;
          listed = subst (λ (w : ℕ). In me (replicas_at (g.views.cf w) (home_of me))) (sym view) r.listed;
          first = d.primary ∙ r.first ∙ ap (λ (w : ℕ). is_first (replicas_at (g.views.cf w) (home_of me)) me) (sym view);
          backups = λ primary. d.backups ∙ r.backups (sym d.primary ∙ primary) ∙ ap (λ (w : ℕ). others_of (replicas_at (g.views.cf w) (home_of me))) (sym view);
          alone = λ backup. d.alone (there_before some) (sym d.primary ∙ backup);
          idle = λ backup. d.idle (there_before some) (sym d.primary ∙ backup);
          unasked = λ backup. d.unasked (there_before some) (sym d.primary ∙ backup);
          whole = λ backup. subst (NoneOpen t) (sym length) (none_open (length_of s) (r.whole (sym d.primary ∙ backup)));
        }

    ordered : 1 ≤ t.view → OrderFacts g.views g.log.line t
    ordered some =
        let o = order (there_before some) in
        let view = d.view in
        let long = d.length in
        let placed = d.placed in
        record {
          live = λ now place id at. o.live (sym view ∙ now) place id (sym (ordered_same place) ∙ at);
          closed = λ below place lt id at. o.closed (omega arith) place (subst (λ (w : ℕ). place < g.views.cl w) view lt) id (sym (ordered_same place) ∙ at);
          flushed = λ before first is.
              let f = o.flushed before first (sym view ∙ is) in
              let has = f.has in
              let past = f.placed in
              record { has = omega arith; placed = omega arith; ordered = λ place lt id at. f.ordered place lt id (sym (ordered_same place) ∙ at) };
          unstarted = λ now none. long ∙ o.unstarted (sym view ∙ now) none;
        }

    finals : 1 ≤ t.view → FinalFacts g.views g.log.low g.log.high t
    finals some =
        let f = final (there_before some) in
        let long = d.length in
        let placed = d.placed in
        record {
          has = λ place h. let has = f.has place (final_before place h) in omega arith;
          placed = λ place h. let past = f.placed place (final_before place h) in omega arith;
          decided = λ place sign h at. f.decided place sign (final_before place h) (sym (at_same place (there_before some) (final_before place h)) ∙ at);
          stable = d.below some;
          closed = d.closed some;
        }

    -- ---- what it and others agree on
    agree : (e : ℕ) → home_of me ≡ home_of e → 1 ≤ t.view → 1 ≤ (a.shards e).view → AgreeOnFinal g.views g.log.high t (a.shards e)
    agree e home some there place f h =
        at_same place (there_before some) (final_before place f) ∙ moment.agreed.places.among.agree me e home (there_before some) there place (final_before place f) h

    follows : (e : ℕ) → home_of me ≡ home_of e → 1 ≤ t.view → t.view ≡ (a.shards e).view → t.primary ≡ false → (a.shards e).primary ≡ true → IsCopyOf t (a.shards e)
    follows e home some same backup primary =
        let was : s.primary ≡ false = sym d.primary ∙ backup in
        let c = moment.agreed.places.among.copies me e home (there_before some) (sym d.view ∙ same) was primary in
        let long = d.length in
        let short = c.shorter in
        record {
          shorter = omega arith;
          same = λ place lt.
              let sign = sign_there s place (omega arith) in
              let decided = (rank (there_before some)).whole was place sign.0 (omega arith) sign.1 in
              decided_stays place sign.0 decided sign.1 ∙ sym sign.1 ∙ c.same place (omega arith);
        }

    leads : (e : ℕ) → home_of e ≡ home_of me → 1 ≤ (a.shards e).view → (a.shards e).view ≡ t.view → (a.shards e).primary ≡ false → t.primary ≡ true → IsCopyOf (a.shards e) t
    leads e home some same backup primary =
        let c = moment.agreed.places.among.copies e me home some (same ∙ d.view) backup (sym d.primary ∙ primary) in
        let long = d.length in
        let short = c.shorter in
        record {
          shorter = omega arith;
          same = λ place lt.
              let sign = sign_there (a.shards e) place lt in
              let decided = (moment.agreed.shards.ranks e some).whole backup place sign.0 lt sign.1 in
              let here : sign_at s place ≡ Some sign.0 = sym (c.same place lt) ∙ sign.1 in
              sign.1 ∙ sym (decided_stays place sign.0 decided here);
        }

    ahead : (e : ℕ) → 1 ≤ t.view → is_first (replicas_at (g.views.cf t.view) (home_of me)) e ≡ true → t.view ≤ (a.shards e).view
    ahead e some first =
        let is = d.view in
        let before = moment.agreed.places.among.ahead me e (there_before some) (subst (λ (w : ℕ). is_first (replicas_at (g.views.cf w) (home_of me)) e ≡ true) is first) in
        omega arith

    -- ---- what was acknowledged
    abbrev after : ℕ → ShardState
    after = put a.shards me t

    every : (e : ℕ) → ShardGrows (a.shards e) (after e)
    every = put_cases (λ (e : ℕ) (x : ShardState). ShardGrows (a.shards e) x) a.shards me t grows (λ e other. shard_same (a.shards e))

    has_on : (e : ℕ) (id : Identity) → has (a.shards e).store id ≡ true → has (after e).store id ≡ true
    has_on = put_cases (λ (e : ℕ) (x : ShardState). (id : Identity) → has (a.shards e).store id ≡ true → has x.store id ≡ true) a.shards me t d.has (λ e other id h. h)

    -- what this replica acknowledged, it has
    given_has : (one : Given) → In one g.log.given → one.node ≡ me → has s.store one.id ≡ true
    given_has one i is = subst (λ (n : ℕ). has (a.shards n).store one.id ≡ true) is (each_in (GivenFacts shape a.shards) g.log.given moment.agreed.given.each one i).has

    given_facts : (one : Given) → In one given → GivenFacts shape after one
    given_facts one i = elim (d.fresh one i) [
      | inl old ↦
          let f = each_in (GivenFacts shape a.shards) g.log.given moment.agreed.given.each one old in
          let own = f.own in
          let rises = (every one.node).view in
          record { apart = f.apart; some = f.some; own = omega arith; has = has_on one.node one.id f.has }
      | inr new ↦
          let some = new.some in
          let now = new.now in
          record {
            apart = new.apart;
            some = omega arith;
            own = subst (λ (n : ℕ). one.view ≤ (after n).view) (sym new.own) (subst (λ (x : ShardState). one.view ≤ x.view) (sym (put_own a.shards me t)) (omega arith));
            has = subst (λ (n : ℕ). has (after n).store one.id ≡ true) (sym new.own) (subst (λ (x : ShardState). has x.store one.id ≡ true) (sym (put_own a.shards me t)) new.has);
          }
    ]

    -- a no-op that stands there after the step stood there, or its cell was open
    void_before : (id : Identity) (place : ℕ) → IsVoidAt t id place → IsVoidAt s id place ⊎ (sign_at s place ≡ Some (record { id = id; sort = Lacking }))
    void_before id place void = elim (d.places place) [
      | inl same ↦ inl (sym same ∙ void)
      | inr one ↦
          let both : Some (record { id = one.id; sort = one.sort }) ≡ Some (record { id = id; sort = Void }) = sym one.now ∙ void in
          let is : one.id ≡ id = let e : record { id = one.id; sort = one.sort } ≡ record { id = id; sort = Void } = cc in ap (λ (x : Sign). x.id) e in
          inr (subst (λ (x : Identity). sign_at s place ≡ Some (record { id = x; sort = Lacking })) is one.was)
    ]

    -- of an old acknowledgement by the first replica
    first_old : (one : Given) → In one g.log.given → FirstGiven shape g.views after one
    first_old one i first = put_cases (λ (e : ℕ) (x : ShardState). (place : ℕ) → home_of e ≡ shard_of one.id shape.shards → one.view ≤ x.view → IsVoidAt x one.id place → (one.view < g.views.cur) × (g.views.cl one.view ≤ place)) a.shards me t
        own (λ e other place home least void. moment.agreed.given.first one i first e place home least void)
      where
        lacks : (place : ℕ) → home_of me ≡ shard_of one.id shape.shards → one.view ≤ s.view → 1 ≤ s.view → sign_at s place ≡ Some (record { id = one.id; sort = Lacking }) → (one.view < g.views.cur) × (g.views.cl one.view ≤ place)
        lacks place home least there awaits =
            let known = (rank there).known in
            elim (cases_lt one.view g.views.cur) [
              | inl before ↦ (before, lacking_behind there one.id place awaits one.view least before)
              | inr now ↦
                  let same : one.view ≡ s.view = omega arith in
                  let live : s.view ≡ g.views.cur = omega arith in
                  let leads : is_first (replicas_at (g.views.cf s.view) (home_of me)) me ≡ true = sym (rank there).first ∙ lacking_primary there one.id place awaits in
                  let its : is_first (replicas_at (g.views.cf s.view) (home_of me)) one.node ≡ true = subst (λ (n : ℕ). is_first (replicas_at (g.views.cf s.view) n) one.node ≡ true) (sym home) (subst (λ (w : ℕ). is_first (replicas_at (g.views.cf w) (shard_of one.id shape.shards)) one.node ≡ true) same first) in
                  absurd (lacking_unhad there one.id place awaits live (given_has one i (first_alone (replicas_at (g.views.cf s.view) (home_of me)) one.node me its leads)))
            ]

        own : (place : ℕ) → home_of me ≡ shard_of one.id shape.shards → one.view ≤ t.view → IsVoidAt t one.id place → (one.view < g.views.cur) × (g.views.cl one.view ≤ place)
        own place home least void =
            let view = d.view in
            let some = (each_in (GivenFacts shape a.shards) g.log.given moment.agreed.given.each one i).some in
            elim (void_before one.id place void) [
              | inl was ↦ moment.agreed.given.first one i first me place home (omega arith) was
              | inr awaits ↦ lacks place home (omega arith) (omega arith) awaits
            ]

    -- of one that the first replica makes now
    first_new : (one : Given) → IsNewlyGiven shape me t one → FirstGiven shape g.views after one
    first_new one new first = put_cases (λ (e : ℕ) (x : ShardState). (place : ℕ) → home_of e ≡ shard_of one.id shape.shards → one.view ≤ x.view → IsVoidAt x one.id place → (one.view < g.views.cur) × (g.views.cl one.view ≤ place)) a.shards me t
        (λ place home least void. absurd (new.unvoid place void)) others
      where
        others : (e : ℕ) → e ≢ me → (place : ℕ) → home_of e ≡ shard_of one.id shape.shards → one.view ≤ (a.shards e).view → IsVoidAt (a.shards e) one.id place → (one.view < g.views.cur) × (g.views.cl one.view ≤ place)
        others e other place home least void =
            let now = new.now in
            let view = d.view in
            let some = new.some in
            let there : 1 ≤ s.view = omega arith in
            let beside : 1 ≤ (a.shards e).view = omega arith in
            let known = (moment.agreed.shards.ranks e beside).known in
            let leads_now : is_first (replicas_at (g.views.cf s.view) (shard_of one.id shape.shards)) me ≡ true = subst (λ (w : ℕ). is_first (replicas_at (g.views.cf w) (shard_of one.id shape.shards)) me ≡ true) (now ∙ view) (subst (λ (n : ℕ). is_first (replicas_at (g.views.cf one.view) (shard_of one.id shape.shards)) n ≡ true) new.own first) in
            let home_me : home_of me ≡ shard_of one.id shape.shards = (moment.agreed.views.configs.lists s.view).homes (shard_of one.id shape.shards) me (first_in (replicas_at (g.views.cf s.view) (shard_of one.id shape.shards)) me leads_now) in
            let alike : home_of e ≡ home_of me = home ∙ sym home_me in
            elim (cases_lt s.view (a.shards e).view) [
              | inl later ↦
                  let before : s.view < g.views.cur = omega arith in
                  elim (cases_lt place (g.views.cl s.view)) [
                    | inl lt ↦
                        let mine : IsFinal g.views g.log.high t.view place = subst (λ (w : ℕ). IsFinal g.views g.log.high w place) (sym view) (final_below there me s.view place there (omega arith) before lt) in
                        absurd (new.unvoid place (agree e (sym alike) some beside place mine (final_below there e s.view place beside (omega arith) before lt) ∙ void))
                    | inr le ↦ (omega arith, subst (λ (w : ℕ). g.views.cl w ≤ place) (sym (now ∙ view)) le)
                  ]
              | inr least_now ↦
                  let same : (a.shards e).view ≡ s.view = omega arith in
                  let mine : is_first (replicas_at (g.views.cf s.view) (home_of me)) me ≡ true = subst (λ (n : ℕ). is_first (replicas_at (g.views.cf s.view) n) me ≡ true) (sym home_me) leads_now in
                  let primary : t.primary ≡ true = d.primary ∙ (rank there).first ∙ mine in
                  let backup : (a.shards e).primary ≡ false = backup_of (a.shards e).primary refl same alike mine beside in
                  let copy = leads e alike beside (same ∙ sym view) backup primary in
                  absurd (new.unvoid place (sym (copy.same place (sign_within (a.shards e) place (record { id = one.id; sort = Void }) void)) ∙ void))
            ]
          where
            backup_of : (b : Bool) → (a.shards e).primary ≡ b → (a.shards e).view ≡ s.view → home_of e ≡ home_of me → is_first (replicas_at (g.views.cf s.view) (home_of me)) me ≡ true → 1 ≤ (a.shards e).view → (a.shards e).primary ≡ false
            backup_of false is same alike mine beside = is
            backup_of true is same alike mine beside =
                let own : is_first (replicas_at (g.views.cf (a.shards e).view) (home_of e)) e ≡ true = sym (moment.agreed.shards.ranks e beside).first ∙ is in
                let its : is_first (replicas_at (g.views.cf s.view) (home_of me)) e ≡ true = subst (λ (n : ℕ). is_first (replicas_at (g.views.cf s.view) n) e ≡ true) alike (subst (λ (w : ℕ). is_first (replicas_at (g.views.cf w) (home_of e)) e ≡ true) same own) in
                absurd (other (first_alone (replicas_at (g.views.cf s.view) (home_of me)) e me its mine))

    -- of those beyond a view
    beyond_before : (view : ℕ) (id : Identity) → GivenBeyond shape g.views given after view id → GivenBeyond shape g.views g.log.given a.shards view id
    beyond_before view id beyond b among above =
        let rises = (every b).view in
        elim (d.fresh (record { node = b; view = view; id = id }) (beyond b among (omega arith))) [
          | inl old ↦ old
          | inr new ↦
              let is : b ≡ me = new.own in
              let now : view ≡ t.view = new.now in
              let same = d.view in
              let mine : view < s.view = subst (λ (n : ℕ). view < (a.shards n).view) is above in
              absurd (omega arith)
        ]

    others_given : (view : ℕ) (id : Identity) → 1 ≤ view → OthersGiven shape g.views given after view id
    others_given view id first beyond = put_cases (λ (e : ℕ) (x : ShardState). (place : ℕ) → home_of e ≡ shard_of id shape.shards → view < x.view → IsCounted g.views x.view place → IsVoidAt x id place → place < g.views.cl view) a.shards me t
        own (λ e other place home above counted void. moment.agreed.given.others view id first (beyond_before view id beyond) e place home above counted void)
      where
        -- a replica that went on is one of the view's, so it has the data
        had : home_of me ≡ shard_of id shape.shards → view < s.view → has s.store id ≡ true
        had home above =
            let listed : In me (replicas_at (g.views.cf s.view) (shard_of id shape.shards)) = subst (λ (n : ℕ). In me (replicas_at (g.views.cf s.view) n)) home (rank (omega arith)).listed in
            let before : In me (replicas_at (g.views.cf view) (shard_of id shape.shards)) = (moment.agreed.views.configs.later view s.view (omega arith) (shard_of id shape.shards)).members me listed in
            given_has (record { node = me; view = view; id = id }) (beyond_before view id beyond me before above) refl

        own : (place : ℕ) → home_of me ≡ shard_of id shape.shards → view < t.view → IsCounted g.views t.view place → IsVoidAt t id place → place < g.views.cl view
        own place home above counted void =
            let same = d.view in
            let gone : view < s.view = omega arith in
            let there : 1 ≤ s.view = omega arith in
            let counts : IsCounted g.views s.view place = subst (λ (w : ℕ). IsCounted g.views w place) same counted in
            elim (void_before id place void) [
              | inl was ↦ moment.agreed.given.others view id first (beyond_before view id beyond) me place home gone counts was
              | inr awaits ↦ elim counts [
                | inl live ↦ absurd (lacking_unhad there id place awaits live (had home gone))
                | inr closed ↦ absurd ((final there).decided place (record { id = id; sort = Lacking }) (inr closed) awaits refl)
              ]
            ]

    given_after : AmongGiven shape g.views given after
    given_after = record {
      each = in_each (GivenFacts shape after) given given_facts;
      first = λ one i. elim (d.fresh one i) [ inl old ↦ first_old one old | inr new ↦ first_new one new ];
      others = others_given;
    }

    -- a step that keeps view and places shows all that a step has to show
    pub decides_shows : Shows shape g a me moment given t
    decides_shows = record {
      grows = grows;
      finals = stays_final;
      store = d.store;
      rank = ranked;
      jobs = d.jobs;
      awaited = d.awaited;
      order = ordered;
      final = finals;
      bytes = d.bytes;
      agree = λ e other. agree e;
      follows = λ e other. follows e;
      leads = λ e other. leads e;
      noted = d.noted;
      ahead = λ e other. ahead e;
      more = d.more;
      stored = given_after;
    }
