-- A view starts whose order every shard has: what this changes of views, and why the facts on shard replicas stay.
use Rattle.std.proofs.Common.{◌≡◌, ◌≢◌, ℕ, ◌<◌, ◌≤◌, List, [], ◌∷◌, length, true, false, Some, None, inl, inr, refl, sym, ap, ◌∙◌, subst, arith}
use Rattle.std.proofs.lemmas.Bool.{cases_lt, cases_Bool, lt-ltb, le-ltb, eqb-true, eq-eqb}
use Rattle.list_facts.specs.Lists.{In}
use Rattle.rec_id.specs.Identity.{Identity}
use Rattle.rec_id.specs.declared.marks.Marks.{Marks}
use Rattle.view_config.specs.Shape.{Dimensions}
use Rattle.lazy_rules.specs.Pushing.{length_of}
use Rattle.lazy_rules.specs.Roles.{replicas_at, is_first}
use Rattle.lazy_rules.specs.ShardState.{FlushJob, ShardState}
use Rattle.log_facts.specs.Finality.{IsFinal, GivenByAll, HasSettled}
use Rattle.lazy_rules.specs.ShardRules.{first_unplaced}
use Rattle.log_facts.specs.Ghosts.{Views, Log, IsStarted, since}
use Rattle.log_facts.specs.Parts.{home_of}
use Rattle.log_facts.specs.Signs.{Sign, sign_at, Lacking}
use Rattle.log_facts.specs.facts.OfShards.{RankFacts, JobFacts, OrderFacts, FinalFacts, AmongShards, AgreeOnFinal}
use Rattle.log_facts.specs.facts.OfData.{AmongGiven}
use Rattle.control_rows.proofs.Lists.{first_in}

-- the current view has started, from this base on and with these marks
abbrev pub begun : Views → ℕ → List Marks → Views
begun v base window = record v {
  lv = v.cur;
  sv = since v.sv v.cur v.cur;
  bs = since v.bs v.cur base;
  wn = since v.wn v.cur window;
}

-- f below a view, and x from it on
pub since_before : {A : Type 0} (f : ℕ → A) (view : ℕ) (x : A) (n : ℕ) → n < view → since f view x n ≡ f n
since_before f view x n lt = rw (lt-ltb n view lt)

pub since_from : {A : Type 0} (f : ℕ → A) (view : ℕ) (x : A) (n : ℕ) → view ≤ n → since f view x n ≡ x
since_from f view x n le = rw (le-ltb n view le)

-- a list has one first member
pub one_first : (nodes : List ℕ) (d e : ℕ) → is_first nodes d ≡ true → is_first nodes e ≡ true → d ≡ e
one_first [] d e h k = let wrong : false ≡ true = h in cc
one_first (z ∷ zs) d e h k = let one = eqb-true z d h in let two = eqb-true z e k in cc

pub some_first : (nodes : List ℕ) (d : ℕ) → In d nodes → (p : ℕ) × (is_first nodes p ≡ true)
some_first [] d h = absurd h
some_first (z ∷ zs) d h = (z, eq-eqb z z refl)

module _ (shape : Dimensions) (v : Views) (base : ℕ) (window : List Marks) (before : v.lv < v.cur)
    (late : (view : ℕ) → v.cur ≤ view → v.sv view ≡ v.lv) where
  abbrev w : Views
  w = begun v base window

  pub started_now : IsStarted w v.cur
  started_now = record { some = omega arith; is = since_from v.sv v.cur v.cur v.cur (omega arith) }

  pub started_still : (view : ℕ) → IsStarted v view → IsStarted w view
  started_still view h = elim (cases_lt view v.cur) [
    | inl lt ↦ record { some = h.some; is = since_before v.sv v.cur v.cur view lt ∙ h.is }
    | inr not ↦ let is = late view not in let own = h.is in absurd (omega arith)
  ]

  pub rank_begun : (node : ℕ) (s : ShardState) → RankFacts v node s → RankFacts w node s
  rank_begun node s r = record {
    known = r.known;
    listed = r.listed;
    first = r.first;
    backups = r.backups;
    alone = r.alone;
    idle = r.idle;
    unasked = r.unasked;
    whole = r.whole;
  }

  -- in the view that starts no flush goes on
  pub jobs_begun : (s : ShardState) → s.view ≤ v.cur → (s.view ≡ v.cur → s.flush ≡ None) → JobFacts v s → JobFacts w s
  jobs_begun s known ended j = record {
    flush = λ job is. let f = j.flush job is in record {
      before = f.before;
      some = f.some;
      is = f.is;
      unstarted = unstarted job is f.unstarted;
      stable = f.stable;
      from_is = f.from_is;
      whole = f.whole;
      alone = f.alone;
    };
    started = λ job m. started_still s.view (j.started job m);
    follow = j.follow;
    whole = j.whole;
    noted = j.noted;
  }
    where
      unstarted : (job : FlushJob) → s.flush ≡ Some job → ¬ IsStarted v s.view → ¬ IsStarted w s.view
      unstarted job is h k = elim (cases_lt s.view v.cur) [
        | inl lt ↦ h (record { some = k.some; is = sym (since_before v.sv v.cur v.cur s.view lt) ∙ k.is })
        | inr not ↦ let now : s.view ≡ v.cur = omega arith in let wrong : Some job ≡ None = sym is ∙ ended now in cc
      ]

  pub order_begun : (line : List Identity) (s : ShardState) → OrderFacts v line s → OrderFacts w line s
  order_begun line s o = record {
    live = o.live;
    closed = o.closed;
    flushed = o.flushed;
    unstarted = λ is lt. absurd (omega arith);
  }

  -- what is final then: in the current view the whole line
  module _ (line : List Identity) (low high : ℕ) (within : low ≤ high) (inside : high ≤ length line) where
    pub final_begun : (s : ShardState) → OrderFacts v line s → (s.view ≡ v.cur → HasSettled s (length line)) → FinalFacts v low high s → FinalFacts w (length line) (length line) s
    final_begun s o settled f = record {
      has = has;
      placed = placed;
      decided = decided;
      stable = let one = f.stable in omega arith;
      closed = f.closed;
    }
      where
        has : (place : ℕ) → IsFinal w (length line) s.view place → place < length_of s
        has place (inl now) = let least = (settled now.0).has in let lt = now.1 in omega arith
        has place (inr closed) = f.has place (inr closed)

        placed : (place : ℕ) → IsFinal w (length line) s.view place → place < first_unplaced s s.jobs
        placed place (inl now) = let least = (settled now.0).placed in let lt = now.1 in omega arith
        placed place (inr closed) = f.placed place (inr closed)

        decided : (place : ℕ) (sign : Sign) → IsFinal w (length line) s.view place → sign_at s place ≡ Some sign → sign.sort ≢ Lacking
        decided place sign (inl now) is = (settled now.0).whole place sign now.1 is
        decided place sign (inr closed) is = f.decided place sign (inr closed) is

    module _ (shards : ℕ → ShardState)
        (ranks : (d : ℕ) → 1 ≤ (shards d).view → RankFacts v d (shards d))
        (orders : (d : ℕ) → 1 ≤ (shards d).view → OrderFacts v line (shards d))
        (closed : (view : ℕ) → 1 ≤ view → view < v.cur → v.cl view ≤ low)
        (homes : (shard d : ℕ) → In d (replicas_at (v.cf v.cur) shard) → home_of d ≡ shard)
        (m : AmongShards shape v high shards) where
      -- all of a shard are as its primary
      primary_of : (d : ℕ) → 1 ≤ (shards d).view → (shards d).view ≡ v.cur → (p : ℕ) × (home_of p ≡ home_of d) × ((shards p).view ≡ v.cur) × (is_first (replicas_at (v.cf v.cur) (home_of d)) p ≡ true)
      primary_of d some is =
          let listed = subst (λ (view : ℕ). In d (replicas_at (v.cf view) (home_of d))) is (ranks d some).listed in
          let p = some_first (replicas_at (v.cf v.cur) (home_of d)) d listed in
          let ahead = m.ahead d p.0 some (subst (λ (view : ℕ). is_first (replicas_at (v.cf view) (home_of d)) p.0 ≡ true) (sym is) p.1) in
          let known = (ranks p.0 (omega arith)).known in
          (p.0, homes (home_of d) p.0 (first_in (replicas_at (v.cf v.cur) (home_of d)) p.0 p.1), omega arith, p.1)

      leads : (d : ℕ) → 1 ≤ (shards d).view → (shards d).view ≡ v.cur → (shards d).primary ≡ is_first (replicas_at (v.cf v.cur) (home_of d)) d
      leads d some is = subst (λ (view : ℕ). (shards d).primary ≡ is_first (replicas_at (v.cf view) (home_of d)) d) is (ranks d some).first

      as_primary : (d p place : ℕ) → 1 ≤ (shards d).view → (shards d).view ≡ v.cur → home_of p ≡ home_of d → (shards p).view ≡ v.cur → is_first (replicas_at (v.cf v.cur) (home_of d)) p ≡ true → place < length line
          → sign_at (shards d) place ≡ sign_at (shards p) place
      as_primary d p place some is home there first lt = elim (cases_Bool (shards d).primary) [
        | inl own ↦
            let same = one_first (replicas_at (v.cf v.cur) (home_of d)) d p (sym (leads d some is) ∙ own) first in
            ap (λ (n : ℕ). sign_at (shards n) place) same
        | inr backup ↦
            let long = (orders d some).unstarted is before in
            let leading = leads p (omega arith) there ∙ subst (λ (shard : ℕ). is_first (replicas_at (v.cf v.cur) shard) p ≡ true) (sym home) first in
            (m.copies d p (sym home) some (is ∙ sym there) backup leading).same place (omega arith)
      ]

      both_now : (d e place : ℕ) → home_of d ≡ home_of e → 1 ≤ (shards d).view → 1 ≤ (shards e).view → (shards d).view ≡ v.cur → (shards e).view ≡ v.cur → place < length line
          → sign_at (shards d) place ≡ sign_at (shards e) place
      both_now d e place home one two is also lt =
          let p = primary_of d one is in
          as_primary d p.0 place one is p.1 p.2 p.3 lt
          ∙ sym (as_primary e p.0 place two also (p.1 ∙ home) p.2 (subst (λ (shard : ℕ). is_first (replicas_at (v.cf v.cur) shard) p.0 ≡ true) home p.3) lt)

      agree_begun : (d e : ℕ) → home_of d ≡ home_of e → 1 ≤ (shards d).view → 1 ≤ (shards e).view → AgreeOnFinal w (length line) (shards d) (shards e)
      agree_begun d e home one two place (inl h) (inl k) = both_now d e place home one two h.0 k.0 h.1
      agree_begun d e home one two place (inl h) (inr k) =
          let least = closed (shards e).view two k.0 in
          let lt = k.1 in
          let there : place < high = omega arith in
          m.agree d e home one two place (inl (h.0, there)) (inr k)
      agree_begun d e home one two place (inr h) (inl k) =
          let least = closed (shards d).view one h.0 in
          let lt = h.1 in
          let there : place < high = omega arith in
          m.agree d e home one two place (inr h) (inl (k.0, there))
      agree_begun d e home one two place (inr h) (inr k) = m.agree d e home one two place (inr h) (inr k)

      pub among_begun : ((shard d : ℕ) → In d (replicas_at (v.cf v.cur) shard) → v.cur ≤ (shards d).view) → AmongShards shape w (length line) shards
      among_begun there = record {
        there = m.there;
        agree = agree_begun;
        copies = m.copies;
        noted = m.noted;
        ahead = m.ahead;
        present = λ view shard d some le named. elim (cases_lt view v.cur) [
          | inl lt ↦ let same = since_before v.sv v.cur v.cur view lt in let k = m.present view shard d some le named in omega arith
          | inr not ↦
              let is : view ≡ v.cur = omega arith in
              let same = since_from v.sv v.cur v.cur view not in
              let k = there shard d (subst (λ (n : ℕ). In d (replicas_at (v.cf n) shard)) is named) in
              omega arith
        ];
      }

    -- ---- data
    pub given_begun : (shards : ℕ → ShardState) (log : Log) → AmongGiven shape v log.given shards → AmongGiven shape w log.given shards
    given_begun shards log m = record { each = m.each; first = m.first; others = m.others }

    pub all_begun : (log : Log) (id : Identity) → GivenByAll shape v log.given id → GivenByAll shape w log.given id
    all_begun log id h = record { view = h.view; started = started_still h.view h.started; by_all = h.by_all }

    pub was_final_low : (view place : ℕ) → place < low → IsFinal w (length line) view place → IsFinal v high view place
    was_final_low view place lt (inl now) = let there : place < high = omega arith in inl (now.0, there)
    was_final_low view place lt (inr closed) = inr closed
