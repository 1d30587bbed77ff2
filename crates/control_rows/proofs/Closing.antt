-- The current view is closed: what this changes of views, and why the facts on shard replicas stay. A state that is
-- taken closes it, and so does a flush that is given up.
use Rattle.std.proofs.Common.{◌≡◌, ℕ, ◌<◌, ◌≤◌, List, inl, inr, sym, ap, ◌∙◌, subst, arith}
use Rattle.std.specs.Prelude.{slice_get}
use Rattle.std.proofs.lemmas.Bool.{cases_lt}
use Rattle.rec_id.specs.Identity.{Identity}
use Rattle.lazy_rules.specs.Roles.{replicas_at}
use Rattle.lazy_rules.specs.ShardState.{FlushJob, ShardState}
use Rattle.log_facts.specs.Finality.{IsFinal}
use Rattle.log_facts.specs.Ghosts.{Views, IsStarted}
use Rattle.log_facts.specs.Signs.{Sublist}
use Rattle.log_facts.specs.facts.OfShards.{RankFacts, JobFacts, FlushJobFacts, OrderFacts, OrderedAs, FinalFacts, AgreeOnFinal}

-- the current view is closed here. Nothing else is known of views before it, and those after it have no replicas but
-- some of its own
pub record Closes (v w : Views) (from : ℕ) : Type 0 where
  pub later : v.cur < w.cur
  pub named : (view : ℕ) → view ≤ v.cur → w.cf view ≡ v.cf view
  pub fewer : (view shard : ℕ) → v.cur < view → Sublist (replicas_at (w.cf view) shard) (replicas_at (v.cf v.cur) shard)
  pub sv_is : (view : ℕ) → w.sv view ≡ v.sv view
  pub cl_is : (view : ℕ) → view < v.cur → w.cl view ≡ v.cl view
  pub le_is : (view : ℕ) → view < v.cur → w.le view ≡ v.le view
  pub closed : w.cl v.cur ≡ from

module _ (v w : Views) (from : ℕ) (c : Closes v w from) where
  pub still_started : (view : ℕ) → IsStarted v view → IsStarted w view
  still_started view h = record { some = h.some; is = c.sv_is view ∙ h.is }

  -- what is final after it was before
  module _ (high : ℕ) (below : from ≤ high) where
    pub was_final : (view place : ℕ) → view ≤ v.cur → IsFinal w from view place → IsFinal v high view place
    was_final view place known (inl now) = let later = c.later in let is = now.0 in absurd (omega arith)
    was_final view place known (inr closed) = elim (cases_lt view v.cur) [
      | inl before ↦ let lt = closed.1 in let same = c.cl_is view before in let there : place < v.cl view = omega arith in inr (before, there)
      | inr not ↦
          let is : view ≡ v.cur = omega arith in
          let lt = subst (λ (k : ℕ). place < w.cl k) is closed.1 in
          let at = c.closed in
          let there : place < high = omega arith in
          inl (is, there)
    ]

    pub final_still : (low later : ℕ) → low ≤ later → low ≤ from → (s : ShardState) → s.view ≤ v.cur → FinalFacts v low high s → FinalFacts w later from s
    final_still low later rises within s known f = record {
      has = λ place h. f.has place (was_final s.view place known h);
      placed = λ place h. f.placed place (was_final s.view place known h);
      decided = λ place sign h. f.decided place sign (was_final s.view place known h);
      stable = let one = f.stable in omega arith;
      closed = λ lt. elim (cases_lt s.view v.cur) [
        | inl before ↦ let one = f.closed before in let same = c.cl_is s.view before in omega arith
        | inr not ↦
            let is : s.view ≡ v.cur = omega arith in
            let one = f.stable in
            let at : w.cl s.view ≡ from = ap w.cl is ∙ c.closed in
            omega arith
      ];
    }

    pub agree_still : (s t : ShardState) → s.view ≤ v.cur → t.view ≤ v.cur → AgreeOnFinal v high s t → AgreeOnFinal w from s t
    agree_still s t one two h place first second = h place (was_final s.view place one first) (was_final t.view place two second)

  -- the places of a replica in the configurations
  pub rank_still : (node : ℕ) (s : ShardState) → RankFacts v node s → RankFacts w node s
  rank_still node s r =
      let same = c.named s.view r.known in
      record {
        known = let known = r.known in let later = c.later in omega arith;
        listed = rw same r.listed;
        first = rw same r.first;
        backups = rw same r.backups;
        alone = r.alone;
        idle = r.idle;
        unasked = r.unasked;
        whole = r.whole;
      }

  flush_still : (s : ShardState) → s.view ≤ v.cur → (job : FlushJob) → FlushJobFacts v s job → FlushJobFacts w s job
  flush_still s known job f =
      let is = f.is in
      let below : f.before < v.cur = omega arith in
      record {
        before = f.before;
        some = f.some;
        is = f.is;
        unstarted = λ h. f.unstarted (record { some = h.some; is = sym (c.sv_is s.view) ∙ h.is });
        stable = f.stable;
        from_is = f.from_is ∙ sym (c.cl_is f.before below);
        whole = f.whole ∙ sym (c.le_is f.before below);
        alone = f.alone;
      }

  pub jobs_still : (s : ShardState) → s.view ≤ v.cur → JobFacts v s → JobFacts w s
  jobs_still s known j = record {
    flush = λ job is. flush_still s known job (j.flush job is);
    started = λ job m. still_started s.view (j.started job m);
    follow = j.follow;
    whole = j.whole;
    noted = j.noted;
  }

  -- the order of a replica, where the line stays below the bound and as far as it was flushed
  module _ (line now : List Identity)
      (kept : (place : ℕ) → place < from → slice_get now place ≡ slice_get line place)
      (flushed : (view place : ℕ) → 1 ≤ view → view < v.cur → place < v.le view → slice_get now place ≡ slice_get line place)
      (rises : (view : ℕ) → 1 ≤ view → view < v.cur → v.cl view ≤ from) where
    ordered_still : (s : ShardState) (place : ℕ) → slice_get now place ≡ slice_get line place → OrderedAs line s place → OrderedAs now s place
    ordered_still s place same h id there = same ∙ h id there

    pub order_still : (s : ShardState) → 1 ≤ s.view → s.view ≤ v.cur → OrderFacts v line s → OrderFacts w now s
    order_still s some known o = record {
      live = λ is. let later = c.later in absurd (omega arith);
      closed = λ lt place below. elim (cases_lt s.view v.cur) [
        | inl before ↦
            let same = c.cl_is s.view before in
            let least = rises s.view some before in
            let there : place < v.cl s.view = omega arith in
            let within : place < from = omega arith in
            ordered_still s place (kept place within) (o.closed before place there)
        | inr not ↦
            let is : s.view ≡ v.cur = omega arith in
            let at : w.cl s.view ≡ from = ap w.cl is ∙ c.closed in
            let within : place < from = omega arith in
            ordered_still s place (kept place within) (o.live is place)
      ];
      flushed = λ before some is.
          let lt : before < v.cur = omega arith in
          let f = o.flushed before some is in
          let same = c.le_is before lt in
          record {
            has = let has = f.has in omega arith;
            placed = let placed = f.placed in omega arith;
            ordered = λ place below. let there : place < v.le before = subst (λ (n : ℕ). place < n) same below in ordered_still s place (flushed before place some lt there) (f.ordered place there);
          };
      unstarted = λ is. let later = c.later in absurd (omega arith);
    }
