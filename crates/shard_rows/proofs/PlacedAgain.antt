-- What a primary has placed, all of its shard have: it may be answered again.
use Rattle.std.proofs.Common.{◌≡◌, ◌≢◌, ℕ, ◌≤◌, List, true, None, inl, inr, ap, subst, arith}
use Rattle.list_facts.specs.Lists.{In}
use Rattle.list_facts.proofs.Members.{each_in}
use Rattle.list_facts.proofs.Puts.{put_cases}
use Rattle.view_config.specs.Shape.{Dimensions}
use Rattle.world_facts.specs.Members.{IsShardNode}
use Rattle.lazy_rules.specs.Pushing.{length_of}
use Rattle.lazy_rules.specs.Roles.{replicas_at}
use Rattle.lazy_rules.specs.ShardRules.{first_unplaced}
use Rattle.lazy_rules.specs.ShardState.{Backup, ShardState}
use Rattle.log_facts.specs.Finality.{AllSettledIn, HasSettled, IsSettled}
use Rattle.log_facts.specs.Ghosts.{Ghost, Views}
use Rattle.log_facts.specs.Good.{Moment}
use Rattle.log_facts.specs.Parts.{Parts, home_of, with_shard}
use Rattle.log_facts.specs.Says.{CopiedSays}
use Rattle.log_facts.specs.facts.OfShards.{BackupNoted, IsNotedTo}
use Rattle.shard_rows.proofs.Backups.{noted_of, other_backup}
use Rattle.shard_rows.proofs.Standing.{jobs, rank, there, unplaced_within}

module _ (shape : Dimensions) (g : Ghost) (a : Parts) (me : ℕ) (moment : Moment shape g a) (node : IsShardNode shape me)
    (primary : (a.shards me).primary ≡ true) (unasked : (a.shards me).flush ≡ None) (upto : ℕ) (placed : upto ≤ first_unplaced (a.shards me) (a.shards me).jobs) where
  abbrev v : Views
  v = g.views

  abbrev s : ShardState
  s = a.shards me

  some : 1 ≤ s.view
  some = there shape g a moment me node

  abbrev group : List ℕ
  group = replicas_at (v.cf s.view) (home_of me)

  own_settled : HasSettled s upto
  own_settled =
      let within = unplaced_within shape g a moment me some in
      record { has = omega arith; whole = λ place sign lt at. (jobs shape g a moment me some).whole unasked place sign (omega arith) at; placed = placed }

  -- a replica of the shard that is in its view has nothing to do there
  has_settled : (d : ℕ) → d ≢ me → In d group → 1 ≤ (a.shards d).view → (a.shards d).view ≡ s.view → upto ≤ length_of (a.shards d) → HasSettled (a.shards d) upto
  has_settled d other i least same has =
      let home : home_of d ≡ home_of me = (moment.agreed.views.configs.lists s.view).homes (home_of me) d i in
      let backup = other_backup shape g a me moment some d other home primary same in
      let r = rank shape g a moment d least in
      let unplaced : first_unplaced (a.shards d) (a.shards d).jobs ≡ length_of (a.shards d) = ap (first_unplaced (a.shards d)) (r.idle backup) in
      record { has = has; whole = λ place sign lt at. r.whole backup place sign (omega arith) at; placed = omega arith }

  backup_settled : (d : ℕ) → d ≢ me → In d group → IsSettled (a.shards d) s.view upto
  backup_settled d other i =
      let one = noted_of shape g a me moment some d other primary i in
      by one.0 one.1 one.2 (each_in (IsNotedTo s.view (first_unplaced s s.jobs)) s.backups ((jobs shape g a moment me some).noted unasked) one.0 one.1)
    where
      by : (backup : Backup) → In backup s.backups → backup.node ≡ d → IsNotedTo s.view (first_unplaced s s.jobs) backup → IsSettled (a.shards d) s.view upto
      by backup among is (inl first) =
          let known = (rank shape g a moment me some).known in
          let started = moment.agreed.views.started.first s.view some in
          let present = moment.agreed.places.among.present s.view (home_of me) d some known i in
          let view = first.0 in
          let none = first.1 in
          record { own = omega arith; settled = λ same. has_settled d other i (omega arith) same (omega arith) }
      by backup among is (inr noted) =
          let said : CopiedSays (a.shards backup.node) s.view noted.0 = each_in (BackupNoted a.shards s.view) s.backups (moment.agreed.places.among.noted me) backup among noted.0 noted.1 in
          let its : CopiedSays (a.shards d) s.view noted.0 = subst (λ (n : ℕ). CopiedSays (a.shards n) s.view noted.0) is said in
          let own = its.own in
          let far = noted.2 in
          record { own = own; settled = λ same. let has = its.has same in has_settled d other i (omega arith) same (omega arith) }

  pub all_placed : AllSettledIn v (with_shard a me s).shards s.view (home_of me) upto
  all_placed = put_cases (λ (d : ℕ) (x : ShardState). In d group → IsSettled x s.view upto) a.shards me s
      (λ i. record { own = omega arith; settled = λ same. own_settled })
      (λ d other i. backup_settled d other i)
