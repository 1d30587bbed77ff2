-- Copied at a replica: a primary notes how far the backup has the order, and what is settled with that ends.
use Rattle.std.proofs.Common.{◌≡◌, ℕ, ◌≤◌, List, [], ◌∷◌, cond, map, Bool, true, false, not, Option, Some, None, inl, inr, refl, sym, ap, subst, arith}
use Rattle.std.specs.Prelude.{max, nat_le, ◌==◌, if◌then◌else◌}
use Rattle.std.specs.Option.{option_map_or}
use Rattle.std.proofs.lemmas.Bool.{and_parts, eqb-true, not-false}
use Rattle.list_facts.specs.Lists.{Each}
use Rattle.list_facts.proofs.Cases.{either}
use Rattle.list_facts.proofs.Members.{each_map, each_weaker}
use Rattle.view_config.specs.Shape.{Dimensions}
use Rattle.world_facts.specs.Members.{IsShardNode}
use Rattle.lazy_msgs.specs.declared.msg.Msg.TheVariants.{Copied}
use Rattle.lazy_rules.specs.Pushing.{length_of, settles}
use Rattle.lazy_rules.specs.Rows.{sends_all, stays}
use Rattle.lazy_rules.specs.ShardRules.{first_unplaced, has_backup, is_primary, on_copied, raised, raised_of}
use Rattle.lazy_rules.specs.ShardState.{Backup, PlaceJob, ShardState}
use Rattle.log_facts.specs.Ghosts.{Ghost}
use Rattle.log_facts.specs.Good.{GoodShard, Heard, Moment}
use Rattle.log_facts.specs.Parts.{Parts, ShardFormed}
use Rattle.log_facts.specs.Says.{CopiedSays}
use Rattle.log_facts.specs.Signs.{NoneOpen}
use Rattle.log_facts.specs.facts.OfShards.{BackupNoted, FollowOn, IsNotedTo, JobFacts}
use Rattle.shard_rows.proofs.Bookkeeping.{Books, books_part, stays_good, with_books}
use Rattle.shard_rows.proofs.Joining.{followed_part, part_good}
use Rattle.shard_rows.proofs.Settling.{settles_part}
use Rattle.shard_rows.proofs.Standing.{jobs, rank}

raised_nodes : (node upto : ℕ) (backups : List Backup) → map (λ (backup : Backup). backup.node) (raised_of node upto backups) ≡ map (λ (backup : Backup). backup.node) backups
raised_nodes node upto [] = refl
raised_nodes node upto (backup ∷ backups) = by (raised_nodes node upto backups) (backup.node == node)
  where
    by : map (λ (other : Backup). other.node) (raised_of node upto backups) ≡ map (λ (other : Backup). other.node) backups → (b : Bool) →
        (cond b (raised upto backup) backup).node ∷ map (λ (other : Backup). other.node) (raised_of node upto backups) ≡ backup.node ∷ map (λ (other : Backup). other.node) backups
    by rest true = ap (λ (nodes : List ℕ). backup.node ∷ nodes) rest
    by rest false = ap (λ (nodes : List ℕ). backup.node ∷ nodes) rest

-- what held of each backup holds of each of them, where it goes on where one is raised
raised_each : (P Q : Backup → Type 0) (node upto : ℕ) (backups : List Backup) → ((backup : Backup) → P backup → Q backup) → ((backup : Backup) → backup.node ≡ node → P backup → Q (raised upto backup)) → Each P backups → Each Q (raised_of node upto backups)
raised_each P Q node upto backups f h each =
    each_map (λ (backup : Backup). if backup.node == node then raised upto backup else backup) Q backups
    (each_weaker P (λ (backup : Backup). Q (if backup.node == node then raised upto backup else backup))
    (λ backup p. either Q (backup.node == node) (raised upto backup) backup (λ e. h backup (eqb-true backup.node node e) p) (λ e. f backup p)) backups each)

noted_raised : (view far upto : ℕ) (backup : Backup) → IsNotedTo view far backup → IsNotedTo view far (raised upto backup)
noted_raised view far upto backup (inl first) = inl first
noted_raised view far upto backup (inr one) =
    inr (max one.0 upto, ap (λ (o : Option ℕ). Some (option_map_or (λ (copied : ℕ). max copied upto) o upto)) one.1, let le = one.2 in omega arith)

module _ (shape : Dimensions) (g : Ghost) (a : Parts) (sender me : ℕ) (view upto : ℕ) (moment : Moment shape g a) (node : IsShardNode shape me) (heard : Heard shape g a sender me (Copied view upto)) where
  abbrev s : ShardState
  s = a.shards me

  module _ (primary : s.primary ≡ true) (own : s.view ≡ view) where
    abbrev backups : List Backup
    backups = raised_of sender upto s.backups

    says : CopiedSays (a.shards sender) s.view upto
    says = subst (λ (w : ℕ). CopiedSays (a.shards sender) w upto) (sym own) heard.said

    further : (d n : ℕ) → CopiedSays (a.shards d) s.view n → CopiedSays (a.shards d) s.view upto → CopiedSays (a.shards d) s.view (max n upto)
    further d n one two = record { own = one.own; has = λ same. let far = one.has same in let more = two.has same in omega arith }

    noted_more : (backup : Backup) → backup.node ≡ sender → BackupNoted a.shards s.view backup → BackupNoted a.shards s.view (raised upto backup)
    noted_more backup is noted n e = by backup.copied refl e
      where
        its : CopiedSays (a.shards backup.node) s.view upto
        its = subst (λ (d : ℕ). CopiedSays (a.shards d) s.view upto) (sym is) says

        by : (o : Option ℕ) → backup.copied ≡ o → Some (option_map_or (λ (copied : ℕ). max copied upto) o upto) ≡ Some n → CopiedSays (a.shards backup.node) s.view n
        by None copied f = let same : upto ≡ n = cc in subst (CopiedSays (a.shards backup.node) s.view) same its
        by (Some k) copied f = let same : max k upto ≡ n = cc in subst (CopiedSays (a.shards backup.node) s.view) same (further backup.node k (noted k copied) its)

    abbrev t : ShardState
    t = with_books shape g a me moment backups s.jobs s.flush

    unplaced : (placing : List PlaceJob) → first_unplaced t placing ≡ first_unplaced s placing
    unplaced [] = refl
    unplaced (job ∷ jobs) = refl

    facts : 1 ≤ s.view → JobFacts g.views t
    facts some =
        let f : JobFacts g.views s = jobs shape g a moment me some in
        let same = sym (unplaced s.jobs) in
        record {
          flush = λ job is. let h = f.flush job is in record { before = h.before; some = h.some; is = h.is; from_is = h.from_is; whole = h.whole; alone = h.alone; unstarted = h.unstarted; stable = h.stable };
          started = f.started;
          follow = subst (λ (n : ℕ). FollowOn n (length_of s) s.jobs) same f.follow;
          whole = λ none. subst (NoneOpen s) same (f.whole none);
          noted = λ none. subst (λ (n : ℕ). Each (IsNotedTo s.view n) backups) same
              (raised_each (IsNotedTo s.view (first_unplaced s s.jobs)) (IsNotedTo s.view (first_unplaced s s.jobs)) sender upto s.backups (λ backup n. n) (λ backup is n. noted_raised s.view (first_unplaced s s.jobs) upto backup n) (f.noted none));
        }

    books : Books shape g a me moment backups s.jobs s.flush
    books = record {
      nodes = raised_nodes sender upto s.backups;
      noted = raised_each (BackupNoted a.shards s.view) (BackupNoted a.shards s.view) sender upto s.backups (λ backup n. n) noted_more (moment.agreed.places.among.noted me);
      alone = λ some backup. ap (raised_of sender upto) ((rank shape g a moment me some).alone backup);
      idle = λ some. (rank shape g a moment me some).idle;
      unasked = λ some. (rank shape g a moment me some).unasked;
      facts = facts;
      placed = omega arith;
      flushed = λ none. none;
    }

    formed : ShardFormed shape me t
    formed =
        let f = moment.formed.shards me in
        record {
          shaped = f.shaped;
          numbered = f.numbered;
          backups = raised_each (λ (backup : Backup). IsShardNode shape backup.node) (λ (backup : Backup). IsShardNode shape backup.node) sender upto s.backups (λ backup n. n) (λ backup is n. n) f.backups;
          jobs = f.jobs;
          flush = f.flush;
        }

    noted_good : GoodShard shape g a me (settles t)
    noted_good = part_good shape g a me (settles t)
        (followed_part shape g a me moment (sends_all t []) (books_part shape g a me moment backups s.jobs s.flush books formed [] tt) settles (λ b begins own. settles_part shape me node g b begins))

  pub copied_good : GoodShard shape g a me (on_copied s sender view upto)
  copied_good =
      let stayed : GoodShard shape g a me (stays s) = stays_good shape g a me moment in
      either (GoodShard shape g a me) (not (is_primary s view)) (stays s) (if not (has_backup s sender) then stays s else (if not (nat_le upto (length_of s)) then stays s else settles (record s { backups = raised_of sender upto s.backups })))
      (λ e. stayed)
      (λ e. either (GoodShard shape g a me) (not (has_backup s sender)) (stays s) (if not (nat_le upto (length_of s)) then stays s else settles (record s { backups = raised_of sender upto s.backups }))
      (λ f. stayed)
      (λ f. either (GoodShard shape g a me) (not (nat_le upto (length_of s))) (stays s) (settles (record s { backups = raised_of sender upto s.backups }))
      (λ h. stayed)
      (λ h.
      let parts = and_parts s.primary (s.view == view) (not-false (is_primary s view) e) in
      noted_good parts.0 (eqb-true s.view view parts.1))))
