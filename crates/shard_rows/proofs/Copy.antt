-- Copy at a replica: a backup extends its order by what is next, or says again what it has.
use Rattle.std.proofs.Common.{◌≡◌, ◌≢◌, ℕ, ◌+◌, ◌≤◌, List, [], ◌∷◌, length, false, not, Some, None, refl, sym, ap, ◌∙◌, subst, arith}
use Rattle.std.specs.Prelude.{nat_le, ◌==◌, if◌then◌else◌}
use Rattle.std.proofs.lemmas.Bool.{and_parts, eqb-true, leb-true, not-false, not-true}
use Rattle.list_facts.specs.Lists.{Each, In}
use Rattle.list_facts.proofs.Cases.{either}
use Rattle.list_facts.proofs.Places.{at_in}
use Rattle.rec_id.specs.declared.item.Body.TheVariants.{Open}
use Rattle.rec_id.specs.declared.item.Cell.{Cell}
use Rattle.view_config.specs.Shape.{Dimensions}
use Rattle.world_facts.specs.Members.{IsShardNode}
use Rattle.lazy_msgs.specs.declared.msg.Msg.TheVariants.{Copied, Copy}
use Rattle.lazy_rules.specs.Pushing.{length_of}
use Rattle.lazy_rules.specs.Rows.{answers, stays}
use Rattle.lazy_rules.specs.ShardRules.{copies, first_unplaced, has_places, is_backup, on_copy}
use Rattle.lazy_rules.specs.ShardState.{PlaceJob, ShardState}
use Rattle.lazy_rules.specs.WorldRules.{ids_in}
use Rattle.log_facts.specs.Ghosts.{Ghost, IsStarted}
use Rattle.log_facts.specs.Good.{GoodShard, Heard, Moment}
use Rattle.log_facts.specs.Handed.{EachFrom}
use Rattle.log_facts.specs.Parts.{Parts, home_of}
use Rattle.log_facts.specs.Says.{CopySays}
use Rattle.log_facts.specs.Signs.{IsPiece, IsSignPiece}
use Rattle.log_facts.specs.facts.OfData.{IsVoidAt}
use Rattle.log_facts.specs.facts.OfShards.{FollowOn, IsNotedTo, JobFacts, RankFacts}
use Rattle.shard_rows.proofs.Adding.{AddedCell, Adds, adds_shows, grown, grown_long, grown_whole}
use Rattle.shard_rows.proofs.Bookkeeping.{sends_good, stays_good}
use Rattle.shard_rows.proofs.FlushCopy.{says_copied}
use Rattle.shard_rows.proofs.Receiving.{handed_added, handed_copied, handed_decided, handed_piece, handed_voids}
use Rattle.shard_rows.proofs.Standing.{jobs, rank, there}
use Rattle.shard_rows.proofs.Stepping.{shows_good}

module _ (shape : Dimensions) (g : Ghost) (a : Parts) (sender me : ℕ) (view from : ℕ) (cells : List Cell) (moment : Moment shape g a) (node : IsShardNode shape me) (heard : Heard shape g a sender me (Copy view from cells)) where
  abbrev s : ShardState
  s = a.shards me

  says : CopySays shape g.views a.history (a.shards sender) sender me view from cells
  says = heard.said

  some : 1 ≤ view
  some = says.started.some

  some_own : 1 ≤ s.view
  some_own = there shape g a moment me node

  r : RankFacts g.views me s
  r = rank shape g a moment me some_own

  module _ (backup : s.primary ≡ false) (own : s.view ≡ view) where
    module _ (next : from ≡ length_of s) where
      abbrev t : ShardState
      t = grown shape g a me moment node cells s.jobs

      unplaced : (placing : List PlaceJob) → placing ≡ [] → first_unplaced t placing ≡ length_of t
      unplaced placing none = ap (first_unplaced t) none

      jobs_after : JobFacts g.views t
      jobs_after =
          let none = r.unasked backup in
          let idle = r.idle backup in
          record {
            flush = λ job is. absurd (let wrong : Some job ≡ None = sym is ∙ none in let no : ⊥ = cc in no);
            started = (jobs shape g a moment me some_own).started;
            follow = subst (λ (placing : List PlaceJob). FollowOn (first_unplaced t placing) (length_of t) placing) (sym idle) refl;
            whole = λ asked. grown_whole shape g a me moment node cells s.jobs (r.whole backup) (handed_decided shape g a sender me moment view from cells some says.handed) (first_unplaced t s.jobs);
            noted = λ asked. subst (Each (IsNotedTo s.view (first_unplaced t s.jobs))) (sym (r.alone backup)) tt;
          }

      adds : Adds shape g a me moment node cells s.jobs
      adds = record {
        started = subst (IsStarted g.views) (sym own) says.started;
        each = subst (λ (n : ℕ). EachFrom (AddedCell shape a.history (home_of me)) n cells) next (handed_added shape g a sender me moment view from cells some says.handed);
        piece = λ now. subst (λ (n : ℕ). IsPiece g.log.line n (ids_in cells)) next (handed_piece shape g a sender me moment view from cells some says.handed (sym own ∙ now));
        lacks = λ now cell i opened. absurd (undecided cell i opened);
        voids = λ now k cell e noop. subst (λ (n : ℕ). (d : ℕ) × (home_of d ≡ home_of me) × ((a.shards d).view ≡ g.views.cur) × IsVoidAt (a.shards d) cell.id (n + k)) next (handed_voids shape g a sender me moment view from cells some says.handed (sym own ∙ now) k cell e noop);
        decided = λ not_first. handed_decided shape g a sender me moment view from cells some says.handed;
        copied = λ e home same not_first primary. subst (λ (n : ℕ). IsSignPiece (a.shards e).store.order n cells) next (handed_copied shape g a sender me moment view from cells some says.handed e home (sym own ∙ same) primary);
        idle = r.idle;
        jobs = jobs_after;
        unplaced =
            let before : first_unplaced s s.jobs ≡ length_of s = ap (first_unplaced s) (r.idle backup) in
            let after = unplaced s.jobs (r.idle backup) in
            let long = grown_long shape g a me moment node cells s.jobs in
            omega arith;
      }
        where
          undecided : (cell : Cell) → In cell cells → cell.body ≢ Open
          undecided cell i = let at = at_in cells cell i in handed_decided shape g a sender me moment view from cells some says.handed at.0 cell at.1

      copied_next : GoodShard shape g a me (copies s sender cells)
      copied_next = either (GoodShard shape g a me) (has_places (length_of s) (length cells)) (answers t sender (Copied s.view (length_of s + length cells))) (stays s)
          (λ e. shows_good shape g a me moment g.log.given t (adds_shows shape g a me moment node cells s.jobs adds) ((sender, Copied s.view (length_of s + length cells)) ∷ [])
          (says_copied a me s.view (length_of s + length cells) t refl (let long = grown_long shape g a me moment node cells s.jobs in omega arith), tt))
          (λ e. stays_good shape g a me moment)

    copied_again : from + length cells ≤ length_of s → GoodShard shape g a me (answers s sender (Copied view (from + length cells)))
    copied_again has = sends_good shape g a me moment ((sender, Copied view (from + length cells)) ∷ []) (says_copied a me view (from + length cells) s own has, tt)

    copied_good : GoodShard shape g a me (if from == length_of s then copies s sender cells else (if nat_le (from + length cells) (length_of s) then answers s sender (Copied view (from + length cells)) else stays s))
    copied_good = either (GoodShard shape g a me) (from == length_of s) (copies s sender cells) (if nat_le (from + length cells) (length_of s) then answers s sender (Copied view (from + length cells)) else stays s)
        (λ e. copied_next (eqb-true from (length_of s) e))
        (λ e. either (GoodShard shape g a me) (nat_le (from + length cells) (length_of s)) (answers s sender (Copied view (from + length cells))) (stays s)
        (λ f. copied_again (leb-true (from + length cells) (length_of s) f))
        (λ f. stays_good shape g a me moment))

  pub copy_good : GoodShard shape g a me (on_copy s sender view from cells)
  copy_good = either (GoodShard shape g a me) (not (is_backup s view)) (stays s) (if from == length_of s then copies s sender cells else (if nat_le (from + length cells) (length_of s) then answers s sender (Copied view (from + length cells)) else stays s))
      (λ e. stays_good shape g a me moment)
      (λ e.
      let parts = and_parts (not s.primary) (s.view == view) (not-false (is_backup s view) e) in
      copied_good (not-true s.primary parts.0) (eqb-true s.view view parts.1))
