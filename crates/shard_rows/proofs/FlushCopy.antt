-- FlushCopy at a replica: it takes the view as a backup with the flushed order, or says again what it has.
use Rattle.std.proofs.Common.{◌≡◌, ◌≢◌, ℕ, ◌+◌, ◌<◌, ◌≤◌, List, [], ◌∷◌, length, true, false, not, None, refl, sym, subst, arith}
use Rattle.std.specs.Prelude.{nat_le, nat_lt, ◌&&◌, ◌==◌, if◌then◌else◌}
use Rattle.std.proofs.lemmas.Bool.{and_parts, eqb-true, leb-true, ltb-true}
use Rattle.list_facts.specs.Lists.{In}
use Rattle.list_facts.proofs.Cases.{either}
use Rattle.list_facts.proofs.Places.{at_in}
use Rattle.list_facts.proofs.Puts.{put_own}
use Rattle.rec_id.specs.declared.item.Body.TheVariants.{Open}
use Rattle.rec_id.specs.declared.item.Cell.{Cell}
use Rattle.view_config.specs.Shape.{Dimensions}
use Rattle.world_facts.specs.Members.{IsShardNode}
use Rattle.lazy_msgs.specs.declared.msg.Msg.TheVariants.{Copied, FlushCopy}
use Rattle.lazy_rules.specs.Pushing.{length_of}
use Rattle.lazy_rules.specs.Rows.{answers, stays}
use Rattle.lazy_rules.specs.ShardRules.{can_cut, flush_copied, has_places, is_backup, on_flush_copy}
use Rattle.lazy_rules.specs.ShardState.{ShardState}
use Rattle.log_facts.specs.Ghosts.{Ghost}
use Rattle.log_facts.specs.Good.{GoodShard, Heard, Moment}
use Rattle.log_facts.specs.Parts.{Parts, with_shard}
use Rattle.log_facts.specs.Says.{CopiedSays, FlushCopySays}
use Rattle.shard_rows.proofs.Bookkeeping.{sends_good, stays_good}
use Rattle.shard_rows.proofs.Receiving.{first_is_sender, handed_added, handed_copied, handed_decided, handed_voids, me_listed, me_not_first}
use Rattle.shard_rows.proofs.Retaking.{Retakes, retakes_shows, retaken_long}
use Rattle.shard_rows.proofs.Stepping.{shows_good}

-- what a backup says that it has
pub says_copied : (a : Parts) (me view upto : ℕ) (t : ShardState) → t.view ≡ view → upto ≤ length_of t → CopiedSays ((with_shard a me t).shards me) view upto
says_copied a me view upto t own has = subst (λ (x : ShardState). CopiedSays x view upto) (sym (put_own a.shards me t)) (record { own = omega arith; has = λ same. has })

module _ (shape : Dimensions) (g : Ghost) (a : Parts) (sender me : ℕ) (view from : ℕ) (cells : List Cell) (moment : Moment shape g a) (node : IsShardNode shape me) (heard : Heard shape g a sender me (FlushCopy view from cells)) where
  abbrev s : ShardState
  s = a.shards me

  says : FlushCopySays shape g.views g.log.line a.history (a.shards sender) sender me view from cells
  says = heard.said

  some : 1 ≤ view
  some = let is = says.flush.is in omega arith

  -- it takes the view
  module _ (rises : s.view < view) (stable : s.store.stable ≤ from) (within : from ≤ length_of s) where
    retakes : Retakes shape g a me moment node view from cells false [] None
    retakes = record {
      rises = rises;
      flush = says.flush;
      stable = stable;
      within = within;
      each = handed_added shape g a sender me moment view from cells some says.handed;
      listed = me_listed shape g a sender me moment view from cells some says.handed;
      first = sym (me_not_first shape g a sender me moment view from cells some says.handed);
      ahead = λ e other first. subst (λ (d : ℕ). view ≤ (a.shards d).view) (sym (first_is_sender shape g a sender me moment view from cells some says.handed e first)) says.handed.own;
      nodes = λ leads. cc;
      noted = tt;
      job = λ one is. cc;
      alone = λ none. refl;
      unasked = λ backup. refl;
      decided = λ none. handed_decided shape g a sender me moment view from cells some says.handed;
      copied = λ e home same backup primary. handed_copied shape g a sender me moment view from cells some says.handed e home same primary;
      lacks = λ now cell i opened. absurd (undecided cell i opened);
      voids = handed_voids shape g a sender me moment view from cells some says.handed;
    }
      where
        undecided : (cell : Cell) → In cell cells → cell.body ≢ Open
        undecided cell i = let at = at_in cells cell i in handed_decided shape g a sender me moment view from cells some says.handed at.0 cell at.1

    taken : GoodShard shape g a me (answers (flush_copied s view from cells) sender (Copied view (from + length cells)))
    taken = shows_good shape g a me moment g.log.given (flush_copied s view from cells) (retakes_shows shape g a me moment node view from cells false [] None retakes) ((sender, Copied view (from + length cells)) ∷ [])
        (says_copied a me view (from + length cells) (flush_copied s view from cells) refl (let long = retaken_long shape g a me moment node view from cells false [] None retakes in omega arith), tt)

  -- it has had it before
  again : is_backup s view ≡ true → from + length cells ≤ length_of s → GoodShard shape g a me (answers s sender (Copied view (from + length cells)))
  again backup has =
      let parts = and_parts (not s.primary) (s.view == view) backup in
      sends_good shape g a me moment ((sender, Copied view (from + length cells)) ∷ []) (says_copied a me view (from + length cells) s (eqb-true s.view view parts.1) has, tt)

  pub flush_copy_good : GoodShard shape g a me (on_flush_copy s sender view from cells)
  flush_copy_good =
      either (GoodShard shape g a me) (nat_lt s.view view && can_cut s from && has_places from (length cells)) (answers (flush_copied s view from cells) sender (Copied view (from + length cells)))
      (if is_backup s view && nat_le (from + length cells) (length_of s) then answers s sender (Copied view (from + length cells)) else stays s)
      (λ e.
      let fits = and_parts (nat_lt s.view view && can_cut s from) (has_places from (length cells)) e in
      let both = and_parts (nat_lt s.view view) (can_cut s from) fits.0 in
      let cuts = and_parts (nat_le s.store.stable from) (nat_le from (length_of s)) both.1 in
      taken (ltb-true s.view view both.0) (leb-true s.store.stable from cuts.0) (leb-true from (length_of s) cuts.1))
      (λ e. either (GoodShard shape g a me) (is_backup s view && nat_le (from + length cells) (length_of s)) (answers s sender (Copied view (from + length cells))) (stays s)
      (λ f. let both = and_parts (is_backup s view) (nat_le (from + length cells) (length_of s)) f in again both.0 (leb-true (from + length cells) (length_of s) both.1))
      (λ f. stays_good shape g a me moment))
