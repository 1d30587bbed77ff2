-- Stable at a shard replica: what is bound for good is claimed to be stable.
use Rattle.std.proofs.Common.{◌≡◌, ℕ, ◌<◌, ◌≤◌, [], ◌∷◌, inl, refl, sym, subst, arith, not}
use Rattle.std.specs.Prelude.{◌&&◌, ◌==◌, nat_le, nat_lt}
use Rattle.std.proofs.lemmas.Bool.{and_parts, eqb-true, ltb-true}
use Rattle.list_facts.specs.Lists.{put}
use Rattle.list_facts.proofs.Cases.{either}
use Rattle.list_facts.proofs.Puts.{put_own}
use Rattle.view_config.specs.Shape.{Dimensions}
use Rattle.view_config.specs.declared.nodes.TheConstants.{BOARD}
use Rattle.lazy_msgs.specs.declared.msg.Msg.TheVariants.{Claim}
use Rattle.lazy_rules.specs.Pushing.{length_of}
use Rattle.lazy_rules.specs.Rows.{answers, stays}
use Rattle.lazy_rules.specs.ShardRules.{on_stable, with_store}
use Rattle.lazy_rules.specs.ShardState.{ShardState}
use Rattle.lazy_rules.specs.Store.{has_open_below, raise_stable}
use Rattle.log_facts.specs.Ghosts.{Ghost, IsStarted}
use Rattle.log_facts.specs.Good.{GoodShard, Moment}
use Rattle.log_facts.specs.Parts.{Parts}
use Rattle.log_facts.specs.Says.{ClaimSays, StableSays}
use Rattle.shard_rows.proofs.Bookkeeping.{stays_good}
use Rattle.shard_rows.proofs.Storing.{Stores, stores_good}

module _ (shape : Dimensions) (g : Ghost) (a : Parts) (me : ℕ) (moment : Moment shape g a) (view upto : ℕ) (heard : StableSays g.views g.log.low view upto) where
  abbrev s : ShardState
  s = a.shards me

  module _ (now : s.view ≡ view) (above : s.store.stable < upto) where
    stores : Stores shape g a me moment g.log.given (raise_stable s.store upto)
    stores =
        let f = moment.agreed.shards.stores me in
        let b = moment.agreed.bytes me in
        let within = f.within in
        let low = heard.below in
        record {
          length = refl;
          places = λ place. inl refl;
          facts = record { mode = f.mode; shards = f.shards; shard = f.shard; placed = f.placed; floored = f.floored; within = omega arith; held = f.held };
          bytes = record { cells = b.cells; held = b.held; asked = b.asked };
          stable = omega arith;
          floor = omega arith;
          below = λ some. low;
          closed = λ some before. let closed = heard.closed (omega arith) in subst (λ (w : ℕ). upto ≤ g.views.cl w) (sym now) closed;
          unflushed = λ some job is. absurd (((moment.agreed.shards.jobs me some).flush job is).unstarted (subst (IsStarted g.views) (sym now) heard.started));
          awaited = moment.agreed.shards.awaited me;
          has = λ id h. h;
          more = λ one i. i;
          fresh = λ one i. inl i;
        }

    abbrev raised : ShardState
    raised = with_store s (raise_stable s.store upto)

    says : ClaimSays (put a.shards me raised me) upto
    says = subst (λ (x : ShardState). ClaimSays x upto) (sym (put_own a.shards me raised)) (omega arith)

    raises_good : GoodShard shape g a me (answers raised BOARD (Claim upto))
    raises_good = stores_good shape g a me moment g.log.given (raise_stable s.store upto) stores ((BOARD, Claim upto) ∷ []) (says, tt)

  pub stable_good : GoodShard shape g a me (on_stable s view upto)
  stable_good = either (GoodShard shape g a me) (s.view == view && nat_lt s.store.stable upto && nat_le upto (length_of s) && not (has_open_below s.store upto))
      (answers (with_store s (raise_stable s.store upto)) BOARD (Claim upto)) (stays s)
      (λ e.
      let first = and_parts (s.view == view && nat_lt s.store.stable upto && nat_le upto (length_of s)) (not (has_open_below s.store upto)) e in
      let second = and_parts (s.view == view && nat_lt s.store.stable upto) (nat_le upto (length_of s)) first.0 in
      let third = and_parts (s.view == view) (nat_lt s.store.stable upto) second.0 in
      raises_good (eqb-true s.view view third.0) (ltb-true s.store.stable upto third.1))
      (λ e. stays_good shape g a me moment)
