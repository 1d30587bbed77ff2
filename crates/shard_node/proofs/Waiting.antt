-- What is pushed while a cell is open.
use Rattle.std.proofs.Common.{◌≡◌, ℕ, cond, ◌&&◌, List, [], ◌∷◌, Bool, true, false, Option, Some, None, sym, ap, ◌∙◌, refl}
use Rattle.std.specs.List.{list_all, filter}
use Rattle.std.specs.Prelude.{nat_lt, is_some, if◌then◌else◌}
use Rattle.std.specs.Option.{option_map_or}
use Rattle.lazy_msgs.specs.Step.{Row}
use Rattle.lazy_msgs.specs.declared.msg.Msg.TheVariants.{DataAck}
use Rattle.rec_id.specs.Identity.{Identity}
use Rattle.lazy_rules.specs.Rows.{stays, answers, followed}
use Rattle.lazy_rules.specs.ShardState.{ShardState, PlaceJob, FlushJob}
use Rattle.lazy_rules.specs.ShardRules.{fills, with_store}
use Rattle.lazy_rules.specs.Store.{fill, first_open, has_open, has_open_below}
use Rattle.lazy_rules.specs.Pushing.{pushes_place, pushes_places, pushes_flush, pushes_above}
use Rattle.list_facts.proofs.Positions.{below_some, position_any}
use Rattle.shard_store.proofs.CellBodies.{is_open_cell}
use Rattle.shard_node.specs.Waiting.{ends_above_both, PushesNothing}
use Rattle.shard_node.proofs.Rows.{followed_same}

module _ (s : ShardState) (place first : ℕ) (is_first : Some first ≡ first_open s.store) where
  place_waits : (job : PlaceJob) → nat_lt first job.end ≡ true → pushes_place s job ≡ stays s
  place_waits job below =
      let shut : has_open_below s.store job.end ≡ true = sym (below_some is_open_cell job.end s.store.order first is_first) ∙ below in
      rw shut refl

  places_wait : (jobs : List PlaceJob) → list_all (ends_above_both place first) jobs ≡ true → pushes_places s (filter (λ job. nat_lt place job.end) jobs) ≡ stays s
  places_wait [] all = refl
  places_wait (job ∷ jobs) all = by_test (nat_lt place job.end) (nat_lt first job.end) (place_waits job) (places_wait jobs) all
    where
      by_test : (above below : Bool) → (below ≡ true → pushes_place s job ≡ stays s)
          → (list_all (ends_above_both place first) jobs ≡ true → pushes_places s (filter (λ job. nat_lt place job.end) jobs) ≡ stays s)
          → ((if above then below else true) && list_all (ends_above_both place first) jobs) ≡ true
          → pushes_places s (cond above (job ∷ filter (λ job. nat_lt place job.end) jobs) (filter (λ job. nat_lt place job.end) jobs)) ≡ stays s
      by_test false below waits rest all = rest all
      by_test true false waits rest all = absurd cc
      by_test true true waits rest all =
          ap (λ (r : Row ShardState). followed r (λ after. pushes_places after (filter (λ job. nat_lt place job.end) jobs))) (waits refl) ∙ rest all

  flush_waits : (flush : Option FlushJob) → option_map_or (pushes_flush s) flush (stays s) ≡ stays s
  flush_waits None = refl
  flush_waits (Some job) =
      let shut : has_open s.store ≡ true = sym (ap (λ (o : Option ℕ). is_some o) is_first ∙ position_any is_open_cell s.store.order) in
      rw shut refl

  pub above_waits : list_all (ends_above_both place first) s.jobs ≡ true → pushes_above s place ≡ stays s
  above_waits all =
      ap (λ (r : Row ShardState). followed r (λ after. option_map_or (pushes_flush after) after.flush (stays after))) (places_wait s.jobs all)
      ∙ flush_waits s.flush

-- a cell is filled, and nothing is pushed
pub fill_alone : (s : ShardState) (sender : ℕ) (id : Identity) (bytes : List ℕ) (place : ℕ) → PushesNothing s place
    → answers (with_store s (fill s.store place bytes)) sender (DataAck s.view id) ≡ fills s sender id bytes place
fill_alone s sender id bytes place nothing =
    followed_same (answers (with_store s (fill s.store place bytes)) sender (DataAck s.view id)) (λ after. pushes_above after place) (nothing bytes)
