use Rattle.std.specs.Prelude.{ℕ, List, [], Bool, Option}
use Rattle.view_config.specs.Shape.{Dimensions}
use Rattle.lazy_msgs.specs.declared.msg.Msg.{Msg}
use Rattle.lazy_msgs.specs.Step.{Row}
use Rattle.lazy_rules.specs.ShardState.{ShardState, Backup, PlaceJob, FlushJob}
use Rattle.lazy_rules.specs.Pushing.{places_end}
use Rattle.lazy_rules.specs.Store.{Store}

-- the part of a replica in its view
pub record Part : Type 0 where
  pub shape : Dimensions
  pub node : ℕ
  pub view : ℕ
  pub primary : Bool
  pub backups : List Backup

-- a replica of this part, with its store and what it is at
abbrev pub seated : Part → Store → List PlaceJob → Option FlushJob → ShardState
seated seat store jobs flush = record {
  shape = seat.shape;
  node = seat.node;
  view = seat.view;
  primary = seat.primary;
  backups = seat.backups;
  store = store;
  jobs = jobs;
  flush = flush;
}

-- what a row has come to: all but the sends may yet change
pub record Drafted : Type 0 where
  pub seat : Part
  pub store : Store
  pub jobs : List PlaceJob
  pub flush : Option FlushJob
  pub sends : List (ℕ × Msg)

abbrev pub row_of : Drafted → Row ShardState
row_of draft = record {
  next = seated draft.seat draft.store draft.jobs draft.flush;
  sends = draft.sends;
  events = [];
}

-- the row of a replica that is at this, with what it sends
abbrev pub row_from : ShardState → List PlaceJob → Option FlushJob → List (ℕ × Msg) → Row ShardState
row_from s jobs flush sends = record { next = record s { jobs = jobs; flush = flush }; sends = sends; events = [] }

-- the first Place jobs end that are settled
abbrev pub ends : ShardState → Row ShardState
ends s = places_end s s.jobs
