use Rattle.std.specs.Prelude.{◌≡◌, ◌≤◌, ℕ, List, nat_lt, if◌then◌else◌}
use Rattle.rec_id.specs.Identity.{Identity}
use Rattle.rec_id.specs.declared.marks.Marks.{Marks}
use Rattle.view_config.specs.declared.config.Config.{Config}

-- What nothing stores, and the facts speak of. Each step may choose it anew.

-- What is known of views. Each function is constant from the last view on of which something is known
pub record Views : Type 0 where
  -- the latest started view, and the view whose order the shards have or are given
  pub lv : ℕ
  pub cur : ℕ
  -- the configuration of each view, whose number is that view's
  pub cf : ℕ → Config
  -- the latest view up to this one that was started
  pub sv : ℕ → ℕ
  -- what a started view began with: how much was bound, and the marks
  pub bs : ℕ → ℕ
  pub wn : ℕ → List Marks
  -- of a closed view: from where on the order was replaced when it was closed, where the order ended that replaced it,
  -- and the member by which it was closed
  pub cl : ℕ → ℕ
  pub le : ℕ → ℕ
  pub cx : ℕ → ℕ

-- a replica acknowledged in a view that it has a record's data
pub record Given : Type 0 where
  pub node : ℕ
  pub view : ℕ
  pub id : Identity

-- a replica acknowledged in a view that a client's read probes it
pub record Probed : Type 0 where
  pub node : ℕ
  pub view : ℕ
  pub client : ℕ
  pub read : ℕ

-- What is known of the log
pub record Log : Type 0 where
  -- the identities in their order, as far as they are or may be bound in this view
  pub line : List Identity
  -- what is below `low` is bound everywhere for good, what is below `high` is while this view lives
  pub low : ℕ
  pub high : ℕ
  -- the acknowledgements that were made
  pub given : List Given
  pub probed : List Probed

pub record Ghost : Type 0 where
  pub views : Views
  pub log : Log

-- the view was started, and its members are those of its configuration
pub record IsStarted (v : Views) (view : ℕ) : Type 0 where
  pub some : 1 ≤ view
  pub is : v.sv view ≡ view

-- f below a view, and x from it on
abbrev pub since : {A : Type 0} → (ℕ → A) → ℕ → A → ℕ → A
since f view x w = if nat_lt w view then f w else x
