use Rattle.std.specs.Prelude.{ℕ, ◌+◌, ◌*◌, ◌^◌, ◌%◌, ◌<◌, ◌≤◌, List, Bool, ◌&&◌, ◌==◌}
use Rattle.rec_id.specs.declared.limits.TheConstants.{MAX_CLIENT}
use Rattle.std.specs.List.{list_any}

-- which client appended a record, and as which of its appends
pub record Identity : Type 0 where
  pub client : ℕ
  pub number : ℕ

-- the numbers are in the limits of an identity
pub record IsIdentity (id : Identity) : Type 0 where
  pub client_in_range : id.client ≤ MAX_CLIENT
  pub numbered : 1 ≤ id.number
  pub number_in_range : id.number < 2 ^ 32

-- the identity as one word
abbrev pub packed : Identity → ℕ
packed id = id.client * 2 ^ 32 + id.number

-- the shard that keeps the data of the record, of so many
abbrev pub shard_of : Identity → ℕ → ℕ
shard_of id shards = (id.client + id.number) % shards

-- the two identities are one
abbrev pub same_id : Identity → Identity → Bool
same_id a b = a.client == b.client && a.number == b.number

-- the identity is among these
abbrev pub has_id : List Identity → Identity → Bool
has_id ids id = list_any (λ other. same_id other id) ids
