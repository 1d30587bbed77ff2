use Rattle.std.specs.Prelude.{Bool, true, false}
use Rattle.rec_id.specs.declared.item.Body.{Body}
use Rattle.rec_id.specs.declared.item.Body.TheVariants.{Kept}
use Rattle.lazy_rules.specs.Store.{is_noop, is_open, has_data}
use Rattle.shard_store.specs.declared.kinds.Kind.{Kind}
use Rattle.shard_store.specs.declared.kinds.Kind.TheVariants.{Data, Kept as KeptKind, Noop, Open}

abbrev pub is_kept : Body → Bool
is_kept (Kept bytes) = true
is_kept _ = false

-- the body is of this kind
abbrev pub is_of : Kind → Body → Bool
is_of Data body = has_data body
is_of KeptKind body = is_kept body
is_of Noop body = is_noop body
is_of Open body = is_open body
