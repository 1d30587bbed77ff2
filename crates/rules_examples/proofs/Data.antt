use Rattle.std.proofs.Common.{◌≡◌, ℕ, List, [], ◌∷◌, Some, None, true, refl}
use Rattle.std.specs.Prelude.{Bool, Option}
use Rattle.rec_id.specs.declared.entry.Entry.TheVariants.{Kept as KeptEntry, Noop as NoopEntry}
use Rattle.rec_id.specs.declared.event.Event.TheVariants.{Invoke}
use Rattle.rec_id.specs.declared.item.Body.TheVariants.{Kept, Noop, Open, Gone}
use Rattle.rec_id.specs.declared.item.Cell.{Cell}
use Rattle.rec_id.specs.declared.item.Item.{Item}
use Rattle.view_config.specs.declared.edition.Mode.TheVariants.{St}
use Rattle.lazy_msgs.specs.declared.input.WorldEvent.TheVariants.{Post, Deliver, Tick}
use Rattle.lazy_msgs.specs.declared.msg.Msg.TheVariants.{Put, DataAck, Rejected, Place, Placed, Copy, Copied, Stable, Fetch, Part, Claim, Trim, TrimAck, TrimmedAt}
use Rattle.lazy_rules.specs.ShardRules.{shard_took, on_grace}
use Rattle.lazy_rules.specs.ShardState.{ShardState, first_shard}
use Rattle.lazy_rules.specs.Store.{Store, new_store, hold, has, noop_at, extend, open_to_noop, open_count, cut}
use Rattle.rules_examples.proofs.Shows.{c#, shape_of, cell, tells, sends_of, after_all}

-- Data that comes by itself, and data that is given up.

-- a record without its data
abbrev pub bare : ℕ → ℕ → Item
bare c n = record { id = c# c n; bytes = None }

-- held data is found by its record, and comes back when its cell is cut off
abbrev pub extended : Store
extended = extend (hold (new_store St 0 1) (c# 0 1) (97 ∷ [])) (bare 0 1 ∷ bare 0 2 ∷ [])

pub record StoreShown : Type 0 where
  pub extended_to : List Cell
  pub became_noops : ℕ
  pub noop : Option ℕ
  pub cut_to : List Cell
  pub still_has : Bool

abbrev pub store_shown : StoreShown
store_shown = record {
  extended_to = extended.order;
  became_noops = open_count extended;
  noop = noop_at (open_to_noop extended) (c# 0 2);
  cut_to = (cut (open_to_noop extended) 0).order;
  still_has = has (cut (open_to_noop extended) 0) (c# 0 1);
}

pub held_open_noop_cut : store_shown ≡ record {
  extended_to = cell 0 1 (Kept (97 ∷ [])) ∷ cell 0 2 Open ∷ [];
  became_noops = 1;
  noop = Some 1;
  cut_to = [];
  still_has = true;
}
held_open_noop_cut = refl

-- nothing with an open cell is copied; the data, when it comes, is acknowledged and then copied
pub no_copy_of_an_open_cell : tells (shape_of St 1 1 2 1) (Post 0 (97 ∷ []) ∷ Deliver 3 ∷ Tick 257 ∷ Deliver 5 ∷ Deliver 5 ∷ Deliver 1 ∷ Deliver 7 ∷ Deliver 8 ∷ Deliver 9 ∷ []) 4 ≡ record {
  shown = record {
    history = Invoke (c# 0 1) (97 ∷ []) ∷ [];
    messages = 11;
    events = 9;
    seqs = record { bound = 1; pending = [] } ∷ [];
    shards = record { order = cell 0 1 (Kept (97 ∷ [])) ∷ []; stable = 0 }
        ∷ record { order = cell 0 1 (Kept (97 ∷ [])) ∷ []; stable = 0 }
        ∷ [];
  };
  later = Place 1 0 (bare 0 1 ∷ [])
      ∷ DataAck 1 (c# 0 1)
      ∷ Copy 1 0 (cell 0 1 (Kept (97 ∷ [])) ∷ [])
      ∷ Copied 1 1
      ∷ Placed 1 1
      ∷ Stable 1 1
      ∷ Stable 1 1
      ∷ [];
}
no_copy_of_an_open_cell = refl

-- data that comes pushes what ends behind its place, and not the batch that ends there
pub pushed_above_its_place : sends_of shard_took (first_shard (shape_of St 1 1 2 1) 0 0)
    ((0, Put (c# 0 1) (97 ∷ [])) ∷ (257, Place 1 0 (bare 0 1 ∷ [])) ∷ (257, Place 1 1 (bare 0 2 ∷ [])) ∷ (0, Put (c# 0 2) (98 ∷ [])) ∷ []) ≡ ((0, DataAck 1 (c# 0 1)) ∷ [])
    ∷ ((265, Copy 1 0 (cell 0 1 (Kept (97 ∷ [])) ∷ [])) ∷ [])
    ∷ []
    ∷ ((0, DataAck 1 (c# 0 2)) ∷ (265, Copy 1 1 (cell 0 2 (Kept (98 ∷ [])) ∷ [])) ∷ [])
    ∷ []
pushed_above_its_place = refl

-- a no-op stays one: data that comes before it is final is held and not acknowledged, and after it is
-- final the append is rejected, as often as it is asked
abbrev pub gave_up : ShardState
gave_up = (on_grace (after_all shard_took (first_shard (shape_of St 1 1 1 1) 0 0) ((257, Place 1 0 (bare 0 1 ∷ [])) ∷ []))).next

pub data_too_late : sends_of shard_took gave_up
    ((0, Put (c# 0 1) (97 ∷ [])) ∷ (257, Stable 1 1) ∷ (0, Put (c# 0 1) (97 ∷ [])) ∷ (0, Put (c# 0 1) (97 ∷ [])) ∷ (0, Fetch 1 0 1) ∷ []) ≡ []
    ∷ ((296, Claim 1) ∷ [])
    ∷ ((0, Rejected (c# 0 1) 0) ∷ [])
    ∷ ((0, Rejected (c# 0 1) 0) ∷ [])
    ∷ ((0, Part 1 0 1 ((0, NoopEntry (c# 0 1)) ∷ [])) ∷ [])
    ∷ []
data_too_late = refl

pub noop_stays : (after_all shard_took gave_up ((257, Stable 1 1) ∷ (0, Put (c# 0 1) (97 ∷ [])) ∷ [])).store ≡ record {
  mode = St;
  shard = 0;
  shards = 1;
  order = cell 0 1 Noop ∷ [];
  held = [];
  stable = 1;
  floor = 0;
}
noop_stays = refl

-- a place of another shard is told to nobody, an open one is never final, and what isn't final isn't
-- told
pub told_of_two_shards : sends_of shard_took (first_shard (shape_of St 1 2 1 1) 1 0)
    ((257, Place 1 0 (bare 0 1 ∷ bare 0 2 ∷ bare 0 3 ∷ []))
    ∷ (257, Stable 1 3)
    ∷ (0, Put (c# 0 1) (97 ∷ []))
    ∷ (257, Stable 1 2)
    ∷ (0, Fetch 1 0 3)
    ∷ (0, Put (c# 0 3) (99 ∷ []))
    ∷ (257, Stable 1 3)
    ∷ (0, Fetch 2 1 3)
    ∷ []) ≡ []
    ∷ []
    ∷ ((0, DataAck 1 (c# 0 1)) ∷ [])
    ∷ ((296, Claim 2) ∷ [])
    ∷ ((0, Part 1 0 2 ((0, KeptEntry (c# 0 1) (97 ∷ [])) ∷ [])) ∷ [])
    ∷ ((0, DataAck 1 (c# 0 3)) ∷ (257, Placed 1 3) ∷ [])
    ∷ ((296, Claim 3) ∷ [])
    ∷ ((0, Part 2 1 3 ((2, KeptEntry (c# 0 3) (99 ∷ [])) ∷ [])) ∷ [])
    ∷ []
told_of_two_shards = refl

-- data below a floor is given up as far as it is final; a fetch from below it is told the floor; the
-- record is still acknowledged, and its data isn't taken again
pub given_up : sends_of shard_took (first_shard (shape_of St 1 1 1 1) 0 0)
    ((0, Put (c# 0 1) (97 ∷ []))
    ∷ (257, Place 1 0 (bare 0 1 ∷ []))
    ∷ (0, Trim 1 1)
    ∷ (257, Stable 1 1)
    ∷ (0, Trim 1 1)
    ∷ (0, Trim 2 0)
    ∷ (0, Fetch 3 0 1)
    ∷ (0, Fetch 3 1 2)
    ∷ (0, Put (c# 0 1) (97 ∷ []))
    ∷ []) ≡ ((0, DataAck 1 (c# 0 1)) ∷ [])
    ∷ ((257, Placed 1 1) ∷ [])
    ∷ []
    ∷ ((296, Claim 1) ∷ [])
    ∷ ((0, TrimAck 1) ∷ [])
    ∷ ((0, TrimAck 2) ∷ [])
    ∷ ((0, TrimmedAt 3 1) ∷ [])
    ∷ ((0, Part 3 1 1 []) ∷ [])
    ∷ ((0, DataAck 1 (c# 0 1)) ∷ [])
    ∷ []
given_up = refl

pub given_up_stays : (after_all shard_took (first_shard (shape_of St 1 1 1 1) 0 0)
    ((0, Put (c# 0 1) (97 ∷ [])) ∷ (257, Place 1 0 (bare 0 1 ∷ [])) ∷ (257, Stable 1 1) ∷ (0, Trim 1 1) ∷ (0, Put (c# 0 1) (97 ∷ [])) ∷ [])).store ≡ record {
      mode = St;
      shard = 0;
      shards = 1;
      order = cell 0 1 Gone ∷ [];
      held = [];
      stable = 1;
      floor = 1;
    }
given_up_stays = refl
