-- Messages that aren't turned away.
use Rattle.std.proofs.Common.{◌≡◌, ℕ, List, Bool, true, false, length, refl}
use Rattle.std.specs.Prelude.{nat_lt, if◌then◌else◌}
use Rattle.std.specs.List.{list_all}
use Rattle.rec_id.specs.declared.item.Cell.{Cell}
use Rattle.rec_id.specs.declared.item.Item.{Item}
use Rattle.view_config.specs.declared.config.Config.{Config}
use Rattle.lazy_msgs.specs.declared.msg.Msg.TheVariants.{Place, Flush, FlushCopy}
use Rattle.lazy_rules.specs.Door.{is_node, has_client, is_config}
use Rattle.lazy_rules.specs.Rows.{stays}
use Rattle.lazy_rules.specs.ShardState.{ShardState}
use Rattle.lazy_rules.specs.ShardRules.{on_place, on_flush, on_flush_copy, shard_took}

pub took_place : (s : ShardState) (sender view from : ℕ) (items : List Item) → is_node s.shape sender ≡ true → nat_lt 0 (length items) ≡ true → list_all (λ item. has_client s.shape item.id) items ≡ true
    → shard_took s sender (Place view from items) ≡ on_place s sender view from items
took_place s sender view from items node some all = rw (node, some, all) refl

pub took_flush : (s : ShardState) (sender : ℕ) (config : Config) (from : ℕ) (items : List Item) → is_node s.shape sender ≡ true → list_all (λ item. has_client s.shape item.id) items ≡ true → is_config s.shape config ≡ true
    → shard_took s sender (Flush config from items) ≡ on_flush s sender config from items
took_flush s sender config from items node all valid = rw (node, all, valid) refl

pub took_flush_copy : (s : ShardState) (sender view from : ℕ) (cells : List Cell) → is_node s.shape sender ≡ true → list_all (λ cell. has_client s.shape cell.id) cells ≡ true
    → shard_took s sender (FlushCopy view from cells) ≡ on_flush_copy s sender view from cells
took_flush_copy s sender view from cells node all = rw (node, all) refl

pub shut_flush_copy : (s : ShardState) (sender view from : ℕ) (cells : List Cell) → is_node s.shape sender ≡ true → list_all (λ cell. has_client s.shape cell.id) cells ≡ false
    → shard_took s sender (FlushCopy view from cells) ≡ stays s
shut_flush_copy s sender view from cells node all = rw (node, all) refl

pub shut_sender_copy : (s : ShardState) (sender view from : ℕ) (cells : List Cell) → is_node s.shape sender ≡ false → shard_took s sender (FlushCopy view from cells) ≡ stays s
shut_sender_copy s sender view from cells node = rw node refl

pub shut_sender_flush : (s : ShardState) (sender : ℕ) (config : Config) (from : ℕ) (items : List Item) → is_node s.shape sender ≡ false → shard_took s sender (Flush config from items) ≡ stays s
shut_sender_flush s sender config from items node = rw node refl

pub shut_flush_items : (s : ShardState) (sender : ℕ) (config : Config) (from : ℕ) (items : List Item) → is_node s.shape sender ≡ true → list_all (λ item. has_client s.shape item.id) items ≡ false
    → shard_took s sender (Flush config from items) ≡ stays s
shut_flush_items s sender config from items node all = rw (node, all) refl

pub shut_flush_config : (s : ShardState) (sender : ℕ) (config : Config) (from : ℕ) (items : List Item) → is_node s.shape sender ≡ true → list_all (λ item. has_client s.shape item.id) items ≡ true → is_config s.shape config ≡ false
    → shard_took s sender (Flush config from items) ≡ stays s
shut_flush_config s sender config from items node all valid = rw (node, all, valid) refl

pub either_way : {A : Type 0} (b : Bool) (x : A) → x ≡ (if b then x else x)
either_way true x = refl
either_way false x = refl
