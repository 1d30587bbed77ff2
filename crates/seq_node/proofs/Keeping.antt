-- What is true of every replica stays so in its rows.
use Rattle.std.proofs.Common.{◌≡◌, ℕ, ◌+◌, ◌-◌, ◌<◌, ◌≤◌, List, [], ◌∷◌, ◌++◌, true, length, sym, ap, subst, ◌∙◌, refl, arith}
use Rattle.std.specs.Prelude.{Option, not, nat_lt}
use Rattle.std.specs.List.{list_all}
use Rattle.std.proofs.lemmas.List.{length_push}
use Rattle.std.proofs.lemmas.Bool.{and_parts, not-true}
use Rattle.rec_id.specs.declared.item.Item.{Item}
use Rattle.rec_id.specs.Identity.{Identity, has_id}
use Rattle.lazy_msgs.specs.declared.limits.TheConstants.{PENDING_LIMIT}
use Rattle.lazy_rules.specs.Flight.{Batch, flight_end, new_batch}
use Rattle.lazy_rules.specs.Roles.{others_of, followers_of}
use Rattle.lazy_rules.specs.SeqRules.{is_active, is_leader, is_following, with_item, with_bound}
use Rattle.lazy_rules.specs.SeqState.{SeqState}
use Rattle.seq_node.specs.Kept.{IsKept, Starts, AllKnown}
use Rattle.seq_node.proofs.Known.{length-marked, known_now, all_still, all_push, all_marked, known_filter}

-- a replica with nothing pending and nothing on its way
pub kept_fresh : (s : SeqState) (room shards followers : ℕ) → length s.window ≡ s.shape.clients → room ≡ PENDING_LIMIT → shards ≡ length s.config.shards
    → followers ≡ length (followers_of s.config) → s.pending ≡ [] → s.flight ≡ [] → IsKept s room shards followers
kept_fresh s room shards followers clients room_is shards_are followers_are none idle = record {
  clients = clients;
  room_is = room_is;
  shards_are = shards_are;
  followers_are = followers_are;
  known = subst (AllKnown s.window) (sym none) tt;
  starts = subst (Starts s.bound) (sym idle) tt;
  ends = omega (arith, ap (flight_end s.bound) idle);
  idle = λ _. idle;
}

pub length-others : (nodes : List ℕ) → length (others_of nodes) ≡ length nodes - 1
length-others [] = refl
length-others (node ∷ nodes) = omega arith

pub starts_push : (bound : ℕ) (flight : List Batch) (from count : ℕ) → from ≡ flight_end bound flight → Starts bound flight → Starts bound (flight ++ new_batch from count ∷ [])
starts_push bound [] from count is starts = is
starts_push bound (x ∷ xs) from count is starts = starts

pub end_push : (bound : ℕ) (flight : List Batch) (from count : ℕ) → flight_end bound (flight ++ new_batch from count ∷ []) ≡ from + count
end_push bound [] from count = refl
end_push bound (x ∷ xs) from count = end_push (x.from + x.count) xs from count

module _ (s : SeqState) (room shards followers : ℕ) (kept : IsKept s room shards followers) where
  pub kept_item : (id : Identity) (bytes : Option (List ℕ)) → id.client < length s.window → 1 ≤ id.number → IsKept (with_item s id bytes) room shards followers
  kept_item id bytes inside some =
      let item : Item = record { id = id; bytes = bytes } in record {
        clients = length-marked s.window id inside ∙ kept.clients;
        room_is = kept.room_is;
        shards_are = kept.shards_are;
        followers_are = kept.followers_are;
        known =
            all_push (with_item s id bytes).window s.pending item (all_still s.window id inside s.pending kept.known)
            (known_now s.window id inside some);
        starts = kept.starts;
        ends = omega (arith, kept.ends, length_push s.pending item);
        idle = kept.idle;
      }

  pub kept_bound : (ids : List Identity) → list_all (λ x. nat_lt x.client (length s.window)) ids ≡ true → s.flight ≡ [] → IsKept (with_bound s ids) room shards followers
  kept_bound ids inside idle =
      let marked = all_marked s.window ids s.pending inside kept.known in record {
        clients = marked.0 ∙ kept.clients;
        room_is = kept.room_is;
        shards_are = kept.shards_are;
        followers_are = kept.followers_are;
        known = known_filter (with_bound s ids).window (λ item. not (has_id ids item.id)) s.pending marked.1;
        starts = subst (Starts (s.bound + length ids)) (sym idle) tt;
        ends = omega (arith, ap (flight_end (s.bound + length ids)) idle);
        idle = λ _. idle;
      }

  -- a follower has nothing on its way
  pub idle_follower : (view : ℕ) → is_following s view ≡ true → s.flight ≡ []
  idle_follower view follows =
      kept.idle (not-true (is_leader s) (and_parts (is_active s view) (not (is_leader s)) follows).1)
