use Rattle.std.proofs.Common.{◌≡◌, length}
use Rattle.shard_store.specs.Links.{tag_in, IsLinked}
use Rattle.shard_store.proofs.links.link_all.Given as goal

abbrev pub invariant-loop-place : goal.invariant-loop-place
invariant-loop-place l = record {
  heads_len : length l.heads ≡ length l.initial.heads;
  before_len : length l.before ≡ length l.initial.before;
  linked : IsLinked (tag_in (length l.heads) l.cells) l.heads l.before l.place;
}
