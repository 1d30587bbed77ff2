use Rattle.std.specs.Prelude.{ℕ}
use Rattle.view_config.specs.Shape.{Dimensions}
use Rattle.lazy_msgs.specs.declared.msg.Msg.{Msg}
use Rattle.lazy_msgs.specs.declared.msg.Msg.TheVariants.{Append, AppendAck, Put, DataAck, Rejected, Place, Placed, Copy, Copied, Order, Ordered, Stable, Probe, ProbeAck, TailReady, Fetch, Part, Flush, FlushCopy, Flushed, Seal, Sealed, SealedEmpty, NewView, Started, AskView, ViewIs, Claim, Trim, TrimAck, TrimmedAt}
use Rattle.log_facts.specs.Ghosts.{Ghost}
use Rattle.log_facts.specs.Parts.{Parts, home_of}
use Rattle.log_facts.specs.Says.{AppendSays, AckSays, PutSays, DataAckSays, RejectedSays, PlaceSays, PlacedSays, CopySays, CopiedSays, OrderSays, OrderedSays, StableSays, ClaimSays, ProbeSays, ProbeAckSays, TailSays, FetchSays, PartSays, FlushSays, FlushCopySays, FlushedSays, SealSays, SealedSays, SealedEmptySays, NewViewSays, StartedSays, IsReign, TrimSays, TrimAckSays, TrimmedAtSays}

-- what a message from this node to that one says, from when it is sent on
abbrev pub Said : Dimensions → Ghost → Parts → ℕ → ℕ → Msg → Type 0
Said shape g a node to (Append view id bytes) = AppendSays shape a.history id bytes
Said shape g a node to (AppendAck view id) = AckSays g.views g.log.line (a.seqs node) node view id
Said shape g a node to (Put id bytes) = PutSays shape a.history id bytes
Said shape g a node to (DataAck view id) = DataAckSays g.log.given node view id
Said shape g a node to (Rejected id place) = RejectedSays shape g.views g.log a.shards id place
Said shape g a node to (Place view from items) = PlaceSays shape g.views g.log.line a.history to view from items
Said shape g a node to (Placed view upto) = PlacedSays g.views a.shards node view upto
Said shape g a node to (Copy view from cells) = CopySays shape g.views a.history (a.shards node) node to view from cells
Said shape g a node to (Copied view upto) = CopiedSays (a.shards node) view upto
Said shape g a node to (Order view from ids) = OrderSays g.views g.log.line a.history a.shards view from ids
Said shape g a node to (Ordered view upto) = OrderedSays g.views (a.seqs node) node view upto
Said shape g a node to (Stable view upto) = StableSays g.views g.log.low view upto
Said shape g a node to (Probe view read) = ProbeSays a.history node read
Said shape g a node to (ProbeAck view read) = ProbeAckSays g.log.probed node view to read
Said shape g a node to (TailReady view read tail) = TailSays g.views g.log a.history a.seqs view to read tail
Said shape g a node to (Fetch read from end) = FetchSays a.history node read from
Said shape g a node to (Part read from end entries) = PartSays shape g.views g.log a.history a.shards (home_of node) to read from end entries
Said shape g a node to (Flush config from items) = FlushSays shape g.views g.log.line a.history to config from items
Said shape g a node to (FlushCopy view from cells) = FlushCopySays shape g.views g.log.line a.history (a.shards node) node to view from cells
Said shape g a node to (Flushed view) = FlushedSays g.views a.shards node view
Said shape g a node to (Seal view) = SealSays g.views to view
Said shape g a node to (Sealed view bound window items) = SealedSays g.views (a.seqs node) node view bound window items
Said shape g a node to (SealedEmpty view) = SealedEmptySays g.views (a.seqs node) node view
Said shape g a node to (NewView config base window) = NewViewSays g.views g.log a.history a.seqs config base window
Said shape g a node to (Started view) = StartedSays (a.seqs node) view
Said shape g a node to AskView = Unit {0}
Said shape g a node to (ViewIs config) = IsReign g.views config
Said shape g a node to (Claim stable) = ClaimSays (a.shards node) stable
Said shape g a node to (Trim read floor) = TrimSays a.history node read floor
Said shape g a node to (TrimAck read) = TrimAckSays a.history (a.shards node) to read
Said shape g a node to (TrimmedAt read floor) = TrimmedAtSays a.history g.log.low floor
