use Rattle.std.proofs.Common.{◌≡◌, [], ◌∷◌, ◌++◌, map, Some, None, refl}
use Rattle.std.specs.Prelude.{replicate}
use Rattle.std.specs.List.{range_with_len}
use Rattle.rec_id.specs.declared.entry.Entry.TheVariants.{Kept, Noop}
use Rattle.rec_id.specs.declared.event.Ask.TheVariants.{Range, Tail}
use Rattle.rec_id.specs.declared.event.Event.TheVariants.{Invoke, Acked, Rejected, Begin, Answer, Seen}
use Rattle.view_config.specs.declared.edition.Edition.TheVariants.{One}
use Rattle.view_config.specs.declared.edition.Mode.TheVariants.{M, St}
use Rattle.lazy_msgs.specs.declared.input.WorldEvent.TheVariants.{Post, Ask, Peek, Deliver, Tick, Grace, Crash, Suspect}
use Rattle.lazy_msgs.specs.declared.refused.BeginRefused.TheVariants.{Outstanding, Backward as BackwardRead, Wide as WideRead}
use Rattle.lazy_msgs.specs.declared.refused.EventRefused.TheVariants.{NoNode, NoMessage, IsClaim, NotClaim, Crashed, NotYet, Post as PostRefused, Begin as BeginRefused, Suspect as SuspectRefused}
use Rattle.lazy_msgs.specs.declared.refused.PostRefused.TheVariants.{TooLong, WindowFull}
use Rattle.lazy_msgs.specs.declared.refused.SuspectRefused.TheVariants.{NotInView, LastSeq, LastOfShard}
use Rattle.rules_examples.proofs.Shows.{c#, shape_in, flow, traces, line_is}

-- Whole traces in one view: what the clients are told, what is refused, and the lines of the holders. A
-- byte 97 is the letter a, 98 the letter b. Node 257 is the first sequencing replica, 264 the first shard
-- replica.

-- a tail read wants all three phases, and what is claimed can be peeked at, no further
pub read_by_tail : traces (shape_in One M 3 0 1 1 1)
    ((Post 0 (97 ∷ []) ∷ flow 1 6 ++ Tick 257 ∷ flow 7 8 ++ Ask 0 (Tail 0) ∷ flow 15 10 ++ Peek 0 14 0 1 ∷ Peek 0 14 0 2 ∷ Peek 0 13 0 1 ∷ []) ∷ []) ≡ record {
      history = Invoke (c# 0 1) (97 ∷ [])
          ∷ Acked (c# 0 1)
          ∷ Begin 0 1 (Tail 0)
          ∷ Answer 0 1 0 (Kept (c# 0 1) (97 ∷ []) ∷ []) (Some 1)
          ∷ Seen 0 0 (c# 0 1 ∷ [])
          ∷ [];
      messages = 24;
      events = 27;
      refused = IsClaim 14 ∷ NotYet 1 ∷ NotClaim 13 ∷ [];
      lines = (line_is 257 (Kept (c# 0 1) (97 ∷ []) ∷ []) ∷ line_is 258 (Kept (c# 0 1) (97 ∷ []) ∷ []) ∷ line_is 259 (Kept (c# 0 1) (97 ∷ []) ∷ []) ∷ [])
          ∷ [];
    }
read_by_tail = refl

-- two replicas know two records in opposite orders; each line is one of them, and what is read is what was bound
pub read_in_the_leaders_order : traces (shape_in One M 2 0 1 1 2)
    ((Post 0 (97 ∷ []) ∷ Post 1 (98 ∷ []) ∷ Deliver 3 ∷ Deliver 1 ∷ Deliver 2 ∷ Deliver 4 ∷ []) ∷ (flow 5 4) ∷ (Tick 257 ∷ flow 9 6 ++ Ask 0 (Range 0 2) ∷ flow 15 2) ∷ []) ≡ record {
      history = Invoke (c# 0 1) (97 ∷ [])
          ∷ Invoke (c# 1 1) (98 ∷ [])
          ∷ Acked (c# 0 1)
          ∷ Acked (c# 1 1)
          ∷ Begin 0 1 (Range 0 2)
          ∷ Answer 0 1 0 (Kept (c# 1 1) (98 ∷ []) ∷ Kept (c# 0 1) (97 ∷ []) ∷ []) None
          ∷ [];
      messages = 16;
      events = 19;
      refused = IsClaim 14 ∷ [];
      lines = (line_is 257 (Kept (c# 1 1) (98 ∷ []) ∷ Kept (c# 0 1) (97 ∷ []) ∷ []) ∷ line_is 258 (Kept (c# 0 1) (97 ∷ []) ∷ Kept (c# 1 1) (98 ∷ []) ∷ []) ∷ [])
          ∷ (line_is 257 (Kept (c# 1 1) (98 ∷ []) ∷ Kept (c# 0 1) (97 ∷ []) ∷ []) ∷ line_is 258 (Kept (c# 0 1) (97 ∷ []) ∷ Kept (c# 1 1) (98 ∷ []) ∷ []) ∷ [])
          ∷ (line_is 257 (Kept (c# 1 1) (98 ∷ []) ∷ Kept (c# 0 1) (97 ∷ []) ∷ []) ∷ line_is 258 (Kept (c# 1 1) (98 ∷ []) ∷ Kept (c# 0 1) (97 ∷ []) ∷ []) ∷ [])
          ∷ [];
    }
read_in_the_leaders_order = refl

-- a tail read from behind the end is answered with the tail alone
pub past_the_end : traces (shape_in One M 1 0 1 1 1)
    ((Ask 0 (Tail 5) ∷ flow 1 4 ++ Ask 0 (Range 0 257) ∷ Ask 0 (Range 3 2) ∷ []) ∷ []) ≡ record {
      history = Begin 0 1 (Tail 5)
          ∷ Answer 0 1 5 [] (Some 0)
          ∷ [];
      messages = 4;
      events = 5;
      refused = BeginRefused WideRead ∷ BeginRefused BackwardRead ∷ [];
      lines = (line_is 257 [] ∷ [])
          ∷ [];
    }
past_the_end = refl

-- the second of two batches on their way is read once both are bound
pub read_of_the_second_batch : traces (shape_in One M 1 0 1 1 1)
    ((replicate 65 (Post 0 []) ++ flow 1 65 ++ Tick 257 ∷ Tick 257 ∷ Deliver 131 ∷ Deliver 133 ∷ Deliver 135 ∷ Deliver 134 ∷ Deliver 137 ∷ Ask 0 (Range 64 65) ∷ flow 139 2) ∷ []) ≡ record {
      history = map (λ n. Invoke (c# 0 n) []) (range_with_len 1 65)
          ++ Begin 0 1 (Range 64 65)
          ∷ Answer 0 1 64 (Kept (c# 0 65) [] ∷ []) None
          ∷ [];
      messages = 140;
      events = 140;
      refused = [];
      lines = (line_is 257 (map (λ n. Kept (c# 0 n) []) (range_with_len 1 65)) ∷ [])
          ∷ [];
    }
read_of_the_second_batch = refl

-- a record whose data didn't come in time is a no-op for good, and its client is told so
pub stable_noop : traces (shape_in One St 1 0 1 1 1)
    ((Post 0 (97 ∷ []) ∷ Deliver 2 ∷ Tick 257 ∷ Deliver 4 ∷ Grace 264 ∷ flow 5 2 ++ Deliver 1 ∷ Deliver 8 ∷ Ask 0 (Range 0 1) ∷ flow 9 2) ∷ []) ≡ record {
      history = Invoke (c# 0 1) (97 ∷ [])
          ∷ Rejected (c# 0 1) 0
          ∷ Begin 0 1 (Range 0 1)
          ∷ Answer 0 1 0 (Noop (c# 0 1) ∷ []) None
          ∷ [];
      messages = 10;
      events = 12;
      refused = [];
      lines = (line_is 257 (Noop (c# 0 1) ∷ []) ∷ [])
          ∷ [];
    }
stable_noop = refl

-- what is refused, and by which name
pub refused_in_order : traces (shape_in One M 1 0 1 1 1)
    ((Deliver 0 ∷ Tick 266 ∷ Crash 257 ∷ Tick 257 ∷ Ask 0 (Range 0 1) ∷ Ask 0 (Range 0 1) ∷ []) ∷ []) ≡ record {
      history = Begin 0 1 (Range 0 1)
          ∷ [];
      messages = 1;
      events = 2;
      refused = NoMessage 0 ∷ NoNode 266 ∷ Crashed 257 ∷ BeginRefused (Outstanding 1) ∷ [];
      lines = []
          ∷ [];
    }
refused_in_order = refl

-- an append that is delivered again after a later one keeps its place
pub lines_of_a_repeat : traces (shape_in One M 2 0 1 1 2)
    ((Post 0 (97 ∷ []) ∷ flow 1 4 ++ Post 1 (98 ∷ []) ∷ Deliver 6 ∷ Deliver 2 ∷ []) ∷ []) ≡ record {
      history = Invoke (c# 0 1) (97 ∷ [])
          ∷ Acked (c# 0 1)
          ∷ Invoke (c# 1 1) (98 ∷ [])
          ∷ [];
      messages = 8;
      events = 8;
      refused = [];
      lines = (line_is 257 (Kept (c# 0 1) (97 ∷ []) ∷ []) ∷ line_is 258 (Kept (c# 0 1) (97 ∷ []) ∷ Kept (c# 1 1) (98 ∷ []) ∷ []) ∷ [])
          ∷ [];
    }
lines_of_a_repeat = refl

-- a Place that is delivered again leaves one cell
pub lines_of_a_repeated_place : traces (shape_in One M 2 0 1 2 1)
    ((Post 0 (97 ∷ []) ∷ flow 1 4 ++ Tick 257 ∷ Deliver 5 ∷ flow 5 10) ∷ []) ≡ record {
      history = Invoke (c# 0 1) (97 ∷ [])
          ∷ Acked (c# 0 1)
          ∷ [];
      messages = 16;
      events = 17;
      refused = [];
      lines = (line_is 257 (Kept (c# 0 1) (97 ∷ []) ∷ []) ∷ line_is 258 (Kept (c# 0 1) (97 ∷ []) ∷ []) ∷ [])
          ∷ [];
    }
lines_of_a_repeated_place = refl

-- a client whose numbers are unfinished for a whole window appends no more; nobody is replaced who is the last
-- of its list, or in none
pub full_window_and_refused_suspicions : traces (shape_in One M 1 0 1 1 1)
    ((replicate 257 (Post 0 []) ++ Suspect 257 ∷ Suspect 264 ∷ Suspect 0 ∷ []) ∷ []) ≡ record {
      history = map (λ n. Invoke (c# 0 n) []) (range_with_len 1 256);
      messages = 256;
      events = 256;
      refused = PostRefused (WindowFull 1) ∷ SuspectRefused LastSeq ∷ SuspectRefused (LastOfShard 0) ∷ SuspectRefused NotInView ∷ [];
      lines = (line_is 257 [] ∷ [])
          ∷ [];
    }
full_window_and_refused_suspicions = refl

-- a record has no more bytes than its edition allows
pub too_long : traces (shape_in One M 1 0 1 1 1)
    ((Post 0 (replicate 4097 97) ∷ []) ∷ []) ≡ record {
      history = [];
      messages = 0;
      events = 0;
      refused = PostRefused TooLong ∷ [];
      lines = (line_is 257 [] ∷ [])
          ∷ [];
    }
too_long = refl
