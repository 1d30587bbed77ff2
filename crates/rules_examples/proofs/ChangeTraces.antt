use Rattle.std.proofs.Common.{◌≡◌, [], ◌∷◌, ◌++◌, Some, None, refl}
use Rattle.rec_id.specs.declared.entry.Entry.TheVariants.{Kept}
use Rattle.rec_id.specs.declared.event.Ask.TheVariants.{Range, Tail}
use Rattle.rec_id.specs.declared.event.Event.TheVariants.{Invoke, Acked, Begin, Answer}
use Rattle.view_config.specs.declared.edition.Edition.TheVariants.{One}
use Rattle.view_config.specs.declared.edition.Mode.TheVariants.{M, St}
use Rattle.lazy_msgs.specs.declared.input.WorldEvent.TheVariants.{Post, Ask, Deliver, Tick, Grace, Crash, Suspect}
use Rattle.lazy_msgs.specs.declared.refused.EventRefused.TheVariants.{IsClaim}
use Rattle.rules_examples.proofs.Shows.{c#, shape_in, flow, traces, line_is}

-- Whole traces with changes of view. A byte 97 is the letter a, 98 the letter b, 120 the letter x. Node 256
-- is the controller, 257 the first sequencing replica, 264 the first shard replica.

-- the shard's order is cut, and replaced by the survivor's
pub leader_crashes_after_placed : traces (shape_in One M 2 0 1 1 2)
    ((Post 0 (97 ∷ []) ∷ Post 1 (98 ∷ []) ∷ Deliver 3 ∷ Deliver 1 ∷ Deliver 2 ∷ Tick 257 ∷ Deliver 8 ∷ Crash 257 ∷ Suspect 257 ∷ flow 11 7 ++ Ask 0 (Range 0 1) ∷ flow 19 2) ∷ []) ≡ record {
      history = Invoke (c# 0 1) (97 ∷ [])
          ∷ Invoke (c# 1 1) (98 ∷ [])
          ∷ Begin 0 1 (Range 0 1)
          ∷ Answer 0 1 0 (Kept (c# 0 1) (97 ∷ []) ∷ []) None
          ∷ [];
      messages = 20;
      events = 19;
      refused = [];
      lines = (line_is 258 (Kept (c# 0 1) (97 ∷ []) ∷ []) ∷ [])
          ∷ [];
    }
leader_crashes_after_placed = refl

-- the leader crashes while one follower has bound what the other hasn't: the first one is taken
pub leader_crashes_between_two_ordered : traces (shape_in One M 3 0 1 1 1)
    ((Post 0 (97 ∷ []) ∷ Deliver 1 ∷ Deliver 2 ∷ Tick 257 ∷ flow 6 3 ++ Crash 257 ∷ Suspect 257 ∷ Deliver 12 ∷ flow 14 8) ∷ []) ≡ record {
      history = Invoke (c# 0 1) (97 ∷ [])
          ∷ [];
      messages = 22;
      events = 18;
      refused = [];
      lines = (line_is 258 (Kept (c# 0 1) (97 ∷ []) ∷ []) ∷ line_is 259 (Kept (c# 0 1) (97 ∷ []) ∷ []) ∷ [])
          ∷ [];
    }
leader_crashes_between_two_ordered = refl

-- the same, where the other one is taken, which knew of nothing
pub the_other_follower_is_taken : traces (shape_in One M 3 0 1 1 1)
    ((Post 0 (97 ∷ []) ∷ Deliver 1 ∷ Deliver 2 ∷ Tick 257 ∷ flow 6 3 ++ Crash 257 ∷ Suspect 257 ∷ Deliver 13 ∷ flow 14 8) ∷ []) ≡ record {
      history = Invoke (c# 0 1) (97 ∷ [])
          ∷ [];
      messages = 21;
      events = 18;
      refused = [];
      lines = (line_is 258 [] ∷ line_is 259 [] ∷ [])
          ∷ [];
    }
the_other_follower_is_taken = refl

-- an append that one replica acknowledged before it was sealed, and the other one after it
pub sealed_between_two_acknowledgements : traces (shape_in One M 2 0 1 1 1)
    ((Post 0 (97 ∷ []) ∷ flow 1 3 ++ Suspect 257 ∷ Deliver 6 ∷ Deliver 4 ∷ flow 7 6) ∷ []) ≡ record {
      history = Invoke (c# 0 1) (97 ∷ [])
          ∷ Acked (c# 0 1)
          ∷ [];
      messages = 13;
      events = 13;
      refused = [];
      lines = (line_is 258 (Kept (c# 0 1) (97 ∷ []) ∷ []) ∷ [])
          ∷ [];
    }
sealed_between_two_acknowledgements = refl

-- a leader that doesn't know that it is deposed tells its tail, and the reader waits for the others
pub deposed_leader_probed : traces (shape_in One M 2 0 1 1 2)
    ((Suspect 257 ∷ flow 2 7 ++ Post 0 (97 ∷ []) ∷ Tick 0 ∷ flow 13 4 ++ Ask 1 (Tail 0) ∷ flow 17 5 ++ Tick 1 ∷ flow 22 12) ∷ []) ≡ record {
      history = Invoke (c# 0 1) (97 ∷ [])
          ∷ Acked (c# 0 1)
          ∷ Begin 1 1 (Tail 0)
          ∷ Answer 1 1 0 (Kept (c# 0 1) (97 ∷ []) ∷ []) (Some 1)
          ∷ [];
      messages = 33;
      events = 32;
      refused = IsClaim 31 ∷ [];
      lines = (line_is 258 (Kept (c# 0 1) (97 ∷ []) ∷ []) ∷ [])
          ∷ [];
    }
deposed_leader_probed = refl

-- a Flush that is delivered again is answered again, and cuts nothing
pub repeated_flush : traces (shape_in One M 2 0 1 1 1)
    ((Suspect 257 ∷ flow 2 7 ++ Post 0 (120 ∷ []) ∷ Tick 0 ∷ flow 13 4 ++ Tick 258 ∷ flow 17 3 ++ Deliver 4 ∷ []) ∷ (Ask 0 (Range 0 1) ∷ flow 22 2) ∷ []) ≡ record {
      history = Invoke (c# 0 1) (120 ∷ [])
          ∷ Acked (c# 0 1)
          ∷ Begin 0 1 (Range 0 1)
          ∷ Answer 0 1 0 (Kept (c# 0 1) (120 ∷ []) ∷ []) None
          ∷ [];
      messages = 23;
      events = 22;
      refused = [];
      lines = (line_is 258 (Kept (c# 0 1) (120 ∷ []) ∷ []) ∷ [])
          ∷ (line_is 258 (Kept (c# 0 1) (120 ∷ []) ∷ []) ∷ [])
          ∷ [];
    }
repeated_flush = refl

-- a no-op of a primary that crashed before anybody had it
pub noop_that_reached_nobody : traces (shape_in One St 1 0 1 2 1)
    ((Post 0 (97 ∷ []) ∷ Deliver 2 ∷ Deliver 3 ∷ Tick 257 ∷ Deliver 6 ∷ Grace 264 ∷ Crash 264 ∷ Suspect 264 ∷ flow 8 7 ++ Ask 0 (Range 0 1) ∷ Tick 0 ∷ flow 20 8) ∷ []) ≡ record {
      history = Invoke (c# 0 1) (97 ∷ [])
          ∷ Begin 0 1 (Range 0 1)
          ∷ Answer 0 1 0 (Kept (c# 0 1) (97 ∷ []) ∷ []) None
          ∷ Acked (c# 0 1)
          ∷ [];
      messages = 27;
      events = 25;
      refused = [];
      lines = (line_is 257 (Kept (c# 0 1) (97 ∷ []) ∷ []) ∷ [])
          ∷ [];
    }
noop_that_reached_nobody = refl

-- a view starts without the view before it having started
pub abandoned_flush : traces (shape_in One M 2 0 1 2 1)
    ((Post 0 (97 ∷ []) ∷ Deliver 2 ∷ Suspect 257 ∷ flow 5 3 ++ Suspect 265 ∷ flow 9 5 ++ Tick 0 ∷ flow 17 4) ∷ []) ≡ record {
      history = Invoke (c# 0 1) (97 ∷ [])
          ∷ Acked (c# 0 1)
          ∷ [];
      messages = 20;
      events = 17;
      refused = [];
      lines = (line_is 258 (Kept (c# 0 1) (97 ∷ []) ∷ []) ∷ [])
          ∷ [];
    }
abandoned_flush = refl

-- a spare takes the place of the only sequencing replica
pub spare_takes_over : traces (shape_in One M 1 1 1 1 1)
    ((Post 0 (97 ∷ []) ∷ Deliver 1 ∷ Suspect 257 ∷ flow 3 7) ∷ (Ask 0 (Range 0 1) ∷ flow 11 2) ∷ []) ≡ record {
      history = Invoke (c# 0 1) (97 ∷ [])
          ∷ Begin 0 1 (Range 0 1)
          ∷ Answer 0 1 0 (Kept (c# 0 1) (97 ∷ []) ∷ []) None
          ∷ [];
      messages = 12;
      events = 13;
      refused = [];
      lines = (line_is 258 (Kept (c# 0 1) (97 ∷ []) ∷ []) ∷ [])
          ∷ (line_is 258 (Kept (c# 0 1) (97 ∷ []) ∷ []) ∷ [])
          ∷ [];
    }
spare_takes_over = refl
