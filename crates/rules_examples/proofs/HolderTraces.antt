use Rattle.std.proofs.Common.{◌≡◌, [], ◌∷◌, ◌++◌, Some, refl}
use Rattle.rec_id.specs.declared.entry.Entry.TheVariants.{Kept, Noop, Gone}
use Rattle.rec_id.specs.declared.event.Ask.TheVariants.{Tail}
use Rattle.rec_id.specs.declared.event.Event.TheVariants.{Invoke, Acked, Begin, Answer, TrimAsk}
use Rattle.view_config.specs.declared.edition.Edition.TheVariants.{One, Two}
use Rattle.view_config.specs.declared.edition.Mode.TheVariants.{M, St}
use Rattle.lazy_msgs.specs.declared.input.WorldEvent.TheVariants.{Post, Ask, Trim, Deliver, Tick, Crash, Suspect}
use Rattle.rules_examples.proofs.Shows.{c#, shape_in, flow, traces, line_is, line_lost}

-- Who holds the log, and what of it. Holder 256 is the taken state. A byte 97 is the letter a, 98 the
-- letter b.

-- the survivors hold what was acknowledged and isn't bound
pub survivors_hold : traces (shape_in One M 3 0 1 1 1)
    ((Post 0 (97 ∷ []) ∷ flow 1 6 ++ Crash 257 ∷ []) ∷ []) ≡ record {
      history = Invoke (c# 0 1) (97 ∷ [])
          ∷ Acked (c# 0 1)
          ∷ [];
      messages = 6;
      events = 8;
      refused = [];
      lines = (line_is 258 (Kept (c# 0 1) (97 ∷ []) ∷ []) ∷ line_is 259 (Kept (c# 0 1) (97 ∷ []) ∷ []) ∷ [])
          ∷ [];
    }
survivors_hold = refl

-- while it is flushed the taken state is the one holder
pub taken_state_holds : traces (shape_in One M 2 0 1 2 1)
    ((Post 0 (97 ∷ []) ∷ Deliver 2 ∷ Suspect 257 ∷ flow 5 3) ∷ []) ≡ record {
      history = Invoke (c# 0 1) (97 ∷ [])
          ∷ [];
      messages = 8;
      events = 6;
      refused = [];
      lines = (line_is 256 (Kept (c# 0 1) (97 ∷ []) ∷ []) ∷ [])
          ∷ [];
    }
taken_state_holds = refl

-- a line is lost where its shard has no replica left; and then there is no holder
pub lost_and_no_holder : traces (shape_in One M 2 0 1 1 1)
    ((Post 0 (97 ∷ []) ∷ Deliver 1 ∷ Crash 257 ∷ Crash 264 ∷ []) ∷ (Crash 258 ∷ []) ∷ []) ≡ record {
      history = Invoke (c# 0 1) (97 ∷ [])
          ∷ [];
      messages = 3;
      events = 5;
      refused = [];
      lines = (line_lost 258 0 ∷ [])
          ∷ []
          ∷ [];
    }
lost_and_no_holder = refl

-- the holders through a change of view: the old view's while it is sealed, the taken state, then the new view's, which holds what the view began with before it took it, and after
pub holders_of_a_change : traces (shape_in One M 1 1 1 1 1)
    ((Post 0 (97 ∷ []) ∷ Deliver 1 ∷ Suspect 257 ∷ Deliver 3 ∷ []) ∷ (flow 4 2) ∷ (Deliver 6 ∷ []) ∷ (Deliver 7 ∷ []) ∷ []) ≡ record {
      history = Invoke (c# 0 1) (97 ∷ [])
          ∷ [];
      messages = 9;
      events = 8;
      refused = [];
      lines = (line_is 257 (Kept (c# 0 1) (97 ∷ []) ∷ []) ∷ [])
          ∷ (line_is 256 (Kept (c# 0 1) (97 ∷ []) ∷ []) ∷ [])
          ∷ (line_is 258 (Kept (c# 0 1) (97 ∷ []) ∷ []) ∷ [])
          ∷ (line_is 258 (Kept (c# 0 1) (97 ∷ []) ∷ []) ∷ [])
          ∷ [];
    }
holders_of_a_change = refl

-- a crashed replica holds nothing while its view is sealed, nor does the spare that is to come
pub crashed_before_the_seal : traces (shape_in One M 2 1 1 1 1)
    ((Post 0 (97 ∷ []) ∷ flow 1 4 ++ Crash 257 ∷ Suspect 257 ∷ []) ∷ []) ≡ record {
      history = Invoke (c# 0 1) (97 ∷ [])
          ∷ Acked (c# 0 1)
          ∷ [];
      messages = 6;
      events = 7;
      refused = [];
      lines = (line_is 258 (Kept (c# 0 1) (97 ∷ []) ∷ []) ∷ [])
          ∷ [];
    }
crashed_before_the_seal = refl

-- a line is lost by the newest configuration, also where a replica that it leaves out is there
pub lost_in_the_newest : traces (shape_in One M 1 0 1 2 1)
    ((Post 0 (97 ∷ []) ∷ flow 1 2 ++ Suspect 264 ∷ []) ∷ (Crash 265 ∷ []) ∷ []) ≡ record {
      history = Invoke (c# 0 1) (97 ∷ [])
          ∷ Acked (c# 0 1)
          ∷ [];
      messages = 3;
      events = 5;
      refused = [];
      lines = (line_is 257 (Kept (c# 0 1) (97 ∷ []) ∷ []) ∷ [])
          ∷ (line_lost 257 0 ∷ [])
          ∷ [];
    }
lost_in_the_newest = refl

-- of what is bound each shard has the bodies of its own places
pub bound_over_two_shards : traces (shape_in One M 1 0 2 1 1)
    ((Post 0 (97 ∷ []) ∷ flow 1 2 ++ Post 0 (98 ∷ []) ∷ flow 3 2 ++ Tick 257 ∷ flow 5 4) ∷ []) ≡ record {
      history = Invoke (c# 0 1) (97 ∷ [])
          ∷ Acked (c# 0 1)
          ∷ Invoke (c# 0 2) (98 ∷ [])
          ∷ Acked (c# 0 2)
          ∷ [];
      messages = 10;
      events = 11;
      refused = [];
      lines = (line_is 257 (Kept (c# 0 1) (97 ∷ []) ∷ Kept (c# 0 2) (98 ∷ []) ∷ []) ∷ [])
          ∷ [];
    }
bound_over_two_shards = refl

-- where data comes by itself, an unbound record without it is a no-op in the line, until it comes
pub data_of_its_own_shard : traces (shape_in One St 1 0 2 1 1)
    ((Post 0 (97 ∷ []) ∷ Post 0 (98 ∷ []) ∷ flow 1 2 ++ Deliver 4 ∷ []) ∷ (Deliver 3 ∷ []) ∷ (Tick 257 ∷ flow 9 6) ∷ []) ≡ record {
      history = Invoke (c# 0 1) (97 ∷ [])
          ∷ Invoke (c# 0 2) (98 ∷ [])
          ∷ [];
      messages = 16;
      events = 13;
      refused = [];
      lines = (line_is 257 (Kept (c# 0 1) (97 ∷ []) ∷ Noop (c# 0 2) ∷ []) ∷ [])
          ∷ (line_is 257 (Kept (c# 0 1) (97 ∷ []) ∷ Kept (c# 0 2) (98 ∷ []) ∷ []) ∷ [])
          ∷ (line_is 257 (Kept (c# 0 1) (97 ∷ []) ∷ Kept (c# 0 2) (98 ∷ []) ∷ []) ∷ [])
          ∷ [];
    }
data_of_its_own_shard = refl

-- a record that isn't bound is in the line with its data also once its shard has placed it
pub data_that_is_placed : traces (shape_in One St 1 0 1 1 1)
    ((Post 0 (97 ∷ []) ∷ flow 1 2 ++ Tick 257 ∷ []) ∷ (Deliver 5 ∷ []) ∷ []) ≡ record {
      history = Invoke (c# 0 1) (97 ∷ [])
          ∷ [];
      messages = 6;
      events = 5;
      refused = [];
      lines = (line_is 257 (Kept (c# 0 1) (97 ∷ []) ∷ []) ∷ [])
          ∷ (line_is 257 (Kept (c# 0 1) (97 ∷ []) ∷ []) ∷ [])
          ∷ [];
    }
data_that_is_placed = refl

-- a body is read at the first replica that isn't crashed
pub first_replica_that_is_there : traces (shape_in Two M 1 0 1 2 1)
    ((Post 0 (97 ∷ []) ∷ flow 1 2 ++ Tick 257 ∷ flow 3 6 ++ Ask 0 (Tail 0) ∷ flow 11 7 ++ Crash 264 ∷ Trim 0 1 ∷ Deliver 19 ∷ []) ∷ []) ≡ record {
      history = Invoke (c# 0 1) (97 ∷ [])
          ∷ Acked (c# 0 1)
          ∷ Begin 0 1 (Tail 0)
          ∷ Answer 0 1 0 (Kept (c# 0 1) (97 ∷ []) ∷ []) (Some 1)
          ∷ TrimAsk 0 2 1
          ∷ [];
      messages = 20;
      events = 21;
      refused = [];
      lines = (line_is 257 (Gone (c# 0 1) ∷ []) ∷ [])
          ∷ [];
    }
first_replica_that_is_there = refl
