use Rattle.std.proofs.Common.{◌≡◌, [], ◌∷◌, ◌++◌, Some, refl}
use Rattle.rec_id.specs.declared.entry.Entry.TheVariants.{Kept, Gone}
use Rattle.rec_id.specs.declared.event.Ask.TheVariants.{Range, Tail}
use Rattle.rec_id.specs.declared.event.Event.TheVariants.{Invoke, Acked, Begin, Answer, TrimAsk, TrimDone, Trimmed}
use Rattle.view_config.specs.declared.edition.Edition.TheVariants.{Two}
use Rattle.view_config.specs.declared.edition.Mode.TheVariants.{M, St}
use Rattle.lazy_msgs.specs.declared.input.WorldEvent.TheVariants.{Post, Ask, Trim, Deliver}
use Rattle.lazy_msgs.specs.declared.refused.EventRefused.TheVariants.{IsClaim, Trim as TrimRefused}
use Rattle.lazy_msgs.specs.declared.refused.TrimRefused.TheVariants.{Ahead}
use Rattle.rules_examples.proofs.Shows.{c#, shape_in, flow, traces, line_is}

-- Whole traces with trims, in edition Two. A byte 97 is the letter a.

-- a client trims no further than it has read; a read from below the floor is over
pub trimmed_read : traces (shape_in Two M 1 0 1 1 1)
    ((Post 0 (97 ∷ []) ∷ flow 1 2 ++ Ask 0 (Tail 0) ∷ flow 3 9 ++ Trim 0 2 ∷ Trim 0 1 ∷ flow 12 2 ++ Ask 0 (Range 0 1) ∷ flow 14 2) ∷ []) ≡ record {
      history = Invoke (c# 0 1) (97 ∷ [])
          ∷ Acked (c# 0 1)
          ∷ Begin 0 1 (Tail 0)
          ∷ Answer 0 1 0 (Kept (c# 0 1) (97 ∷ []) ∷ []) (Some 1)
          ∷ TrimAsk 0 2 1
          ∷ TrimDone 0 2 1
          ∷ Begin 0 3 (Range 0 1)
          ∷ Trimmed 0 3 1
          ∷ [];
      messages = 15;
      events = 18;
      refused = IsClaim 9 ∷ TrimRefused (Ahead 1) ∷ [];
      lines = (line_is 257 (Gone (c# 0 1) ∷ []) ∷ [])
          ∷ [];
    }
trimmed_read = refl

-- a record whose data was given up is still acknowledged
pub acknowledged_after_the_trim : traces (shape_in Two St 1 0 1 1 2)
    ((Post 0 (97 ∷ []) ∷ Deliver 1 ∷ Deliver 2 ∷ Ask 1 (Tail 0) ∷ flow 5 9 ++ Trim 1 1 ∷ flow 14 2 ++ Deliver 4 ∷ Deliver 1 ∷ Deliver 16 ∷ []) ∷ []) ≡ record {
      history = Invoke (c# 0 1) (97 ∷ [])
          ∷ Begin 1 1 (Tail 0)
          ∷ Answer 1 1 0 (Kept (c# 0 1) (97 ∷ []) ∷ []) (Some 1)
          ∷ TrimAsk 1 2 1
          ∷ TrimDone 1 2 1
          ∷ Acked (c# 0 1)
          ∷ [];
      messages = 16;
      events = 18;
      refused = IsClaim 11 ∷ [];
      lines = (line_is 257 (Gone (c# 0 1) ∷ []) ∷ [])
          ∷ [];
    }
acknowledged_after_the_trim = refl
