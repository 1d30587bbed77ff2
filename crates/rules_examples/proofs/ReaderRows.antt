use Rattle.std.proofs.Common.{◌≡◌, ℕ, List, [], ◌∷◌, Some, None, refl, map}
use Rattle.rec_id.specs.declared.entry.Entry.{Entry}
use Rattle.rec_id.specs.declared.entry.Entry.TheVariants.{Kept, Noop}
use Rattle.rec_id.specs.declared.event.Ask.TheVariants.{Range, Tail}
use Rattle.rec_id.specs.declared.event.Event.TheVariants.{Begin, Answer, TrimAsk, TrimDone, Trimmed}
use Rattle.view_config.specs.declared.edition.Edition.TheVariants.{One, Two}
use Rattle.view_config.specs.declared.edition.Mode.TheVariants.{M}
use Rattle.view_config.specs.Shape.{Dimensions}
use Rattle.lazy_msgs.specs.declared.input.Input.{Input}
use Rattle.lazy_msgs.specs.declared.input.Input.TheVariants.{Tick, Ask, Trim}
use Rattle.lazy_msgs.specs.declared.msg.Msg.TheVariants.{Probe, ProbeAck, TailReady, Fetch, Part, ViewIs, Trim as TrimMsg, TrimAck, TrimmedAt}
use Rattle.lazy_msgs.specs.declared.refused.BeginRefused.TheVariants.{Outstanding, Backward, Wide}
use Rattle.lazy_msgs.specs.declared.refused.TrimRefused.TheVariants.{Outstanding as TrimOutstanding, Ahead}
use Rattle.lazy_rules.specs.ReaderRules.{reader_step, begin_refusal, trim_refusal}
use Rattle.lazy_rules.specs.ReaderState.{ReaderState, first_reader}
use Rattle.rules_examples.proofs.Shows.{c#, shape_in, from_node, steps}

-- A reader, row by row. The shape has the sequencing replicas 257 (the leader) and 258, and two shards with
-- the replicas 264 and 265, and 268 and 269. The controller is node 256.

abbrev pub shape : Dimensions
shape = shape_in Two M 2 1 2 2 1

abbrev pub reader : ReaderState
reader = first_reader shape 0

-- record n of client 0, with its number as its one byte
abbrev pub record_# : ℕ → Entry
record_# n = Kept (c# 0 n) (n ∷ [])

-- a part of the read, as a shard replica tells it
abbrev pub part : ℕ → ℕ → ℕ → ℕ → List (ℕ × Entry) → Input
part node number from end entries = from_node node (Part number from end entries)

-- a later view
abbrev pub later : ℕ → List ℕ → List (List ℕ) → Input
later view seq shards = from_node 256 (ViewIs (record { view = view; seq = seq; shards = shards }))

-- a tail read waits for every acknowledgement in its view and for the leader's first tail in it; then it
-- fetches up to that tail, takes one part of each shard, and is answered in the order of the places
abbrev pub forced : List Input
forced = Ask (Tail 1)
    ∷ from_node 258 (ProbeAck 1 1)
    ∷ from_node 258 (TailReady 1 1 9)
    ∷ from_node 257 (TailReady 2 1 9)
    ∷ from_node 257 (TailReady 1 2 9)
    ∷ from_node 257 (TailReady 1 1 3)
    ∷ from_node 257 (TailReady 1 1 2)
    ∷ from_node 257 (ProbeAck 2 1)
    ∷ from_node 257 (ProbeAck 1 2)
    ∷ from_node 259 (ProbeAck 1 1)
    ∷ from_node 257 (ProbeAck 1 1)
    ∷ part 264 1 1 3 ((2, record_# 3) ∷ [])
    ∷ part 265 1 1 3 ((2, record_# 4) ∷ [])
    ∷ part 268 1 1 2 ((1, record_# 4) ∷ [])
    ∷ part 268 1 0 3 ((1, record_# 4) ∷ [])
    ∷ part 268 2 1 3 ((1, record_# 4) ∷ [])
    ∷ part 257 1 1 3 ((1, record_# 4) ∷ [])
    ∷ part 269 1 1 5 ((1, record_# 2) ∷ (3, record_# 5) ∷ [])
    ∷ part 268 1 1 3 ((1, record_# 4) ∷ [])
    ∷ []

pub forced_sends : (steps reader_step reader forced).sends ≡ ((257, Probe 1 1) ∷ (258, Probe 1 1) ∷ [])
    ∷ []
    ∷ []
    ∷ []
    ∷ []
    ∷ []
    ∷ []
    ∷ []
    ∷ []
    ∷ []
    ∷ ((264, Fetch 1 1 3) ∷ (268, Fetch 1 1 3) ∷ [])
    ∷ []
    ∷ []
    ∷ []
    ∷ []
    ∷ []
    ∷ []
    ∷ []
    ∷ []
    ∷ []
forced_sends = refl

pub forced_tells : (steps reader_step reader forced).events ≡ (Begin 0 1 (Tail 1) ∷ [])
    ∷ []
    ∷ []
    ∷ []
    ∷ []
    ∷ []
    ∷ []
    ∷ []
    ∷ []
    ∷ []
    ∷ []
    ∷ []
    ∷ []
    ∷ []
    ∷ []
    ∷ []
    ∷ []
    ∷ (Answer 0 1 1 (record_# 2 ∷ record_# 3 ∷ []) (Some 3) ∷ [])
    ∷ []
    ∷ []
forced_tells = refl

-- a range read fetches first. Where a shard has less, what the others told is dropped and the read forces;
-- it then wants no more than it asked for, nor more than there is
abbrev pub fallen_short : List Input
fallen_short = Ask (Range 0 3)
    ∷ part 264 1 0 3 ((0, record_# 9) ∷ (2, record_# 9) ∷ [])
    ∷ part 268 1 0 1 []
    ∷ from_node 257 (ProbeAck 1 1)
    ∷ from_node 258 (ProbeAck 1 1)
    ∷ from_node 257 (TailReady 1 1 8)
    ∷ part 264 1 0 3 ((0, record_# 1) ∷ (2, record_# 3) ∷ [])
    ∷ part 268 1 0 3 ((1, Noop (c# 0 2)) ∷ [])
    ∷ Ask (Range 2 4)
    ∷ part 264 2 2 2 []
    ∷ from_node 257 (TailReady 1 2 2)
    ∷ from_node 257 (ProbeAck 1 2)
    ∷ from_node 258 (ProbeAck 1 2)
    ∷ []

pub fallen_short_sends : (steps reader_step reader fallen_short).sends ≡ ((264, Fetch 1 0 3) ∷ (268, Fetch 1 0 3) ∷ [])
    ∷ []
    ∷ ((257, Probe 1 1) ∷ (258, Probe 1 1) ∷ [])
    ∷ []
    ∷ []
    ∷ ((264, Fetch 1 0 3) ∷ (268, Fetch 1 0 3) ∷ [])
    ∷ []
    ∷ []
    ∷ ((264, Fetch 2 2 4) ∷ (268, Fetch 2 2 4) ∷ [])
    ∷ ((257, Probe 1 2) ∷ (258, Probe 1 2) ∷ [])
    ∷ []
    ∷ []
    ∷ []
    ∷ []
fallen_short_sends = refl

pub fallen_short_tells : (steps reader_step reader fallen_short).events ≡ (Begin 0 1 (Range 0 3) ∷ [])
    ∷ []
    ∷ []
    ∷ []
    ∷ []
    ∷ []
    ∷ []
    ∷ (Answer 0 1 0 (record_# 1 ∷ Noop (c# 0 2) ∷ record_# 3 ∷ []) (Some 8) ∷ [])
    ∷ (Begin 0 2 (Range 2 4) ∷ [])
    ∷ []
    ∷ []
    ∷ []
    ∷ (Answer 0 2 2 [] (Some 2) ∷ [])
    ∷ []
fallen_short_tells = refl

-- what was read bounds what may be trimmed: a forced answer reaches to its tail, another to its end, and an
-- empty one nowhere
pub reached : map (λ inputs. (steps reader_step reader inputs).last.reach)
    ((Ask (Range 3 3) ∷ [])
    ∷ (Ask (Range 0 2) ∷ part 264 1 0 2 ((0, record_# 1) ∷ []) ∷ part 268 1 0 2 ((1, record_# 2) ∷ []) ∷ Ask (Range 1 1) ∷ [])
    ∷ fallen_short
    ∷ []) ≡ 0 ∷ 2 ∷ 8 ∷ []
reached = refl

-- in a later view a probe begins anew, and what was answered in the older one no longer counts
abbrev pub probed_in_a_later_view : List Input
probed_in_a_later_view = Ask (Tail 0)
    ∷ from_node 257 (TailReady 1 1 5)
    ∷ from_node 257 (ProbeAck 1 1)
    ∷ later 1 (258 ∷ []) ((264 ∷ []) ∷ (268 ∷ []) ∷ [])
    ∷ later 2 (258 ∷ 259 ∷ []) ((264 ∷ []) ∷ (268 ∷ []) ∷ [])
    ∷ from_node 257 (ProbeAck 1 1)
    ∷ from_node 258 (ProbeAck 1 1)
    ∷ from_node 258 (ProbeAck 2 1)
    ∷ Tick
    ∷ from_node 258 (TailReady 2 1 0)
    ∷ Tick
    ∷ from_node 259 (ProbeAck 2 1)
    ∷ []

pub probed_in_a_later_view_sends : (steps reader_step reader probed_in_a_later_view).sends ≡ ((257, Probe 1 1) ∷ (258, Probe 1 1) ∷ [])
    ∷ []
    ∷ []
    ∷ []
    ∷ ((258, Probe 2 1) ∷ (259, Probe 2 1) ∷ [])
    ∷ []
    ∷ []
    ∷ []
    ∷ ((258, Probe 2 1) ∷ (259, Probe 2 1) ∷ [])
    ∷ []
    ∷ ((259, Probe 2 1) ∷ [])
    ∷ []
    ∷ []
probed_in_a_later_view_sends = refl

pub probed_in_a_later_view_tells : (steps reader_step reader probed_in_a_later_view).events ≡ (Begin 0 1 (Tail 0) ∷ [])
    ∷ []
    ∷ []
    ∷ []
    ∷ []
    ∷ []
    ∷ []
    ∷ []
    ∷ []
    ∷ []
    ∷ []
    ∷ (Answer 0 1 0 [] (Some 0) ∷ [])
    ∷ []
probed_in_a_later_view_tells = refl

-- a fetch asks another replica of each shard that it waits for at each tick, and the primaries of these in a
-- later view; where it was forced, a tick also reminds the leader
pub fetched_in_turn : (steps reader_step reader
    (Ask (Range 0 3)
    ∷ part 264 1 0 3 []
    ∷ Tick
    ∷ Tick
    ∷ later 2 (258 ∷ []) ((265 ∷ []) ∷ (269 ∷ 268 ∷ []) ∷ [])
    ∷ Tick
    ∷ [])).sends ≡ ((264, Fetch 1 0 3) ∷ (268, Fetch 1 0 3) ∷ [])
    ∷ []
    ∷ ((269, Fetch 1 0 3) ∷ [])
    ∷ ((268, Fetch 1 0 3) ∷ [])
    ∷ ((269, Fetch 1 0 3) ∷ [])
    ∷ ((268, Fetch 1 0 3) ∷ [])
    ∷ []
fetched_in_turn = refl

pub fetched_with_a_tail : (steps reader_step reader
    (Ask (Tail 0) ∷ from_node 257 (TailReady 1 1 2) ∷ from_node 257 (ProbeAck 1 1) ∷ from_node 258 (ProbeAck 1 1) ∷ Tick ∷ [])).sends ≡ ((257, Probe 1 1) ∷ (258, Probe 1 1) ∷ [])
    ∷ []
    ∷ []
    ∷ ((264, Fetch 1 0 2) ∷ (268, Fetch 1 0 2) ∷ [])
    ∷ ((265, Fetch 1 0 2) ∷ (269, Fetch 1 0 2) ∷ (257, Probe 1 1) ∷ [])
    ∷ []
fetched_with_a_tail = refl

-- the replicas of a shard take turns in their order, be they three or one
pub fetched_of_three_and_of_one : (steps reader_step (first_reader (shape_in Two M 1 0 2 3 1) 0)
    (Ask (Range 0 1)
    ∷ later 2 (257 ∷ []) ((264 ∷ 265 ∷ 266 ∷ []) ∷ (268 ∷ []) ∷ [])
    ∷ Tick
    ∷ Tick
    ∷ Tick
    ∷ Tick
    ∷ [])).sends ≡ ((264, Fetch 1 0 1) ∷ (268, Fetch 1 0 1) ∷ [])
    ∷ ((264, Fetch 1 0 1) ∷ (268, Fetch 1 0 1) ∷ [])
    ∷ ((265, Fetch 1 0 1) ∷ (268, Fetch 1 0 1) ∷ [])
    ∷ ((266, Fetch 1 0 1) ∷ (268, Fetch 1 0 1) ∷ [])
    ∷ ((264, Fetch 1 0 1) ∷ (268, Fetch 1 0 1) ∷ [])
    ∷ ((265, Fetch 1 0 1) ∷ (268, Fetch 1 0 1) ∷ [])
    ∷ []
fetched_of_three_and_of_one = refl

-- a read of what was given up is over, where it begins below the floor
pub given_up_reads : (steps reader_step reader
    (Ask (Range 1 3) ∷ from_node 264 (TrimmedAt 1 1) ∷ from_node 264 (TrimmedAt 2 2) ∷ from_node 264 (TrimmedAt 1 2) ∷ from_node 268 (TrimmedAt 1 2) ∷ [])).events ≡ (Begin 0 1 (Range 1 3) ∷ [])
    ∷ []
    ∷ []
    ∷ (Trimmed 0 1 2 ∷ [])
    ∷ []
    ∷ []
given_up_reads = refl

-- a trim is done once all shard replicas of the reader's view acknowledged it; it is sent again to the others,
-- and a later view may want fewer
abbrev pub trim_of_all : List Input
trim_of_all = Ask (Range 0 0)
    ∷ Trim 1
    ∷ Trim 0
    ∷ from_node 264 (TrimAck 2)
    ∷ from_node 264 (TrimAck 2)
    ∷ from_node 257 (TrimAck 2)
    ∷ from_node 265 (TrimAck 1)
    ∷ from_node 265 (TrimAck 2)
    ∷ from_node 268 (TrimAck 2)
    ∷ Tick
    ∷ from_node 269 (TrimAck 2)
    ∷ []

pub trim_of_all_sends : (steps reader_step reader trim_of_all).sends ≡ []
    ∷ []
    ∷ ((264, TrimMsg 2 0) ∷ (265, TrimMsg 2 0) ∷ (268, TrimMsg 2 0) ∷ (269, TrimMsg 2 0) ∷ [])
    ∷ []
    ∷ []
    ∷ []
    ∷ []
    ∷ []
    ∷ []
    ∷ ((269, TrimMsg 2 0) ∷ [])
    ∷ []
    ∷ []
trim_of_all_sends = refl

pub trim_of_all_tells : (steps reader_step reader trim_of_all).events ≡ (Begin 0 1 (Range 0 0) ∷ Answer 0 1 0 [] None ∷ [])
    ∷ []
    ∷ (TrimAsk 0 2 0 ∷ [])
    ∷ []
    ∷ []
    ∷ []
    ∷ []
    ∷ []
    ∷ []
    ∷ []
    ∷ (TrimDone 0 2 0 ∷ [])
    ∷ []
trim_of_all_tells = refl

abbrev pub trim_in_later_views : List Input
trim_in_later_views = Trim 0
    ∷ from_node 264 (TrimAck 1)
    ∷ from_node 268 (TrimAck 1)
    ∷ later 2 (257 ∷ []) ((264 ∷ []) ∷ (268 ∷ 269 ∷ []) ∷ [])
    ∷ from_node 265 (TrimAck 1)
    ∷ later 3 (257 ∷ []) ((264 ∷ []) ∷ (268 ∷ []) ∷ [])
    ∷ []

pub trim_in_later_views_sends : (steps reader_step reader trim_in_later_views).sends ≡ ((264, TrimMsg 1 0) ∷ (265, TrimMsg 1 0) ∷ (268, TrimMsg 1 0) ∷ (269, TrimMsg 1 0) ∷ [])
    ∷ []
    ∷ []
    ∷ ((269, TrimMsg 1 0) ∷ [])
    ∷ []
    ∷ []
    ∷ []
trim_in_later_views_sends = refl

pub trim_in_later_views_tells : (steps reader_step reader trim_in_later_views).events ≡ (TrimAsk 0 1 0 ∷ []) ∷ [] ∷ [] ∷ [] ∷ [] ∷ (TrimDone 0 1 0 ∷ []) ∷ []
trim_in_later_views_tells = refl

-- a reader that trims, by number 2 and in a view without 265, and one that probes, by number 1
abbrev pub trimming : ReaderState
trimming = (steps reader_step reader (Ask (Range 0 0) ∷ Trim 0 ∷ later 2 (257 ∷ []) ((264 ∷ []) ∷ (268 ∷ 269 ∷ []) ∷ []) ∷ [])).last

abbrev pub probing : ReaderState
probing = (steps reader_step reader (Ask (Tail 0) ∷ [])).last

-- an acknowledgement of another trim, or of a node that isn't a shard replica of the view, is not noted
pub trim_acks_not_noted : map (λ input. (reader_step trimming input).next)
    (from_node 264 (TrimAck 1) ∷ from_node 264 (TrimAck 3) ∷ from_node 265 (TrimAck 2) ∷ from_node 257 (TrimAck 2) ∷ []) ≡ trimming ∷ trimming ∷ trimming ∷ trimming ∷ []
trim_acks_not_noted = refl

pub trim_of_all_after_other_acks : (steps reader_step trimming
    (from_node 264 (TrimAck 1) ∷ from_node 268 (TrimAck 1) ∷ from_node 269 (TrimAck 1) ∷ Tick ∷ [])).sends ≡ [] ∷ [] ∷ [] ∷ ((264, TrimMsg 2 0) ∷ (268, TrimMsg 2 0) ∷ (269, TrimMsg 2 0) ∷ []) ∷ []
trim_of_all_after_other_acks = refl

-- nor is one of another probe or view, or of a node that isn't a sequencing replica of the view
pub probe_acks_not_noted : map (λ input. (reader_step probing input).next)
    (from_node 257 (ProbeAck 1 2) ∷ from_node 257 (ProbeAck 2 1) ∷ from_node 259 (ProbeAck 1 1) ∷ from_node 264 (ProbeAck 1 1) ∷ []) ≡ probing ∷ probing ∷ probing ∷ probing ∷ []
probe_acks_not_noted = refl

-- edition One has no trim
pub no_trim : (steps reader_step (first_reader (shape_in One M 1 0 1 1 1) 0) (Trim 0 ∷ [])).sends ≡ [] ∷ []
no_trim = refl

-- what a reader refuses: one read or trim at a time; a range that is backward, or wide; and a trim further
-- than was read
pub reads_refused : map (begin_refusal reader) (Range 0 256 ∷ Range 0 257 ∷ Range 2 1 ∷ Tail 9 ∷ []) ≡ None ∷ Some Wide ∷ Some Backward ∷ None ∷ []
reads_refused = refl

pub reads_refused_at_work : map (λ inputs. begin_refusal (steps reader_step reader inputs).last (Range 2 1))
    ((Ask (Tail 0) ∷ []) ∷ (Ask (Range 0 1) ∷ []) ∷ (Ask (Range 0 0) ∷ Trim 0 ∷ []) ∷ (Ask (Range 0 0) ∷ []) ∷ []) ≡ Some (Outstanding 1) ∷ Some (Outstanding 1) ∷ Some (Outstanding 2) ∷ Some Backward ∷ []
reads_refused_at_work = refl

pub trims_refused : map (λ inputs. trim_refusal (steps reader_step reader inputs).last 9)
    ((Ask (Tail 0) ∷ []) ∷ fallen_short ∷ []) ≡ Some (TrimOutstanding 1) ∷ Some (Ahead 8) ∷ []
trims_refused = refl

pub trim_as_far_as_was_read : trim_refusal (steps reader_step reader fallen_short).last 8 ≡ None
trim_as_far_as_was_read = refl
