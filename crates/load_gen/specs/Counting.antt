use Rattle.std.specs.Prelude.{◌≡◌, ◌<◌, ◌≤◌, ◌^◌, ℕ, List, length, count_by, Bool, true, false, None, Ok}
use Rattle.list_facts.specs.Lists.{Each}
use Rattle.rec_id.specs.Lawful.{Lawful}
use Rattle.rec_id.specs.declared.entry.Entry.{Entry}
use Rattle.rec_id.specs.declared.event.Event.{Event}
use Rattle.rec_id.specs.declared.event.Event.TheVariants.{Invoke, Acked, Rejected, Answer}
use Rattle.lazy_rules.specs.Holders.{holders}
use Rattle.lazy_rules.specs.Lines.{line_told, lost_shard}
use Rattle.lazy_rules.specs.WorldState.{WorldState}
use Rattle.load_gen.specs.declared.limits.TheConstants.{STEPS}
use Rattle.load_gen.specs.declared.counts.Counts.{Counts}
use Rattle.load_gen.specs.Loading.{LoadState}

-- What is counted of a load.

-- the kinds of events of a history that are counted
abbrev pub is_invoke : Event → Bool
is_invoke (Invoke id bytes) = true
is_invoke _ = false

abbrev pub is_acked : Event → Bool
is_acked (Acked id) = true
is_acked _ = false

abbrev pub is_rejected : Event → Bool
is_rejected (Rejected id place) = true
is_rejected _ = false

abbrev pub is_answer : Event → Bool
is_answer (Answer client read from entries tail) = true
is_answer _ = false

-- what the history and the world have; the lawful lines are those of all holders
abbrev pub counts_of : LoadState → Counts
counts_of l = record {
  acked = count_by is_acked l.world.history;
  answered = count_by is_answer l.world.history;
  events = l.world.events;
  invoked = count_by is_invoke l.world.history;
  lawful = length (holders l.world);
  messages = length l.world.sent;
  refused = l.refused;
  rejected = count_by is_rejected l.world.history;
}

-- the line of a holder isn't lost, and is lawful for what the clients did and were told
pub record HasLawfulLine (w : WorldState) (holder : ℕ) : Type 0 where
  pub line : List Entry
  pub told : line_told w holder ≡ Ok line
  pub lawful : Lawful w.history line

-- a world has few events and few holders, and no shard is lost: each holder has a lawful line
pub record IsCountable (w : WorldState) : Type 0 where
  pub events : w.events ≤ STEPS
  pub few : length (holders w) < 2 ^ 32
  pub spared : lost_shard w ≡ None
  pub lawful : Each (HasLawfulLine w) (holders w)
