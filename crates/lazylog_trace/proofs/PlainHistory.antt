-- The histories of scripts, and the lines of their holders, hold no newline.
use Rattle.std.proofs.Common.{◌≡◌, ℕ, zero, suc, List, [], ◌∷◌, Some, refl}
use Rattle.std.specs.Prelude.{slice_get, Ok}
use Rattle.list_facts.specs.Lists.{In, Each}
use Rattle.list_facts.proofs.Members.{each_in, each_weaker, in_each}
use Rattle.list_facts.proofs.Places.{each_at}
use Rattle.rec_id.specs.Lawful.{Lawful}
use Rattle.rec_id.specs.declared.entry.Entry.{Entry}
use Rattle.rec_id.specs.declared.entry.Entry.TheVariants.{Kept, Noop, Gone}
use Rattle.rec_id.specs.declared.event.Event.{Event}
use Rattle.rec_id.specs.declared.event.Event.TheVariants.{Invoke, Answer}
use Rattle.view_config.specs.Shape.{Dimensions, IsShape}
use Rattle.lazy_msgs.specs.declared.input.WorldEvent.{WorldEvent}
use Rattle.lazy_msgs.specs.declared.input.WorldEvent.TheVariants.{Post}
use Rattle.lazy_rules.specs.Holders.{holders}
use Rattle.lazy_rules.specs.Lines.{line_told}
use Rattle.lazy_rules.specs.WorldState.{WorldState, first_world}
use Rattle.lazy_rules.specs.WorldRules.{run}
use Rattle.world_facts.specs.Turns.{Meets}
use Rattle.all_rows.specs.Records.{IsTold}
use Rattle.all_rows.proofs.Everywhere.{lines_lawful, records_told}
use Rattle.all_rows.proofs.Posted.{IsAsked, IsOf, begun_were_posted}
use Rattle.all_rows.proofs.Rows.{all_rows}
use Rattle.trace_script.proofs.Newlines.{IsFlat, IsFlatEntry}
use Rattle.lazylog_trace.proofs.PlainEvents.{IsPlain}

-- an event that is printed without a newline, and lets nothing with one into a line
abbrev pub IsClean : Event → Type 0
IsClean (Invoke id bytes) = IsFlat bytes
IsClean (Answer client read from entries tail) = Each IsFlatEntry entries
IsClean _ = Unit {0}

plain_meets : (event : WorldEvent) → IsPlain event → Meets (IsAsked IsFlat) event
plain_meets (Post client bytes) plain = plain
plain_meets _ plain = tt

module _ (shape : Dimensions) (formed : IsShape shape) (events : List WorldEvent) (plain : Each IsPlain events) where
  abbrev world : WorldState
  world = run events (first_world shape)

  -- what began was appended by the script
  begun : Each (IsOf IsFlat) world.history
  begun = begun_were_posted IsFlat shape events formed (each_weaker IsPlain (Meets (IsAsked IsFlat)) plain_meets events plain)

  -- and no answer tells anything else
  told_flat : (entry : Entry) → IsTold world.history entry → IsFlatEntry entry
  told_flat (Kept id bytes) told = each_in (IsOf IsFlat) world.history begun (Invoke id bytes) told
  told_flat (Noop id) told = tt
  told_flat (Gone id) told = absurd told

  event_clean : (event : Event) → In event world.history → IsClean event
  event_clean (Invoke id bytes) among = each_in (IsOf IsFlat) world.history begun (Invoke id bytes) among
  event_clean (Answer client read from entries tail) among = each_weaker (IsTold world.history) IsFlatEntry told_flat entries (records_told all_rows shape events formed client read from entries tail among)
  event_clean _ among = tt

  pub history_clean : Each IsClean world.history
  history_clean = in_each IsClean world.history event_clean

  -- what a place of a lawful line keeps was invoked
  entry_flat : (line : List Entry) → Lawful world.history line → (place : ℕ) (entry : Entry) → slice_get line place ≡ Some entry → IsFlatEntry entry
  entry_flat line lawful place (Kept id bytes) here =
      let invoked = (lawful.invoked place).kept id bytes here in
      each_at (IsOf IsFlat) world.history begun invoked.index (Invoke id bytes) invoked.stands
  entry_flat line lawful place (Noop id) here = tt
  entry_flat line lawful place (Gone id) here = tt

  by_place : (line : List Entry) → ((place : ℕ) (entry : Entry) → slice_get line place ≡ Some entry → IsFlatEntry entry) → Each IsFlatEntry line
  by_place [] h = tt
  by_place (entry ∷ line) h = (h zero entry refl, by_place line (λ place other here. h (suc place) other here))

  pub line_flat : (holder : ℕ) (line : List Entry) → In holder (holders world) → line_told world holder ≡ Ok line → Each IsFlatEntry line
  line_flat holder line among told = by_place line (entry_flat line (lines_lawful all_rows shape events formed holder line among told))
