-- What is kept outlives the power, after any lines.
use Rattle.std.proofs.Common.{◌≡◌, inr, ℕ, ◌+◌, ◌≤◌, ◌<◌, Bool, true, false, List, [], ◌∷◌, ◌++◌, length, take, ◌&&◌, Option, Some, None, refl, sym, ap, ◌∙◌, subst, append-nil, arith, if◌then◌else◌}
use Rattle.std.specs.Prelude.{◌==◌, nat_le, nat_lt, Result, Ok, Err, IfOk, IfSome}
use Rattle.std.proofs.lemmas.Bool.{and_parts, leb-false, leb-true}
use Rattle.std.proofs.lemmas.List.{take-append-le, take-take}
use Rattle.list_facts.proofs.Cases.{either}
use Rattle.io_edges.specs.declared.status.Status.{Status}
use Rattle.io_edges.specs.declared.status.Status.TheVariants.{Limit}
use Rattle.rec_id.specs.declared.item.Cell.{Cell}
use Rattle.lazy_rules.specs.Store.{Store, part, raise_stable, with_cell}
use Rattle.shard_journal.specs.declared.limits.TheConstants.{FILE_LIMIT}
use Rattle.shard_journal.specs.Blocks.{behind_form}
use Rattle.shard_journal.specs.State.{next_block, next_size}
use Rattle.journal_script.specs.declared.command.Command.{Command}
use Rattle.journal_script.specs.declared.command.Command.TheVariants.{Nothing, Add, Stable, Keep, Show, Stop, Open}
use Rattle.journal_script.specs.declared.texts.Refusal.TheVariants as why
use Rattle.journal_script.specs.Script.{IsSayable, command_of}
use Rattle.journal_script.specs.Texts.{kept_text}
use Rattle.journal_top.specs.declared.tool.TheConstants.{LINES_LIMIT, PLACES_LIMIT}
use Rattle.journal_top.specs.declared.words.Shard.{Shard}
use Rattle.journal_top.specs.Devices.{keep_calls, made}
use Rattle.journal_top.specs.Output.{Output, behind, continued_from, counted, line_output, lines_output, parsed_output, stops, told_output}
use Rattle.journal_top.specs.Outlives.{LosesNothing, Outlives, StaysKept}
use Rattle.journal_top.specs.Rules.{Told, ToolState, follow, is_in_place, is_over, keep_open, keep_within, put, quiet, refuses, says, start}
use Rattle.journal_top.specs.Sound.{IsSound}
use Rattle.journal_top.proofs.Keeping.{keep_sound}
use Rattle.journal_top.proofs.Parts.{part_same}
use Rattle.journal_top.proofs.Sayable.{line_sayable}
use Rattle.journal_top.proofs.Sounds.{added_sound, counted_sound, opened_sound, raised_sound, start_sound, stopping_sound}

-- ---- a command

follow_sound : (t : ToolState) → IsSound t → (command : Command) → IsSayable command → is_over t command ≡ false → IsSound (follow t command).0
follow_sound t sound Nothing said over = sound
follow_sound t sound (Add cell) said over =
    either (λ (told : Told). IsSound told.0) (is_in_place t.store cell) (quiet (record t { store = with_cell t.store cell })) (refuses t why.Place)
    (λ e. added_sound t sound cell (leb-false PLACES_LIMIT (length t.store.order) over) said) (λ e. sound)
follow_sound t sound (Stable to) said over =
    either (λ (told : Told). IsSound told.0) (nat_le t.store.stable to && nat_le to (length t.store.order)) (quiet (record t { store = raise_stable t.store to })) (refuses t why.Stable)
    (λ e. let parts = and_parts (nat_le t.store.stable to) (nat_le to (length t.store.order)) e in raised_sound t sound to (leb-true t.store.stable to parts.0) (leb-true to (length t.store.order) parts.1)) (λ e. sound)
follow_sound t sound Keep said over = keep_sound t sound
follow_sound t sound Show said over = sound
follow_sound t sound (Stop number) said over = stopping_sound t sound _
follow_sound t sound Open said over = opened_sound t sound

-- ---- what is kept stays

-- no less is kept, and the cells below what was kept are the same
record Grows (before after : ToolState) : Type 0 where
  pub least : before.kept ≤ after.kept
  pub cells : take before.kept after.store.order ≡ take before.kept before.store.order

same : (t : ToolState) → Grows t t
same t = record { least = omega arith; cells = refl }

grows_on : (t u v : ToolState) → Grows t u → Grows u v → Grows t v
grows_on t u v one two = record {
  least = omega (arith, one.least, two.least);
  cells =
      sym (take-take t.kept u.kept v.store.order one.least) ∙ ap (take t.kept) two.cells
      ∙ take-take t.kept u.kept u.store.order one.least ∙ one.cells;
}

follow_grows : (t : ToolState) → IsSound t → (command : Command) → Grows t (follow t command).0
follow_grows t sound Nothing = same t
follow_grows t sound (Add cell) =
    either (λ (told : Told). Grows t told.0) (is_in_place t.store cell) (quiet (record t { store = with_cell t.store cell })) (refuses t why.Place)
    (λ e. record { least = omega arith; cells = take-append-le t.kept t.store.order (cell ∷ []) (omega (arith, sound.kept_is, sound.plain.stable_is)) }) (λ e. same t)
follow_grows t sound (Stable to) =
    either (λ (told : Told). Grows t told.0) (nat_le t.store.stable to && nat_le to (length t.store.order)) (quiet (record t { store = raise_stable t.store to })) (refuses t why.Stable)
    (λ e. record { least = omega arith; cells = refl }) (λ e. same t)
follow_grows t sound Keep =
    let block = next_block t.store t.kept in
    let m = made t.disk (keep_calls t.end block) in
    either (λ (told : Told). Grows t told.0) t.closed (refuses t why.Closed) (keep_open t) (λ e. same t)
    (λ e. either (λ (told : Told). Grows t told.0) (nat_le t.store.stable t.kept) (says t (kept_text t.kept)) (keep_within t) (λ e. same t)
    (λ e. either (λ (told : Told). Grows t told.0) (nat_lt FILE_LIMIT (next_size t.store t.kept t.end)) (refuses t why.Full) (put t block m) (λ e. same t)
    (λ e. either (λ (told : Told). Grows t told.0) m.ok (says (record t { kept = block.to; end = t.end + 1 + length (behind_form block); disk = m.disk }) (kept_text block.to)) (refuses (record t { closed = true; disk = m.disk }) why.DiskFault)
    (λ e. record { least = omega arith; cells = refl }) (λ e. record { least = omega arith; cells = refl }))))
follow_grows t sound Show = same t
follow_grows t sound (Stop number) = record { least = omega arith; cells = refl }
follow_grows t sound Open = record { least = omega arith; cells = refl }

-- ---- lines

abbrev IsWell : ToolState → Result ToolState Status → Type 0
IsWell t now = IfOk now (λ later. IsSound later × Grows t later)

abbrev GoesWell : ToolState → Output → Type 0
GoesWell t output = IsWell t output.now

parsed_well : (t : ToolState) → IsSound t → (said : Option Command) → IfSome said IsSayable → GoesWell t (parsed_output t said)
parsed_well t sound None sayable = tt
parsed_well t sound (Some command) sayable =
    either (GoesWell t) (is_over t command) (stops (Limit t.lines)) (told_output (follow t command)) (λ e. tt)
    (λ e. (follow_sound t sound command sayable e, follow_grows t sound command))

uncounted : (t : ToolState) (lines : ℕ) (now : Result ToolState Status) → IsWell (record t { lines = lines }) now → IsWell t now
uncounted t lines (Ok later) well = (well.0, record { least = well.1.least; cells = well.1.cells })
uncounted t lines (Err status) well = tt

line_well : (t : ToolState) → IsSound t → (line : List ℕ) → GoesWell t (line_output t line)
line_well t sound line =
    let more : ToolState = record t { lines = t.lines + 1 } in
    either (GoesWell t) (t.lines == LINES_LIMIT) (stops (Limit (LINES_LIMIT + 1))) (parsed_output more (command_of line)) (λ e. tt)
    (λ e. uncounted t (t.lines + 1) (parsed_output more (command_of line)).now (parsed_well more (counted_sound t sound (t.lines + 1)) (command_of line) (line_sayable line)))

later_well : (t u : ToolState) (now : Result ToolState Status) → Grows t u → IsWell u now → IsWell t now
later_well t u (Ok later) grows well = (well.0, grows_on t u later grows well.1)
later_well t u (Err status) grows well = tt

on_well : (t : ToolState) (first : Output) (now : Result ToolState Status) (more : ToolState → Output) → first.now ≡ now → IsWell t now → ((u : ToolState) → IsSound u → GoesWell u (more u)) → GoesWell t (continued_from first now more)
on_well t first (Err status) more is well each = subst (IsWell t) (sym is) tt
on_well t first (Ok u) more is well each = later_well t u (more u).now well.1 (each u well.0)

lines_well : (t : ToolState) → IsSound t → (lines : List (List ℕ)) → GoesWell t (lines_output t lines)
lines_well t sound [] = (sound, same t)
lines_well t sound (line ∷ lines) =
    on_well t (line_output t line) (line_output t line).now (λ next. lines_output next lines) refl (line_well t sound line) (λ u is. lines_well u is lines)

-- ---- what that says

outlives : (t : ToolState) → IsSound t → Outlives t
outlives t sound = record {
  left = record { blocks = sound.blocks; is_file = inr sound.whole; entries_are = sym sound.entries_are };
  reads = sound.more;
}

stays : (t : ToolState) (now : Result ToolState Status) → IsWell t now → IfOk now (StaysKept t)
stays t (Ok later) well = record { least = well.1.least; same = part_same later.store t.store t.kept well.1.cells }
stays t (Err status) well = tt

from_then : (now : Result ToolState Status) (t : ToolState) (more : List (List ℕ)) → IsWell t now → IfOk now (λ u. Outlives u × IfOk (lines_output u more).now (StaysKept u))
from_then (Ok u) t more well = (outlives u well.0, stays u (lines_output u more).now (lines_well u well.0 more))
from_then (Err status) t more well = tt

pub loses_nothing : (shard : Shard) → LosesNothing shard
loses_nothing shard lines more = from_then (lines_output (start shard) lines).now (start shard) more (lines_well (start shard) (start_sound shard) lines)
