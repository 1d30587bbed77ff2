-- A command leaves the count of lines as it was.
use Rattle.std.proofs.Common.{◌≡◌, ℕ, ◌+◌, Bool, true, false, length, ◌&&◌, refl, if◌then◌else◌}
use Rattle.std.specs.Prelude.{nat_le, nat_lt}
use Rattle.lazy_rules.specs.Store.{raise_stable, with_cell}
use Rattle.shard_journal.specs.declared.limits.TheConstants.{FILE_LIMIT}
use Rattle.shard_journal.specs.Blocks.{behind_form}
use Rattle.shard_journal.specs.State.{next_block, next_size}
use Rattle.journal_script.specs.declared.command.Command.{Command}
use Rattle.journal_script.specs.declared.command.Command.TheVariants.{Nothing, Add, Stable, Keep, Show, Stop, Open}
use Rattle.journal_script.specs.declared.texts.Refusal.TheVariants as why
use Rattle.journal_script.specs.Texts.{kept_text}
use Rattle.journal_top.specs.Devices.{keep_calls, made}
use Rattle.journal_top.specs.Rules.{Told, ToolState, follow, is_in_place, keep_open, keep_within, put, quiet, refuses, says}

lines_if : (n : ℕ) (b : Bool) (x y : Told) → x.0.lines ≡ n → y.0.lines ≡ n → (if b then x else y).0.lines ≡ n
lines_if n true x y p q = p
lines_if n false x y p q = q

pub follow_lines : (t : ToolState) (command : Command) → (follow t command).0.lines ≡ t.lines
follow_lines t Nothing = refl
follow_lines t (Add cell) = lines_if t.lines (is_in_place t.store cell) (quiet (record t { store = with_cell t.store cell })) (refuses t why.Place) refl refl
follow_lines t (Stable to) = lines_if t.lines (nat_le t.store.stable to && nat_le to (length t.store.order)) (quiet (record t { store = raise_stable t.store to })) (refuses t why.Stable) refl refl
follow_lines t Keep =
    let block = next_block t.store t.kept in
    let m = made t.disk (keep_calls t.end block) in
    lines_if t.lines t.closed (refuses t why.Closed) (keep_open t) refl
    (lines_if t.lines (nat_le t.store.stable t.kept) (says t (kept_text t.kept)) (keep_within t) refl
    (lines_if t.lines (nat_lt FILE_LIMIT (next_size t.store t.kept t.end)) (refuses t why.Full) (put t block m) refl
    (lines_if t.lines m.ok (says (record t { kept = block.to; end = t.end + 1 + length (behind_form block); disk = m.disk }) (kept_text block.to)) (refuses (record t { closed = true; disk = m.disk }) why.DiskFault) refl refl)))
follow_lines t Show = refl
follow_lines t (Stop number) = refl
follow_lines t Open = refl
