use Rattle.std.proofs.Common.{◌≡◌, ◌≤◌, None, Some, ap, sym, subst, ◌∙◌, arith, length, drop}
use Rattle.std.specs.Prelude.{Err, position}
use Rattle.script_streams.specs.Lines.{is_newline}
use Rattle.script_streams.specs.Reading.{Reading}
use Rattle.script_streams.proofs.Pieces.{newline_at}
use Rattle.script_streams.proofs.Taking.{all_plain, part_ended, part_open, part_refused}
use Rattle.script_streams.proofs.line_reader.LineReader.take_part.Goals as goal

pub returns-in-Err-clause-taken : goal.returns-in-Err-clause-taken
returns-in-Err-clause-taken c =
    let old = c.args.self.now in
    let found : position is_newline old.ahead ≡ Some c.in-Some.count = ap (position is_newline) (sym c.ahead.ensures) ∙ sym c.newline_in.ensures ∙ c.in-Some.is in
    let at = newline_at old.ahead c.in-Some.count found in
    let below = at.within in
    part_refused old c.take.new.self c.in-Some.count c.in-Err.error at.plain (omega arith) (λ e. c.in-Err.ensures.no_fault (ap Err e)) (λ e. c.in-Err.ensures.long (ap Err e))

pub returns-in-Ok-clause-taken : goal.returns-in-Ok-clause-taken
returns-in-Ok-clause-taken c =
    let old = c.args.self.now in
    let found : position is_newline old.ahead ≡ Some c.in-Some.count = ap (position is_newline) (sym c.ahead.ensures) ∙ sym c.newline_in.ensures ∙ c.in-Some.is in
    part_ended old c.skip.new.self c.in-Some.count found
    (c.skip.ensures ∙ ap (λ (r : Reading). let made : Reading = record r { ahead = drop 1 r.ahead } in made) c.in-Ok.ensures.taken)
    (subst (λ (r : Reading). length r.line ≤ old.most) c.in-Ok.ensures.taken c.in-Ok.ensures.short)

pub returns-in-Ok-take-clause-taken : goal.returns-in-Ok-take-clause-taken
returns-in-Ok-take-clause-taken c =
    let old = c.args.self.now in
    let none : position is_newline old.ahead ≡ None = ap (position is_newline) (sym c.ahead.ensures) ∙ sym c.newline_in.ensures ∙ c.in-None.is in
    part_open old c.take-in-None.new.self (length c.ahead-count.result.now) none (ap length c.ahead-count.ensures) c.in-Ok-take.ensures.taken c.in-Ok-take.ensures.short

pub returns-in-Err-take-clause-taken : goal.returns-in-Err-take-clause-taken
returns-in-Err-take-clause-taken c =
    let old = c.args.self.now in
    let none : position is_newline old.ahead ≡ None = ap (position is_newline) (sym c.ahead.ensures) ∙ sym c.newline_in.ensures ∙ c.in-None.is in
    let size : length c.ahead-count.result.now ≡ length old.ahead = ap length c.ahead-count.ensures in
    part_refused old c.take-in-None.new.self (length c.ahead-count.result.now) c.in-Err-take.error (all_plain old (length c.ahead-count.result.now) none size) (omega arith) (λ e. c.in-Err-take.ensures.no_fault (ap Err e)) (λ e. c.in-Err-take.ensures.long (ap Err e))
