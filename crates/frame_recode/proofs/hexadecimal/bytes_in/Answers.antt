use Rattle.std.proofs.Common.{◌≡◌, false, sym, ◌∙◌}
use Rattle.std.specs.List.{list_any}
use Rattle.frame_recode.specs.Hexadecimal.{is_capital}
use Rattle.frame_recode.proofs.HexTexts.{decoded_bytes}
use Rattle.frame_recode.proofs.hexadecimal.bytes_in.Goals as goal

pub returns-clause-ok : goal.returns-clause-ok
returns-clause-ok c =
    let plain : list_any is_capital c.args.line.now ≡ false = sym c.has_capital.ensures ∙ c.if-has_capital.false in
    decoded_bytes c.args.line.now _ plain c.in-Ok.ensures.ok
