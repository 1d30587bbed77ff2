use Rattle.std.proofs.Common.{◌∙◌}
use Rattle.frame_recode.proofs.Recoding.{one_again, one_made, two_again, two_made}
use Rattle.frame_recode.proofs.recode.recode_line.Goals as goal

pub returns-in-Ok-One-default-clause-recoded : goal.returns-in-Ok-One-default-clause-recoded
returns-in-Ok-One-default-clause-recoded c =
    let found = c.in-Ok-One-default in
    one_made c.args.line.now c.in_ok-bytes.bytes.items c.as_slice.result.now c.in_ok-text_in_two-in-Ok-One-default.field-0 found.field-0-0 found.env c.in_ok-bytes.ensures.ok c.as_slice.ensures.value found.ensures.form found.field-0-0-is c.in_ok-text_in_two-in-Ok-One-default.ensures.text

pub returns-in-Ok-One-default-clause-again : goal.returns-in-Ok-One-default-clause-again
returns-in-Ok-One-default-clause-again c =
    let found = c.in-Ok-One-default in
    let form = rw found.field-0-0-is at found.ensures.form in
    one_again c.in_ok-text_in_two-in-Ok-One-default.field-0 found.env form.0 c.in_ok-text_in_two-in-Ok-One-default.ensures.bytes c.in_ok-text_in_two-in-Ok-One-default.ensures.text

pub returns-in-Ok-Two-default-clause-recoded : goal.returns-in-Ok-Two-default-clause-recoded
returns-in-Ok-Two-default-clause-recoded c =
    let found = c.in-Ok-Two-default in
    two_made c.args.line.now c.in_ok-bytes.bytes.items c.as_slice.result.now c.from_vec.result found.field-0-0 found.field-0-1 c.in_ok-bytes.ensures.ok c.as_slice.ensures.value found.ensures.form found.field-0-0-is (c.from_vec.ensures ∙ c.in_ok-from_slice-in-Ok-Two-default.ensures.items)

pub returns-in-Ok-Two-default-clause-again : goal.returns-in-Ok-Two-default-clause-again
returns-in-Ok-Two-default-clause-again c =
    let found = c.in-Ok-Two-default in
    two_again c.args.line.now c.in_ok-bytes.bytes.items c.as_slice.result.now c.from_vec.result found.field-0-0 found.field-0-1 c.in_ok-bytes.ensures.ok c.as_slice.ensures.value found.ensures.form found.field-0-0-is (c.from_vec.ensures ∙ c.in_ok-from_slice-in-Ok-Two-default.ensures.items)
