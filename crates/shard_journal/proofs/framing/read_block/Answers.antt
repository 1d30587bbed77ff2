use Rattle.std.proofs.Common.{◌≡◌, ℕ, List, ◌++◌, sym, ap, ◌∙◌}
use Rattle.shard_journal.specs.declared.framing.TheConstants.{HEAD}
use Rattle.shard_journal.proofs.Bodies.{body_found, body_not_on, no_frame_of, short_is_not, kind_is_not, field_is_not, over_is_not, trailing_is_not}
use Rattle.shard_journal.proofs.framing.read_block.Goals as goal

pub returns-then-not-goes_on_from : goal.returns-then-not-goes_on_from
returns-then-not-goes_on_from c =
    let bytes_is : c.deref.result.now ≡ HEAD ++ c.args.body.now =
    c.deref.ensures.value ∙ c.in_ok-extend_from_slice-2.ensures.items ∙ ap (λ (l : List ℕ). l ++ c.args.body.now) (c.in_ok-extend_from_slice.ensures.items ∙ ap (λ (l : List ℕ). l ++ HEAD) c.clear.ensures.items) in
    let form = c.in-Ok.ensures.form in
    body_not_on c.args.kept c.args.body.now _ c.in-Ok.env c.in-Some.block form.0 (sym bytes_is ∙ form.1) (sym c.block_in.ensures ∙ c.in-Some.is) (sym c.goes_on_from.ensures ∙ c.if-not-goes_on_from.true)

pub returns-else-not-goes_on_from : goal.returns-else-not-goes_on_from
returns-else-not-goes_on_from c =
    let bytes_is : c.deref.result.now ≡ HEAD ++ c.args.body.now =
    c.deref.ensures.value ∙ c.in_ok-extend_from_slice-2.ensures.items ∙ ap (λ (l : List ℕ). l ++ c.args.body.now) (c.in_ok-extend_from_slice.ensures.items ∙ ap (λ (l : List ℕ). l ++ HEAD) c.clear.ensures.items) in
    let form = c.in-Ok.ensures.form in
    body_found c.args.kept c.args.body.now _ c.in-Ok.env c.in-Some.block form.0 (sym bytes_is ∙ form.1) (sym c.block_in.ensures ∙ c.in-Some.is) (sym c.goes_on_from.ensures ∙ c.if-not-goes_on_from.false)

pub returns-in-Err-Short : goal.returns-in-Err-Short
returns-in-Err-Short c =
    let bytes_is : c.deref.result.now ≡ HEAD ++ c.args.body.now =
    c.deref.ensures.value ∙ c.in_ok-extend_from_slice-2.ensures.items ∙ ap (λ (l : List ℕ). l ++ c.args.body.now) (c.in_ok-extend_from_slice.ensures.items ∙ ap (λ (l : List ℕ). l ++ HEAD) c.clear.ensures.items) in
    no_frame_of c.args.kept c.args.body.now c.deref.result.now c.in-Err-Short.field-0 bytes_is (short_is_not c.in-Err-Short.field-0 c.in-Err-Short.field-0-is) c.in-Err-Short.ensures.no_form

pub returns-in-Err-Kind : goal.returns-in-Err-Kind
returns-in-Err-Kind c =
    let bytes_is : c.deref.result.now ≡ HEAD ++ c.args.body.now =
    c.deref.ensures.value ∙ c.in_ok-extend_from_slice-2.ensures.items ∙ ap (λ (l : List ℕ). l ++ c.args.body.now) (c.in_ok-extend_from_slice.ensures.items ∙ ap (λ (l : List ℕ). l ++ HEAD) c.clear.ensures.items) in
    no_frame_of c.args.kept c.args.body.now c.deref.result.now c.in-Err-Kind.field-0 bytes_is (kind_is_not c.in-Err-Kind.field-0 _ c.in-Err-Kind.field-0-is) c.in-Err-Kind.ensures.no_form

pub returns-in-Err-Field : goal.returns-in-Err-Field
returns-in-Err-Field c =
    let bytes_is : c.deref.result.now ≡ HEAD ++ c.args.body.now =
    c.deref.ensures.value ∙ c.in_ok-extend_from_slice-2.ensures.items ∙ ap (λ (l : List ℕ). l ++ c.args.body.now) (c.in_ok-extend_from_slice.ensures.items ∙ ap (λ (l : List ℕ). l ++ HEAD) c.clear.ensures.items) in
    no_frame_of c.args.kept c.args.body.now c.deref.result.now c.in-Err-Field.field-0 bytes_is (field_is_not c.in-Err-Field.field-0 _ c.in-Err-Field.field-0-is) c.in-Err-Field.ensures.no_form

pub returns-in-Err-Over : goal.returns-in-Err-Over
returns-in-Err-Over c =
    let bytes_is : c.deref.result.now ≡ HEAD ++ c.args.body.now =
    c.deref.ensures.value ∙ c.in_ok-extend_from_slice-2.ensures.items ∙ ap (λ (l : List ℕ). l ++ c.args.body.now) (c.in_ok-extend_from_slice.ensures.items ∙ ap (λ (l : List ℕ). l ++ HEAD) c.clear.ensures.items) in
    no_frame_of c.args.kept c.args.body.now c.deref.result.now c.in-Err-Over.field-0 bytes_is (over_is_not c.in-Err-Over.field-0 _ c.in-Err-Over.field-0-is) c.in-Err-Over.ensures.no_form

pub returns-in-Err-Trailing : goal.returns-in-Err-Trailing
returns-in-Err-Trailing c =
    let bytes_is : c.deref.result.now ≡ HEAD ++ c.args.body.now =
    c.deref.ensures.value ∙ c.in_ok-extend_from_slice-2.ensures.items ∙ ap (λ (l : List ℕ). l ++ c.args.body.now) (c.in_ok-extend_from_slice.ensures.items ∙ ap (λ (l : List ℕ). l ++ HEAD) c.clear.ensures.items) in
    no_frame_of c.args.kept c.args.body.now c.deref.result.now c.in-Err-Trailing.field-0 bytes_is (trailing_is_not c.in-Err-Trailing.field-0 _ c.in-Err-Trailing.field-0-is) c.in-Err-Trailing.ensures.no_form
