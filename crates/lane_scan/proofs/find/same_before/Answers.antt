use Rattle.std.proofs.Common.{ℕ, Bool, not, eqb, sym, ap, ◌∙◌, arith, w64}
use lib.Count.{count_trailing_zeros}
use lib.Lanes.{chunk}
use Rattle.std.proofs.lemmas.Simd.{length-chunk, bitmask_splat, leading_from_mask_l, trailing_mask_l}
use Rattle.lane_scan.proofs.find.same_before.Goals as goal

abbrev differ : ℕ → ℕ → Bool
differ a b = not (eqb a b)

pub returns-then-hits-eq0 : goal.returns-then-hits-eq0
returns-then-hits-eq0 c =
    let lanes = chunk c.args.at 8 c.args.words.now in
    let long = length-chunk c.args.at 8 c.args.words.now c.requires in
    let hits = bitmask_splat w64 differ lanes 8 c.args.word long (omega arith) in
    sym (leading_from_mask_l (λ x. differ x c.args.word) lanes (sym hits ∙ c.if-hits-eq0.true) ∙ long)

pub returns-else-hits-eq0 : goal.returns-else-hits-eq0
returns-else-hits-eq0 c =
    let lanes = chunk c.args.at 8 c.args.words.now in
    let long = length-chunk c.args.at 8 c.args.words.now c.requires in
    let hits = bitmask_splat w64 differ lanes 8 c.args.word long (omega arith) in
    ap (count_trailing_zeros 64) hits ∙ trailing_mask_l (λ x. differ x c.args.word) 64 lanes (omega arith) (omega arith)
