use Rattle.std.proofs.Common.{◌≡◌, ◌/◌, ◌⊎◌, inl, inr, arith}
use Rattle.seen_window.proofs.Images.{no_image_is}
use Rattle.seen_window.proofs.window.SeenWindow.new.Goals as goal

pub invariant_of-result : goal.invariant_of-result
invariant_of-result c =
    let known : (c.args.window / 64 ≡ 4) ⊎ (c.args.window / 64 ≡ 64) =
    elim c.requires.window [ inl narrow ↦ inl (omega arith) | inr wide ↦ inr (omega arith) ] in
    rw c.loop-client.invariant (no_image_is c.loop-client._client (c.args.window / 64) (omega arith) (omega arith) known)

pub returns-clause-image : goal.returns-clause-image
returns-clause-image c = invariant_of-result c
