use Rattle.std.proofs.Common.{◌≡◌, ◌≢◌, ℕ, List, subst}
use Rattle.list_facts.specs.Lists.{Each}
use Rattle.lazy_msgs.specs.declared.msg.Msg.{Msg}
use Rattle.lazy_msgs.specs.declared.msg.Msg.TheVariants.{Claim}
use Rattle.diary_merge.specs.Numbering.{IsFirstPlace}
use Rattle.diary_merge.proofs.FoundNumbers.{claim_found, claim_missing, unclaimed}
use Rattle.diary_merge.proofs.numbers.claim_number.Goals as goal

pub returns-in_err-i : goal.returns-in_err-i
returns-in_err-i c = λ h claims. absurd (unclaimed c.args.diaries.now c.args.places.now c.args.starts.now c.requires.there h c.args.stable c.args.time c.args.node c.in_err-i.ensures.none claims)

pub returns-in_err-at : goal.returns-in_err-at
returns-in_err-at c = λ h claims.
    let none = subst (λ (sends : List (ℕ × Msg)). Each (λ (send : ℕ × Msg). send.1 ≢ Claim c.args.stable) sends) c.as_slice.ensures c.in_err-at.ensures.none in
    absurd (claim_missing c.args.diaries.now c.args.places.now c.args.starts.now c.requires.there h c.args.node c.args.time c.in_ok-i.i c.in_ok-i.ensures.some c.entry_at.result.0 c.entry_at.result.1.now c.entry_at.ensures c.args.stable none claims)

pub returns : goal.returns
returns c = λ h claims.
    let first = subst (λ (sends : List (ℕ × Msg)). IsFirstPlace (λ (send : ℕ × Msg). send.1 ≡ Claim c.args.stable) sends c.in_ok-at.at) c.as_slice.ensures c.in_ok-at.ensures.some in
    claim_found c.args.diaries.now c.args.places.now c.args.starts.now c.requires.there h c.args.node c.args.time c.in_ok-i.i c.in_ok-i.ensures.some c.entry_at.result.0 c.entry_at.result.1.now c.entry_at.ensures
    c.start_at.result c.in_ok-at.at c.start_at.ensures c.number_at.result c.number_at.ensures c.args.stable first
