use Rattle.std.proofs.Common.{◌≡◌, ◌≢◌, ℕ, List, refl, subst}
use Rattle.list_facts.specs.Lists.{Each}
use Rattle.lazy_msgs.specs.declared.msg.Msg.{Msg}
use Rattle.diary_merge.specs.Numbering.{IsFirstPlace}
use Rattle.diary_merge.proofs.FoundNumbers.{send_found, send_missing, unsent}
use Rattle.diary_merge.proofs.numbers.number_of.Goals as goal

pub returns-in_err-i : goal.returns-in_err-i
returns-in_err-i c = λ h sent. absurd (unsent c.args.diaries.now c.args.places.now c.args.starts.now c.requires.there h c.args.envelope.now c.in_err-i.ensures.none sent)

pub returns-in_err-at : goal.returns-in_err-at
returns-in_err-at c = λ h sent.
    let e = c.args.envelope.now in
    let none = subst (λ (sends : List (ℕ × Msg)). Each (λ (send : ℕ × Msg). send ≢ (e.to, e.msg)) sends) c.as_slice.ensures c.in_err-at.ensures.none in
    absurd (send_missing c.args.diaries.now c.args.places.now c.args.starts.now c.requires.there h e.from e.time c.in_ok-i.i c.in_ok-i.ensures.some c.entry_at.result.0 c.entry_at.result.1.now c.entry_at.ensures e refl refl none sent)

pub returns : goal.returns
returns c = λ h sent.
    let e = c.args.envelope.now in
    let first = subst (λ (sends : List (ℕ × Msg)). IsFirstPlace (λ (send : ℕ × Msg). send ≡ (e.to, e.msg)) sends c.in_ok-at.at) c.as_slice.ensures c.in_ok-at.ensures.some in
    send_found c.args.diaries.now c.args.places.now c.args.starts.now c.requires.there h e.from e.time c.in_ok-i.i c.in_ok-i.ensures.some c.entry_at.result.0 c.entry_at.result.1.now c.entry_at.ensures
    c.start_at.result c.in_ok-at.at c.start_at.ensures c.number_at.result c.number_at.ensures e refl refl first
