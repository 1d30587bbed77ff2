use Rattle.std.proofs.Common.{◌≡◌, ◌+◌, ◌≤◌, List, length, ap, ◌∙◌, subst, sym}
use Rattle.lazy_msgs.specs.declared.input.Input.{Input}
use Rattle.lazy_msgs.specs.declared.input.Input.TheVariants.{Peek}
use Rattle.lazy_msgs.specs.declared.input.WorldEvent.TheVariants.{Peek as PeekEvent}
use Rattle.diary_laws.specs.Merges.{IsEventOf, IsFirstNumber, sent_by}
use Rattle.diary_merge.specs.Acts.{CanBeEvent, acts_at}
use Rattle.diary_merge.proofs.PeekEvents.{peek_event}
use Rattle.diary_merge.proofs.merging.event_of.Goals as goal

pub returns-in-Peek : goal.returns-in-Peek
returns-in-Peek c = λ h can.
    let acts = acts_at c.args.diaries.now c.args.places.now in
    let p = c.in-Peek in
    let is : c.args.input.now ≡ Peek p.stable p.time p.replica p.from p.ids = p.is in
    let peeks : p.from + length p.ids ≤ p.stable → c.peek.result ≡ PeekEvent c.args.node c.unwrap_or-number-in-Peek.result p.from (p.from + length p.ids) =
    subst (λ n. p.from + n ≤ p.stable → c.peek.result ≡ PeekEvent c.args.node c.unwrap_or-number-in-Peek.result p.from (p.from + n)) c.len.ensures c.peek.ensures in
    subst (λ (input : Input). IsEventOf (IsFirstNumber (sent_by acts)) c.args.node input c.peek.result) (sym is)
    (peek_event c.args.diaries.now c.args.places.now c.args.starts.now c.requires.there h c.args.node p.stable p.time p.replica p.from c.saturating_add-by.result c.unwrap_or-number-in-Peek.result p.ids c.claim_number.result c.peek.result
    (subst (CanBeEvent acts) is can) c.saturating_add-by.ensures (c.claim_number.ensures h) c.unwrap_or-number-in-Peek.ensures peeks)
