use Rattle.std.proofs.Common.{◌≡◌, ap}
use Rattle.list_facts.proofs.Places.{each_at}
use Rattle.diary_laws.specs.Merges.{IsFirstNumber, sent_by}
use Rattle.diary_merge.specs.Acts.{Act, CanBeEvent, act_from, acts_at}
use Rattle.diary_merge.proofs.Walks.{events_walked}
use Rattle.diary_merge.proofs.merging.events_of.Goals as goal

pub loop-i-preserved : goal.loop-i-preserved
loop-i-preserved c = λ h.
    let acts = acts_at c.args.diaries.now c.args.places.now in
    let act = act_from c.entry_at-node.result.0 c.entry_at-node.result.1.now in
    let can = each_at (λ (a : Act). CanBeEvent acts a.input) acts h.each c.loop-i.i act c.entry_at-node.ensures in
    events_walked (IsFirstNumber (sent_by acts)) acts c.loop-i.i act c.loop-i.events c.push.new.self c.in_ok-event_of.field-0 c.entry_at-node.ensures (c.loop-i.invariant h) (c.in_ok-event_of.ensures h.numbered can) c.in_ok-push.ensures.ok
