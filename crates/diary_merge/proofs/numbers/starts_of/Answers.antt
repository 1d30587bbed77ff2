use Rattle.std.proofs.Common.{◌≡◌, ◌+◌, length, ap, ◌∙◌}
use Rattle.lazy_msgs.specs.Weight.{capped}
use Rattle.diary_merge.specs.Acts.{act_from, acts_at, starts_from}
use Rattle.diary_merge.proofs.Walks.{start_walked}
use Rattle.diary_merge.proofs.numbers.starts_of.Goals as goal

pub loop-i-preserved : goal.loop-i-preserved
loop-i-preserved c =
    let acts = acts_at c.args.diaries.now c.args.places.now in
    let next : c.saturating_add-sent.result ≡ capped (c.loop-i.sent + length c.entry_at.result.1.now.sends) = c.saturating_add-sent.ensures ∙ ap (λ n. capped (c.loop-i.sent + n)) c.len.ensures in
    start_walked c.loop-i.starts.items c.push.new.self.items (starts_from 0 acts) acts c.loop-i.sent c.saturating_add-sent.result c.loop-i.i (act_from c.entry_at.result.0 c.entry_at.result.1.now) c.entry_at.ensures c.in_ok-push.ensures.items next c.loop-i.invariant
