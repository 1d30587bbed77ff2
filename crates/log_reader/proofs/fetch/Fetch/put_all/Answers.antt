use Rattle.std.proofs.Common.{◌<◌, ◌≤◌, ◌++◌, ℕ, List, Some, length, take, sym, ap, ◌∙◌, arith, rules}
use Rattle.std.proofs.lemmas.Grind.{common_steps}
use Rattle.std.proofs.lemmas.List.{length-set, take_all}
use Rattle.rec_id.specs.declared.entry.Entry.{Entry}
use Rattle.lazy_rules.specs.ReaderRules.{told_by_all, with_part}
use Rattle.log_reader.specs.Gathering.{by_place}
use Rattle.log_reader.proofs.Gathered.{told_more}
use Rattle.log_reader.proofs.Slots.{nothing_told}
use Rattle.log_reader.proofs.fetch.Fetch.put_all.Goals as goal

pub loop-shard-init : goal.loop-shard-init
loop-shard-init c n start = start ∙ sym (nothing_told c.asked_from-from.result n)

pub loop-shard-preserved : goal.loop-shard-preserved
loop-shard-preserved c n start =
    let fetch = c.args.self.now in
    let parts = (with_part fetch c.args.last c.args.entries.now).parts in
    let k = c.loop-shard.shard in
    let from = c.asked_from-from.result in
    let inside : k < length parts = grind (arith, common_steps, length-set fetch.parts c.args.last (Some c.args.entries.now)) in
    c.in_ok-put_part.ensures (told_by_all (take k parts)) n (c.loop-shard.invariant n start)
    ∙ ap (λ (l : List (ℕ × Entry)). by_place (told_by_all (take k parts) ++ l) from n) c.told_by.ensures
    ∙ ap (λ (l : List (ℕ × Entry)). by_place l from n) (sym (told_more parts k inside))

pub returns : goal.returns
returns c n start =
    let fetch = c.args.self.now in
    let parts = (with_part fetch c.args.last c.args.entries.now).parts in
    let k = c.loop-shard.shard in
    let past : length parts ≤ k = grind (arith, common_steps, length-set fetch.parts c.args.last (Some c.args.entries.now)) in
    c.loop-shard.invariant n start ∙ ap (λ l. by_place (told_by_all l) c.asked_from-from.result n) (take_all k parts past)
    ∙ ap (λ (from : ℕ). by_place (told_by_all parts) from n) (search rules)
