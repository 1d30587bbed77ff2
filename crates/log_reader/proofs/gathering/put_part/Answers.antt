use Rattle.std.proofs.Common.{◌<◌, ◌∷◌, [], ◌++◌, ℕ, List, Option, length, take, sym, ap, ◌∙◌, append_assoc, arith}
use Rattle.std.proofs.lemmas.List.{take_more}
use Rattle.rec_id.specs.declared.entry.Entry.{Entry}
use Rattle.log_reader.specs.Gathering.{by_place, with_entry}
use Rattle.log_reader.proofs.Slots.{put_one}
use Rattle.log_reader.proofs.gathering.put_part.Goals as goal

pub loop-placed-preserved : goal.loop-placed-preserved
loop-placed-preserved c told n start =
    let part = c.args.part.now in
    let i = c.loop-placed.placed-index in
    let from = c.args.from in
    let item = c.placed-item.result in
    let inside : i < length part = omega (arith, c.loop-placed-test.true) in
    c.in_ok-put_entry.ensures
    ∙ ap (λ (l : List (Option Entry)). with_entry l from item) (c.loop-placed.invariant told n start)
    ∙ put_one (told ++ take i part) from n item.0 item.1
    ∙ ap (λ (l : List (ℕ × Entry)). by_place l from n)
    (append_assoc told (take i part) (item ∷ [])
    ∙ ap (λ (l : List (ℕ × Entry)). told ++ l)
    (ap (λ (x : ℕ × Entry). take i part ++ x ∷ []) c.placed-item.is ∙ sym (take_more part i item inside)))
