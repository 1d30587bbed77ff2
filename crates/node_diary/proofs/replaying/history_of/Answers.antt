use Rattle.std.proofs.Common.{rules, ◌≡◌, List}
use Rattle.std.specs.List.{flat_map}
use Rattle.std.proofs.lemmas.List.Sorted.{answers_always}
use Rattle.std.proofs.lemmas.Result.{IfOk-weaker}
use Rattle.rec_id.specs.declared.event.Event.{Event}
use Rattle.node_diary.specs.declared.fold.Telling.{Telling}
use Rattle.node_diary.specs.Folding.{IsHistoryOf}
use Rattle.node_diary.proofs.replaying.history_of.Goals as goal

pub returns : goal.returns
returns c =
    IfOk-weaker c.joined.result (λ (history : List Event). history ≡ flat_map (λ (t : Telling). t.events) c.sort_by_key.new.self.items) (IsHistoryOf c.args.tellings.items)
    (λ history is. record {
      order = c.sort_by_key.new.self.items;
      same = c.in_ok-sort_by_key.ensures.permutation;
      sorted = c.in_ok-sort_by_key.ensures.sorted (λ (t : Telling). t.key) (answers_always _ _ _ (λ f a r g h. search rules));
      is = is;
    })
    c.joined.ensures
