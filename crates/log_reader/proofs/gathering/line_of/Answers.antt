use Rattle.std.proofs.Common.{◌≡◌, ◌<◌, ◌++◌, List, Some, length, sym, ap, ◌∙◌, arith}
use Rattle.std.specs.Prelude.{slice_get}
use Rattle.std.specs.Option.{option_to_list}
use Rattle.std.proofs.lemmas.Grind.{common_steps}
use Rattle.std.proofs.lemmas.Option.{slice_get-get_or, slice_get_read}
use Rattle.rec_id.specs.declared.entry.Entry.{Entry}
use Rattle.log_reader.proofs.Walks.{flat_map_one, slice_get_other}
use Rattle.log_reader.proofs.gathering.line_of.Goals as goal

pub loop-i-preserved : goal.loop-i-preserved
loop-i-preserved c =
    let i = c.loop-i.i in
    let items = c.args.slots.items in
    let slots = c.loop-i.slots.items in
    let slot = c.take-slot.result in
    let inside : i < length slots = omega (arith, c.loop-i.invariant.long, c.loop-i-test.true, c.len-i-end.ensures) in
    let read : slice_get slots i ≡ Some slot = grind (arith, common_steps, slice_get_read, slice_get-get_or) in
    let is : slice_get items i ≡ Some slot = sym (c.loop-i.invariant.left i (omega arith)) ∙ read in
    record {
      made = c.in_ok-push_slot.ensures ∙ ap (λ (l : List Entry). l ++ option_to_list slot) c.loop-i.invariant.made ∙ sym (flat_map_one option_to_list items i slot is);
      long = grind (arith, common_steps);
      left = λ k after. slice_get_other slots i k c.take-slot.new.self (omega arith) ∙ c.loop-i.invariant.left k (omega arith);
    }
