use Rattle.std.proofs.Common.{◌≡◌, ◌-◌, ◌<◌, ◌^◌, List, sym, ap, ◌∙◌, subst, arith, rules}
use Rattle.std.specs.List.{flat_map}
use Rattle.std.specs.Option.{option_to_list}
use Rattle.rec_id.specs.History.{asked_from, end_of}
use Rattle.rec_id.specs.declared.entry.Entry.{Entry}
use Rattle.lazy_rules.specs.ReaderRules.{entries_in, told_by_all, with_part}
use Rattle.log_reader.specs.Gathering.{by_place}
use Rattle.log_reader.proofs.Gathered.{entries_end, entries_of_slots}
use Rattle.log_reader.proofs.fetch.Fetch.entries_with.Goals as goal

pub returns : goal.returns
returns c =
    let fetch = c.args.self.now in
    let parts = (with_part fetch c.args.last c.args.entries.now).parts in
    let from = asked_from fetch.ask in
    let count : c.saturating_sub-count.result ≡ fetch.end - from = search rules in
    let fits : fetch.end < 2 ^ 32 = search rules in
    let slots : c.put_all.new.slots.items ≡ by_place (told_by_all parts) from (fetch.end - from) =
    c.in_ok-put_all.ensures c.saturating_sub-count.result c.in_ok-slots.ensures ∙ ap (by_place (told_by_all parts) from) count in
    let line : c.in_ok-line.line ≡ entries_in parts from fetch.end =
    c.in_ok-line.ensures ∙ ap (flat_map option_to_list) slots ∙ entries_of_slots parts from fetch.end in
    record {
      line = line;
      within = subst (λ (l : List Entry). end_of from l < 2 ^ 32) (sym line) (omega (arith, entries_end parts from fetch.end, fits));
    }
