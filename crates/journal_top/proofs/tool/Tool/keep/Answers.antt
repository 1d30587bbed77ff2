use Rattle.std.proofs.Common.{sym, ap, subst, ◌∙◌}
use Rattle.journal_top.specs.Rules.{Told, keep}
use Rattle.journal_top.specs.Sound.{IsSound, tool_of}
use Rattle.journal_top.proofs.Keeping.{Keeps, keep_sound, keep_told}
use Rattle.journal_top.proofs.Parts.{can_keep}
use Rattle.journal_top.proofs.tool.Tool.keep.Goals as goal

pub keep-kept-requires : goal.keep-kept-requires
keep-kept-requires c = can_keep c.tool.inside.store c.tool.inside.journal.kept c.tool.invariant.sound.plain c.tool.invariant.sound.kept_is

pub invariant_of-tool : goal.invariant_of-tool
invariant_of-tool c =
    let i = c.tool.inside in
    let was = c.tool.invariant in
    let e = c.keep-kept.ensures in
    let k : Keeps i.store i.journal c.keep-kept.new.self c.keep-kept.result = record {
      closed = e.closed;
      left_closed = e.left_closed;
      none = e.none;
      answer = λ o. (e.adds o).answer;
      kept_is = λ o. (e.adds o).kept_is;
      closes = λ o. (e.adds o).closes;
      stays_open = λ o. (e.adds o).stays_open;
      full = e.full;
      within = e.within;
      puts = e.puts;
      full_same = e.full_same;
      fault_same = e.fault_same;
    } in
    let did = keep_told i.store i.journal c.keep-kept.new.self i.lines c.keep-kept.result c.in_ok-text.text was.faultless k c.in_ok-text.ensures in
    record {
      sound = subst IsSound (sym (ap (λ (told : Told). told.0) did.told_is)) (keep_sound (tool_of i.store i.journal i.lines) was.sound);
      owner = was.owner;
      mode_is = was.mode_is;
      shard_is = was.shard_is;
      shards_are = was.shards_are;
      faultless = did.faultless;
      few = was.few;
    }

pub returns : goal.returns
returns c =
    let i = c.tool.inside in
    let was = c.tool.invariant in
    let e = c.keep-kept.ensures in
    let k : Keeps i.store i.journal c.keep-kept.new.self c.keep-kept.result = record {
      closed = e.closed;
      left_closed = e.left_closed;
      none = e.none;
      answer = λ o. (e.adds o).answer;
      kept_is = λ o. (e.adds o).kept_is;
      closes = λ o. (e.adds o).closes;
      stays_open = λ o. (e.adds o).stays_open;
      full = e.full;
      within = e.within;
      puts = e.puts;
      full_same = e.full_same;
      fault_same = e.fault_same;
    } in
    let did = keep_told i.store i.journal c.keep-kept.new.self i.lines c.keep-kept.result c.in_ok-text.text was.faultless k c.in_ok-text.ensures in
    did.told_is ∙ ap keep c.tool.view_is
