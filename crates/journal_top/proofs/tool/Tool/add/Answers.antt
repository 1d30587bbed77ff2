use Rattle.std.proofs.Common.{◌≡◌, ◌<◌, List, [], ◌∷◌, ◌++◌, length, sym, ap, ◌∙◌, subst}
use Rattle.std.proofs.lemmas.Bool.{leb-false}
use Rattle.rec_id.specs.declared.item.Cell.{Cell}
use Rattle.lazy_rules.specs.Store.{Store, extend_cells, with_cell}
use Rattle.journal_top.specs.declared.tool.TheConstants.{PLACES_LIMIT}
use Rattle.journal_top.specs.Rules.{ToolState}
use Rattle.journal_top.specs.Sound.{IsSound, tool_of}
use Rattle.journal_top.proofs.Sounds.{added_sound}
use Rattle.journal_top.proofs.tool.Tool.add.Goals as goal

pub invariant_of-tool : goal.invariant_of-tool
invariant_of-tool c =
    let i = c.tool.inside in
    let was = c.tool.invariant in
    let cells_are : c.push.new.self ≡ c.args.cell ∷ [] = c.in_ok-push.ensures.ok ∙ ap (λ (l : List Cell). l ++ c.args.cell ∷ []) c.new-cells.ensures in
    let store_is : c.extend_cells.new.self ≡ with_cell i.store c.args.cell = c.in_ok-extend_cells.ensures.ok ∙ ap (extend_cells i.store) cells_are in
    let below : length i.store.order < PLACES_LIMIT = subst (λ (t : ToolState). length t.store.order < PLACES_LIMIT) (sym c.tool.view_is) (leb-false PLACES_LIMIT (length c.args.self.store.order) c.requires.over) in
    let sound = added_sound (tool_of i.store i.journal i.lines) was.sound c.args.cell below c.requires.said in
    record {
      sound = subst (λ (s : Store). IsSound (tool_of s i.journal i.lines)) (sym store_is) sound;
      owner = was.owner;
      mode_is = ap (λ (s : Store). s.mode) store_is ∙ was.mode_is;
      shard_is = ap (λ (s : Store). s.shard) store_is ∙ was.shard_is;
      shards_are = ap (λ (s : Store). s.shards) store_is ∙ was.shards_are;
      faultless = was.faultless;
      few = was.few;
    }
