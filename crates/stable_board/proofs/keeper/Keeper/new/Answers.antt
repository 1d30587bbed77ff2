use Rattle.std.proofs.Common.{◌∙◌}
use Rattle.stable_board.proofs.Opening.{opens}
use Rattle.stable_board.proofs.keeper.Keeper.new.Goals as goal

pub of_words-requires : goal.of_words-requires
of_words-requires c = opens _ (c.as_slice.ensures.value ∙ c.in_ok-words.ensures.items_if_clones_equal (λ _ same. same))
