use Rattle.std.proofs.Common.{◌≡◌, true, take}
use Rattle.std.specs.Prelude.{◌^◌, nat_lt}
use Rattle.std.specs.List.{list_all}
use Rattle.view_ctl.proofs.door.within_words.Given as goal

abbrev pub invariant-loop-word : goal.invariant-loop-word
invariant-loop-word l = list_all (λ word. nat_lt word (2 ^ 64)) (take l.word-index l.words) ≡ true
