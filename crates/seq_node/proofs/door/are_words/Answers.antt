use Rattle.std.proofs.Common.{sym, ltb, ◌^◌, rules}
use Rattle.std.proofs.lemmas.Bool.{lt-ltb}
use Rattle.seen_window.proofs.Formed.{all_from}
use Rattle.seq_node.proofs.door.are_words.Goals as goal

pub returns : goal.returns
returns c = sym (all_from (λ word. ltb word (2 ^ 64)) c.args.words.now 0 (λ i inside. lt-ltb _ _ (search (rules, c.type_inv.words i))))
