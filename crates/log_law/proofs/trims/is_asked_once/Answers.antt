use Rattle.std.proofs.Common.{◌≡◌, ℕ, ◌+◌, List, Option, Some, sym, subst}
use Rattle.law_cases.proofs.Decide.{no_decides}
use Rattle.log_law.specs.Keys.{key_at, IsNext}
use Rattle.log_law.specs.Reads.{read_of}
use Rattle.log_law.proofs.ReadEnds.{ask_key, asked_never, asked_once_decides}
use Rattle.log_law.proofs.trims.is_asked_once.Goals as goal

pub returns-then-one-j : goal.returns-then-one-j
returns-then-one-j c =
    let first = subst (λ (ks : List (Option (ℕ × ℕ))). IsNext ks 0 c.args.key c.first.result) c.requires.asked c.first.ensures in
    no_decides (asked_never c.args.history.now c.args.key c.args.floor c.args.j c.first.result c.next_ask-one.result first c.next_ask-one.ensures c.if-one-j.true)

pub next-requires-clause-stands : goal.next-requires-clause-stands
next-requires-clause-stands c =
    subst (λ (ks : List (Option (ℕ × ℕ))). key_at ks c.next_ask-one.result ≡ Some c.args.key) (sym c.requires.asked) (ask_key c.args.history.now (read_of c.args.key) c.args.floor c.next_ask-one.result (c.next_ask-one.ensures.asks c.if-one-j.false))

pub returns : goal.returns
returns c =
    let first = subst (λ (ks : List (Option (ℕ × ℕ))). IsNext ks 0 c.args.key c.first.result) c.requires.asked c.first.ensures in
    let next = subst (λ (ks : List (Option (ℕ × ℕ))). IsNext ks (c.next_ask-one.result + 1) c.args.key c.next.result) c.requires.asked c.next.ensures in
    asked_once_decides c.args.history.now c.args.key c.args.floor c.args.j c.first.result c.next_ask-one.result first c.next_ask-one.ensures c.next.result c.next_ask.result c.if-one-j.false next c.next_ask.ensures
