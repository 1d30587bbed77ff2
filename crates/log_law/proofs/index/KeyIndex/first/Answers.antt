use Rattle.std.proofs.Common.{◌≡◌, ℕ, length, subst}
use Rattle.std.specs.Prelude.{unwrap_or}
use Rattle.std.specs.BTreeMap.{get}
use Rattle.log_law.specs.Keys.{key_cmp, IsNext}
use Rattle.log_law.proofs.index.KeyIndex.first.Goals as goal

pub returns : goal.returns
returns c =
    let keys = c.self.inside.keys.items in
    let same : keys ≡ c.args.self.now = c.self.view_is in
    let found : unwrap_or (get key_cmp c.self.inside.firsts c.args.key) (length keys) ≡ c.unwrap_or.result = cc (c.get.ensures.value, c.copied.ensures, c.unwrap_or.ensures, c.len.ensures) in
    subst (λ ks. IsNext ks 0 c.args.key c.unwrap_or.result) same (subst (λ (n : ℕ). IsNext keys 0 c.args.key n) found (c.self.invariant.first c.args.key))
