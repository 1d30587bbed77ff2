use Rattle.std.proofs.Common.{◌≡◌, ◌+◌, ◌-◌, ◌<◌, ℕ, length, subst, ◌∙◌, arith}
use Rattle.std.specs.Prelude.{slice_set, unwrap_or}
use Rattle.std.specs.BTreeMap.{get}
use Rattle.log_law.specs.Keys.{key_cmp, IsIndexed}
use Rattle.log_law.proofs.Indexing.{read_key, indexed_more, indexed_skip}
use Rattle.log_law.proofs.index.KeyIndex.of.Goals as goal

pub loop-i-preserved-in-Some : goal.loop-i-preserved-in-Some
loop-i-preserved-in-Some c =
    let same : c.loop-i.i ≡ c.loop-i.i - 1 + 1 = omega arith in
    let lt : c.loop-i.i - 1 < length c.args.keys.items = omega arith in
    let indexed : IsIndexed c.args.keys.items (c.loop-i.i - 1 + 1) c.loop-i.firsts c.loop-i.nexts.items = subst (λ (x : ℕ). IsIndexed c.args.keys.items x c.loop-i.firsts c.loop-i.nexts.items) same c.loop-i.invariant.indexed in
    let later : unwrap_or (get key_cmp c.loop-i.firsts c.in-Some.key) (length c.args.keys.items) ≡ c.unwrap_or.result = cc (c.in_ok-insert.ensures.old) in
    record {
      within = omega arith;
      all = c.loop-i.invariant.all;
      indexed =
          subst (λ (x : ℕ). IsIndexed c.args.keys.items (c.loop-i.i - 1) c.insert.new.self (slice_set c.loop-i.nexts.items (c.loop-i.i - 1) x)) later
          (indexed_more _ _ _ _ lt indexed c.in-Some.key (read_key _ _ _ lt c.index.ensures ∙ c.in-Some.is) _ c.in_ok-insert.ensures.updates);
    }

pub loop-i-preserved : goal.loop-i-preserved
loop-i-preserved c =
    let same : c.loop-i.i ≡ c.loop-i.i - 1 + 1 = omega arith in
    let lt : c.loop-i.i - 1 < length c.args.keys.items = omega arith in
    let indexed : IsIndexed c.args.keys.items (c.loop-i.i - 1 + 1) c.loop-i.firsts c.loop-i.nexts.items = subst (λ (x : ℕ). IsIndexed c.args.keys.items x c.loop-i.firsts c.loop-i.nexts.items) same c.loop-i.invariant.indexed in
    record {
      within = omega arith;
      all = c.loop-i.invariant.all;
      indexed = indexed_skip _ _ _ _ lt indexed (read_key _ _ _ lt c.index.ensures ∙ c.in_default.is);
    }
