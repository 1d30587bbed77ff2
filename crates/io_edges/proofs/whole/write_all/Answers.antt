use Rattle.std.proofs.Common.{◌∙◌, ◌++◌, ℕ, List, sym, ap, take}
use Rattle.std.proofs.lemmas.List.{take-append-drop, take_rest}
use Rattle.io_edges.proofs.TellingLemmas.{goes_further, goes_on}
use Rattle.io_edges.proofs.whole.write_all.Goals as goal

pub loop-rest-preserved : goal.loop-rest-preserved
loop-rest-preserved g c =
    let rest = c.loop-rest.rest.now in
    let count = c.in_ok-count.count in (
      goes_further c.loop-rest.invariant.0
          (goes_on (take count rest) (sym (ap (λ (bytes : List ℕ). take count rest ++ bytes) (take_rest rest count) ∙ take-append-drop count rest)) c.in_ok-count.ensures.bytes),
      c.in_ok-count.ensures.faultless ∙ c.loop-rest.invariant.1,
    )
