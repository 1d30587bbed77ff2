-- The configuration without a node that is replaced, and the spares that are left then.
use Rattle.std.proofs.Common.{◌≡◌, ℕ, List, [], ◌∷◌, true, false, not, sym, ◌∙◌, subst}
use Rattle.std.proofs.lemmas.Bool.{not-true}
use Rattle.list_facts.specs.Lists.{In, Distinct}
use Rattle.list_facts.proofs.Members.{in_filter}
use Rattle.view_config.specs.Without.{is_among}
use Rattle.view_config.specs.declared.config.Config.{Config}
use Rattle.lazy_rules.specs.ControlRules.{next_config, unused}
use Rattle.lazy_rules.specs.ControlState.{ControlState, newest}
use Rattle.lazy_rules.specs.Roles.{replicas_at}
use Rattle.lazy_rules.specs.Rows.{has_node}
use Rattle.log_facts.specs.Signs.{Sublist}
use Rattle.log_facts.specs.facts.OfViews.{ConfigFacts, IsLater}
use Rattle.control_rows.proofs.Handing.{sublist_filter}
use Rattle.control_rows.proofs.Lists.{distinct_filter, in_node, replaced_distinct, replicas_without}

module _ (k : ControlState) (node : ℕ) where
  pub next_later : IsLater (newest k) (next_config k node)
  next_later shard =
      subst (λ (nodes : List ℕ). Sublist nodes (replicas_at (newest k) shard)) (sym (replicas_without (newest k) (node ∷ []) k.spares shard))
      (sublist_filter (λ (other : ℕ). not (is_among (node ∷ []) other)) (replicas_at (newest k) shard))

  pub next_lists : ConfigFacts (newest k) → Distinct k.spares → ((n : ℕ) → In n k.spares → ¬ In n (newest k).seq) → ConfigFacts (next_config k node)
  next_lists lists spares unnamed = record {
    members = replaced_distinct (node ∷ []) k.spares (newest k).seq lists.members spares (λ x m spare. unnamed x spare m);
    replicas = λ shard. subst (λ (nodes : List ℕ). Distinct nodes) (sym (replicas_without (newest k) (node ∷ []) k.spares shard))
        (distinct_filter (λ (other : ℕ). not (is_among (node ∷ []) other)) (replicas_at (newest k) shard) (lists.replicas shard));
    homes = λ shard d m. lists.homes shard d ((next_later shard).members d m);
  }

-- the spares that are left aren't named
pub unused_distinct : (config : Config) (spares : List ℕ) → Distinct spares → Distinct (unused config spares)
unused_distinct config spares h = distinct_filter (λ (spare : ℕ). not (has_node config.seq spare)) spares h

pub unused_unnamed : (config : Config) (spares : List ℕ) (n : ℕ) → In n (unused config spares) → ¬ In n config.seq
unused_unnamed config spares n m named =
    let one = (in_filter (λ (spare : ℕ). not (has_node config.seq spare)) spares n m).1 in
    let two = not-true (has_node config.seq n) one in
    let three = in_node config.seq n named in
    let wrong : true ≡ false = sym three ∙ two in
    cc
