-- A crash: why it is refused, and what it does.
use Rattle.std.proofs.Common.{◌≡◌, ◌≢◌, ◌≤◌, ℕ, List, [], ◌∷◌, ◌++◌, length, Option, Some, None, refl, sym, ap, ◌∙◌, subst, arith}
use Rattle.std.proofs.lemmas.List.{append-nil, length-set}
use Rattle.view_config.specs.Shape.{node_of}
use Rattle.view_config.specs.declared.nodes.Node.{Node}
use Rattle.view_config.specs.declared.nodes.Node.TheVariants.{Client, Controller, Seq, Shard}
use Rattle.view_config.specs.declared.nodes.TheConstants.{CONTROLLER}
use Rattle.lazy_msgs.specs.declared.input.WorldEvent.TheVariants.{Crash}
use Rattle.lazy_msgs.specs.declared.msg.Envelope.{Envelope}
use Rattle.lazy_msgs.specs.declared.refused.EventRefused.TheVariants.{NoNode}
use Rattle.lazy_rules.specs.WorldRules.{IsWithinLimits, crash_refused_at, crashes, refusal, sent_weight, step_refused_at, step_time}
use Rattle.lazy_rules.specs.WorldState.{WorldState}
use Rattle.lazy_rules.specs.declared.limits.TheConstants.{WEIGHT_LIMIT}
use Rattle.world_facts.proofs.Nodes.{control_node_of, controller_is}
use Rattle.lazy_core.specs.Ledger.{Adds, Keeps, LedgerState}
use Rattle.lazy_core.specs.Standing.{Standing, world_of_standing}
use Rattle.lazy_core.specs.Turning.{IsKnown}
use Rattle.lazy_core.specs.WorldView.{IsKept}
use Rattle.lazy_core.proofs.Entering.{entered_world, with_ledger}

module _ (w : WorldState) (known : IsKnown w) (node : ℕ) where
  -- the controller doesn't crash
  pub control_stays : node ≡ CONTROLLER → refusal w (Crash node) ≡ Some (NoNode node)
  control_stays is = ap (crash_refused_at w node) (ap (node_of w.shape) is ∙ control_node_of w.shape known.formed)

  -- every other node is refused as it is a step
  pub crash_reason : node ≢ CONTROLLER → refusal w (Crash node) ≡ step_refused_at w node (node_of w.shape node)
  crash_reason other = by (node_of w.shape node) refl
    where
      by : (role : Option Node) → node_of w.shape node ≡ role → crash_refused_at w node role ≡ step_refused_at w node role
      by None is = refl
      by (Some (Client c)) is = refl
      by (Some Controller) is = absurd (other (controller_is w.shape node is))
      by (Some (Seq i)) is = refl
      by (Some (Shard i j)) is = refl

module _ (s : Standing) (l m n : LedgerState) (node : ℕ) where
  abbrev w : WorldState
  w = with_ledger (world_of_standing s) l

  pub crashed_so : (t : Standing) → t ≡ record s { crashed = s.crashed ++ node ∷ [] } → Keeps l m → Adds node 0 [] [] m n → with_ledger (world_of_standing t) n ≡ crashes w node
  crashed_so t stands keeps adds =
      ap (λ (x : Standing). with_ledger (world_of_standing x) n) stands
      ∙ entered_world (world_of_standing (record s { crashed = s.crashed ++ node ∷ [] })) l m n node 0 [] [] keeps adds

-- a crash sends nothing
module _ (w : WorldState) (kept : IsKept w) (node : ℕ) where
  pub crash_within : IsWithinLimits (crashes w node)
  crash_within = record {
    in_number = (let same : length (w.sent ++ []) ≡ length w.sent = ap length (append-nil w.sent) in let number = kept.within.in_number in omega arith);
    in_weight = subst (λ (sent : List Envelope). sent_weight sent ≤ WEIGHT_LIMIT) (sym (append-nil w.sent)) kept.within.in_weight;
  }

  pub crash_kept : IsKept (crashes w node)
  crash_kept = record { timed = length-set w.times node (step_time w node 0) ∙ kept.timed; within = crash_within; told = (let same : length (w.history ++ []) ≡ length w.history = ap length (append-nil w.history) in let few = kept.told in omega arith) }
