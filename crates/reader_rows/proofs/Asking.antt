-- What a client that reads and trims sends says what it should: probes and fetches of a read that began, a trim that was
-- asked for.
use Rattle.std.proofs.Common.{ℕ, ◌+◌, List, [], ◌∷◌, refl}
use Rattle.std.specs.Prelude.{Bool, if◌then◌else◌}
use Rattle.list_facts.specs.Lists.{Each, In}
use Rattle.list_facts.proofs.Cases.{either}
use Rattle.list_facts.proofs.Members.{each_append, each_map, in_each}
use Rattle.rec_id.specs.declared.event.Ask.{Ask}
use Rattle.rec_id.specs.declared.event.Event.TheVariants.{Begin, TrimAsk}
use Rattle.rec_id.specs.History.{asked_from}
use Rattle.view_config.specs.Shape.{Dimensions}
use Rattle.lazy_msgs.specs.declared.msg.Msg.{Msg}
use Rattle.lazy_msgs.specs.declared.msg.Msg.TheVariants.{Fetch as FetchMsg, Probe, Trim}
use Rattle.lazy_rules.specs.Rows.{each_numbered, to_each}
use Rattle.log_facts.specs.Ghosts.{Ghost}
use Rattle.log_facts.specs.Parts.{Parts}
use Rattle.log_facts.specs.Said.{Said}

module _ (shape : Dimensions) (g : Ghost) (b : Parts) (c : ℕ) where
  abbrev pub Says : ℕ × Msg → Type 0
  Says send = Said shape g b c send.0 send.1

  -- the same message to each, where it says of none what it doesn't of another
  pub each_said : (msg : Msg) (nodes : List ℕ) → ((node : ℕ) → Said shape g b c node msg) → Each Says (to_each nodes msg)
  each_said msg nodes said = each_map (λ (node : ℕ). (node, msg)) Says nodes (in_each (λ (node : ℕ). Says (node, msg)) nodes (λ node i. said node))

  pub numbered_said : {A : Type 0} (make : ℕ → A → List (ℕ × Msg)) (i : ℕ) (xs : List A) → ((j : ℕ) (x : A) → Each Says (make j x)) → Each Says (each_numbered make i xs)
  numbered_said make i [] said = tt
  numbered_said make i (x ∷ xs) said = each_append Says (make i x) (each_numbered make (i + 1) xs) (said i x) (numbered_said make (i + 1) xs said)

  module _ (read : ℕ) (ask : Ask) (begun : In (Begin c read ask) b.history) where
    pub probes_said : (view : ℕ) (nodes : List ℕ) → Each Says (to_each nodes (Probe view read))
    probes_said view nodes = each_said (Probe view read) nodes (λ node. record { ask = ask; stands = begun })

    pub fetches_said : (end : ℕ) (nodes : List ℕ) → Each Says (to_each nodes (FetchMsg read (asked_from ask) end))
    fetches_said end nodes = each_said (FetchMsg read (asked_from ask) end) nodes (λ node. record { ask = ask; begun = begun; is = refl })

    -- where something is asked at all
    pub fetches_said_if : (asks : Bool) (end : ℕ) (nodes : List ℕ) → Each Says (if asks then to_each nodes (FetchMsg read (asked_from ask) end) else [])
    fetches_said_if asks end nodes = either (Each Says) asks (to_each nodes (FetchMsg read (asked_from ask) end)) [] (λ e. fetches_said end nodes) (λ e. tt)

    pub probes_said_if : (asks : Bool) (view : ℕ) (nodes : List ℕ) → Each Says (if asks then to_each nodes (Probe view read) else [])
    probes_said_if asks view nodes = either (Each Says) asks (to_each nodes (Probe view read)) [] (λ e. probes_said view nodes) (λ e. tt)

  pub trims_said : (read floor : ℕ) → In (TrimAsk c read floor) b.history → (nodes : List ℕ) → Each Says (to_each nodes (Trim read floor))
  trims_said read floor asked nodes = each_said (Trim read floor) nodes (λ node. asked)
