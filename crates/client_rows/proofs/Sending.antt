-- What a client that appends sends of its open appends says what it should.
use Rattle.std.proofs.Common.{◌≡◌, ℕ, List, [], ◌∷◌, refl, subst}
use Rattle.std.specs.Prelude.{flat_map, map, take, zero, suc}
use Rattle.list_facts.specs.Lists.{Each, In}
use Rattle.list_facts.proofs.Members.{each_append, each_map, in_each}
use Rattle.rec_id.specs.declared.event.Event.TheVariants.{Invoke}
use Rattle.view_config.specs.Shape.{Dimensions}
use Rattle.view_config.specs.declared.edition.Mode.{Mode}
use Rattle.view_config.specs.declared.edition.Mode.TheVariants.{M, St}
use Rattle.lazy_msgs.specs.declared.msg.Msg.{Msg}
use Rattle.lazy_msgs.specs.declared.msg.Msg.TheVariants.{Append, Put}
use Rattle.lazy_rules.specs.ClientRules.{carried, data_nodes, homes_of, lacking, sending, sending_data, sending_record}
use Rattle.lazy_rules.specs.ClientState.{ClientState, OpenAppend, id_of}
use Rattle.log_facts.specs.Ghosts.{Ghost}
use Rattle.log_facts.specs.Parts.{Parts}
use Rattle.log_facts.specs.Said.{Said}

module _ (shape : Dimensions) (g : Ghost) (b : Parts) (c : ℕ) (k : ClientState) (shaped : k.shape ≡ shape) where
  abbrev Says : ℕ × Msg → Type 0
  Says send = Said shape g b c send.0 send.1

  -- an append that began
  abbrev pub HasInvoked : OpenAppend → Type 0
  HasInvoked append = In (Invoke (id_of k append.number) append.bytes) b.history

  record_said : (append : OpenAppend) → HasInvoked append → Each Says (sending_record k append)
  record_said append begun =
      each_map (λ (node : ℕ). (node, Append k.config.view (id_of k append.number) (carried k.shape.mode append.bytes))) Says (lacking append k.config.seq) (in_each (λ (node : ℕ). Says (node, Append k.config.view (id_of k append.number) (carried k.shape.mode append.bytes))) (lacking append k.config.seq)
      (λ node i. record { own = append.bytes; begun = begun; has = subst (λ (d : Dimensions). carried k.shape.mode append.bytes ≡ carried d.mode append.bytes) shaped refl }))

  data_said : (append : OpenAppend) → HasInvoked append → Each Says (sending_data k append)
  data_said append begun = by k.shape.mode refl
    where
      by : (mode : Mode) → k.shape.mode ≡ mode → Each Says (map (λ node. (node, Put (id_of k append.number) append.bytes)) (lacking append (data_nodes mode (homes_of k (id_of k append.number)))))
      by M is = tt
      by St is =
          let homes : List ℕ = homes_of k (id_of k append.number) in
          each_map (λ (node : ℕ). (node, Put (id_of k append.number) append.bytes)) Says (lacking append homes) (in_each (λ (node : ℕ). Says (node, Put (id_of k append.number) append.bytes)) (lacking append homes)
          (λ node i. record { apart = subst (λ (d : Dimensions). d.mode ≡ St) shaped is; begun = begun }))

  pub append_said : (append : OpenAppend) → HasInvoked append → Each Says (sending k append)
  append_said append begun = each_append Says (sending_data k append) (sending_record k append) (data_said append begun) (record_said append begun)

  pub appends_said : (appends : List OpenAppend) → Each HasInvoked appends → Each Says (flat_map (sending k) appends)
  appends_said [] each = tt
  appends_said (append ∷ appends) each = each_append Says (sending k append) (flat_map (sending k) appends) (append_said append each.0) (appends_said appends each.1)

  pub each_taken : (P : OpenAppend → Type 0) (n : ℕ) (appends : List OpenAppend) → Each P appends → Each P (take n appends)
  each_taken P zero appends each = tt
  each_taken P (suc n) [] each = tt
  each_taken P (suc n) (append ∷ appends) each = (each.0, each_taken P n appends each.1)
