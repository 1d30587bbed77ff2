-- An acknowledgement at a client is noted, and ends the append where it is the last.
use Rattle.std.proofs.Common.{◌≡◌, ◌≢◌, ℕ, ◌<◌, List, [], ◌∷◌, ◌++◌, true, Some, None, ◌⊎◌, inl, inr, refl, sym, ap, ◌∙◌, subst, arith}
use Rattle.std.specs.Prelude.{◌==◌, slice_get, slice_set, remove}
use Rattle.std.specs.List.{list_all}
use Rattle.std.specs.Option.{option_map_or}
use Rattle.std.proofs.lemmas.Bool.{and_parts, eqb-true}
use Rattle.std.proofs.lemmas.List.Quantifiers.{position-Some}
use Rattle.std.proofs.lemmas.Option.{get_or_from_slice_get}
use Rattle.list_facts.specs.Lists.{Each, In}
use Rattle.list_facts.proofs.Cases.{either, some_or_none}
use Rattle.list_facts.proofs.Changes.{each_set, in_remove_cases, in_removed, in_set, in_set_cases}
use Rattle.list_facts.proofs.Members.{all_pass, each_append, each_in, each_weaker, in_each, in_last, in_left, in_more, in_passes}
use Rattle.list_facts.proofs.Places.{each_at}
use Rattle.rec_id.specs.Identity.{Identity, shard_of}
use Rattle.rec_id.specs.History.{finished_id, invoked_id}
use Rattle.rec_id.specs.declared.event.Event.{Event}
use Rattle.rec_id.specs.declared.event.Event.TheVariants.{Invoke, Acked, Rejected}
use Rattle.view_config.specs.Shape.{Dimensions}
use Rattle.view_config.specs.declared.config.Config.{Config}
use Rattle.view_config.specs.declared.edition.Mode.{Mode}
use Rattle.view_config.specs.declared.edition.Mode.TheVariants.{St}
use Rattle.lazy_rules.specs.ClientRules.{advances, data_nodes, finishes, homes_of, is_complete, noted, notes, place_of, rejects}
use Rattle.lazy_rules.specs.ClientState.{ClientState, OpenAppend, id_of}
use Rattle.lazy_rules.specs.Roles.{replicas_at}
use Rattle.lazy_rules.specs.Rows.{has_node, stays}
use Rattle.log_facts.specs.Finality.{GivenByAll}
use Rattle.log_facts.specs.Ghosts.{Ghost}
use Rattle.log_facts.specs.Good.{GoodClient, Moment}
use Rattle.log_facts.specs.Parts.{Parts}
use Rattle.log_facts.specs.Past.{HasEnded}
use Rattle.log_facts.specs.Says.{AckSays, DataAckSays, RejectedSays}
use Rattle.log_facts.specs.facts.OfClients.{AckNoted, ClientFacts, ClientNotes, IsOpen, OpenFacts}
use Rattle.log_facts.proofs.telling.Clients.{IsNoAppendOf}
use Rattle.log_facts.proofs.telling.Histories.{AppendAllowed, history_more, no_read, no_trim, none_new}
use Rattle.log_facts.proofs.telling.Past.{ended_stays}
use Rattle.log_facts.proofs.telling.Told.{StandsEverywhere, Tells}
use Rattle.client_rows.proofs.Finished.{acknowledged_stands}
use Rattle.client_rows.proofs.OpenAppends.{lowest_remove, lowest_set, rises_apart, rises_remove, rises_set}
use Rattle.client_rows.proofs.Stepping.{Keeps, keeps_good, tells_good}
use Rattle.client_rows.proofs.Tick.{stays_good}

module _ (shape : Dimensions) (g : Ghost) (a : Parts) (c : ℕ) (moment : Moment shape g a) where
  abbrev k : ClientState
  k = a.clients c

  facts : ClientFacts shape g.views a.history c k
  facts = moment.agreed.clients.appends c

  own : k.client ≡ c
  own = (moment.formed.clients c).numbered

  -- ---- an open append
  module _ (i : ℕ) (append : OpenAppend) (at : slice_get k.unfinished i ≡ Some append) where
    abbrev id : Identity
    id = id_of k append.number

    open_facts : OpenFacts a.history k append
    open_facts = each_at (OpenFacts a.history k) k.unfinished facts.opened i append at

    noted_before : Each (AckNoted g.views g.log a.seqs k id) append.acked
    noted_before = each_at (λ (other : OpenAppend). Each (AckNoted g.views g.log a.seqs k (id_of k other.number)) other.acked) k.unfinished (moment.agreed.clients.appends_noted c) i append at

    below_next : (other : OpenAppend) → In other k.unfinished → other.number < k.next
    below_next other h = (each_in (OpenFacts a.history k) k.unfinished facts.opened other h).below

    -- ---- ends by this event
    abbrev k_ended : ClientState
    k_ended = record k { unfinished = remove k.unfinished i }

    module _ (event : Event) (ends : finished_id event ≡ Some id) (no_invoke : invoked_id event ≡ None) where
      -- another open append doesn't end with this one
      still_open : (other : OpenAppend) → In other (remove k.unfinished i) → ¬ HasEnded a.history (id_of k other.number) → ¬ HasEnded (a.history ++ event ∷ []) (id_of k_ended other.number)
      still_open other h before e = by (in_more e.event event a.history e.stands)
        where
          by : In e.event a.history ⊎ (event ≡ e.event) → ⊥
          by (inl j) = before (record { event = e.event; ends = e.ends; stands = j })
          by (inr is) =
              let same : id ≡ id_of k other.number = let both : Some id ≡ Some (id_of k other.number) = sym ends ∙ ap finished_id is ∙ e.ends in cc in
              let number : append.number ≡ other.number = ap (λ (x : Identity). x.number) same in
              rises_apart 1 k.unfinished i append other at facts.rising h (sym number)

      opened_after : Each (OpenFacts (a.history ++ event ∷ []) k_ended) (remove k.unfinished i)
      opened_after = in_each (OpenFacts (a.history ++ event ∷ []) k_ended) (remove k.unfinished i) (λ other h.
          let f = each_in (OpenFacts a.history k) k.unfinished facts.opened other (in_removed k.unfinished i other h) in
          record { below = f.below; begun = in_left (Invoke (id_of k other.number) other.bytes) a.history (event ∷ []) f.begun; not_ended = still_open other h f.not_ended })

      ended_after : (n : ℕ) → IsOpen k n ⊎ HasEnded a.history (id_of k n) → IsOpen k_ended n ⊎ HasEnded (a.history ++ event ∷ []) (id_of k_ended n)
      ended_after n (inr e) = inr (ended_stays a.history (event ∷ []) (id_of k n) e)
      ended_after n (inl o) = by (in_remove_cases k.unfinished i o.append o.among)
        where
          by : In o.append (remove k.unfinished i) ⊎ (slice_get k.unfinished i ≡ Some o.append) → IsOpen k_ended n ⊎ HasEnded (a.history ++ event ∷ []) (id_of k_ended n)
          by (inl among) = inl (record { append = o.append; among = among; number_is = o.number_is })
          by (inr place) =
              let same : append ≡ o.append = let both : Some append ≡ Some o.append = sym at ∙ place in cc in
              let number : append.number ≡ n = ap (λ (x : OpenAppend). x.number) same ∙ o.number_is in
              inr (record { event = event; ends = ends ∙ ap (λ (m : ℕ). Some (id_of k m)) number; stands = in_last event a.history })

      facts_after : ClientFacts shape g.views (a.history ++ event ∷ []) c k_ended
      facts_after = record {
        config = facts.config;
        next = facts.next;
        few = let few = facts.few in let more = lowest_remove k.next 1 k.unfinished i facts.rising below_next in omega arith;
        rising = rises_remove 1 k.unfinished i facts.rising;
        opened = opened_after;
        begun = λ other bytes client j. by other bytes client (in_more (Invoke other bytes) event a.history j);
        ended = λ n some below. ended_after n (facts.ended n some below);
      }
        where
          by : (other : Identity) (bytes : List ℕ) → other.client ≡ c → In (Invoke other bytes) a.history ⊎ (event ≡ Invoke other bytes) → other.number < k.next
          by other bytes client (inl j) = facts.begun other bytes client j
          by other bytes client (inr is) = let wrong : None ≡ Some other = sym no_invoke ∙ ap invoked_id is in cc

      notes_after : ClientNotes g.views g.log a.seqs k_ended
      notes_after = in_each (λ (other : OpenAppend). Each (AckNoted g.views g.log a.seqs k_ended (id_of k_ended other.number)) other.acked) (remove k.unfinished i) (λ other h.
          each_weaker (AckNoted g.views g.log a.seqs k (id_of k other.number)) (AckNoted g.views g.log a.seqs k_ended (id_of k other.number)) (λ node n. record { member = n.member; home = n.home }) other.acked
          (each_in (λ (one : OpenAppend). Each (AckNoted g.views g.log a.seqs k (id_of k one.number)) one.acked) k.unfinished (moment.agreed.clients.appends_noted c) other (in_removed k.unfinished i other h)))

      -- nobody else's append
      others_apart : (n : ℕ) → n ≢ c → IsNoAppendOf event n
      others_apart n other = record {
        invoked = λ x bytes is. let wrong : None ≡ Some x = sym no_invoke ∙ ap invoked_id is in cc;
        ended = λ x is same. let both : Some id ≡ Some x = sym ends ∙ is in let same_id : id ≡ x = cc in other (sym same ∙ ap (λ (y : Identity). y.client) (sym same_id) ∙ own);
      }

      allowed : AppendAllowed shape a.history event
      allowed = record {
        client = λ x bytes is. let wrong : None ≡ Some x = sym no_invoke ∙ ap invoked_id is in cc;
        invoked = none_new invoked_id a.history event no_invoke;
        begun = λ x is. let both : Some id ≡ Some x = sym ends ∙ is in let same : id ≡ x = cc in (append.bytes, subst (λ (y : Identity). In (Invoke y append.bytes) a.history) same open_facts.begun);
        ended = λ x is before j one. let both : Some id ≡ Some x = sym ends ∙ is in let same : id ≡ x = cc in open_facts.not_ended (record { event = before; ends = one ∙ ap (λ (y : Identity). Some y) (sym same); stands = j });
      }

    -- ---- it is rejected
    module _ (place : ℕ) (says : RejectedSays shape g.views g.log a.shards id place) (stands : StandsEverywhere g.views g.log a.control.phase a.seqs id) where
      rejected_tells : Tells shape g a (Rejected id place)
      rejected_tells = record {
        once = history_more shape a.history (Rejected id place) (allowed (Rejected id place) refl refl) (no_read a.history (Rejected id place) refl refl) (no_trim a.history (Rejected id place) refl refl) moment.agreed.history;
        begins = λ client read ask is. cc;
        invokes = λ x bytes is. cc;
        ends = λ x is. let both : Some id ≡ Some x = is in let same : id ≡ x = cc in subst (StandsEverywhere g.views g.log a.control.phase a.seqs) same stands;
        reaches = λ reach is. let wrong : None ≡ Some reach = is in cc;
        acked = λ x apart is. cc;
        rejected = λ x p is. let same_id : id ≡ x = cc in let same_place : place ≡ p = cc in subst (λ (y : Identity). RejectedSays shape g.views g.log a.shards y p) same_id (subst (λ (q : ℕ). RejectedSays shape g.views g.log a.shards id q) same_place says);
        trimmed = λ client read floor is. cc;
        answers = λ client read from entries tail is. cc;
        seen = λ client from ids is. cc;
      }

      pub rejects_good : GoodClient shape g a c (rejects k i id place)
      rejects_good = tells_good shape g a c moment (rejects k i id place) (Rejected id place) refl (record {
        facts = facts_after (Rejected id place) refl refl;
        notes = notes_after (Rejected id place) refl refl;
        tells = rejected_tells;
        others = others_apart (Rejected id place) refl refl;
        no_read = λ n. record { begins = λ read ask is. cc; asks = λ read floor is. cc; ends = λ read is. let wrong : None ≡ Some (record { client = n; number = read }) = is in cc; done = λ read is. let wrong : None ≡ Some (record { client = n; number = read }) = is in cc };
      }) tt

    -- ---- it is acknowledged by a node that says so
    module _ (sender : ℕ) (says : AckNoted g.views g.log a.seqs k id sender) where
      abbrev known : OpenAppend
      known = noted append sender

      all_say : Each (AckNoted g.views g.log a.seqs k id) known.acked
      all_say = either (Each (AckNoted g.views g.log a.seqs k id)) (has_node append.acked sender) append.acked (append.acked ++ sender ∷ []) (λ h. noted_before) (λ h. each_append (AckNoted g.views g.log a.seqs k id) append.acked (sender ∷ []) noted_before (says, tt))

      -- who is noted said so
      said_by : (node : ℕ) → has_node known.acked node ≡ true → AckNoted g.views g.log a.seqs k id node
      said_by node passes =
          let one = in_passes (λ (other : ℕ). other == node) known.acked passes in
          subst (AckNoted g.views g.log a.seqs k id) (eqb-true one.0 node one.2) (each_in (AckNoted g.views g.log a.seqs k id) known.acked all_say one.0 one.1)

      -- ---- by the last one
      module _ (complete : is_complete k known ≡ true) where
        abbrev view : ℕ
        view = k.config.view

        named : k.config ≡ g.views.cf view
        named = facts.config.named

        members_say : (node : ℕ) → In node (g.views.cf view).seq → AckSays g.views g.log.line (a.seqs node) node view id
        members_say node i =
            let listed : In node k.config.seq = subst (λ (x : Config). In node x.seq) (sym named) i in
            let passes = all_pass (has_node known.acked) k.config.seq (and_parts (list_all (has_node known.acked) k.config.seq) (list_all (has_node known.acked) (data_nodes k.shape.mode (homes_of k id))) complete).0 node listed in
            (said_by node passes).member listed

        stands : StandsEverywhere g.views g.log a.control.phase a.seqs id
        stands = acknowledged_stands shape g a moment.agreed id view facts.config.started members_say

        homes_say : k.shape.mode ≡ St → (d : ℕ) → In d (homes_of k id) → DataAckSays g.log.given d view id
        homes_say apart d i =
            let all : list_all (has_node known.acked) (data_nodes St (homes_of k id)) ≡ true = subst (λ (mode : Mode). list_all (has_node known.acked) (data_nodes mode (homes_of k id)) ≡ true) apart (and_parts (list_all (has_node known.acked) k.config.seq) (list_all (has_node known.acked) (data_nodes k.shape.mode (homes_of k id))) complete).1 in
            (said_by d (all_pass (has_node known.acked) (homes_of k id) all d i)).home i

        given : shape.mode ≡ St → GivenByAll shape g.views g.log.given id
        given apart = record {
          view = view;
          started = facts.config.started;
          by_all = λ d i.
              let shaped = (moment.formed.clients c).shaped in
              homes_say (ap (λ (x : Dimensions). x.mode) shaped ∙ apart) d
              (subst (λ (x : Dimensions). In d (replicas_at k.config (shard_of id x.shards))) (sym shaped)
              (subst (λ (x : Config). In d (replicas_at x (shard_of id shape.shards))) (sym named) i));
        }

        acked_tells : Tells shape g a (Acked id)
        acked_tells = record {
          once = history_more shape a.history (Acked id) (allowed (Acked id) refl refl) (no_read a.history (Acked id) refl refl) (no_trim a.history (Acked id) refl refl) moment.agreed.history;
          begins = λ client read ask is. cc;
          invokes = λ x bytes is. cc;
          ends = λ x is. let both : Some id ≡ Some x = is in let same : id ≡ x = cc in subst (StandsEverywhere g.views g.log a.control.phase a.seqs) same stands;
          reaches = λ reach is. let wrong : None ≡ Some reach = is in cc;
          acked = λ x apart is. let same : id ≡ x = cc in subst (GivenByAll shape g.views g.log.given) same (given apart);
          rejected = λ x p is. cc;
          trimmed = λ client read floor is. cc;
          answers = λ client read from entries tail is. cc;
          seen = λ client from ids is. cc;
        }

        ends_good : GoodClient shape g a c (finishes k i known)
        ends_good = tells_good shape g a c moment (finishes k i known) (Acked id) refl (record {
          facts = facts_after (Acked id) refl refl;
          notes = notes_after (Acked id) refl refl;
          tells = acked_tells;
          others = others_apart (Acked id) refl refl;
          no_read = λ n. record { begins = λ read ask is. cc; asks = λ read floor is. cc; ends = λ read is. let wrong : None ≡ Some (record { client = n; number = read }) = is in cc; done = λ read is. let wrong : None ≡ Some (record { client = n; number = read }) = is in cc };
        }) tt

      -- ---- by one that isn't the last
      abbrev k_noted : ClientState
      k_noted = record k { unfinished = slice_set k.unfinished i known }

      open_noted : (n : ℕ) → IsOpen k n ⊎ HasEnded a.history (id_of k n) → IsOpen k_noted n ⊎ HasEnded a.history (id_of k_noted n)
      open_noted n (inr e) = inr e
      open_noted n (inl o) = by (in_set_cases k.unfinished i known o.append o.among)
        where
          by : In o.append (slice_set k.unfinished i known) ⊎ (slice_get k.unfinished i ≡ Some o.append) → IsOpen k_noted n ⊎ HasEnded a.history (id_of k_noted n)
          by (inl among) = inl (record { append = o.append; among = among; number_is = o.number_is })
          by (inr place) =
              let same : append ≡ o.append = let both : Some append ≡ Some o.append = sym at ∙ place in cc in
              inl (record { append = known; among = in_set k.unfinished i known append at; number_is = ap (λ (x : OpenAppend). x.number) same ∙ o.number_is })

      noted_keeps : Keeps shape g a c moment k_noted
      noted_keeps = record {
        facts = record {
          config = facts.config;
          next = facts.next;
          few = let few = facts.few in let same = lowest_set k.next k.unfinished i append known at refl in omega arith;
          rising = rises_set 1 k.unfinished i append known at refl facts.rising;
          opened = each_set (OpenFacts a.history k_noted) k.unfinished i known
              (each_weaker (OpenFacts a.history k) (OpenFacts a.history k_noted) (λ other f. record { below = f.below; begun = f.begun; not_ended = f.not_ended }) k.unfinished facts.opened)
              (record { below = open_facts.below; begun = open_facts.begun; not_ended = open_facts.not_ended });
          begun = facts.begun;
          ended = λ n some below. open_noted n (facts.ended n some below);
        };
        notes = each_set (λ (other : OpenAppend). Each (AckNoted g.views g.log a.seqs k_noted (id_of k_noted other.number)) other.acked) k.unfinished i known
            (each_weaker (λ (other : OpenAppend). Each (AckNoted g.views g.log a.seqs k (id_of k other.number)) other.acked) (λ (other : OpenAppend). Each (AckNoted g.views g.log a.seqs k_noted (id_of k_noted other.number)) other.acked)
            (λ other all. each_weaker (AckNoted g.views g.log a.seqs k (id_of k other.number)) (AckNoted g.views g.log a.seqs k_noted (id_of k_noted other.number)) (λ node n. record { member = n.member; home = n.home }) other.acked all) k.unfinished (moment.agreed.clients.appends_noted c))
            (each_weaker (AckNoted g.views g.log a.seqs k id) (AckNoted g.views g.log a.seqs k_noted id) (λ node n. record { member = n.member; home = n.home }) known.acked all_say);
      }

      pub advances_good : GoodClient shape g a c (advances k i known)
      advances_good = either (GoodClient shape g a c) (is_complete k known) (finishes k i known) (stays k_noted) ends_good (λ e. keeps_good shape g a c moment (stays k_noted) refl noted_keeps tt)

  -- ---- found by its number
  pub number_at : (number i : ℕ) (append : OpenAppend) → place_of k number ≡ Some i → slice_get k.unfinished i ≡ Some append → append.number ≡ number
  number_at number i append place at =
      let found = position-Some (λ (other : OpenAppend). other.number == number) k.unfinished i append place in
      eqb-true append.number number (ap (λ (x : OpenAppend). x.number == number) (sym (get_or_from_slice_get k.unfinished i append append at)) ∙ found.1)

  pub notes_good : (sender number : ℕ) → AckNoted g.views g.log a.seqs k (id_of k number) sender → GoodClient shape g a c (notes k sender number)
  notes_good sender number says =
      some_or_none (GoodClient shape g a c) (λ i. option_map_or (λ append. advances k i (noted append sender)) (slice_get k.unfinished i) (stays k)) (place_of k number) (stays k)
      (λ i place. some_or_none (GoodClient shape g a c) (λ append. advances k i (noted append sender)) (slice_get k.unfinished i) (stays k)
      (λ append at. advances_good i append at sender (subst (λ (n : ℕ). AckNoted g.views g.log a.seqs k (id_of k n) sender) (sym (number_at number i append place at)) says))
      (λ none. stays_good shape g a c moment))
      (λ none. stays_good shape g a c moment)
