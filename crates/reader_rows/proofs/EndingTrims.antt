-- A trim is done once all shard replicas of the client's view gave up what it asked for.
use Rattle.std.proofs.Common.{◌≡◌, ℕ, zero, suc, ◌≤◌, List, [], ◌∷◌, Option, Some, None, true, inl, inr, refl, sym, ap, ◌∙◌, subst, arith}
use Rattle.std.specs.Prelude.{◌==◌, flat_map, slice_get, unwrap_or}
use Rattle.std.proofs.lemmas.Bool.{cases_lt, eqb-true}
use Rattle.list_facts.specs.Lists.{In}
use Rattle.list_facts.proofs.Cases.{either}
use Rattle.list_facts.proofs.Members.{all_pass, each_in, in_left, in_passes, in_right}
use Rattle.rec_id.specs.declared.event.Event.{Event}
use Rattle.rec_id.specs.declared.event.Event.TheVariants.{TrimAsk, TrimDone}
use Rattle.rec_id.specs.History.{Read}
use Rattle.view_config.specs.Shape.{Dimensions}
use Rattle.view_config.specs.declared.config.Config.{Config}
use Rattle.lazy_rules.specs.ReaderRules.{at_stage, ends_trim, is_trim_complete, notes_trim}
use Rattle.lazy_rules.specs.ReaderState.{ReaderState, Trimmer, Trimming}
use Rattle.lazy_rules.specs.Roles.{replicas_at, replicas_of}
use Rattle.lazy_rules.specs.Rows.{has_node, stays}
use Rattle.log_facts.specs.Ghosts.{Ghost}
use Rattle.log_facts.specs.Good.{GoodReader, Moment}
use Rattle.log_facts.specs.Parts.{Parts}
use Rattle.log_facts.specs.facts.OfData.{TrimIsDone}
use Rattle.log_facts.specs.facts.OfReads.{IsTrimming, ReaderFacts, TrimNotes}
use Rattle.log_facts.proofs.telling.Histories.{TrimAllowed, history_more, no_append, no_read}
use Rattle.log_facts.proofs.telling.Told.{Tells}
use Rattle.reader_rows.proofs.Ending.{EndsOwn, over_keeps}
use Rattle.reader_rows.proofs.Stepping.{keeps_good, tells_good}

-- a replica of a shard is one of all
pub among_all : (groups : List (List ℕ)) (shard d : ℕ) → In d (unwrap_or (slice_get groups shard) []) → In d (flat_map (λ nodes. nodes) groups)
among_all [] shard d i = by (slice_get [] shard) refl i
  where
    by : (found : Option (List ℕ)) → slice_get [] shard ≡ found → In d (unwrap_or found []) → ⊥
    by None is j = j
    by (Some nodes) is j = cc
among_all (group ∷ groups) zero d i = in_left d group (flat_map (λ nodes. nodes) groups) i
among_all (group ∷ groups) (suc shard) d i = in_right d group (flat_map (λ nodes. nodes) groups) (among_all groups shard d i)

module _ (shape : Dimensions) (g : Ghost) (a : Parts) (c : ℕ) (moment : Moment shape g a) (r : ReaderState) (own : r.client ≡ c) (facts : ReaderFacts g.views a.history c r) (reach : r.reach ≤ g.log.low)
    (trimmer : Trimmer) (trimming : IsTrimming a.history c trimmer.number trimmer.floor) (notes : TrimNotes g.log a.shards trimmer) where
  abbrev event : Event
  event = TrimDone c trimmer.number trimmer.floor

  abbrev read : Read
  read = record { client = c; number = trimmer.number }

  -- the client's view is no later than the current one
  known : r.config.view ≤ g.views.cur
  known = elim (cases_lt g.views.lv r.config.view) [
    | inl later ↦ let last : g.views.sv r.config.view ≡ g.views.lv = moment.agreed.views.started.last r.config.view (omega arith) in let is = facts.config.started.is in absurd (omega arith)
    | inr le ↦ let latest = moment.agreed.views.started.latest in omega arith
  ]

  module _ (complete : is_trim_complete r trimmer ≡ true) where
    acked_by : (d : ℕ) → In d (replicas_of r.config) → trimmer.floor ≤ (a.shards d).store.floor
    acked_by d i =
        let one = in_passes (λ (other : ℕ). other == d) trimmer.acked (all_pass (has_node trimmer.acked) (replicas_of r.config) complete d i) in
        subst (λ (n : ℕ). trimmer.floor ≤ (a.shards n).store.floor) (eqb-true one.0 d one.2) (each_in (λ (node : ℕ). trimmer.floor ≤ (a.shards node).store.floor) trimmer.acked notes.acked one.0 one.1)

    done : TrimIsDone g.views a.shards trimmer.floor
    done shard d i =
        let before : In d (replicas_at (g.views.cf r.config.view) shard) = (moment.agreed.views.configs.later r.config.view g.views.cur known shard).members d i in
        let named : In d (replicas_at r.config shard) = subst (λ (x : Config). In d (replicas_at x shard)) (sym facts.config.named) before in
        acked_by d (among_all r.config.shards shard d named)

    allowed : TrimAllowed a.history event
    allowed = record {
      asked_new = λ other low high before i one is. let wrong : None ≡ Some (other, high) = is in cc;
      asked = λ client other floor is. same_asked client other floor is;
      done_new = λ other is before i one. let both : Some read ≡ Some other = is in let same : read ≡ other = cc in trimming.going before i (one ∙ ap (λ (x : Read). Some x) (sym same));
    }
      where
        same_asked : (client other floor : ℕ) → event ≡ TrimDone client other floor → In (TrimAsk client other floor) a.history
        same_asked client other floor is =
            let one : c ≡ client = cc in
            let two : trimmer.number ≡ other = cc in
            let three : trimmer.floor ≡ floor = cc in
            subst (λ (x : ℕ). In (TrimAsk x other floor) a.history) one (subst (λ (x : ℕ). In (TrimAsk c x floor) a.history) two (subst (λ (x : ℕ). In (TrimAsk c trimmer.number x) a.history) three trimming.asked))

    tells : Tells shape g a event
    tells = record {
      once = history_more shape a.history event (no_append shape a.history event refl refl) (no_read a.history event refl refl) allowed moment.agreed.history;
      begins = λ client other asked is. cc;
      invokes = λ id bytes is. cc;
      ends = λ id is. let wrong : None ≡ Some id = is in cc;
      reaches = λ x is. let both : Some trimmer.floor ≡ Some x = is in let same : trimmer.floor ≡ x = cc in subst (λ (n : ℕ). n ≤ g.log.low) same notes.below;
      acked = λ id apart is. cc;
      rejected = λ id place is. cc;
      trimmed = λ client other floor is. let same : trimmer.floor ≡ floor = cc in subst (TrimIsDone g.views a.shards) same done;
      answers = λ client other from entries tail is. cc;
      seen = λ client from ids is. cc;
    }

    ends_own : EndsOwn c trimmer.number event
    ends_own = record {
      begins = refl;
      asks = refl;
      invokes = refl;
      finishes = refl;
      read = λ other is. let wrong : None ≡ Some other = is in cc;
      trim = λ other is. let both : Some read ≡ Some other = is in let same : read ≡ other = cc in ap (λ (x : Read). x.client) (sym same);
    }

    pub ends_trim_good : GoodReader shape g a c (ends_trim r trimmer)
    ends_trim_good = tells_good shape g a c moment (ends_trim r trimmer) event (ap (λ (x : ℕ). TrimDone x trimmer.number trimmer.floor ∷ []) own)
        (over_keeps shape g a c moment r facts trimmer.number event ends_own tells r.reach reach) tt

  -- or noted, while some haven't
  pub notes_trim_good : GoodReader shape g a c (notes_trim r trimmer)
  notes_trim_good = either (GoodReader shape g a c) (is_trim_complete r trimmer) (ends_trim r trimmer) (stays (at_stage r (Trimming trimmer))) ends_trim_good
      (λ e. keeps_good shape g a c moment (stays (at_stage r (Trimming trimmer))) refl (record {
        facts = record { config = facts.config; reads = facts.reads; trims = facts.trims; stage = trimming };
        notes = record { reach = reach; stage = notes };
      }) tt)
