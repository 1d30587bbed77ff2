-- Part at a reader: what is told up to its end is kept, where its shard's part isn't there; of less the read forces.
use Rattle.std.proofs.Common.{◌≡◌, ◌≢◌, ℕ, ◌<◌, ◌≤◌, List, Option, Some, None, true, not, ◌⊎◌, inl, inr, refl, sym, ap, ◌∙◌, subst, arith}
use Rattle.std.specs.Prelude.{◌==◌, nat_le, slice_get, if◌then◌else◌}
use Rattle.std.specs.Option.{is_none, option_map_or}
use Rattle.std.proofs.lemmas.Bool.{and_parts, eqb-true, leb-true, not-false}
use Rattle.std.proofs.lemmas.List.{length-set}
use Rattle.list_facts.proofs.Cases.{either, some_or_none}
use Rattle.list_facts.proofs.Places.{at_set_cases}
use Rattle.rec_id.specs.declared.entry.Entry.{Entry}
use Rattle.rec_id.specs.History.{asked_from}
use Rattle.view_config.specs.Nodes.{shard_id}
use Rattle.view_config.specs.Shape.{Dimensions, node_of}
use Rattle.view_config.specs.declared.nodes.Node.{Node}
use Rattle.view_config.specs.declared.nodes.Node.TheVariants.{Client, Controller, Seq, Shard}
use Rattle.view_config.specs.declared.limits.TheConstants.{MAX_COPIES}
use Rattle.world_facts.proofs.Nodes.{shard_is}
use Rattle.lazy_msgs.specs.declared.msg.Msg.TheVariants.{Part}
use Rattle.lazy_rules.specs.ReaderRules.{falls_short, gathers, is_fetch_of, keeps_part, lacks_part, on_part, probes_all, with_part}
use Rattle.lazy_rules.specs.ReaderState.{Fetch, Fetching, Idle, Probing, ReaderState, Stage, Trimming}
use Rattle.lazy_rules.specs.Roles.{shard_kept_by}
use Rattle.lazy_rules.specs.Rows.{stays}
use Rattle.log_facts.specs.Ghosts.{Ghost}
use Rattle.log_facts.specs.Good.{GoodReader, Heard, Moment}
use Rattle.log_facts.specs.Parts.{Parts, home_of}
use Rattle.log_facts.specs.Says.{PartSays}
use Rattle.log_facts.specs.facts.OfReads.{FetchNotes, IsReading, StageFacts, StageNotes}
use Rattle.reader_rows.proofs.Deciding.{probes_good}
use Rattle.reader_rows.proofs.Gathering.{gathers_good}
use Rattle.reader_rows.proofs.Stepping.{stays_good}

-- the shard that a replica keeps is its home
pub kept_is_home : (shape : Dimensions) (node shard : ℕ) → shape.copies ≤ MAX_COPIES → shard_kept_by shape node ≡ Some shard → home_of node ≡ shard
kept_is_home shape node shard most is = by (node_of shape node) refl is
  where
    by : (role : Option Node) → node_of shape node ≡ role → (elim role [ Some (Shard i j) ↦ Some i | _ ↦ None ]) ≡ Some shard → home_of node ≡ shard
    by None at none = cc
    by (Some (Client c)) at none = cc
    by (Some Controller) at none = cc
    by (Some (Seq i)) at none = cc
    by (Some (Shard i j)) at one =
        let same : i ≡ shard = cc in
        let number = shard_is shape node i j at in
        let named : node ≡ shard_id i j = number.0 in
        let few : j < shape.copies = number.2 in
        let home : home_of node ≡ i = omega arith in
        home ∙ same

module _ (shape : Dimensions) (g : Ghost) (a : Parts) (sender c number from end : ℕ) (entries : List (ℕ × Entry)) (moment : Moment shape g a) (heard : Heard shape g a sender c (Part number from end entries)) where
  abbrev r : ReaderState
  r = a.readers c

  stayed : GoodReader shape g a c (stays r)
  stayed = stays_good shape g a c moment

  module _ (fetch : Fetch) (is : r.stage ≡ Fetching fetch) (of : is_fetch_of fetch number from ≡ true) where
    reading : IsReading a.history c fetch.number fetch.ask
    reading = subst (StageFacts a.history c) is (moment.agreed.clients.reads c).stage

    notes : FetchNotes shape g.views g.log a.history a.shards c fetch
    notes = subst (StageNotes shape g.views g.log a.history a.seqs a.shards c r.config.view) is (moment.agreed.clients.reads_noted c).stage

    same_number : fetch.number ≡ number
    same_number = eqb-true fetch.number number (and_parts (fetch.number == number) (asked_from fetch.ask == from) of).0

    same_from : asked_from fetch.ask ≡ from
    same_from = eqb-true (asked_from fetch.ask) from (and_parts (fetch.number == number) (asked_from fetch.ask == from) of).1

    -- what it tells up to the end that is wanted
    told : (shard : ℕ) → shard_kept_by r.shape sender ≡ Some shard → fetch.end ≤ end → PartSays shape g.views g.log a.history a.shards shard c fetch.number (asked_from fetch.ask) fetch.end entries
    told shard kept enough =
        let home : home_of sender ≡ shard = kept_is_home shape sender shard moment.is_shape.copies_most (ap (λ (d : Dimensions). shard_kept_by d sender) (sym (moment.formed.readers c).shaped) ∙ kept) in
        subst (λ (n : ℕ). PartSays shape g.views g.log a.history a.shards shard c n (asked_from fetch.ask) fetch.end entries) (sym same_number)
        (subst (λ (n : ℕ). PartSays shape g.views g.log a.history a.shards shard c number n fetch.end entries) (sym same_from)
        (subst (λ (n : ℕ). PartSays shape g.views g.log a.history a.shards n c number from fetch.end entries) home
        (record { fetched = heard.said.fetched; below = let low = heard.said.below in omega arith; told = λ place least most. heard.said.told place least (omega arith) })))

    keeps_good : (shard : ℕ) → shard_kept_by r.shape sender ≡ Some shard → fetch.end ≤ end → GoodReader shape g a c (keeps_part r fetch entries shard)
    keeps_good shard kept enough = either (GoodReader shape g a c) (lacks_part fetch shard) (gathers r (with_part fetch shard entries)) (stays r)
        (λ e. gathers_good shape g a c moment r (moment.formed.readers c).numbered (moment.agreed.clients.reads c) (moment.agreed.clients.reads_noted c).reach (with_part fetch shard entries) reading (record {
          wants = record {
            forward = notes.wants.forward;
            unforced = notes.wants.unforced;
            whole = notes.wants.whole;
            forced = notes.wants.forced;
            below = notes.wants.below;
            covers = notes.wants.covers;
          };
          count = length-set fetch.parts shard (Some entries) ∙ notes.count;
          parts = λ other others at. by other others (at_set_cases fetch.parts shard (Some entries) other (Some others) at);
        })) (λ e. stayed)
      where
        by : (other : ℕ) (others : List (ℕ × Entry)) → ((other ≡ shard) × (Some others ≡ Some entries)) ⊎ ((other ≢ shard) × (slice_get fetch.parts other ≡ Some (Some others))) → PartSays shape g.views g.log a.history a.shards other c fetch.number (asked_from fetch.ask) fetch.end others
        by other others (inl here) =
            let same : others ≡ entries = let both : Some others ≡ Some entries = here.1 in cc in
            subst (λ (xs : List (ℕ × Entry)). PartSays shape g.views g.log a.history a.shards other c fetch.number (asked_from fetch.ask) fetch.end xs) (sym same)
            (subst (λ (n : ℕ). PartSays shape g.views g.log a.history a.shards n c fetch.number (asked_from fetch.ask) fetch.end entries) (sym here.0) (told shard kept enough))
        by other others (inr there) = notes.parts other others there.1

    forces_good : GoodReader shape g a c (falls_short r fetch)
    forces_good = either (GoodReader shape g a c) (is_none fetch.tail) (probes_all r fetch.number fetch.ask) (stays r)
        (λ e. probes_good shape g a c moment r (moment.formed.readers c).numbered (moment.formed.readers c).shaped (moment.agreed.clients.reads c) (moment.agreed.clients.reads_noted c).reach fetch.number fetch.ask reading) (λ e. stayed)

    fetched_good : GoodReader shape g a c (if nat_le fetch.end end then option_map_or (keeps_part r fetch entries) (shard_kept_by r.shape sender) (stays r) else falls_short r fetch)
    fetched_good = either (GoodReader shape g a c) (nat_le fetch.end end) (option_map_or (keeps_part r fetch entries) (shard_kept_by r.shape sender) (stays r)) (falls_short r fetch)
        (λ e. some_or_none (GoodReader shape g a c) (keeps_part r fetch entries) (shard_kept_by r.shape sender) (stays r) (λ shard kept. keeps_good shard kept (leb-true fetch.end end e)) (λ none. stayed))
        (λ e. forces_good)

  by_stage : (stage : Stage) → r.stage ≡ stage → GoodReader shape g a c (elim stage [
    | Fetching fetch ↦
        if not (is_fetch_of fetch number from) then stays r
        else (if nat_le fetch.end end then option_map_or (keeps_part r fetch entries) (shard_kept_by r.shape sender) (stays r)
        else falls_short r fetch)
    | _ ↦ stays r
  ])
  by_stage Idle is = stayed
  by_stage (Probing force) is = stayed
  by_stage (Trimming trimmer) is = stayed
  by_stage (Fetching fetch) is = either (GoodReader shape g a c) (not (is_fetch_of fetch number from)) (stays r) (if nat_le fetch.end end then option_map_or (keeps_part r fetch entries) (shard_kept_by r.shape sender) (stays r) else falls_short r fetch)
      (λ e. stayed) (λ e. fetched_good fetch is (not-false (is_fetch_of fetch number from) e))

  pub part_good : GoodReader shape g a c (on_part r sender number from end entries)
  part_good = by_stage r.stage refl
