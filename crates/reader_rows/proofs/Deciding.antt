-- A read that forces its tail: once all members acknowledged its probe and the leader told the tail, it wants what lies
-- below.
use Rattle.std.proofs.Common.{◌≡◌, ℕ, zero, suc, ◌≤◌, [], Option, Some, None, true, inl, inr, refl, sym, ap, ◌∙◌, subst, arith}
use Rattle.std.specs.Prelude.{◌==◌, min, nat_le, replicate, slice_get, take}
use Rattle.std.specs.List.{list_all}
use Rattle.std.specs.Option.{option_map_or}
use Rattle.std.proofs.lemmas.Bool.{eqb-true, leb-false, leb-true}
use Rattle.std.proofs.lemmas.List.{length-replicate}
use Rattle.list_facts.specs.Lists.{In, put}
use Rattle.list_facts.proofs.Cases.{either, some_or_none}
use Rattle.list_facts.proofs.Members.{all_pass, each_in, in_passes}
use Rattle.rec_id.specs.declared.event.Ask.{Ask}
use Rattle.rec_id.specs.History.{asked_from, asked_to}
use Rattle.view_config.specs.Shape.{Dimensions}
use Rattle.view_config.specs.declared.config.Config.{Config}
use Rattle.lazy_rules.specs.ReaderRules.{answered, at_stage, concludes, decides, fetches, forced_end, new_fetch, new_force, probes_all}
use Rattle.lazy_rules.specs.ReaderState.{Fetching, Force, Probing, ReaderState}
use Rattle.lazy_rules.specs.Roles.{primaries_of}
use Rattle.lazy_rules.specs.Rows.{has_node, stays}
use Rattle.log_facts.specs.Finality.{BarredOrCovered}
use Rattle.log_facts.specs.Ghosts.{Ghost}
use Rattle.log_facts.specs.Good.{GoodReader, Moment}
use Rattle.log_facts.specs.Parts.{Parts}
use Rattle.log_facts.specs.Past.{Covers}
use Rattle.log_facts.specs.Says.{ProbeAckSays, TailSays}
use Rattle.log_facts.specs.facts.OfReads.{FetchFacts, ForceNotes, IsReading, ReaderFacts}
use Rattle.reader_rows.proofs.Answering.{answered_good}
use Rattle.reader_rows.proofs.Asking.{fetches_said, probes_said}
use Rattle.reader_rows.proofs.Stepping.{keeps_good}

-- no part is there at first
pub none_there : {A : Type 0} (n k : ℕ) (x : A) → slice_get (replicate n None) k ≡ Some (Some x) → ⊥
none_there zero k x at = cc
none_there (suc n) zero x at = cc
none_there (suc n) (suc k) x at = none_there n k x at

module _ (shape : Dimensions) (g : Ghost) (a : Parts) (c : ℕ) (moment : Moment shape g a) (r : ReaderState) (own : r.client ≡ c) (shaped : r.shape ≡ shape) (facts : ReaderFacts g.views a.history c r) (reach : r.reach ≤ g.log.low)
    (number : ℕ) (ask : Ask) (reading : IsReading a.history c number ask) where
  -- it begins to fetch
  pub fetches_good : (end : ℕ) (tail : Option ℕ) → FetchFacts g.log a.history c (new_fetch r number ask end tail) → GoodReader shape g a c (fetches r number ask end tail)
  fetches_good end tail wants =
      let next : ReaderState = at_stage r (Fetching (new_fetch r number ask end tail)) in
      keeps_good shape g a c moment (fetches r number ask end tail) refl (record {
        facts = record { config = facts.config; reads = facts.reads; trims = facts.trims; stage = reading };
        notes = record {
          reach = reach;
          stage = record {
            wants = wants;
            count = length-replicate r.shape.shards None ∙ ap (λ (x : Dimensions). x.shards) shaped;
            parts = λ shard entries at. absurd (none_there r.shape.shards shard entries at);
          };
        };
      }) (fetches_said shape g (record a { readers = put a.readers c next }) c number ask reading.begun end (primaries_of r.config))

  -- it begins to force
  pub probes_good : GoodReader shape g a c (probes_all r number ask)
  probes_good =
      let next : ReaderState = at_stage r (Probing (new_force number ask)) in
      keeps_good shape g a c moment (probes_all r number ask) refl (record {
        facts = record { config = facts.config; reads = facts.reads; trims = facts.trims; stage = reading };
        notes = record { reach = reach; stage = record { acked = tt; tail = λ tail is. cc } };
      }) (probes_said shape g (record a { readers = put a.readers c next }) c number ask reading.begun r.config.view r.config.seq)

module _ (shape : Dimensions) (g : Ghost) (a : Parts) (c : ℕ) (moment : Moment shape g a) (r : ReaderState) (own : r.client ≡ c) (shaped : r.shape ≡ shape) (facts : ReaderFacts g.views a.history c r) (reach : r.reach ≤ g.log.low)
    (force : Force) (reading : IsReading a.history c force.number force.ask) (notes : ForceNotes g.views g.log a.history a.seqs c r.config.view force) where
  stays_forcing : GoodReader shape g a c (stays (at_stage r (Probing force)))
  stays_forcing = keeps_good shape g a c moment (stays (at_stage r (Probing force))) refl (record {
    facts = record { config = facts.config; reads = facts.reads; trims = facts.trims; stage = reading };
    notes = record { reach = reach; stage = notes };
  }) tt

  -- all members acknowledged, so the read isn't barred
  module _ (all : list_all (has_node force.acked) r.config.seq ≡ true) (tail : ℕ) (told : force.tail ≡ Some tail) where
    says : TailSays g.views g.log a.history a.seqs r.config.view c force.number tail
    says = notes.tail tail told

    acked_by : (node : ℕ) → In node (g.views.cf r.config.view).seq → In (record { node = node; view = r.config.view; client = c; read = force.number }) g.log.probed
    acked_by node i =
        let listed : In node r.config.seq = subst (λ (x : Config). In node x.seq) (sym facts.config.named) i in
        let one = in_passes (λ (other : ℕ). other == node) force.acked (all_pass (has_node force.acked) r.config.seq all node listed) in
        subst (λ (n : ℕ). ProbeAckSays g.log.probed n r.config.view c force.number) (eqb-true one.0 node one.2) (each_in (λ (n : ℕ). ProbeAckSays g.log.probed n r.config.view c force.number) force.acked notes.acked one.0 one.1)

    covers : Covers a.history c force.number (take tail g.log.line) tail
    covers = by says.covers
      where
        by : BarredOrCovered g.views g.log.probed a.history a.seqs r.config.view c force.number (take tail g.log.line) tail → Covers a.history c force.number (take tail g.log.line) tail
        by (inl barred) = absurd (barred.silent (acked_by barred.node barred.member))
        by (inr covered) = covered

    concludes_good : GoodReader shape g a c (concludes r force tail)
    concludes_good = either (GoodReader shape g a c) (nat_le (forced_end force.ask tail) (asked_from force.ask)) (answered r force.number force.ask [] (Some tail)) (fetches r force.number force.ask (forced_end force.ask tail) (Some tail))
        (λ e. answered_good shape g a c moment r own facts reach force.number force.ask [] (Some tail) (record {
          reading = reading;
          unforced = λ none. cc;
          whole = λ none. cc;
          count = λ t is. let same : tail ≡ t = cc in let none = leb-true (forced_end force.ask tail) (asked_from force.ask) e in omega arith;
          covers = λ t is. let same : tail ≡ t = cc in subst (λ (n : ℕ). Covers a.history c force.number (take n g.log.line) n) same covers;
          below = says.stable.below;
          told = λ k entry at. cc;
        }))
        (λ e. fetches_good shape g a c moment r own shaped facts reach force.number force.ask reading (forced_end force.ask tail) (Some tail) (record {
          forward = let more = leb-false (forced_end force.ask tail) (asked_from force.ask) e in omega arith;
          unforced = λ none. cc;
          whole = λ none. cc;
          forced = λ t is. let same : tail ≡ t = cc in ap (λ (n : ℕ). min (asked_to force.ask) n) same;
          below = λ t is. let same : tail ≡ t = cc in subst (λ (n : ℕ). n ≤ g.log.low) same says.stable.below;
          covers = λ t is. let same : tail ≡ t = cc in subst (λ (n : ℕ). Covers a.history c force.number (take n g.log.line) n) same covers;
        }))

  pub decides_good : GoodReader shape g a c (decides r force)
  decides_good = either (GoodReader shape g a c) (list_all (has_node force.acked) r.config.seq) (option_map_or (concludes r force) force.tail (stays (at_stage r (Probing force)))) (stays (at_stage r (Probing force)))
      (λ all. some_or_none (GoodReader shape g a c) (concludes r force) force.tail (stays (at_stage r (Probing force))) (λ tail told. concludes_good all tail told) (λ none. stays_forcing))
      (λ e. stays_forcing)
