-- Who is shut for a view stays so, and who is silent then.
use Rattle.std.proofs.Common.{◌⊎◌, ℕ, ◌<◌, ◌≤◌, List, inl, inr, arith}
use Rattle.std.proofs.lemmas.Bool.{cases_lt}
use Rattle.list_facts.specs.Lists.{In}
use Rattle.rec_id.specs.Identity.{Identity}
use Rattle.rec_id.specs.declared.event.Event.{Event}
use Rattle.lazy_rules.specs.SeqState.{SeqState}
use Rattle.log_facts.specs.Finality.{BarredOrCovered, IsBarred, IsShut}
use Rattle.log_facts.specs.Ghosts.{Log, Probed, Views}
use Rattle.log_facts.specs.Growth.{HistoryGrows, LogGrows, SeqGrows}
use Rattle.log_facts.specs.Past.{HasBegun}
use Rattle.log_facts.proofs.growth.Pasts.{covers_later}

module _ (s t : SeqState) (grows : SeqGrows s t) where
  -- a view that it never took and barred it never takes
  pub barred_later : (view : ℕ) → s.view < view → view ≤ s.barred → (t.view < view) × (view ≤ t.barred) ⊎ (view < t.view)
  barred_later view below barred = elim (cases_lt s.view t.view) [
    | inl rose ↦ let past = grows.unbarred rose in inr (omega arith)
    | inr stayed ↦ let least = grows.view in let rises = grows.barred in inl (omega arith, omega arith)
  ]

  pub shut_later : (view : ℕ) → IsShut s view → IsShut t view
  shut_later view (inl past) = let rises = grows.view in inl (omega arith)
  shut_later view (inr (inl own)) = elim (cases_lt s.view t.view) [
    | inl rose ↦ let is = own.0 in inl (omega arith)
    | inr stayed ↦
        let least = grows.view in
        let is = own.0 in
        inr (inl (omega arith, (grows.sealed (omega arith) own.1).sealed))
  ]
  shut_later view (inr (inr barred)) = elim (barred_later view barred.0 barred.1) [ inl k ↦ inr (inr k) | inr k ↦ inl k ]

module _ (v : Views) (log later : Log) (history then : List Event) (seqs next : ℕ → SeqState)
    (history_grows : HistoryGrows log.probed history then) (log_grows : LogGrows seqs log later) (seqs_grow : (node : ℕ) → SeqGrows (seqs node) (next node)) where
  pub silent_later : (one : Probed) → IsShut (seqs one.node) one.view → ¬ In one log.probed → ¬ In one later.probed
  silent_later one shut silent h = elim (log_grows.silent one h) [ inl before ↦ silent before | inr open_then ↦ open_then shut ]

  pub barring_later : (view client read : ℕ) → IsBarred v log.probed seqs view client read → IsBarred v later.probed next view client read
  barring_later view client read h = record {
    node = h.node;
    member = h.member;
    shut = shut_later (seqs h.node) (next h.node) (seqs_grow h.node) view h.shut;
    silent = silent_later (record { node = h.node; view = view; client = client; read = read }) h.shut h.silent;
  }

  pub cover_later : (view client read : ℕ) → HasBegun history client read → (ids more : List Identity) (bound higher : ℕ) → ((id : Identity) → In id ids → In id more) → bound ≤ higher
      → BarredOrCovered v log.probed history seqs view client read ids bound → BarredOrCovered v later.probed then next view client read more higher
  cover_later view client read begun ids more bound higher has le (inl barred) = inl (barring_later view client read barred)
  cover_later view client read begun ids more bound higher has le (inr covers) = inr (covers_later log.probed history then history_grows client read begun ids more bound higher has le covers)
