-- What the past of a history says goes on being said when more is told behind it.
use Rattle.std.proofs.Common.{ℕ, List, [], ◌∷◌, ◌++◌, ◌⊎◌, inl, inr}
use Rattle.list_facts.specs.Lists.{In, Precedes}
use Rattle.list_facts.proofs.Members.{in_left}
use Rattle.list_facts.proofs.Precedence.{precedes_cases}
use Rattle.rec_id.specs.Identity.{Identity}
use Rattle.rec_id.specs.declared.event.Ask.{Ask}
use Rattle.rec_id.specs.declared.event.Event.{Event}
use Rattle.rec_id.specs.declared.event.Event.TheVariants.{Invoke, Begin, TrimAsk}
use Rattle.lazy_rules.specs.SeqState.{SeqState}
use Rattle.log_facts.specs.Finality.{BarredOrCovered}
use Rattle.log_facts.specs.Ghosts.{Probed, Views}
use Rattle.log_facts.specs.Past.{Covers, EndedBefore, HasBegun, HasEnded, IsBegun, IsTrimAsked, ReachedBefore}

pub precedes_second : {A : Type 0} (x y : A) (xs : List A) → Precedes x y xs → In y xs
precedes_second x y [] p = absurd p
precedes_second x y (z ∷ xs) (inl p) = inr p.1
precedes_second x y (z ∷ xs) (inr p) = inr (precedes_second x y xs p)

-- what came before something that isn't told now came before it already
pub precedes_before : {A : Type 0} (x y : A) (xs told : List A) → ¬ In y told → Precedes x y (xs ++ told) → Precedes x y xs
precedes_before {A = A} x y xs told old p = by (precedes_cases x y xs told p)
  where
    by : Precedes x y xs ⊎ ((In x xs × In y told) ⊎ Precedes x y told) → Precedes x y xs
    by (inl q) = q
    by (inr (inl q)) = absurd (old q.1)
    by (inr (inr q)) = absurd (old (precedes_second x y told q))

module _ (history told : List Event) where
  pub begun_stays : (id : Identity) → IsBegun history id → IsBegun (history ++ told) id
  begun_stays id b = record { bytes = b.bytes; stands = in_left (Invoke id b.bytes) history told b.stands }

  pub ended_stays : (id : Identity) → HasEnded history id → HasEnded (history ++ told) id
  ended_stays id e = record { event = e.event; ends = e.ends; stands = in_left e.event history told e.stands }

  pub read_stays : (client read : ℕ) → HasBegun history client read → HasBegun (history ++ told) client read
  read_stays client read b = record { ask = b.ask; stands = in_left (Begin client read b.ask) history told b.stands }

  pub asked_stays : (floor : ℕ) → IsTrimAsked history floor → IsTrimAsked (history ++ told) floor
  asked_stays floor t = record { client = t.client; read = t.read; asked = t.asked; stands = in_left (TrimAsk t.client t.read t.asked) history told t.stands; at_least = t.at_least }

  -- while the reads that begin are new ones, what had ended and been reached before others stays the same
  module _ (fresh : (client read : ℕ) (ask : Ask) → In (Begin client read ask) told → ¬ HasBegun history client read) where
    begin_before : (event : Event) (client read : ℕ) (ask : Ask) → HasBegun history client read → Precedes event (Begin client read ask) (history ++ told) → Precedes event (Begin client read ask) history
    begin_before event client read ask b p = precedes_before event (Begin client read ask) history told (λ i. fresh client read ask i b) p

    pub ended_before : (client read : ℕ) (id : Identity) → HasBegun history client read → EndedBefore (history ++ told) client read id → EndedBefore history client read id
    ended_before client read id b e = record { event = e.event; ends = e.ends; ask = e.ask; before = begin_before e.event client read e.ask b e.before }

    pub reached_before : (client read reach : ℕ) → HasBegun history client read → ReachedBefore (history ++ told) client read reach → ReachedBefore history client read reach
    reached_before client read reach b e = record { event = e.event; reaches = e.reaches; ask = e.ask; before = begin_before e.event client read e.ask b e.before }

    pub covers_stays : (client read : ℕ) (ids : List Identity) (bound : ℕ) → HasBegun history client read → Covers history client read ids bound → Covers (history ++ told) client read ids bound
    covers_stays client read ids bound b c = record {
      ended = λ id e. c.ended id (ended_before client read id b e);
      reached = λ reach e. c.reached reach (reached_before client read reach b e);
    }

    pub covered_stays :
        (v : Views) (probed : List Probed) (seqs : ℕ → SeqState) (view client read : ℕ) (ids : List Identity) (bound : ℕ) → HasBegun history client read →
        BarredOrCovered v probed history seqs view client read ids bound → BarredOrCovered v probed (history ++ told) seqs view client read ids bound
    covered_stays v probed seqs view client read ids bound b (inl barred) = inl barred
    covered_stays v probed seqs view client read ids bound b (inr covers) = inr (covers_stays client read ids bound b covers)
