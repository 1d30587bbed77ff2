-- Clause (e) at an index, by its event.
use Rattle.std.proofs.Common.{◌≡◌, ℕ, ◌<◌, ◌≤◌, Bool, List, length, Option, Some, None, slice_get, inl, inr, refl, sym, ◌∙◌, subst, arith}
use Rattle.std.specs.Bool.{Decides}
use Rattle.std.proofs.lemmas.Bool.{cases_lt}
use Rattle.std.proofs.lemmas.Bool.Decides.{Decides-like}
use Rattle.std.proofs.lemmas.Option.{same_Some, slice_get_past}
use Rattle.law_cases.proofs.ReadClauses.{dec_slices_at}
use Rattle.rec_id.specs.History.{Read}
use Rattle.rec_id.specs.Lawful.{IsSlice, SlicesAt}
use Rattle.rec_id.specs.declared.entry.Entry.{Entry}
use Rattle.rec_id.specs.declared.event.Ask.{Ask}
use Rattle.rec_id.specs.declared.event.Event.{Event}
use Rattle.rec_id.specs.declared.event.Event.TheVariants.{Invoke, Acked, Rejected, Begin, Answer, Seen, TrimAsk, TrimDone, Trimmed}
use Rattle.log_law.specs.Reads.{EndsAsked, FitsAsk, AreTold, KeepsSlices}

pub slice_decides :
    (history : List Event) (line : List Entry) (j : ℕ) (read : Read) (from : ℕ) (entries : List Entry) (tail : Option ℕ) (ask : Ask) (b : Bool) →
    EndsAsked history j read ask → FitsAsk ask from (length entries) tail (length line) → Decides b (AreTold history line from entries) → Decides b (IsSlice history line j read from entries tail)
slice_decides history line j read from entries tail ask b h fits d = Decides-like b to (λ s. s.told) d
  where
    own : FitsAsk h.ends.ask from (length entries) tail (length line)
    own = subst (λ (a : Ask). FitsAsk a from (length entries) tail (length line)) (sym h.is) fits

    to : AreTold history line from entries → IsSlice history line j read from entries tail
    to told = record { ends = h.ends; asked = own.asked; forced = own.forced; count = own.counted; within = own.within; whole = own.whole; told = told }

module _ (history : List Event) (line : List Entry) (j : ℕ) where
  pub slices_to : (event : Event) → slice_get history j ≡ Some event → KeepsSlices history line j event → SlicesAt history line j
  slices_to event here k = record {
    answer = λ client read from entries tail e. (let same : event ≡ Answer client read from entries tail = same_Some event _ (sym here ∙ e) in subst (KeepsSlices history line j) same k);
    seen = λ client from ids e. (let same : event ≡ Seen client from ids = same_Some event _ (sym here ∙ e) in subst (KeepsSlices history line j) same k);
  }

  pub slices_from : (event : Event) → slice_get history j ≡ Some event → SlicesAt history line j → KeepsSlices history line j event
  slices_from (Answer client read from entries tail) here h = h.answer client read from entries tail here
  slices_from (Seen client from ids) here h = h.seen client from ids here
  slices_from (Invoke id bytes) here h = tt
  slices_from (Acked id) here h = tt
  slices_from (Rejected id place) here h = tt
  slices_from (Begin client read ask) here h = tt
  slices_from (TrimAsk client read floor) here h = tt
  slices_from (TrimDone client read floor) here h = tt
  slices_from (Trimmed client read floor) here h = tt

pub slices_beyond : (history : List Event) (line : List Entry) (i : ℕ) → length history ≤ i → SlicesAt history line i
slices_beyond history line i ge = let e : slice_get history i ≡ None = slice_get_past history i ge in (dec_slices_at history line i).decides.0 (rw e refl)

pub slices_past : (history : List Event) (line : List Entry) (n : ℕ) → length history ≤ n → ((k : ℕ) → k < n → SlicesAt history line k) → (i : ℕ) → SlicesAt history line i
slices_past history line n ge f i = elim (cases_lt i n) [ inl lt ↦ f i lt | inr past ↦ slices_beyond history line i (omega arith) ]
