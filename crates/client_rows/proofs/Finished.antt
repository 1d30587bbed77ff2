-- An append that ended stands in all that may go on with the line.
use Rattle.std.proofs.Common.{◌≡◌, ℕ, zero, suc, ◌<◌, ◌≤◌, List, [], ◌∷◌, Some, slice_get, inl, inr, refl, sym, subst, arith}
use Rattle.std.specs.Prelude.{take}
use Rattle.std.proofs.lemmas.Bool.{cases_lt}
use Rattle.list_facts.specs.Lists.{In}
use Rattle.list_facts.proofs.Members.{in_left}
use Rattle.rec_id.specs.Identity.{Identity}
use Rattle.view_config.specs.Shape.{Dimensions}
use Rattle.lazy_rules.specs.ControlState.{Flushing, Taken}
use Rattle.lazy_rules.specs.Ids.{ids_of}
use Rattle.log_facts.specs.Agreed.{Agreed}
use Rattle.log_facts.specs.Ghosts.{Ghost, IsStarted}
use Rattle.log_facts.specs.Parts.{Parts}
use Rattle.log_facts.specs.Says.{AckSays}
use Rattle.log_facts.specs.facts.OfViews.{PhaseFacts}
use Rattle.log_facts.proofs.telling.Told.{StandsEverywhere}

-- a longer front has what a shorter one has
pub in_longer : {A : Type 0} (m n : ℕ) (xs : List A) (x : A) → m ≤ n → In x (take m xs) → In x (take n xs)
in_longer zero n xs x le i = absurd i
in_longer (suc m) n [] x le i = absurd i
in_longer (suc m) zero (y ∷ xs) x le i = absurd (omega arith)
in_longer (suc m) (suc n) (y ∷ xs) x le (inl e) = inl e
in_longer (suc m) (suc n) (y ∷ xs) x le (inr i) = inr (in_longer m n xs x (omega arith) i)

pub in_whole : {A : Type 0} (n : ℕ) (xs : List A) (x : A) → In x (take n xs) → In x xs
in_whole zero xs x i = absurd i
in_whole (suc n) [] x i = absurd i
in_whole (suc n) (y ∷ xs) x (inl e) = inl e
in_whole (suc n) (y ∷ xs) x (inr i) = inr (in_whole n xs x i)

-- what stands at a place stands in the front behind it
pub in_front : {A : Type 0} (n : ℕ) (xs : List A) (place : ℕ) (x : A) → place < n → slice_get xs place ≡ Some x → In x (take n xs)
in_front zero xs place x below at = absurd (omega arith)
in_front (suc n) [] place x below at = cc
in_front (suc n) (y ∷ xs) zero x below at = let same : y ≡ x = cc in inl same
in_front (suc n) (y ∷ xs) (suc place) x below at = inr (in_front n xs place x (omega arith) at)

module _ (shape : Dimensions) (g : Ghost) (a : Parts) (agreed : Agreed shape g a) where
  -- a started view is no later than the latest one
  pub started_known : (view : ℕ) → IsStarted g.views view → view ≤ g.views.lv
  started_known view started = elim (cases_lt g.views.lv view) [
    | inl later ↦ let last : g.views.sv view ≡ g.views.lv = agreed.views.started.last view (omega arith) in let is = started.is in absurd (omega arith)
    | inr known ↦ known
  ]

  pub latest_started : IsStarted g.views g.views.lv
  latest_started = record { some = agreed.views.started.some; is = agreed.views.started.last g.views.lv (omega arith) }

  -- while the taken state is there, the current view isn't started
  unstarted : (taken : Taken) → a.control.phase ≡ Flushing taken → g.views.lv < g.views.cur
  unstarted taken is = (subst (PhaseFacts g.views) is agreed.views.control.phase).unstarted

  -- what stands in the line, and below what all that go on with it know to be bound, stands everywhere
  pub stands_below :
      (id : Identity) (n : ℕ) → In id (take n g.log.line) →
      ((node : ℕ) → (a.seqs node).view ≡ g.views.cur → n ≤ (a.seqs node).bound) →
      (g.views.lv ≡ g.views.cur → (node : ℕ) → In node (g.views.cf g.views.cur).seq → (a.seqs node).view < g.views.cur → n ≤ g.views.bs g.views.lv) → StandsEverywhere g.views g.log a.control.phase a.seqs id
  stands_below id n i members based = record {
    members = λ node now. in_left id (take (a.seqs node).bound g.log.line) (ids_of (a.seqs node).pending) (in_longer n (a.seqs node).bound g.log.line id (members node now) i);
    base = λ live node member absent. in_longer n (g.views.bs g.views.lv) g.log.line id (based live node member absent) i;
    taken = λ taken is. subst (In id) (sym (agreed.line.taken taken is).line) (in_whole n g.log.line id i);
  }

  -- what all members of a started view acknowledged stands everywhere
  module _ (id : Identity) (view : ℕ) (started : IsStarted g.views view) (all : (node : ℕ) → In node (g.views.cf view).seq → AckSays g.views g.log.line (a.seqs node) node view id) where
    -- of a closed view, since it is in what was flushed then
    closed_stands : view < g.views.cur → StandsEverywhere g.views g.log a.control.phase a.seqs id
    closed_stands below = stands_below id (g.views.le view) flushed members (λ live node member absent. based live)
      where
        closer : In (g.views.cx view) (g.views.cf view).seq
        closer = subst (λ (w : ℕ). In (g.views.cx view) (g.views.cf w).seq) started.is (agreed.among_seqs.closers view started.some below).member

        flushed : In id (take (g.views.le view) g.log.line)
        flushed = (all (g.views.cx view) closer).closed below refl

        members : (node : ℕ) → (a.seqs node).view ≡ g.views.cur → g.views.le view ≤ (a.seqs node).bound
        members node now =
            let some : 1 ≤ (a.seqs node).view = omega (arith, started.some) in
            let least : g.views.le view ≤ g.views.bs (a.seqs node).view = agreed.views.bounds.based view (a.seqs node).view (omega arith) ((agreed.seqs node).joined some).started in
            let based = (agreed.seqs node).based in
            omega arith

        based : g.views.lv ≡ g.views.cur → g.views.le view ≤ g.views.bs g.views.lv
        based live = agreed.views.bounds.based view g.views.lv (omega arith) latest_started

    live_stands : view ≡ g.views.cur → StandsEverywhere g.views g.log a.control.phase a.seqs id
    live_stands now = record {
      members = λ node same.
          let some : 1 ≤ (a.seqs node).view = omega (arith, started.some) in
          let viewed : (a.seqs node).view ≡ view = omega arith in
          let member : In node (g.views.cf view).seq = subst (λ (w : ℕ). In node (g.views.cf w).seq) viewed ((agreed.seqs node).joined some).member in
          (all node member).live now;
      base = λ live node member absent.
          let own = (all node (subst (λ (w : ℕ). In node (g.views.cf w).seq) (sym now) member)).own in
          absurd (omega arith);
      taken = λ taken is. let after = unstarted taken is in let known = started_known view started in absurd (omega arith);
    }

    pub acknowledged_stands : StandsEverywhere g.views g.log a.control.phase a.seqs id
    acknowledged_stands = elim (cases_lt view g.views.cur) [
      | inl below ↦ closed_stands below
      | inr least ↦ let known = started_known view started in let latest = agreed.views.started.latest in live_stands (omega arith)
    ]

  -- what stands below what is bound for good stands everywhere
  pub bound_stands : (id : Identity) (place : ℕ) → place < g.log.low → slice_get g.log.line place ≡ Some id → StandsEverywhere g.views g.log a.control.phase a.seqs id
  bound_stands id place below at = stands_below id g.log.low (in_front g.log.low g.log.line place id below at)
      (λ node now. (agreed.line.members node now).least)
      (λ live node member absent. let low = ((agreed.line.live live).absent node member absent).low in omega arith)
