-- Device calls one after the other.
use Rattle.std.proofs.Common.{◌≡◌, ◌⊎◌, inl, inr, ℕ, zero, suc, ◌+◌, Bool, true, false, not, List, [], ◌∷◌, refl, sym, ap, ◌∙◌, subst, Ok, Err}
use Rattle.std.specs.Prelude.{Result, OnOk, OnErr, if◌then◌else◌}
use Rattle.journal_disk.specs.Calls.{Call, Makes, Does, DoesAll, Steps, Reaches}
use Rattle.journal_disk.specs.Drive.{Drive, Driven, drive_of, drive_after, driven, MemMakes}
use Rattle.journal_disk.specs.Meter.{fails_next}
use Rattle.journal_disk.specs.Past.{Memory}

module _ {D : Type 0} (made : D → Call → Bool → D → Type 0) where
  -- the last of the calls
  pub does_last : {A E : Type 0} (old new : D) (call : Call) (outcome : Result A E) → Makes made old call new outcome → DoesAll made (call ∷ []) old new outcome
  does_last old new call (Ok x) makes = record { done = inr (new, makes.done, (refl, refl)); failed = tt }
  does_last old new call (Err e) makes = record { done = tt; failed = inl (refl, makes.failed) }

  -- one call before the others
  pub does_before : {A E : Type 0} (old mid new : D) (call : Call) (calls : List Call) (outcome : Result A E) → made old call true mid → DoesAll made calls mid new outcome → DoesAll made (call ∷ calls) old new outcome
  does_before old mid new call calls (Ok x) first rest = record { done = inr (mid, first, rest.done); failed = tt }
  does_before old mid new call calls (Err e) first rest = record { done = tt; failed = inr (mid, first, rest.failed) }

  -- the first of the calls failed
  pub does_failed : {A E : Type 0} (old new : D) (call : Call) (calls : List Call) (error : E) → made old call false new → DoesAll {A = A} made (call ∷ calls) old new (Err error)
  does_failed old new call calls error first = record { done = tt; failed = inl (refl, first) }

  module _ (alike : D → D → Type 0) where
    pub reach_none : (old : D) → Reaches made alike old old
    reach_none old = record { count = 0; steps = refl }

    pub reach_alike : (old mid new : D) → Reaches made alike old mid → alike mid new → Reaches made alike old new
    reach_alike old mid new so_far same = record { count = suc so_far.count; steps = (mid, so_far.steps, inl same) }

    pub reach_call : {A E : Type 0} (old mid new : D) (call : Call) (outcome : Result A E) → Reaches made alike old mid → Makes made mid call new outcome → Reaches made alike old new
    reach_call old mid new call (Ok x) so_far makes = record { count = suc so_far.count; steps = (mid, so_far.steps, inr (call, true, makes.done)) }
    reach_call old mid new call (Err e) so_far makes = record { count = suc so_far.count; steps = (mid, so_far.steps, inr (call, false, makes.failed)) }

    reach_steps : (n : ℕ) (old mid new : D) → Reaches made alike old mid → Steps made alike n mid new → Reaches made alike old new
    reach_steps zero old mid new so_far steps = subst (Reaches made alike old) (sym steps) so_far
    reach_steps (suc n) old mid new so_far (near, steps, last) =
        let here = reach_steps n old mid near so_far steps in
        record { count = suc here.count; steps = (near, here.steps, last) }

    pub reach_then : (old mid new : D) → Reaches made alike old mid → Reaches made alike mid new → Reaches made alike old new
    reach_then old mid new first second = reach_steps second.count old mid new first second.steps

    reach_does_of : (calls : List Call) (old mid new : D) (ok : Bool) → Reaches made alike old mid → Does made calls mid ok new → Reaches made alike old new
    reach_does_of [] old mid new ok so_far (is, same) = subst (Reaches made alike old) (sym same) so_far
    reach_does_of (call ∷ calls) old mid new ok so_far (inl failed) = record { count = suc so_far.count; steps = (mid, so_far.steps, inr (call, false, failed.1)) }
    reach_does_of (call ∷ calls) old mid new ok so_far (inr (near, first, rest)) =
        reach_does_of calls old near new ok (record { count = suc so_far.count; steps = (mid, so_far.steps, inr (call, true, first)) }) rest

    pub reach_does : {A E : Type 0} (calls : List Call) (old mid new : D) (outcome : Result A E) → Reaches made alike old mid → DoesAll made calls mid new outcome → Reaches made alike old new
    reach_does calls old mid new (Ok x) so_far does = reach_does_of calls old mid new true so_far does.done
    reach_does calls old mid new (Err e) so_far does = reach_does_of calls old mid new false so_far does.failed

-- a disk in memory

driven_on : (drive : Drive) (call : Call) (calls : List Call) → fails_next drive.meter ≡ false → driven drive (call ∷ calls) ≡ driven (drive_after true drive call) calls
driven_on drive call calls is = rw is refl

driven_off : (drive : Drive) (call : Call) (calls : List Call) → fails_next drive.meter ≡ true → driven drive (call ∷ calls) ≡ record { drive = drive_after false drive call; ok = false }
driven_off drive call calls is = rw is refl

pub mem_driven : (calls : List Call) (old new : Memory) (ok : Bool) → Does MemMakes calls old ok new → driven (drive_of old) calls ≡ record { drive = drive_of new; ok = ok }
mem_driven [] old new ok (is, same) = rw (is, same) refl
mem_driven (call ∷ calls) old new ok (inl failed) =
    let made = failed.1 in
    driven_off (drive_of old) call calls made.ok_is ∙ rw (failed.0, made.drive_is) refl
mem_driven (call ∷ calls) old new ok (inr (mid, made, rest)) =
    driven_on (drive_of old) call calls made.ok_is ∙ ap (λ (drive : Drive). driven drive calls) (sym made.drive_is) ∙ mem_driven calls mid new ok rest
