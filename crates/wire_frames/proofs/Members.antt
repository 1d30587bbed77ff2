-- Reading the members of a list one after the other, as a loop does.
use Rattle.std.proofs.Common.{◌≡◌, ◌≢◌, ℕ, suc, ◌-◌, ◌+◌, ◌<◌, List, [], ◌∷◌, ◌++◌, Ok, Err, refl, sym, ap, ◌∙◌, append_assoc, arith}
use Rattle.wire_frames.specs.declared.offence.FrameError.{FrameError}
use Rattle.wire_frames.specs.declared.offence.FrameError.TheVariants.{Memory}
use Rattle.wire_frames.specs.Readers.{Taken, Reader, done, goes_on, members_at}

-- what was read before, and what is still read
abbrev pub with_front : {A : Type 0} → List A → Taken (List A) → Taken (List A)
with_front front (Ok x) = Ok (front ++ x.0, x.1)
with_front front (Err offence) = Err offence

regroup : {A : Type 0} (front : List A) (first : A) (read : Taken (List A)) → with_front front (goes_on read (λ others. done (first ∷ others))) ≡ with_front (front ++ first ∷ []) read
regroup {A = A} front first (Ok x) = ap (λ (xs : List A). done xs x.1) (sym (append_assoc front (first ∷ []) x.0))
regroup front first (Err offence) = refl

pub one_more : {A : Type 0} (read : Reader A) (front : List A) (count i : ℕ) (bytes : List ℕ) (first : A) (after : List ℕ) (total : Taken (List A)) → i < count → read bytes ≡ Ok (first, after)
    → with_front front (members_at read (count - i) bytes) ≡ total → with_front (front ++ first ∷ []) (members_at read (count - (i + 1)) after) ≡ total
one_more read front count i bytes first after total below is so_far =
    let k : count - i ≡ suc (count - (i + 1)) = omega arith in
    let one : with_front front (members_at read (count - i) bytes) ≡ with_front (front ++ first ∷ []) (members_at read (count - (i + 1)) after) = rw (k, is) (regroup front first (members_at read (count - (i + 1)) after)) in
    sym one ∙ so_far

pub stops : {A : Type 0} (read : Reader A) (front : List A) (count i : ℕ) (bytes : List ℕ) (offence : FrameError) (total : Taken (List A)) → i < count → (offence ≢ Memory → read bytes ≡ Err offence)
    → with_front front (members_at read (count - i) bytes) ≡ total → offence ≢ Memory → total ≡ Err offence
stops read front count i bytes offence total below fails so_far known =
    let k : count - i ≡ suc (count - (i + 1)) = omega arith in
    let one : with_front front (members_at read (count - i) bytes) ≡ Err offence = rw (k, fails known) refl in
    sym so_far ∙ one
