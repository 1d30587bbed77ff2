-- The clauses (a) to (d) of the law are decided by tests.
use Rattle.std.proofs.Common.{◌≡◌, ◌≢◌, ℕ, ◌<◌, Option, Some, None, List, length, slice_get, inl, inr, refl, sym, ◌∙◌, ap}
use Rattle.std.specs.Prelude.{option_and_then, option_map}
use Rattle.std.proofs.lemmas.Bool.{cases_lt}
use Rattle.std.proofs.lemmas.Option.{slice_get_past, slice_get_within}
use Rattle.law_cases.proofs.Decide.{Dec, dec_no, dec_like, dec_not, dec_and, dec_implies, dec_nat, dec_lt, dec_if_some, dec_and_some, dec_told, dec_below, dec_any, dec_each}
use Rattle.law_cases.proofs.Forms.{dec_id, dec_bytes, dec_entry, dec_if_is, kept_of, kept_is, noop_of, noop_is, gone_of, gone_is, invoke_of, acked_of, acked_is, rejected_of, rejected_is}
use Rattle.rec_id.specs.Identity.{Identity}
use Rattle.rec_id.specs.History.{Read, invoked_id, finished_id, asked_trim, told_at, SomeBefore, NoneBefore, OneBefore, IsInvoked, IsInvokedWith}
use Rattle.rec_id.specs.Line.{named_id, appended_id, id_at, IsAppended, StandsBelow}
use Rattle.rec_id.specs.Lawful.{UniqueAt, InvokedAt, IsTrimAsked, FinishedAt, OrderedAt, Unique, Invoked, Finished, Ordered}
use Rattle.rec_id.specs.declared.entry.Entry.{Entry}
use Rattle.rec_id.specs.declared.entry.Entry.TheVariants.{Kept, Noop, Gone}
use Rattle.rec_id.specs.declared.event.Event.{Event}
use Rattle.rec_id.specs.declared.event.Event.TheVariants.{Invoke, Acked, Rejected}

-- past the end nothing is told

pub told_none : {A B : Type 0} (f : A → Option B) (xs : List A) (i : ℕ) (x : B) → slice_get xs i ≡ None → told_at f xs i ≡ Some x → ⊥
told_none f xs i x e h = let g : option_and_then f None ≡ Some x = ap (option_and_then f) (sym e) ∙ h in cc

pub told_within : {A B : Type 0} (f : A → Option B) (xs : List A) (i : ℕ) (x : B) → told_at f xs i ≡ Some x → i < length xs
told_within f xs i x h = elim (cases_lt i (length xs)) [ inl w ↦ w | inr w ↦ absurd (told_none f xs i x (slice_get_past xs i w) h) ]

pub id_none : (line : List Entry) (p : ℕ) (id : Identity) → slice_get line p ≡ None → id_at line p ≡ Some id → ⊥
id_none line p id e h = let g : option_map named_id None ≡ Some id = ap (option_map named_id) (sym e) ∙ h in cc

-- the words

abbrev pub dec_told_at : {A B : Type 0} (f : A → Option B) (xs : List A) (i : ℕ) (x : B) → ((y : B) → Dec (y ≡ x)) → Dec (told_at f xs i ≡ Some x)
dec_told_at f xs i x eq = dec_told (told_at f xs i) x eq

abbrev pub dec_id_at : (line : List Entry) (p : ℕ) (id : Identity) → Dec (id_at line p ≡ Some id)
dec_id_at line p id = dec_told (id_at line p) id (λ y. dec_id y id)

abbrev pub dec_none_before : {B : Type 0} (f : Event → Option B) (history : List Event) (j : ℕ) (x : B) → ((y : B) → Dec (y ≡ x)) → Dec (NoneBefore f history j x)
dec_none_before f history j x eq =
    dec_like (λ h. record { none = h }) (λ h. h.none) (dec_below j (λ i. told_at f history i ≢ Some x) (λ i. dec_not (dec_told_at f history i x eq)))

abbrev pub dec_some_before : {B : Type 0} (f : Event → Option B) (history : List Event) (j : ℕ) (x : B) → ((y : B) → Dec (y ≡ x)) → Dec (SomeBefore f history j x)
dec_some_before f history j x eq =
    dec_like (λ h. record { index = h.0; before = h.1.0; tells = h.1.1 }) (λ h. (h.index, (h.before, h.tells)))
    (dec_any j (λ i. (i < j) × (told_at f history i ≡ Some x)) (λ i h. h.0) (λ i. dec_and (dec_lt i j) (dec_told_at f history i x eq)))

abbrev pub IsOne : {B : Type 0} → (Event → Option B) → List Event → ℕ → B → ℕ → Type 0
IsOne f history j x i = (i < j) × ((told_at f history i ≡ Some x) × ((k : ℕ) → k < j → told_at f history k ≡ Some x → k ≡ i))

abbrev pub dec_is_one : {B : Type 0} (f : Event → Option B) (history : List Event) (j : ℕ) (x : B) (i : ℕ) → ((y : B) → Dec (y ≡ x)) → Dec (IsOne f history j x i)
dec_is_one f history j x i eq =
    dec_and (dec_lt i j) (dec_and (dec_told_at f history i x eq) (dec_below j (λ k. told_at f history k ≡ Some x → k ≡ i) (λ k. dec_implies (dec_told_at f history k x eq) (dec_nat k i))))

abbrev pub dec_one_before : {B : Type 0} (f : Event → Option B) (history : List Event) (j : ℕ) (x : B) → ((y : B) → Dec (y ≡ x)) → Dec (OneBefore f history j x)
dec_one_before f history j x eq =
    dec_like (λ h. record { index = h.0; before = h.1.0; tells = h.1.1.0; only = h.1.1.1 }) (λ h. (h.index, (h.before, (h.tells, h.only))))
    (dec_any j (IsOne f history j x) (λ i h. h.0) (λ i. dec_is_one f history j x i eq))

abbrev pub dec_is_invoked : (history : List Event) (id : Identity) → Dec (IsInvoked history id)
dec_is_invoked history id =
    dec_like (λ h. record { index = h.0; tells = h.1 }) (λ h. (h.index, h.tells))
    (dec_any (length history) (λ i. told_at invoked_id history i ≡ Some id) (λ i h. told_within invoked_id history i id h) (λ i. dec_told_at invoked_id history i id (λ y. dec_id y id)))

pub invoke_to : (a b : Identity) (xs ys : List ℕ) → (a ≡ b) × (xs ≡ ys) → Invoke a xs ≡ Invoke b ys
invoke_to a b xs ys h = let p = h.0 in let q = h.1 in cc

pub invoke_from : (a b : Identity) (xs ys : List ℕ) → Invoke a xs ≡ Invoke b ys → (a ≡ b) × (xs ≡ ys)
invoke_from a b xs ys e = (cc, cc)

pub not_invoke : (event : Event) (id : Identity) (bytes : List ℕ) → invoke_of event ≡ None → event ≢ Invoke id bytes
not_invoke event id bytes h e = let g : invoke_of event ≡ Some (id, bytes) = ap invoke_of e in cc

abbrev pub dec_invoke : (event : Event) (id : Identity) (bytes : List ℕ) → Dec (event ≡ Invoke id bytes)
dec_invoke (Invoke a xs) id bytes = dec_like (invoke_to a id xs bytes) (invoke_from a id xs bytes) (dec_and (dec_id a id) (dec_bytes xs bytes))
dec_invoke event id bytes = dec_no (not_invoke event id bytes refl)

abbrev pub dec_is_invoked_with : (history : List Event) (id : Identity) (bytes : List ℕ) → Dec (IsInvokedWith history id bytes)
dec_is_invoked_with history id bytes =
    dec_like (λ h. record { index = h.0; stands = h.1 }) (λ h. (h.index, h.stands))
    (dec_any (length history) (λ i. slice_get history i ≡ Some (Invoke id bytes)) (λ i h. slice_get_within history i (Invoke id bytes) h) (λ i. dec_told (slice_get history i) (Invoke id bytes) (λ y. dec_invoke y id bytes)))

abbrev pub dec_is_appended : (line : List Entry) (id : Identity) → Dec (IsAppended line id)
dec_is_appended line id =
    dec_like (λ h. record { place = h.0; tells = h.1 }) (λ h. (h.place, h.tells))
    (dec_any (length line) (λ p. told_at appended_id line p ≡ Some id) (λ p h. told_within appended_id line p id h) (λ p. dec_told_at appended_id line p id (λ y. dec_id y id)))

abbrev pub dec_stands_below : (line : List Entry) (id : Identity) (limit : ℕ) → Dec (StandsBelow line id limit)
dec_stands_below line id limit =
    dec_like (λ h. record { place = h.0; below = h.1.0; names = h.1.1 }) (λ h. (h.place, (h.below, h.names)))
    (dec_any limit (λ p. (p < limit) × (id_at line p ≡ Some id)) (λ p h. h.0) (λ p. dec_and (dec_lt p limit) (dec_id_at line p id)))

-- (a)

abbrev pub dec_unique_at : (line : List Entry) (p q : ℕ) → Dec (UniqueAt line p q)
dec_unique_at line p q =
    dec_like (λ h. record { differ = λ id lt e. h id e lt }) (λ h id e lt. h.differ id lt e)
    (dec_if_some (id_at line p) (λ id. p < q → id_at line q ≢ Some id) (λ id. dec_implies (dec_lt p q) (dec_not (dec_id_at line q id))))

abbrev pub dec_unique_row : (line : List Entry) (p : ℕ) → Dec ((q : ℕ) → UniqueAt line p q)
dec_unique_row line p = dec_each line (UniqueAt line p) (λ q e. record { differ = λ id lt h g. id_none line q id e g }) (dec_unique_at line p)

abbrev pub dec_unique : (line : List Entry) → Dec (Unique line)
dec_unique line = dec_each line (λ p. (q : ℕ) → UniqueAt line p q) (λ p e q. record { differ = λ id lt h g. id_none line p id e h }) (dec_unique_row line)

-- (b)

abbrev pub dec_is_trim_asked : (history : List Event) (place : ℕ) → Dec (IsTrimAsked history place)
dec_is_trim_asked history place =
    dec_like (λ h. record { index = h.0; trim = h.1.0.0; floor = h.1.0.1; asks = h.1.1; above = h.1.2 }) (λ h. (h.index, ((h.trim, h.floor), h.asks, h.above)))
    (dec_any (length history) (λ i. (x : Read × ℕ) × (told_at asked_trim history i ≡ Some x) × (place < x.1)) (λ i h. told_within asked_trim history i h.0 h.1)
    (λ i. dec_and_some (told_at asked_trim history i) (λ (x : Read × ℕ). place < x.1) (λ x. dec_lt place x.1)))

abbrev pub dec_invoked_at : (history : List Event) (line : List Entry) (p : ℕ) → Dec (InvokedAt history line p)
dec_invoked_at history line p =
    dec_like (λ h. record { kept = λ id bytes e. h.0 (id, bytes) e; noop = h.1.0; gone = h.1.1.0; trimmed = h.1.1.1 }) (λ h. (λ x e. h.kept x.0 x.1 e, (h.noop, (h.gone, h.trimmed))))
    (dec_and (dec_if_is (slice_get line p) (λ (x : Identity × List ℕ). Kept x.0 x.1) kept_of (λ x. IsInvokedWith history x.0 x.1) kept_is (λ x. refl) (λ x. dec_is_invoked_with history x.0 x.1))
    (dec_and (dec_if_is (slice_get line p) Noop noop_of (λ id. IsInvoked history id) noop_is (λ x. refl) (λ id. dec_is_invoked history id))
    (dec_and (dec_if_is (slice_get line p) Gone gone_of (λ id. IsInvoked history id) gone_is (λ x. refl) (λ id. dec_is_invoked history id))
    (dec_if_is (slice_get line p) Gone gone_of (λ id. IsTrimAsked history p) gone_is (λ x. refl) (λ id. dec_is_trim_asked history p)))))

abbrev pub dec_invoked : (history : List Event) (line : List Entry) → Dec (Invoked history line)
dec_invoked history line = dec_each line (InvokedAt history line) (λ p e. (dec_invoked_at history line p).decides.0 (rw e refl)) (dec_invoked_at history line)

-- (c)

abbrev pub dec_finished_at : (history : List Event) (line : List Entry) (j : ℕ) → Dec (FinishedAt history line j)
dec_finished_at history line j =
    dec_like (λ h. record { invoked_once = h.0; invoked_before = h.1.0; finished_once = h.1.1.0; acked = h.1.1.1.0; rejected = λ id place e. h.1.1.1.1 (id, place) e })
    (λ h. (h.invoked_once, (h.invoked_before, (h.finished_once, (h.acked, λ x e. h.rejected x.0 x.1 e)))))
    (dec_and (dec_if_some (told_at invoked_id history j) (λ id. NoneBefore invoked_id history j id) (λ id. dec_none_before invoked_id history j id (λ y. dec_id y id)))
    (dec_and (dec_if_some (told_at finished_id history j) (λ id. SomeBefore invoked_id history j id) (λ id. dec_some_before invoked_id history j id (λ y. dec_id y id)))
    (dec_and (dec_if_some (told_at finished_id history j) (λ id. NoneBefore finished_id history j id) (λ id. dec_none_before finished_id history j id (λ y. dec_id y id)))
    (dec_and (dec_if_is (slice_get history j) Acked acked_of (λ id. IsAppended line id) acked_is (λ x. refl) (λ id. dec_is_appended line id))
    (dec_if_is (slice_get history j) (λ (x : Identity × ℕ). Rejected x.0 x.1) rejected_of (λ x. slice_get line x.1 ≡ Some (Noop x.0)) rejected_is (λ x. refl) (λ x. dec_told (slice_get line x.1) (Noop x.0) (λ y. dec_entry y (Noop x.0))))))))

abbrev pub dec_finished : (history : List Event) (line : List Entry) → Dec (Finished history line)
dec_finished history line = dec_each history (FinishedAt history line) (λ j e. (dec_finished_at history line j).decides.0 (rw e refl)) (dec_finished_at history line)

-- (d)

abbrev pub dec_ordered_at : (history : List Event) (line : List Entry) (i j : ℕ) → Dec (OrderedAt history line i j)
dec_ordered_at history line i j =
    dec_like (λ h. record { in_front = λ a b place lt f g n. h a f b g lt place n }) (λ h a f b g lt place n. h.in_front a b place lt f g n)
    (dec_if_some (told_at finished_id history i) (λ a. (b : Identity) → told_at invoked_id history j ≡ Some b → i < j → (place : ℕ) → id_at line place ≡ Some b → StandsBelow line a place) (λ a.
    dec_if_some (told_at invoked_id history j) (λ b. i < j → (place : ℕ) → id_at line place ≡ Some b → StandsBelow line a place) (λ b.
    dec_implies (dec_lt i j) (dec_each line (λ place. id_at line place ≡ Some b → StandsBelow line a place) (λ place e n. absurd (id_none line place b e n)) (λ place.
    dec_implies (dec_id_at line place b) (dec_stands_below line a place))))))

abbrev pub dec_ordered_row : (history : List Event) (line : List Entry) (i : ℕ) → Dec ((j : ℕ) → OrderedAt history line i j)
dec_ordered_row history line i = dec_each history (OrderedAt history line i) (λ j e. record { in_front = λ a b place lt f g n. absurd (told_none invoked_id history j b e g) }) (dec_ordered_at history line i)

abbrev pub dec_ordered : (history : List Event) (line : List Entry) → Dec (Ordered history line)
dec_ordered history line = dec_each history (λ i. (j : ℕ) → OrderedAt history line i j) (λ i e j. record { in_front = λ a b place lt f g n. absurd (told_none finished_id history i a e f) }) (dec_ordered_row history line)
