-- Deciding equality of the plain data, and what an entry or an event is.
use Rattle.std.proofs.Common.{◌≡◌, ◌≢◌, ℕ, Bool, true, false, Option, Some, None, List, [], ◌∷◌, refl, sym, ◌∙◌, ap, subst}
use Rattle.std.specs.Prelude.{option_and_then}
use Rattle.law_cases.proofs.Decide.{Dec, dec_yes, dec_no, dec_like, dec_and, dec_nat, dec_if_some}
use Rattle.rec_id.specs.Identity.{Identity}
use Rattle.rec_id.specs.History.{Read}
use Rattle.rec_id.specs.declared.entry.Entry.{Entry}
use Rattle.rec_id.specs.declared.entry.Entry.TheVariants.{Kept, Noop, Gone}
use Rattle.rec_id.specs.declared.event.Event.{Event}
use Rattle.rec_id.specs.declared.event.Event.TheVariants.{Invoke, Acked, Rejected, Answer, Seen, TrimDone, Trimmed}

pub id_same : (a b : Identity) → a.client ≡ b.client → a.number ≡ b.number → a ≡ b
id_same a b p q = ap (λ (c : ℕ). let x : Identity = record { client = c; number = a.number } in x) p ∙ ap (λ (n : ℕ). let x : Identity = record { client = b.client; number = n } in x) q

abbrev pub dec_id : (a b : Identity) → Dec (a ≡ b)
dec_id a b = dec_like (λ h. id_same a b h.0 h.1) (λ e. (ap (λ (x : Identity). x.client) e, ap (λ (x : Identity). x.number) e)) (dec_and (dec_nat a.client b.client) (dec_nat a.number b.number))

pub read_same : (a b : Read) → a.client ≡ b.client → a.number ≡ b.number → a ≡ b
read_same a b p q = ap (λ (c : ℕ). let x : Read = record { client = c; number = a.number } in x) p ∙ ap (λ (n : ℕ). let x : Read = record { client = b.client; number = n } in x) q

abbrev pub dec_read : (a b : Read) → Dec (a ≡ b)
dec_read a b = dec_like (λ h. read_same a b h.0 h.1) (λ e. (ap (λ (x : Read). x.client) e, ap (λ (x : Read). x.number) e)) (dec_and (dec_nat a.client b.client) (dec_nat a.number b.number))

pub trim_same : (a b : Read × ℕ) → a.0 ≡ b.0 → a.1 ≡ b.1 → a ≡ b
trim_same a b p q = ap (λ (r : Read). let x : Read × ℕ = (r, a.1) in x) p ∙ ap (λ (n : ℕ). let x : Read × ℕ = (b.0, n) in x) q

abbrev pub dec_trim : (a b : Read × ℕ) → Dec (a ≡ b)
dec_trim a b = dec_like (λ h. trim_same a b h.0 h.1) (λ e. (ap (λ (x : Read × ℕ). x.0) e, ap (λ (x : Read × ℕ). x.1) e)) (dec_and (dec_read a.0 b.0) (dec_nat a.1 b.1))

pub cons_same : (x y : ℕ) (xs ys : List ℕ) → x ≡ y → xs ≡ ys → x ∷ xs ≡ y ∷ ys
cons_same x y xs ys p q = cc

pub cons_parts : (x y : ℕ) (xs ys : List ℕ) → x ∷ xs ≡ y ∷ ys → (x ≡ y) × (xs ≡ ys)
cons_parts x y xs ys e = (cc, cc)

pub nil_apart : (y : ℕ) (ys : List ℕ) → [] ≢ y ∷ ys
nil_apart y ys e = cc

abbrev pub dec_bytes : (xs ys : List ℕ) → Dec (xs ≡ ys)
dec_bytes [] [] = dec_yes refl
dec_bytes [] (y ∷ ys) = dec_no (nil_apart y ys)
dec_bytes (x ∷ xs) [] = dec_no (λ e. nil_apart x xs (sym e))
dec_bytes (x ∷ xs) (y ∷ ys) = dec_like (λ h. cons_same x y xs ys h.0 h.1) (cons_parts x y xs ys) (dec_and (dec_nat x y) (dec_bytes xs ys))

pub kept_same : (a b : Identity) (xs ys : List ℕ) → a ≡ b → xs ≡ ys → Kept a xs ≡ Kept b ys
kept_same a b xs ys p q = cc

pub kept_parts : (a b : Identity) (xs ys : List ℕ) → Kept a xs ≡ Kept b ys → (a ≡ b) × (xs ≡ ys)
kept_parts a b xs ys e = (cc, cc)

pub noop_parts : (a b : Identity) → Noop a ≡ Noop b → a ≡ b
noop_parts a b e = cc

pub gone_parts : (a b : Identity) → Gone a ≡ Gone b → a ≡ b
gone_parts a b e = cc

abbrev pub same_kind : Entry → Entry → Bool
same_kind (Kept a xs) (Kept b ys) = true
same_kind (Noop a) (Noop b) = true
same_kind (Gone a) (Gone b) = true
same_kind _ _ = false

same_kind_refl : (e : Entry) → same_kind e e ≡ true
same_kind_refl (Kept a xs) = refl
same_kind_refl (Noop a) = refl
same_kind_refl (Gone a) = refl

pub kinds_apart : (e f : Entry) → same_kind e f ≡ false → e ≢ f
kinds_apart e f h g = let t : same_kind e f ≡ true = subst (λ (x : Entry). same_kind e x ≡ true) g (same_kind_refl e) in cc

abbrev pub dec_entry : (x y : Entry) → Dec (x ≡ y)
dec_entry (Kept a xs) (Kept b ys) = dec_like (λ h. kept_same a b xs ys h.0 h.1) (kept_parts a b xs ys) (dec_and (dec_id a b) (dec_bytes xs ys))
dec_entry (Noop a) (Noop b) = dec_like (λ e. ap Noop e) (noop_parts a b) (dec_id a b)
dec_entry (Gone a) (Gone b) = dec_like (λ e. ap Gone e) (gone_parts a b) (dec_id a b)
dec_entry e f = dec_no (kinds_apart e f refl)

-- a fact for what an option is, where it is of a form

pub from_told : {E A : Type 0} (o : Option E) (c : A → E) (f : E → Option A) → ((e : E) (x : A) → f e ≡ Some x → e ≡ c x) → (x : A) → option_and_then f o ≡ Some x → o ≡ Some (c x)
from_told None c f is x h = cc
from_told (Some e) c f is x h = ap Some (is e x h)

abbrev pub dec_if_is : {E A : Type 0} (o : Option E) (c : A → E) (f : E → Option A) (P : A → Type 0) → ((e : E) (x : A) → f e ≡ Some x → e ≡ c x) → ((x : A) → f (c x) ≡ Some x) → ((x : A) → Dec (P x)) → Dec ((x : A) → o ≡ Some (c x) → P x)
dec_if_is o c f P is back d =
    dec_like (λ h x e. h x (ap (option_and_then f) e ∙ back x)) (λ g x e. g x (from_told o c f is x e)) (dec_if_some (option_and_then f o) P d)

-- the forms

abbrev pub kept_of : Entry → Option (Identity × List ℕ)
kept_of (Kept id bytes) = Some (id, bytes)
kept_of _ = None

pub kept_is : (e : Entry) (x : Identity × List ℕ) → kept_of e ≡ Some x → e ≡ Kept x.0 x.1
kept_is (Kept id bytes) x h = let p : (id, bytes) ≡ x = cc in ap (λ (y : Identity × List ℕ). Kept y.0 y.1) p
kept_is _ x h = cc

abbrev pub noop_of : Entry → Option Identity
noop_of (Noop id) = Some id
noop_of _ = None

pub noop_is : (e : Entry) (x : Identity) → noop_of e ≡ Some x → e ≡ Noop x
noop_is (Noop id) x h = cc
noop_is _ x h = cc

abbrev pub gone_of : Entry → Option Identity
gone_of (Gone id) = Some id
gone_of _ = None

pub gone_is : (e : Entry) (x : Identity) → gone_of e ≡ Some x → e ≡ Gone x
gone_is (Gone id) x h = cc
gone_is _ x h = cc

abbrev pub invoke_of : Event → Option (Identity × List ℕ)
invoke_of (Invoke id bytes) = Some (id, bytes)
invoke_of _ = None

abbrev pub acked_of : Event → Option Identity
acked_of (Acked id) = Some id
acked_of _ = None

pub acked_is : (e : Event) (x : Identity) → acked_of e ≡ Some x → e ≡ Acked x
acked_is (Acked id) x h = cc
acked_is _ x h = cc

abbrev pub rejected_of : Event → Option (Identity × ℕ)
rejected_of (Rejected id place) = Some (id, place)
rejected_of _ = None

pub rejected_is : (e : Event) (x : Identity × ℕ) → rejected_of e ≡ Some x → e ≡ Rejected x.0 x.1
rejected_is (Rejected id place) x h = let p : (id, place) ≡ x = cc in ap (λ (y : Identity × ℕ). Rejected y.0 y.1) p
rejected_is _ x h = cc

pub record Answered : Type 0 where
  pub client : ℕ
  pub read : ℕ
  pub from : ℕ
  pub entries : List Entry
  pub tail : Option ℕ

abbrev pub answer_of : Event → Option Answered
answer_of (Answer client read from entries tail) = Some (record { client = client; read = read; from = from; entries = entries; tail = tail })
answer_of _ = None

pub answer_is : (e : Event) (x : Answered) → answer_of e ≡ Some x → e ≡ Answer x.client x.read x.from x.entries x.tail
answer_is (Answer client read from entries tail) x h =
    let p : record { client = client; read = read; from = from; entries = entries; tail = tail } ≡ x = cc in
    ap (λ (y : Answered). Answer y.client y.read y.from y.entries y.tail) p
answer_is _ x h = cc

pub record Shown : Type 0 where
  pub client : ℕ
  pub from : ℕ
  pub ids : List Identity

abbrev pub seen_of : Event → Option Shown
seen_of (Seen client from ids) = Some (record { client = client; from = from; ids = ids })
seen_of _ = None

pub seen_is : (e : Event) (x : Shown) → seen_of e ≡ Some x → e ≡ Seen x.client x.from x.ids
seen_is (Seen client from ids) x h =
    let p : record { client = client; from = from; ids = ids } ≡ x = cc in
    ap (λ (y : Shown). Seen y.client y.from y.ids) p
seen_is _ x h = cc

pub record Floored : Type 0 where
  pub client : ℕ
  pub read : ℕ
  pub floor : ℕ

abbrev pub trimmed_of : Event → Option Floored
trimmed_of (Trimmed client read floor) = Some (record { client = client; read = read; floor = floor })
trimmed_of _ = None

pub trimmed_is : (e : Event) (x : Floored) → trimmed_of e ≡ Some x → e ≡ Trimmed x.client x.read x.floor
trimmed_is (Trimmed client read floor) x h =
    let p : record { client = client; read = read; floor = floor } ≡ x = cc in
    ap (λ (y : Floored). Trimmed y.client y.read y.floor) p
trimmed_is _ x h = cc

abbrev pub trim_done_of : Event → Option Floored
trim_done_of (TrimDone client read floor) = Some (record { client = client; read = read; floor = floor })
trim_done_of _ = None

pub trim_done_is : (e : Event) (x : Floored) → trim_done_of e ≡ Some x → e ≡ TrimDone x.client x.read x.floor
trim_done_is (TrimDone client read floor) x h =
    let p : record { client = client; read = read; floor = floor } ≡ x = cc in
    ap (λ (y : Floored). TrimDone y.client y.read y.floor) p
trim_done_is _ x h = cc
