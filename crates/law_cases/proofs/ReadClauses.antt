-- The clauses (e) to (i) of the law are decided by tests.
use Rattle.std.proofs.Common.{◌≡◌, ℕ, ◌+◌, ◌-◌, ◌<◌, ◌≤◌, min, IsTrue, IsSome, is_some, Option, Some, None, List, length, slice_get, refl, ◌∙◌, ap, subst}
use Rattle.std.specs.Prelude.{option_and_then}
use Rattle.law_cases.proofs.Decide.{Dec, dec_yes, dec_no, dec_like, dec_and, dec_implies, dec_nat, dec_lt, dec_le, dec_if_some, dec_and_some, dec_any, dec_each, dec_true, absent, not_absent}
use Rattle.law_cases.proofs.Forms.{dec_id, dec_read, dec_trim, dec_entry, dec_if_is, kept_of, Answered, answer_of, answer_is, Shown, seen_of, seen_is, Floored, trimmed_of, trimmed_is, trim_done_of, trim_done_is}
use Rattle.rec_id.specs.Identity.{Identity}
use Rattle.rec_id.specs.History.{Read, invoked_id, finished_id, begun_read, ended_read, forced_tail, asked_trim, done_trim, shown_reach, told_reach, asked_from, asked_to, is_tail, told_at, NoneBefore, OneBefore, IsInvokedWith}
use Rattle.rec_id.specs.Line.{id_at, StandsBelow, IsToldOf, IsToldAt}
use Rattle.rec_id.specs.Lawful.{EndsRead, IsSlice, SlicesAt, CoveredAt, TailsNeverFallAt, BehindReadAt, IsTrimAskedBefore, IsTrimmedRead, TrimsAt, Slices, Covered, TailsNeverFall, BehindRead, Trims}
use Rattle.rec_id.specs.declared.entry.Entry.{Entry}
use Rattle.rec_id.specs.declared.entry.Entry.TheVariants.{Kept, Noop, Gone}
use Rattle.rec_id.specs.declared.event.Ask.{Ask}
use Rattle.rec_id.specs.declared.event.Event.{Event}
use Rattle.rec_id.specs.declared.event.Event.TheVariants.{Begin, Answer, Seen, TrimDone, Trimmed}
use Rattle.law_cases.proofs.Clauses.{told_none, id_none, dec_id_at, dec_none_before, IsOne, dec_is_one, dec_one_before, dec_is_invoked_with, dec_stands_below}

-- a read that ends

abbrev pub BeginsWith : Option Event → Read → (Ask → Type 0) → Type 0
BeginsWith o read R = (ask : Ask) × (o ≡ Some (Begin read.client read.number ask)) × R ask

pub begins_to : (client number : ℕ) (ask : Ask) (read : Read) (R : Ask → Type 0) → (client ≡ read.client) × ((number ≡ read.number) × R ask) → BeginsWith (Some (Begin client number ask)) read R
begins_to client number ask read R h = let p = h.0 in let q = h.1.0 in (ask, cc, h.1.1)

pub begins_from : (client number : ℕ) (ask : Ask) (read : Read) (R : Ask → Type 0) → BeginsWith (Some (Begin client number ask)) read R → (client ≡ read.client) × ((number ≡ read.number) × R ask)
begins_from client number ask read R h =
    let e = h.1 in
    let same : h.0 ≡ ask = cc in
    (cc, (cc, subst R same h.2))

pub no_begin : (o : Option Event) (read : Read) (R : Ask → Type 0) → option_and_then begun_read o ≡ None → ¬ BeginsWith o read R
no_begin o read R h k = let g : option_and_then begun_read o ≡ Some read = ap (option_and_then begun_read) k.1 in cc

abbrev pub dec_begins : (o : Option Event) (read : Read) (R : Ask → Type 0) → ((ask : Ask) → Dec (R ask)) → Dec (BeginsWith o read R)
dec_begins (Some (Begin client number ask)) read R d = dec_like (begins_to client number ask read R) (begins_from client number ask read R) (dec_and (dec_nat client read.client) (dec_and (dec_nat number read.number) (d ask)))
dec_begins o read R d = dec_no (no_begin o read R refl)

abbrev pub EndsAt : List Event → ℕ → Read → (Ask → Type 0) → ℕ → Type 0
EndsAt history j read R i = IsOne begun_read history j read i × (NoneBefore ended_read history j read × BeginsWith (slice_get history i) read R)

-- a read ends, and its ask meets a fact
abbrev pub dec_ends : (history : List Event) (j : ℕ) (read : Read) (R : Ask → Type 0) → ((ask : Ask) → Dec (R ask)) → Dec ((e : EndsRead history j read) × R e.ask)
dec_ends history j read R d =
    dec_like
    (λ h. (record { begun = record { index = h.0; before = h.1.0.0; tells = h.1.0.1.0; only = h.1.0.1.1 }; ask = h.1.1.1.0; asks = h.1.1.1.1; not_ended = h.1.1.0 }, h.1.1.1.2))
    (λ h. let e = h.0 in (e.begun.index, ((e.begun.before, (e.begun.tells, e.begun.only)), (e.not_ended, (e.ask, e.asks, h.1)))))
    (dec_any j (EndsAt history j read R) (λ i h. h.0.0) (λ i.
    dec_and (dec_is_one begun_read history j read i (λ y. dec_read y read))
    (dec_and (dec_none_before ended_read history j read (λ y. dec_read y read)) (dec_begins (slice_get history i) read R d))))

-- (e)

pub gone_to : (history : List Event) (id other : Identity) (xs : List ℕ) → (other ≡ id) × IsInvokedWith history id xs → IsToldOf history (Gone id) (Kept other xs)
gone_to history id other xs h = let p = h.0 in (xs, cc, h.1)

pub gone_from : (history : List Event) (id other : Identity) (xs : List ℕ) → IsToldOf history (Gone id) (Kept other xs) → (other ≡ id) × IsInvokedWith history id xs
gone_from history id other xs h =
    let e = h.1 in
    let same : h.0 ≡ xs = cc in
    (cc, subst (λ (bytes : List ℕ). IsInvokedWith history id bytes) same h.2)

pub not_gone_told : (history : List Event) (id : Identity) (told : Entry) → kept_of told ≡ None → ¬ IsToldOf history (Gone id) told
not_gone_told history id told h k = let g : kept_of told ≡ Some (id, k.0) = ap kept_of k.1 in cc

abbrev pub dec_is_told_of : (history : List Event) (entry told : Entry) → Dec (IsToldOf history entry told)
dec_is_told_of history (Kept id bytes) told = dec_entry told (Kept id bytes)
dec_is_told_of history (Noop id) told = dec_entry told (Noop id)
dec_is_told_of history (Gone id) (Kept other xs) = dec_like (gone_to history id other xs) (gone_from history id other xs) (dec_and (dec_id other id) (dec_is_invoked_with history id xs))
dec_is_told_of history (Gone id) told = dec_no (not_gone_told history id told refl)

abbrev pub dec_is_told_at : (history : List Event) (line : List Entry) (place : ℕ) (told : Entry) → Dec (IsToldAt history line place told)
dec_is_told_at history line place told =
    dec_like (λ h. record { entry = h.0; stands = h.1; is_told = h.2 }) (λ h. (h.entry, h.stands, h.is_told))
    (dec_and_some (slice_get line place) (λ entry. IsToldOf history entry told) (λ entry. dec_is_told_of history entry told))

-- what an Answer has, by its read's ask
abbrev pub Has : List Event → List Entry → ℕ → List Entry → Option ℕ → Ask → Type 0
Has history line from entries tail ask =
    (asked_from ask ≡ from) × ((IsTrue (is_tail ask) → IsSome tail) × (((t : ℕ) → tail ≡ Some t → length entries ≡ min (asked_to ask) t - from) × (((t : ℕ) → tail ≡ Some t → t ≤ length line) × ((tail ≡ None → from + length entries ≡ asked_to ask) × ((k : ℕ) (entry : Entry) → slice_get entries k ≡ Some entry → IsToldAt history line (from + k) entry)))))

abbrev pub dec_is_none : (o : Option ℕ) → Dec (o ≡ None)
dec_is_none None = dec_yes refl
dec_is_none (Some t) = dec_no (not_absent t)

abbrev pub dec_has : (history : List Event) (line : List Entry) (from : ℕ) (entries : List Entry) (tail : Option ℕ) (ask : Ask) → Dec (Has history line from entries tail ask)
dec_has history line from entries tail ask =
    dec_and (dec_nat (asked_from ask) from)
    (dec_and (dec_implies (dec_true (is_tail ask)) (dec_true (is_some tail)))
    (dec_and (dec_if_some tail (λ t. length entries ≡ min (asked_to ask) t - from) (λ t. dec_nat (length entries) (min (asked_to ask) t - from)))
    (dec_and (dec_if_some tail (λ t. t ≤ length line) (λ t. dec_le t (length line)))
    (dec_and (dec_implies (dec_is_none tail) (dec_nat (from + length entries) (asked_to ask)))
    (dec_each entries (λ k. (entry : Entry) → slice_get entries k ≡ Some entry → IsToldAt history line (from + k) entry) (λ k e entry h. absurd (absent (slice_get entries k) entry e h))
    (λ k. dec_if_some (slice_get entries k) (λ entry. IsToldAt history line (from + k) entry) (λ entry. dec_is_told_at history line (from + k) entry)))))))

abbrev pub dec_is_slice : (history : List Event) (line : List Entry) (j : ℕ) (read : Read) (from : ℕ) (entries : List Entry) (tail : Option ℕ) → Dec (IsSlice history line j read from entries tail)
dec_is_slice history line j read from entries tail =
    dec_like (λ h. record { ends = h.0; asked = h.1.0; forced = h.1.1.0; count = h.1.1.1.0; within = h.1.1.1.1.0; whole = h.1.1.1.1.1.0; told = h.1.1.1.1.1.1 })
    (λ h. (h.ends, (h.asked, (h.forced, (h.count, (h.within, (h.whole, h.told)))))))
    (dec_ends history j read (Has history line from entries tail) (dec_has history line from entries tail))

abbrev pub dec_slices_at : (history : List Event) (line : List Entry) (j : ℕ) → Dec (SlicesAt history line j)
dec_slices_at history line j =
    dec_like (λ h. record { answer = λ client read from entries tail e. h.0 (record { client = client; read = read; from = from; entries = entries; tail = tail }) e; seen = λ client from ids e. h.1 (record { client = client; from = from; ids = ids }) e })
    (λ h. (λ x e. h.answer x.client x.read x.from x.entries x.tail e, λ x e. h.seen x.client x.from x.ids e))
    (dec_and
    (dec_if_is (slice_get history j) (λ (x : Answered). Answer x.client x.read x.from x.entries x.tail) answer_of
    (λ x. IsSlice history line j (record { client = x.client; number = x.read }) x.from x.entries x.tail) answer_is (λ x. refl)
    (λ x. dec_is_slice history line j (record { client = x.client; number = x.read }) x.from x.entries x.tail))
    (dec_if_is (slice_get history j) (λ (x : Shown). Seen x.client x.from x.ids) seen_of
    (λ x. (k : ℕ) (id : Identity) → slice_get x.ids k ≡ Some id → id_at line (x.from + k) ≡ Some id) seen_is (λ x. refl)
    (λ x. dec_each x.ids (λ k. (id : Identity) → slice_get x.ids k ≡ Some id → id_at line (x.from + k) ≡ Some id) (λ k e id h. absurd (absent (slice_get x.ids k) id e h))
    (λ k. dec_if_some (slice_get x.ids k) (λ id. id_at line (x.from + k) ≡ Some id) (λ id. dec_id_at line (x.from + k) id)))))

abbrev pub dec_slices : (history : List Event) (line : List Entry) → Dec (Slices history line)
dec_slices history line = dec_each history (SlicesAt history line) (λ j e. (dec_slices_at history line j).decides.0 (rw e refl)) (dec_slices_at history line)

-- a fact on the tail of a forced answer of the read

pub forced_to : (history : List Event) (j : ℕ) (read : Read) (Q : ℕ → Type 0) → ((x : Read × ℕ) → told_at forced_tail history j ≡ Some x → x.0 ≡ read → Q x.1) → (tail : ℕ) → told_at forced_tail history j ≡ Some (read, tail) → Q tail
forced_to history j read Q h tail e = h (read, tail) e refl

pub forced_from : (history : List Event) (j : ℕ) (read : Read) (Q : ℕ → Type 0) → ((tail : ℕ) → told_at forced_tail history j ≡ Some (read, tail) → Q tail) → (x : Read × ℕ) → told_at forced_tail history j ≡ Some x → x.0 ≡ read → Q x.1
forced_from history j read Q g x e s = g x.1 (e ∙ ap (λ (r : Read). Some (r, x.1)) s)

abbrev pub dec_forced : (history : List Event) (j : ℕ) (read : Read) (Q : ℕ → Type 0) → ((tail : ℕ) → Dec (Q tail)) → Dec ((tail : ℕ) → told_at forced_tail history j ≡ Some (read, tail) → Q tail)
dec_forced history j read Q d =
    dec_like (forced_to history j read Q) (forced_from history j read Q)
    (dec_if_some (told_at forced_tail history j) (λ (x : Read × ℕ). x.0 ≡ read → Q x.1) (λ x. dec_implies (dec_read x.0 read) (d x.1)))

-- (f)

abbrev pub CoversFrom : List Event → List Entry → ℕ → Identity → Read → ℕ → Type 0
CoversFrom history line b a read j = b < j → (tail : ℕ) → told_at forced_tail history j ≡ Some (read, tail) → StandsBelow line a tail

abbrev pub dec_covers_from : (history : List Event) (line : List Entry) (b : ℕ) (a : Identity) (read : Read) → Dec ((j : ℕ) → CoversFrom history line b a read j)
dec_covers_from history line b a read =
    dec_each history (CoversFrom history line b a read) (λ j e lt tail h. absurd (told_none forced_tail history j (read, tail) e h))
    (λ j. dec_implies (dec_lt b j) (dec_forced history j read (StandsBelow line a) (dec_stands_below line a)))

abbrev pub dec_covered_at : (history : List Event) (line : List Entry) (i b : ℕ) → Dec (CoveredAt history line i b)
dec_covered_at history line i b =
    dec_like (λ h. record { below = λ a read tail j lt later f g k. h a f read g lt j later tail k }) (λ h a f read g lt j later tail k. h.below a read tail j lt later f g k)
    (dec_if_some (told_at finished_id history i) (λ a. (read : Read) → told_at begun_read history b ≡ Some read → i < b → (j : ℕ) → CoversFrom history line b a read j) (λ a.
    dec_if_some (told_at begun_read history b) (λ read. i < b → (j : ℕ) → CoversFrom history line b a read j) (λ read.
    dec_implies (dec_lt i b) (dec_covers_from history line b a read))))

abbrev pub dec_covered_row : (history : List Event) (line : List Entry) (i : ℕ) → Dec ((b : ℕ) → CoveredAt history line i b)
dec_covered_row history line i = dec_each history (CoveredAt history line i) (λ b e. record { below = λ a read tail j lt later f g k. absurd (told_none begun_read history b read e g) }) (dec_covered_at history line i)

abbrev pub dec_covered : (history : List Event) (line : List Entry) → Dec (Covered history line)
dec_covered history line = dec_each history (λ i. (b : ℕ) → CoveredAt history line i b) (λ i e b. record { below = λ a read tail j lt later f g k. absurd (told_none finished_id history i a e f) }) (dec_covered_row history line)

-- (g)

abbrev pub RisesFrom : List Event → ℕ → ℕ → ℕ → ℕ → Type 0
RisesFrom history i j reach b = (read : Read) → told_at begun_read history b ≡ Some read → i < b → b < j → (tail : ℕ) → told_at forced_tail history j ≡ Some (read, tail) → reach ≤ tail

abbrev pub dec_rises_from : (history : List Event) (i j reach : ℕ) → Dec ((b : ℕ) → RisesFrom history i j reach b)
dec_rises_from history i j reach =
    dec_each history (RisesFrom history i j reach) (λ b e read h. absurd (told_none begun_read history b read e h)) (λ b.
    dec_if_some (told_at begun_read history b) (λ read. i < b → b < j → (tail : ℕ) → told_at forced_tail history j ≡ Some (read, tail) → reach ≤ tail) (λ read.
    dec_implies (dec_lt i b) (dec_implies (dec_lt b j) (dec_forced history j read (λ tail. reach ≤ tail) (λ tail. dec_le reach tail)))))

abbrev pub dec_tails_at : (history : List Event) (i j : ℕ) → Dec (TailsNeverFallAt history i j)
dec_tails_at history i j =
    dec_like (λ h. record { no_less = λ reach b tail read lt later f g k. h reach f b read g lt later tail k }) (λ h reach f b read g lt later tail k. h.no_less reach b tail read lt later f g k)
    (dec_if_some (told_at shown_reach history i) (λ reach. (b : ℕ) → RisesFrom history i j reach b) (λ reach. dec_rises_from history i j reach))

abbrev pub dec_tails_row : (history : List Event) (i : ℕ) → Dec ((j : ℕ) → TailsNeverFallAt history i j)
dec_tails_row history i = dec_each history (TailsNeverFallAt history i) (λ j e. record { no_less = λ reach b tail read lt later f g k. absurd (told_none forced_tail history j (read, tail) e k) }) (dec_tails_at history i)

abbrev pub dec_tails : (history : List Event) → Dec (TailsNeverFall history)
dec_tails history = dec_each history (λ i. (j : ℕ) → TailsNeverFallAt history i j) (λ i e j. record { no_less = λ reach b tail read lt later f g k. absurd (told_none shown_reach history i reach e f) }) (dec_tails_row history)

-- (h)

abbrev pub dec_behind_at : (history : List Event) (line : List Entry) (i j : ℕ) → Dec (BehindReadAt history line i j)
dec_behind_at history line i j =
    dec_like (λ h. record { behind = λ reach place b lt f g n. h reach f b g lt place n }) (λ h reach f b g lt place n. h.behind reach place b lt f g n)
    (dec_if_some (told_at told_reach history i) (λ reach. (b : Identity) → told_at invoked_id history j ≡ Some b → i < j → (place : ℕ) → id_at line place ≡ Some b → reach ≤ place) (λ reach.
    dec_if_some (told_at invoked_id history j) (λ b. i < j → (place : ℕ) → id_at line place ≡ Some b → reach ≤ place) (λ b.
    dec_implies (dec_lt i j) (dec_each line (λ place. id_at line place ≡ Some b → reach ≤ place) (λ place e n. absurd (id_none line place b e n)) (λ place.
    dec_implies (dec_id_at line place b) (dec_le reach place))))))

abbrev pub dec_behind_row : (history : List Event) (line : List Entry) (i : ℕ) → Dec ((j : ℕ) → BehindReadAt history line i j)
dec_behind_row history line i = dec_each history (BehindReadAt history line i) (λ j e. record { behind = λ reach place b lt f g n. absurd (told_none invoked_id history j b e g) }) (dec_behind_at history line i)

abbrev pub dec_behind : (history : List Event) (line : List Entry) → Dec (BehindRead history line)
dec_behind history line = dec_each history (λ i. (j : ℕ) → BehindReadAt history line i j) (λ i e j. record { behind = λ reach place b lt f g n. absurd (told_none told_reach history i reach e f) }) (dec_behind_row history line)

-- (i)

abbrev pub dec_is_trim_asked_before : (history : List Event) (j floor : ℕ) → Dec (IsTrimAskedBefore history j floor)
dec_is_trim_asked_before history j floor =
    dec_like (λ h. record { index = h.0; before = h.1.0; trim = h.1.1.0.0; asked_floor = h.1.1.0.1; asks = h.1.1.1; at_least = h.1.1.2 }) (λ h. (h.index, (h.before, ((h.trim, h.asked_floor), h.asks, h.at_least))))
    (dec_any j (λ i. (i < j) × ((x : Read × ℕ) × (told_at asked_trim history i ≡ Some x) × (floor ≤ x.1))) (λ i h. h.0)
    (λ i. dec_and (dec_lt i j) (dec_and_some (told_at asked_trim history i) (λ (x : Read × ℕ). floor ≤ x.1) (λ x. dec_le floor x.1))))

abbrev pub dec_is_trimmed_read : (history : List Event) (j : ℕ) (read : Read) (floor : ℕ) → Dec (IsTrimmedRead history j read floor)
dec_is_trimmed_read history j read floor =
    dec_like (λ h. record { ends = h.0.0; below = h.0.1; asked = h.1 }) (λ h. ((h.ends, h.below), h.asked))
    (dec_and (dec_ends history j read (λ ask. asked_from ask < floor) (λ ask. dec_lt (asked_from ask) floor)) (dec_is_trim_asked_before history j floor))

abbrev pub dec_trims_at : (history : List Event) (j : ℕ) → Dec (TrimsAt history j)
dec_trims_at history j =
    dec_like
    (λ h. record {
      trimmed = λ client read floor e. h.0 (record { client = client; read = read; floor = floor }) e;
      asked = λ client read floor e. h.1.0 (record { client = client; read = read; floor = floor }) e;
      done_once = λ client read floor e. h.1.1 (record { client = client; read = read; floor = floor }) e;
    })
    (λ h. (λ x e. h.trimmed x.client x.read x.floor e, (λ x e. h.asked x.client x.read x.floor e, λ x e. h.done_once x.client x.read x.floor e)))
    (dec_and
    (dec_if_is (slice_get history j) (λ (x : Floored). Trimmed x.client x.read x.floor) trimmed_of
    (λ x. IsTrimmedRead history j (record { client = x.client; number = x.read }) x.floor) trimmed_is (λ x. refl)
    (λ x. dec_is_trimmed_read history j (record { client = x.client; number = x.read }) x.floor))
    (dec_and
    (dec_if_is (slice_get history j) (λ (x : Floored). TrimDone x.client x.read x.floor) trim_done_of
    (λ x. OneBefore asked_trim history j (record { client = x.client; number = x.read }, x.floor)) trim_done_is (λ x. refl)
    (λ x. dec_one_before asked_trim history j (record { client = x.client; number = x.read }, x.floor) (λ y. dec_trim y (record { client = x.client; number = x.read }, x.floor))))
    (dec_if_is (slice_get history j) (λ (x : Floored). TrimDone x.client x.read x.floor) trim_done_of
    (λ x. NoneBefore done_trim history j (record { client = x.client; number = x.read })) trim_done_is (λ x. refl)
    (λ x. dec_none_before done_trim history j (record { client = x.client; number = x.read }) (λ y. dec_read y (record { client = x.client; number = x.read }))))))

abbrev pub dec_trims : (history : List Event) → Dec (Trims history)
dec_trims history = dec_each history (TrimsAt history) (λ j e. (dec_trims_at history j).decides.0 (rw e refl)) (dec_trims_at history)
