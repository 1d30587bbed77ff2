-- What follows from the law for every history and line.
use Rattle.std.proofs.Common.{◌≡◌, ℕ, ◌+◌, ◌-◌, ◌<◌, length, min, IsTrue, IsSome, Option, Some, List, map, slice_get, inl, inr, refl, sym, ◌∙◌, ap, subst, arith}
use Rattle.std.specs.Prelude.{option_map}
use Rattle.std.proofs.lemmas.Bool.{cases_lt}
use Rattle.std.proofs.lemmas.Option.{slice_get-map}
use Rattle.law_cases.specs.Precedes.{KeepsPrecedence, KeepsReach}
use Rattle.law_cases.specs.Told.{IsAnswered, StandsOnce}
use Rattle.law_cases.proofs.ToldAt.{told_cases, told_from}
use Rattle.list_facts.proofs.Places.{in_at, at_in}
use Rattle.list_facts.proofs.Precedence.{precedes_at, at_precedes}
use Rattle.rec_id.specs.declared.limits.TheConstants.{READ_LIMIT}
use Rattle.rec_id.specs.Identity.{Identity}
use Rattle.rec_id.specs.History.{finished_id, invoked_id, begun_read, asked_from, asked_to, is_tail, told_at, told_reach, IsInvokedWith}
use Rattle.rec_id.specs.Line.{named_id, appended_id, id_at, IsToldOf, IsToldAt}
use Rattle.rec_id.specs.Lawful.{EndsRead, Unique, Finished, Ordered, Slices, BehindRead}
use Rattle.rec_id.specs.declared.entry.Entry.{Entry}
use Rattle.rec_id.specs.declared.entry.Entry.TheVariants.{Kept, Noop, Gone}
use Rattle.rec_id.specs.declared.event.Ask.{Ask}
use Rattle.rec_id.specs.declared.event.Ask.TheVariants.{Tail}
use Rattle.rec_id.specs.declared.event.Event.{Event}
use Rattle.rec_id.specs.declared.event.Event.TheVariants.{Invoke, Acked, Begin, Answer}

-- one place for each identity

pub same_place : (line : List Entry) → Unique line → (p q : ℕ) (id : Identity) → id_at line p ≡ Some id → id_at line q ≡ Some id → p ≡ q
same_place line u p q id e f =
    elim (cases_lt p q) [
      | inl lt ↦ absurd ((u p q).differ id lt e f)
      | inr le ↦ elim (cases_lt q p) [ inl lt ↦ absurd ((u q p).differ id lt f e) | inr ge ↦ omega arith ]
    ]

-- one Invoke for each identity, so one record of bytes

pub same_invoke : (history : List Event) (line : List Entry) → Finished history line → (i j : ℕ) (id : Identity) → told_at invoked_id history i ≡ Some id → told_at invoked_id history j ≡ Some id → i ≡ j
same_invoke history line f i j id d e =
    elim (cases_lt i j) [
      | inl lt ↦ absurd (((f j).invoked_once id e).none i lt d)
      | inr le ↦ elim (cases_lt j i) [ inl lt ↦ absurd (((f i).invoked_once id d).none j lt e) | inr ge ↦ omega arith ]
    ]

pub same_bytes : (history : List Event) (line : List Entry) → Finished history line → (id : Identity) (xs ys : List ℕ) → IsInvokedWith history id xs → IsInvokedWith history id ys → xs ≡ ys
same_bytes history line f id xs ys h k =
    let same : h.index ≡ k.index = same_invoke history line f h.index k.index id (told_from invoked_id history h.index (Invoke id xs) id h.stands refl) (told_from invoked_id history k.index (Invoke id ys) id k.stands refl) in
    let e : Some (Invoke id xs) ≡ Some (Invoke id ys) = sym h.stands ∙ ap (slice_get history) same ∙ k.stands in
    cc

-- what two answers tell of a place

pub same_told : (history : List Event) (line : List Entry) → Finished history line → (entry one other : Entry) → IsToldOf history entry one → IsToldOf history entry other → one ≡ other
same_told history line f (Kept id bytes) one other h k = h ∙ sym k
same_told history line f (Noop id) one other h k = h ∙ sym k
same_told history line f (Gone id) one other h k = h.1 ∙ ap (Kept id) (same_bytes history line f id h.0 k.0 h.2 k.2) ∙ sym k.1

pub told_place : (history : List Event) (line : List Entry) → Slices history line → (place : ℕ) (entry : Entry) → IsAnswered history place entry → IsToldAt history line place entry
told_place history line s place entry h =
    subst (λ (p : ℕ). IsToldAt history line p entry) (sym h.is_at)
    (((s h.index).answer h.client h.read h.from h.entries h.tail h.answers).told h.k entry h.tells)

pub reads_agree : (history : List Event) (line : List Entry) → Finished history line → Slices history line → (place : ℕ) (one other : Entry) → IsAnswered history place one → IsAnswered history place other → one ≡ other
reads_agree history line f s place one other h k =
    let t = told_place history line s place one h in
    let u = told_place history line s place other k in
    let e : t.entry ≡ u.entry = let g : Some t.entry ≡ Some u.entry = sym t.stands ∙ u.stands in cc in
    same_told history line f t.entry one other t.is_told (subst (λ (x : Entry). IsToldOf history x other) (sym e) u.is_told)

gone_not_told : (history : List Event) (entry : Entry) (id : Identity) → IsToldOf history entry (Gone id) → ⊥
gone_not_told history (Kept other bytes) id h = cc
gone_not_told history (Noop other) id h = cc
gone_not_told history (Gone other) id h = let e = h.1 in cc

pub none_gone : (history : List Event) (line : List Entry) → Slices history line → (place : ℕ) (id : Identity) → IsAnswered history place (Gone id) → ⊥
none_gone history line s place id h = let t = told_place history line s place (Gone id) h in gone_not_told history t.entry id t.is_told

-- an answer to a tail ask

-- the ask of the Begin that stands before an Answer is the one that the answer is measured by
pub same_ask : (history : List Event) (j : ℕ) (client read : ℕ) (ends : EndsRead history j (record { client = client; number = read })) (i : ℕ) (ask : Ask) → i < j → slice_get history i ≡ Some (Begin client read ask) → ask ≡ ends.ask
same_ask history j client read ends i ask lt b =
    let same : i ≡ ends.begun.index = ends.begun.only i lt (told_from begun_read history i (Begin client read ask) (record { client = client; number = read }) b refl) in
    let e : Some (Begin client read ask) ≡ Some (Begin client read ends.ask) = sym b ∙ ap (slice_get history) same ∙ ends.asks in
    cc

pub tail_forced : (history : List Event) (line : List Entry) → Slices history line → (i j client read start from : ℕ) (entries : List Entry) (tail : Option ℕ) → i < j → slice_get history i ≡ Some (Begin client read (Tail start)) → slice_get history j ≡ Some (Answer client read from entries tail) → IsSome tail
tail_forced history line s i j client read start from entries tail lt b a =
    let r = (s j).answer client read from entries tail a in
    let ask = same_ask history j client read r.ends i (Tail start) lt b in
    r.forced (subst (λ (x : Ask). IsTrue (is_tail x)) ask refl)

pub tail_count : (history : List Event) (line : List Entry) → Slices history line → (i j client read start from : ℕ) (entries : List Entry) (t : ℕ) → i < j → slice_get history i ≡ Some (Begin client read (Tail start)) → slice_get history j ≡ Some (Answer client read from entries (Some t)) → (start ≡ from) × (length entries ≡ min (start + READ_LIMIT) t - from)
tail_count history line s i j client read start from entries t lt b a =
    let r = (s j).answer client read from entries (Some t) a in
    let ask = same_ask history j client read r.ends i (Tail start) lt b in
    (ap asked_from ask ∙ r.asked, r.count t refl ∙ ap (λ (x : Ask). min (asked_to x) t - from) (sym ask))

-- what is acknowledged

appended_named : (line : List Entry) (p : ℕ) (id : Identity) → told_at appended_id line p ≡ Some id → id_at line p ≡ Some id
appended_named line p id h = by (told_cases appended_id line p id h)
  where
    names : (e : Entry) → appended_id e ≡ Some id → named_id e ≡ id
    names (Kept other bytes) g = cc
    names (Noop other) g = cc
    names (Gone other) g = cc

    by : (x : Entry) × (slice_get line p ≡ Some x) × (appended_id x ≡ Some id) → id_at line p ≡ Some id
    by k = ap (option_map named_id) k.1 ∙ ap Some (names k.0 k.2)

pub acknowledged_once : (history : List Event) (line : List Entry) → Unique line → Finished history line → (j : ℕ) (id : Identity) → slice_get history j ≡ Some (Acked id) → StandsOnce line id
acknowledged_once history line u f j id h =
    let k = (f j).acked id h in
    let names = appended_named line k.place id k.tells in
    record { place = k.place; names = names; only = λ other e. same_place line u other k.place id e names }

-- the order of finished and invoked appends, by precedence

pub id_listed : (line : List Entry) (p : ℕ) (id : Identity) → id_at line p ≡ Some id → slice_get (map named_id line) p ≡ Some id
id_listed line p id h = slice_get-map named_id line p ∙ h

pub listed_id : (line : List Entry) (p : ℕ) (id : Identity) → slice_get (map named_id line) p ≡ Some id → id_at line p ≡ Some id
listed_id line p id h = sym (slice_get-map named_id line p) ∙ h

pub precedence_to : (history : List Event) (line : List Entry) → Ordered history line → KeepsPrecedence history line
precedence_to history line o a b last first f g h m =
    let k = at_precedes history last first h in
    let n = at_in (map named_id line) b m in
    let s = (o k.first k.second).in_front a b n.0 k.before (told_from finished_id history k.first last a k.has_x f) (told_from invoked_id history k.second first b k.has_y g) (listed_id line n.0 b n.1) in
    precedes_at (map named_id line) s.place n.0 a b s.below (id_listed line s.place a s.names) n.1

pub precedence_from : (history : List Event) (line : List Entry) → Unique line → KeepsPrecedence history line → Ordered history line
precedence_from history line u h i j = record {
  in_front = λ a b place lt f g n.
      let x = told_cases finished_id history i a f in
      let y = told_cases invoked_id history j b g in
      let k = at_precedes (map named_id line) a b (h a b x.0 y.0 x.2 y.2 (precedes_at history i j x.0 y.0 lt x.1 y.1) (in_at (map named_id line) place b (id_listed line place b n))) in
      let same : k.second ≡ place = same_place line u k.second place b (listed_id line k.second b k.has_y) n in
      let before = k.before in
      record { place = k.first; below = omega arith; names = listed_id line k.first a k.has_x };
}

-- what is behind what was read, by precedence

pub reach_to : (history : List Event) (line : List Entry) → BehindRead history line → KeepsReach history line
reach_to history line h reach place b last first f g p n =
    let k = at_precedes history last first p in
    (h k.first k.second).behind reach place b k.before (told_from told_reach history k.first last reach k.has_x f) (told_from invoked_id history k.second first b k.has_y g) n

pub reach_from : (history : List Event) (line : List Entry) → KeepsReach history line → BehindRead history line
reach_from history line h i j = record {
  behind = λ reach place b lt f g n.
      let x = told_cases told_reach history i reach f in
      let y = told_cases invoked_id history j b g in
      h reach place b x.0 y.0 x.2 y.2 (precedes_at history i j x.0 y.0 lt x.1 y.1) n;
}
