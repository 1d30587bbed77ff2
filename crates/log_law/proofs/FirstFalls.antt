-- Tails that fall, by indices.
use Rattle.std.proofs.Common.{◌≡◌, ◌≢◌, ◌⊎◌, ℕ, ◌+◌, ◌-◌, ◌^◌, ◌<◌, ◌≤◌, Bool, true, false, cond, ◌&&◌, nat_lt, is_some, IsSome, List, [], length, get_or, map, Option, Some, None, inl, inr, refl, sym, ap, ◌∙◌, subst, arith}
use Rattle.std.specs.Prelude.{slice_index}
use Rattle.std.proofs.lemmas.List.{get_or_read, length-map}
use Rattle.std.proofs.lemmas.Option.{MatchOption-at_none, none-some, some_pair_parts}
use Rattle.std.specs.BTreeMap.{BTreeMap, get}
use Rattle.std.specs.Ordering.{is_eq}
use Rattle.std.proofs.lemmas.Bool.{cases_eq, cases_lt, and_parts, and_from, lt-ltb, ltb-true}
use Rattle.rec_id.specs.History.{begun_read, shown_reach, told_at}
use Rattle.rec_id.specs.Lawful.{TailsNeverFallAt}
use Rattle.rec_id.specs.Verdict.{IsPairBefore}
use Rattle.rec_id.specs.declared.event.Event.{Event}
use Rattle.law_cases.proofs.Clauses.{told_within}
use Rattle.log_law.specs.declared.reaches.Reach.TheVariants.{Shown}
use Rattle.log_law.specs.Keys.{key_cmp}
use Rattle.log_law.specs.Pairs.{IsFirstBreach, IsAbove, IsFirstRow}
use Rattle.log_law.specs.Reaches.{reach_of}
use Rattle.log_law.specs.Tails.{forced_key, begun_key, IsTailFrom, IsLeastTail, IsLeastTailAt, falls_below, noted, Falls, IsFirstFall, AreBegun}
use Rattle.log_law.specs.Told.{read_key}
use Rattle.log_law.proofs.Covers.{forced_from, forced_to, begun_from, least_at}
use Rattle.log_law.proofs.Indexing.{equal_keys, apart_keys}
use Rattle.log_law.proofs.Numbers.{number_at, number_none, some_cases}
use Rattle.log_law.proofs.ToldKeys.{told_unmap}

is_there : {A : Type 0} (o : Option A) → is_some o ≡ true → (x : A) × (o ≡ Some x)
is_there None h = let wrong : false ≡ true = h in cc
is_there (Some x) h = (x, refl)

module _ (history : List Event) (row reach j : ℕ) (m : BTreeMap (ℕ × ℕ) ℕ) (h : AreBegun history row j m) where
  pub falls_yes : (o : Option ((ℕ × ℕ) × ℕ)) → told_at forced_key history j ≡ o → falls_below m o reach ≡ true → Falls history row reach j
  falls_yes None e t = let wrong : false ≡ true = t in cc
  falls_yes (Some told) e t =
      let parts = and_parts (nat_lt told.1 reach) (is_some (get key_cmp m told.0)) t in
      let b = is_there (get key_cmp m told.0) parts.1 in
      record { key = told.0; begin_index = b.0; tail = told.1; after = h.after b.0 told.0 b.1; before = h.before b.0 told.0 b.1; begins = h.begins b.0 told.0 b.1; answers = e; below = ltb-true told.1 reach parts.0 }

  pub falls_no : (o : Option ((ℕ × ℕ) × ℕ)) → told_at forced_key history j ≡ o → falls_below m o reach ≡ false → ¬ Falls history row reach j
  falls_no None e t f = none-some (f.key, f.tail) (sym e ∙ f.answers)
  falls_no (Some told) e t f =
      let parts = some_pair_parts told.0 f.key told.1 f.tail (sym e ∙ f.answers) in
      let same = parts.0 in
      let one = parts.1 in
      let less : nat_lt told.1 reach ≡ true = lt-ltb told.1 reach (let b = f.below in omega arith) in
      let has : IsSome (get key_cmp m told.0) = subst (λ (k : ℕ × ℕ). IsSome (get key_cmp m k)) (sym same) (h.has f.begin_index f.key f.after f.before f.begins) in
      let yes : (nat_lt told.1 reach && is_some (get key_cmp m told.0)) ≡ true = and_from (nat_lt told.1 reach) (is_some (get key_cmp m told.0)) less has in
      cc

  module _ (later : row < j) (n : BTreeMap (ℕ × ℕ) ℕ) where
    noted_has : (own : ℕ × ℕ) (key : ℕ × ℕ) (t : Bool) → is_eq (key_cmp own key) ≡ t → (own ≡ key) ⊎ IsSome (get key_cmp m key) → IsSome (cond t (Some j) (get key_cmp m key))
    noted_has own key true e c = refl
    noted_has own key false e (inl same) = absurd (apart_keys own key e same)
    noted_has own key false e (inr has) = has

    noted_is : (own : ℕ × ℕ) (key : ℕ × ℕ) (b : ℕ) (t : Bool) → is_eq (key_cmp own key) ≡ t → cond t (Some j) (get key_cmp m key) ≡ Some b → ((own ≡ key) × (j ≡ b)) ⊎ (get key_cmp m key ≡ Some b)
    noted_is own key b true e s = inl (equal_keys own key e, cc)
    noted_is own key b false e s = inr s

    pub begun_step : (o : Option (ℕ × ℕ)) → told_at begun_key history j ≡ o → ((key : ℕ × ℕ) → get key_cmp n key ≡ noted o j key (get key_cmp m key)) → AreBegun history row (j + 1) n
    begun_step None e f = record {
      has = λ b key after before begins. elim (cases_eq b j) [
        | inl same ↦ absurd (let g : None ≡ Some key = sym e ∙ subst (λ (x : ℕ). told_at begun_key history x ≡ Some key) same begins in cc)
        | inr ne ↦ rw (f key) (h.has b key after (omega arith) begins)
      ];
      after = λ b key s. h.after b key (sym (f key) ∙ s);
      before = λ b key s. (let k = h.before b key (sym (f key) ∙ s) in omega arith);
      begins = λ b key s. h.begins b key (sym (f key) ∙ s);
    }
    begun_step (Some own) e f = record {
      has = λ b key after before begins. rw (f key) (noted_has own key (is_eq (key_cmp own key)) refl (elim (cases_eq b j) [
        | inl same ↦ inl (let g : Some own ≡ Some key = sym e ∙ subst (λ (x : ℕ). told_at begun_key history x ≡ Some key) same begins in cc)
        | inr ne ↦ inr (h.has b key after (omega arith) begins)
      ]));
      after = λ b key s. elim (noted_is own key b (is_eq (key_cmp own key)) refl (sym (f key) ∙ s)) [ inl p ↦ (let same = p.1 in omega arith) | inr old ↦ h.after b key old ];
      before = λ b key s. elim (noted_is own key b (is_eq (key_cmp own key)) refl (sym (f key) ∙ s)) [ inl p ↦ (let same = p.1 in omega arith) | inr old ↦ (let k = h.before b key old in omega arith) ];
      begins = λ b key s. elim (noted_is own key b (is_eq (key_cmp own key)) refl (sym (f key) ∙ s)) [
        | inl p ↦ subst (λ (x : ℕ). told_at begun_key history x ≡ Some key) p.1 (e ∙ ap Some p.0)
        | inr old ↦ h.begins b key old
      ];
    }

pub begun_init : (history : List Event) (row : ℕ) (m : BTreeMap (ℕ × ℕ) ℕ) → m.entries ≡ [] → AreBegun history row (row + 1) m
begun_init history row m e = record {
  has = λ b key after before begins. absurd (omega arith);
  after = λ b key s. absurd (nothing b key s);
  before = λ b key s. absurd (nothing b key s);
  begins = λ b key s. absurd (nothing b key s);
}
  where
    nothing : (b : ℕ) (key : ℕ × ℕ) → get key_cmp m key ≡ Some b → ⊥
    nothing b key s = let g : None ≡ Some b = rw e at s in cc

pub none_before_begun : (history : List Event) (row reach : ℕ) → (k : ℕ) → k < row + 1 → ¬ Falls history row reach k
none_before_begun history row reach k lt f = let a = f.after in let b = f.before in absurd (omega arith)

pub none_more : (history : List Event) (row reach j : ℕ) → ((k : ℕ) → k < j → ¬ Falls history row reach k) → ¬ Falls history row reach j → (k : ℕ) → k < j + 1 → ¬ Falls history row reach k
none_more history row reach j f n k lt = elim (cases_eq k j) [ inl e ↦ subst (λ (x : ℕ). ¬ Falls history row reach x) (sym e) n | inr ne ↦ f k (omega arith) ]

-- the clause

module _ (history : List Event) (tails : List ℕ) (least : (b : ℕ) → b < length history → IsLeastTailAt history b (slice_index tails b)) (long : length tails ≡ length history) where
  pub never_to : (i : ℕ) → ((b : ℕ) → IsAbove (map (reach_of Shown) history) tails i b) → (j : ℕ) → TailsNeverFallAt history i j
  never_to i above j = record {
    no_less = λ reach b tail read lt later r g t. (
        let begins = begun_from history b read g in
        let inside = told_within begun_key history b (read_key read) begins in
        let is = number_at shown_reach history i reach r in
        let le = above b lt (omega arith) in
        let le2 = (least_at history tails least b (read_key read) begins).at_most j tail (omega arith) (forced_from history j read tail t) in
        omega arith);
  }

  module _ (row j : ℕ) (inside : row < length history) (r : IsFirstRow (map (reach_of Shown) history) tails 0 row) (fits : slice_index (map (reach_of Shown) history) row < 2 ^ 64) (f : IsFirstFall history row (slice_index (map (reach_of Shown) history) row) j) where
    abbrev reach : ℕ
    reach = slice_index (map (reach_of Shown) history) row

    shown : 0 < reach → told_at shown_reach history row ≡ Some reach
    shown pos = some_cases (told_at shown_reach history row)
        (λ none. absurd (let zero = number_none shown_reach history row none in omega arith))
        (λ n e. e ∙ ap Some (sym (number_at shown_reach history row n e)))

    fall_of : (b : ℕ) (key : ℕ × ℕ) → row < b → told_at begun_key history b ≡ Some key → slice_index tails b < reach → IsTailFrom history (b + 1) key (slice_index tails b) → j < length history
    fall_of b key later begins below t = elim (cases_lt t.index j) [
      | inl lt ↦ absurd (f.none t.index lt (record { key = key; begin_index = b; tail = slice_index tails b; after = later; before = let a = t.after in omega arith; begins = begins; answers = t.tells; below = below }))
      | inr ge ↦ (let w = told_within forced_key history t.index (key, slice_index tails b) t.tells in omega arith)
    ]

    there : (b : ℕ) → row < b → b < length history → slice_index tails b < reach → j < length history
    there b later within below = some_cases (told_at begun_key history b)
        (λ none. absurd (let top : slice_index tails b ≡ 2 ^ 64 - 1 = MatchOption-at_none (slice_index tails b ≡ 2 ^ 64 - 1) (λ (one : ℕ × ℕ). IsLeastTail history (b + 1) one (slice_index tails b)) none (least b within) in omega arith))
        (λ key e. fall_of b key later e below ((least_at history tails least b key e).taken (omega arith)))

    found : j < length history
    found = let broken = r.broken (omega arith) in there broken.column broken.later (let w = broken.inside in omega arith) broken.below

    not_kept : Falls history row reach j → ¬ TailsNeverFallAt history row j
    not_kept fall never =
        let read = told_unmap begun_read read_key history fall.begin_index fall.key fall.begins in
        let answers : told_at forced_key history j ≡ Some (read_key read.told, fall.tail) = fall.answers ∙ ap (λ (k : ℕ × ℕ). Some (k, fall.tail)) (sym read.is) in
        let le = never.no_less reach fall.begin_index fall.tail read.told fall.after fall.before (shown (let b = fall.below in omega arith)) read.tells (forced_to history j read.told fall.tail answers) in
        let lt = fall.below in omega arith

    kept : (k : ℕ) → k < j → TailsNeverFallAt history row k
    kept k lt = record {
      no_less = λ shown_to b tail read after before s g t. elim (cases_lt tail shown_to) [
        | inl less ↦ absurd (f.none k lt (record { key = read_key read; begin_index = b; tail = tail; after = after; before = before; begins = begun_from history b read g; answers = forced_from history k read tail t; below = (let is = number_at shown_reach history row shown_to s in omega arith) }))
        | inr more ↦ more
      ];
    }

    pub first_fallen : IsFirstBreach (TailsNeverFallAt history) row j
    first_fallen = record { broken = not_kept (f.falls found); least = before_it }
      where
        before_it : (k l : ℕ) → IsPairBefore k l row j → TailsNeverFallAt history k l
        before_it k l (inl lt) = never_to k (λ b. r.above k b (omega arith) lt) l
        before_it k l (inr e) = subst (λ (x : ℕ). TailsNeverFallAt history x l) (sym e.0) (kept l e.1)

  pub never_fallen : (row : ℕ) → length history ≤ row → IsFirstRow (map (reach_of Shown) history) tails 0 row → (i j : ℕ) → TailsNeverFallAt history i j
  never_fallen row ge r i j = elim (cases_lt i row) [
    | inl lt ↦ never_to i (λ b. r.above i b (omega arith) lt) j
    | inr past ↦ record { no_less = λ reach b tail read lt later s g t. absurd (let w = told_within shown_reach history i reach s in omega arith) }
  ]

module _ (history : List Event) (tails reaches bounds lows : List ℕ) (row : ℕ) (er : reaches ≡ map (reach_of Shown) history) (eb : bounds ≡ reaches) (el : lows ≡ tails)
    (least : (b : ℕ) → b < length history → IsLeastTailAt history b (slice_index tails b)) (long : length tails ≡ length history) (f : IsFirstRow bounds lows 0 row) where
  there_row : IsFirstRow (map (reach_of Shown) history) tails 0 row
  there_row = rw (eb, el, er) at f

  pub no_fall : row ≡ length history → (i j : ℕ) → TailsNeverFallAt history i j
  no_fall e = never_fallen history tails least long row (omega arith) there_row

  pub first_fall_found : (reach j : ℕ) → row ≢ length history → reach ≡ get_or reaches row reach → ((i : ℕ) → slice_index bounds i < 2 ^ 64) → IsFirstFall history row reach j → IsFirstBreach (TailsNeverFallAt history) row j
  first_fall_found reach j ne e fits fall =
      let w = there_row.within in
      let inside : row < length history = omega arith in
      let same : reach ≡ slice_index (map (reach_of Shown) history) row = rw er at (get_or_read reaches row reach (omega (arith, ap length er, length-map history (reach_of Shown))) e 0) in
      let fits_there : (i : ℕ) → slice_index (map (reach_of Shown) history) i < 2 ^ 64 = rw (eb, er) at fits in
      first_fallen history tails least long row j inside there_row (fits_there row) (subst (λ (x : ℕ). IsFirstFall history row x j) same fall)
