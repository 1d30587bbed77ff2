-- The crashes among merged steps are those in which diaries end; and each step that sends is merged.
use Rattle.std.proofs.Common.{◌≡◌, ◌↔◌, ℕ, List, [], ◌∷◌, ◌++◌, true, inl, inr, refl, sym, ap, ◌∙◌, subst}
use Rattle.std.specs.Prelude.{not}
use Rattle.std.specs.List.{flat_map}
use Rattle.list_facts.specs.Lists.{In}
use Rattle.list_facts.proofs.Members.{in_left, in_right, in_cases, in_filter, filter_in, each_in}
use Rattle.lazy_msgs.specs.declared.diary.Diary.{Diary}
use Rattle.lazy_msgs.specs.declared.diary.DiaryEntry.{DiaryEntry}
use Rattle.lazy_msgs.specs.declared.input.Input.{Input}
use Rattle.lazy_msgs.specs.declared.input.Input.TheVariants.{Crash}
use Rattle.diary_laws.specs.Machines.{Machine, Step, step_of, steps_from, steps_in, all_steps}
use Rattle.diary_laws.specs.Formed.{IsFormed, IsLast, Follows, AreDiaries}
use Rattle.diary_laws.specs.Lived.{EndsInCrash, IsCrashedIn}
use Rattle.diary_laws.specs.Merges.{finds_none, is_event, event_steps, IsMerged}
use Rattle.diary_laws.proofs.merges.Parts.{steps_are}
use Rattle.diary_laws.proofs.merges.Ranks.{in_permuted, in_merged}
use Rattle.diary_laws.proofs.worlds.Ready.{gone_by}

module _ {A B : Type 0} (f : A → List B) where
  pub in_flat : (x : A) (xs : List A) (y : B) → In x xs → In y (f x) → In y (flat_map f xs)
  in_flat x [] y there h = absurd there
  in_flat x (z ∷ zs) y (inl e) h = in_left y (f z) (flat_map f zs) (subst (λ (a : A). In y (f a)) (sym e) h)
  in_flat x (z ∷ zs) y (inr there) h = in_right y (f z) (flat_map f zs) (in_flat x zs y there h)

  -- which member a member of a flat list is made of
  pub record MadeOf (xs : List A) (y : B) : Type 0 where
    pub origin : A
    pub there : In origin xs
    pub made : In y (f origin)

  pub made_of : (xs : List A) (y : B) → In y (flat_map f xs) → MadeOf xs y
  made_of [] y h = absurd h
  made_of (x ∷ xs) y h = elim (in_cases y (f x) (flat_map f xs) h) [
    | inl k ↦ record { origin = x; there = inl refl; made = k }
    | inr k ↦ (let rest = made_of xs y k in record { origin = rest.origin; there = inr rest.there; made = rest.made })
  ]

-- whom these steps take away
abbrev pub gone_of : {S : Type 0} → List (Step S) → List ℕ
gone_of steps = flat_map (λ step. gone_by step.node step.input) steps

pub crash_gone : (me node : ℕ) (input : Input) → In node (gone_by me input) → (input ≡ Crash) × (me ≡ node)
crash_gone me node Crash (inl e) = (refl, e)
crash_gone me node Crash (inr none) = absurd none
crash_gone me node _ h = absurd h

module _ (m : Machine) where
  step_own : (me : ℕ) (s : m.State) (entries : List DiaryEntry) (x : Step m.State) → In x (steps_from m me s entries) → x.node ≡ me
  step_own me s [] x there = absurd there
  step_own me s (entry ∷ entries) x (inl e) = ap (λ (y : Step m.State). y.node) (sym e)
  step_own me s (entry ∷ entries) x (inr there) = step_own me (m.step s entry.input).next entries x there

  ends : (me last : ℕ) (s : m.State) (entries : List DiaryEntry) → Follows m me last s entries → (x : Step m.State) → In x (steps_from m me s entries) → x.input ≡ Crash → EndsInCrash entries
  ends me last s [] h x there crash = absurd there
  ends me last s (entry ∷ entries) h x (inl e) crash =
      let own : entry.input ≡ Crash = ap (λ (y : Step m.State). y.input) e ∙ crash in
      let none : entries ≡ [] = subst (λ (i : Input). IsLast i entries) own h.1 in
      record { before = []; last = entry; is = ap (λ (es : List DiaryEntry). entry ∷ es) none; crash = own }
  ends me last s (entry ∷ entries) h x (inr there) crash =
      let rest = ends me entry.time (m.step s entry.input).next entries h.2 x there crash in
      record { before = entry ∷ rest.before; last = rest.last; is = ap (λ (es : List DiaryEntry). entry ∷ es) rest.is; crash = rest.crash }

  -- the step of the last entry
  pub record LastStep (me : ℕ) (s : m.State) (entries : List DiaryEntry) : Type 0 where
    pub step : Step m.State
    pub there : In step (steps_from m me s entries)
    pub own : step.node ≡ me
    pub crash : step.input ≡ Crash

  last_crash : (me : ℕ) (before : List DiaryEntry) (last : DiaryEntry) → last.input ≡ Crash → (s : m.State) → LastStep me s (before ++ last ∷ [])
  last_crash me [] last crash s = record { step = step_of m me s last; there = inl refl; own = refl; crash = crash }
  last_crash me (entry ∷ entries) last crash s =
      let rest = last_crash me entries last crash (m.step s entry.input).next in
      record { step = rest.step; there = inr rest.there; own = rest.own; crash = rest.crash }

  crash_is_event : (x : Step m.State) → x.input ≡ Crash → is_event x ≡ true
  crash_is_event x crash = ap (λ (i : Input). not (finds_none i)) crash

  module _ (diaries : List Diary) (are : AreDiaries m diaries) (merged : List (Step m.State)) (is : IsMerged m diaries merged) where
    pub step_merged : (x : Step m.State) → In x (all_steps m diaries) → is_event x ≡ true → In x merged
    step_merged x there event = in_merged (event_steps m diaries) merged is.all x (filter_in is_event (all_steps m diaries) x there event)

    went : (node : ℕ) → In node (gone_of merged) → IsCrashedIn diaries node
    went node there =
        let at = made_of (λ (x : Step m.State). gone_by x.node x.input) merged node there in
        let crash = crash_gone at.origin.node node at.origin.input at.made in
        let kept = in_filter is_event (all_steps m diaries) at.origin (in_permuted (event_steps m diaries) merged is.all at.origin at.there) in
        let from = made_of (steps_in m) diaries at.origin kept.0 in
        let formed = each_in (IsFormed m) diaries are.formed from.origin from.there in
        let mine = subst (In at.origin) (steps_are m from.origin formed) from.made in
        record {
          diary = from.origin;
          there = from.there;
          own = sym (step_own from.origin.node formed.start from.origin.entries at.origin mine) ∙ crash.1;
          ends = ends from.origin.node 0 formed.start from.origin.entries formed.follows at.origin mine crash.0;
        }

    goes : (node : ℕ) → IsCrashedIn diaries node → In node (gone_of merged)
    goes node h =
        let formed = each_in (IsFormed m) diaries are.formed h.diary h.there in
        let last = last_crash h.diary.node h.ends.before h.ends.last h.ends.crash formed.start in
        let mine : In last.step (steps_from m h.diary.node formed.start h.diary.entries) = subst (λ (es : List DiaryEntry). In last.step (steps_from m h.diary.node formed.start es)) (sym h.ends.is) last.there in
        let among = in_flat (steps_in m) h.diary diaries last.step h.there (subst (In last.step) (sym (steps_are m h.diary formed)) mine) in
        let there = step_merged last.step among (crash_is_event last.step last.crash) in
        in_flat (λ (x : Step m.State). gone_by x.node x.input) last.step merged node there
        (subst (λ (i : Input). In node (gone_by last.step.node i)) (sym last.crash) (inl (last.own ∙ h.own)))

    pub crashes_are : (node : ℕ) → In node (gone_of merged) ↔ IsCrashedIn diaries node
    crashes_are node = (went node, goes node)
