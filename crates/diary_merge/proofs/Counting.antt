-- The messages of diaries that are within their limits are few.
use Rattle.std.proofs.Common.{◌≡◌, ◌<◌, ◌≤◌, ◌+◌, ◌*◌, ◌^◌, ℕ, List, [], ◌∷◌, ◌++◌, length, map, Bool, true, false, cond, IsPermutation, inl, inr, refl, sym, ap, ◌∙◌, subst, arith, ne_eqb, eqb-true, length-append}
use Rattle.std.specs.Prelude.{◌==◌, filter, min, not, sum_by}
use Rattle.std.specs.List.{flat_map, list_any, AllByRecursion, IsDistinct}
use Rattle.std.proofs.lemmas.List.{length-map}
use Rattle.std.proofs.lemmas.List.Sorted.{sum_by-IsPermutation}
use Rattle.std.proofs.lemmas.List.Sums.{sum_by-append, sum_by-cons}
use Rattle.std.proofs.lemmas.Map.Steps.{length-le_from_distinct_below}
use Rattle.list_facts.specs.Lists.{Distinct, Each, In}
use Rattle.list_facts.proofs.Members.{each_in, in_passes}
use Rattle.lazy_msgs.specs.declared.diary.Diary.{Diary}
use Rattle.lazy_msgs.specs.declared.diary.DiaryEntry.{DiaryEntry}
use Rattle.lazy_msgs.specs.declared.msg.Msg.{Msg}
use Rattle.lazy_msgs.specs.declared.limits.TheConstants.{MESSAGE_WEIGHT}
use Rattle.lazy_msgs.specs.Weight.{sends_weight}
use Rattle.lazy_rules.specs.WorldRules.{enveloped}
use Rattle.diary_laws.specs.Formed.{nodes_of}
use Rattle.diary_laws.specs.Machines.{Step}
use Rattle.diary_laws.specs.Merges.{finds_none, sent_by}
use Rattle.diary_merge.specs.Acts.{Act, act_from}
use Rattle.diary_merge.specs.Weights.{IsWithinLimits, diary_weight, entry_weight, input_weight}
use Rattle.diary_merge.specs.declared.limits.TheConstants.{DIARY_WEIGHT_LIMIT}
use Rattle.diary_merge.specs.declared.place.TheConstants.{NODES}
use Rattle.diary_merge.proofs.Acts.{acts_from, acts_of}
use Rattle.diary_merge.proofs.Loads.{sends_weigh}

abbrev pub count_of : {S : Type 0} → Step S → ℕ
count_of x = length x.row.sends

-- the messages of steps are counted step by step
pub sent_count : {S : Type 0} (steps : List (Step S)) → length (sent_by steps) ≡ sum_by count_of steps
sent_count [] = refl
sent_count (x ∷ xs) =
    let long : length (enveloped x.node x.time x.row.sends) ≡ length x.row.sends = length-map x.row.sends _ in
    let both = length-append (enveloped x.node x.time x.row.sends) (sent_by xs) in
    let sum = sum_by-cons count_of x xs in
    let rest = sent_count xs in
    omega arith

acts_weigh : (node : ℕ) (entries : List DiaryEntry) → MESSAGE_WEIGHT * sum_by count_of (acts_from node entries) ≤ diary_weight entries
acts_weigh node [] = omega arith
acts_weigh node (entry ∷ entries) = weighs (finds_none entry.input) (acts_weigh node entries)
  where
    whole : diary_weight (entry ∷ entries) ≡ input_weight entry.input + sends_weight entry.sends + diary_weight entries
    whole = sum_by-cons entry_weight entry entries

    weighs : (b : Bool) → MESSAGE_WEIGHT * sum_by count_of (acts_from node entries) ≤ diary_weight entries
        → MESSAGE_WEIGHT * sum_by count_of (cond b (acts_from node entries) (act_from node entry ∷ acts_from node entries)) ≤ diary_weight (entry ∷ entries)
    weighs true rest =
        let all = whole in
        let light : MESSAGE_WEIGHT * sum_by count_of (acts_from node entries) ≤ diary_weight (entry ∷ entries) = omega arith in
        light
    weighs false rest =
        let all = whole in
        let first : MESSAGE_WEIGHT * length entry.sends ≤ sends_weight entry.sends = sends_weigh entry.sends in
        let sum : sum_by count_of (act_from node entry ∷ acts_from node entries) ≡ length entry.sends + sum_by count_of (acts_from node entries) = sum_by-cons count_of (act_from node entry) (acts_from node entries) in
        let heavy : MESSAGE_WEIGHT * sum_by count_of (act_from node entry ∷ acts_from node entries) ≤ diary_weight (entry ∷ entries) = omega arith in
        heavy

all_weigh : (diaries : List Diary) → Each (λ (diary : Diary). IsWithinLimits diary.entries) diaries → MESSAGE_WEIGHT * sum_by count_of (acts_of diaries) ≤ DIARY_WEIGHT_LIMIT * length diaries
all_weigh [] h = omega arith
all_weigh (diary ∷ diaries) h =
    let rest = all_weigh diaries h.1 in
    let first = acts_weigh diary.node diary.entries in
    let light = h.0.in_weight in
    let sum = sum_by-append count_of (acts_from diary.node diary.entries) (acts_of diaries) in
    omega arith

-- there are no more diaries than numbers of nodes
apart_all : (x : ℕ) (xs : List ℕ) → ¬ In x xs → AllByRecursion (λ y. (x == y) ≡ false) xs
apart_all x [] none = tt
apart_all x (y ∷ ys) none = (ne_eqb x y (λ e. none (inl (sym e))), apart_all x ys (λ there. none (inr there)))

distinct_by : (xs : List ℕ) → Distinct xs → IsDistinct (λ x y. x == y) xs
unfolding IsDistinct
distinct_by [] h = tt
distinct_by (x ∷ xs) h = (apart_all x xs h.0, distinct_by xs h.1)

few_nodes : (nodes : List ℕ) → Distinct nodes → Each (λ node. node < NODES) nodes → length nodes ≤ NODES
few_nodes nodes once below = length-le_from_distinct_below nodes NODES (distinct_by nodes once) (λ q there.
    let k = in_passes (λ (y : ℕ). q == y) nodes there in
    let same : q ≡ k.0 = eqb-true q k.0 k.2 in
    subst (λ (n : ℕ). n < NODES) (sym same) (each_in (λ (node : ℕ). node < NODES) nodes below k.0 k.1))

pub few_sent : (diaries : List Diary) → Each (λ (diary : Diary). IsWithinLimits diary.entries) diaries → Distinct (nodes_of diaries) → Each (λ (node : ℕ). node < NODES) (nodes_of diaries) → sum_by count_of (acts_of diaries) < 2 ^ 32
few_sent diaries light once below =
    let few = few_nodes (nodes_of diaries) once below in
    let long : length (nodes_of diaries) ≡ length diaries = length-map diaries (λ (diary : Diary). diary.node) in
    let weight = all_weigh diaries light in
    omega arith
