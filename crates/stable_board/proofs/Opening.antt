-- A board of 65,537 words that are 0, and a keeper that has made nothing, meets the rule.
use Rattle.std.proofs.Common.{◌≡◌, ℕ, zero, suc, ◌+◌, List, [], ◌∷◌, length, refl, sym, ap, ◌∙◌, subst, inl, arith, None}
use Rattle.std.specs.Prelude.{slice_index, replicate}
use mathlib.Core.Option.{some, some-injective, some-ne-none}
use lib.ListN.{get_elem?}
use Rattle.stable_board.specs.declared.views.View.{View}
use Rattle.stable_board.specs.Rule.{IsBoard, no_published, no_peeked}
use Rattle.stable_board.specs.Views.{Ends, IsRegister, Fits, Holds, words_of, keeps as keeps_ends}

abbrev nobody : Ends
nobody = record { published = λ _. no_published; peeked = λ _. no_peeked; publisher_seat = λ _. None; peeker_seat = λ _. None }

zeros : (count i : ℕ) → slice_index (replicate count 0) i ≡ 0
zeros zero i = grind arith
zeros (suc count) zero = refl
zeros (suc count) (suc i) = zeros count i

keeper : IsRegister nobody 0 (record { publishers = 0; peekers = 0; published = []; peeked = [] })
keeper = record {
  seat_is = refl;
  published = λ n lt. absurd (omega (arith, lt));
  peeked = λ n lt. absurd (omega (arith, lt));
  no_publisher = λ n le. (refl, refl);
  no_peeker = λ n le. (refl, refl);
  publishers_ended = omega arith;
  peekers_ended = omega arith;
}

blank : (count : ℕ) → IsBoard (words_of (replicate count 0)) (λ _. no_published) (λ _. no_peeked)
blank count = record {
  verified = λ n place id at. absurd (cc);
  raised = λ n claim at. absurd at;
  set = λ place. inl (zeros count (place + 1));
  claimed = inl (zeros count 0);
  claims = λ n claim at. absurd at;
  notes = λ n noted at. absurd at;
  stops = λ n noted at. absurd at;
}

pub opens : (words : List ℕ) → words ≡ replicate 65537 0 → Holds words (keeps_ends 0 0 ∷ [])
opens words is = record {
  count = ap (λ (l : List ℕ). length l) is ∙ (grind arith);
  ends = nobody;
  board = subst (λ (l : List ℕ). IsBoard (words_of l) (λ _. no_published) (λ _. no_peeked)) (sym is) (blank 65537);
  fits = first;
}
  where
    first : (seat : ℕ) (view : View) → get_elem? (keeps_ends 0 0 ∷ []) seat ≡ some view → Fits nobody seat view
    first zero view e = subst (Fits nobody 0) (some-injective _ _ e) keeper
    first (suc seat) view e = absurd (some-ne-none view (sym e))
