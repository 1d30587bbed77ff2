-- What a step on a word tells the end that makes it: its view before, the number found, and the view after.
use Rattle.std.specs.Prelude.{ℕ, ◌-◌, ◌≤◌, ◌≡◌, ◌≢◌, List, length, slice_index_or, ◌==◌, ◌||◌, if◌then◌else◌}
use Rattle.list_facts.specs.Lists.{In}
use Rattle.atomic_table.specs.Table.{Step, Me}
use Rattle.rec_id.specs.Identity.{Identity, IsIdentity}
use Rattle.stable_board.specs.declared.claim.BoardClaim.{BoardClaim}
use Rattle.stable_board.specs.declared.views.Published.{Published}
use Rattle.stable_board.specs.declared.views.Peeked.{Peeked}
use Rattle.stable_board.specs.declared.views.View.{View}
use Rattle.stable_board.specs.declared.views.View.TheVariants.{Keeps, Publishes, Peeks}
use Rattle.stable_board.specs.Claims.{packed_claim, claim_in, identity_in}
use Rattle.stable_board.specs.Rule.{IsBoard, no_published, no_peeked}
use Rattle.stable_board.specs.Steps.{with_verified, with_raised, with_stop, with_claim, with_note}
use Rattle.stable_board.specs.Views.{words_of}

-- what was noted of this place before is this identity
abbrev pub Agrees : List (ℕ × Identity) → ℕ → Identity → Type 0
Agrees notes place identity = (noted : ℕ × Identity) → In noted notes → noted.0 ≡ place → noted.1 ≡ identity

-- what a publisher did, once the word of a place was found to be this, and set to its own identity if it was 0
abbrev pub after_set : ℕ → ℕ → ℕ → Published → Published
after_set place own found did = if found == 0 || found == own then with_verified did (identity_in own) else with_stop did (place, identity_in found)

-- a word that isn't 0 is an identity, and the one that it was
pub record IsFound (notes : List (ℕ × Identity)) (place found : ℕ) : Type 0 where
  pub valid : IsIdentity (identity_in found)
  pub agrees : Agrees notes place (identity_in found)

abbrev pub Sets : ℕ → ℕ → View → ℕ → View → Type 0
Sets place own (Publishes n did) found view = (view ≡ Publishes n (after_set place own found did)) × (found ≢ 0 → IsFound did.stops place found)
Sets place own before found view = view ≡ before

abbrev pub Raises : ℕ → View → View → Type 0
Raises word (Publishes n did) view = view ≡ Publishes n (with_raised did ((claim_in word).stable, (claim_in word).time))
Raises word before view = view ≡ before

-- word 0 is within its limits, and not below what it was
pub record IsTop (claims : List BoardClaim) (found : ℕ) : Type 0 where
  pub stable : (claim_in found).stable ≤ 65536
  pub up : (claim : BoardClaim) → In claim claims → packed_claim claim ≤ found

abbrev pub Looks : View → ℕ → View → Type 0
Looks (Peeks n saw) found view = (view ≡ Peeks n (with_claim saw (claim_in found))) × IsTop saw.claims found
Looks before found view = view ≡ before

abbrev pub Notes : ℕ → View → ℕ → View → Type 0
Notes place (Peeks n saw) found view = (view ≡ Peeks n (with_note saw (place, identity_in found))) × IsFound saw.notes place found
Notes place before found view = view ≡ before

-- the rule over these words and over all that was ever done and seen, by its numbers
pub record IsSettled (published : List Published) (peeked : List Peeked) (top : ℕ) : Type 0 where
  pub words : List ℕ
  pub count : length words ≡ 65537
  pub top_is : top ≡ words_of words 0
  pub board : IsBoard (words_of words) (λ n. slice_index_or published n no_published) (λ n. slice_index_or peeked n no_peeked)

abbrev pub Settles : View → ℕ → View → Type 0
Settles (Keeps known) found view = (view ≡ Keeps known) × IsSettled known.published known.peeked found
Settles before found view = view ≡ before

module _ {S : Type 0} where
  abbrev pub set_told : Step S → Me S View → ℕ → Me S View → Type 0
  set_told step before found after = (after.1 ≡ before.1) × Sets (step.word - 1) step.second before.0 found after.0

  abbrev pub raise_told : Step S → Me S View → ℕ → Me S View → Type 0
  raise_told step before found after = (after.1 ≡ before.1) × Raises step.first before.0 after.0

  abbrev pub look_told : Step S → Me S View → ℕ → Me S View → Type 0
  look_told step before found after = (after.1 ≡ before.1) × Looks before.0 found after.0

  abbrev pub note_told : Step S → Me S View → ℕ → Me S View → Type 0
  note_told step before found after = (after.1 ≡ before.1) × Notes (step.word - 1) before.0 found after.0

  abbrev pub settle_told : Step S → Me S View → ℕ → Me S View → Type 0
  settle_told step before found after = (after.1 ≡ before.1) × Settles before.0 found after.0
