-- What Placed, Ordered and Copied say, while their senders are in the message's view.
use Rattle.std.proofs.Common.{◌≡◌, ℕ, ◌<◌, ◌≤◌, List, [], ◌∷◌, true, Option, Some, None, slice_get, refl, sym, ap, ◌∙◌, arith}
use Rattle.std.specs.Prelude.{option_map}
use Rattle.std.proofs.lemmas.Bool.{eqb-true}
use Rattle.list_facts.proofs.Cases.{by_test}
use Rattle.list_facts.proofs.Places.{each_at}
use Rattle.rec_id.specs.declared.item.Cell.{Cell}
use Rattle.view_config.specs.Shape.{Dimensions}
use Rattle.lazy_rules.specs.Pushing.{length_of}
use Rattle.lazy_rules.specs.Roles.{is_first, replicas_at}
use Rattle.lazy_rules.specs.ShardState.{ShardState}
use Rattle.lazy_rules.specs.WorldState.{WorldState}
use Rattle.log_facts.specs.Ghosts.{Ghost}
use Rattle.log_facts.specs.Handed.{CellBegun}
use Rattle.log_facts.specs.Parts.{parts_of, home_of}
use Rattle.log_facts.specs.Promises.{AgreeAt, CopiedFact, OrderedFact, PlacedFact, replica}
use Rattle.log_facts.specs.Says.{CopiedSays, OrderedSays, PlacedSays}
use Rattle.log_facts.specs.Signs.{Sign, ordered_at, sign_at, sign_of}
use Rattle.log_facts.proofs.lines.Finals.{IsAgreed}
use Rattle.log_facts.proofs.promises.Bodies.{cells_agree}

module _ (shape : Dimensions) (g : Ghost) (w : WorldState) (is : IsAgreed shape g w) (sender view upto : ℕ) where
  pub placed : PlacedSays g.views (parts_of w).shards sender view upto → PlacedFact w g.views sender view upto
  placed says = record {
    each = λ d among own. let settled = (says.settled d among).settled own in (settled.has, settled.whole);
  }

  pub ordered : OrderedSays g.views ((parts_of w).seqs sender) sender view upto → OrderedFact w sender view upto
  ordered says = record { bound = says.has }

  begun : (d place : ℕ) (cell : Cell) → slice_get (replica w d).store.order place ≡ Some cell → CellBegun w.history cell
  begun d place cell here = each_at (CellBegun w.history) (replica w d).store.order (is.agreed.bytes d).cells place cell here

  signs_agree : (d e place : ℕ) → sign_at (replica w d) place ≡ sign_at (replica w e) place → AgreeAt w d e place
  signs_agree d e place same one other at there =
      let first : sign_at (replica w d) place ≡ Some (sign_of one) = ap (λ (o : Option Cell). option_map sign_of o) at in
      let second : sign_at (replica w e) place ≡ Some (sign_of other) = ap (λ (o : Option Cell). option_map sign_of o) there in
      cells_agree w.history is.agreed.history.appends.begun_once one other (sym first ∙ same ∙ second) (begun d place one at) (begun e place other there)

  -- in one view a shard has one primary
  one_first : (nodes : List ℕ) (d e : ℕ) → is_first nodes d ≡ true → is_first nodes e ≡ true → d ≡ e
  one_first [] d e f h = cc
  one_first (node ∷ nodes) d e f h = sym (eqb-true node d f) ∙ eqb-true node e h

  one_primary : (d e : ℕ) → home_of e ≡ home_of d → 1 ≤ view → (replica w d).view ≡ view → (replica w e).view ≡ view → (replica w d).primary ≡ true → (replica w e).primary ≡ true → d ≡ e
  one_primary d e home some own also first second =
      let rank = is.agreed.shards.ranks d (omega arith) in
      let other = is.agreed.shards.ranks e (omega arith) in
      let list : replicas_at (g.views.cf (replica w e).view) (home_of e) ≡ replicas_at (g.views.cf (replica w d).view) (home_of d) = ap (λ (n : ℕ). replicas_at (g.views.cf n) (home_of e)) (also ∙ sym own) ∙ ap (replicas_at (g.views.cf (replica w d).view)) home in
      one_first (replicas_at (g.views.cf (replica w d).view) (home_of d)) d e (sym rank.first ∙ first) (ap (λ (nodes : List ℕ). is_first nodes e) (sym list) ∙ sym other.first ∙ second)

  copied_same : (p place : ℕ) → 1 ≤ view → home_of p ≡ home_of sender → (replica w sender).view ≡ view → (replica w p).view ≡ view → (replica w p).primary ≡ true → place < length_of (replica w sender) → sign_at (replica w sender) place ≡ sign_at (replica w p) place
  copied_same p place some home own also leads below = by_test (replica w sender).primary
      (λ first. ap (λ (n : ℕ). sign_at (replica w n) place) (one_primary sender p home some own also first leads))
      (λ follows. (is.agreed.places.among.copies sender p (sym home) (omega arith) (own ∙ sym also) follows leads).same place below)

  named : (s : ShardState) (place : ℕ) → ordered_at s place ≡ option_map (λ (sign : Sign). sign.id) (sign_at s place)
  named s place = by (slice_get s.store.order place)
    where
      by : (o : Option Cell) → option_map (λ (cell : Cell). cell.id) o ≡ option_map (λ (sign : Sign). sign.id) (option_map sign_of o)
      by None = refl
      by (Some cell) = refl

  pub copied : CopiedSays (replica w sender) view upto → CopiedFact w sender view upto
  copied says = record {
    has = says.has;
    same = λ p place some home own also leads below.
        let enough = says.has own in
        let same = copied_same p place some home own also leads (omega arith) in
        (named (replica w sender) place ∙ ap (λ (o : Option Sign). option_map (λ (sign : Sign). sign.id) o) same ∙ sym (named (replica w p) place), signs_agree sender p place same);
  }
