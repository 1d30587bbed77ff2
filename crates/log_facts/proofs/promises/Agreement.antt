-- All replicas of the newest configuration agree below what may be bound, and every replica does with them below its
-- stable number.
use Rattle.std.proofs.Common.{◌≡◌, ℕ, ◌<◌, ◌≤◌, Option, Some, slice_get, inl, inr, sym, ap, ◌∙◌, subst, arith}
use Rattle.std.specs.Prelude.{option_map}
use Rattle.std.proofs.lemmas.Bool.{cases_lt}
use Rattle.list_facts.proofs.Places.{each_at}
use Rattle.rec_id.specs.declared.item.Cell.{Cell}
use Rattle.view_config.specs.Shape.{Dimensions}
use Rattle.lazy_rules.specs.Pushing.{length_of}
use Rattle.lazy_rules.specs.WorldState.{WorldState}
use Rattle.log_facts.specs.Finality.{IsFinal}
use Rattle.log_facts.specs.Ghosts.{Ghost}
use Rattle.log_facts.specs.Handed.{BodyFloored, CellBegun, CellFloored}
use Rattle.log_facts.specs.Parts.{home_of}
use Rattle.log_facts.specs.Promises.{AgreeAt, Agreement, IsFloored, IsListed, replica}
use Rattle.log_facts.specs.Signs.{ordered_at, sign_at, sign_of}
use Rattle.log_facts.proofs.Places.{each_from_first}
use Rattle.log_facts.proofs.lines.Finals.{IsAgreed, at_home, final, final_cell, there}
use Rattle.log_facts.proofs.promises.Bodies.{cells_agree}

module _ (shape : Dimensions) (g : Ghost) (w : WorldState) (is : IsAgreed shape g w) where
  -- what is stable is final, at every replica
  pub stable_final : (d place : ℕ) → 1 ≤ (replica w d).view → place < (replica w d).store.stable → IsFinal g.views g.log.high (replica w d).view place
  stable_final d place some below =
      let facts = is.agreed.places.finals d some in
      let stable = facts.stable in
      let rank = is.agreed.shards.ranks d some in
      let known = rank.known in
      let high = is.agreed.line.low in
      elim (cases_lt (replica w d).view g.views.cur) [
        | inl old ↦ let closed = facts.closed old in inr (old, omega arith)
        | inr now ↦ inl (omega arith, omega arith)
      ]

  begun : (d place : ℕ) (cell : Cell) → slice_get (replica w d).store.order place ≡ Some cell → CellBegun w.history cell
  begun d place cell here = each_at (CellBegun w.history) (replica w d).store.order (is.agreed.bytes d).cells place cell here

  -- two replicas of a shard agree where the place is final for both
  finals_agree : (d e place : ℕ) → home_of d ≡ home_of e → 1 ≤ (replica w d).view → 1 ≤ (replica w e).view → IsFinal g.views g.log.high (replica w d).view place → IsFinal g.views g.log.high (replica w e).view place → AgreeAt w d e place
  finals_agree d e place home some more f h one other at there_too =
      let same : sign_at (replica w d) place ≡ sign_at (replica w e) place = is.agreed.places.among.agree d e home some more place f h in
      let first : sign_at (replica w d) place ≡ Some (sign_of one) = ap (λ (o : Option Cell). option_map sign_of o) at in
      let second : sign_at (replica w e) place ≡ Some (sign_of other) = ap (λ (o : Option Cell). option_map sign_of o) there_too in
      cells_agree w.history is.agreed.history.appends.begun_once one other (sym first ∙ same ∙ second) (begun d place one at) (begun e place other there_too)

  -- what is final has the line's identity
  final_named : (d place : ℕ) → 1 ≤ (replica w d).view → IsFinal g.views g.log.high (replica w d).view place → ordered_at (replica w d) place ≡ slice_get g.log.line place
  final_named d place some f =
      let at = final_cell shape g w is d place some f in
      ap (λ (o : Option Cell). option_map (λ (cell : Cell). cell.id) o) at.here ∙ sym at.in_line

  module _ (bound : ℕ) (least : g.log.low ≤ bound) (most : bound ≤ g.log.high) where
    last : (shard d place : ℕ) → IsListed w shard d → place < bound → IsFinal g.views g.log.high (replica w d).view place
    last shard d place h below = final shape g w is shard d place h (omega arith)

    long : (shard d : ℕ) → IsListed w shard d → bound ≤ length_of (replica w d)
    long shard d h = elim (cases_lt (length_of (replica w d)) bound) [
      | inl short ↦
          let within = (is.agreed.places.finals d (there shape g w is shard d h)).has (length_of (replica w d)) (last shard d (length_of (replica w d)) h short) in
          absurd (omega arith)
      | inr enough ↦ enough
    ]

    stable_bound : (d place : ℕ) → 1 ≤ (replica w d).view → place < (replica w d).store.stable → place < bound
    stable_bound d place some below = let stable = (is.agreed.places.finals d some).stable in omega arith

    pub agreement : Agreement w bound
    agreement = record {
      has = long;
      same = λ i d j e place h k below.
          final_named d place (there shape g w is i d h) (last i d place h below) ∙ sym (final_named e place (there shape g w is j e k) (last j e place k below));
      bodies = λ shard d e place h k below.
          finals_agree d e place (at_home shape g w is shard d h ∙ sym (at_home shape g w is shard e k)) (there shape g w is shard d h) (there shape g w is shard e k) (last shard d place h below) (last shard e place k below);
      whole = λ shard d h place sign below at. (is.agreed.places.finals d (there shape g w is shard d h)).decided place sign (last shard d place h below) at;
      stable_same = λ d j e place some k below.
          final_named d place some (stable_final d place some below) ∙ sym (final_named e place (there shape g w is j e k) (last j e place k (stable_bound d place some below)));
      stable_bodies = λ d e place some k below.
          finals_agree d e place (sym (at_home shape g w is (home_of d) e k)) some (there shape g w is (home_of d) e k) (stable_final d place some below) (last (home_of d) e place k (stable_bound d place some below));
    }

  pub is_floored : (d : ℕ) → IsFloored w d
  is_floored d = record {
    gone = λ place cell here gone.
        let floored : CellFloored (replica w d).store.floor place cell = each_from_first (CellFloored (replica w d).store.floor) (replica w d).store.order (is.agreed.shards.stores d).floored place cell here in
        subst (BodyFloored (replica w d).store.floor place) gone floored;
    within = (is.agreed.shards.stores d).within;
  }
