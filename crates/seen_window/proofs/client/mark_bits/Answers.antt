use Rattle.std.proofs.Common.{◌≡◌, ℕ, ◌-◌, ◌*◌, ◌<◌, ◌&&◌, ◌||◌, List, Bool, length, eqb, leb, max, arith, rules, ap, sym, ◌∙◌}
use Rattle.std.proofs.lemmas.Bool.{le-leb}
use Rattle.rec_id.specs.declared.marks.Marks.{Marks}
use Rattle.rec_id.specs.Marks.{bit_of}
use Rattle.seen_window.proofs.Formed.{formed_facts}
use Rattle.seen_window.proofs.OneMark.{mark_is}
use Rattle.seen_window.proofs.client.mark_bits.Goals as goal
use Rattle.seen_window.proofs.client.mark_bits.Goals.{then-number-top, else-number-top}

pub returns : goal.returns
returns c =
    let marks : Marks = record { top = c.args.top; bits = c.args.bits.now } in
    let number = c.args.number in
    let top : ℕ = max marks.top number in
    let by : ℕ = top - marks.top in
    let moved = c.if-number-top.bits in
    let bits = c.set_bit.new.bits in
    let same_length : length moved ≡ length marks.bits = search rules in
    let long : length bits ≡ length marks.bits = search rules in
    let greatest : c.max-greatest.result ≡ top = omega arith in
    let moved_is : (j : ℕ) → j < 64 * length marks.bits → bit_of moved j ≡ (leb by j && bit_of marks.bits (j - by)) =
    elim c.if-number-top.branch [
      | then-number-top w ↦ λ j inside.
          let rise : c.args.number - c.args.top ≡ by = omega arith in
          ap (λ (words : List ℕ). bit_of words j) w.bits-is ∙ w.move_up.ensures j inside
          ∙ ap (λ (k : ℕ). leb k j && bit_of marks.bits (j - k)) rise
      | else-number-top w ↦ λ j inside.
          let stays : 0 ≡ by = omega arith in
          let here : j ≡ j - 0 = omega arith in
          ap (λ (words : List ℕ). bit_of words j) w.bits-is ∙ ap (bit_of marks.bits) here
          ∙ sym (ap (λ (b : Bool). b && bit_of marks.bits (j - 0)) (le-leb 0 j (omega arith)))
          ∙ ap (λ (k : ℕ). leb k j && bit_of marks.bits (j - k)) stays
    ] in
    let set_is : (j : ℕ) → j < 64 * length marks.bits → bit_of bits j ≡ (eqb j (top - number) || bit_of moved j) =
    λ j inside. c.set_bit.ensures j (omega arith) ∙ ap (λ (t : ℕ). eqb j (t - number) || bit_of moved j) greatest in
    ap (λ (t : ℕ). let made : Marks = record { top = t; bits = bits } in made) greatest
    ∙ mark_is marks number c.requires.numbered (formed_facts (length marks.bits) marks c.requires.formed) moved bits c.type_inv.bits long moved_is set_is
