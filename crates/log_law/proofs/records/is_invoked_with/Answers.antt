use Rattle.std.proofs.Common.{ℕ, ◌+◌, List, Option, Some, refl, sym, ap, ◌∙◌, subst}
use Rattle.std.proofs.lemmas.Option.{slice_get_read, same_Some}
use Rattle.law_cases.proofs.Decide.{yes_decides, no_decides}
use Rattle.rec_id.specs.declared.event.Event.TheVariants.{Invoke}
use Rattle.log_law.specs.Keys.{IsNext}
use Rattle.log_law.specs.Told.{id_key}
use Rattle.log_law.proofs.InvokedRecords.{none_first, none_next, none_with}
use Rattle.log_law.proofs.records.is_invoked_with.Goals as goal

pub loop-i-init : goal.loop-i-init
loop-i-init c =
    let first = subst (λ (ks : List (Option (ℕ × ℕ))). IsNext ks 0 (id_key c.args.id) c.first-i.result) c.requires (subst (λ (k : ℕ × ℕ). IsNext c.args.invoked.now 0 k c.first-i.result) c.id_key-key.ensures c.first-i.ensures) in
    record { within = c.first-i.ensures.within; stands = c.first-i.ensures.stands; none = none_first c.args.history.now c.args.id c.args.bytes.now c.first-i.result first }

pub returns-then-invokes : goal.returns-then-invokes
returns-then-invokes c =
    let here = slice_get_read _ _ _ _ refl c.loop-i-test.true c.index-history-i.is in
    yes_decides (record { index = c.loop-i.i; stands = here ∙ ap Some (c.invokes.ensures.0 c.if-invokes.true) })

pub loop-i-preserved : goal.loop-i-preserved
loop-i-preserved c =
    let here = slice_get_read _ _ _ _ refl c.loop-i-test.true c.index-history-i.is in
    let next = subst (λ (ks : List (Option (ℕ × ℕ))). IsNext ks (c.loop-i.i + 1) (id_key c.args.id) c.next-i.result) c.requires (subst (λ (k : ℕ × ℕ). IsNext c.args.invoked.now (c.loop-i.i + 1) k c.next-i.result) c.id_key-key.ensures c.next-i.ensures) in
    record {
      within = c.next-i.ensures.within;
      stands = c.next-i.ensures.stands;
      none = none_next c.args.history.now c.args.id c.args.bytes.now c.loop-i.i c.next-i.result next c.loop-i.invariant.none
          (λ e. (let yes = c.invokes.ensures.1 (same_Some _ (Invoke c.args.id c.args.bytes.now) (sym here ∙ e)) in let no = c.if-invokes.false in cc));
    }

pub returns : goal.returns
returns c = no_decides (none_with c.args.history.now c.args.id c.args.bytes.now c.loop-i.i c.loop-i-test.false c.loop-i.invariant.none)
