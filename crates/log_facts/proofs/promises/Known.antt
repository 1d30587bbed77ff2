-- A holder's window sees what its line names and all that is finished.
use Rattle.std.proofs.Common.{◌≡◌, ◌<◌, ℕ, List, map, sym, ap, ◌∙◌, subst}
use Rattle.list_facts.specs.Lists.{In}
use Rattle.rec_id.specs.Identity.{Identity}
use Rattle.rec_id.specs.Line.{named_id}
use Rattle.rec_id.specs.declared.entry.Entry.{Entry}
use Rattle.view_config.specs.Shape.{Dimensions}
use Rattle.std.specs.Prelude.{Ok}
use Rattle.lazy_rules.specs.Holders.{holders, holding}
use Rattle.lazy_rules.specs.Lines.{first_stores, line_over, line_told}
use Rattle.lazy_rules.specs.WorldState.{WorldState}
use Rattle.log_facts.specs.Ghosts.{Ghost}
use Rattle.log_facts.specs.Promises.{Known, holder_window}
use Rattle.log_facts.proofs.lines.Finals.{IsAgreed}
use Rattle.log_facts.proofs.lines.Holders.{ids_are, own_ids}
use Rattle.log_facts.proofs.lines.Spared.{holder_goes_on}
use Rattle.log_facts.proofs.lines.Stores.{told_line}

pub known : (shape : Dimensions) (g : Ghost) (w : WorldState) → IsAgreed shape g w → (holder : ℕ) (line : List Entry) → In holder (holders w) → line_told w holder ≡ Ok line → Known w holder line
known shape g w is holder line h told =
    let spared = told_line w holder line told in
    let goes = holder_goes_on shape g w is.agreed holder h in
    let over : line_over shape (first_stores w) (holding w holder) ≡ line = ap (λ (d : Dimensions). line_over d (first_stores w) (holding w holder)) (sym is.shaped) ∙ spared.1 in
    let named : map named_id line ≡ own_ids shape g w is spared.0 (holding w holder).bound (holder_window w holder) (holding w holder).items goes =
    ap (map named_id) (sym over) ∙ ids_are shape g w is spared.0 (holding w holder).bound (holder_window w holder) (holding w holder).items goes in
    record {
      sees = λ id m. goes.held.sees.known id (subst (λ (ids : List Identity). In id ids) named m);
      stands = λ id client some seen. subst (λ (ids : List Identity). In id ids) (sym named) (goes.held.sees.seen id (subst (λ (d : Dimensions). id.client < d.clients) is.shaped client) some seen);
      finished = λ id ended. goes.held.sees.known id (goes.held.past.ended id ended);
    }
