-- A replica that leads its view, which may be the current one or a closed one, and what its configuration says of it.
use Rattle.std.proofs.Common.{◌≡◌, ℕ, ◌≤◌, List, [], ◌∷◌, true, false, inl, inr, sym, ap, ◌∙◌, arith}
use Rattle.std.proofs.lemmas.Bool.{and_parts, eqb-true, leb-true, not-true}
use Rattle.std.specs.Prelude.{not, nat_le, ◌==◌, ◌&&◌}
use Rattle.list_facts.specs.Lists.{Each, In}
use Rattle.view_config.specs.Shape.{Dimensions}
use Rattle.lazy_rules.specs.Roles.{is_first}
use Rattle.lazy_rules.specs.SeqRules.{is_active, is_leader, is_leading, has_positions}
use Rattle.lazy_rules.specs.SeqState.{SeqState}
use Rattle.log_facts.specs.Finality.{IsShut}
use Rattle.log_facts.specs.Ghosts.{Ghost, Views}
use Rattle.log_facts.specs.Good.{Moment}
use Rattle.log_facts.specs.Parts.{Parts}
use Rattle.log_facts.specs.facts.OfSeqs.{BatchNoted, FlightFacts, JoinedFacts, LeaderReads, SeqFacts}

-- it took the view, isn't sealed, and is the first of its configuration
pub record Leading (s : SeqState) : Type 0 where
  pub some : 1 ≤ s.view
  pub unsealed : s.sealed ≡ false
  pub leads : is_leader s ≡ true

-- the first is one of them
pub first_member : (nodes : List ℕ) (node : ℕ) → is_first nodes node ≡ true → In node nodes
first_member [] node h = let wrong : false ≡ true = h in cc
first_member (z ∷ zs) node h = inl (eqb-true z node h)

-- the test of the rules
pub leading_of : (s : SeqState) (view : ℕ) → is_leading s view ≡ true → Leading s × (s.view ≡ view)
leading_of s view h =
    let all = and_parts (is_active s view && is_leader s) (has_positions s) h in
    let both = and_parts (is_active s view) (is_leader s) all.0 in
    let active = and_parts (s.view == view && nat_le 1 view) (not s.sealed) both.0 in
    let own = and_parts (s.view == view) (nat_le 1 view) active.0 in
    let is : s.view ≡ view = eqb-true s.view view own.0 in
    let some = leb-true 1 view own.1 in
    (record { some = omega arith; unsealed = not-true s.sealed active.1; leads = both.1 }, is)

module _ (shape : Dimensions) (g : Ghost) (a : Parts) (me : ℕ) (moment : Moment shape g a) (leading : Leading (a.seqs me)) where
  abbrev s : SeqState
  s = a.seqs me

  abbrev v : Views
  v = g.views

  abbrev pub facts : SeqFacts shape v a.history me s
  facts = moment.agreed.seqs me

  pub joined : JoinedFacts v me s
  joined = facts.joined leading.some

  pub flying : FlightFacts a.history s
  flying = facts.leads leading.leads

  pub reads : LeaderReads v g.log a.history a.seqs s
  reads = moment.agreed.among_seqs.reads me leading.some leading.leads

  pub noted : Each (BatchNoted v a.seqs a.shards s) s.flight
  noted = moment.agreed.among_seqs.noted me

  -- it is the first member of its view
  pub first : is_first (v.cf s.view).seq me ≡ true
  first =
      let is = joined.config in
      let own = (moment.formed.seqs me).numbered in
      ap (λ (config : _). is_first config.seq me) (sym is) ∙ ap (is_first s.config.seq) (sym own) ∙ leading.leads

  -- no view is later than the current one
  pub known : s.view ≤ v.cur
  known = let own = facts.known in let latest = moment.agreed.views.started.latest in omega arith

  -- a view that is current is live
  pub live : s.view ≡ v.cur → v.lv ≡ v.cur
  live now = let own = facts.known in let latest = moment.agreed.views.started.latest in omega arith

  -- it isn't shut for its view
  pub open_there : ¬ IsShut s s.view
  open_there (inl past) = absurd (omega arith)
  open_there (inr (inl sealed)) = let wrong : true ≡ false = sym sealed.1 ∙ leading.unsealed in absurd cc
  open_there (inr (inr barred)) = let below = barred.0 in absurd (omega arith)
