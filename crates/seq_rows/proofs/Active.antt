-- A replica that is active in a view: it took that view, and isn't shut for it, so it didn't close it.
use Rattle.std.proofs.Common.{◌≡◌, ◌≢◌, ℕ, ◌<◌, ◌≤◌, true, false, not, ◌&&◌, eqb, nat_le, inl, inr, sym, ap, ◌∙◌, subst, arith}
use Rattle.std.proofs.lemmas.Bool.{and_parts, eqb-true, leb-true, not-true}
use Rattle.list_facts.specs.Lists.{In}
use Rattle.view_config.specs.Shape.{Dimensions}
use Rattle.view_config.specs.declared.config.Config.{Config}
use Rattle.lazy_rules.specs.Roles.{is_first}
use Rattle.lazy_rules.specs.SeqRules.{is_active, is_following, is_leader}
use Rattle.lazy_rules.specs.SeqState.{SeqState}
use Rattle.log_facts.specs.Finality.{IsShut}
use Rattle.log_facts.specs.Ghosts.{Ghost, IsStarted}
use Rattle.log_facts.specs.Good.{Moment}
use Rattle.log_facts.specs.Parts.{Parts}

pub record IsActive (s : SeqState) (view : ℕ) : Type 0 where
  pub own : s.view ≡ view
  pub some : 1 ≤ view
  pub unsealed : s.sealed ≡ false

pub active : (s : SeqState) (view : ℕ) → is_active s view ≡ true → IsActive s view
active s view h =
    let outer = and_parts (eqb s.view view && nat_le 1 view) (not s.sealed) h in
    let inner = and_parts (eqb s.view view) (nat_le 1 view) outer.0 in
    record { own = eqb-true s.view view inner.0; some = leb-true 1 view inner.1; unsealed = not-true s.sealed outer.1 }

pub record IsFollowing (s : SeqState) (view : ℕ) : Type 0 where
  pub active : IsActive s view
  pub follows : is_leader s ≡ false

pub following : (s : SeqState) (view : ℕ) → is_following s view ≡ true → IsFollowing s view
following s view h =
    let parts = and_parts (is_active s view) (not (is_leader s)) h in
    record { active = active s view parts.0; follows = not-true (is_leader s) parts.1 }

pub never_sealed : {A : Type 0} (s : SeqState) (view : ℕ) → IsActive s view → s.sealed ≡ true → A
never_sealed s view act sealed = let wrong : true ≡ false = sym sealed ∙ act.unsealed in cc

pub not_shut : (s : SeqState) (view : ℕ) → IsActive s view → ¬ IsShut s view
not_shut s view act (inl past) = let own = act.own in omega arith
not_shut s view act (inr (inl sealed)) = never_sealed s view act sealed.1
not_shut s view act (inr (inr barred)) = let own = act.own in let below = barred.0 in omega arith

module _ (shape : Dimensions) (g : Ghost) (a : Parts) (me : ℕ) (moment : Moment shape g a) where
  abbrev s : SeqState
  s = a.seqs me

  -- it leads its view exactly where it is the first of it
  pub leads_is : 1 ≤ s.view → is_leader s ≡ is_first (g.views.cf s.view).seq me
  leads_is some =
      ap (λ (config : Config). is_first config.seq s.node) ((moment.agreed.seqs me).joined some).config
      ∙ ap (is_first (g.views.cf s.view).seq) (moment.formed.seqs me).numbered

  module _ (view : ℕ) (act : IsActive s view) where
    taken : 1 ≤ s.view
    taken = let own = act.own in let some = act.some in omega arith

    pub started : IsStarted g.views view
    started = subst (IsStarted g.views) act.own ((moment.agreed.seqs me).joined taken).started

    pub member : In me (g.views.cf view).seq
    member = subst (λ (w : ℕ). In me (g.views.cf w).seq) act.own ((moment.agreed.seqs me).joined taken).member

    pub first_is : is_leader s ≡ is_first (g.views.cf view).seq me
    first_is = subst (λ (w : ℕ). is_leader s ≡ is_first (g.views.cf w).seq me) act.own (leads_is taken)

    -- no closed view is behind it, but its own
    pub known : view ≤ g.views.cur
    known = let own = act.own in let known = (moment.agreed.seqs me).known in let latest = moment.agreed.views.started.latest in omega arith

    pub live : view ≡ g.views.cur → g.views.lv ≡ g.views.cur
    live now = let own = act.own in let known = (moment.agreed.seqs me).known in let latest = moment.agreed.views.started.latest in omega arith

    pub no_closer : view < g.views.cur → me ≢ g.views.cx view
    no_closer below is =
        let closed = moment.agreed.among_seqs.closers view act.some below in
        not_shut s view act (subst (λ (w : ℕ). IsShut s w) started.is (subst (λ (n : ℕ). IsShut (a.seqs n) (g.views.sv view)) (sym is) closed.shut))
