-- What every message that a world sent has: its sizes, an open door, and the form of a frame.
use Rattle.world_facts.specs.Sizes.{Sized, IsSentCell, IsBody, GivesNothingUp, is_gone}
use Rattle.rec_id.specs.declared.item.Body.{Body}
use Rattle.rec_id.specs.declared.item.Body.TheVariants.{Elsewhere, Kept, Noop, Open, Gone}
use Rattle.lazy_msgs.specs.declared.msg.Msg.TheVariants.{Copy, FlushCopy}
use Rattle.view_config.specs.declared.edition.Edition.TheVariants.{One}
use Rattle.rec_id.specs.declared.item.Cell.{Cell}
use Rattle.view_config.specs.Shape.{Dimensions, IsShape}
use Rattle.list_facts.specs.Lists.{Each}
use Rattle.view_config.specs.declared.edition.Edition.{Edition}
use Rattle.lazy_msgs.specs.declared.msg.Envelope.{Envelope}
use Rattle.world_facts.specs.Members.{Goes}
use Rattle.world_facts.specs.SizesOf.{IsOfWords}
use Rattle.lazy_msgs.specs.FrameLimits.{IsTwo, Fits}
use Rattle.world_facts.specs.Turns.{Meets}
use Rattle.lazy_msgs.specs.declared.msg.Msg.{Msg}
use Rattle.lazy_msgs.specs.declared.limits.TheConstants.{TIME_LIMIT}
use Rattle.lazy_msgs.specs.declared.input.WorldEvent.{WorldEvent}
use Rattle.lazy_rules.specs.WorldState.{WorldState, first_world}
use Rattle.world_facts.proofs.Runs.{form_of_run}
use Rattle.world_facts.proofs.sizes.Fits.{from_fits, message_fits, to_fits}
use Rattle.lazy_rules.specs.Door.{is_node, is_turned_away}
use Rattle.world_facts.proofs.sizes.Door.{let_in}
use Rattle.std.specs.List.{list_any}
use Rattle.world_facts.proofs.goes.All.{members_of_run}
use Rattle.world_facts.proofs.Senders.{senders_of_run}
use Rattle.world_facts.proofs.sizes.All.{sizes_of_run}
use Rattle.std.proofs.Common.{arith, refl, subst, ◌≡◌, ◌<◌, ◌≤◌, ◌∷◌, ◌||◌, [], true, false, List, Bool}
use Rattle.lazy_rules.specs.WorldRules.{run}

-- in edition One no data is given up
body_kept : (edition : Edition) → edition ≡ One → (body : Body) → IsBody edition body → is_gone body ≡ false
body_kept edition one Elsewhere h = refl
body_kept edition one (Kept bytes) h = refl
body_kept edition one Noop h = refl
body_kept edition one Open h = refl
body_kept edition one Gone h = absurd (let none : ⊥ = subst IsTwo one h in none)

cells_kept : (shape : Dimensions) → shape.edition ≡ One → (cells : List Cell) → Each (IsSentCell shape) cells → list_any (λ (cell : Cell). is_gone cell.body) cells ≡ false
cells_kept shape one [] h = refl
cells_kept shape one (cell ∷ cells) h =
    or_false (is_gone cell.body) (list_any (λ (cell : Cell). is_gone cell.body) cells) (body_kept shape.edition one cell.body h.0.sized.body) (cells_kept shape one cells h.1)
  where
    or_false : (a b : Bool) → a ≡ false → b ≡ false → (a || b) ≡ false
    or_false true b p q = p
    or_false false b p q = q

kept_in_one : (shape : Dimensions) → shape.edition ≡ One → (msg : Msg) → Sized shape msg → GivesNothingUp msg
kept_in_one shape one (Copy view from cells) h = cells_kept shape one cells h.1.each
kept_in_one shape one (FlushCopy view from cells) h = cells_kept shape one cells h.1.each
kept_in_one shape one _ h = tt

-- of every message that was sent, what holds of each
each_four : {A : Type 0} (P Q R S T : A → Type 0) → ((x : A) → P x → Q x → R x → S x → T x) → (xs : List A) → Each P xs → Each Q xs → Each R xs → Each S xs → Each T xs
each_four P Q R S T f [] p q r s = tt
each_four P Q R S T f (x ∷ xs) p q r s = (f x p.0 q.0 r.0 s.0, each_four P Q R S T f xs p.1 q.1 r.1 s.1)

module _ (shape : Dimensions) (events : List WorldEvent) (formed : IsShape shape) (words : Each (Meets IsOfWords) events) where
  abbrev w : WorldState
  w = run events (first_world shape)

  pub let_in_all : Each (λ (e : Envelope). is_turned_away shape e.from e.msg ≡ false) w.sent
  let_in_all =
      each_four (λ (e : Envelope). is_node shape e.from ≡ true) (λ (e : Envelope). Goes shape e.from e.to e.msg) (λ (e : Envelope). Sized shape e.msg) (λ (e : Envelope). e.time ≤ w.events) (λ (e : Envelope). is_turned_away shape e.from e.msg ≡ false)
      (λ e there goes says past. let_in shape formed e.from e.to e.msg there goes says) w.sent
      (senders_of_run shape events formed).from_nodes (members_of_run shape events formed).sent (sizes_of_run shape events formed words).sent (form_of_run shape events).sent_past

  pub fit_all : w.events < TIME_LIMIT → Each (λ (e : Envelope). GivesNothingUp e.msg → Fits shape.edition e) w.sent
  fit_all early =
      each_four (λ (e : Envelope). is_node shape e.from ≡ true) (λ (e : Envelope). Goes shape e.from e.to e.msg) (λ (e : Envelope). Sized shape e.msg) (λ (e : Envelope). e.time ≤ w.events) (λ (e : Envelope). GivesNothingUp e.msg → Fits shape.edition e)
      (λ e there goes says past up. record {
        from = from_fits shape formed e.from e.to e.msg goes;
        to = to_fits shape formed e.from e.to e.msg goes;
        time = omega arith;
        message = message_fits shape formed e.from e.to e.msg goes says up;
      }) w.sent
      (senders_of_run shape events formed).from_nodes (members_of_run shape events formed).sent (sizes_of_run shape events formed words).sent (form_of_run shape events).sent_past

  pub fit_in_one : w.events < TIME_LIMIT → shape.edition ≡ One → Each (Fits shape.edition) w.sent
  fit_in_one early one =
      each_four (λ (e : Envelope). GivesNothingUp e.msg → Fits shape.edition e) (λ (e : Envelope). Sized shape e.msg) (λ (e : Envelope). Sized shape e.msg) (λ (e : Envelope). Sized shape e.msg) (Fits shape.edition)
      (λ e fits says k m. fits (kept_in_one shape one e.msg says)) w.sent
      (fit_all early) (sizes_of_run shape events formed words).sent (sizes_of_run shape events formed words).sent (sizes_of_run shape events formed words).sent
