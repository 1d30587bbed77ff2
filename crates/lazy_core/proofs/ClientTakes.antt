-- Which half of a client takes an input, and what a client does that isn't busy.
use Rattle.std.proofs.Common.{◌≡◌, ℕ, List, [], ◌∷◌, length, Bool, true, false, Result, Ok, Err, refl, sym, ap, ◌∙◌, subst, arith}
use Rattle.std.specs.Prelude.{◌||◌, nat_lt}
use Rattle.std.proofs.lemmas.Bool.{lt-ltb}
use Rattle.list_facts.proofs.Cases.{either}
use Rattle.rec_id.specs.Identity.{Identity}
use Rattle.rec_id.specs.declared.event.Event.TheVariants.{Seen}
use Rattle.view_config.specs.declared.config.Config.{Config}
use Rattle.lazy_msgs.specs.declared.input.Input.{Input}
use Rattle.lazy_msgs.specs.declared.input.Input.TheVariants.{Take, Tick}
use Rattle.lazy_msgs.specs.declared.msg.Envelope.{Envelope}
use Rattle.lazy_msgs.specs.declared.msg.Msg.{Msg}
use Rattle.lazy_msgs.specs.declared.msg.Msg.TheVariants.{AppendAck, DataAck, Rejected, ViewIs}
use Rattle.lazy_msgs.specs.declared.refused.StepRefused.{StepRefused}
use Rattle.lazy_msgs.specs.declared.refused.StepRefused.TheVariants.{Over, Memory}
use Rattle.lazy_msgs.specs.Outbox.{Out, put_on}
use Rattle.lazy_msgs.specs.Step.{Row, StepsTo}
use Rattle.lazy_rules.specs.ClientNode.{ClientNode, Half, Appends, Both, Reads, appends_tick, asks_view, client_node_step, half_of, half_took, in_appends, in_reads, is_busy, on_node_tick, reads_tick, sees}
use Rattle.lazy_rules.specs.ClientRules.{client_step, client_took, in_config, on_client_tick, on_view_is, sending_each}
use Rattle.lazy_rules.specs.ClientState.{ClientState, OpenAppend}
use Rattle.lazy_rules.specs.Door.{is_turned_away}
use Rattle.lazy_rules.specs.ReaderRules.{on_reader_tick, reader_step}
use Rattle.lazy_rules.specs.ReaderState.{ReaderState, Stage, Idle, Fetching, Probing, Trimming, is_at_work}
use Rattle.lazy_rules.specs.Rows.{followed, joined, stays}
use Rattle.lazy_core.specs.ClientParts.{TellsNothing, both_step, parts_step}
use Rattle.lazy_core.specs.NodeStep.{halves_of}
use Rattle.lazy_core.proofs.ClientParts.{without_asking}
use Rattle.lazy_core.proofs.StepForms.{part_steps, stays_so}

-- a later view tells nothing
view_quiet : (c : ClientState) (config : Config) → TellsNothing (on_view_is c config)
view_quiet c config =
    either TellsNothing (nat_lt c.config.view config.view) (sending_each (in_config c config) (in_config c config).unfinished) (stays c)
    (λ h. refl) (λ h. refl)

pub view_tells_nothing : (c : ClientState) (sender : ℕ) (config : Config) → TellsNothing (client_took c sender (ViewIs config))
view_tells_nothing c sender config =
    either TellsNothing (is_turned_away c.shape sender (ViewIs config)) (stays c) (on_view_is c config)
    (λ h. refl) (λ h. view_quiet c config)

-- a client that isn't busy has nothing to do again
pub none_open : (c : ClientState) (open_appends : List OpenAppend) → c.unfinished ≡ open_appends → nat_lt 0 (length open_appends) ≡ false → on_client_tick c ≡ stays c
none_open c [] is h = rw is refl
none_open c (append ∷ others) is h = let wrong : true ≡ false = sym (lt-ltb 0 (length (append ∷ others)) (omega arith)) ∙ h in cc

pub none_read : (r : ReaderState) (stage : Stage) → r.stage ≡ stage → is_at_work stage ≡ false → on_reader_tick r ≡ stays r
none_read r Idle is h = rw is refl
none_read r (Fetching fetch) is h = cc
none_read r (Probing force) is h = cc
none_read r (Trimming trimmer) is h = cc

no_alternative : (a b : Bool) → (a || b) ≡ false → (a ≡ false) × (b ≡ false)
no_alternative true b h = cc
no_alternative false b h = (refl, h)

module _ (a : ClientState) (r : ReaderState) where
  abbrev node : ClientNode
  node = halves_of a r

  idle_tick : (busy : Bool) → on_client_tick a ≡ stays a → on_reader_tick r ≡ stays r → busy ≡ false → followed (followed (appends_tick node) reads_tick) (asks_view busy) ≡ stays node
  idle_tick busy first second rests =
      ap (λ (x : Row ClientState). followed (followed (in_appends node x) reads_tick) (asks_view busy)) first
      ∙ ap (λ (y : Row ReaderState). followed (joined (stays node) (in_reads node y)) (asks_view busy)) second
      ∙ ap (λ (b : Bool). followed (joined (stays node) (stays node)) (asks_view b)) rests

  rests_at_tick : is_busy node ≡ false → on_node_tick node ≡ stays node
  rests_at_tick h =
      let both = no_alternative (nat_lt 0 (length a.unfinished)) (is_at_work r.stage) h in
      idle_tick (is_busy node) (none_open a a.unfinished refl both.0) (none_read r r.stage refl both.1) h

  module _ (input : Input) (out : Out) where
    -- a tick that finds nothing to do, and one that does
    pub idle_ticks : input ≡ Tick → is_busy node ≡ false → StepsTo {R = Unit {0}} (client_node_step node input) node node out out (Ok tt) Over
    idle_ticks is rests =
        subst (λ (i : Input). StepsTo {R = Unit {0}} (client_node_step node i) node node out out (Ok tt) Over) (sym is)
        (subst (λ (row : Row ClientNode). StepsTo {R = Unit {0}} row node node out out (Ok tt) Over) (sym (rests_at_tick rests)) (stays_so node out tt Over))

    pub busy_ticks : (after : ClientNode) (out_after : Out) (outcome : Result (Unit {0}) StepRefused) → input ≡ Tick → is_busy node ≡ true → StepsTo (parts_step true input node) node after out out_after outcome Over → StepsTo (client_node_step node input) node after out out_after outcome Over
    busy_ticks after out_after outcome is works =
        subst (λ (i : Input). StepsTo (parts_step true i node) node after out out_after outcome Over → StepsTo (client_node_step node i) node after out out_after outcome Over) (sym is)
        (λ h. subst (λ (b : Bool). StepsTo (followed (both_step Tick node) (asks_view b)) node after out out_after outcome Over) (sym works) h)

    pub tick_tells_nothing : input ≡ Tick → TellsNothing (client_step a input)
    tick_tells_nothing is = subst (λ (i : Input). TellsNothing (client_step a i)) (sym is) refl

    -- a message for one half, and one for both
    module _ (envelope : Envelope) (is : input ≡ Take envelope) (out_after : Out) (outcome : Result (Unit {0}) StepRefused) where
      abbrev Took : ClientNode → Input → Type 0
      Took after i = StepsTo (client_node_step node i) node after out out_after outcome Over

      pub appends_take : (after : ClientState) → half_of envelope.msg ≡ Appends → StepsTo (client_step a input) a after out out_after outcome Over → Took (halves_of after r) input
      appends_take after half =
          subst (λ (i : Input). StepsTo (client_step a i) a after out out_after outcome Over → Took (halves_of after r) i) (sym is)
          (λ h. subst (λ (k : Half). StepsTo (half_took k node envelope.from envelope.msg) node (halves_of after r) out out_after outcome Over) (sym half)
          (part_steps (λ (x : ClientState). halves_of x r) (client_step a (Take envelope)) a after out out_after outcome Over h))

      pub reads_take : (after : ReaderState) → half_of envelope.msg ≡ Reads → StepsTo (reader_step r input) r after out out_after outcome Over → Took (halves_of a after) input
      reads_take after half =
          subst (λ (i : Input). StepsTo (reader_step r i) r after out out_after outcome Over → Took (halves_of a after) i) (sym is)
          (λ h. subst (λ (k : Half). StepsTo (half_took k node envelope.from envelope.msg) node (halves_of a after) out out_after outcome Over) (sym half)
          (part_steps (halves_of a) (reader_step r (Take envelope)) r after out out_after outcome Over h))

      pub both_take : (after : ClientNode) → half_of envelope.msg ≡ Both → StepsTo (parts_step false input node) node after out out_after outcome Over → Took after input
      both_take after half =
          subst (λ (i : Input). StepsTo (parts_step false i node) node after out out_after outcome Over → Took after i) (sym is)
          (λ h. subst (λ (k : Half). StepsTo (half_took k node envelope.from envelope.msg) node after out out_after outcome Over) (sym half)
          (subst (λ (row : Row ClientNode). StepsTo row node after out out_after outcome Over) (without_asking (Take envelope) node) h))

    pub view_tells_nothing_so : (envelope : Envelope) (config : Config) → input ≡ Take envelope → envelope.msg ≡ ViewIs config → TellsNothing (client_step a input)
    view_tells_nothing_so envelope config is said =
        subst (λ (i : Input). TellsNothing (client_step a i)) (sym is)
        (subst (λ (msg : Msg). TellsNothing (client_took a envelope.from msg)) (sym said) (view_tells_nothing a envelope.from config))

-- an order is told
module _ (n : ClientNode) (client from : ℕ) (ids : List Identity) (out : Out) where
  pub sees_so : n.appends.client ≡ client → (out_after : Out) → out_after ≡ put_on out [] (Seen client from ids ∷ []) → StepsTo {R = Unit {0}} (sees n from ids) n n out out_after (Ok tt) Over
  sees_so same out_after is = record {
    state = refl;
    sent = is ∙ ap (λ (c : ℕ). put_on out [] (Seen c from ids ∷ [])) (sym same);
    fits = record { in_number = omega arith; in_weight = omega arith };
    room = λ wrong. cc;
    few = omega arith;
    unchanged = tt;
    unsent = tt;
  }

-- there was no memory, and nothing was done
pub memory_steps : {S : Type 0} (row : Row S) (s : S) (out : Out) → StepsTo {R = Unit {0}} row s s out out (Err Memory) Over
memory_steps row s out = record { state = tt; sent = tt; fits = tt; room = λ wrong. cc; few = tt; unchanged = refl; unsent = refl }

-- a message that isn't for the appends, nor for both halves, is for the reads
pub for_reads : (msg : Msg) → ((view : ℕ) (id : Identity) → msg ≡ AppendAck view id → ⊥) → ((view : ℕ) (id : Identity) → msg ≡ DataAck view id → ⊥) → ((id : Identity) (place : ℕ) → msg ≡ Rejected id place → ⊥) → ((config : Config) → msg ≡ ViewIs config → ⊥) → half_of msg ≡ Reads
for_reads (AppendAck view id) a b c d = absurd (a view id refl)
for_reads (DataAck view id) a b c d = absurd (b view id refl)
for_reads (Rejected id place) a b c d = absurd (c id place refl)
for_reads (ViewIs config) a b c d = absurd (d config refl)
for_reads _ a b c d = refl
