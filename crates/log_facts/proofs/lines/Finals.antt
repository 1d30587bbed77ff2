-- What the first replicas have: all that may be bound is final there, and is what the line has.
use Rattle.std.proofs.Common.{◌≡◌, ◌≢◌, ℕ, ◌<◌, ◌≤◌, List, length, Some, None, slice_get, inl, inr, sym, ap, ◌∙◌, subst, arith}
use Rattle.std.specs.Prelude.{Option, option_map}
use Rattle.std.proofs.lemmas.Bool.{cases_lt}
use Rattle.list_facts.specs.Lists.{In}
use Rattle.list_facts.proofs.Places.{below_at}
use Rattle.rec_id.specs.Identity.{Identity}
use Rattle.rec_id.specs.declared.item.Cell.{Cell}
use Rattle.view_config.specs.Shape.{Dimensions, IsShape}
use Rattle.view_config.specs.declared.config.Config.{Config}
use Rattle.world_facts.specs.MembersOf.{PhaseNamed}
use Rattle.lazy_rules.specs.ControlState.{Phase, Running, Sealing, Flushing, newest}
use Rattle.lazy_rules.specs.Lines.{lost_shard}
use Rattle.lazy_rules.specs.Roles.{replicas_at}
use Rattle.lazy_rules.specs.ShardState.{ShardState}
use Rattle.lazy_rules.specs.WorldState.{WorldState}
use Rattle.log_facts.specs.Agreed.{Agreed}
use Rattle.log_facts.specs.Finality.{IsFinal}
use Rattle.log_facts.specs.Ghosts.{Ghost, Views}
use Rattle.log_facts.specs.Parts.{Parts, parts_of, home_of}
use Rattle.log_facts.specs.Signs.{Lacking, ordered_at, sign_of, sort_of}
use Rattle.log_facts.specs.facts.OfViews.{PhaseFacts}
use Rattle.log_facts.proofs.lines.Stores.{HasFirst, has_first}

-- a world with these facts
pub record IsAgreed (shape : Dimensions) (g : Ghost) (w : WorldState) : Type 0 where
  pub formed : IsShape shape
  pub shaped : w.shape ≡ shape
  pub named : PhaseNamed shape w.control.phase
  pub agreed : Agreed shape g (parts_of w)

-- a final cell of a replica: it is decided, and its identity is the line's
pub record FinalCell (line : List Identity) (s : ShardState) (place : ℕ) : Type 0 where
  pub cell : Cell
  pub here : slice_get s.store.order place ≡ Some cell
  pub in_line : slice_get line place ≡ Some cell.id
  pub decided : sort_of cell.body ≢ Lacking

module _ (shape : Dimensions) (g : Ghost) (w : WorldState) (is : IsAgreed shape g w) where
  abbrev pub v : Views
  v = g.views

  abbrev pub a : Parts
  a = parts_of w

  current : 1 ≤ v.cur
  current = let some = is.agreed.views.started.some in let latest = is.agreed.views.started.latest in omega arith

  -- the newest configuration names replicas of the current view alone
  listed_by : (shard d : ℕ) (phase : Phase) → PhaseFacts v phase → In d (replicas_at (newest (record w.control { phase = phase })) shard) → In d (replicas_at (v.cf v.cur) shard)
  listed_by shard d (Running reign) facts h =
      let same : reign.config ≡ v.cf v.cur = facts.config ∙ ap v.cf (sym facts.live) in
      subst (λ (c : Config). In d (replicas_at c shard)) same h
  listed_by shard d (Sealing change) facts h = subst (λ (n : ℕ). In d (replicas_at (v.cf n) shard)) (sym facts.live) ((facts.later shard).members d h)
  listed_by shard d (Flushing taken) facts h = subst (λ (c : Config). In d (replicas_at c shard)) facts.config h

  pub listed : (shard d : ℕ) → In d (replicas_at (newest w.control) shard) → In d (replicas_at (v.cf v.cur) shard)
  listed shard d h = listed_by shard d w.control.phase is.agreed.views.control.phase h

  pub at_home : (shard d : ℕ) → In d (replicas_at (newest w.control) shard) → home_of d ≡ shard
  at_home shard d h = (is.agreed.views.configs.lists v.cur).homes shard d (listed shard d h)

  -- they took the latest started view
  pub present : (shard d : ℕ) → In d (replicas_at (newest w.control) shard) → v.lv ≤ (a.shards d).view
  present shard d h =
      let taken = is.agreed.places.among.present v.cur shard d current (omega arith) (listed shard d h) in
      let latest = is.agreed.views.started.last v.cur is.agreed.views.started.latest in
      omega arith

  pub there : (shard d : ℕ) → In d (replicas_at (newest w.control) shard) → 1 ≤ (a.shards d).view
  there shard d h = let some = is.agreed.views.started.some in let taken = present shard d h in omega arith

  -- what may be bound is final at each of them
  pub final : (shard d place : ℕ) → In d (replicas_at (newest w.control) shard) → place < g.log.high → IsFinal v g.log.high (a.shards d).view place
  final shard d place h below =
      let latest = is.agreed.views.started.latest in
      let taken = present shard d h in
      let known = (is.agreed.shards.ranks d (there shard d h)).known in
      elim (cases_lt v.lv v.cur) [
        | inl flushing ↦ elim (cases_lt (a.shards d).view v.cur) [
          | inl old ↦
              let closing = is.agreed.line.closing flushing in
              let at = closing.closed (a.shards d).view taken in
              let one = closing.one in
              inr (old, omega arith)
          | inr new ↦ inl (omega arith, below)
        ]
        | inr live ↦ inl (omega arith, below)
      ]

  -- a final cell
  pub final_cell : (d place : ℕ) → 1 ≤ (a.shards d).view → IsFinal v g.log.high (a.shards d).view place → FinalCell g.log.line (a.shards d) place
  final_cell d place some f =
      let finals = is.agreed.places.finals d some in
      let orders = is.agreed.places.orders d some in
      let at = below_at (a.shards d).store.order place (finals.has place f) in
      let named : ordered_at (a.shards d) place ≡ Some at.0.id = ap (λ (o : Option Cell). option_map (λ (c : Cell). c.id) o) at.1 in
      record {
        cell = at.0;
        here = at.1;
        in_line = elim f [
          | inl live ↦ orders.live live.0 place at.0.id named
          | inr closed ↦ orders.closed closed.0 place closed.1 at.0.id named
        ];
        decided = finals.decided place (sign_of at.0) f (ap (λ (o : Option Cell). option_map sign_of o) at.1);
      }

  -- every shard has a first replica, where none is lost
  counted : (phase : Phase) → PhaseNamed shape phase → length (newest (record w.control { phase = phase })).shards ≡ shape.shards
  counted (Running reign) named = named.count
  counted (Sealing change) named = named.1.count
  counted (Flushing taken) named = named.count

  pub first_of_shard : lost_shard w ≡ None → (shard : ℕ) → shard < shape.shards → HasFirst w shard
  first_of_shard spared shard below =
      let count : length (newest w.control).shards ≡ shape.shards = counted w.control.phase is.named in
      has_first w spared there shard (omega arith)
