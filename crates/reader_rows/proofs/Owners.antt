-- Each place that is bound for good is final somewhere in the shard that it belongs to, with its data or as a no-op.
use Rattle.std.proofs.Common.{◌≡◌, ◌≢◌, ℕ, ◌+◌, ◌<◌, ◌≤◌, List, [], length, Option, Some, None, inl, inr, refl, sym, ap, ◌∙◌, subst, arith}
use Rattle.std.specs.Prelude.{◌%◌, option_map, slice_get, unwrap_or}
use Rattle.std.proofs.lemmas.Bool.{cases_lt}
use Rattle.std.proofs.lemmas.Nat.{mod_below}
use Rattle.list_facts.specs.Lists.{In}
use Rattle.list_facts.proofs.Places.{below_at, each_at, in_at}
use Rattle.rec_id.specs.Identity.{Identity, shard_of}
use Rattle.rec_id.specs.declared.entry.Entry.{Entry}
use Rattle.rec_id.specs.declared.item.Body.{Body}
use Rattle.rec_id.specs.declared.item.Body.TheVariants.{Elsewhere, Kept, Noop, Open, Gone}
use Rattle.rec_id.specs.declared.item.Cell.{Cell}
use Rattle.view_config.specs.Shape.{Dimensions}
use Rattle.view_config.specs.declared.edition.Mode.{Mode}
use Rattle.view_config.specs.declared.edition.Mode.TheVariants.{M, St}
use Rattle.world_facts.specs.Members.{IsGroup, IsNamed}
use Rattle.lazy_rules.specs.Lines.{owner_of}
use Rattle.lazy_rules.specs.Roles.{replicas_at}
use Rattle.log_facts.specs.Finality.{IsFinal, TellsPlace, TellsSign}
use Rattle.log_facts.specs.Ghosts.{Ghost}
use Rattle.log_facts.specs.Good.{Moment}
use Rattle.log_facts.specs.Handed.{BodyPlaced, CellPlaced}
use Rattle.log_facts.specs.Parts.{Parts, home_of}
use Rattle.log_facts.specs.Signs.{Away, Sign, ordered_at, sign_at, sign_of, sort_of}
use Rattle.log_facts.specs.facts.OfShards.{OrderFacts}
use Rattle.log_facts.proofs.Places.{each_from_first}

-- a replica of the shard for which the place is final
pub record IsFinalAt (g : Ghost) (a : Parts) (shard place : ℕ) : Type 0 where
  pub node : ℕ
  pub home : home_of node ≡ shard
  pub some : 1 ≤ (a.shards node).view
  pub final : IsFinal g.views g.log.high (a.shards node).view place
  pub cell : Cell
  pub at : slice_get (a.shards node).store.order place ≡ Some cell

module _ (shape : Dimensions) (g : Ghost) (a : Parts) (moment : Moment shape g a) where
  current_some : 1 ≤ g.views.cur
  current_some = let some = moment.agreed.views.started.some in let latest = moment.agreed.views.started.latest in omega arith

  named : IsNamed shape (g.views.cf g.views.cur)
  named = moment.agreed.views.configs.named g.views.cur current_some

  -- some replica is listed for each shard
  listed : (shard : ℕ) → shard < shape.shards → (d : ℕ) × In d (replicas_at (g.views.cf g.views.cur) shard)
  listed shard below =
      let there : shard < length (g.views.cf g.views.cur).shards = let count = named.count in omega arith in
      let group = below_at (g.views.cf g.views.cur).shards shard there in
      let is = each_at (IsGroup shape) (g.views.cf g.views.cur).shards named.shards shard group.0 group.1 in
      let first = below_at group.0 0 is.some in
      (first.0, subst (λ (o : Option (List ℕ)). In first.0 (unwrap_or o [])) (sym group.1) (in_at group.0 0 first.0 first.1))

  -- what is bound for good is final for it
  final_there : (d place : ℕ) → g.views.sv g.views.cur ≤ (a.shards d).view → (a.shards d).view ≤ g.views.cur → place < g.log.low → IsFinal g.views g.log.high (a.shards d).view place
  final_there d place least most below = elim (cases_lt (a.shards d).view g.views.cur) [
    | inl earlier ↦
        elim (cases_lt g.views.lv g.views.cur) [
          | inl closing ↦
              let last : g.views.sv g.views.cur ≡ g.views.lv = moment.agreed.views.started.last g.views.cur (omega arith) in
              let closed : g.views.cl (a.shards d).view ≡ g.log.low = (moment.agreed.line.closing closing).closed (a.shards d).view (omega arith) in
              inr (earlier, omega arith)
          | inr live ↦
              let latest = moment.agreed.views.started.latest in
              let last : g.views.sv g.views.cur ≡ g.views.lv = moment.agreed.views.started.last g.views.cur (omega arith) in
              absurd (omega arith)
        ]
    | inr now ↦ let low = moment.agreed.line.low in inl (omega arith, omega arith)
  ]

  pub final_somewhere : (shard place : ℕ) → shard < shape.shards → place < g.log.low → IsFinalAt g a shard place
  final_somewhere shard place below bound =
      let one = listed shard below in
      let d : ℕ = one.0 in
      let least : g.views.sv g.views.cur ≤ (a.shards d).view = moment.agreed.places.among.present g.views.cur shard d current_some (omega arith) one.1 in
      let first : 1 ≤ g.views.sv g.views.cur = moment.agreed.views.started.first g.views.cur current_some in
      let some : 1 ≤ (a.shards d).view = omega arith in
      let most : (a.shards d).view ≤ g.views.cur = (moment.agreed.shards.ranks d some).known in
      let final = final_there d place least most bound in
      let has = (moment.agreed.places.finals d some).has place final in
      let cell = below_at (a.shards d).store.order place has in
      record { node = d; home = (moment.agreed.views.configs.lists g.views.cur).homes shard d one.1; some = some; final = final; cell = cell.0; at = cell.1 }

  -- what it has there is the line's
  in_line : (shard place : ℕ) (there : IsFinalAt g a shard place) → slice_get g.log.line place ≡ Some there.cell.id
  in_line shard place there =
      let facts : OrderFacts g.views g.log.line (a.shards there.node) = moment.agreed.places.orders there.node there.some in
      let has : ordered_at (a.shards there.node) place ≡ Some there.cell.id = ap (option_map (λ (cell : Cell). cell.id)) there.at in
      elim there.final [
        | inl now ↦ facts.live now.0 place there.cell.id has
        | inr closed ↦ facts.closed closed.0 place closed.1 there.cell.id has
      ]

  -- the shard to which the place belongs
  owner_below : (place : ℕ) (id : Identity) → owner_of shape place id < shape.shards
  owner_below place id = by shape.mode
    where
      by : (mode : Mode) → (elim mode [ M ↦ place % shape.shards | St ↦ shard_of id shape.shards ]) < shape.shards
      by M = mod_below place shape.shards moment.is_shape.shards_least
      by St = mod_below (id.client + id.number) shape.shards moment.is_shape.shards_least

  not_away : (shard owner : ℕ) (body : Body) → owner ≡ shard → BodyPlaced shape shard owner body → sort_of body ≢ Away
  not_away shard owner Elsewhere same placed = absurd (placed same)
  not_away shard owner (Kept bytes) same placed = λ is. cc
  not_away shard owner Noop same placed = λ is. cc
  not_away shard owner Open same placed = λ is. cc
  not_away shard owner Gone same placed = λ is. cc

  some_told : (sign : Sign) (told : Option Entry) → sign.sort ≢ Away → TellsSign a.history sign told → (entry : Entry) × (told ≡ Some entry)
  some_told sign None apart t = absurd (apart t)
  some_told sign (Some entry) apart t = (entry, refl)

  -- what its shard tells of a place is an entry
  pub record IsOwned (place : ℕ) : Type 0 where
    pub shard : ℕ
    pub known : shard < shape.shards
    pub told : (told : Option Entry) → TellsPlace g.views g.log.high a.history a.shards shard place told → (entry : Entry) × (told ≡ Some entry)

  pub owned : (place : ℕ) → place < g.log.low → IsOwned place
  owned place bound =
      let at_first = final_somewhere 0 place moment.is_shape.shards_least bound in
      let id : Identity = at_first.cell.id in
      let stands : slice_get g.log.line place ≡ Some id = in_line 0 place at_first in
      let owner : ℕ = owner_of shape place id in
      let there = final_somewhere owner place (owner_below place id) bound in
      let same : there.cell.id ≡ id = let both : Some there.cell.id ≡ Some id = sym (in_line owner place there) ∙ stands in cc in
      let sign : Sign = sign_of there.cell in
      let signed : sign_at (a.shards there.node) place ≡ Some sign = ap (option_map sign_of) there.at in
      let placed : CellPlaced shape (home_of there.node) place there.cell = each_from_first (CellPlaced shape (home_of there.node)) (a.shards there.node).store.order (moment.agreed.shards.stores there.node).placed place there.cell there.at in
      let is_owner : owner_of shape place there.cell.id ≡ home_of there.node = ap (owner_of shape place) same ∙ sym there.home in
      record {
        shard = owner;
        known = owner_below place id;
        told = λ told tells. some_told sign told (not_away (home_of there.node) (owner_of shape place there.cell.id) there.cell.body is_owner placed) (tells there.node sign there.home there.some there.final signed);
      }
