-- The line of whoever goes on with the log is lawful.
use Rattle.std.proofs.Common.{◌≡◌, ◌≢◌, ◌⊎◌, ℕ, ◌+◌, ◌<◌, ◌≤◌, List, [], ◌∷◌, ◌++◌, length, map, take, IsTrue, IsSome, true, false, Option, Some, None, slice_get, inl, inr, refl, sym, ap, ◌∙◌, subst, arith, length-append}
use Rattle.std.specs.Prelude.{option_map}
use Rattle.std.proofs.lemmas.Bool.{cases_lt}
use Rattle.std.proofs.lemmas.List.{length-map, length-take-le, map-append, take-map}
use Rattle.std.proofs.lemmas.Option.{slice_get-map, slice_get_within}
use Rattle.list_facts.specs.Lists.{In, Each, Distinct, Precedes}
use Rattle.list_facts.proofs.Members.{in_cases, in_map, in_mapped, in_right}
use Rattle.list_facts.proofs.Places.{at_in, in_at}
use Rattle.list_facts.proofs.Precedence.{precedes_at, precedes_first}
use Rattle.law_cases.specs.Precedes.{KeepsPrecedence, KeepsReach}
use Rattle.law_cases.proofs.Consequences.{id_listed}
use Rattle.rec_id.specs.Identity.{Identity, shard_of}
use Rattle.rec_id.specs.History.{end_of, invoked_id, is_tail}
use Rattle.rec_id.specs.Lawful.{Lawful}
use Rattle.rec_id.specs.Line.{IsToldAt, IsToldOf, id_at, named_id}
use Rattle.rec_id.specs.declared.entry.Entry.{Entry}
use Rattle.rec_id.specs.declared.entry.Entry.TheVariants.{Kept as KeptEntry, Noop as NoopEntry, Gone as GoneEntry}
use Rattle.rec_id.specs.declared.event.Event.{Event}
use Rattle.rec_id.specs.declared.event.Event.TheVariants.{Invoke, Acked, Rejected, Begin, Answer, Seen, TrimAsk, TrimDone, Trimmed}
use Rattle.rec_id.specs.declared.item.Body.{Body}
use Rattle.rec_id.specs.declared.item.Body.TheVariants.{Elsewhere, Kept, Noop, Open, Gone}
use Rattle.rec_id.specs.declared.item.Cell.{Cell}
use Rattle.rec_id.specs.declared.item.Item.{Item}
use Rattle.rec_id.specs.declared.marks.Marks.{Marks}
use Rattle.view_config.specs.declared.edition.Mode.{Mode}
use Rattle.view_config.specs.declared.edition.Mode.TheVariants.{M, St}
use Rattle.view_config.specs.Shape.{Dimensions}
use Rattle.lazy_rules.specs.ControlState.{newest}
use Rattle.lazy_rules.specs.Ids.{ids_of}
use Rattle.lazy_rules.specs.Lines.{bound_entries, bound_entry, data_of, entry_of, entry_with, item_entry, line_over, lost_shard, order_of, owner_of}
use Rattle.lazy_rules.specs.Roles.{replicas_at}
use Rattle.lazy_rules.specs.WorldRules.{ids_in}
use Rattle.lazy_rules.specs.WorldState.{WorldState}
use Rattle.log_facts.specs.Ghosts.{Ghost}
use Rattle.log_facts.specs.Handed.{BodyBegun, BodyFloored, BodyPlaced, CellFloored, CellPlaced, EachFrom}
use Rattle.log_facts.specs.Parts.{home_of}
use Rattle.log_facts.specs.Past.{Covers, ToldAs}
use Rattle.log_facts.specs.Signs.{Lacking, Sign, Sort, Void, sign_at, sign_of, sort_of}
use Rattle.log_facts.specs.facts.OfLine.{IsWhole}
use Rattle.log_facts.specs.facts.OfReads.{AnswerFacts, PlaceTold}
use Rattle.log_facts.proofs.Places.{at_append, at_each_from, at_left, at_take, each_from_append, each_from_first, take_at, take_same}
use Rattle.log_facts.proofs.lines.Acknowledged.{has_it, no_void, shard_known, some_shard}
use Rattle.log_facts.proofs.lines.Clauses.{AnswerShown, EntryShown, IsThere, lawful}
use Rattle.log_facts.proofs.lines.Data.{data_there}
use Rattle.log_facts.proofs.lines.Entries.{IsHeld, OwnCell, bound_shown, data_is, item_shown, order_is, own_begun, own_cell, own_entry, own_placed, stores}
use Rattle.log_facts.proofs.lines.Finals.{IsAgreed, a, at_home, final, final_cell, first_of_shard, there}
use Rattle.log_facts.proofs.lines.Pieces.{bound_at, item_apart, item_whole, length_bound, named_bound, named_entry, named_items}
use Rattle.log_facts.proofs.lines.Stores.{HasFirst, IsFirst}

-- no member stands in both parts
distinct_apart : {A : Type 0} (xs ys : List A) → Distinct (xs ++ ys) → (x : A) → In x xs → In x ys → ⊥
distinct_apart [] ys h x m n = absurd m
distinct_apart (z ∷ zs) ys h x (inl e) n = h.0 (subst (λ y. In y (zs ++ ys)) (sym e) (in_right x zs ys n))
distinct_apart (z ∷ zs) ys h x (inr m) n = distinct_apart zs ys h.1 x m n

-- an event that begins an append is its Invoke
pub begins_as : (id : Identity) (e : Event) → invoked_id e ≡ Some id → (bytes : List ℕ) × (e ≡ Invoke id bytes)
begins_as id (Invoke other bytes) h = (bytes, let is : other ≡ id = cc in ap (λ (x : Identity). Invoke x bytes) is)
begins_as id (Acked other) h = cc
begins_as id (Rejected other place) h = cc
begins_as id (Begin client read ask) h = cc
begins_as id (Answer client read from entries tail) h = cc
begins_as id (Seen client from ids) h = cc
begins_as id (TrimAsk client read floor) h = cc
begins_as id (TrimDone client read floor) h = cc
begins_as id (Trimmed client read floor) h = cc

-- where something is told from a place on, its places are below its end
below_end : {A : Type 0} (from : ℕ) (xs : List A) (k : ℕ) (x : A) → slice_get xs k ≡ Some x → from + k < end_of from xs
below_end from [] k x h = cc
below_end from (z ∷ zs) k x h = let within = slice_get_within (z ∷ zs) k x h in omega arith

module _ (shape : Dimensions) (g : Ghost) (w : WorldState) (is : IsAgreed shape g w) (spared : lost_shard w ≡ None) where
  -- one append has one Invoke
  same_bytes : (id : Identity) (xs ys : List ℕ) → In (Invoke id xs) w.history → In (Invoke id ys) w.history → xs ≡ ys
  same_bytes id xs ys h k =
      let first = at_in w.history (Invoke id xs) h in
      let second = at_in w.history (Invoke id ys) k in
      let once = is.agreed.history.appends.begun_once id in
      elim (cases_lt first.0 second.0) [
        | inl lt ↦ absurd (once (Invoke id xs) (Invoke id ys) refl refl (precedes_at w.history first.0 second.0 (Invoke id xs) (Invoke id ys) lt first.1 second.1))
        | inr le ↦ elim (cases_lt second.0 first.0) [
          | inl lt ↦ absurd (once (Invoke id ys) (Invoke id xs) refl refl (precedes_at w.history second.0 first.0 (Invoke id ys) (Invoke id xs) lt second.1 first.1))
          | inr ge ↦
              let same : first.0 ≡ second.0 = omega arith in
              let both : Some (Invoke id xs) ≡ Some (Invoke id ys) = sym first.1 ∙ ap (slice_get w.history) same ∙ second.1 in
              cc
        ]
      ]

  owner_apart : (place : ℕ) (id : Identity) → shape.mode ≡ St → owner_of shape place id ≡ shard_of id shape.shards
  owner_apart place id apart = ap (λ (mode : Mode). owner_of (record shape { mode = mode }) place id) apart

  -- the sign of a final cell of the owner
  own_sign : (place : ℕ) (id : Identity) (own : OwnCell shape g w is spared place id) → sign_at ((a shape g w is).shards own.node) place ≡ Some (record { id = id; sort = sort_of own.final.cell.body })
  own_sign place id own = ap (λ (o : Option Cell). option_map sign_of o) own.final.here ∙ ap (λ (x : Identity). Some (record { id = x; sort = sort_of own.final.cell.body })) own.same

  module _ (bound : ℕ) (window : List Marks) (items : List Item) (holds : IsHeld shape g w bound window items) where
    abbrev pub line : List Entry
    line = line_over shape (stores shape g w is spared) (record { bound = bound; items = items })

    abbrev pub own_ids : List Identity
    own_ids = take bound g.log.line ++ ids_of items

    low_high : g.log.low ≤ g.log.high
    low_high = is.agreed.line.low

    abbrev order : List Cell
    order = order_of (stores shape g w is spared) 0

    abbrev bound_part : List Entry
    bound_part = bound_entries shape (stores shape g w is spared) 0 (take bound order)

    -- the identities are read in the first shard
    shard_zero : HasFirst w 0
    shard_zero = first_of_shard shape g w is spared 0 (some_shard shape g w is)

    zero_order : order ≡ ((a shape g w is).shards shard_zero.node).store.order
    zero_order = order_is shape g w is spared 0 shard_zero.node shard_zero.is

    cell_at : (place : ℕ) → place < bound → (cell : Cell) × (slice_get order place ≡ Some cell) × (slice_get g.log.line place ≡ Some cell.id)
    cell_at place below =
        let most = holds.most in
        let at = final_cell shape g w is shard_zero.node place (there shape g w is 0 shard_zero.node shard_zero.is.listed) (final shape g w is 0 shard_zero.node place shard_zero.is.listed (omega arith)) in
        (at.cell, ap (λ (cells : List Cell). slice_get cells place) zero_order ∙ at.here, at.in_line)

    long : bound ≤ length order
    long = elim (cases_lt (length order) bound) [
      | inl short ↦
          let at = cell_at (length order) short in
          let within = slice_get_within order (length order) at.0 at.1 in
          absurd (omega arith)
      | inr enough ↦ enough
    ]

    part_length : length bound_part ≡ bound
    part_length = length_bound shape (stores shape g w is spared) 0 (take bound order) ∙ length-take-le bound order long

    part_ids : ids_in (take bound order) ≡ take bound g.log.line
    part_ids =
        sym (take-map (λ (cell : Cell). cell.id) bound order)
        ∙ take_same bound (ids_in order) g.log.line (let e = length-map order (λ (cell : Cell). cell.id) in let enough = long in omega arith)
        (λ k x below e.
        let at = cell_at k below in
        let named : slice_get (ids_in order) k ≡ Some at.0.id = slice_get-map (λ (cell : Cell). cell.id) order k ∙ ap (λ (o : Option Cell). option_map (λ (cell : Cell). cell.id) o) at.1 in
        let same : at.0.id ≡ x = let both : Some at.0.id ≡ Some x = sym named ∙ e in cc in
        at.2 ∙ ap Some same)

    pub ids_are : map named_id line ≡ own_ids
    ids_are =
        map-append named_id bound_part (map (item_entry shape (stores shape g w is spared)) items)
        ∙ ap (λ (ids : List Identity). ids ++ map named_id (map (item_entry shape (stores shape g w is spared)) items)) (named_bound shape (stores shape g w is spared) 0 (take bound order) ∙ part_ids)
        ∙ ap (λ (ids : List Identity). take bound g.log.line ++ ids) (named_items shape (stores shape g w is spared) items)

    -- the entry of a place below the bound
    pub entry_below : (place : ℕ) (id : Identity) → place < bound → slice_get g.log.line place ≡ Some id → slice_get line place ≡ Some (bound_entry shape (stores shape g w is spared) place id)
    entry_below place id below here =
        let at = cell_at place below in
        let same : at.0.id ≡ id = let both : Some at.0.id ≡ Some id = sym at.2 ∙ here in cc in
        let from : 0 + place ≡ place = omega arith in
        at_left bound_part (map (item_entry shape (stores shape g w is spared)) items) place (bound_entry shape (stores shape g w is spared) place id)
        (bound_at shape (stores shape g w is spared) 0 (take bound order) place at.0 (take_at bound order place at.0 below at.1)
        ∙ ap (λ (n : ℕ). Some (bound_entry shape (stores shape g w is spared) n at.0.id)) from
        ∙ ap (λ (x : Identity). Some (bound_entry shape (stores shape g w is spared) place x)) same)

    pub id_below : (place : ℕ) (id : Identity) → place < bound → slice_get g.log.line place ≡ Some id → id_at line place ≡ Some id
    id_below place id below here = ap (λ (o : Option Entry). option_map named_id o) (entry_below place id below here) ∙ ap Some (named_entry id _)

    -- an identity of the line stands in the one part or in the other
    pub id_cases : (place : ℕ) (id : Identity) → id_at line place ≡ Some id → ((place < bound) × (slice_get g.log.line place ≡ Some id)) ⊎ (bound ≤ place)
    id_cases place id h =
        let short = holds.held.short in
        let size = length-take-le bound g.log.line short in
        let listed : slice_get own_ids place ≡ Some id = ap (λ (ids : List Identity). slice_get ids place) (sym ids_are) ∙ id_listed line place id h in
        elim (at_append (take bound g.log.line) (ids_of items) place id listed) [
          | inl left ↦ inl (at_take bound g.log.line place id left.1)
          | inr right ↦ let at = right.is in inr (omega arith)
        ]

    -- ---- what the law wants

    items_shown : (place : ℕ) (some : List Item) → Each (IsWhole shape w.history) some → EachFrom (EntryShown w.history) place (map (item_entry shape (stores shape g w is spared)) some)
    items_shown place [] h = tt
    items_shown place (item ∷ others) h = (item_shown shape g w is spared place item h.0, items_shown (place + 1) others h.1)

    entries : EachFrom (EntryShown w.history) 0 line
    entries = each_from_append (EntryShown w.history) 0 bound_part (map (item_entry shape (stores shape g w is spared)) items)
        (at_each_from (EntryShown w.history) 0 bound_part (λ k e at.
        let within = slice_get_within bound_part k e at in
        let size = part_length in
        let below : k < bound = omega arith in
        let cell = cell_at k below in
        let most = holds.most in
        let from : k ≡ 0 + k = omega arith in
        let stands : slice_get bound_part k ≡ Some (bound_entry shape (stores shape g w is spared) (0 + k) cell.0.id) = bound_at shape (stores shape g w is spared) 0 (take bound order) k cell.0 (take_at bound order k cell.0 below cell.1) in
        let entry : bound_entry shape (stores shape g w is spared) (0 + k) cell.0.id ≡ e = let both : Some (bound_entry shape (stores shape g w is spared) (0 + k) cell.0.id) ≡ Some e = sym stands ∙ at in cc in
        subst (EntryShown w.history (0 + k)) entry (subst (λ (n : ℕ). EntryShown w.history n (bound_entry shape (stores shape g w is spared) n cell.0.id)) from (bound_shown shape g w is spared k cell.0.id (omega arith) cell.2))))
        (items_shown (0 + length bound_part) items holds.whole)

    -- ---- what was acknowledged and what was rejected

    there_bound : (id : Identity) → In (Acked id) w.history → (place : ℕ) → place < bound → slice_get g.log.line place ≡ Some id → IsThere line id
    there_bound id acked place below here =
        let most = holds.most in
        let own = own_cell shape g w is spared place id (omega arith) here in
        let stands : In (bound_entry shape (stores shape g w is spared) place id) line = in_at line place (bound_entry shape (stores shape g w is spared) place id) (entry_below place id below here) in
        by own (subst (λ (e : Entry). In e line) (own_entry shape g w is spared place id own) stands) own.final.cell.body refl (own_placed shape g w is spared place id own) own.final.decided
      where
        void : (own : OwnCell shape g w is spared place id) → own.final.cell.body ≡ Noop → shape.mode ≡ St → ⊥
        void own e apart =
            let most = holds.most in
            let listed : In own.node (replicas_at (newest w.control) (shard_of id shape.shards)) = subst (λ (n : ℕ). In own.node (replicas_at (newest w.control) n)) (owner_apart place id apart) own.first.listed in
            no_void shape g w is id apart acked own.node place listed (omega arith) (own_sign place id own ∙ ap (λ (body : Body). Some (record { id = id; sort = sort_of body })) e)

        by : (own : OwnCell shape g w is spared place id) → In (entry_of id own.final.cell.body) line → (body : Body) → own.final.cell.body ≡ body → BodyPlaced shape (owner_of shape place id) (owner_of shape place id) body → sort_of body ≢ Lacking → IsThere line id
        by own stands Elsewhere e placed decided = absurd (placed refl)
        by own stands (Kept bytes) e placed decided = record { entry = KeptEntry id bytes; among = subst (λ (body : Body). In (entry_of id body) line) e stands; appends = refl }
        by own stands Noop e placed decided = absurd (void own e placed.1)
        by own stands Open e placed decided = absurd (decided refl)
        by own stands Gone e placed decided = record { entry = GoneEntry id; among = subst (λ (body : Body). In (entry_of id body) line) e stands; appends = refl }

    -- what is given up is bound, so nothing that isn't bound was
    never_gone : (item : Item) → In item.id (ids_of items) → (d : ℕ) → In d (replicas_at (newest w.control) (shard_of item.id shape.shards)) → (place : ℕ) (cell : Cell) → slice_get ((a shape g w is).shards d).store.order place ≡ Some cell → cell.id ≡ item.id → cell.body ≡ Gone → ⊥
    never_gone item among d listed place cell here same gone =
        let store = ((a shape g w is).shards d).store in
        let some = there shape g w is (shard_of item.id shape.shards) d listed in
        let facts = is.agreed.shards.stores d in
        let floored : CellFloored store.floor place cell = each_from_first (CellFloored store.floor) store.order facts.floored place cell here in
        let below : place < store.floor = subst (BodyFloored store.floor place) gone floored in
        let within = facts.within in
        let stable = (is.agreed.places.finals d some).stable in
        let least = holds.least in
        let most = holds.most in
        let at = final_cell shape g w is d place some (final shape g w is (shard_of item.id shape.shards) d place listed (omega arith)) in
        let one : at.cell ≡ cell = let both : Some at.cell ≡ Some cell = sym at.here ∙ here in cc in
        let in_line : slice_get g.log.line place ≡ Some item.id = at.in_line ∙ ap (λ (c : Cell). Some c.id) one ∙ ap Some same in
        distinct_apart (take bound g.log.line) (ids_of items) holds.held.distinct item.id (in_at (take bound g.log.line) place item.id (take_at bound g.log.line place item.id (omega arith) in_line)) among

    there_item : (item : Item) → In (Acked item.id) w.history → In item items → IsThere line item.id
    there_item item acked among = by shape.mode refl
      where
        stands : In (item_entry shape (stores shape g w is spared) item) line
        stands = in_right (item_entry shape (stores shape g w is spared) item) bound_part (map (item_entry shape (stores shape g w is spared)) items) (in_map (item_entry shape (stores shape g w is spared)) item items among)

        by : (mode : Mode) → shape.mode ≡ mode → IsThere line item.id
        by M e = record { entry = KeptEntry item.id _; among = subst (λ (x : Entry). In x line) (item_whole shape (stores shape g w is spared) item e) stands; appends = refl }
        by St e =
            let first = first_of_shard shape g w is spared (shard_of item.id shape.shards) (shard_known shape g w is item.id) in
            let have = has_it shape g w is item.id e acked first.node first.is.listed in
            let bytes = data_there w.history ((a shape g w is).shards first.node).store (is.agreed.bytes first.node) item.id have (λ place cell here same gone. never_gone item (in_map (λ (i : Item). i.id) item items among) first.node first.is.listed place cell here same gone) in
            let told : data_of (stores shape g w is spared) (shard_of item.id shape.shards) item.id ≡ Some bytes.0 = data_is shape g w is spared item.id first.node first.is ∙ bytes.1 in
            record {
              entry = KeptEntry item.id bytes.0;
              among = subst (λ (x : Entry). In x line) (item_apart shape (stores shape g w is spared) item e ∙ ap (entry_with item.id) told) stands;
              appends = refl;
            }

    acked : (id : Identity) → In (Acked id) w.history → IsThere line id
    acked id h = elim (in_cases id (take bound g.log.line) (ids_of items) (holds.held.past.ended id (record { event = Acked id; ends = refl; stands = h }))) [
      | inl left ↦
          let at = at_in (take bound g.log.line) id left in
          let low = at_take bound g.log.line at.0 id at.1 in
          there_bound id h at.0 low.0 low.1
      | inr right ↦
          let item = in_mapped (λ (i : Item). i.id) id items right in
          subst (IsThere line) item.2 (there_item item.0 (subst (λ (x : Identity). In (Acked x) w.history) (sym item.2) h) item.1)
    ]

    is_void : (body : Body) → sort_of body ≡ Void → body ≡ Noop
    is_void Elsewhere e = cc
    is_void (Kept bytes) e = cc
    is_void Noop e = refl
    is_void Open e = cc
    is_void Gone e = cc

    rejected : (id : Identity) (place : ℕ) → In (Rejected id place) w.history → slice_get line place ≡ Some (NoopEntry id)
    rejected id place h =
        let says = is.agreed.told.of_data.rejected id place h in
        let below = says.below in
        let least = holds.least in
        let most = holds.most in
        let own = own_cell shape g w is spared place id (omega arith) says.stands in
        let listed : In own.node (replicas_at (newest w.control) (shard_of id shape.shards)) = subst (λ (n : ℕ). In own.node (replicas_at (newest w.control) n)) (owner_apart place id says.apart) own.first.listed in
        let void = says.void own.node (at_home shape g w is (shard_of id shape.shards) own.node listed) (there shape g w is (shard_of id shape.shards) own.node listed) (final shape g w is (shard_of id shape.shards) own.node place listed (omega arith)) in
        let sort : sort_of own.final.cell.body ≡ Void = let both : Some (record { id = id; sort = sort_of own.final.cell.body }) ≡ Some (record { id = id; sort = Void }) = sym (own_sign place id own) ∙ void in ap (λ (o : Option Sign). sort_in o) both in
        entry_below place id (omega arith) says.stands ∙ ap Some (own_entry shape g w is spared place id own) ∙ ap (λ (body : Body). Some (entry_of id body)) (is_void own.final.cell.body sort)
      where
        sort_in : Option Sign → Sort
        sort_in None = Void
        sort_in (Some sign) = sign.sort

    -- ---- what comes before what

    ordered : KeepsPrecedence w.history line
    ordered p q last first ends begins before stands =
        let as_invoke = begins_as q first begins in
        let own : In q own_ids = subst (λ (ids : List Identity). In q ids) ids_are stands in
        subst (λ (ids : List Identity). Precedes p q ids) (sym ids_are) (holds.held.past.ordered p q as_invoke.0 last ends (subst (λ (e : Event). Precedes last e w.history) as_invoke.1 before) own)

    reached : KeepsReach w.history line
    reached reach place q last first reaches begins before named =
        let as_invoke = begins_as q first begins in
        elim (id_cases place q named) [
          | inl below ↦ is.agreed.line.behind q as_invoke.0 last reach place reaches (subst (λ (e : Event). Precedes last e w.history) as_invoke.1 before) below.1
          | inr behind ↦
              let low = is.agreed.line.reached last reach reaches (precedes_first last first w.history before) in
              let least = holds.least in
              omega arith
        ]

    -- ---- reads

    -- what an answer tells of a place is what the owner's first replica has there
    told : (place : ℕ) (entry : Entry) → place < g.log.low → PlaceTold shape g.views g.log w.history (a shape g w is).shards place entry → IsToldAt w.history line place entry
    told place entry below says =
        let least = holds.least in
        let most = holds.most in
        let first = first_of_shard shape g w is spared says.shard says.known in
        let some = there shape g w is says.shard first.node first.is.listed in
        let lasts = final shape g w is says.shard first.node place first.is.listed (omega arith) in
        let at = final_cell shape g w is first.node place some lasts in
        let home = at_home shape g w is says.shard first.node first.is.listed in
        let signed : sign_at ((a shape g w is).shards first.node) place ≡ Some (sign_of at.cell) = ap (λ (o : Option Cell). option_map sign_of o) at.here in
        let telling : ToldAs w.history at.cell.id (sort_of at.cell.body) entry = says.tells first.node (sign_of at.cell) home some lasts signed in
        let placed : CellPlaced shape (home_of first.node) place at.cell = each_from_first (CellPlaced shape (home_of first.node)) ((a shape g w is).shards first.node).store.order (is.agreed.shards.stores first.node).placed place at.cell at.here in
        let owner : owner_of shape place at.cell.id ≡ says.shard = owned at.cell.id at.cell.body (home_of first.node) telling placed ∙ home in
        let own : OwnCell shape g w is spared place at.cell.id = record { node = first.node; first = subst (λ (n : ℕ). IsFirst w n first.node) (sym owner) first.is; final = at; same = refl } in
        let stands : slice_get line place ≡ Some (entry_of at.cell.id at.cell.body) = entry_below place at.cell.id (omega arith) at.in_line ∙ ap Some (own_entry shape g w is spared place at.cell.id own) in
        record { entry = entry_of at.cell.id at.cell.body; stands = stands; is_told = as_told at.cell.id at.cell.body telling (own_begun shape g w is spared place at.cell.id own) }
      where
        owned : (id : Identity) (body : Body) (shard : ℕ) → ToldAs w.history id (sort_of body) entry → BodyPlaced shape shard (owner_of shape place id) body → owner_of shape place id ≡ shard
        owned id Elsewhere shard t placed = absurd t
        owned id (Kept bytes) shard t placed = placed
        owned id Noop shard t placed = placed.0
        owned id Open shard t placed = absurd t
        owned id Gone shard t placed = placed

        as_told : (id : Identity) (body : Body) → ToldAs w.history id (sort_of body) entry → BodyBegun w.history id body → IsToldOf w.history (entry_of id body) entry
        as_told id Elsewhere t begun = absurd t
        as_told id (Kept bytes) t begun = t.1 ∙ ap (KeptEntry id) (same_bytes id t.0 bytes t.2 begun)
        as_told id Noop t begun = t
        as_told id Open t begun = absurd t
        as_told id Gone t begun = let k = at_in w.history (Invoke id t.0) t.2 in (t.0, t.1, record { index = k.0; stands = k.1 })

    -- below the bound the line has the identities of the log's
    front_is : (t : ℕ) → t ≤ bound → take t g.log.line ≡ take t (map named_id line)
    front_is t le =
        let short = holds.held.short in
        take_same t g.log.line (map named_id line) (omega arith)
        (λ k x below here. id_listed line k x (id_below k x (omega arith) here))

    bound_within : bound ≤ length line
    bound_within =
        let size = part_length in
        let parts : length line ≡ length bound_part + length (map (item_entry shape (stores shape g w is spared)) items) = length-append bound_part (map (item_entry shape (stores shape g w is spared)) items) in
        omega arith

    answers : (client read from : ℕ) (entries : List Entry) (tail : Option ℕ) → In (Answer client read from entries tail) w.history → AnswerShown w.history line client read from entries tail
    answers client read from entries tail h =
        let says = is.agreed.told.of_reads.answers client read from entries tail h in
        record {
          ask = says.ask;
          begun = says.begun;
          asked = says.starts;
          forced = forced tail says;
          count = says.count;
          within = λ t e. let low = low_of t e in let least = holds.least in let enough = bound_within in omega arith;
          whole = says.whole;
          told = λ k entry at. told (from + k) entry (place_low tail h says k entry at) (says.told k entry at);
          covers = λ t e.
              let low = low_of t e in
              let least = holds.least in
              subst (λ (ids : List Identity). Covers w.history client read ids t) (front_is t (omega arith)) (says.covers t e);
        }
      where
        forced : (tail : Option ℕ) (says : AnswerFacts shape g.views g.log w.history (a shape g w is).shards client read from entries tail) → IsTrue (is_tail says.ask) → IsSome tail
        forced None says e = let wrong : false ≡ true = sym (says.unforced refl) ∙ e in cc
        forced (Some t) says e = refl

        low_of : (t : ℕ) → tail ≡ Some t → t ≤ g.log.low
        low_of t e = is.agreed.line.reached (Answer client read from entries (Some t)) t refl (subst (λ (o : Option ℕ). In (Answer client read from entries o) w.history) e h)

        place_low : (tail : Option ℕ) → In (Answer client read from entries tail) w.history → (says : AnswerFacts shape g.views g.log w.history (a shape g w is).shards client read from entries tail) (k : ℕ) (entry : Entry) → slice_get entries k ≡ Some entry → from + k < g.log.low
        place_low None m says k entry at =
            let low = is.agreed.line.reached (Answer client read from entries None) (end_of from entries) refl m in
            let below = below_end from entries k entry at in
            omega arith
        place_low (Some t) m says k entry at =
            let low = is.agreed.line.reached (Answer client read from entries (Some t)) t refl m in
            let count = says.count t refl in
            let within = slice_get_within entries k entry at in
            omega arith

    seen : (client from : ℕ) (ids : List Identity) → In (Seen client from ids) w.history → (k : ℕ) (id : Identity) → slice_get ids k ≡ Some id → id_at line (from + k) ≡ Some id
    seen client from ids h k id at =
        let low = is.agreed.line.reached (Seen client from ids) (end_of from ids) refl h in
        let below = below_end from ids k id at in
        let least = holds.least in
        id_below (from + k) id (omega arith) (is.agreed.told.of_reads.seen client from ids h k id at)

    pub line_lawful : Lawful w.history line
    line_lawful = lawful shape w.history line is.agreed.history (record {
      distinct = subst Distinct (sym ids_are) holds.held.distinct;
      entries = entries;
      acked = acked;
      rejected = rejected;
      ordered = ordered;
      reached = reached;
      answers = answers;
      seen = seen;
    })
