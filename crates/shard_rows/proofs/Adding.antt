-- A replica's order grows at its end: what has to be shown of the cells that are added, at a primary and at a backup.
use Rattle.std.proofs.Common.{◌≡◌, ◌≢◌, ◌⊎◌, ℕ, ◌+◌, ◌<◌, ◌≤◌, List, [], ◌∷◌, ◌++◌, length, true, false, Some, None, inl, inr, refl, sym, ap, ◌∙◌, subst, arith}
use Rattle.std.specs.Prelude.{slice_get, option_map}
use Rattle.std.proofs.lemmas.Bool.{cases_lt}
use Rattle.list_facts.specs.Lists.{Each, In}
use Rattle.list_facts.proofs.Members.{each_append, each_in, in_each}
use Rattle.list_facts.proofs.Places.{below_at, in_at}
use Rattle.rec_id.specs.Identity.{Identity, shard_of}
use Rattle.rec_id.specs.declared.event.Event.{Event}
use Rattle.rec_id.specs.declared.event.Event.TheVariants.{Invoke}
use Rattle.rec_id.specs.declared.item.Body.{Body}
use Rattle.rec_id.specs.declared.item.Body.TheVariants.{Elsewhere, Kept, Noop, Open, Gone}
use Rattle.rec_id.specs.declared.item.Cell.{Cell}
use Rattle.view_config.specs.Shape.{Dimensions}
use Rattle.world_facts.specs.Members.{IsShardNode}
use Rattle.lazy_rules.specs.Pushing.{length_of}
use Rattle.lazy_rules.specs.Roles.{is_first, replicas_at}
use Rattle.lazy_rules.specs.ShardRules.{first_unplaced}
use Rattle.lazy_rules.specs.ShardState.{PlaceJob, ShardState}
use Rattle.lazy_rules.specs.Store.{extend_cells, held_bytes}
use Rattle.lazy_rules.specs.WorldRules.{ids_in}
use Rattle.log_facts.specs.Finality.{IsFinal}
use Rattle.log_facts.specs.Ghosts.{Ghost, Given, Views, IsStarted}
use Rattle.log_facts.specs.Good.{Moment}
use Rattle.log_facts.specs.Growth.{OrderGrows, ShardGrows}
use Rattle.log_facts.specs.Handed.{BodyFloored, CellBegun, CellFloored, CellPlaced, EachFrom}
use Rattle.log_facts.specs.Parts.{Parts, home_of}
use Rattle.log_facts.specs.Past.{IsTrimAsked}
use Rattle.log_facts.specs.Signs.{IsPiece, IsSignPiece, NoneOpen, Sign, Void, sign_at, sign_of}
use Rattle.log_facts.specs.facts.OfData.{AwaitedFacts, DataFacts, GivenBeyond, IsCounted, IsVoidAt}
use Rattle.log_facts.specs.facts.OfShards.{AgreeOnFinal, FinalFacts, IsCopyOf, JobFacts, OrderedAs, OrderFacts, RankFacts, StoreFacts}
use Rattle.log_facts.proofs.Places.{each_from_append, each_from_weaker}
use Rattle.shard_rows.proofs.Acknowledging.{KeepsGiven, given_kept}
use Rattle.shard_rows.proofs.Continued.{named_cell, piece_id, piece_within, signed_cell, void_noop, whole_cases, whole_left, whole_length, whole_same}
use Rattle.shard_rows.proofs.Extending.{SameBut, extend_held, extend_none, extend_order, extend_same, extend_there, has_there, there_has}
use Rattle.shard_rows.proofs.Placing.{lacking_open}
use Rattle.shard_rows.proofs.Standing.{closed_within, final, order, rank, stable_within, started_known, store, there}
use Rattle.shard_rows.proofs.Stepping.{Shows}

-- a cell that is added: where it belongs, of an append that began, and not given up
pub record AddedCell (shape : Dimensions) (history : List Event) (shard place : ℕ) (cell : Cell) : Type 0 where
  pub placed : CellPlaced shape shard place cell
  pub begun : CellBegun history cell
  pub here : cell.body ≢ Gone

-- the cells of a list with their places
pub each_of : (P : Cell → Type 0) (Q : ℕ → Cell → Type 0) → ((place : ℕ) (cell : Cell) → Q place cell → P cell) → (place : ℕ) (cells : List Cell) → EachFrom Q place cells → Each P cells
each_of P Q f place [] h = tt
each_of P Q f place (cell ∷ cells) h = (f place cell h.0, each_of P Q f (place + 1) cells h.1)

-- what is above the floor and wasn't given up is rightly here
pub floored_above : (floor place : ℕ) (body : Body) → floor ≤ place → body ≢ Gone → BodyFloored floor place body
floored_above floor place (Kept bytes) le here = le
floored_above floor place Elsewhere le here = tt
floored_above floor place Noop le here = tt
floored_above floor place Open le here = tt
floored_above floor place Gone le here = absurd (here refl)

pub floored_each : (floor from : ℕ) (cells : List Cell) → floor ≤ from → Each (λ (cell : Cell). cell.body ≢ Gone) cells → EachFrom (CellFloored floor) from cells
floored_each floor from [] le here = tt
floored_each floor from (cell ∷ cells) le here = (floored_above floor from cell.body le here.0, floored_each floor (from + 1) cells (omega arith) here.1)

module _ (shape : Dimensions) (g : Ghost) (a : Parts) (me : ℕ) (moment : Moment shape g a) (is_there : IsShardNode shape me) where
  abbrev v : Views
  v = g.views

  abbrev s : ShardState
  s = a.shards me

  some : 1 ≤ s.view
  some = there shape g a moment me is_there

  module _ (cells : List Cell) (placing : List PlaceJob) where
    abbrev pub grown : ShardState
    grown = record s { store = extend_cells s.store cells; jobs = placing }

    pub grown_long : length_of grown ≡ length_of s + length cells
    grown_long = whole_length grown.store.order s.store.order cells (extend_order cells s.store)

    -- a whole order that grows by cells none of which is open stays whole
    pub grown_whole : NoneOpen s (length_of s) → ((k : ℕ) (cell : Cell) → slice_get cells k ≡ Some cell → cell.body ≢ Open) → (upto : ℕ) → NoneOpen grown upto
    grown_whole old decided upto place sign lt at lacking =
        let one = signed_cell grown.store.order place sign at in
        elim (whole_cases grown.store.order s.store.order cells (extend_order cells s.store) place one.cell one.stands) [
          | inl before ↦ old place sign before.0 (ap (option_map sign_of) before.1 ∙ ap Some one.signed) lacking
          | inr new ↦ decided new.place one.cell new.stands (lacking_open one.cell.body (ap (λ (x : Sign). x.sort) one.signed ∙ lacking))
        ]

    pub record Adds : Type 0 where
      pub started : IsStarted v s.view
      pub each : EachFrom (AddedCell shape a.history (home_of me)) (length_of s) cells
      pub piece : s.view ≡ v.cur → IsPiece g.log.line (length_of s) (ids_in cells)
      -- in the current view what is awaited isn't here, and a no-op stands at another replica that went as far
      pub lacks : s.view ≡ v.cur → (cell : Cell) → In cell cells → cell.body ≡ Open → held_bytes (extend_cells s.store cells).held cell.id ≡ None
      pub voids : s.view ≡ v.cur → (k : ℕ) (cell : Cell) → slice_get cells k ≡ Some cell → cell.body ≡ Noop →
          (d : ℕ) × (home_of d ≡ home_of me) × ((a.shards d).view ≡ v.cur) × IsVoidAt (a.shards d) cell.id (length_of s + k)
      -- at a backup
      pub decided : s.primary ≡ false → (k : ℕ) (cell : Cell) → slice_get cells k ≡ Some cell → cell.body ≢ Open
      pub copied : (e : ℕ) → home_of me ≡ home_of e → s.view ≡ (a.shards e).view → s.primary ≡ false → (a.shards e).primary ≡ true → IsSignPiece (a.shards e).store.order (length_of s) cells
      pub idle : s.primary ≡ false → placing ≡ []
      -- and of what is placed
      pub jobs : JobFacts v grown
      pub unplaced : first_unplaced s s.jobs ≤ first_unplaced grown placing

    module _ (adds : Adds) where
      abbrev t : ShardState
      t = grown

      same : SameBut s.store t.store
      same = extend_same cells s.store

      whole : t.store.order ≡ s.store.order ++ cells
      whole = extend_order cells s.store

      long : length_of t ≡ length_of s + length cells
      long = grown_long

      before : (place : ℕ) → place < length_of s → slice_get t.store.order place ≡ slice_get s.store.order place
      before place lt = whole_same t.store.order s.store.order cells whole place lt

      sign_before : (place : ℕ) → place < length_of s → sign_at t place ≡ sign_at s place
      sign_before place lt = ap (option_map sign_of) (before place lt)

      within : (place : ℕ) → IsFinal v g.log.high s.view place → place < length_of s
      within place f = (final shape g a moment me some).has place f

      -- a place of the order: it is an old one, or a cell was added there
      cases : {P : Type 0} (place : ℕ) (cell : Cell) → slice_get t.store.order place ≡ Some cell →
          (place < length_of s → slice_get s.store.order place ≡ Some cell → P) → ((k : ℕ) → place ≡ length_of s + k → slice_get cells k ≡ Some cell → P) → P
      cases place cell e f h = elim (whole_cases t.store.order s.store.order cells whole place cell e) [
        | inl old ↦ f old.0 old.1
        | inr new ↦ h new.place new.is new.stands
      ]

      order_grows : OrderGrows s t
      order_grows = record {
        longer = omega (arith, long);
        signs = λ place sign decided at.
            let cell = signed_cell s.store.order place sign at in
            ap (option_map sign_of) (whole_left t.store.order s.store.order cells whole place cell.cell cell.stands) ∙ ap Some cell.signed;
        placed = adds.unplaced;
        flushed = λ none. none;
      }

      grows : ShardGrows s t
      grows = record {
        view = omega arith;
        stable = let e = same.stable in omega arith;
        floor = let e = same.floor in omega arith;
        order = λ e. order_grows;
      }

      stores : StoreFacts shape me t.store
      stores =
          let f : StoreFacts shape me s.store = store shape g a moment me in
          let nothing : 0 + length s.store.order ≡ length s.store.order = omega arith in
          let stable = stable_within shape g a moment me some in
          let below = f.within in
          record {
            mode = same.mode ∙ f.mode;
            shards = same.shards ∙ f.shards;
            shard = same.shard ∙ f.shard;
            placed = subst (EachFrom (CellPlaced shape (home_of me)) 0) (sym whole) (each_from_append (CellPlaced shape (home_of me)) 0 s.store.order cells f.placed
                (subst (λ (n : ℕ). EachFrom (CellPlaced shape (home_of me)) n cells) (sym nothing) (each_from_weaker (AddedCell shape a.history (home_of me)) (CellPlaced shape (home_of me)) (λ place cell h. h.placed) (length_of s) cells adds.each)));
            floored = subst (λ (n : ℕ). EachFrom (CellFloored n) 0 t.store.order) (sym same.floor) (subst (EachFrom (CellFloored s.store.floor) 0) (sym whole) (each_from_append (CellFloored s.store.floor) 0 s.store.order cells f.floored
                (subst (λ (n : ℕ). EachFrom (CellFloored s.store.floor) n cells) (sym nothing)
                (floored_each s.store.floor (length_of s) cells (omega arith) (each_of (λ (cell : Cell). cell.body ≢ Gone) (AddedCell shape a.history (home_of me)) (λ place cell h. h.here) (length_of s) cells adds.each)))));
            within = let one = same.floor in let two = same.stable in omega arith;
            held = λ mode. none t.store.held (λ one i. subst (In one) (f.held mode) (extend_held cells s.store one i));
          }
        where
          none : (held : List (Identity × List ℕ)) → ((one : Identity × List ℕ) → In one held → ⊥) → held ≡ []
          none [] f = refl
          none (one ∷ others) f = absurd (f one (inl refl))

      ranks : RankFacts v me t
      ranks =
          let f : RankFacts v me s = rank shape g a moment me some in
          record {
            known = f.known;
            listed = f.listed;
            first = f.first;
            backups = f.backups;
            alone = f.alone;
            idle = adds.idle;
            unasked = f.unasked;
            whole = λ backup. grown_whole (f.whole backup) (adds.decided backup) (length_of t);
          }

      awaited : AwaitedFacts v t
      awaited now place cell at opened = cases place cell at
          (λ lt e. extend_none cells s.store cell.id (moment.agreed.shards.awaited me now place cell e opened))
          (λ k is e. adds.lacks now cell (in_at cells k cell e) opened)

      ordered_before : (place : ℕ) → place < length_of s → OrderedAs g.log.line s place → OrderedAs g.log.line t place
      ordered_before place lt h id e = h id (ap (option_map (λ (cell : Cell). cell.id)) (sym (before place lt)) ∙ e)

      ordered_live : s.view ≡ v.cur → (place : ℕ) → OrderedAs g.log.line t place
      ordered_live now place id e =
          let one = named_cell t.store.order place id e in
          cases place one.cell one.stands
          (λ lt old. (order shape g a moment me some).live now place id (ap (option_map (λ (cell : Cell). cell.id)) old ∙ ap Some one.named))
          (λ k is new. subst (λ (n : ℕ). slice_get g.log.line n ≡ Some id) (sym is) (piece_id g.log.line (length_of s) cells (adds.piece now) k one.cell new ∙ ap Some one.named))

      orders : OrderFacts v g.log.line t
      orders =
          let f : OrderFacts v g.log.line s = order shape g a moment me some in
          record {
            live = ordered_live;
            closed = λ below place lt. ordered_before place (within place (inr (below, lt))) (f.closed below place lt);
            flushed = λ earlier least is.
                let h = f.flushed earlier least is in
                let has = h.has in
                let placed = h.placed in
                let rises = adds.unplaced in
                record { has = omega (arith, long); placed = omega arith; ordered = λ place lt. ordered_before place (omega arith) (h.ordered place lt) };
            unstarted = λ now before. let known = started_known shape g a moment s.view adds.started in absurd (omega arith);
          }

      finals : FinalFacts v g.log.low g.log.high t
      finals =
          let f = final shape g a moment me some in
          record {
            has = λ place h. let lt = within place h in omega (arith, long);
            placed = λ place h. let lt = f.placed place h in let rises = adds.unplaced in omega arith;
            decided = λ place sign h at. f.decided place sign h (sym (sign_before place (within place h)) ∙ at);
            stable = let e = same.stable in let le = f.stable in omega arith;
            closed = λ below. let e = same.stable in let le = f.closed below in omega arith;
          }

      bytes : DataFacts a.history t.store
      bytes =
          let f = moment.agreed.bytes me in
          record {
            cells = subst (Each (CellBegun a.history)) (sym whole) (each_append (CellBegun a.history) s.store.order cells f.cells (each_of (CellBegun a.history) (AddedCell shape a.history (home_of me)) (λ place cell h. h.begun) (length_of s) cells adds.each));
            held = in_each (λ (one : Identity × List ℕ). In (Invoke one.0 one.1) a.history) t.store.held (λ one i. each_in (λ (k : Identity × List ℕ). In (Invoke k.0 k.1) a.history) s.store.held f.held one (extend_held cells s.store one i));
            asked = subst (λ (n : ℕ). 1 ≤ n → IsTrimAsked a.history n) (sym same.floor) f.asked;
          }

      -- what others have
      agree : (e : ℕ) → home_of me ≡ home_of e → 1 ≤ (a.shards e).view → AgreeOnFinal v g.log.high t (a.shards e)
      agree e home other place f h = sign_before place (within place f) ∙ moment.agreed.places.among.agree me e home some other place f h

      follows : (e : ℕ) → home_of me ≡ home_of e → s.view ≡ (a.shards e).view → s.primary ≡ false → (a.shards e).primary ≡ true → IsCopyOf t (a.shards e)
      follows e home view backup primary =
          let f : IsCopyOf s (a.shards e) = moment.agreed.places.among.copies me e home some view backup primary in
          let shorter = f.shorter in
          let piece = adds.copied e home view backup primary in
          let enough = piece_within (a.shards e).store.order (length_of s) cells piece shorter in
          record { shorter = omega (arith, long); same = λ place lt. by f piece place (below_at t.store.order place lt).0 (below_at t.store.order place lt).1 }
        where
          by : IsCopyOf s (a.shards e) → IsSignPiece (a.shards e).store.order (length_of s) cells → (place : ℕ) (cell : Cell) → slice_get t.store.order place ≡ Some cell → sign_at t place ≡ sign_at (a.shards e) place
          by f piece place cell at = cases place cell at
              (λ lt old. sign_before place lt ∙ f.same place lt)
              (λ k is new. ap (option_map sign_of) at ∙ sym (ap (sign_at (a.shards e)) is ∙ piece k cell new))

      leads : (d : ℕ) → home_of d ≡ home_of me → 1 ≤ (a.shards d).view → (a.shards d).view ≡ s.view → (a.shards d).primary ≡ false → s.primary ≡ true → IsCopyOf (a.shards d) t
      leads d home least view backup primary =
          let f : IsCopyOf (a.shards d) s = moment.agreed.places.among.copies d me home least view backup primary in
          let shorter = f.shorter in
          record { shorter = omega (arith, long); same = λ place lt. f.same place lt ∙ sym (sign_before place (omega arith)) }

      -- where a no-op stands
      void_cases : {P : Type 0} (id : Identity) (place : ℕ) → IsVoidAt t id place → (place < length_of s → IsVoidAt s id place → P) →
          ((k : ℕ) (cell : Cell) → place ≡ length_of s + k → slice_get cells k ≡ Some cell → cell.body ≡ Noop → cell.id ≡ id → P) → P
      void_cases id place void f h =
          let one = signed_cell t.store.order place (record { id = id; sort = Void }) void in
          cases place one.cell one.stands
          (λ lt old. f lt (ap (option_map sign_of) old ∙ ap Some one.signed))
          (λ k is new. h k one.cell is new (void_noop one.cell.body (ap (λ (x : Sign). x.sort) one.signed)) (ap (λ (x : Sign). x.id) one.signed))

      elsewhere : s.view ≡ v.cur → (id : Identity) (place k : ℕ) (cell : Cell) → place ≡ length_of s + k → slice_get cells k ≡ Some cell → cell.body ≡ Noop → cell.id ≡ id →
          (d : ℕ) × (home_of d ≡ home_of me) × ((a.shards d).view ≡ v.cur) × IsVoidAt (a.shards d) id place
      elsewhere now id place k cell is e noop named =
          let other = adds.voids now k cell e noop in
          (other.0, other.1, other.2, subst (λ (n : ℕ). IsVoidAt (a.shards other.0) id n) (sym is) (subst (λ (x : Identity). IsVoidAt (a.shards other.0) x (length_of s + k)) named other.3))

      given : KeepsGiven shape v g.log.given a.shards me t
      given = record {
        rises = omega arith;
        stays = λ apart id h. there_has t.store id (extend_there cells s.store id (has_there s.store id h));
        first = λ one i leads home own place void. void_cases one.id place void
            (λ lt old. moment.agreed.given.first one i leads me place home own old)
            (λ k cell is e noop named. first_new one i leads home own place k cell is e noop named (cases_lt s.view v.cur));
        others = λ view id least beyond home past place counted void. void_cases id place void
            (λ lt old. moment.agreed.given.others view id least beyond me place home past counted old)
            (λ k cell is e noop named. others_new view id least beyond home past place k cell is e noop named counted);
      }
        where
          first_new : (one : Given) → In one g.log.given → is_first (replicas_at (v.cf one.view) (shard_of one.id shape.shards)) one.node ≡ true → home_of me ≡ shard_of one.id shape.shards → one.view ≤ s.view →
              (place k : ℕ) (cell : Cell) → place ≡ length_of s + k → slice_get cells k ≡ Some cell → cell.body ≡ Noop → cell.id ≡ one.id → (s.view < v.cur) ⊎ (v.cur ≤ s.view) → (one.view < v.cur) × (v.cl one.view ≤ place)
          first_new one i leads home own place k cell is e noop named (inl below) =
              let rises = moment.agreed.views.bounds.closings_rise one.view s.view own in
              let closed = closed_within shape g a moment me some below in
              (omega arith, omega arith)
          first_new one i leads home own place k cell is e noop named (inr least) =
              let known = (rank shape g a moment me some).known in
              let now : s.view ≡ v.cur = omega arith in
              let other = elsewhere now one.id place k cell is e noop named in
              let current = other.2 in
              moment.agreed.given.first one i leads other.0 place (other.1 ∙ home) (omega arith) other.3

          others_new : (view : ℕ) (id : Identity) → 1 ≤ view → GivenBeyond shape v g.log.given a.shards view id → home_of me ≡ shard_of id shape.shards → view < s.view →
              (place k : ℕ) (cell : Cell) → place ≡ length_of s + k → slice_get cells k ≡ Some cell → cell.body ≡ Noop → cell.id ≡ id → IsCounted v s.view place → place < v.cl view
          others_new view id least beyond home past place k cell is e noop named (inr closed) =
              let lt = within place (inr closed) in absurd (omega arith)
          others_new view id least beyond home past place k cell is e noop named (inl now) =
              let other = elsewhere now id place k cell is e noop named in
              let current = other.2 in
              moment.agreed.given.others view id least beyond other.0 place (other.1 ∙ home) (omega arith) (inl current) other.3

      pub adds_shows : Shows shape g a me moment g.log.given t
      adds_shows = record {
        grows = grows;
        finals = λ place least below f. record { some = some; final = f; same = sign_before place (within place f) };
        store = stores;
        rank = λ least. ranks;
        jobs = λ least. adds.jobs;
        awaited = awaited;
        order = λ least. orders;
        final = λ least. finals;
        bytes = bytes;
        agree = λ e other home least there_too. agree e home there_too;
        follows = λ e other home least view backup primary. follows e home view backup primary;
        leads = λ d other home least view backup primary. leads d home least view backup primary;
        noted = moment.agreed.places.among.noted me;
        ahead = λ e other least first. moment.agreed.places.among.ahead me e least first;
        more = λ one i. i;
        stored = given_kept shape v g.log.given a.shards me t given moment.agreed.given;
      }
