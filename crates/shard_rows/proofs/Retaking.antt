-- A replica takes a view with another order from a place on, as a primary and as a backup: what has to be shown.
use Rattle.std.proofs.Common.{◌≡◌, ◌≢◌, ℕ, ◌+◌, ◌<◌, ◌≤◌, List, [], ◌∷◌, ◌++◌, length, map, take, drop, Bool, true, false, Option, Some, None, inl, inr, refl, sym, ap, ◌∙◌, subst, arith}
use Rattle.std.specs.Prelude.{slice_get, option_map}
use Rattle.std.proofs.lemmas.Bool.{cases_lt}
use Rattle.std.proofs.lemmas.List.{length-map, length-take-le}
use Rattle.list_facts.specs.Lists.{Each, In}
use Rattle.list_facts.proofs.Members.{each_append, each_in, in_each}
use Rattle.list_facts.proofs.Places.{at_in, below_at, in_at}
use Rattle.rec_id.specs.Identity.{Identity, shard_of}
use Rattle.rec_id.specs.declared.event.Event.TheVariants.{Invoke}
use Rattle.rec_id.specs.declared.item.Body.TheVariants.{Noop, Open, Gone}
use Rattle.rec_id.specs.declared.item.Cell.{Cell}
use Rattle.view_config.specs.Shape.{Dimensions}
use Rattle.world_facts.specs.Members.{IsShardNode}
use Rattle.world_facts.proofs.goes.WithoutNamed.{each_take}
use Rattle.lazy_rules.specs.Pushing.{length_of}
use Rattle.lazy_rules.specs.Roles.{is_first, others_of, replicas_at}
use Rattle.lazy_rules.specs.ShardRules.{first_unplaced}
use Rattle.lazy_rules.specs.ShardState.{Backup, FlushJob, ShardState}
use Rattle.lazy_rules.specs.Store.{cut, extend_cells, held_bytes}
use Rattle.lazy_rules.specs.WorldRules.{ids_in}
use Rattle.log_facts.specs.Finality.{IsFinal}
use Rattle.log_facts.specs.Ghosts.{Ghost, Given, Views, IsStarted}
use Rattle.log_facts.specs.Good.{Moment}
use Rattle.log_facts.specs.Growth.{ShardGrows}
use Rattle.log_facts.specs.Handed.{BodyFloored, CellBegun, CellFloored, CellPlaced, EachFrom}
use Rattle.log_facts.specs.Parts.{Parts, home_of}
use Rattle.log_facts.specs.Past.{IsTrimAsked}
use Rattle.log_facts.specs.Says.{IsFlush}
use Rattle.log_facts.specs.Signs.{IsSignPiece, NoneOpen, Sign, Void, sign_at, sign_of, sort_of}
use Rattle.log_facts.specs.facts.OfData.{AwaitedFacts, DataFacts, GivenBeyond, GivenFacts, IsCounted, IsVoidAt}
use Rattle.log_facts.specs.facts.OfShards.{AgreeOnFinal, BackupNoted, FinalFacts, IsCopyOf, IsNotedTo, JobFacts, OrderedAs, OrderFacts, RankFacts, StoreFacts}
use Rattle.log_facts.proofs.Places.{at_each_from, at_take, each_from_append, each_from_at, each_from_first, each_from_weaker}
use Rattle.shard_rows.proofs.Acknowledging.{KeepsGiven, given_kept}
use Rattle.shard_rows.proofs.Adding.{AddedCell, each_of, floored_each}
use Rattle.shard_rows.proofs.Continued.{front_same, named_cell, piece_id, signed_cell, void_noop, whole_cases, whole_length, whole_same}
use Rattle.shard_rows.proofs.Cutting.{cut_begun, cut_none, cut_order, cut_same, cut_there}
use Rattle.shard_rows.proofs.Extending.{SameBut, extend_held, extend_order, extend_same, extend_there, has_there, there_has}
use Rattle.shard_rows.proofs.Handing.{at_drop}
use Rattle.shard_rows.proofs.Placing.{first_in, lacking_open}
use Rattle.shard_rows.proofs.Standing.{final, order, rank, store, there}
use Rattle.shard_rows.proofs.Stepping.{Shows}

each_from_take : {A : Type 0} (P : ℕ → A → Type 0) (n : ℕ) (xs : List A) → EachFrom P 0 xs → EachFrom P 0 (take n xs)
each_from_take P n xs h = at_each_from P 0 (take n xs) (λ k x e. each_from_at P 0 xs h k x (at_take n xs k x e).1)

module _ (shape : Dimensions) (g : Ghost) (a : Parts) (me : ℕ) (moment : Moment shape g a) (is_there : IsShardNode shape me) where
  abbrev v : Views
  v = g.views

  abbrev s : ShardState
  s = a.shards me

  some : 1 ≤ s.view
  some = there shape g a moment me is_there

  module _ (w from : ℕ) (cells : List Cell) (leads : Bool) (backups : List Backup) (asked : Option FlushJob) where
    abbrev pub retaken : ShardState
    retaken = record s {
      view = w;
      primary = leads;
      backups = backups;
      store = extend_cells (cut s.store from) cells;
      jobs = [];
      flush = asked;
    }

    pub record Retakes : Type 0 where
      pub rises : s.view < w
      pub flush : IsFlush v g.log.line w from (ids_in cells)
      pub stable : s.store.stable ≤ from
      pub within : from ≤ length_of s
      pub each : EachFrom (AddedCell shape a.history (home_of me)) from cells
      pub listed : In me (replicas_at (v.cf w) (home_of me))
      pub first : leads ≡ is_first (replicas_at (v.cf w) (home_of me)) me
      pub ahead : (e : ℕ) → e ≢ me → is_first (replicas_at (v.cf w) (home_of me)) e ≡ true → w ≤ (a.shards e).view
      pub nodes : leads ≡ true → map (λ (backup : Backup). backup.node) backups ≡ others_of (replicas_at (v.cf w) (home_of me))
      pub noted : Each (BackupNoted a.shards w) backups
      -- at a primary there is a job, and at a backup all is decided
      pub job : (one : FlushJob) → asked ≡ Some one → one.from ≡ from
      pub alone : asked ≡ None → backups ≡ []
      pub unasked : leads ≡ false → asked ≡ None
      pub decided : asked ≡ None → (k : ℕ) (cell : Cell) → slice_get cells k ≡ Some cell → cell.body ≢ Open
      pub copied : (e : ℕ) → home_of me ≡ home_of e → w ≡ (a.shards e).view → leads ≡ false → (a.shards e).primary ≡ true → IsSignPiece (a.shards e).store.order from cells
      -- in the current view what is awaited isn't here, and a no-op stands at another replica that went as far
      pub lacks : w ≡ v.cur → (cell : Cell) → In cell cells → cell.body ≡ Open → held_bytes (extend_cells (cut s.store from) cells).held cell.id ≡ None
      pub voids : w ≡ v.cur → (k : ℕ) (cell : Cell) → slice_get cells k ≡ Some cell → cell.body ≡ Noop →
          (d : ℕ) × (home_of d ≡ home_of me) × ((a.shards d).view ≡ v.cur) × IsVoidAt (a.shards d) cell.id (from + k)

    module _ (retakes : Retakes) where
      abbrev t : ShardState
      t = retaken

      -- ---- views: it takes none that was started, and so one that is of the closing of its own
      named : 1 ≤ w
      named = let r = retakes.rises in omega arith

      known : w ≤ v.cur
      known = retakes.flush.known

      closed : s.view < v.cur
      closed = let r = retakes.rises in omega (arith, known)

      last_started : v.sv w ≤ s.view
      last_started = moment.agreed.places.among.present w (home_of me) me named known retakes.listed

      unstarted : ¬ IsStarted v w
      unstarted started = let is = started.is in let r = retakes.rises in omega (arith, last_started)

      one_start : (u : ℕ) → s.view ≤ u → u ≤ w → v.sv u ≡ v.sv w
      one_start u above below =
          let up = moment.agreed.views.started.rise u w below in
          let down = moment.agreed.views.started.rise (v.sv w) u (omega (arith, last_started)) in
          let again = moment.agreed.views.started.again w in
          omega arith

      before_above : s.view ≤ retakes.flush.before
      before_above = let r = retakes.rises in let is = retakes.flush.is in omega arith

      before_below : retakes.flush.before < w
      before_below = let is = retakes.flush.is in omega arith

      one_closing : (u : ℕ) → s.view ≤ u → u ≤ w → u < v.cur → v.cl u ≡ from
      one_closing u above below open_not =
          let here = moment.agreed.views.bounds.one_closing u open_not in
          let there_too = moment.agreed.views.bounds.one_closing retakes.flush.before (omega (arith, before_below, known)) in
          let start : v.sv u ≡ v.sv retakes.flush.before = one_start u above below ∙ sym (one_start retakes.flush.before before_above (omega (arith, before_below))) in
          here ∙ ap v.cl start ∙ sym there_too ∙ sym retakes.flush.starts

      own_closing : v.cl s.view ≡ from
      own_closing = let r = retakes.rises in one_closing s.view (omega arith) (omega arith) closed

      unlived : w ≡ v.cur → v.lv < v.cur
      unlived now = elim (cases_lt v.lv v.cur) [
        | inl below ↦ below
        | inr least ↦
            let latest = moment.agreed.views.started.latest in
            let last = moment.agreed.views.started.last w (omega arith) in
            absurd (unstarted (record { some = named; is = omega arith }))
      ]

      high_is : w ≡ v.cur → g.log.high ≡ from
      high_is now =
          let closing = moment.agreed.line.closing (unlived now) in
          let one = closing.one in
          let lived = unlived now in
          let is = retakes.flush.is in
          let at = closing.closed retakes.flush.before (omega arith) in
          let starts = retakes.flush.starts in
          omega arith

      final_below : (place : ℕ) → IsFinal v g.log.high w place → place < from
      final_below place (inl h) = let e = high_is h.0 in let lt = h.1 in omega arith
      final_below place (inr h) = let r = retakes.rises in let e = one_closing w (omega arith) (omega arith) h.0 in let lt = h.1 in omega arith

      below_final : (place : ℕ) → place < from → IsFinal v g.log.high w place
      below_final place lt = elim (cases_lt w v.cur) [
        | inl below ↦ let r = retakes.rises in let e = one_closing w (omega arith) (omega arith) below in inr (below, omega arith)
        | inr least ↦ let now : w ≡ v.cur = omega (arith, known) in let e = high_is now in inl (now, omega arith)
      ]

      was_final : (place : ℕ) → place < from → IsFinal v g.log.high s.view place
      was_final place lt = inr (closed, let e = own_closing in omega arith)

      -- ---- the order
      same : SameBut s.store t.store
      same =
          let one = cut_same s.store from in
          let two = extend_same cells (cut s.store from) in
          record { mode = two.mode ∙ one.mode; shard = two.shard ∙ one.shard; shards = two.shards ∙ one.shards; stable = two.stable ∙ one.stable; floor = two.floor ∙ one.floor }

      abbrev front : List Cell
      front = take from s.store.order

      front_long : length front ≡ from
      front_long = length-take-le from s.store.order retakes.within

      whole : t.store.order ≡ front ++ cells
      whole = extend_order cells (cut s.store from) ∙ ap (λ (xs : List Cell). xs ++ cells) (cut_order s.store from)

      long : length_of t ≡ from + length cells
      long = whole_length t.store.order front cells whole ∙ ap (λ (n : ℕ). n + length cells) front_long

      ended : length_of t ≡ v.le retakes.flush.before
      ended = let ends = retakes.flush.ends in let count = length-map cells (λ (cell : Cell). cell.id) in omega (arith, long)

      before : (place : ℕ) → place < from → slice_get t.store.order place ≡ slice_get s.store.order place
      before place lt = whole_same t.store.order front cells whole place (omega (arith, front_long)) ∙ front_same from s.store.order place retakes.within lt

      sign_before : (place : ℕ) → place < from → sign_at t place ≡ sign_at s place
      sign_before place lt = ap (option_map sign_of) (before place lt)

      -- a place of the order: it is an old one, or is new
      cases : {P : Type 0} (place : ℕ) (cell : Cell) → slice_get t.store.order place ≡ Some cell →
          (place < from → slice_get s.store.order place ≡ Some cell → P) → ((k : ℕ) → place ≡ from + k → slice_get cells k ≡ Some cell → P) → P
      cases place cell e f h = elim (whole_cases t.store.order front cells whole place cell e) [
        | inl old ↦ let both = at_take from s.store.order place cell old.1 in f both.0 both.1
        | inr new ↦ h new.place (new.is ∙ ap (λ (n : ℕ). n + new.place) front_long) new.stands
      ]

      grows : ShardGrows s t
      grows = record {
        view = let r = retakes.rises in omega arith;
        stable = let e = same.stable in omega arith;
        floor = let e = same.floor in omega arith;
        order = λ e. let r = retakes.rises in absurd (omega arith);
      }

      stores : StoreFacts shape me t.store
      stores =
          let f : StoreFacts shape me s.store = store shape g a moment me in
          let behind : 0 + length front ≡ from = omega (arith, front_long) in
          let below = f.within in
          let stable = retakes.stable in
          record {
            mode = same.mode ∙ f.mode;
            shards = same.shards ∙ f.shards;
            shard = same.shard ∙ f.shard;
            placed = subst (EachFrom (CellPlaced shape (home_of me)) 0) (sym whole) (each_from_append (CellPlaced shape (home_of me)) 0 front cells (each_from_take (CellPlaced shape (home_of me)) from s.store.order f.placed)
                (subst (λ (n : ℕ). EachFrom (CellPlaced shape (home_of me)) n cells) (sym behind) (each_from_weaker (AddedCell shape a.history (home_of me)) (CellPlaced shape (home_of me)) (λ place cell h. h.placed) from cells retakes.each)));
            floored = subst (λ (n : ℕ). EachFrom (CellFloored n) 0 t.store.order) (sym same.floor) (subst (EachFrom (CellFloored s.store.floor) 0) (sym whole) (each_from_append (CellFloored s.store.floor) 0 front cells (each_from_take (CellFloored s.store.floor) from s.store.order f.floored)
                (subst (λ (n : ℕ). EachFrom (CellFloored s.store.floor) n cells) (sym behind)
                (floored_each s.store.floor from cells (omega arith) (each_of (λ (cell : Cell). cell.body ≢ Gone) (AddedCell shape a.history (home_of me)) (λ place cell h. h.here) from cells retakes.each)))));
            within = let one = same.floor in let two = same.stable in omega arith;
            held = λ mode. none t.store.held (λ one i. subst (In one) (cut_none s.store from (f.mode ∙ mode) (f.held mode)) (extend_held cells (cut s.store from) one i));
          }
        where
          none : (held : List (Identity × List ℕ)) → ((one : Identity × List ℕ) → In one held → ⊥) → held ≡ []
          none [] f = refl
          none (one ∷ others) f = absurd (f one (inl refl))

      -- what is old is decided
      old_decided : (place : ℕ) (cell : Cell) → place < from → slice_get s.store.order place ≡ Some cell → cell.body ≢ Open
      old_decided place cell lt e opened = (final shape g a moment me some).decided place (sign_of cell) (was_final place lt) (ap (option_map sign_of) e) (ap sort_of opened)

      all_decided : asked ≡ None → (upto : ℕ) → NoneOpen t upto
      all_decided none upto place sign lt at lacking =
          let one = signed_cell t.store.order place sign at in
          let opened : one.cell.body ≡ Open = lacking_open one.cell.body (ap (λ (x : Sign). x.sort) one.signed ∙ lacking) in
          cases place one.cell one.stands (λ below e. old_decided place one.cell below e opened) (λ k is e. retakes.decided none k one.cell e opened)

      ranks : RankFacts v me t
      ranks = record {
        known = known;
        listed = retakes.listed;
        first = retakes.first;
        backups = retakes.nodes;
        alone = λ backup. retakes.alone (retakes.unasked backup);
        idle = λ backup. refl;
        unasked = retakes.unasked;
        whole = λ backup. all_decided (retakes.unasked backup) (length_of t);
      }

      jobs : JobFacts v t
      jobs = record {
        flush = λ one is. record {
          before = retakes.flush.before;
          some = retakes.flush.some;
          is = retakes.flush.is;
          from_is = retakes.job one is ∙ retakes.flush.starts;
          whole = ended;
          alone = refl;
          unstarted = unstarted;
          stable = let e = same.stable in let le = retakes.stable in let job = retakes.job one is in omega arith;
        };
        started = λ job i. absurd i;
        follow = refl;
        whole = λ none. all_decided none (first_unplaced t []);
        noted = λ none. subst (Each (IsNotedTo w (first_unplaced t []))) (sym (retakes.alone none)) tt;
      }

      awaited : AwaitedFacts v t
      awaited now place cell at opened = cases place cell at
          (λ lt e. absurd (old_decided place cell lt e opened))
          (λ k is e. retakes.lacks now cell (in_at cells k cell e) opened)

      ordered : (place : ℕ) → OrderedAs g.log.line t place
      ordered place id e =
          let one = named_cell t.store.order place id e in
          cases place one.cell one.stands
          (λ lt old. (order shape g a moment me some).closed closed place (let e = own_closing in omega arith) id (ap (option_map (λ (cell : Cell). cell.id)) old ∙ ap Some one.named))
          (λ k is new. subst (λ (n : ℕ). slice_get g.log.line n ≡ Some id) (sym is) (piece_id g.log.line from cells retakes.flush.piece k one.cell new ∙ ap Some one.named))

      orders : OrderFacts v g.log.line t
      orders = record {
        live = λ now place. ordered place;
        closed = λ below place lt. ordered place;
        flushed = λ earlier least is.
            let own = retakes.flush.is in
            let same_view : earlier ≡ retakes.flush.before = omega arith in
            let end : v.le earlier ≡ v.le retakes.flush.before = ap v.le same_view in
            record { has = omega (arith, ended); placed = omega (arith, ended); ordered = λ place lt. ordered place };
        unstarted = λ now below.
            let closing = moment.agreed.line.closing below in
            let is = retakes.flush.is in
            let end = closing.ended retakes.flush.before (omega arith) in
            omega (arith, ended);
      }

      finals : FinalFacts v g.log.low g.log.high t
      finals =
          let f = final shape g a moment me some in
          record {
            has = λ place h. let lt = final_below place h in omega (arith, long);
            placed = λ place h. let lt = final_below place h in omega (arith, long);
            decided = λ place sign h at. let lt = final_below place h in f.decided place sign (was_final place lt) (sym (sign_before place lt) ∙ at);
            stable = let e = same.stable in let le = f.stable in omega arith;
            closed = λ below. let e = same.stable in let le = retakes.stable in let r = retakes.rises in let cl = one_closing w (omega arith) (omega arith) below in omega arith;
          }

      bytes : DataFacts a.history t.store
      bytes =
          let f = moment.agreed.bytes me in
          record {
            cells = subst (Each (CellBegun a.history)) (sym whole) (each_append (CellBegun a.history) front cells
                (each_take (CellBegun a.history) from s.store.order f.cells)
                (each_of (CellBegun a.history) (AddedCell shape a.history (home_of me)) (λ place cell h. h.begun) from cells retakes.each));
            held = in_each (λ (one : Identity × List ℕ). In (Invoke one.0 one.1) a.history) t.store.held (λ one i.
                each_in (λ (k : Identity × List ℕ). In (Invoke k.0 k.1) a.history) (cut s.store from).held (cut_begun a.history s.store from f) one (extend_held cells (cut s.store from) one i));
            asked = subst (λ (n : ℕ). 1 ≤ n → IsTrimAsked a.history n) (sym same.floor) f.asked;
          }

      -- ---- what others have
      agree : (e : ℕ) → home_of me ≡ home_of e → 1 ≤ (a.shards e).view → AgreeOnFinal v g.log.high t (a.shards e)
      agree e home other place f h =
          let lt = final_below place f in
          sign_before place lt ∙ moment.agreed.places.among.agree me e home some other place (was_final place lt) h

      follows : (e : ℕ) → home_of me ≡ home_of e → w ≡ (a.shards e).view → leads ≡ false → (a.shards e).primary ≡ true → IsCopyOf t (a.shards e)
      follows e home view backup primary =
          let there_too : 1 ≤ (a.shards e).view = omega (arith, named) in
          let has = ((order shape g a moment e there_too).flushed retakes.flush.before retakes.flush.some (sym view ∙ retakes.flush.is)).has in
          record { shorter = omega (arith, ended); same = λ place lt. by there_too (retakes.copied e home view backup primary) place (below_at t.store.order place lt).0 (below_at t.store.order place lt).1 }
        where
          by : 1 ≤ (a.shards e).view → IsSignPiece (a.shards e).store.order from cells → (place : ℕ) (cell : Cell) → slice_get t.store.order place ≡ Some cell → sign_at t place ≡ sign_at (a.shards e) place
          by there_too piece place cell at = cases place cell at
              (λ lt old. sign_before place lt ∙ moment.agreed.places.among.agree me e home some there_too place (was_final place lt) (subst (λ (u : ℕ). IsFinal v g.log.high u place) view (below_final place lt)))
              (λ k is new. ap (option_map sign_of) at ∙ sym (ap (sign_at (a.shards e)) is ∙ piece k cell new))

      unled : (d : ℕ) → home_of d ≡ home_of me → 1 ≤ (a.shards d).view → (a.shards d).view ≡ w → leads ≡ true → ⊥
      unled d home least view primary =
          let first : is_first (replicas_at (v.cf w) (home_of me)) me ≡ true = sym retakes.first ∙ primary in
          let own : is_first (replicas_at (v.cf (a.shards d).view) (home_of d)) me ≡ true = subst (λ (u : ℕ). is_first (replicas_at (v.cf u) (home_of d)) me ≡ true) (sym view) (subst (λ (shard : ℕ). is_first (replicas_at (v.cf w) shard) me ≡ true) (sym home) first) in
          let le = moment.agreed.places.among.ahead d me least own in
          let r = retakes.rises in
          omega arith

      -- ---- what was acknowledged
      void_cases : {P : Type 0} (id : Identity) (place : ℕ) → IsVoidAt t id place → (place < from → IsVoidAt s id place → P) →
          ((k : ℕ) (cell : Cell) → place ≡ from + k → slice_get cells k ≡ Some cell → cell.body ≡ Noop → cell.id ≡ id → P) → P
      void_cases id place void f h =
          let one = signed_cell t.store.order place (record { id = id; sort = Void }) void in
          cases place one.cell one.stands
          (λ lt old. f lt (ap (option_map sign_of) old ∙ ap Some one.signed))
          (λ k is new. h k one.cell is new (void_noop one.cell.body (ap (λ (x : Sign). x.sort) one.signed)) (ap (λ (x : Sign). x.id) one.signed))

      elsewhere : w ≡ v.cur → (id : Identity) (place k : ℕ) (cell : Cell) → place ≡ from + k → slice_get cells k ≡ Some cell → cell.body ≡ Noop → cell.id ≡ id →
          (d : ℕ) × (home_of d ≡ home_of me) × ((a.shards d).view ≡ v.cur) × IsVoidAt (a.shards d) id place
      elsewhere now id place k cell is e noop of =
          let other = retakes.voids now k cell e noop in
          (other.0, other.1, other.2, subst (λ (n : ℕ). IsVoidAt (a.shards other.0) id n) (sym is) (subst (λ (x : Identity). IsVoidAt (a.shards other.0) x (from + k)) of other.3))

      not_gone : (cell : Cell) → In cell (drop from s.store.order) → cell.body ≢ Gone
      not_gone cell i gone =
          let f : StoreFacts shape me s.store = store shape g a moment me in
          let at = at_in (drop from s.store.order) cell i in
          let stands = at_drop from s.store.order at.0 cell at.1 in
          let floored = each_from_first (CellFloored s.store.floor) s.store.order f.floored (from + at.0) cell stands in
          let below : from + at.0 < s.store.floor = subst (BodyFloored s.store.floor (from + at.0)) gone floored in
          let within = f.within in
          let stable = retakes.stable in
          omega arith

      -- what the first replica of a view acknowledged that this one hadn't taken: that replica agrees on what is old
      first_old : (one : Given) → In one g.log.given → is_first (replicas_at (v.cf one.view) (shard_of one.id shape.shards)) one.node ≡ true → home_of me ≡ shard_of one.id shape.shards → s.view < one.view →
          (place : ℕ) → place < from → IsVoidAt s one.id place → (one.view < v.cur) × (v.cl one.view ≤ place)
      first_old one i first home past place lt void =
          let f : GivenFacts shape a.shards one = each_in (GivenFacts shape a.shards) g.log.given moment.agreed.given.each one i in
          let own = f.own in
          let some_view = f.some in
          let listed : In one.node (replicas_at (v.cf one.view) (shard_of one.id shape.shards)) = first_in (replicas_at (v.cf one.view) (shard_of one.id shape.shards)) one.node first in
          let homed : home_of one.node ≡ shard_of one.id shape.shards = (moment.agreed.views.configs.lists one.view).homes (shard_of one.id shape.shards) one.node listed in
          let there_too : 1 ≤ (a.shards one.node).view = omega arith in
          let final_too : IsFinal v g.log.high (a.shards one.node).view place = reached (a.shards one.node).view (omega arith) (rank shape g a moment one.node there_too).known in
          let agreed = moment.agreed.places.among.agree me one.node (home ∙ sym homed) some there_too place (was_final place lt) final_too in
          moment.agreed.given.first one i first one.node place homed own (sym agreed ∙ void)
        where
          reached : (u : ℕ) → s.view < u → u ≤ v.cur → IsFinal v g.log.high u place
          reached u above below = elim (cases_lt u v.cur) [
            | inl earlier ↦ let rises = moment.agreed.views.bounds.closings_rise s.view u (omega arith) in inr (earlier, omega (arith, own_closing))
            | inr least ↦ let low = moment.agreed.line.closed s.view closed in let high = moment.agreed.line.low in let now : u ≡ v.cur = omega arith in inl (now, omega (arith, own_closing))
          ]

      given : KeepsGiven shape v g.log.given a.shards me t
      given = record {
        rises = let r = retakes.rises in omega arith;
        stays = λ apart id h. there_has t.store id (extend_there cells (cut s.store from) id (cut_there s.store from ((store shape g a moment me).mode ∙ apart) not_gone id (has_there s.store id h)));
        first = λ one i first home own place void. void_cases one.id place void
            (λ lt old. elim (cases_lt s.view one.view) [
              | inl past ↦ first_old one i first home past place lt old
              | inr taken ↦ moment.agreed.given.first one i first me place home taken old
            ])
            (λ k cell is e noop of. elim (cases_lt w v.cur) [
              | inl below ↦
                  let rises = moment.agreed.views.bounds.closings_rise one.view w own in
                  let r = retakes.rises in
                  let cl = one_closing w (omega arith) (omega arith) below in
                  (omega arith, omega arith)
              | inr least ↦
                  let now : w ≡ v.cur = omega (arith, known) in
                  let other = elsewhere now one.id place k cell is e noop of in
                  let current = other.2 in
                  moment.agreed.given.first one i first other.0 place (other.1 ∙ home) (omega arith) other.3
            ]);
        others = λ view id least beyond home past place counted void. void_cases id place void
            (λ lt old. elim (cases_lt view s.view) [
              | inl earlier ↦ moment.agreed.given.others view id least beyond me place home earlier (inr (closed, let e = own_closing in omega arith)) old
              | inr later ↦ let cl = one_closing view later (omega arith) (omega (arith, known)) in omega arith
            ])
            (λ k cell is e noop of. new_counted view id least beyond home past place k cell is e noop of counted);
      }
        where
          new_counted : (view : ℕ) (id : Identity) → 1 ≤ view → GivenBeyond shape v g.log.given a.shards view id → home_of me ≡ shard_of id shape.shards → view < w →
              (place k : ℕ) (cell : Cell) → place ≡ from + k → slice_get cells k ≡ Some cell → cell.body ≡ Noop → cell.id ≡ id → IsCounted v w place → place < v.cl view
          new_counted view id least beyond home past place k cell is e noop of (inr h) =
              let lt = final_below place (inr h) in absurd (omega arith)
          new_counted view id least beyond home past place k cell is e noop of (inl now) =
              let other = elsewhere now id place k cell is e noop of in
              let current = other.2 in
              moment.agreed.given.others view id least beyond other.0 place (other.1 ∙ home) (omega arith) (inl current) other.3

      pub retaken_long : length_of t ≡ from + length cells
      retaken_long = long

      pub retakes_shows : Shows shape g a me moment g.log.given t
      retakes_shows = record {
        grows = grows;
        finals = λ place least below f. let lt = final_below place f in record { some = some; final = was_final place lt; same = sign_before place lt };
        store = stores;
        rank = λ least. ranks;
        jobs = λ least. jobs;
        awaited = awaited;
        order = λ least. orders;
        final = λ least. finals;
        bytes = bytes;
        agree = λ e other home least there_too. agree e home there_too;
        follows = λ e other home least view backup primary. follows e home view backup primary;
        leads = λ d other home least view backup primary. absurd (unled d home least view primary);
        noted = retakes.noted;
        ahead = λ e other least first. retakes.ahead e other first;
        more = λ one i. i;
        stored = given_kept shape v g.log.given a.shards me t given moment.agreed.given;
      }
