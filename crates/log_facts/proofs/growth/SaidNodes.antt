-- A step of a node keeps what every message says.
use Rattle.std.proofs.Common.{◌≡◌, ◌≢◌, ℕ, zero, suc, ◌+◌, ◌<◌, ◌≤◌, Option, List, [], ◌∷◌, ◌++◌, length, take, Some, None, inl, inr, sym, ◌∙◌, subst, arith}
use Rattle.std.specs.Prelude.{slice_get}
use Rattle.std.proofs.lemmas.Bool.{cases_lt}
use Rattle.list_facts.specs.Lists.{In, Front}
use Rattle.list_facts.proofs.Members.{each_weaker, in_cases}
use Rattle.rec_id.specs.Identity.{Identity}
use Rattle.rec_id.specs.declared.entry.Entry.{Entry}
use Rattle.rec_id.specs.declared.event.Event.{Event}
use Rattle.rec_id.specs.declared.event.Event.TheVariants.{Begin}
use Rattle.rec_id.specs.declared.item.Body.{Body}
use Rattle.rec_id.specs.declared.item.Body.TheVariants.{Elsewhere, Kept, Noop, Open, Gone}
use Rattle.rec_id.specs.declared.item.Cell.{Cell}
use Rattle.rec_id.specs.declared.item.Item.{Item}
use Rattle.view_config.specs.Shape.{Dimensions}
use Rattle.lazy_msgs.specs.declared.msg.Msg.{Msg}
use Rattle.lazy_msgs.specs.declared.msg.Msg.TheVariants.{Append, AppendAck, Put, DataAck, Rejected, Place, Placed, Copy, Copied, Order, Ordered, Stable, Probe, ProbeAck, TailReady, Fetch, Part, Flush, FlushCopy, Flushed, Seal, Sealed, SealedEmpty, NewView, Started, AskView, ViewIs, Claim, Trim, TrimAck, TrimmedAt}
use Rattle.lazy_rules.specs.ReaderRules.{entry_at}
use Rattle.log_facts.specs.Agreed.{Agreed}
use Rattle.log_facts.specs.Finality.{AllSettledIn, IsShut, TellsPlace, BarredOrCovered}
use Rattle.log_facts.specs.Ghosts.{Ghost, Log, Views, IsStarted}
use Rattle.log_facts.specs.Growth.{NodeGrows, SeqGrows}
use Rattle.log_facts.specs.Handed.{BodyBegun, BodyDecided, CellHanded, ItemGiven}
use Rattle.log_facts.specs.Parts.{Parts, home_of}
use Rattle.log_facts.specs.Past.{HasBegun, IsBegun}
use Rattle.log_facts.specs.Said.{Said}
use Rattle.log_facts.specs.Says.{HandsCells, StableSays, FetchSays, IsFlush, SealedEmptySays, LeaderlessSays}
use Rattle.log_facts.specs.Signs.{IsPiece, Lacking, sign_at, sign_of, sort_of}
use Rattle.log_facts.proofs.Places.{at_left, each_from_at, each_from_weaker}
use Rattle.log_facts.proofs.growth.Orders.{all_settled_later}
use Rattle.log_facts.proofs.growth.Pasts.{begun_later, in_later, read_later, tells_later, trim_later}
use Rattle.log_facts.proofs.growth.Shuts.{barred_later, cover_later, shut_later, silent_later}

-- ---- a line that grows at its end
module _ {A : Type 0} (xs ys : List A) (front : Front xs ys) where
  pub front_at : (k : ℕ) (x : A) → slice_get xs k ≡ Some x → slice_get ys k ≡ Some x
  front_at k x e = subst (λ (zs : List A). slice_get zs k ≡ Some x) (sym front.is) (at_left xs front.rest k x e)

  pub piece_later : (from : ℕ) (piece : List A) → IsPiece xs from piece → IsPiece ys from piece
  piece_later from piece h k x e = front_at (from + k) x (h k x e)

take_in_more : {A : Type 0} (n : ℕ) (xs ys : List A) (x : A) → In x (take n xs) → In x (take n (xs ++ ys))
take_in_more zero xs ys x h = absurd h
take_in_more (suc n) [] ys x h = absurd h
take_in_more (suc n) (z ∷ zs) ys x (inl e) = inl e
take_in_more (suc n) (z ∷ zs) ys x (inr h) = inr (take_in_more n zs ys x h)

pub front_take : {A : Type 0} (n : ℕ) (xs ys : List A) → Front xs ys → (x : A) → In x (take n xs) → In x (take n ys)
front_take n xs ys front x h = subst (λ (zs : List _). In x (take n zs)) (sym front.is) (take_in_more n xs front.rest x h)

-- a cell that is decided isn't lacking
pub decided_sort : (cell : Cell) → BodyDecided cell.body → (sign_of cell).sort ≢ Lacking
decided_sort cell h = by cell.body h
  where
    by : (body : Body) → BodyDecided body → sort_of body ≢ Lacking
    by Elsewhere h e = cc
    by (Kept bytes) h e = cc
    by Noop h e = cc
    by Open h e = absurd h
    by Gone h e = absurd h

module _ (shape : Dimensions) (g : Ghost) (later : Log) (a b : Parts) (agreed : Agreed shape g a) (grows : NodeGrows g.views g.log later a b) where
  abbrev v : Views
  v = g.views

  abbrev then : Ghost
  then = record { views = g.views; log = later }

  begun : (id : Identity) → IsBegun a.history id → IsBegun b.history id
  begun = begun_later g.log.probed a.history b.history grows.history

  read : (client number : ℕ) → HasBegun a.history client number → HasBegun b.history client number
  read = read_later g.log.probed a.history b.history grows.history

  stands : (event : Event) → In event a.history → In event b.history
  stands = in_later g.log.probed a.history b.history grows.history

  seq : (node : ℕ) → SeqGrows (a.seqs node) (b.seqs node)
  seq = grows.seqs

  -- who has taken a view that is current, or has closed, is not beyond the latest
  known : (node : ℕ) → (a.seqs node).view ≤ v.cur
  known node = let own = (agreed.seqs node).known in let latest = agreed.views.started.latest in omega arith

  item_kept : (shard place : ℕ) (item : Item) → ItemGiven shape a.history shard place item → ItemGiven shape b.history shard place item
  item_kept shard place item h = record { own = h.own; begun = stands _ h.begun; has = h.has }

  body_kept : (id : Identity) (body : Body) → BodyBegun a.history id body → BodyBegun b.history id body
  body_kept id (Kept bytes) h = stands _ h
  body_kept id Elsewhere h = begun id h
  body_kept id Noop h = begun id h
  body_kept id Open h = begun id h
  body_kept id Gone h = begun id h

  cell_kept : (shard place : ℕ) (cell : Cell) → CellHanded shape a.history shard place cell → CellHanded shape b.history shard place cell
  cell_kept shard place cell h = record { placed = h.placed; begun = body_kept cell.id cell.body h.begun; decided = h.decided }

  hands_kept : (node to view from : ℕ) (cells : List Cell) → HandsCells shape v a.history (a.shards node) node to view from cells → HandsCells shape v b.history (b.shards node) node to view from cells
  hands_kept node to view from cells h =
      let own = h.own in
      let rises = (grows.shards node).view in
      record {
        leads = h.leads;
        follows = h.follows;
        own = omega arith;
        each = each_from_weaker (CellHanded shape a.history (home_of node)) (CellHanded shape b.history (home_of node)) (cell_kept (home_of node)) from cells h.each;
        piece = λ is k cell e.
            let stayed : (a.shards node).view ≡ (b.shards node).view = omega arith in
            let decided = (each_from_at (CellHanded shape a.history (home_of node)) from cells h.each k cell e).decided in
            ((grows.shards node).order stayed).signs (from + k) (sign_of cell) (decided_sort cell decided) (h.piece (stayed ∙ is) k cell e);
      }

  tells_kept : (shard place : ℕ) (told : Option Entry) → place < g.log.low → TellsPlace v g.log.high a.history a.shards shard place told → TellsPlace v later.high b.history b.shards shard place told
  tells_kept shard place told below h d sign home some final is =
      let stays = grows.finals d place some below final in
      let before : sign_at (a.shards d) place ≡ Some sign = sym stays.same ∙ is in
      tells_later g.log.probed a.history b.history grows.history sign told (h d sign home stays.some stays.final before)

  covers_kept : (view client number : ℕ) → HasBegun a.history client number → (ids more : List Identity) (bound higher : ℕ) → ((id : Identity) → In id ids → In id more) → bound ≤ higher
      → BarredOrCovered v g.log.probed a.history a.seqs view client number ids bound → BarredOrCovered v later.probed b.history b.seqs view client number more higher
  covers_kept = cover_later v g.log later a.history b.history a.seqs b.seqs grows.history grows.logs grows.seqs

  stable_kept : (view upto : ℕ) → StableSays v g.log.low view upto → StableSays v later.low view upto
  stable_kept view upto h =
      let below = h.below in
      let rises = grows.logs.low in
      record { started = h.started; below = omega arith; closed = h.closed }

  settled_kept : (view shard upto : ℕ) → AllSettledIn v a.shards view shard upto → AllSettledIn v b.shards view shard upto
  settled_kept = all_settled_later v a.shards b.shards grows.shards

  fetch_kept : (client number from : ℕ) → FetchSays a.history client number from → FetchSays b.history client number from
  fetch_kept client number from h = record { ask = h.ask; begun = stands _ h.begun; is = h.is }

  -- a view that its leader never took: reads that began since are barred by its closer
  leaderless_kept : (view : ℕ) → IsStarted v view → view < v.cur → LeaderlessSays v g.log a.history a.seqs view → LeaderlessSays v later b.history b.seqs view
  leaderless_kept view started closed h = record {
    unbound = h.unbound;
    covers = λ client number begun_now. elim (in_cases (Begin client number begun_now.ask) a.history grows.history.told (subst (λ (es : List Event). In (Begin client number begun_now.ask) es) grows.history.is begun_now.stands)) [
      | inl before ↦
          covers_kept view client number (record { ask = begun_now.ask; stands = before })
          (take (v.bs view) g.log.line) (take (v.bs view) later.line) (v.bs view) (v.bs view) (front_take (v.bs view) g.log.line later.line grows.logs.line) (omega arith)
          (h.covers client number (record { ask = begun_now.ask; stands = before }))
      | inr new ↦
          let closer = agreed.among_seqs.closers view started.some closed in
          let member : In (v.cx view) (v.cf view).seq = subst (λ (w : ℕ). In (v.cx view) (v.cf w).seq) started.is closer.member in
          let shut : IsShut (a.seqs (v.cx view)) view = subst (IsShut (a.seqs (v.cx view))) started.is closer.shut in
          inl (record {
            node = v.cx view;
            member = member;
            shut = shut_later (a.seqs (v.cx view)) (b.seqs (v.cx view)) (seq (v.cx view)) view shut;
            silent = silent_later v g.log later a.history b.history a.seqs b.seqs grows.history grows.logs grows.seqs
                (record { node = v.cx view; view = view; client = client; read = number }) shut (grows.history.unread client number begun_now.ask new (v.cx view) view);
          })
    ];
  }

  flush_kept : (view from : ℕ) (ids : List Identity) → IsFlush v g.log.line view from ids → IsFlush v later.line view from ids
  flush_kept view from ids h = record {
    before = h.before;
    some = h.some;
    is = h.is;
    known = h.known;
    starts = h.starts;
    ends = h.ends;
    piece = piece_later g.log.line later.line grows.logs.line from ids h.piece;
  }

  -- a primary at no flush begins none in its view
  ended_kept : (node view : ℕ) → view ≤ (a.shards node).view → ((a.shards node).view ≡ view → (a.shards node).flush ≡ None) → (b.shards node).view ≡ view → (b.shards node).flush ≡ None
  ended_kept node view own ended is =
      let rises = (grows.shards node).view in
      let stayed : (a.shards node).view ≡ (b.shards node).view = omega arith in
      ((grows.shards node).order stayed).flushed (ended (stayed ∙ is))

  empty_kept : (node view : ℕ) → SealedEmptySays v (a.seqs node) node view → SealedEmptySays v (b.seqs node) node view
  empty_kept node view h = record {
    started = h.started;
    member = h.member;
    apart = λ is. elim (cases_lt (a.seqs node).view view) [
      | inl below ↦ elim (barred_later (a.seqs node) (b.seqs node) (seq node) view below (h.barred below)) [ inl k ↦ let lt = k.0 in absurd (omega arith) | inr k ↦ absurd (omega arith) ]
      | inr least ↦ let rises = (seq node).view in h.apart (omega arith)
    ];
    barred = λ below.
        let rises = (seq node).view in
        let before : (a.seqs node).view < view = omega arith in
        let barred = h.barred before in
        let more = (seq node).barred in
        omega arith;
  }

  pub said_nodes : (node to : ℕ) (msg : Msg) → Said shape g a node to msg → Said shape then b node to msg
  said_nodes node to (Append view id bytes) h = record { own = h.own; begun = stands _ h.begun; has = h.has }
  said_nodes node to (AppendAck view id) h =
      let own = h.own in
      let rises = (seq node).view in
      record {
        own = omega arith;
        live = λ is. grows.lines node id (omega arith) (h.live is);
        closed = λ below closer. front_take (v.le view) g.log.line later.line grows.logs.line id (h.closed below closer);
      }
  said_nodes node to (Put id bytes) h = record { apart = h.apart; begun = stands _ h.begun }
  said_nodes node to (DataAck view id) h = grows.logs.given _ h
  said_nodes node to (Rejected id place) h =
      let below = h.below in
      let rises = grows.logs.low in
      record {
        apart = h.apart;
        below = omega arith;
        stands = front_at g.log.line later.line grows.logs.line place id h.stands;
        void = λ d home some final.
            let stays = grows.finals d place some h.below final in
            stays.same ∙ h.void d home stays.some stays.final;
      }
  said_nodes node to (Place view from items) h = record {
    started = h.started;
    piece = λ is. piece_later g.log.line later.line grows.logs.line from _ (h.piece is);
    given = each_from_weaker (ItemGiven shape a.history (home_of to)) (ItemGiven shape b.history (home_of to)) (item_kept (home_of to)) from items h.given;
  }
  said_nodes node to (Placed view upto) h = record { started = h.started; settled = settled_kept view (home_of node) upto h.settled }
  said_nodes node to (Copy view from cells) h = record { started = h.started; handed = hands_kept node to view from cells h.handed }
  said_nodes node to (Copied view upto) h =
      let own = h.own in
      let rises = (grows.shards node).view in
      record {
        own = omega arith;
        has = λ is.
            let stayed : (a.shards node).view ≡ (b.shards node).view = omega arith in
            let before = h.has (stayed ∙ is) in
            let longer = ((grows.shards node).order stayed).longer in
            omega arith;
      }
  said_nodes node to (Order view from ids) h = record {
    started = h.started;
    begun = each_weaker (IsBegun a.history) (IsBegun b.history) begun ids h.begun;
    piece = λ is. piece_later g.log.line later.line grows.logs.line from ids (h.piece is);
    settled = λ is shard. settled_kept view shard (from + length ids) (h.settled is shard);
  }
  said_nodes node to (Ordered view upto) h =
      let own = h.own in
      let rises = (seq node).view in
      record {
        own = omega arith;
        has = λ is.
            let stayed : (a.seqs node).view ≡ (b.seqs node).view = omega arith in
            let before = h.has (stayed ∙ is) in
            let bound = (seq node).bound stayed in
            omega arith;
        closed = h.closed;
      }
  said_nodes node to (Stable view upto) h = stable_kept view upto h
  said_nodes node to (Probe view number) h = read node number h
  said_nodes node to (ProbeAck view number) h = grows.logs.probed _ h
  said_nodes node to (TailReady view number tail) h = record {
    begun = read to number h.begun;
    stable = stable_kept view tail h.stable;
    covers = covers_kept view to number h.begun (take tail g.log.line) (take tail later.line) tail tail (front_take tail g.log.line later.line grows.logs.line) (omega arith) h.covers;
  }
  said_nodes node to (Fetch number from end) h = fetch_kept node number from h
  said_nodes node to (Part number from end entries) h =
      let below = h.below in
      let rises = grows.logs.low in
      record {
        fetched = fetch_kept to number from h.fetched;
        below = omega arith;
        told = λ place least lt. tells_kept (home_of node) place (entry_at entries place) (omega arith) (h.told place least lt);
      }
  said_nodes node to (Flush config from items) h = record {
    named = h.named;
    flush = flush_kept config.view from _ h.flush;
    given = each_from_weaker (ItemGiven shape a.history (home_of to)) (ItemGiven shape b.history (home_of to)) (item_kept (home_of to)) from items h.given;
  }
  said_nodes node to (FlushCopy view from cells) h = record { flush = flush_kept view from _ h.flush; handed = hands_kept node to view from cells h.handed }
  said_nodes node to (Flushed view) h = record {
    before = h.before;
    some = h.some;
    is = h.is;
    known = h.known;
    own = let own = h.own in let rises = (grows.shards node).view in omega arith;
    settled = settled_kept view (home_of node) (v.le h.before) h.settled;
    ended = ended_kept node view h.own h.ended;
  }
  said_nodes node to (Seal view) h = h
  said_nodes node to (Sealed view bound window items) h =
      let own = h.own in
      let rises = (seq node).view in
      record {
        started = h.started;
        member = h.member;
        own = omega arith;
        has = λ is.
            let stayed : (a.seqs node).view ≡ (b.seqs node).view = omega arith in
            let before = h.has (stayed ∙ is) in
            let stays = (seq node).sealed stayed before.sealed in
            record {
              sealed = stays.sealed;
              bound_is = stays.bound ∙ before.bound_is;
              window_is = stays.window ∙ before.window_is;
              items_are = stays.pending ∙ before.items_are;
            };
      }
  said_nodes node to (SealedEmpty view) h = empty_kept node view h
  said_nodes node to (NewView config base window) h = record {
    reign = h.reign;
    base_is = h.base_is;
    window_is = h.window_is;
    leaderless = λ closed leader first below.
        let rises = (seq leader).view in
        leaderless_kept config.view h.reign.started closed (h.leaderless closed leader first (omega arith));
  }
  said_nodes node to (Started view) h = let rises = (seq node).view in let own = h in omega arith
  said_nodes node to AskView h = tt
  said_nodes node to (ViewIs config) h = h
  said_nodes node to (Claim stable) h = let rises = (grows.shards node).stable in let below = h in omega arith
  said_nodes node to (Trim number floor) h = stands _ h
  said_nodes node to (TrimAck number) h =
      let below = h.given_up in
      let rises = (grows.shards node).floor in
      record { floor = h.floor; asked = stands _ h.asked; given_up = omega arith }
  said_nodes node to (TrimmedAt number floor) h =
      let below = h.below in
      let rises = grows.logs.low in
      record { asked = trim_later g.log.probed a.history b.history grows.history floor h.asked; below = omega arith }
