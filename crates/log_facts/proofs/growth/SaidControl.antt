-- A step of the controller keeps what every message says.
use Rattle.std.proofs.Common.{◌≡◌, ℕ, zero, suc, ◌+◌, ◌<◌, ◌≤◌, Option, List, [], ◌∷◌, length, take, true, Some, inl, inr, refl, sym, ◌∙◌, ap, subst, arith}
use Rattle.std.specs.Prelude.{slice_get}
use Rattle.std.proofs.lemmas.Bool.{cases_lt}
use Rattle.std.proofs.lemmas.Option.{slice_get_within}
use Rattle.list_facts.specs.Lists.{In}
use Rattle.rec_id.specs.Identity.{Identity}
use Rattle.rec_id.specs.declared.entry.Entry.{Entry}
use Rattle.rec_id.specs.declared.item.Cell.{Cell}
use Rattle.view_config.specs.Shape.{Dimensions}
use Rattle.view_config.specs.declared.config.Config.{Config}
use Rattle.lazy_msgs.specs.declared.msg.Msg.{Msg}
use Rattle.lazy_msgs.specs.declared.msg.Msg.TheVariants.{Append, AppendAck, Put, DataAck, Rejected, Place, Placed, Copy, Copied, Order, Ordered, Stable, Probe, ProbeAck, TailReady, Fetch, Part, Flush, FlushCopy, Flushed, Seal, Sealed, SealedEmpty, NewView, Started, AskView, ViewIs, Claim, Trim, TrimAck, TrimmedAt}
use Rattle.lazy_rules.specs.ControlState.{ControlState}
use Rattle.lazy_rules.specs.ReaderRules.{entry_at}
use Rattle.lazy_rules.specs.Roles.{is_first, others_of, replicas_at}
use Rattle.log_facts.specs.Agreed.{Agreed}
use Rattle.log_facts.specs.Finality.{AllSettledIn, BarredOrCovered, IsBarred, TellsPlace, line_ids}
use Rattle.log_facts.specs.Ghosts.{Ghost, IsStarted, Probed, Views}
use Rattle.log_facts.specs.Growth.{ControlGrows}
use Rattle.log_facts.specs.Parts.{Parts, home_of, with_control}
use Rattle.log_facts.specs.Past.{Covers}
use Rattle.log_facts.specs.Said.{Said}
use Rattle.log_facts.specs.Says.{HandsCells, IsFlush, IsReign, LeaderlessSays, StableSays}
use Rattle.log_facts.specs.Signs.{IsPiece}
use Rattle.log_facts.proofs.Places.{at_take, take_at}

-- lists that begin alike
take_shorter : {A : Type 0} (k n : ℕ) (xs : List A) → k ≤ n → take k (take n xs) ≡ take k xs
take_shorter zero n xs le = refl
take_shorter (suc k) zero xs le = absurd (omega arith)
take_shorter (suc k) (suc n) [] le = refl
take_shorter (suc k) (suc n) (x ∷ xs) le = ap (λ (ys : List _). x ∷ ys) (take_shorter k n xs (omega arith))

module _ {A : Type 0} (n : ℕ) (xs ys : List A) (same : take n ys ≡ take n xs) where
  pub same_at : (k : ℕ) (x : A) → k < n → slice_get xs k ≡ Some x → slice_get ys k ≡ Some x
  same_at k x lt e = (at_take n ys k x (subst (λ (zs : List A). slice_get zs k ≡ Some x) (sym same) (take_at n xs k x lt e))).1

  pub same_take : (k : ℕ) → k ≤ n → take k ys ≡ take k xs
  same_take k le = sym (take_shorter k n ys le) ∙ ap (take k) same ∙ take_shorter k n xs le

module _ (shape : Dimensions) (g h : Ghost) (a : Parts) (k : ControlState) (agreed : Agreed shape g a) (grows : ControlGrows g h a) where
  abbrev v : Views
  v = g.views

  abbrev next : Views
  next = h.views

  -- a view that was started isn't beyond the latest
  pub started_known : (w : ℕ) → IsStarted v w → w ≤ v.lv
  started_known w started = elim (cases_lt v.lv w) [
    | inl above ↦ let last = agreed.views.started.last w (omega arith) in let is = started.is in absurd (omega arith)
    | inr le ↦ le
  ]

  started_current : (w : ℕ) → IsStarted v w → w ≤ v.cur
  started_current w started = let le = started_known w started in let latest = agreed.views.started.latest in omega arith

  taken_current : (node : ℕ) → (a.seqs node).view ≤ v.cur
  taken_current node = let own = (agreed.seqs node).known in let latest = agreed.views.started.latest in omega arith

  -- a view that is current then, and was started or taken before, was current
  still_current : (w : ℕ) → w ≤ v.cur → w ≡ next.cur → next.cur ≡ v.cur
  still_current w le is = let rises = grows.views.cur in omega arith

  lists_same : (w shard : ℕ) → w ≤ v.cur → replicas_at (next.cf w) shard ≡ replicas_at (v.cf w) shard
  lists_same w shard le = ap (λ (config : Config). replicas_at config shard) (grows.views.configs w le)

  settled_kept : (view shard upto : ℕ) → view ≤ v.cur → AllSettledIn v a.shards view shard upto → AllSettledIn next a.shards view shard upto
  settled_kept view shard upto le settled d among = settled d (subst (In d) (lists_same view shard le) among)

  hands_kept : (node to view from : ℕ) (cells : List Cell) → view ≤ v.cur → HandsCells shape v a.history (a.shards node) node to view from cells → HandsCells shape next a.history (a.shards node) node to view from cells
  hands_kept node to view from cells le said =
      let same = lists_same view (home_of node) le in
      record {
        leads = subst (λ (nodes : List ℕ). is_first nodes node ≡ true) (sym same) said.leads;
        follows = subst (λ (nodes : List ℕ). In to (others_of nodes)) (sym same) said.follows;
        own = said.own;
        each = said.each;
        piece = said.piece;
      }

  stable_kept : (view upto : ℕ) → StableSays v g.log.low view upto → StableSays next h.log.low view upto
  stable_kept view upto said = record {
    started = grows.views.started view said.started;
    below = let below = said.below in let rises = grows.line.low in omega arith;
    closed = λ closed. elim (cases_lt view v.cur) [
      | inl before ↦ let le = said.closed before in let same = grows.views.closings view before in omega arith
      | inr now ↦
          let le = started_current view said.started in
          let is : view ≡ v.cur = omega arith in
          let closes = grows.closes (omega arith) (subst (IsStarted v) is said.started) in
          let low = closes.low in
          let below = said.below in
          subst (λ (w : ℕ). upto ≤ next.cl w) (sym is) (omega arith)
    ];
  }

  barred_kept : (view client read : ℕ) → view ≤ v.cur → IsBarred v g.log.probed a.seqs view client read → IsBarred next h.log.probed a.seqs view client read
  barred_kept view client read le barred = record {
    node = barred.node;
    member = subst (λ (config : Config). In barred.node config.seq) (sym (grows.views.configs view le)) barred.member;
    shut = barred.shut;
    silent = subst (λ (probed : List Probed). ¬ In (record { node = barred.node; view = view; client = client; read = read }) probed) (sym grows.line.probed) barred.silent;
  }

  -- what covers a read below what is bound for good covers it still
  covers_kept : (view client read bound : ℕ) → view ≤ v.cur → bound ≤ g.log.low
      → BarredOrCovered v g.log.probed a.history a.seqs view client read (take bound g.log.line) bound → BarredOrCovered next h.log.probed a.history a.seqs view client read (take bound h.log.line) bound
  covers_kept view client read bound le below (inl barred) = inl (barred_kept view client read le barred)
  covers_kept view client read bound le below (inr covers) = inr (subst (λ (ids : List Identity). Covers a.history client read ids bound) (sym (same_take g.log.low g.log.line h.log.line grows.line.below bound below)) covers)

  tells_kept : (shard place : ℕ) (told : Option Entry) → place < g.log.low → TellsPlace v g.log.high a.history a.shards shard place told → TellsPlace next h.log.high a.history a.shards shard place told
  tells_kept shard place told below said d sign home some final is = said d sign home some (grows.finals d place some below final) is

  flush_kept : (view from : ℕ) (ids : List Identity) → IsFlush v g.log.line view from ids → IsFlush next h.log.line view from ids
  flush_kept view from ids said =
      let known = said.known in
      let is = said.is in
      let closed : said.before < v.cur = omega arith in
      record {
        before = said.before;
        some = said.some;
        is = said.is;
        known = let rises = grows.views.cur in omega arith;
        starts = said.starts ∙ sym (grows.views.closings said.before closed);
        ends = said.ends ∙ sym (grows.views.ends said.before closed);
        piece = λ i id e.
            let within = slice_get_within ids i id e in
            let ends = said.ends in
            same_at (v.le said.before) g.log.line h.log.line (grows.line.flushed said.before closed) (from + i) id (omega arith) (said.piece i id e);
      }

  reign_kept : (config : Config) → IsReign v config → IsReign next config
  reign_kept config said = record {
    started = grows.views.started config.view said.started;
    named = said.named ∙ sym (grows.views.configs config.view (started_current config.view said.started));
  }

  leaderless_kept : (view : ℕ) → IsStarted v view → view < v.cur → LeaderlessSays v g.log a.history a.seqs view → LeaderlessSays next h.log a.history a.seqs view
  leaderless_kept view started closed said =
      let same_base = grows.views.bases view started in
      let same_close = grows.views.closings view closed in
      let unbound = said.unbound in
      record {
        unbound = omega arith;
        covers = λ client read begun.
            let least = agreed.views.bounds.closed view closed in
            let low = agreed.line.closed view closed in
            subst (λ (base : ℕ). BarredOrCovered next h.log.probed a.history a.seqs view client read (take base h.log.line) base) (sym same_base)
            (covers_kept view client read (v.bs view) (omega arith) (omega arith) (said.covers client read begun));
      }

  -- what the current view's line has, in the view that is current then
  piece_kept : (view from : ℕ) (ids : List Identity) → IsStarted v view → (view ≡ v.cur → IsPiece g.log.line from ids) → view ≡ next.cur → IsPiece h.log.line from ids
  piece_kept view from ids started said is =
      let same = still_current view (started_current view started) is in
      subst (λ (line : List Identity). IsPiece line from ids) (sym (grows.line.live same)) (said (is ∙ same))

  pub said_control : (node to : ℕ) (msg : Msg) → Said shape g a node to msg → Said shape h (with_control a k) node to msg
  said_control node to (Append view id bytes) said = record { own = said.own; begun = said.begun; has = said.has }
  said_control node to (AppendAck view id) said =
      let own = said.own in
      let known = taken_current node in
      record {
        own = said.own;
        live = λ is.
            let same = still_current view (omega arith) is in
            subst (λ (line : List Identity). In id (line_ids line (a.seqs node))) (sym (grows.line.live same)) (said.live (is ∙ same));
        closed = λ closed closer. elim (cases_lt view v.cur) [
          | inl before ↦
              let there = said.closed before (closer ∙ grows.views.closers view before) in
              let same : take (next.le view) h.log.line ≡ take (v.le view) g.log.line = ap (λ (n : ℕ). take n h.log.line) (grows.views.ends view before) ∙ grows.line.flushed view before in
              subst (In id) (sym same) there
          | inr now ↦
              let is : view ≡ v.cur = omega arith in
              let least = agreed.views.started.some in
              let latest = agreed.views.started.latest in
              let current : IsStarted v v.cur = subst (IsStarted v) (omega arith) ((agreed.seqs node).joined (omega arith)).started in
              let closes = grows.closes (omega arith) current in
              let by : node ≡ next.cx v.cur = closer ∙ ap next.cx is in
              subst (λ (w : ℕ). In id (take (next.le w) h.log.line)) (sym is)
              (closes.has id (subst (λ (n : ℕ). v.cur ≤ (a.seqs n).view) by (omega arith)) (subst (λ (n : ℕ). In id (line_ids g.log.line (a.seqs n))) by (said.live is)))
        ];
      }
  said_control node to (Put id bytes) said = record { apart = said.apart; begun = said.begun }
  said_control node to (DataAck view id) said = subst (In _) (sym grows.line.given) said
  said_control node to (Rejected id place) said =
      let below = said.below in
      let rises = grows.line.low in
      record {
        apart = said.apart;
        below = omega arith;
        stands = same_at g.log.low g.log.line h.log.line grows.line.below place id said.below said.stands;
        void = λ d home some final. said.void d home some (grows.finals d place some said.below final);
      }
  said_control node to (Place view from items) said = record {
    started = grows.views.started view said.started;
    piece = piece_kept view from _ said.started said.piece;
    given = said.given;
  }
  said_control node to (Placed view upto) said = record {
    started = grows.views.started view said.started;
    settled = settled_kept view (home_of node) upto (started_current view said.started) said.settled;
  }
  said_control node to (Copy view from cells) said = record {
    started = grows.views.started view said.started;
    handed = hands_kept node to view from cells (started_current view said.started) said.handed;
  }
  said_control node to (Copied view upto) said = said
  said_control node to (Order view from ids) said = record {
    started = grows.views.started view said.started;
    begun = said.begun;
    piece = piece_kept view from ids said.started said.piece;
    settled = λ is shard.
        let same = still_current view (started_current view said.started) is in
        settled_kept view shard (from + length ids) (started_current view said.started) (said.settled (is ∙ same) shard);
  }
  said_control node to (Ordered view upto) said =
      let own = said.own in
      let known = taken_current node in
      record {
        own = said.own;
        has = said.has;
        closed = λ closed closer. elim (cases_lt view v.cur) [
          | inl before ↦ let le = said.closed before (closer ∙ grows.views.closers view before) in let same = grows.views.closings view before in omega arith
          | inr now ↦
              let is : view ≡ v.cur = omega arith in
              let least = agreed.views.started.some in
              let latest = agreed.views.started.latest in
              let current : IsStarted v v.cur = subst (IsStarted v) (omega arith) ((agreed.seqs node).joined (omega arith)).started in
              let closes = grows.closes (omega arith) current in
              let by : node ≡ next.cx v.cur = closer ∙ ap next.cx is in
              let bound : (a.seqs node).bound ≤ next.cl v.cur = subst (λ (n : ℕ). (a.seqs n).bound ≤ next.cl v.cur) (sym by) (closes.bound (subst (λ (n : ℕ). v.cur ≤ (a.seqs n).view) by (omega arith))) in
              let has = said.has (omega arith) in
              subst (λ (w : ℕ). upto ≤ next.cl w) (sym is) (omega arith)
        ];
      }
  said_control node to (Stable view upto) said = stable_kept view upto said
  said_control node to (Probe view number) said = said
  said_control node to (ProbeAck view number) said = subst (In _) (sym grows.line.probed) said
  said_control node to (TailReady view number tail) said = record {
    begun = said.begun;
    stable = stable_kept view tail said.stable;
    covers = covers_kept view to number tail (started_current view said.stable.started) said.stable.below said.covers;
  }
  said_control node to (Fetch number from end) said = said
  said_control node to (Part number from end entries) said =
      let below = said.below in
      let rises = grows.line.low in
      record {
        fetched = said.fetched;
        below = omega arith;
        told = λ place least lt. tells_kept (home_of node) place (entry_at entries place) (omega arith) (said.told place least lt);
      }
  said_control node to (Flush config from items) said = record {
    named = said.named ∙ sym (grows.views.configs config.view said.flush.known);
    flush = flush_kept config.view from _ said.flush;
    given = said.given;
  }
  said_control node to (FlushCopy view from cells) said = record {
    flush = flush_kept view from _ said.flush;
    handed = hands_kept node to view from cells said.flush.known said.handed;
  }
  said_control node to (Flushed view) said =
      let known = said.known in
      let is = said.is in
      record {
        before = said.before;
        some = said.some;
        is = said.is;
        known = let rises = grows.views.cur in omega arith;
        own = said.own;
        settled = subst (λ (end : ℕ). AllSettledIn next a.shards view (home_of node) end) (sym (grows.views.ends said.before (omega arith))) (settled_kept view (home_of node) (v.le said.before) said.known said.settled);
        ended = said.ended;
      }
  said_control node to (Seal view) said = record {
    started = grows.views.started view said.started;
    member = subst (λ (config : Config). In to config.seq) (sym (grows.views.configs view (started_current view said.started))) said.member;
  }
  said_control node to (Sealed view bound window items) said = record {
    started = grows.views.started view said.started;
    member = subst (λ (config : Config). In node config.seq) (sym (grows.views.configs view (started_current view said.started))) said.member;
    own = said.own;
    has = said.has;
  }
  said_control node to (SealedEmpty view) said = record {
    started = grows.views.started view said.started;
    member = subst (λ (config : Config). In node config.seq) (sym (grows.views.configs view (started_current view said.started))) said.member;
    apart = said.apart;
    barred = said.barred;
  }
  said_control node to (NewView config base window) said = record {
    reign = reign_kept config said.reign;
    base_is = said.base_is ∙ sym (grows.views.bases config.view said.reign.started);
    window_is = said.window_is ∙ sym (grows.views.windows config.view said.reign.started);
    leaderless = λ closed leader first below.
        let before_first = subst (λ (c : Config). is_first c.seq leader ≡ true) (grows.views.configs config.view (started_current config.view said.reign.started)) first in
        elim (cases_lt config.view v.cur) [
          | inl before ↦ leaderless_kept config.view said.reign.started before (said.leaderless before leader before_first below)
          | inr now ↦
              let le = started_current config.view said.reign.started in
              let is : config.view ≡ v.cur = omega arith in
              let closes = grows.closes (omega arith) (subst (IsStarted v) is said.reign.started) in
              subst (LeaderlessSays next h.log a.history a.seqs) (sym is)
              (closes.leaderless leader (subst (λ (w : ℕ). is_first (v.cf w).seq leader ≡ true) is before_first) (omega arith))
        ];
  }
  said_control node to (Started view) said = said
  said_control node to AskView said = tt
  said_control node to (ViewIs config) said = reign_kept config said
  said_control node to (Claim stable) said = said
  said_control node to (Trim number floor) said = said
  said_control node to (TrimAck number) said = said
  said_control node to (TrimmedAt number floor) said = record { asked = said.asked; below = let below = said.below in let rises = grows.line.low in omega arith }
