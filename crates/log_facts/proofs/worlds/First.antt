-- All of it holds of the world at first.
use Rattle.std.proofs.Common.{◌≡◌, ◌≢◌, ◌⊎◌, ℕ, zero, suc, ◌+◌, ◌*◌, ◌<◌, ◌≤◌, List, [], ◌∷◌, map, length, Option, Some, None, slice_get, true, false, Bool, inl, inr, refl, sym, ◌∙◌, ap, subst, arith}
use Rattle.std.specs.Prelude.{◌/◌, ◌==◌, replicate, option_map, unwrap_or, if◌then◌else◌}
use Rattle.std.specs.List.{range_with_len}
use Rattle.std.proofs.lemmas.Bool.{cases_eq, cases_lt, eq-eqb, eqb-true, leb-true, le-ltb, lt-ltb, ne_eqb}
use Rattle.std.proofs.lemmas.List.{length-replicate, get_or-replicate}
use Rattle.std.proofs.lemmas.Option.{get_or_from_slice_get, slice_get_within}
use Rattle.list_facts.specs.Lists.{In, Each}
use Rattle.list_facts.proofs.Cases.{either}
use Rattle.list_facts.proofs.Members.{in_map}
use Rattle.list_facts.proofs.Ranges.{below_in_range}
use Rattle.rec_id.specs.Identity.{Identity}
use Rattle.rec_id.specs.Marks.{span_of, no_marks, stands_marked}
use Rattle.rec_id.specs.declared.marks.Marks.{Marks}
use Rattle.rec_id.proofs.MarkBits.{length-words_where}
use Rattle.view_config.specs.Config.{first_copies, first_seqs, initial_config}
use Rattle.view_config.specs.Limits.{window_of}
use Rattle.view_config.specs.Nodes.{seq_id, shard_id}
use Rattle.view_config.specs.Shape.{Dimensions, IsShape}
use Rattle.view_config.specs.declared.edition.Edition.{Edition}
use Rattle.view_config.specs.declared.edition.Edition.TheVariants.{One, Two}
use Rattle.lazy_rules.specs.ClientState.{first_client}
use Rattle.lazy_rules.specs.ControlState.{Flushing, Running, first_reign}
use Rattle.lazy_rules.specs.ReaderState.{first_reader}
use Rattle.lazy_rules.specs.Roles.{is_first, others_of, replicas_at}
use Rattle.lazy_rules.specs.SeqState.{SeqState, empty_window, first_seq, first_view}
use Rattle.lazy_rules.specs.SeqRules.{is_leader}
use Rattle.lazy_rules.specs.ShardState.{Backup, ShardState, backups_of, first_backups, first_shard, new_backup}
use Rattle.lazy_rules.specs.Pushing.{length_of}
use Rattle.lazy_rules.specs.WorldState.{first_shard_at, first_world, shard_place}
use Rattle.rec_id.specs.declared.item.Cell.{Cell}
use Rattle.world_facts.proofs.Lists.{place_below}
use Rattle.world_facts.proofs.Nodes.{seq_node_of, shard_node_at}
use Rattle.lazy_rules.proofs.SeenAfter.{has_seen-marked_all}
use Rattle.log_facts.specs.Agreed.{Agreed, ClientsAgree, Kept, ShardsAgree}
use Rattle.log_facts.specs.Finality.{IsFinal}
use Rattle.log_facts.specs.Ghosts.{Views}
use Rattle.log_facts.specs.Parts.{home_of, no_shard}
use Rattle.log_facts.specs.Signs.{Sign, ordered_at, sign_at, sign_in}
use Rattle.log_facts.specs.facts.OfClients.{ClientFacts, ClientNotes}
use Rattle.log_facts.specs.facts.OfData.{AmongGiven, AwaitedFacts, DataFacts}
use Rattle.log_facts.specs.facts.OfHistory.{HistoryFacts}
use Rattle.log_facts.specs.facts.OfLine.{Held, LeaderFacts, LineFacts, LiveFacts, MemberFacts, WindowFacts}
use Rattle.log_facts.specs.facts.OfReads.{ReaderFacts, ReaderNotes}
use Rattle.log_facts.specs.facts.OfSeqs.{AmongSeqs, BatchNoted, LeaderReads, SeqFacts}
use Rattle.log_facts.specs.facts.OfShards.{AmongShards, BackupNoted, FinalFacts, IsNotedTo, JobFacts, OrderFacts, RankFacts, StoreFacts}
use Rattle.log_facts.proofs.worlds.FirstNodes.{a, client_first, reader_first, seq_first, shard_first, there_at}
use Rattle.log_facts.proofs.worlds.FirstViews.{copies_at_first, first_ghost, first_log, first_views, home_at, replicas_first, seqs_at_first, views_first}

-- ---- windows without marks
all_same : {A : Type 0} (n : ℕ) (x y : A) (i : ℕ) → slice_get (replicate n x) i ≡ Some y → x ≡ y
all_same n x y i h =
    let within = slice_get_within (replicate n x) i y h in
    let long = length-replicate n x in
    sym (get_or-replicate n i x y (omega arith)) ∙ get_or_from_slice_get (replicate n x) i y y h

no_marks_width : (words : ℕ) → span_of (no_marks words) ≡ 64 * words
no_marks_width words = ap (λ (n : ℕ). 64 * n) (length-words_where words 0 (stands_marked 0 (λ other. false)))

width_in_words : (edition : Edition) → 64 * (window_of edition / 64) ≡ window_of edition
width_in_words One = refl
width_in_words Two = refl

module _ (shape : Dimensions) (formed : IsShape shape) where
  abbrev v : Views
  v = first_views shape

  marks_first : (c : ℕ) (marks : Marks) → slice_get (empty_window shape) c ≡ Some marks → no_marks (window_of shape.edition / 64) ≡ marks
  marks_first c marks h = all_same shape.clients (no_marks (window_of shape.edition / 64)) marks c h

  window_first : WindowFacts shape (empty_window shape)
  window_first = record {
    clients = length-replicate shape.clients (no_marks (window_of shape.edition / 64));
    spans = λ c marks h. subst (λ (m : Marks). span_of m ≡ window_of shape.edition) (marks_first c marks h) (no_marks_width (window_of shape.edition / 64) ∙ width_in_words shape.edition);
  }

  held_first : Held shape [] [] 0 (empty_window shape) []
  held_first = record {
    short = omega arith;
    distinct = tt;
    window_formed = window_first;
    sees = record {
      known = λ id h. absurd h;
      seen = λ id there some h. let wrong = leb-true (id.number + window_of shape.edition) 0 (sym (has_seen-marked_all shape [] id there some) ∙ h) in absurd (omega arith);
      tops = λ c marks h some. let top : 0 ≡ marks.top = ap (λ (m : Marks). m.top) (marks_first c marks h) in absurd (omega arith);
    };
    past = record { ended = λ id h. absurd h.stands; ordered = λ x y bytes last ends before h. absurd before };
  }

  -- ---- sequencing replicas
  started : (i : ℕ) → i < shape.seq → first_view shape i ≡ 1
  started i lt = rw (lt-ltb i shape.seq lt) refl

  spare : (i : ℕ) → shape.seq ≤ i → first_view shape i ≡ 0
  spare i le = rw (le-ltb i shape.seq le) refl

  few_views : (i : ℕ) → first_view shape i ≤ 1
  few_views i = elim (cases_lt i shape.seq) [
    | inl lt ↦ let is = started i lt in omega arith
    | inr le ↦ let is = spare i le in omega arith
  ]

  -- who is in view 1 is one of the first
  in_view : (i : ℕ) → 1 ≤ first_view shape i → i < shape.seq
  in_view i some = elim (cases_lt i shape.seq) [ inl lt ↦ lt | inr le ↦ let is = spare i le in absurd (omega arith) ]

  abbrev fresh : ℕ → ℕ → SeqState
  fresh i node = record (first_seq shape i) { node = node }

  -- what holds of each fresh replica, the members of view 1 by their numbers, holds of every number
  each_seq : (P : ℕ → SeqState → Type 0) → ((i node : ℕ) → (i < shape.seq → node ≡ seq_id i) → P node (fresh i node)) → (node : ℕ) → P node ((a shape).seqs node)
  each_seq P f = seq_first shape P (λ i lt. f i (seq_id i) (λ member. refl)) (λ node apart. f shape.seq node (λ lt. absurd (omega arith))) formed

  member_first : (i node : ℕ) → (i < shape.seq → node ≡ seq_id i) → 1 ≤ first_view shape i → In node (first_seqs shape.seq)
  member_first i node is some =
      let lt = in_view i some in
      subst (λ (n : ℕ). In n (first_seqs shape.seq)) (sym (is lt)) (in_map seq_id i (range_with_len 0 shape.seq) (below_in_range shape.seq i lt))

  seq_facts : (node : ℕ) → SeqFacts shape v [] node ((a shape).seqs node)
  seq_facts = each_seq (λ node s. SeqFacts shape v [] node s) (λ i node is. record {
    known = few_views i;
    joined = λ some.
        let few = few_views i in
        let one : first_view shape i ≡ 1 = omega arith in
        record {
          started = record { some = some; is = omega arith };
          member = member_first i node is some;
          config = ap (λ (w : ℕ). record (initial_config shape) { view = w }) (sym one);
        };
    items = tt;
    based = omega arith;
    leads = λ leads. record { follow = tt; sorted = tt; placed = tt; waiting = tt };
    unled = λ follows. refl;
    unasked = λ follows. refl;
    closed = λ leads lt. omega arith;
  })

  among_seqs : AmongSeqs v first_log [] (a shape).seqs (a shape).shards
  among_seqs = record {
    closers = λ view some lt. absurd (omega arith);
    noted = each_seq (λ node s. Each (BatchNoted v (a shape).seqs (a shape).shards s) s.flight) (λ i node is. tt);
    reads = each_seq (λ node s. 1 ≤ s.view → is_leader s ≡ true → LeaderReads v first_log [] (a shape).seqs s) (λ i node is some leads. record {
      cover = λ client read h. absurd h.stands;
      waiting = tt;
      old = λ lt. absurd (omega arith);
    });
    probed = tt;
  }

  -- ---- shard replicas
  module _ (i j : ℕ) (row : i < shape.shards) (column : j < shape.copies) where
    abbrev here : ℕ
    here = shard_id i j

    few_copies : j < 4
    few_copies = let most = formed.copies_most in omega arith

    home : home_of (shard_id i j) ≡ i
    home = home_at i j few_copies

    -- the replicas of its shard, by its number
    listed : (w : ℕ) → replicas_at (v.cf w) (home_of here) ≡ first_copies shape.copies i
    listed w = ap (λ (n : ℕ). replicas_at (v.cf w) n) home ∙ ap (λ (o : Option (List ℕ)). unwrap_or o []) (there_at (first_copies shape.copies) shape.shards i row)

    among : In here (first_copies shape.copies i)
    among = in_map (shard_id i) j (range_with_len 0 shape.copies) (below_in_range shape.copies j column)

    first_is : (copies : ℕ) → 1 ≤ copies → (j == 0) ≡ is_first (first_copies copies i) here
    first_is zero some = absurd (omega arith)
    first_is (suc copies) some = by (cases_eq j 0)
      where
        by : (j ≡ 0) ⊎ (j ≢ 0) → (j == 0) ≡ (shard_id i 0 == here)
        by (inl same) = eq-eqb j 0 same ∙ sym (eq-eqb (shard_id i 0) here (omega arith))
        by (inr apart) = ne_eqb j 0 apart ∙ sym (ne_eqb (shard_id i 0) here (omega arith))

    leads_is : (w : ℕ) → (j == 0) ≡ is_first (replicas_at (v.cf w) (home_of here)) here
    leads_is w = first_is shape.copies formed.copies_least ∙ ap (λ (nodes : List ℕ). is_first nodes here) (sym (listed w))

    rank_first : RankFacts v here (first_shard shape i j)
    rank_first = record {
      known = omega arith;
      listed = subst (λ (nodes : List ℕ). In here nodes) (sym (listed 1)) among;
      first = leads_is 1;
      backups = λ leads. backups_are (eqb-true j 0 leads);
      alone = λ follows. rw follows refl;
      idle = λ follows. refl;
      unasked = λ follows. refl;
      whole = λ follows place sign lt is. absurd (omega arith);
    }
      where
        back : (nodes : List ℕ) → map (λ (backup : Backup). backup.node) (map new_backup nodes) ≡ nodes
        back [] = refl
        back (node ∷ nodes) = ap (λ (ns : List ℕ). node ∷ ns) (back nodes)

        backups_are : j ≡ 0 → map (λ (backup : Backup). backup.node) (first_backups (first_copies shape.copies i) j) ≡ others_of (replicas_at (v.cf 1) (home_of here))
        backups_are is =
            ap (λ (b : Bool). map (λ (backup : Backup). backup.node) (if b then backups_of (first_copies shape.copies i) else [])) (eq-eqb j 0 is)
            ∙ back (others_of (first_copies shape.copies i))
            ∙ ap others_of (sym (listed 1))

    unnoted : (nodes : List ℕ) → Each (IsNotedTo 1 0) (map new_backup nodes)
    unnoted [] = tt
    unnoted (node ∷ nodes) = (inl (refl, refl), unnoted nodes)

    jobs_first : JobFacts v (first_shard shape i j)
    jobs_first = record {
      flush = λ job is. let wrong : None ≡ Some job = is in cc;
      started = λ job h. absurd h;
      follow = refl;
      whole = λ none place sign lt is. absurd (omega arith);
      noted = λ none. either (Each (IsNotedTo 1 0)) (j == 0) (backups_of (first_copies shape.copies i)) [] (λ leads. unnoted (others_of (first_copies shape.copies i))) (λ follows. tt);
    }

    store_first : StoreFacts shape here (first_shard shape i j).store
    store_first = record {
      mode = refl;
      shards = refl;
      shard = sym home;
      placed = tt;
      floored = tt;
      within = omega arith;
      held = λ whole. refl;
    }

  each_shard : (P : ℕ → ShardState → Type 0) → ((i j : ℕ) → i < shape.shards → j < shape.copies → P (shard_id i j) (first_shard shape i j)) → ((node : ℕ) → P node (no_shard shape node)) → (node : ℕ) → P node ((a shape).shards node)
  each_shard P f none = shard_first shape P f (λ node apart. none node) formed

  -- of shards whose orders are empty
  shards_first : ShardsAgree shape v (a shape).shards
  shards_first = record {
    stores = each_shard (λ d s. StoreFacts shape d s.store) store_first (λ d. record { mode = refl; shards = refl; shard = refl; placed = tt; floored = tt; within = omega arith; held = λ whole. refl });
    ranks = each_shard (λ d s. 1 ≤ s.view → RankFacts v d s) (λ i j row column some. rank_first i j row column) (λ d some. absurd (omega arith));
    jobs = each_shard (λ d s. 1 ≤ s.view → JobFacts v s) (λ i j row column some. jobs_first i j row column) (λ d some. absurd (omega arith));
    awaited = each_shard (λ d s. AwaitedFacts v s) (λ i j row column is place cell at lacks. let wrong : None ≡ Some cell = at in cc) (λ d is place cell at lacks. let wrong : None ≡ Some cell = at in cc);
  }

  -- no replica has any place, and none is beyond view 1
  no_order : (d : ℕ) → ((a shape).shards d).store.order ≡ []
  no_order = each_shard (λ d s. s.store.order ≡ []) (λ i j row column. refl) (λ d. refl)

  few_shard_views : (d : ℕ) → ((a shape).shards d).view ≤ 1
  few_shard_views = each_shard (λ d s. s.view ≤ 1) (λ i j row column. omega arith) (λ d. omega arith)

  none_final : (view place : ℕ) → ¬ IsFinal v 0 view place
  none_final view place (inl live) = let lt = live.1 in omega arith
  none_final view place (inr closed) = let lt = closed.1 in omega arith

  no_sign : (s : ShardState) → s.store.order ≡ [] → (place : ℕ) (sign : Sign) → sign_at s place ≢ Some sign
  no_sign s empty place sign is = let wrong : None ≡ Some sign = ap (λ (cells : List Cell). sign_in cells place) (sym empty) ∙ is in cc

  no_cell : (s : ShardState) → s.store.order ≡ [] → (place : ℕ) (id : Identity) → ordered_at s place ≢ Some id
  no_cell s empty place id is = let wrong : None ≡ Some id = ap (λ (cells : List Cell). option_map (λ (cell : Cell). cell.id) (slice_get cells place)) (sym empty) ∙ is in cc

  orders_first : (d : ℕ) → 1 ≤ ((a shape).shards d).view → OrderFacts v [] ((a shape).shards d)
  orders_first d some = record {
    live = λ is place id at. absurd (no_cell ((a shape).shards d) (no_order d) place id at);
    closed = λ lt place below id at. absurd (no_cell ((a shape).shards d) (no_order d) place id at);
    flushed = λ before least is. let few = few_shard_views d in absurd (omega arith);
    unstarted = λ is lt. absurd (omega arith);
  }

  no_stable : (d : ℕ) → ((a shape).shards d).store.stable ≡ 0
  no_stable = each_shard (λ d s. s.store.stable ≡ 0) (λ i j row column. refl) (λ d. refl)

  finals_first : (d : ℕ) → 1 ≤ ((a shape).shards d).view → FinalFacts v 0 0 ((a shape).shards d)
  finals_first d some = record {
    has = λ place final. absurd (none_final _ place final);
    placed = λ place final. absurd (none_final _ place final);
    decided = λ place sign final at. absurd (none_final _ place final);
    stable = let none = no_stable d in omega arith;
    closed = λ lt. let none = no_stable d in omega arith;
  }

  unnoted_backups : (nodes : List ℕ) → Each (BackupNoted (a shape).shards 1) (map new_backup nodes)
  unnoted_backups [] = tt
  unnoted_backups (node ∷ nodes) = ((λ n is. let wrong : None ≡ Some n = is in cc), unnoted_backups nodes)

  -- a replica of a shard is in view 1, and so is a member of that view
  in_one : (i j : ℕ) → i < shape.shards → j < shape.copies → 1 ≤ ((a shape).shards (shard_id i j)).view
  in_one i j row column = rw (shard_node_at shape formed i j row column) (rw (there_at (first_shard_at shape) (shape.shards * shape.copies) (shard_place shape i j) (place_below shape.shards shape.copies i j row column)) (omega arith))

  seq_in_one : (i : ℕ) → i < shape.seq → ((a shape).seqs (seq_id i)).view ≡ 1
  seq_in_one i lt = rw (seq_node_of shape formed i (omega arith)) (rw (there_at (first_seq shape) (shape.seq + shape.spares) i (omega arith)) (started i lt))

  in_first : (w shard d : ℕ) → In d (replicas_at (v.cf w) shard) → 1 ≤ ((a shape).shards d).view
  in_first w shard d = replicas_first shape formed w shard (λ (nodes : List ℕ). In d nodes → 1 ≤ ((a shape).shards d).view)
      (λ row among.
      let k = copies_at_first shape.copies shard d among in
      subst (λ (n : ℕ). 1 ≤ ((a shape).shards n).view) (sym k.2) (in_one shard k.0 row k.1))
      (λ among. absurd among)

  first_in : (nodes : List ℕ) (node : ℕ) → is_first nodes node ≡ true → In node nodes
  first_in [] node h = let wrong : false ≡ true = h in cc
  first_in (z ∷ zs) node h = inl (eqb-true z node h)

  among_shards : AmongShards shape v 0 (a shape).shards
  among_shards = record {
    there = λ d is. subst (λ (n : ℕ). 1 ≤ ((a shape).shards n).view) (sym is.is) (in_one is.shard is.copy is.row is.column);
    agree = λ d e home some other place final. absurd (none_final _ place final);
    copies = λ d e home some same follows leads. record {
      shorter = let empty : length_of ((a shape).shards d) ≡ 0 = ap (λ (cells : List Cell). length cells) (no_order d) in omega arith;
      same = λ place lt. let empty : length_of ((a shape).shards d) ≡ 0 = ap (λ (cells : List Cell). length cells) (no_order d) in absurd (omega arith);
    };
    noted = each_shard (λ d s. Each (BackupNoted (a shape).shards s.view) s.backups)
        (λ i j row column. either (Each (BackupNoted (a shape).shards 1)) (j == 0) (backups_of (first_copies shape.copies i)) [] (λ leads. unnoted_backups (others_of (first_copies shape.copies i))) (λ follows. tt))
        (λ d. tt);
    ahead = λ d e some leads.
        let few = few_shard_views d in
        let least = in_first ((a shape).shards d).view (home_of d) e (first_in (replicas_at (v.cf ((a shape).shards d).view) (home_of d)) e leads) in
        omega arith;
    present = λ view shard d some known among. let least = in_first view shard d among in omega arith;
  }

  -- ---- the line, and all the rest
  live_first : LiveFacts shape v first_log [] (a shape).seqs (a shape).shards
  live_first = record {
    based = omega arith;
    absent = λ node among lt. absurd (members_joined node among lt);
    leader = λ node leads. leader_first node;
    settled = λ shard d among.
        let least = in_first 1 shard d among in
        record { own = least; settled = λ is. record { has = omega arith; whole = λ place sign lt at. absurd (omega arith); placed = omega arith } };
  }
    where
      members_joined : (node : ℕ) → In node (first_seqs shape.seq) → ((a shape).seqs node).view < 1 → ⊥
      members_joined node among lt =
          let k = seqs_at_first shape.seq node among in
          let one : ((a shape).seqs node).view ≡ 1 = subst (λ (n : ℕ). ((a shape).seqs n).view ≡ 1) (sym k.2) (seq_in_one k.0 k.1) in
          omega arith

      leader_first : (node : ℕ) → LeaderFacts v first_log ((a shape).seqs node)
      leader_first = each_seq (λ node s. LeaderFacts v first_log s) (λ i node is. record { taken = λ e. refl; low = λ e. refl; absent = λ lt. refl })

  line_first : LineFacts shape v first_log [] (Running (first_reign shape)) (a shape).seqs (a shape).shards
  line_first = record {
    distinct = tt;
    begun = λ id h. absurd h;
    low = omega arith;
    high = omega arith;
    closed = λ w lt. omega arith;
    reached = λ event reach tells h. absurd h;
    behind = λ id bytes event reach place tells h at. absurd h;
    members = each_seq (λ node s. s.view ≡ 1 → MemberFacts shape v first_log [] s) (λ i node is one. record { held = held_first; least = omega arith; most = omega arith });
    live = λ e. live_first;
    closing = λ lt. absurd (omega arith);
    taken = λ taken is. let wrong : Running (first_reign shape) ≡ Flushing taken = is in cc;
  }

  history_first : HistoryFacts shape []
  history_first = record {
    appends = record {
      clients = λ id bytes h. absurd h;
      numbers = λ id bytes h. absurd h;
      begun_once = λ x first second tells also h. h;
      begun_before = λ id event tells h. absurd h;
      ended_once = λ x first second tells also h. h;
    };
    reads = record {
      begun_once = λ x first second tells also h. h;
      begun_before = λ read event tells h. absurd h;
      ended_once = λ x first second tells also h. h;
      trimmed = λ client read floor h. absurd h;
    };
    trims = record {
      asked_once = λ read low high first second tells also h. h;
      asked_before = λ client read floor h. absurd h;
      done_once = λ x first second tells also h. h;
    };
  }

  client_facts : (c : ℕ) → ClientFacts shape v [] c (first_client shape c)
  client_facts c = record {
    config = record { started = record { some = omega arith; is = refl }; named = refl };
    next = omega arith;
    few = omega arith;
    rising = tt;
    opened = tt;
    begun = λ id bytes is h. absurd h;
    ended = λ n some lt. absurd (omega arith);
  }

  reader_facts : (c : ℕ) → ReaderFacts v [] c (first_reader shape c)
  reader_facts c = record {
    config = record { started = record { some = omega arith; is = refl }; named = refl };
    reads = λ read ask h. absurd h;
    trims = λ read floor h. absurd h;
    stage = tt;
  }

  clients_first : ClientsAgree shape v first_log (a shape)
  clients_first = record {
    appends = λ c. subst (ClientFacts shape v [] c) (sym (client_first shape c)) (client_facts c);
    appends_noted = λ c. subst (ClientNotes v first_log (a shape).seqs) (sym (client_first shape c)) tt;
    reads = λ c. subst (ReaderFacts v [] c) (sym (reader_first shape c)) (reader_facts c);
    reads_noted = λ c. subst (ReaderNotes shape v first_log [] (a shape).seqs (a shape).shards c) (sym (reader_first shape c)) (record { reach = omega arith; stage = tt });
  }

  given_first : AmongGiven shape v [] (a shape).shards
  given_first = record {
    each = tt;
    first = λ one h. absurd h;
    others = λ view id some given d place home lt. let few = few_shard_views d in absurd (omega arith);
  }

  agreed_first : Agreed shape (first_ghost shape) (a shape)
  agreed_first = record {
    views = views_first shape formed;
    history = history_first;
    line = line_first;
    seqs = seq_facts;
    among_seqs = among_seqs;
    shards = shards_first;
    places = record { orders = orders_first; finals = finals_first; among = among_shards };
    bytes = each_shard (λ d s. DataFacts [] s.store) (λ i j row column. record { cells = tt; held = tt; asked = λ some. absurd (omega arith) }) (λ d. record { cells = tt; held = tt; asked = λ some. absurd (omega arith) });
    given = given_first;
    clients = clients_first;
    flushed = tt;
    told = record {
      of_data = record { acked = λ id apart h. absurd h; rejected = λ id place h. absurd h; trimmed = λ client read floor h. absurd h };
      of_reads = record { answers = λ client read from entries tail h. absurd h; seen = λ client from ids h. absurd h };
    };
  }

  pub kept_first : Kept shape (first_world shape)
  kept_first = record { ghost = first_ghost shape; holds = record { agreed = agreed_first; sent = tt } }
