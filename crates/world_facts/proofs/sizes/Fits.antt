-- What has its sizes has the form of a frame.
use Rattle.world_facts.specs.Sizes.{Sized, IsOwn, IsMarked, IsWindow, IsPending, IsSentCell, IsPlaced, IsEntry, IsBody, AreHanded, DueBytes, CopySays, GivesNothingUp, is_gone}
use Rattle.lazy_msgs.specs.declared.msg.Msg.TheVariants.{Append, AppendAck, Put, DataAck, Rejected, Place, Placed, Copy, Copied, Order, Ordered, Stable, Probe, ProbeAck, TailReady, Fetch, Part, Flush, FlushCopy, Flushed, Seal, Sealed, SealedEmpty, NewView, Started, AskView, ViewIs, Claim, Trim, TrimAck, TrimmedAt}
use Rattle.rec_id.specs.declared.entry.Entry.{Entry}
use Rattle.rec_id.specs.declared.item.Body.{Body}
use Rattle.rec_id.specs.declared.item.Body.TheVariants.{Elsewhere, Kept, Noop, Open, Gone}
use Rattle.lazy_msgs.specs.FrameLimits.{IsWord, IsCounted, OptionalFits, ListFits, ItemFits, BodyFits, CellFits, EntryFits, PlacedFits, IsNode, NodesFit, ConfigFits, EndAt, MarksFit, WindowFits, MessageFits, words_of}
use Rattle.std.specs.List.{AllByRecursion, list_any}
use Rattle.lazy_msgs.specs.declared.limits.TheConstants.{BATCH_LIMIT, PENDING_LIMIT}
use Rattle.view_config.specs.declared.nodes.TheConstants.{BOARD, CONTROLLER}
use Rattle.rec_id.specs.declared.item.Cell.{Cell}
use Rattle.view_config.specs.declared.config.Config.{Config}
use Rattle.view_config.specs.Shape.{Dimensions, IsShape}
use Rattle.list_facts.specs.Lists.{Each}
use Rattle.view_config.specs.declared.edition.Edition.{Edition}
use Rattle.world_facts.specs.Members.{Goes, IsGroup, IsNamed, IsSeqNode, IsShardNode}
use Rattle.rec_id.specs.Identity.{Identity, IsIdentity}
use Rattle.rec_id.specs.declared.item.Item.{Item}
use Rattle.view_config.specs.declared.limits.TheConstants.{MAX_COPIES}
use Rattle.rec_id.specs.declared.marks.Marks.{Marks}
use Rattle.lazy_msgs.specs.declared.msg.Msg.{Msg}
use Rattle.view_config.specs.declared.edition.Edition.TheVariants.{One, Two}
use Rattle.std.proofs.lemmas.Bool.{and_from, cases_lt, le-ltb, lt-ltb, or_parts}
use Rattle.rec_id.specs.Marks.{bits_where, stands_marked, words_where}
use Rattle.lazy_rules.specs.Store.{is_open}
use Rattle.lazy_rules.specs.Items.{is_whole}
use Rattle.rec_id.proofs.MarkBits.{length-words_where}
use Rattle.world_facts.proofs.sizes.Sends.{line_is_word}
use Rattle.std.specs.Prelude.{nat_lt, min, ◌&&◌, ◌==◌, ◌/◌, ◌%◌, if◌then◌else◌}
use Rattle.std.proofs.Math.Nat.{pow-succ'}
use Rattle.world_facts.proofs.sizes.Windows.{some_words}
use Rattle.view_config.specs.Limits.{window_of}
use Rattle.std.proofs.Common.{ap, arith, inl, inr, length, refl, subst, sym, ◌≡◌, ◌+◌, ◌*◌, ◌<◌, ◌≤◌, ◌∷◌, ◌^◌, ◌-◌, ◌∙◌, [], true, false, zero, suc, None, Some, ℕ, List, Bool, slice_index, Option}
use Rattle.list_facts.proofs.Cases.{either}
use Rattle.rec_id.specs.declared.entry.Entry.TheVariants.{Kept as KeptEntry, Noop as NoopEntry, Gone as GoneEntry}

by_recursion : {A : Type 0} (P Q : A → Type 0) → ((x : A) → P x → Q x) → (xs : List A) → Each P xs → AllByRecursion Q xs
by_recursion P Q f [] h = tt
by_recursion P Q f (x ∷ xs) h = (f x h.0, by_recursion P Q f xs h.1)

-- ---- marks
off_bit : (b : Bool) → b ≡ false → (if b then 1 else 0) ≤ 0
off_bit true h = let wrong : true ≡ false = h in cc
off_bit false h = omega arith

low_bits : (count low top : ℕ) (told : ℕ → Bool) → bits_where count low (stands_marked top told) < 2 ^ min count (top - low)
low_bits zero low top told = let none : min 0 (top - low) ≡ 0 = omega arith in subst (λ (n : ℕ). 0 < 2 ^ n) (sym none) (omega arith)
low_bits (suc count) low top told = elim (cases_lt low top) [
  | inl inside ↦
      let rest = low_bits count (low + 1) top told in
      let exponent : min (suc count) (top - low) ≡ suc (min count (top - (low + 1))) = omega arith in
      let power : 2 ^ min (suc count) (top - low) ≡ 2 * 2 ^ min count (top - (low + 1)) = ap (λ (n : ℕ). 2 ^ n) exponent ∙ pow-succ' 2 (min count (top - (low + 1))) in
      let bit : (if stands_marked top told low then 1 else 0) ≤ 1 = either (λ (n : ℕ). n ≤ 1) (stands_marked top told low) 1 0 (λ h. omega arith) (λ h. omega arith) in
      omega arith
  | inr past ↦
      let rest = low_bits count (low + 1) top told in
      let nothing : min (suc count) (top - low) ≡ 0 = omega arith in
      let none : min count (top - (low + 1)) ≡ 0 = omega arith in
      let small : bits_where count (low + 1) (stands_marked top told) < 1 = subst (λ (n : ℕ). bits_where count (low + 1) (stands_marked top told) < 2 ^ n) none rest in
      let off : stands_marked top told low ≡ false = ap (λ (b : Bool). b && told (top - low)) (le-ltb low top past) in
      let bit : (if stands_marked top told low then 1 else 0) ≤ 0 = off_bit (stands_marked top told low) off in
      let all : (if stands_marked top told low then 1 else 0) + 2 * bits_where count (low + 1) (stands_marked top told) < 1 = omega (arith, bit, small) in
      subst (λ (n : ℕ). bits_where (suc count) low (stands_marked top told) < 2 ^ n) (sym nothing) all
]

ends_at : (words low top : ℕ) (told : ℕ → Bool) → EndAt (top - low) (words_where words low (stands_marked top told))
ends_at zero low top told = tt
ends_at (suc words) low top told =
    let next : top - (low + 64) ≡ top - low - 64 = omega arith in
    (low_bits 64 low top told, subst (λ (n : ℕ). EndAt n (words_where words (low + 64) (stands_marked top told))) next (ends_at words (low + 64) top told))

odd_with : (b : Bool) (n : ℕ) → b ≡ true → ((if b then 1 else 0) + 2 * n) % 2 ≡ 1
odd_with true n h = omega arith
odd_with false n h = let wrong : false ≡ true = h in cc

odd_first : (words top : ℕ) (told : ℕ → Bool) → 1 ≤ words → stands_marked top told 0 ≡ true → slice_index (words_where words 0 (stands_marked top told)) 0 % 2 ≡ 1
odd_first zero top told some set = absurd (omega arith)
odd_first (suc words) top told some set =
    let first : slice_index (words_where (suc words) 0 (stands_marked top told)) 0 ≡ (if stands_marked top told 0 then 1 else 0) + 2 * bits_where 63 1 (stands_marked top told) = refl in
    ap (λ (n : ℕ). n % 2) first ∙ odd_with (stands_marked top told 0) (bits_where 63 1 (stands_marked top told)) set

module _ (shape : Dimensions) where
  words_same : (e : Edition) → window_of e / 64 ≡ words_of e
  words_same One = refl
  words_same Two = refl

  marks_fit : (marks : Marks) → IsMarked shape marks → MarksFit shape.edition marks
  marks_fit marks h =
      let made = ap (λ (m : Marks). m.bits) h.is in
      let some = some_words shape in
      record {
        top = h.word;
        words = ap length made ∙ length-words_where (window_of shape.edition / 64) 0 (stands_marked marks.top h.told) ∙ words_same shape.edition;
        highest = λ least.
            let whole : marks.top - 0 ≡ marks.top = omega arith in
            let set : stands_marked marks.top h.told 0 ≡ true = and_from (nat_lt 0 marks.top) (h.told (marks.top - 0)) (lt-ltb 0 marks.top least) (ap h.told whole ∙ h.highest least) in
            ap (λ (ws : List ℕ). slice_index ws 0 % 2) made ∙ odd_first (window_of shape.edition / 64) marks.top h.told some set;
        lowest =
            let whole : marks.top - 0 ≡ marks.top = omega arith in
            subst (λ (n : ℕ). EndAt n marks.bits) whole (subst (EndAt (marks.top - 0)) (sym made) (ends_at (window_of shape.edition / 64) 0 marks.top h.told));
      }

  module _ (formed : IsShape shape) where
    window_fits : (window : List Marks) → IsWindow shape window → WindowFits shape.edition window
    window_fits window h =
        let count = h.count in
        let least = formed.clients_least in
        let most = formed.clients_most in
        record { least = omega arith; most = omega arith; each = by_recursion (IsMarked shape) (MarksFit shape.edition) marks_fit window h.each }

    -- ---- configurations
    seq_node : (node : ℕ) → IsSeqNode shape node → IsNode node
    seq_node node h = let is = h.is in let few = h.few in let most = formed.seq_most in omega arith

    shard_node : (node : ℕ) → IsShardNode shape node → IsNode node
    shard_node node h = let is = h.is in let row = h.row in let column = h.column in let shards = formed.shards_most in let copies = formed.copies_most in omega arith

    group_fits : (nodes : List ℕ) → IsGroup shape nodes → NodesFit MAX_COPIES nodes
    group_fits nodes h = let few = h.few in let copies = formed.copies_most in record { least = h.some; most = omega arith; each = by_recursion (IsShardNode shape) IsNode shard_node nodes h.each }

    config_fits : (config : Config) → IsNamed shape config → IsCounted config.view → ConfigFits config
    config_fits config h counted =
        let few = h.few in
        let most = formed.seq_most in
        let count = h.count in
        let least = formed.shards_least in
        let shards = formed.shards_most in
        record {
          view = counted;
          seq = record { least = h.some; most = omega arith; each = by_recursion (IsSeqNode shape) IsNode seq_node config.seq h.seq };
          shards_least = omega arith;
          shards_most = omega arith;
          shards = by_recursion (IsGroup shape) (NodesFit MAX_COPIES) group_fits config.shards h.shards;
        }

    -- ---- identities, items, cells, entries
    id_fits : (id : Identity) → IsOwn shape id → IsIdentity id
    id_fits id h = let client = h.client in let most = formed.clients_most in record { client_in_range = omega arith; numbered = h.least; number_in_range = h.word }

    due_fits : (due : Bool) (bytes : Option (List ℕ)) → DueBytes due shape.edition bytes → OptionalFits shape.edition bytes
    due_fits true (Some bytes) h = h
    due_fits true None h = tt
    due_fits false (Some bytes) h = absurd h
    due_fits false None h = tt

    handed_fit : (shard place : ℕ) (items : List Item) → AreHanded shape shard place items → AllByRecursion (ItemFits shape.edition) items
    handed_fit shard place [] h = tt
    handed_fit shard place (item ∷ items) h =
        (record { id = id_fits item.id h.0.id; bytes = due_fits (is_whole shape.mode && place % shape.shards == shard) item.bytes h.0.bytes }, handed_fit shard (place + 1) items h.1)

    pending_fits : (item : Item) → IsPending shape item → ItemFits shape.edition item
    pending_fits item h = record { id = id_fits item.id h.id; bytes = due_fits (is_whole shape.mode) item.bytes h.bytes }

    body_fits : (body : Body) → IsBody shape.edition body → is_open body ≡ false → is_gone body ≡ false → BodyFits shape.edition body
    body_fits Elsewhere h closed kept = tt
    body_fits (Kept bytes) h closed kept = h
    body_fits Noop h closed kept = tt
    body_fits Open h closed kept = let wrong : true ≡ false = closed in cc
    body_fits Gone h closed kept = let wrong : true ≡ false = kept in cc

    cells_fit : (cells : List Cell) → Each (IsSentCell shape) cells → list_any (λ (cell : Cell). is_gone cell.body) cells ≡ false → AllByRecursion (CellFits shape.edition) cells
    cells_fit [] h none = tt
    cells_fit (cell ∷ cells) h none =
        let parts = or_parts (is_gone cell.body) (list_any (λ (cell : Cell). is_gone cell.body) cells) none in
        (record { id = id_fits cell.id h.0.sized.id; body = body_fits cell.body h.0.sized.body h.0.closed parts.0 }, cells_fit cells h.1 parts.1)

    entry_fits : (entry : Entry) → IsEntry shape entry → EntryFits shape.edition entry
    entry_fits (KeptEntry id bytes) h = (id_fits id h.0, h.1)
    entry_fits (NoopEntry id) h = id_fits id h
    entry_fits (GoneEntry id) h = absurd h

    placed_fits : (placed : ℕ × Entry) → IsPlaced shape placed → PlacedFits shape.edition placed
    placed_fits placed h = record { place = line_is_word placed.0 h.place; entry = entry_fits placed.1 h.entry }

    copy_fits : (most from : ℕ) (cells : List Cell) → CopySays shape most from cells → list_any (λ (cell : Cell). is_gone cell.body) cells ≡ false → IsWord from × ListFits most (CellFits shape.edition) cells
    copy_fits most from cells h none = let end = h.stretch.end in (omega arith, record { count = h.stretch.few; each = cells_fit cells h.each none })

    pub message_fits : (sender to : ℕ) (msg : Msg) → Goes shape sender to msg → Sized shape msg → GivesNothingUp msg → MessageFits shape.edition msg
    message_fits sender to (Append view id bytes) goes h up = (h.0, id_fits id h.1, due_fits (is_whole shape.mode) bytes h.2)
    message_fits sender to (AppendAck view id) goes h up = (h.0, id_fits id h.1)
    message_fits sender to (Put id bytes) goes h up = (id_fits id h.0, h.1)
    message_fits sender to (DataAck view id) goes h up = (h.0, id_fits id h.1)
    message_fits sender to (Rejected id place) goes h up = (id_fits id h.0, line_is_word place h.1)
    message_fits sender to (Place view from items) goes h up = let end = h.1.stretch.end in (h.0, omega arith, record { count = h.1.stretch.few; each = handed_fit h.1.shard from items h.1.each })
    message_fits sender to (Placed view upto) goes h up = (h.0, line_is_word upto h.1)
    message_fits sender to (Copy view from cells) goes h up = let k = copy_fits BATCH_LIMIT from cells h.1 up in (h.0, k.0, k.1)
    message_fits sender to (Copied view upto) goes h up = (h.0, line_is_word upto h.1)
    message_fits sender to (Order view from ids) goes h up = let end = h.1.stretch.end in (h.0, omega arith, record { count = h.1.stretch.few; each = by_recursion (IsOwn shape) IsIdentity id_fits ids h.1.each })
    message_fits sender to (Ordered view upto) goes h up = (h.0, line_is_word upto h.1)
    message_fits sender to (Stable view upto) goes h up = (h.0, line_is_word upto h.1)
    message_fits sender to (Probe view read) goes h up = h
    message_fits sender to (ProbeAck view read) goes h up = h
    message_fits sender to (TailReady view read tail) goes h up = (h.0, h.1, line_is_word tail h.2)
    message_fits sender to (Fetch read from end) goes h up = (h.0, h.1.least, h.1.most)
    message_fits sender to (Part read from end entries) goes h up = (h.0, h.1, line_is_word end h.2.most, record { count = h.2.few; each = by_recursion (IsPlaced shape) (PlacedFits shape.edition) placed_fits entries h.2.each })
    message_fits sender to (Flush config from items) goes h up = let end = h.1.stretch.end in (config_fits config goes.2 h.0, omega arith, record { count = h.1.stretch.few; each = handed_fit h.1.shard from items h.1.each })
    message_fits sender to (FlushCopy view from cells) goes h up = let k = copy_fits PENDING_LIMIT from cells h.1 up in (h.0, k.0, k.1)
    message_fits sender to (Flushed view) goes h up = h
    message_fits sender to (Seal view) goes h up = h
    message_fits sender to (Sealed view bound window items) goes h up =
        let end = h.1.stretch.end in (h.0, omega arith, window_fits window h.1.marks, record { count = h.1.stretch.few; each = by_recursion (IsPending shape) (ItemFits shape.edition) pending_fits items h.1.each })
    message_fits sender to (SealedEmpty view) goes h up = h
    message_fits sender to (NewView config base window) goes h up = (config_fits config goes.2 h.0, line_is_word base h.1, window_fits window h.2)
    message_fits sender to (Started view) goes h up = h
    message_fits sender to AskView goes h up = tt
    message_fits sender to (ViewIs config) goes h up = config_fits config goes.2 h
    message_fits sender to (Claim stable) goes h up = line_is_word stable h
    message_fits sender to (Trim read floor) goes h up = (h.1, h.0, h.2)
    message_fits sender to (TrimAck read) goes h up = (h.1, h.0)
    message_fits sender to (TrimmedAt read floor) goes h up = (h.1, h.0, line_is_word floor h.2)

    client_node : (node : ℕ) → node < shape.clients → IsNode node
    client_node node h = let most = formed.clients_most in omega arith

    control_node : (node : ℕ) → node ≡ CONTROLLER → IsNode node
    control_node node h = omega arith

    pub from_fits : (sender to : ℕ) (msg : Msg) → Goes shape sender to msg → IsNode sender
    from_fits sender to (Append view id bytes) h = client_node sender h.0
    from_fits sender to (AppendAck view id) h = seq_node sender h.0
    from_fits sender to (Put id bytes) h = client_node sender h.0
    from_fits sender to (DataAck view id) h = shard_node sender h.0
    from_fits sender to (Rejected id place) h = shard_node sender h.0
    from_fits sender to (Place view from items) h = seq_node sender h.0
    from_fits sender to (Placed view upto) h = shard_node sender h.0
    from_fits sender to (Copy view from cells) h = shard_node sender h.0
    from_fits sender to (Copied view upto) h = shard_node sender h.0
    from_fits sender to (Order view from ids) h = seq_node sender h.0
    from_fits sender to (Ordered view upto) h = seq_node sender h.0
    from_fits sender to (Stable view upto) h = seq_node sender h.0
    from_fits sender to (Probe view read) h = client_node sender h.0
    from_fits sender to (ProbeAck view read) h = seq_node sender h.0
    from_fits sender to (TailReady view read tail) h = seq_node sender h.0
    from_fits sender to (Fetch read from end) h = client_node sender h.0
    from_fits sender to (Part read from end entries) h = shard_node sender h.0
    from_fits sender to (Flush config from items) h = control_node sender h.0
    from_fits sender to (FlushCopy view from cells) h = shard_node sender h.0
    from_fits sender to (Flushed view) h = shard_node sender h.0
    from_fits sender to (Seal view) h = control_node sender h.0
    from_fits sender to (Sealed view bound window items) h = seq_node sender h.0
    from_fits sender to (SealedEmpty view) h = seq_node sender h.0
    from_fits sender to (NewView config base window) h = control_node sender h.0
    from_fits sender to (Started view) h = seq_node sender h.0
    from_fits sender to AskView h = client_node sender h.0
    from_fits sender to (ViewIs config) h = control_node sender h.0
    from_fits sender to (Claim stable) h = shard_node sender h.0
    from_fits sender to (Trim read floor) h = client_node sender h.0
    from_fits sender to (TrimAck read) h = shard_node sender h.0
    from_fits sender to (TrimmedAt read floor) h = shard_node sender h.0

    below_board : (node : ℕ) → IsNode node → node ≤ BOARD
    below_board node h = omega arith

    pub to_fits : (sender to : ℕ) (msg : Msg) → Goes shape sender to msg → to ≤ BOARD
    to_fits sender to (Append view id bytes) h = below_board to (seq_node to h.1)
    to_fits sender to (AppendAck view id) h = below_board to (client_node to h.1)
    to_fits sender to (Put id bytes) h = below_board to (shard_node to h.1)
    to_fits sender to (DataAck view id) h = below_board to (client_node to h.1)
    to_fits sender to (Rejected id place) h = below_board to (client_node to h.1)
    to_fits sender to (Place view from items) h = below_board to (shard_node to h.1)
    to_fits sender to (Placed view upto) h = below_board to (seq_node to h.1)
    to_fits sender to (Copy view from cells) h = below_board to (shard_node to h.1)
    to_fits sender to (Copied view upto) h = below_board to (shard_node to h.1)
    to_fits sender to (Order view from ids) h = below_board to (seq_node to h.1)
    to_fits sender to (Ordered view upto) h = below_board to (seq_node to h.1)
    to_fits sender to (Stable view upto) h = below_board to (shard_node to h.1)
    to_fits sender to (Probe view read) h = below_board to (seq_node to h.1)
    to_fits sender to (ProbeAck view read) h = below_board to (client_node to h.1)
    to_fits sender to (TailReady view read tail) h = below_board to (client_node to h.1)
    to_fits sender to (Fetch read from end) h = below_board to (shard_node to h.1)
    to_fits sender to (Part read from end entries) h = below_board to (client_node to h.1)
    to_fits sender to (Flush config from items) h = below_board to (shard_node to h.1)
    to_fits sender to (FlushCopy view from cells) h = below_board to (shard_node to h.1)
    to_fits sender to (Flushed view) h = below_board to (control_node to h.1)
    to_fits sender to (Seal view) h = below_board to (seq_node to h.1)
    to_fits sender to (Sealed view bound window items) h = below_board to (control_node to h.1)
    to_fits sender to (SealedEmpty view) h = below_board to (control_node to h.1)
    to_fits sender to (NewView config base window) h = below_board to (seq_node to h.1)
    to_fits sender to (Started view) h = below_board to (control_node to h.1)
    to_fits sender to AskView h = below_board to (control_node to h.1)
    to_fits sender to (ViewIs config) h = below_board to (client_node to h.1)
    to_fits sender to (Claim stable) h = let is = h.1 in omega arith
    to_fits sender to (Trim read floor) h = below_board to (shard_node to h.1)
    to_fits sender to (TrimAck read) h = below_board to (client_node to h.1)
    to_fits sender to (TrimmedAt read floor) h = below_board to (client_node to h.1)
