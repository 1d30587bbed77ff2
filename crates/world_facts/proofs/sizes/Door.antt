-- No message is turned away at a door.
use Rattle.world_facts.specs.Sizes.{Sized, IsOwn, IsMarked, IsWindow, IsPending, IsSentCell, IsPlaced, IsEntry, AreHanded}
use Rattle.lazy_msgs.specs.declared.msg.Msg.TheVariants.{Append, AppendAck, Put, DataAck, Rejected, Place, Copy, Order, Probe, Part, Flush, FlushCopy, Sealed, NewView, ViewIs}
use Rattle.rec_id.specs.declared.entry.Entry.{Entry}
use Rattle.rec_id.specs.declared.item.Cell.{Cell}
use Rattle.view_config.specs.declared.config.Config.{Config}
use Rattle.view_config.specs.Shape.{Dimensions, IsShape, node_of}
use Rattle.list_facts.specs.Lists.{Each}
use Rattle.view_config.specs.declared.edition.Edition.{Edition}
use Rattle.world_facts.specs.Members.{Goes, IsGroup, IsNamed, IsSeqNode, IsShardNode}
use Rattle.rec_id.specs.Identity.{Identity}
use Rattle.rec_id.specs.declared.item.Item.{Item}
use Rattle.rec_id.specs.declared.marks.Marks.{Marks}
use Rattle.lazy_msgs.specs.declared.msg.Msg.{Msg}
use Rattle.view_config.specs.declared.nodes.Node.{Node}
use Rattle.view_config.specs.declared.edition.Edition.TheVariants.{One, Two}
use Rattle.std.proofs.lemmas.Bool.{and_from, cases_eq, cases_lt, eq-eqb, le-ltb, lt-ltb, ne_eqb}
use Rattle.rec_id.specs.Marks.{bit_of, bits_where, stands_marked, words_where}
use Rattle.rec_id.proofs.MarkBits.{bit_of-words_where, bits_where-lt, length-words_where}
use Rattle.lazy_rules.specs.Door.{carries_config, carries_window, has_client, has_due_items, has_due_sender, has_none_below_one, is_client, is_config, is_marks, is_node, is_node_list, is_shard_replica, is_turned_away, is_window, name_of, names_clients}
use Rattle.world_facts.proofs.Nodes.{client_node_of, seq_node_of, shard_node_at}
use Rattle.std.specs.Option.{is_none}
use Rattle.std.specs.List.{list_all}
use Rattle.std.specs.Prelude.{nat_lt, ◌&&◌, ◌==◌, ◌/◌, if◌then◌else◌}
use Rattle.world_facts.proofs.sizes.Windows.{some_words}
use Rattle.view_config.specs.Limits.{window_of}
use Rattle.std.proofs.Common.{ap, arith, inl, inr, length, not, refl, sym, ◌≡◌, ◌+◌, ◌*◌, ◌<◌, ◌≤◌, ◌∷◌, ◌||◌, ◌^◌, ◌-◌, ◌∙◌, [], true, false, zero, suc, ℕ, Bool, List, Option}
use Rattle.rec_id.specs.declared.entry.Entry.TheVariants.{Kept as KeptEntry, Noop as NoopEntry, Gone as GoneEntry}

-- tests
all_true : {A : Type 0} (P : A → Type 0) (p : A → Bool) → ((x : A) → P x → p x ≡ true) → (xs : List A) → Each P xs → list_all p xs ≡ true
all_true P p f [] h = refl
all_true P p f (x ∷ xs) h = and_from (p x) (list_all p xs) (f x h.0) (all_true P p f xs h.1)

module _ (shape : Dimensions) where
  -- names
  own_there : (id : Identity) → IsOwn shape id → has_client shape id ≡ true
  own_there id h = lt-ltb id.client shape.clients h.client

  handed_there : (shard place : ℕ) (items : List Item) → AreHanded shape shard place items → list_all (λ (item : Item). has_client shape item.id) items ≡ true
  handed_there shard place [] h = refl
  handed_there shard place (item ∷ items) h = and_from (has_client shape item.id) (list_all (λ (item : Item). has_client shape item.id) items) (own_there item.id h.0.id) (handed_there shard (place + 1) items h.1)

  sent_there : (cells : List Cell) → Each (IsSentCell shape) cells → list_all (λ (cell : Cell). has_client shape cell.id) cells ≡ true
  sent_there cells h = all_true (IsSentCell shape) (λ (cell : Cell). has_client shape cell.id) (λ cell k. own_there cell.id k.sized.id) cells h

  entry_there : (entry : Entry) → IsEntry shape entry → has_client shape (name_of entry) ≡ true
  entry_there (KeptEntry id bytes) h = own_there id h.0
  entry_there (NoopEntry id) h = own_there id h
  entry_there (GoneEntry id) h = absurd h

  named_there : (msg : Msg) → Sized shape msg → names_clients shape msg ≡ true
  named_there (Append view id bytes) h = own_there id h.1
  named_there (AppendAck view id) h = own_there id h.1
  named_there (Put id bytes) h = own_there id h.0
  named_there (DataAck view id) h = own_there id h.1
  named_there (Rejected id place) h = own_there id h.0
  named_there (Place view from items) h = handed_there h.1.shard from items h.1.each
  named_there (Copy view from cells) h = sent_there cells h.1.each
  named_there (Order view from ids) h = all_true (IsOwn shape) (has_client shape) own_there ids h.1.each
  named_there (Part read from end entries) h = all_true (IsPlaced shape) (λ (placed : ℕ × Entry). has_client shape (name_of placed.1)) (λ placed k. entry_there placed.1 k.entry) entries h.2.each
  named_there (Flush config from items) h = handed_there h.1.shard from items h.1.each
  named_there (FlushCopy view from cells) h = sent_there cells h.1.each
  named_there (Sealed view bound window items) h = all_true (IsPending shape) (λ (item : Item). has_client shape item.id) (λ item k. own_there item.id k.id) items h.1.each
  named_there _ h = refl

  -- windows
  marked_true : (marks : Marks) → IsMarked shape marks → is_marks shape marks ≡ true
  marked_true marks h =
      let made = words_where (window_of shape.edition / 64) 0 (stands_marked marks.top h.told) in
      let bits : marks.bits ≡ words_where (window_of shape.edition / 64) 0 (stands_marked marks.top h.told) = ap (λ (m : Marks). m.bits) h.is in
      let count : length marks.bits ≡ window_of shape.edition / 64 = ap length bits ∙ length-words_where (window_of shape.edition / 64) 0 (stands_marked marks.top h.told) in
      let short : list_all (λ (word : ℕ). nat_lt word (2 ^ 64)) marks.bits ≡ true = ap (list_all (λ (word : ℕ). nat_lt word (2 ^ 64))) bits ∙ words_short (window_of shape.edition / 64) 0 (stands_marked marks.top h.told) in
      and_from _ _ (and_from _ _ (and_from _ _ (and_from _ _ (eq-eqb (length marks.bits) (window_of shape.edition / 64) count) (lt-ltb marks.top (2 ^ 32) h.word)) short) (none_below marks h 0 (window_of shape.edition) (omega arith))) (first_bit marks h)
    where
      words_short : (n low : ℕ) (told : ℕ → Bool) → list_all (λ (word : ℕ). nat_lt word (2 ^ 64)) (words_where n low told) ≡ true
      words_short zero low told = refl
      words_short (suc n) low told = and_from (nat_lt (bits_where 64 low told) (2 ^ 64)) (list_all (λ (word : ℕ). nat_lt word (2 ^ 64)) (words_where n (low + 64) told)) (lt-ltb (bits_where 64 low told) (2 ^ 64) (bits_where-lt 64 low told)) (words_short n (low + 64) told)

      whole_words : (e : Edition) → 64 * (window_of e / 64) ≡ window_of e
      whole_words One = refl
      whole_words Two = refl

      bit_is : (marks : Marks) (h : IsMarked shape marks) (i : ℕ) → i < window_of shape.edition → bit_of marks.bits i ≡ stands_marked marks.top h.told i
      bit_is marks h i below =
          let whole = whole_words shape.edition in
          let from_none : 0 + i ≡ i = omega arith in
          ap (λ (m : Marks). bit_of m.bits i) h.is ∙ bit_of-words_where (window_of shape.edition / 64) 0 (stands_marked marks.top h.told) i (omega arith) ∙ ap (stands_marked marks.top h.told) from_none

      unset : (marks : Marks) (h : IsMarked shape marks) (i : ℕ) → i < window_of shape.edition → (nat_lt i marks.top || not (bit_of marks.bits i)) ≡ true
      unset marks h i below = elim (cases_lt i marks.top) [
        | inl inside ↦ ap (λ (b : Bool). b || not (bit_of marks.bits i)) (lt-ltb i marks.top inside)
        | inr past ↦
            let off : bit_of marks.bits i ≡ false = bit_is marks h i below ∙ ap (λ (b : Bool). b && h.told (marks.top - i)) (le-ltb i marks.top past) in
            ap (λ (b : Bool). b || not (bit_of marks.bits i)) (le-ltb i marks.top past) ∙ ap not off
      ]

      none_below : (marks : Marks) (h : IsMarked shape marks) (i n : ℕ) → i + n ≤ window_of shape.edition → has_none_below_one marks i n ≡ true
      none_below marks h i zero room = refl
      none_below marks h i (suc n) room = and_from (nat_lt i marks.top || not (bit_of marks.bits i)) (has_none_below_one marks (i + 1) n) (unset marks h i (omega arith)) (none_below marks h (i + 1) n (omega arith))

      first_bit : (marks : Marks) (h : IsMarked shape marks) → (marks.top == 0 || bit_of marks.bits 0) ≡ true
      first_bit marks h = elim (cases_eq marks.top 0) [
        | inl none ↦ ap (λ (b : Bool). b || bit_of marks.bits 0) (eq-eqb marks.top 0 none)
        | inr some ↦
            let whole : marks.top - 0 ≡ marks.top = omega arith in
            let words = some_words shape in
            ap (λ (b : Bool). b || bit_of marks.bits 0) (ne_eqb marks.top 0 some)
            ∙ bit_is marks h 0 (omega arith)
            ∙ and_from (nat_lt 0 marks.top) (h.told (marks.top - 0)) (lt-ltb 0 marks.top (omega arith)) (ap h.told whole ∙ h.highest (omega arith))
      ]

  pub window_true : (window : List Marks) → IsWindow shape window → is_window shape window ≡ true
  window_true window h = and_from (length window == shape.clients) (list_all (is_marks shape) window) (eq-eqb (length window) shape.clients h.count) (all_true (IsMarked shape) (is_marks shape) marked_true window h.each)

  carried_window : (msg : Msg) → Sized shape msg → carries_window shape msg ≡ true
  carried_window (Sealed view bound window items) h = window_true window h.1.marks
  carried_window (NewView config base window) h = window_true window h.2
  carried_window _ h = refl

  -- a Place has items
  has_items : (msg : Msg) → Sized shape msg → has_due_items msg ≡ true
  has_items (Place view from items) h = lt-ltb 0 (length items) (let some = h.1.some in omega arith)
  has_items _ h = refl

  module _ (formed : IsShape shape) where
    seq_there : (node : ℕ) → IsSeqNode shape node → is_node shape node ≡ true
    seq_there node h = ap (λ (o : Option Node). not (is_none o)) (ap (node_of shape) h.is ∙ seq_node_of shape formed h.place h.few)

    shard_there : (node : ℕ) → IsShardNode shape node → is_node shape node ≡ true
    shard_there node h = ap (λ (o : Option Node). not (is_none o)) (ap (node_of shape) h.is ∙ shard_node_at shape formed h.shard h.copy h.row h.column)

    group_true : (nodes : List ℕ) → IsGroup shape nodes → is_node_list shape nodes ≡ true
    group_true nodes h = and_from (nat_lt 0 (length nodes)) (list_all (is_node shape) nodes) (lt-ltb 0 (length nodes) (let some = h.some in omega arith)) (all_true (IsShardNode shape) (is_node shape) shard_there nodes h.each)

    config_true : (config : Config) → IsNamed shape config → is_config shape config ≡ true
    config_true config h =
        and_from (is_node_list shape config.seq && length config.shards == shape.shards) (list_all (is_node_list shape) config.shards)
        (and_from (is_node_list shape config.seq) (length config.shards == shape.shards)
        (and_from (nat_lt 0 (length config.seq)) (list_all (is_node shape) config.seq) (lt-ltb 0 (length config.seq) (let some = h.some in omega arith)) (all_true (IsSeqNode shape) (is_node shape) seq_there config.seq h.seq))
        (eq-eqb (length config.shards) shape.shards h.count))
        (all_true (IsGroup shape) (is_node_list shape) group_true config.shards h.shards)

    carried_config : (sender to : ℕ) (msg : Msg) → Goes shape sender to msg → carries_config shape msg ≡ true
    carried_config sender to (Flush config from items) h = config_true config h.2
    carried_config sender to (NewView config base window) h = config_true config h.2
    carried_config sender to (ViewIs config) h = config_true config h.2
    carried_config sender to _ h = refl

    due_sender : (sender to : ℕ) (msg : Msg) → Goes shape sender to msg → is_node shape sender ≡ true → has_due_sender (node_of shape sender) msg ≡ true
    due_sender sender to (Probe view read) h there = ap is_client (client_node_of shape formed sender h.0)
    due_sender sender to (Part read from end entries) h there = ap is_shard_replica (ap (node_of shape) h.0.is ∙ shard_node_at shape formed h.0.shard h.0.copy h.0.row h.0.column)
    due_sender sender to _ h there = there

    open_door : (a b c d e : Bool) → a ≡ true → b ≡ true → c ≡ true → d ≡ true → e ≡ true → (if not a then true else (if not b then true else (if not c then true else (if not d then true else not e)))) ≡ false
    open_door true true true true true p q r s t = refl
    open_door false b c d e p q r s t = sym p
    open_door true false c d e p q r s t = sym q
    open_door true true false d e p q r s t = sym r
    open_door true true true false e p q r s t = sym s
    open_door true true true true false p q r s t = sym t

    pub let_in : (sender to : ℕ) (msg : Msg) → is_node shape sender ≡ true → Goes shape sender to msg → Sized shape msg → is_turned_away shape sender msg ≡ false
    let_in sender to msg there goes says =
        open_door (has_due_sender (node_of shape sender) msg) (has_due_items msg) (names_clients shape msg) (carries_window shape msg) (carries_config shape msg)
        (due_sender sender to msg goes there) (has_items msg says) (named_there msg says) (carried_window msg says) (carried_config sender to msg goes)
