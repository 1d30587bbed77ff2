-- What files stand for.
use Rattle.std.proofs.Common.{◌≡◌, ◌≢◌, ◌⊎◌, inl, inr, ℕ, suc, zero, ◌+◌, ◌-◌, ◌≤◌, ◌<◌, List, [], ◌∷◌, ◌++◌, length, get_or, take, drop, refl, sym, ap, subst, ◌∙◌, append_assoc, append-nil, arith, length-append}
use Rattle.std.proofs.lemmas.Bool.{cases_eq, cases_lt}
use Rattle.std.proofs.lemmas.List.{take_at, drop_at, drop_more, take-append-drop, length-take-le, nil_from_length, append_cancel_left}
use Rattle.lazy_msgs.specs.Frame.{four}
use Rattle.rec_id.specs.declared.entry.Entry.{Entry}
use Rattle.shard_journal.specs.declared.block.Block.{Block}
use Rattle.shard_journal.specs.Blocks.{body_form, behind_form, block_form, blocks_form, entries_in, BlockFits, Chain, IsWhole, IsBare, IsFile, NoBlock, IsDamaged}
use Rattle.journal_disk.specs.Moments.{IsStaged, IsWritten, opened}
use Rattle.shard_journal.specs.declared.scan.Found.{Found}
use Rattle.shard_journal.specs.Reading.{IsFound}
use Rattle.shard_journal.specs.State.{IsBeforeOrAfter, IsReady, Holds}
use Rattle.shard_journal.proofs.Bodies.{same_block}

-- ---- one block more

pub form-push : (blocks : List Block) (block : Block) → blocks_form (blocks ++ block ∷ []) ≡ blocks_form blocks ++ block_form block
form-push [] block = append-nil (block_form block)
form-push (first ∷ blocks) block = ap (λ (l : List ℕ). block_form first ++ l) (form-push blocks block) ∙ sym (append_assoc (block_form first) (blocks_form blocks) (block_form block))

pub entries-push : (blocks : List Block) (block : Block) → entries_in (blocks ++ block ∷ []) ≡ entries_in blocks ++ block.entries
entries-push [] block = append-nil block.entries
entries-push (first ∷ blocks) block = ap (λ (l : List (ℕ × Entry)). first.entries ++ l) (entries-push blocks block) ∙ sym (append_assoc first.entries (entries_in blocks) block.entries)

pub chain-push : (from : ℕ) (blocks : List Block) (end : ℕ) (block : Block) → Chain from blocks end → BlockFits block → block.from ≡ end → Chain from (blocks ++ block ∷ []) block.to
chain-push from [] end block chain fits from_is = (fits, from_is ∙ chain, refl)
chain-push from (first ∷ blocks) end block chain fits from_is = (chain.0, chain.1, chain-push first.to blocks end block chain.2 fits from_is)

-- ---- a file stands for one list of blocks

pub record SameBlocks (blocks others : List Block) (end other : ℕ) : Type 0 where
  pub blocks_are : others ≡ blocks
  pub end_is : other ≡ end

begins_so : (closing : ℕ) (rest : List ℕ) (block : Block) (blocks : List Block) (more : List ℕ) → closing ∷ rest ≡ (block_form block ++ blocks_form blocks) ++ more → closing ≡ 1
begins_so closing rest block blocks more is = cc

tail_is : (x y : List ℕ) → 1 ∷ x ≡ 1 ∷ y → x ≡ y
tail_is x y is = cc

behind_same : (block other : Block) (blocks others : List Block) (x y : List ℕ) → (block_form block ++ blocks_form blocks) ++ x ≡ (block_form other ++ blocks_form others) ++ y
    → behind_form block ++ (blocks_form blocks ++ x) ≡ behind_form other ++ (blocks_form others ++ y)
behind_same block other blocks others x y is =
    tail_is (behind_form block ++ (blocks_form blocks ++ x)) (behind_form other ++ (blocks_form others ++ y))
    (sym (append_assoc (block_form block) (blocks_form blocks) x) ∙ is ∙ append_assoc (block_form other) (blocks_form others) y)

pub one_chain : (from : ℕ) (blocks others : List Block) (end other c d : ℕ) (x y : List ℕ) → Chain from blocks end → Chain from others other → c ≢ 1 → d ≢ 1 → blocks_form blocks ++ c ∷ x ≡ blocks_form others ++ d ∷ y → SameBlocks blocks others end other
one_chain from [] [] end other c d x y p q _ _ is = record { blocks_are = refl; end_is = q ∙ sym p }
one_chain from [] (b ∷ others) end other c d x y p q closed _ is = absurd (closed (begins_so c x b others (d ∷ y) is))
one_chain from (b ∷ blocks) [] end other c d x y p q _ closed is = absurd (closed (begins_so d y b blocks (c ∷ x) (sym is)))
one_chain from (b ∷ blocks) (b' ∷ others) end other c d x y p q left right is =
    let same = same_block b b' (blocks_form blocks ++ c ∷ x) (blocks_form others ++ d ∷ y) p.0 q.0 (behind_same b b' blocks others (c ∷ x) (d ∷ y) is) in
    let chain : Chain b.to others other = subst (λ (block : Block). Chain block.to others other) (sym same.block) q.2 in
    let rest = one_chain b.to blocks others end other c d x y p.2 chain left right same.rest in
    record { blocks_are = rw (rest.blocks_are, same.block) refl; end_is = rest.end_is }

-- a whole file of fewer than two bytes has no block
bare_whole : (blocks : List Block) (end c : ℕ) (x : List ℕ) → Chain 0 blocks end → length (blocks_form blocks ++ c ∷ x) < 2 → (blocks ≡ []) × (end ≡ 0)
bare_whole [] end c x chain few = (refl, chain)
bare_whole (b ∷ blocks) end c x chain few =
    absurd (omega (arith, few, length-append (block_form b ++ blocks_form blocks) (c ∷ x), length-append (block_form b) (blocks_form blocks)))

pub one_file : (file : List ℕ) (blocks others : List Block) (end other : ℕ) → IsFile file blocks end → IsFile file others other → SameBlocks blocks others end other
one_file file blocks others end other (inl p) (inl q) = record { blocks_are = q.none ∙ sym p.none; end_is = q.zero_end ∙ sym p.zero_end }
one_file file blocks others end other (inl p) (inr q) =
    let bare = bare_whole others other q.closing q.rest q.chain (subst (λ (f : List ℕ). length f < 2) q.bytes p.few) in
    record { blocks_are = bare.0 ∙ sym p.none; end_is = bare.1 ∙ sym p.zero_end }
one_file file blocks others end other (inr p) (inl q) =
    let bare = bare_whole blocks end p.closing p.rest p.chain (subst (λ (f : List ℕ). length f < 2) p.bytes q.few) in
    record { blocks_are = q.none ∙ sym bare.0; end_is = q.zero_end ∙ sym bare.1 }
one_file file blocks others end other (inr p) (inr q) =
    one_chain 0 blocks others end other p.closing q.closing p.rest q.rest p.chain q.chain p.closed q.closed (sym p.bytes ∙ q.bytes)

-- and is never damaged
not_damaged : (from : ℕ) (blocks others : List Block) (end other c : ℕ) (x y : List ℕ) → Chain from blocks end → Chain from others other → c ≢ 1 → NoBlock other y → blocks_form blocks ++ c ∷ x ≡ blocks_form others ++ 1 ∷ y → ⊥
not_damaged from [] [] end other c x y p q closed none is = closed (let one : c ≡ 1 = cc in one)
not_damaged from [] (b ∷ others) end other c x y p q closed none is = closed (begins_so c x b others (1 ∷ y) is)
not_damaged from (b ∷ []) [] end other c x y p q closed none is =
    none b c x p.0 (p.1 ∙ sym q) (tail_is y (behind_form b ++ c ∷ x) (sym is ∙ ap (λ (l : List ℕ). l ++ c ∷ x) (append-nil (block_form b))))
not_damaged from (b ∷ (b' ∷ blocks)) [] end other c x y p q closed none is =
    none b 1 (behind_form b' ++ blocks_form blocks ++ c ∷ x) p.0 (p.1 ∙ sym q)
    (tail_is y (behind_form b ++ 1 ∷ (behind_form b' ++ blocks_form blocks ++ c ∷ x)) (sym is ∙ append_assoc (block_form b) (blocks_form (b' ∷ blocks)) (c ∷ x)))
not_damaged from (b ∷ blocks) (b' ∷ others) end other c x y p q closed none is =
    let same = same_block b b' (blocks_form blocks ++ c ∷ x) (blocks_form others ++ 1 ∷ y) p.0 q.0 (behind_same b b' blocks others (c ∷ x) (1 ∷ y) is) in
    let chain : Chain b.to others other = subst (λ (block : Block). Chain block.to others other) (sym same.block) q.2 in
    not_damaged b.to blocks others end other c x y p.2 chain closed none same.rest

pub whole_not_damaged : (file : List ℕ) (blocks : List Block) (end at : ℕ) → IsFile file blocks end → IsDamaged file at → ⊥
whole_not_damaged file blocks end at (inl p) q = omega (arith, p.few, q.many)
whole_not_damaged file blocks end at (inr p) q =
    not_damaged 0 blocks q.blocks end q.end p.closing p.rest q.rest p.chain q.chain p.closed q.no_block (sym p.bytes ∙ q.bytes)

pub few_file : (file : List ℕ) → length file < 2 → IsFile file [] 0
few_file file few = inl (record { few = few; none = refl; zero_end = refl })

-- ---- a block that is put behind

module _ (file : List ℕ) (blocks : List Block) (kept end : ℕ) (whole : IsWhole file blocks kept) (end_is : end ≡ length (blocks_form blocks)) where
  pub end_within : end < length file
  end_within = omega (arith, ap length whole.bytes, length-append (blocks_form blocks) (whole.closing ∷ whole.rest))

  front : take end file ≡ blocks_form blocks
  front = ap (take end) whole.bytes ∙ take_at (blocks_form blocks) (whole.closing ∷ whole.rest) end (sym end_is)

  closed_front : take (end + 1) file ≡ blocks_form blocks ++ whole.closing ∷ []
  closed_front =
      let parts : file ≡ (blocks_form blocks ++ whole.closing ∷ []) ++ whole.rest = whole.bytes ∙ sym (append_assoc (blocks_form blocks) (whole.closing ∷ []) whole.rest) in
      ap (take (end + 1)) parts ∙ take_at (blocks_form blocks ++ whole.closing ∷ []) whole.rest (end + 1) (omega (arith, length-append (blocks_form blocks) (whole.closing ∷ [])))

  pub staged_file : (other : List ℕ) → IsStaged file end other → IsFile other blocks kept
  staged_file other same = inr (record {
    closing = whole.closing;
    rest = drop (end + 1) other;
    closed = whole.closed;
    bytes = sym (take-append-drop (end + 1) other) ∙ ap (λ (l : List ℕ). l ++ drop (end + 1) other) (same ∙ closed_front) ∙ append_assoc (blocks_form blocks) (whole.closing ∷ []) (drop (end + 1) other);
    chain = whole.chain;
  })

  module _ (block : Block) (bytes : List ℕ) (fits : BlockFits block) (from_is : block.from ≡ kept) (bytes_are : bytes ≡ behind_form block ++ 0 ∷ []) where
    added : (rest : List ℕ) → blocks_form blocks ++ 1 ∷ (bytes ++ rest) ≡ blocks_form (blocks ++ block ∷ []) ++ 0 ∷ rest
    added rest =
        ap (λ (l : List ℕ). blocks_form blocks ++ 1 ∷ (l ++ rest)) bytes_are
        ∙ ap (λ (l : List ℕ). blocks_form blocks ++ 1 ∷ l) (append_assoc (behind_form block) (0 ∷ []) rest)
        ∙ sym (append_assoc (blocks_form blocks) (block_form block) (0 ∷ rest))
        ∙ ap (λ (l : List ℕ). l ++ 0 ∷ rest) (sym (form-push blocks block))

    pub with_block : (other rest : List ℕ) → other ≡ blocks_form blocks ++ 1 ∷ (bytes ++ rest) → IsWhole other (blocks ++ block ∷ []) block.to
    with_block other rest is = record {
      closing = 0;
      rest = rest;
      closed = omega arith;
      bytes = is ∙ added rest;
      chain = chain-push 0 blocks kept block whole.chain fits from_is;
    }

    pub written_file : (other : List ℕ) → IsWritten file end bytes other → IsBeforeOrAfter blocks kept (block ∷ []) block.to other
    written_file other written =
        let gate = get_or other end 0 in
        let rest = drop (end + 1 + length bytes) file in
        let behind : drop end other ≡ gate ∷ (bytes ++ rest) = drop_more other end 0 written.longer ∙ ap (λ (l : List ℕ). gate ∷ l) written.behind in
        let is : other ≡ blocks_form blocks ++ gate ∷ (bytes ++ rest) =
        sym (take-append-drop end other) ∙ ap (λ (l : List ℕ). l ++ drop end other) (written.front ∙ front) ∙ ap (λ (l : List ℕ). blocks_form blocks ++ l) behind in
        elim (cases_eq gate 1) [
          | inl one ↦ inr (inr (with_block other rest (is ∙ ap (λ n. blocks_form blocks ++ n ∷ (bytes ++ rest)) one)))
          | inr other_gate ↦ inl (inr (record { closing = gate; rest = bytes ++ rest; closed = other_gate; bytes = is; chain = whole.chain }))
        ]

    pub opened_file : (other : List ℕ) → other ≡ opened file end bytes → IsWhole other (blocks ++ block ∷ []) block.to
    opened_file other is =
        let rest = drop (end + 1 + length bytes) file in
        with_block other rest (is ∙ append_assoc (take end file) (1 ∷ bytes) rest ∙ ap (λ (l : List ℕ). l ++ 1 ∷ (bytes ++ rest)) front)

-- ---- what was found is what the file holds

pub holds_from : (old new : List ℕ) (found : Found) → IsFound new found → IsReady old new → Holds old found.kept found.entries
holds_from old new found is ready =
    elim (cases_lt (length old) 2) [
      | inl few ↦
          let bytes : length (blocks_form is.blocks ++ is.whole.closing ∷ is.whole.rest) < 2 = omega (arith, ap length (ready.bare few), ap length is.whole.bytes) in
          let bare = bare_whole is.blocks found.kept is.whole.closing is.whole.rest is.whole.chain bytes in
          record { blocks = is.blocks; is_file = inl (record { few = few; none = bare.0; zero_end = bare.1 }); entries_are = is.entries_are }
      | inr many ↦ record { blocks = is.blocks; is_file = inr (subst (λ (f : List ℕ). IsWhole f is.blocks found.kept) (ready.same many) is.whole); entries_are = is.entries_are }
    ]
