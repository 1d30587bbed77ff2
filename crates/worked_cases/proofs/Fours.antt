-- Four ends of a kind, out of a row and back in one.
use Rattle.std.proofs.Common.{◌≡◌, ℕ, zero, suc, List, [], ◌∷◌, length, sym, ap, ◌∙◌, subst, Some}
use Rattle.std.specs.Prelude.{slice_get}
use Rattle.atomic_table.specs.Seated.{TableId}
use Rattle.stable_board.specs.Ends.{PublisherEnd, PeekerEnd, KeeperEnd}
use Rattle.stable_board.specs.Keeping.{AreAll, IsWriter, IsReader, new_publisher_end, new_peeker_end}
use Rattle.worked_cases.specs.Fours.{AreWriters, AreReaders, AreNew}

module _ {A : Type 0} (P : ℕ → A → Type 0) (a b c d : A) where
  at_four : (row : List A) → row ≡ a ∷ b ∷ c ∷ d ∷ [] → P 0 a → P 1 b → P 2 c → P 3 d → (n : ℕ) (x : A) → slice_get row n ≡ Some x → P n x
  at_four row is of_a of_b of_c of_d n x at = by n (ap (λ (l : List A). slice_get l n) (sym is) ∙ at)
    where
      by : (m : ℕ) → slice_get (a ∷ b ∷ c ∷ d ∷ []) m ≡ Some x → P m x
      by zero e = let same : a ≡ x = cc in subst (P 0) same of_a
      by (suc zero) e = let same : b ≡ x = cc in subst (P 1) same of_b
      by (suc (suc zero)) e = let same : c ≡ x = cc in subst (P 2) same of_c
      by (suc (suc (suc zero))) e = let same : d ≡ x = cc in subst (P 3) same of_d
      by (suc (suc (suc (suc m)))) e = absurd (cc)

pub are_all : (keeper : KeeperEnd) (writers : PublisherEnd × PublisherEnd × PublisherEnd × PublisherEnd) (readers : PeekerEnd × PeekerEnd × PeekerEnd × PeekerEnd)
    (publishers : List PublisherEnd) (peekers : List PeekerEnd) → publishers ≡ writers.0 ∷ writers.1 ∷ writers.2 ∷ writers.3 ∷ [] → peekers ≡ readers.0 ∷ readers.1 ∷ readers.2 ∷ readers.3 ∷ []
    → keeper.publishers ≡ 4 → keeper.peekers ≡ 4 → AreWriters keeper.board writers → AreReaders keeper.board readers → AreAll keeper publishers peekers
are_all keeper writers readers publishers peekers is_p is_q four_p four_q w r = record {
  writer_count = ap (λ (l : List PublisherEnd). length l) is_p ∙ sym four_p;
  reader_count = ap (λ (l : List PeekerEnd). length l) is_q ∙ sym four_q;
  writers_are = at_four (IsWriter keeper.board) writers.0 writers.1 writers.2 writers.3 publishers is_p w.0 w.1 w.2 w.3;
  readers_are = at_four (IsReader keeper.board) readers.0 readers.1 readers.2 readers.3 peekers is_q r.0 r.1 r.2 r.3;
}

-- ends as they were made
pub new_writers : (board : TableId) (ends : PublisherEnd × PublisherEnd × PublisherEnd × PublisherEnd)
    → (ends.0 ≡ new_publisher_end board 0) × (ends.1 ≡ new_publisher_end board 1) × (ends.2 ≡ new_publisher_end board 2) × (ends.3 ≡ new_publisher_end board 3)
    → AreWriters board ends × AreNew ends
new_writers board ends made = ((writer 0 made.0, writer 1 made.1, writer 2 made.2, writer 3 made.3), (new 0 made.0, new 1 made.1, new 2 made.2, new 3 made.3))
  where
    writer : {x : PublisherEnd} (n : ℕ) → x ≡ new_publisher_end board n → IsWriter board n x
    writer n e = (ap (λ (end : PublisherEnd). end.board) e, ap (λ (end : PublisherEnd). end.replica) e)

    new : {x : PublisherEnd} (n : ℕ) → x ≡ new_publisher_end board n → x.did.verified ≡ []
    new n e = ap (λ (end : PublisherEnd). end.did.verified) e

pub new_readers : (board : TableId) (ends : PeekerEnd × PeekerEnd × PeekerEnd × PeekerEnd)
    → (ends.0 ≡ new_peeker_end board 0) × (ends.1 ≡ new_peeker_end board 1) × (ends.2 ≡ new_peeker_end board 2) × (ends.3 ≡ new_peeker_end board 3)
    → AreReaders board ends
new_readers board ends made = (reader 0 made.0, reader 1 made.1, reader 2 made.2, reader 3 made.3)
  where
    reader : {x : PeekerEnd} (n : ℕ) → x ≡ new_peeker_end board n → IsReader board n x
    reader n e = (ap (λ (end : PeekerEnd). end.board) e, ap (λ (end : PeekerEnd). end.number) e)
