-- What the parts of a world are once one node is changed.
use Rattle.std.proofs.Common.{◌≡◌, ◌≢◌, ℕ, zero, suc, ◌+◌, ◌*◌, ◌<◌, List, [], ◌∷◌, Option, Some, None, slice_get, Bool, true, false, refl, sym, ◌∙◌, ap}
use Rattle.std.proofs.lemmas.Nat.{div-mul-add, mod-mul-add}
use Rattle.std.specs.Prelude.{◌==◌, ◌/◌, ◌%◌, slice_set, unwrap_or, if◌then◌else◌}
use Rattle.std.proofs.Math.Path.{fun_ext}
use Rattle.std.proofs.lemmas.Bool.{eq-eqb, eqb-true}
use Rattle.list_facts.specs.Lists.{put}
use Rattle.view_config.specs.Nodes.{seq_id, shard_id}
use Rattle.view_config.specs.Shape.{Dimensions, node_of}
use Rattle.view_config.specs.declared.nodes.Node.{Node}
use Rattle.view_config.specs.declared.nodes.Node.TheVariants.{Client, Controller, Seq, Shard}
use Rattle.lazy_rules.specs.ClientState.{ClientState, first_client}
use Rattle.lazy_rules.specs.Holders.{seq_at}
use Rattle.lazy_rules.specs.Lines.{shard_at}
use Rattle.lazy_rules.specs.ReaderState.{ReaderState, first_reader}
use Rattle.lazy_rules.specs.SeqState.{SeqState}
use Rattle.lazy_rules.specs.ShardState.{ShardState}
use Rattle.lazy_rules.specs.WorldState.{WorldState, shard_place}
use Rattle.world_facts.proofs.Nodes.{seq_is, shard_is}
use Rattle.log_facts.specs.Parts.{no_seq, no_shard, parts_of}

-- a list with another member at a place
pub set_own : {A : Type 0} (xs : List A) (i : ℕ) (x y : A) → slice_get xs i ≡ Some x → slice_get (slice_set xs i y) i ≡ Some y
set_own [] i x y h = let wrong : None ≡ Some x = h in cc
set_own (z ∷ zs) zero x y h = refl
set_own (z ∷ zs) (suc i) x y h = set_own zs i x y h

pub set_other : {A : Type 0} (xs : List A) (i k : ℕ) (y : A) → k ≢ i → slice_get (slice_set xs i y) k ≡ slice_get xs k
set_other [] i k y apart = refl
set_other (z ∷ zs) zero zero y apart = absurd (apart refl)
set_other (z ∷ zs) zero (suc k) y apart = refl
set_other (z ∷ zs) (suc i) zero y apart = refl
set_other (z ∷ zs) (suc i) (suc k) y apart = set_other zs i k y (λ e. apart (ap suc e))

-- two functions are one where they are at each number, at one number and at all others
same_put : {A : Type 0} (f g : ℕ → A) (me : ℕ) (x : A) → g me ≡ x → ((n : ℕ) → n ≢ me → g n ≡ f n) → g ≡ put f me x
same_put f g me x own others = fun_ext (λ n. by n (n == me) refl)
  where
    by : (n : ℕ) (b : Bool) → (n == me) ≡ b → g n ≡ (if b then x else f n)
    by n true e = ap g (eqb-true n me e) ∙ own
    by n false e = others n (λ same. let wrong : false ≡ true = sym e ∙ eq-eqb n me same in cc)

-- a client's half at one number
pub client_put : (shape : Dimensions) (cs : List ClientState) (c : ℕ) (s t : ClientState) → slice_get cs c ≡ Some s
    → (λ (k : ℕ). unwrap_or (slice_get (slice_set cs c t) k) (first_client shape k)) ≡ put (λ (k : ℕ). unwrap_or (slice_get cs k) (first_client shape k)) c t
client_put shape cs c s t here =
    same_put (λ (k : ℕ). unwrap_or (slice_get cs k) (first_client shape k)) (λ (k : ℕ). unwrap_or (slice_get (slice_set cs c t) k) (first_client shape k)) c t
    (ap (λ (o : Option ClientState). unwrap_or o (first_client shape c)) (set_own cs c s t here))
    (λ k apart. ap (λ (o : Option ClientState). unwrap_or o (first_client shape k)) (set_other cs c k t apart))

pub reader_put : (shape : Dimensions) (rs : List ReaderState) (c : ℕ) (s t : ReaderState) → slice_get rs c ≡ Some s
    → (λ (k : ℕ). unwrap_or (slice_get (slice_set rs c t) k) (first_reader shape k)) ≡ put (λ (k : ℕ). unwrap_or (slice_get rs k) (first_reader shape k)) c t
reader_put shape rs c s t there =
    same_put (λ (k : ℕ). unwrap_or (slice_get rs k) (first_reader shape k)) (λ (k : ℕ). unwrap_or (slice_get (slice_set rs c t) k) (first_reader shape k)) c t
    (ap (λ (o : Option ReaderState). unwrap_or o (first_reader shape c)) (set_own rs c s t there))
    (λ k apart. ap (λ (o : Option ReaderState). unwrap_or o (first_reader shape k)) (set_other rs c k t apart))

module _ (w next : WorldState) (same : next.shape ≡ w.shape) where
  -- one sequencing replica is changed
  module _ (i : ℕ) (s t : SeqState) (here : slice_get w.seqs i ≡ Some s) (is : next.seqs ≡ slice_set w.seqs i t) (role : node_of w.shape (seq_id i) ≡ Some (Seq i)) where
    own_seq : seq_at next (node_of next.shape (seq_id i)) ≡ Some t
    own_seq = ap (λ (shape : Dimensions). seq_at next (node_of shape (seq_id i))) same ∙ ap (seq_at next) role ∙ ap (λ (ss : List SeqState). slice_get ss i) is ∙ set_own w.seqs i s t here

    other_seq : (node : ℕ) → node ≢ seq_id i → (o : Option Node) → node_of w.shape node ≡ o → seq_at next o ≡ seq_at w o
    other_seq node apart (Some (Seq k)) e =
        let at = (seq_is w.shape node k e).0 in
        ap (λ (ss : List SeqState). slice_get ss k) is ∙ set_other w.seqs i k t (λ e. apart (at ∙ ap seq_id e))
    other_seq node apart (Some (Client c)) e = refl
    other_seq node apart (Some Controller) e = refl
    other_seq node apart (Some (Shard k j)) e = refl
    other_seq node apart None e = refl

    pub seq_put : (parts_of next).seqs ≡ put (parts_of w).seqs (seq_id i) t
    seq_put =
        same_put (parts_of w).seqs (parts_of next).seqs (seq_id i) t
        (ap (λ (o : Option SeqState). unwrap_or o (no_seq next.shape (seq_id i))) own_seq)
        (λ node apart.
        ap (λ (shape : Dimensions). unwrap_or (seq_at next (node_of shape node)) (no_seq shape node)) same
        ∙ ap (λ (o : Option SeqState). unwrap_or o (no_seq w.shape node)) (other_seq node apart (node_of w.shape node) refl))

  -- one shard replica is changed
  module _ (i j : ℕ) (s t : ShardState) (row : i < w.shape.shards) (column : j < w.shape.copies) (here : slice_get w.shards (shard_place w.shape i j) ≡ Some s)
      (is : next.shards ≡ slice_set w.shards (shard_place w.shape i j) t) (role : node_of w.shape (shard_id i j) ≡ Some (Shard i j)) where
    own_shard : shard_at next (node_of next.shape (shard_id i j)) ≡ Some t
    own_shard =
        ap (λ (shape : Dimensions). shard_at next (node_of shape (shard_id i j))) same
        ∙ ap (shard_at next) role
        ∙ ap (λ (shape : Dimensions). slice_get next.shards (shard_place shape i j)) same
        ∙ ap (λ (ss : List ShardState). slice_get ss (shard_place w.shape i j)) is
        ∙ set_own w.shards (shard_place w.shape i j) s t here

    other_shard : (node : ℕ) → node ≢ shard_id i j → (o : Option Node) → node_of w.shape node ≡ o → shard_at next o ≡ shard_at w o
    other_shard node apart (Some (Shard k m)) e =
        let at = shard_is w.shape node k m e in
        ap (λ (shape : Dimensions). slice_get next.shards (shard_place shape k m)) same
        ∙ ap (λ (ss : List ShardState). slice_get ss (shard_place w.shape k m)) is
        ∙ set_other w.shards (shard_place w.shape i j) (shard_place w.shape k m) t (λ e. apart (at.0 ∙ one_place k m at.2 e))
      where
        one_place : (k m : ℕ) → m < w.shape.copies → k * w.shape.copies + m ≡ i * w.shape.copies + j → shard_id k m ≡ shard_id i j
        one_place k m few e =
            let row_is : k ≡ i = sym (div-mul-add k w.shape.copies m few) ∙ ap (λ (n : ℕ). n / w.shape.copies) e ∙ div-mul-add i w.shape.copies j column in
            let column_is : m ≡ j = sym (mod-mul-add k w.shape.copies m few) ∙ ap (λ (n : ℕ). n % w.shape.copies) e ∙ mod-mul-add i w.shape.copies j column in
            ap (λ (n : ℕ). shard_id n m) row_is ∙ ap (shard_id i) column_is
    other_shard node apart (Some (Client c)) e = refl
    other_shard node apart (Some Controller) e = refl
    other_shard node apart (Some (Seq k)) e = refl
    other_shard node apart None e = refl

    pub shard_put : (parts_of next).shards ≡ put (parts_of w).shards (shard_id i j) t
    shard_put =
        same_put (parts_of w).shards (parts_of next).shards (shard_id i j) t
        (ap (λ (o : Option ShardState). unwrap_or o (no_shard next.shape (shard_id i j))) own_shard)
        (λ node apart.
        ap (λ (shape : Dimensions). unwrap_or (shard_at next (node_of shape node)) (no_shard shape node)) same
        ∙ ap (λ (o : Option ShardState). unwrap_or o (no_shard w.shape node)) (other_shard node apart (node_of w.shape node) refl))
