-- Which role a node's number has, and the number of each role.
use Rattle.std.proofs.Common.{◌≡◌, ◌⊎◌, ℕ, ◌+◌, ◌*◌, ◌<◌, Bool, true, false, ◌&&◌, Some, None, inl, inr, refl, ap, ◌∙◌, arith}
use Rattle.std.specs.Prelude.{if◌then◌else◌, ◌==◌, ◌-◌, ◌/◌, ◌%◌, nat_lt, nat_le}
use Rattle.std.proofs.lemmas.Bool.{and_parts, and_right, and_from, ltb-true, leb-true, eqb-true, le-ltb, lt-ltb, le-leb, ne_eqb}
use Rattle.view_config.specs.Nodes.{seq_id, shard_id}
use Rattle.view_config.specs.Shape.{Dimensions, IsShape, node_of}
use Rattle.view_config.specs.declared.nodes.Node.{Node}
use Rattle.view_config.specs.declared.nodes.Node.TheVariants.{Client, Controller, Seq, Shard}
use Rattle.view_config.specs.declared.limits.TheConstants.{MAX_COPIES}
use Rattle.view_config.specs.declared.nodes.TheConstants.{CONTROLLER, FIRST_SEQ, FIRST_SHARD}

-- which of these a choice between them came to
chosen : (a b c d : Bool) (p q r s n : Node) → (if a then Some p else (if b then Some q else (if c then Some r else (if d then Some s else None)))) ≡ Some n
    → ((a ≡ true) × (p ≡ n)) ⊎ (((b ≡ true) × (q ≡ n)) ⊎ (((c ≡ true) × (r ≡ n)) ⊎ ((d ≡ true) × (s ≡ n))))
chosen true b c d p q r s n h = inl (refl, cc)
chosen false true c d p q r s n h = inr (inl (refl, cc))
chosen false false true d p q r s n h = inr (inr (inl (refl, cc)))
chosen false false false true p q r s n h = inr (inr (inr (refl, cc)))
chosen false false false false p q r s n h = cc

fourth : (a b c d : Bool) (p q r s : Node) → a ≡ false → b ≡ false → c ≡ false → d ≡ true → (if a then Some p else (if b then Some q else (if c then Some r else (if d then Some s else None)))) ≡ Some s
fourth true b c d p q r s e f g h = cc
fourth false true c d p q r s e f g h = cc
fourth false false true d p q r s e f g h = cc
fourth false false false false p q r s e f g h = cc
fourth false false false true p q r s e f g h = refl

module _ (shape : Dimensions) (node : ℕ) where
  abbrev Cases : Node → Type 0
  Cases n =
      ((nat_lt node shape.clients ≡ true) × (Client node ≡ n))
      ⊎ (((node == CONTROLLER) ≡ true) × (Controller ≡ n)
      ⊎ (((nat_le FIRST_SEQ node && nat_lt node (FIRST_SEQ + shape.seq + shape.spares)) ≡ true) × (Seq (node - FIRST_SEQ) ≡ n)
      ⊎ (((nat_le FIRST_SHARD node && nat_lt node (FIRST_SHARD + MAX_COPIES * shape.shards) && nat_lt ((node - FIRST_SHARD) % MAX_COPIES) shape.copies) ≡ true) × (Shard ((node - FIRST_SHARD) / MAX_COPIES) ((node - FIRST_SHARD) % MAX_COPIES) ≡ n))))

  role : (n : Node) → node_of shape node ≡ Some n → Cases n
  role n h = chosen _ _ _ _ _ _ _ _ n h

  pub client_is : (c : ℕ) → node_of shape node ≡ Some (Client c) → (node ≡ c) × (c < shape.clients)
  client_is c h = elim (role (Client c) h) [
    | inl k ↦ let e : Client node ≡ Client c = k.1 in let same : node ≡ c = cc in (same, omega (arith, ltb-true node shape.clients k.0))
    | inr (inl k) ↦ let e : Controller ≡ Client c = k.1 in cc
    | inr (inr (inl k)) ↦ let e : Seq (node - FIRST_SEQ) ≡ Client c = k.1 in cc
    | inr (inr (inr k)) ↦ let e : Shard ((node - FIRST_SHARD) / MAX_COPIES) ((node - FIRST_SHARD) % MAX_COPIES) ≡ Client c = k.1 in cc
  ]

  pub controller_is : node_of shape node ≡ Some Controller → node ≡ CONTROLLER
  controller_is h = elim (role Controller h) [
    | inl k ↦ let e : Client node ≡ Controller = k.1 in cc
    | inr (inl k) ↦ eqb-true node CONTROLLER k.0
    | inr (inr (inl k)) ↦ let e : Seq (node - FIRST_SEQ) ≡ Controller = k.1 in cc
    | inr (inr (inr k)) ↦ let e : Shard ((node - FIRST_SHARD) / MAX_COPIES) ((node - FIRST_SHARD) % MAX_COPIES) ≡ Controller = k.1 in cc
  ]

  pub seq_is : (i : ℕ) → node_of shape node ≡ Some (Seq i) → (node ≡ seq_id i) × (i < shape.seq + shape.spares)
  seq_is i h = elim (role (Seq i) h) [
    | inl k ↦ let e : Client node ≡ Seq i = k.1 in cc
    | inr (inl k) ↦ let e : Controller ≡ Seq i = k.1 in cc
    | inr (inr (inl k)) ↦
        let e : Seq (node - FIRST_SEQ) ≡ Seq i = k.1 in
        let same : node - FIRST_SEQ ≡ i = cc in
        let both = and_parts (nat_le FIRST_SEQ node) (nat_lt node (FIRST_SEQ + shape.seq + shape.spares)) k.0 in
        let least = leb-true FIRST_SEQ node both.0 in
        let most = ltb-true node (FIRST_SEQ + shape.seq + shape.spares) both.1 in
        (omega arith, omega arith)
    | inr (inr (inr k)) ↦ let e : Shard ((node - FIRST_SHARD) / MAX_COPIES) ((node - FIRST_SHARD) % MAX_COPIES) ≡ Seq i = k.1 in cc
  ]

  pub shard_is : (i j : ℕ) → node_of shape node ≡ Some (Shard i j) → (node ≡ shard_id i j) × (i < shape.shards) × (j < shape.copies)
  shard_is i j h = elim (role (Shard i j) h) [
    | inl k ↦ let e : Client node ≡ Shard i j = k.1 in cc
    | inr (inl k) ↦ let e : Controller ≡ Shard i j = k.1 in cc
    | inr (inr (inl k)) ↦ let e : Seq (node - FIRST_SEQ) ≡ Shard i j = k.1 in cc
    | inr (inr (inr k)) ↦
        let e : Shard ((node - FIRST_SHARD) / MAX_COPIES) ((node - FIRST_SHARD) % MAX_COPIES) ≡ Shard i j = k.1 in
        let first : (node - FIRST_SHARD) / MAX_COPIES ≡ i = cc in
        let second : (node - FIRST_SHARD) % MAX_COPIES ≡ j = cc in
        let both = and_parts (nat_le FIRST_SHARD node && nat_lt node (FIRST_SHARD + MAX_COPIES * shape.shards)) (nat_lt ((node - FIRST_SHARD) % MAX_COPIES) shape.copies) k.0 in
        let within = and_parts (nat_le FIRST_SHARD node) (nat_lt node (FIRST_SHARD + MAX_COPIES * shape.shards)) both.0 in
        let least = leb-true FIRST_SHARD node within.0 in
        let most = ltb-true node (FIRST_SHARD + MAX_COPIES * shape.shards) within.1 in
        let few = ltb-true ((node - FIRST_SHARD) % MAX_COPIES) shape.copies both.1 in
        (omega arith, omega arith, omega arith)
  ]

-- the numbers of the roles lead back to them
module _ (shape : Dimensions) (formed : IsShape shape) where
  pub client_node_of : (c : ℕ) → c < shape.clients → node_of shape c ≡ Some (Client c)
  client_node_of c there = grind arith

  pub control_node_of : node_of shape CONTROLLER ≡ Some Controller
  control_node_of = let few = formed.clients_most in grind arith

  pub seq_node_of : (i : ℕ) → i < shape.seq + shape.spares → node_of shape (seq_id i) ≡ Some (Seq i)
  seq_node_of i there = let few = formed.clients_most in let seqs = formed.seq_most in grind arith

  pub shard_node_at : (i j : ℕ) → i < shape.shards → j < shape.copies → node_of shape (shard_id i j) ≡ Some (Shard i j)
  shard_node_at i j few some =
      let clients = formed.clients_most in
      let seqs = formed.seq_most in
      let copies = formed.copies_most in
      let not_client : nat_lt (shard_id i j) shape.clients ≡ false = le-ltb (shard_id i j) shape.clients (omega arith) in
      let not_control : (shard_id i j == CONTROLLER) ≡ false = ne_eqb (shard_id i j) CONTROLLER (omega arith) in
      let above : nat_lt (shard_id i j) (FIRST_SEQ + shape.seq + shape.spares) ≡ false = le-ltb (shard_id i j) (FIRST_SEQ + shape.seq + shape.spares) (omega arith) in
      let not_seq : (nat_le FIRST_SEQ (shard_id i j) && nat_lt (shard_id i j) (FIRST_SEQ + shape.seq + shape.spares)) ≡ false = and_right (nat_le FIRST_SEQ (shard_id i j)) (nat_lt (shard_id i j) (FIRST_SEQ + shape.seq + shape.spares)) above in
      let row : (shard_id i j - FIRST_SHARD) / MAX_COPIES ≡ i = omega arith in
      let column : (shard_id i j - FIRST_SHARD) % MAX_COPIES ≡ j = omega arith in
      let least : nat_le FIRST_SHARD (shard_id i j) ≡ true = le-leb FIRST_SHARD (shard_id i j) (omega arith) in
      let most : nat_lt (shard_id i j) (FIRST_SHARD + MAX_COPIES * shape.shards) ≡ true = lt-ltb (shard_id i j) (FIRST_SHARD + MAX_COPIES * shape.shards) (omega arith) in
      let copy : nat_lt ((shard_id i j - FIRST_SHARD) % MAX_COPIES) shape.copies ≡ true = lt-ltb ((shard_id i j - FIRST_SHARD) % MAX_COPIES) shape.copies (omega arith) in
      let is_shard : (nat_le FIRST_SHARD (shard_id i j) && nat_lt (shard_id i j) (FIRST_SHARD + MAX_COPIES * shape.shards) && nat_lt ((shard_id i j - FIRST_SHARD) % MAX_COPIES) shape.copies) ≡ true =
      and_from (nat_le FIRST_SHARD (shard_id i j) && nat_lt (shard_id i j) (FIRST_SHARD + MAX_COPIES * shape.shards)) (nat_lt ((shard_id i j - FIRST_SHARD) % MAX_COPIES) shape.copies) (and_from (nat_le FIRST_SHARD (shard_id i j)) (nat_lt (shard_id i j) (FIRST_SHARD + MAX_COPIES * shape.shards)) least most) copy in
      fourth _ _ _ _ (Client (shard_id i j)) Controller (Seq (shard_id i j - FIRST_SEQ)) (Shard ((shard_id i j - FIRST_SHARD) / MAX_COPIES) ((shard_id i j - FIRST_SHARD) % MAX_COPIES)) not_client not_control not_seq is_shard
      ∙ ap (λ (a : ℕ). Some (Shard a ((shard_id i j - FIRST_SHARD) % MAX_COPIES))) row
      ∙ ap (λ (b : ℕ). Some (Shard i b)) column
