-- The nodes of a shape in their order: all of them, each once, with their first states.
use Rattle.std.proofs.Common.{◌≡◌, ◌<◌, ◌≤◌, ◌+◌, ◌*◌, ℕ, zero, suc, List, [], ◌∷◌, ◌++◌, map, true, false, Option, Some, None, inl, inr, refl, sym, ap, ◌∙◌, subst, arith, append_assoc, div-lt_iff_lt-mul, mod-lt}
use Rattle.std.specs.Prelude.{◌/◌, ◌%◌}
use Rattle.std.specs.List.{range_with_len}
use Rattle.std.specs.Option.{is_none}
use Rattle.std.proofs.lemmas.List.FromFn.{map-range_with_len_more}
use Rattle.std.proofs.lemmas.Nat.{div-add-mod', div-mul-add, mod-mul-add}
use Rattle.list_facts.specs.Lists.{Distinct, Each, In}
use Rattle.list_facts.proofs.Distinctness.{distinct_append}
use Rattle.list_facts.proofs.Members.{in_cases, in_each, in_left, in_map, in_mapped, in_right}
use Rattle.list_facts.proofs.Ranges.{below_in_range, in_range_below}
use Rattle.view_config.specs.Nodes.{seq_id, shard_id}
use Rattle.view_config.specs.Shape.{Dimensions, IsShape, node_of}
use Rattle.view_config.specs.declared.nodes.Node.{Node}
use Rattle.view_config.specs.declared.nodes.Node.TheVariants.{Client as ClientRole, Controller, Seq as SeqRole, Shard as ShardRole}
use Rattle.view_config.specs.declared.nodes.TheConstants.{CONTROLLER, FIRST_SHARD}
use Rattle.lazy_rules.specs.WorldState.{shard_place}
use Rattle.world_facts.proofs.Lists.{place_below}
use Rattle.world_facts.proofs.Nodes.{client_is, client_node_of, control_node_of, controller_is, seq_is, seq_node_of, shard_is, shard_node_at}
use Rattle.node_diary.specs.Folding.{nodes_in_order, replicas_in_order, shard_number}
use Rattle.node_diary.specs.States.{HasNode}

range_least : (from n x : ℕ) → In x (range_with_len from n) → from ≤ x
range_least from zero x there = absurd there
range_least from (suc n) x (inl e) = omega arith
range_least from (suc n) x (inr there) = let later = range_least (from + 1) n x there in omega arith

distinct_map : (f : ℕ → ℕ) → ((a b : ℕ) → f a ≡ f b → a ≡ b) → (xs : List ℕ) → Distinct xs → Distinct (map f xs)
distinct_map f once [] h = tt
distinct_map f once (x ∷ xs) h = (λ there. let k = in_mapped f (f x) xs there in h.0 (subst (λ n. In n xs) (once k.0 x k.2) k.1), distinct_map f once xs h.1)

same_numbers : (xs : List ℕ) → map (λ (x : ℕ). x) xs ≡ xs
same_numbers [] = refl
same_numbers (x ∷ xs) = ap (λ (l : List ℕ). x ∷ l) (same_numbers xs)

-- one number more
pub numbers_more : (before nodes : List ℕ) (n : ℕ) → nodes ≡ before ++ range_with_len 0 n → nodes ++ n ∷ [] ≡ before ++ range_with_len 0 (n + 1)
numbers_more before nodes n so_far =
    ap (λ (l : List ℕ). l ++ n ∷ []) so_far
    ∙ append_assoc before (range_with_len 0 n) (n ∷ [])
    ∙ ap (λ (l : List ℕ). before ++ (l ++ n ∷ [])) (sym (same_numbers (range_with_len 0 n)))
    ∙ ap (λ (l : List ℕ). before ++ l) (sym (map-range_with_len_more (λ (x : ℕ). x) 0 n n (omega arith)))
    ∙ ap (λ (l : List ℕ). before ++ l) (same_numbers (range_with_len 0 (n + 1)))

module _ (shape : Dimensions) (formed : IsShape shape) where
  some : 0 < shape.copies
  some = let least = formed.copies_least in omega arith

  -- ---- all of them
  pub shard_row : (k : ℕ) → k < shape.shards * shape.copies → (k / shape.copies < shape.shards) × (k % shape.copies < shape.copies)
  shard_row k few = ((div-lt_iff_lt-mul {k = shape.copies} {x = k} {y = shape.shards} some).1 few, mod-lt k {m = shape.copies} some)

  has_by : (node : ℕ) (role : Node) → node_of shape node ≡ Some role → HasNode shape node
  has_by node role is = record { has = ap is_none is }

  replica_had : (node : ℕ) → In node (replicas_in_order shape) → HasNode shape node
  replica_had node there = elim (in_cases node (map seq_id (range_with_len 0 (shape.seq + shape.spares))) (map (shard_number shape) (range_with_len 0 (shape.shards * shape.copies))) there) [
    | inl seq ↦
        let k = in_mapped seq_id node (range_with_len 0 (shape.seq + shape.spares)) seq in
        subst (HasNode shape) k.2 (has_by (seq_id k.0) (SeqRole k.0) (seq_node_of shape formed k.0 (in_range_below (shape.seq + shape.spares) k.0 k.1)))
    | inr shard ↦
        let k = in_mapped (shard_number shape) node (range_with_len 0 (shape.shards * shape.copies)) shard in
        let row = shard_row k.0 (in_range_below (shape.shards * shape.copies) k.0 k.1) in
        subst (HasNode shape) k.2 (has_by (shard_number shape k.0) (ShardRole (k.0 / shape.copies) (k.0 % shape.copies)) (shard_node_at shape formed (k.0 / shape.copies) (k.0 % shape.copies) row.0 row.1))
  ]

  node_had : (node : ℕ) → In node (nodes_in_order shape) → HasNode shape node
  node_had node there = elim (in_cases node (range_with_len 0 shape.clients) (CONTROLLER ∷ replicas_in_order shape) there) [
    | inl client ↦ has_by node (ClientRole node) (client_node_of shape formed node (in_range_below shape.clients node client))
    | inr other ↦ elim other [
      | inl e ↦ subst (HasNode shape) e (has_by CONTROLLER Controller (control_node_of shape formed))
      | inr replica ↦ replica_had node replica
    ]
  ]

  pub nodes_had : Each (HasNode shape) (nodes_in_order shape)
  nodes_had = in_each (HasNode shape) (nodes_in_order shape) node_had

  found_by : (node : ℕ) (role : Option Node) → node_of shape node ≡ role → is_none role ≡ false → In node (nodes_in_order shape)
  found_by node (Some (ClientRole c)) is has =
      let k = client_is shape node c is in
      in_left node (range_with_len 0 shape.clients) (CONTROLLER ∷ replicas_in_order shape) (subst (λ n. In n (range_with_len 0 shape.clients)) (sym k.0) (below_in_range shape.clients c k.1))
  found_by node (Some Controller) is has = in_right node (range_with_len 0 shape.clients) (CONTROLLER ∷ replicas_in_order shape) (inl (sym (controller_is shape node is)))
  found_by node (Some (SeqRole i)) is has =
      let k = seq_is shape node i is in
      in_right node (range_with_len 0 shape.clients) (CONTROLLER ∷ replicas_in_order shape)
      (inr (in_left node (map seq_id (range_with_len 0 (shape.seq + shape.spares))) (map (shard_number shape) (range_with_len 0 (shape.shards * shape.copies)))
      (subst (λ n. In n (map seq_id (range_with_len 0 (shape.seq + shape.spares)))) (sym k.0) (in_map seq_id i (range_with_len 0 (shape.seq + shape.spares)) (below_in_range (shape.seq + shape.spares) i k.1)))))
  found_by node (Some (ShardRole i j)) is has =
      let k = shard_is shape node i j is in
      let place = shard_place shape i j in
      let number : shard_number shape (shard_place shape i j) ≡ shard_id i j =
      ap (λ a. shard_id a ((i * shape.copies + j) % shape.copies)) (div-mul-add i shape.copies j k.2) ∙ ap (shard_id i) (mod-mul-add i shape.copies j k.2) in
      in_right node (range_with_len 0 shape.clients) (CONTROLLER ∷ replicas_in_order shape)
      (inr (in_right node (map seq_id (range_with_len 0 (shape.seq + shape.spares))) (map (shard_number shape) (range_with_len 0 (shape.shards * shape.copies)))
      (subst (λ n. In n (map (shard_number shape) (range_with_len 0 (shape.shards * shape.copies)))) (number ∙ sym k.0)
      (in_map (shard_number shape) (shard_place shape i j) (range_with_len 0 (shape.shards * shape.copies)) (below_in_range (shape.shards * shape.copies) (shard_place shape i j) (place_below shape.shards shape.copies i j k.1 k.2))))))
  found_by node None is has = let wrong : true ≡ false = has in cc

  pub node_found : (node : ℕ) → HasNode shape node → In node (nodes_in_order shape)
  node_found node h = found_by node (node_of shape node) refl h.has

  -- ---- each once
  distinct_range : (from n : ℕ) → Distinct (range_with_len from n)
  distinct_range from zero = tt
  distinct_range from (suc n) = (λ there. let least = range_least (from + 1) n from there in absurd (omega arith), distinct_range (from + 1) n)

  clients_low : (node : ℕ) → In node (range_with_len 0 shape.clients) → node < CONTROLLER
  clients_low node there = let few = in_range_below shape.clients node there in let most = formed.clients_most in omega arith

  seqs_high : (node : ℕ) → In node (map seq_id (range_with_len 0 (shape.seq + shape.spares))) → (CONTROLLER < node) × (node < FIRST_SHARD)
  seqs_high node there =
      let k = in_mapped seq_id node (range_with_len 0 (shape.seq + shape.spares)) there in
      let few = in_range_below (shape.seq + shape.spares) k.0 k.1 in
      let most = formed.seq_most in
      let is : seq_id k.0 ≡ node = k.2 in
      (omega arith, omega arith)

  shards_high : (node : ℕ) → In node (map (shard_number shape) (range_with_len 0 (shape.shards * shape.copies))) → FIRST_SHARD ≤ node
  shards_high node there =
      let k = in_mapped (shard_number shape) node (range_with_len 0 (shape.shards * shape.copies)) there in
      let is : shard_number shape k.0 ≡ node = k.2 in
      omega arith

  replicas_high : (node : ℕ) → In node (replicas_in_order shape) → CONTROLLER < node
  replicas_high node there = elim (in_cases node (map seq_id (range_with_len 0 (shape.seq + shape.spares))) (map (shard_number shape) (range_with_len 0 (shape.shards * shape.copies))) there) [
    | inl seq ↦ (seqs_high node seq).0
    | inr shard ↦ (let high = shards_high node shard in omega arith)
  ]

  shard_once : (a b : ℕ) → shard_number shape a ≡ shard_number shape b → a ≡ b
  shard_once a b same =
      let most = formed.copies_most in
      let low = mod-lt a {m = shape.copies} some in
      let high = mod-lt b {m = shape.copies} some in
      let row : a / shape.copies ≡ b / shape.copies = omega arith in
      let column : a % shape.copies ≡ b % shape.copies = omega arith in
      sym (div-add-mod' a shape.copies) ∙ ap (λ (q : ℕ). q * shape.copies + a % shape.copies) row ∙ ap (λ (r : ℕ). (b / shape.copies) * shape.copies + r) column ∙ div-add-mod' b shape.copies

  pub nodes_once : Distinct (nodes_in_order shape)
  nodes_once =
      distinct_append (range_with_len 0 shape.clients) (CONTROLLER ∷ replicas_in_order shape) (distinct_range 0 shape.clients) (
        λ there. (let high = replicas_high CONTROLLER there in absurd (omega arith)),
        distinct_append (map seq_id (range_with_len 0 (shape.seq + shape.spares))) (map (shard_number shape) (range_with_len 0 (shape.shards * shape.copies)))
            (distinct_map seq_id (λ a b same. omega arith) (range_with_len 0 (shape.seq + shape.spares)) (distinct_range 0 (shape.seq + shape.spares)))
            (distinct_map (shard_number shape) shard_once (range_with_len 0 (shape.shards * shape.copies)) (distinct_range 0 (shape.shards * shape.copies)))
            (λ node seq shard. let low = (seqs_high node seq).1 in let high = shards_high node shard in absurd (omega arith)),
      )
      (λ node client other. let low = clients_low node client in elim other [ inl e ↦ absurd (omega arith) | inr replica ↦ (let high = replicas_high node replica in absurd (omega arith)) ])
