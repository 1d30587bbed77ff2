-- How many bytes the fields of a frame take.
use Rattle.std.proofs.Common.{◌≡◌, ℕ, zero, suc, ◌+◌, ◌*◌, ◌≤◌, List, [], ◌∷◌, ◌++◌, length, take, refl, arith, length-append}
use Rattle.std.specs.List.{flat_map}
use Rattle.std.proofs.lemmas.List.{take_all}
use Rattle.rec_id.specs.Identity.{Identity}
use Rattle.lazy_msgs.specs.Frame.{two, four, eight, word_form, id_form, list_form}

pub length-two : (n : ℕ) → length (two n) ≡ 2
unfolding two
length-two n = refl

pub length-four : (n : ℕ) → length (four n) ≡ 4
unfolding four
length-four n = refl

pub length-eight : (n : ℕ) → length (eight n) ≡ 8
unfolding eight
length-eight n = refl

pub length-word_form : (word : ℕ) → length (word_form word) ≡ 8
unfolding word_form
length-word_form word = refl

-- members of one length each
length-flat_map_fixed : {A : Type 0} (form : A → List ℕ) (size : ℕ) → ((x : A) → length (form x) ≡ size) → (xs : List A) → length (flat_map form xs) ≡ size * length xs
length-flat_map_fixed form size fixed [] = omega arith
length-flat_map_fixed form size fixed (x ∷ xs) =
    omega (arith, fixed x, length-append (form x) (flat_map form xs), length-flat_map_fixed form size fixed xs)

pub length-nodes : (nodes : List ℕ) → length (flat_map two nodes) ≡ 2 * length nodes
length-nodes nodes = length-flat_map_fixed two 2 length-two nodes

pub length-words : (words : List ℕ) → length (flat_map word_form words) ≡ 8 * length words
length-words words = length-flat_map_fixed word_form 8 length-word_form words

pub length-ids : (ids : List Identity) → length (flat_map id_form ids) ≡ 5 * length ids
length-ids ids = length-flat_map_fixed id_form 5 (λ id. omega (arith, length-four id.number)) ids

-- the count and all members, where none is left
pub length-list_form : {A : Type 0} (form : A → List ℕ) (xs ys : List A) (i sum : ℕ) → ys ≡ xs → length ys ≤ i → sum ≡ 2 + length (flat_map form (take i ys)) → sum ≡ length (list_form form xs)
length-list_form form xs ys i sum same past so_far =
    let whole : take i ys ≡ xs = rw take_all same in
    let e : sum ≡ 2 + length (flat_map form xs) = rw whole at so_far in
    omega (arith, e, length-append (two (length xs)) (flat_map form xs), length-two (length xs))

pub ruleset field_lengths = (length-two, length-four, length-eight, length-word_form, length-nodes, length-words, length-ids, length-append)
