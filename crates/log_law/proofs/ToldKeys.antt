-- Keys and what they are the keys of.
use Rattle.std.proofs.Common.{◌≡◌, ℕ, zero, suc, ◌<◌, List, [], ◌∷◌, length, map, Option, Some, None, slice_get, get_or, refl, sym, ap, ◌∙◌}
use Rattle.std.specs.Prelude.{option_map, option_and_then}
use Rattle.std.proofs.lemmas.Option.{slice_get_read}
use Rattle.rec_id.specs.Identity.{Identity}
use Rattle.rec_id.specs.History.{Read, told_at}
use Rattle.rec_id.specs.Line.{named_id, id_at}
use Rattle.rec_id.specs.declared.entry.Entry.{Entry}
use Rattle.log_law.specs.Told.{id_key, read_key, entry_key}
use Rattle.log_law.specs.declared.told.Names.TheVariants.{All}
use Rattle.log_law.specs.Keys.{key_at}

-- what was told, with its key
pub record ToldWith {A B K : Type 0} (f : A → Option B) (g : B → K) (xs : List A) (i : ℕ) (key : K) : Type 0 where
  pub told : B
  pub tells : told_at f xs i ≡ Some told
  pub is : g told ≡ key

module _ {A B K : Type 0} (f : A → Option B) (g : B → K) where
  pub keys_of_told : (xs : List A) (i : ℕ) (x : B) → told_at f xs i ≡ Some x → told_at (λ (o : Option K). o) (map (λ (a : A). option_map g (f a)) xs) i ≡ Some (g x)
  keys_of_told [] i x h = cc
  keys_of_told (a ∷ xs) zero x h = ap (option_map g) h
  keys_of_told (a ∷ xs) (suc i) x h = keys_of_told xs i x h

  told_of_some : (o : Option B) (key : K) → option_map g o ≡ Some key → (x : B) × (o ≡ Some x) × (g x ≡ key)
  told_of_some None key h = cc
  told_of_some (Some x) key h = (x, refl, cc)

  pub told_of_keys : (xs : List A) (i : ℕ) (key : K) → told_at (λ (o : Option K). o) (map (λ (a : A). option_map g (f a)) xs) i ≡ Some key → ToldWith f g xs i key
  told_of_keys [] i key h = cc
  told_of_keys (a ∷ xs) zero key h = let t = told_of_some (f a) key h in record { told = t.0; tells = t.1; is = t.2 }
  told_of_keys (a ∷ xs) (suc i) key h = let t = told_of_keys xs i key h in record { told = t.told; tells = t.tells; is = t.is }

module _ {A B K : Type 0} (f : A → Option B) (g : B → K) where
  pub told_map : (xs : List A) (i : ℕ) (x : B) → told_at f xs i ≡ Some x → told_at (λ (a : A). option_map g (f a)) xs i ≡ Some (g x)
  told_map [] i x h = cc
  told_map (a ∷ xs) zero x h = ap (option_map g) h
  told_map (a ∷ xs) (suc i) x h = told_map xs i x h

  pub told_unmap : (xs : List A) (i : ℕ) (key : K) → told_at (λ (a : A). option_map g (f a)) xs i ≡ Some key → ToldWith f g xs i key
  told_unmap [] i key h = cc
  told_unmap (a ∷ xs) zero key h = let t = told_of_some f g (f a) key h in record { told = t.0; tells = t.1; is = t.2 }
  told_unmap (a ∷ xs) (suc i) key h = let t = told_unmap xs i key h in record { told = t.told; tells = t.tells; is = t.is }

pub same_id : (a b : Identity) → id_key a ≡ id_key b → a ≡ b
same_id a b e = ap (λ (k : ℕ × ℕ). let id : Identity = record { client = k.0; number = k.1 } in id) e

pub same_read : (a b : Read) → read_key a ≡ read_key b → a ≡ b
same_read a b e = ap (λ (k : ℕ × ℕ). let read : Read = record { client = k.0; number = k.1 } in read) e

-- what the line names, by keys

mapped : {A B : Type 0} (f : A → B) (o : Option A) → option_and_then (λ (a : A). Some (f a)) o ≡ option_map f o
mapped f None = refl
mapped f (Some x) = refl

pub keys_of_id : (line : List Entry) (p : ℕ) (id : Identity) → id_at line p ≡ Some id → key_at (map (entry_key All) line) p ≡ Some (id_key id)
keys_of_id line p id h = keys_of_told (λ (entry : Entry). Some (named_id entry)) id_key line p id (mapped named_id (slice_get line p) ∙ h)

pub id_of_keys : (line : List Entry) (p : ℕ) (id : Identity) → key_at (map (entry_key All) line) p ≡ Some (id_key id) → id_at line p ≡ Some id
id_of_keys line p id h =
    let t = told_of_keys (λ (entry : Entry). Some (named_id entry)) id_key line p (id_key id) h in
    sym (mapped named_id (slice_get line p)) ∙ t.tells ∙ ap Some (same_id t.told id t.is)

pub some_id_of_keys : (line : List Entry) (p : ℕ) (key : ℕ × ℕ) → key_at (map (entry_key All) line) p ≡ Some key → ToldWith (λ (entry : Entry). Some (named_id entry)) id_key line p key
some_id_of_keys line p key h = told_of_keys (λ (entry : Entry). Some (named_id entry)) id_key line p key h

-- where no key is told
pub key_cases : {P : Type 0} (o : Option (ℕ × ℕ)) → (o ≡ None → P) → ((key : ℕ × ℕ) → o ≡ Some key → P) → P
key_cases None f g = f refl
key_cases (Some key) f g = g key refl

-- what is told at a place that was read
pub told_read : {A B : Type 0} (f : A → Option B) (xs : List A) (i : ℕ) (x : A) → i < length xs → x ≡ get_or xs i x → told_at f xs i ≡ f x
told_read f xs i x lt e = ap (option_and_then f) (slice_get_read xs (length xs) i x refl lt e)
