-- A keep of the journal is the rule's.
use Rattle.std.proofs.Common.{◌≡◌, ◌≢◌, ◌↔◌, inl, inr, ℕ, ◌+◌, ◌≤◌, ◌<◌, Bool, true, false, List, [], length, Some, refl, sym, ap, ◌∙◌, subst, if◌then◌else◌}
use Rattle.std.specs.Prelude.{Result, Ok, Err, OnOk, IfOk}
use Rattle.std.proofs.lemmas.Bool.{cases_Bool, cases_lt, false_from_ne_true, le-leb, le-ltb, lt-leb, lt-ltb}
use Rattle.lazy_rules.specs.Store.{Store}
use Rattle.journal_disk.specs.Drive.{MemAlike, MemMakes}
use Rattle.journal_disk.specs.Past.{Memory}
use Rattle.shard_journal.specs.declared.limits.TheConstants.{FILE_LIMIT}
use Rattle.shard_journal.specs.declared.refused.JournalRefused.{JournalRefused}
use Rattle.shard_journal.specs.declared.refused.JournalRefused.TheVariants.{Closed, Full, DiskFault, Damaged, Memory as NoMemory}
use Rattle.shard_journal.specs.Blocks.{behind_form}
use Rattle.shard_journal.specs.State.{JournalState, Puts, next_block, next_size, next_to}
use Rattle.journal_script.specs.declared.texts.Refusal.TheVariants as why
use Rattle.journal_script.specs.Texts.{kept_text}
use Rattle.journal_top.specs.Devices.{Made, device_of, keep_calls, made}
use Rattle.journal_top.specs.Rules.{Told, ToolState, keep, keep_open, keep_says, keep_within, put, refuses, says}
use Rattle.journal_top.specs.Sound.{IsSound, tool_of}
use Rattle.journal_top.proofs.Devices.{put_made}
use Rattle.journal_top.proofs.Sounds.{put_sound}

-- what a keep answered, and what it did to the journal
pub record Keeps (store : Store) (old new : JournalState Memory) (r : Result ℕ JournalRefused) : Type 0 where
  pub closed : (r ≡ Err Closed) ↔ (old.closed ≡ true)
  pub left_closed : old.closed ≡ true → new ≡ old
  pub none : old.closed ≡ false → store.stable ≤ old.kept → (r ≡ Ok old.kept) × (new ≡ old)
  pub answer : old.closed ≡ false → IfOk r (λ kept. kept ≡ next_to store old.kept)
  pub kept_is : old.closed ≡ false → OnOk r (new.kept ≡ next_to store old.kept)
  pub closes : old.closed ≡ false → r ≡ Err DiskFault → new.closed ≡ true
  pub stays_open : old.closed ≡ false → r ≢ Err DiskFault → new.closed ≡ false
  pub full : r ≡ Err Full → FILE_LIMIT < next_size store old.kept old.end
  pub within : r ≢ Err Full → r ≢ Err NoMemory → old.closed ≡ false → old.kept < store.stable → next_size store old.kept old.end ≤ FILE_LIMIT
  pub puts : old.closed ≡ false → old.kept < store.stable → Puts MemMakes MemAlike old new (next_block store old.kept) r
  pub full_same : r ≡ Err Full → new ≡ old
  pub fault_same : r ≡ Err DiskFault → (new.kept ≡ old.kept) × (new.end ≡ old.end)

module _ (t : ToolState) where
  keep_closed : t.closed ≡ true → keep t ≡ refuses t why.Closed
  keep_closed is = ap (λ (b : Bool). if b then refuses t why.Closed else keep_open t) is

  keep_is_open : t.closed ≡ false → keep t ≡ keep_open t
  keep_is_open is = ap (λ (b : Bool). if b then refuses t why.Closed else keep_open t) is

  keep_none : t.closed ≡ false → t.store.stable ≤ t.kept → keep t ≡ says t (kept_text t.kept)
  keep_none is le = keep_is_open is ∙ ap (λ (b : Bool). if b then says t (kept_text t.kept) else keep_within t) (le-leb t.store.stable t.kept le)

  keep_some : t.closed ≡ false → t.kept < t.store.stable → keep t ≡ keep_within t
  keep_some is below = keep_is_open is ∙ ap (λ (b : Bool). if b then says t (kept_text t.kept) else keep_within t) (lt-leb t.store.stable t.kept below)

  keep_full : t.closed ≡ false → t.kept < t.store.stable → FILE_LIMIT < next_size t.store t.kept t.end → keep t ≡ refuses t why.Full
  keep_full is below over =
      keep_some is below ∙ ap (λ (b : Bool). if b then refuses t why.Full else put t (next_block t.store t.kept) (made t.disk (keep_calls t.end (next_block t.store t.kept)))) (lt-ltb FILE_LIMIT (next_size t.store t.kept t.end) over)

  keep_put : t.closed ≡ false → t.kept < t.store.stable → next_size t.store t.kept t.end ≤ FILE_LIMIT → keep t ≡ put t (next_block t.store t.kept) (made t.disk (keep_calls t.end (next_block t.store t.kept)))
  keep_put is below most =
      keep_some is below ∙ ap (λ (b : Bool). if b then refuses t why.Full else put t (next_block t.store t.kept) (made t.disk (keep_calls t.end (next_block t.store t.kept)))) (le-ltb FILE_LIMIT (next_size t.store t.kept t.end) most)

  pub keep_sound : IsSound t → IsSound (keep t).0
  keep_sound sound = elim (cases_Bool t.closed) [
    | inl is ↦ subst (λ (told : Told). IsSound told.0) (sym (keep_closed is)) sound
    | inr is ↦ elim (cases_lt t.kept t.store.stable) [
      | inr le ↦ subst (λ (told : Told). IsSound told.0) (sym (keep_none is le)) sound
      | inl below ↦ elim (cases_lt FILE_LIMIT (next_size t.store t.kept t.end)) [
        | inl over ↦ subst (λ (told : Told). IsSound told.0) (sym (keep_full is below over)) sound
        | inr most ↦ subst (λ (told : Told). IsSound told.0) (sym (keep_put is below most)) (put_sound t sound (next_block t.store t.kept) refl below is)
      ]
    ]
  ]

pub record KeepTold (store : Store) (old new : JournalState Memory) (lines : ℕ) (text : List ℕ) : Type 0 where
  pub told_is : says (tool_of store new lines) text ≡ keep (tool_of store old lines)
  pub faultless : new.disk.meter.to_fail ≡ []

pair_is : (a b : ToolState) (x y : List ℕ) → a ≡ b → Some x ≡ Some y → says a y ≡ says b x
pair_is a b x y e s = rw (e, sym s) refl

is_open : (store : Store) (old new : JournalState Memory) (r : Result ℕ JournalRefused) → Keeps store old new r → r ≢ Err Closed → old.closed ≡ false
is_open store old new r k other = false_from_ne_true old.closed (λ e. other (k.closed.1 e))

is_below : (store : Store) (old new : JournalState Memory) (e : JournalRefused) → Keeps store old new (Err e) → old.closed ≡ false → old.kept < store.stable
is_below store old new e k open_ = elim (cases_lt old.kept store.stable) [
  | inl below ↦ below
  | inr le ↦ let wrong = (k.none open_ le).0 in absurd cc
]

tool_is : (store : Store) (new : JournalState Memory) (lines kept end : ℕ) (closed : Bool) → new.kept ≡ kept → new.end ≡ end → new.closed ≡ closed → tool_of store new lines ≡ record { store = store; kept = kept; end = end; closed = closed; disk = device_of new.disk; lines = lines }
tool_is store new lines kept end closed kept_is end_is closed_is = rw (kept_is, end_is, closed_is) refl

pub keep_told : (store : Store) (old new : JournalState Memory) (lines : ℕ) (r : Result ℕ JournalRefused) (text : List ℕ) → old.disk.meter.to_fail ≡ [] → Keeps store old new r → keep_says r ≡ Some text → KeepTold store old new lines text
keep_told store old new lines (Err Closed) text plain k says_it =
    let is = k.closed.0 refl in
    let same = k.left_closed is in record {
      told_is = pair_is (tool_of store new lines) (tool_of store old lines) _ text (ap (λ (j : JournalState Memory). tool_of store j lines) same) says_it ∙ sym (keep_closed (tool_of store old lines) is);
      faultless = rw same plain;
    }
keep_told store old new lines (Err Full) text plain k says_it =
    let open_ = is_open store old new (Err Full) k (λ e. cc) in
    let below = is_below store old new Full k open_ in
    let same = k.full_same refl in record {
      told_is = pair_is (tool_of store new lines) (tool_of store old lines) _ text (ap (λ (j : JournalState Memory). tool_of store j lines) same) says_it ∙ sym (keep_full (tool_of store old lines) open_ below (k.full refl));
      faultless = rw same plain;
    }
keep_told store old new lines (Err DiskFault) text plain k says_it =
    let t = tool_of store old lines in
    let open_ = is_open store old new (Err DiskFault) k (λ e. cc) in
    let below = is_below store old new DiskFault k open_ in
    let most = k.within (λ e. cc) (λ e. cc) open_ below in
    let block = next_block store old.kept in
    let all = put_made old.disk new.disk old.end block false plain ((k.puts open_ below).failed refl) in
    let same = k.fault_same refl in record {
      told_is =
          pair_is (tool_of store new lines) (record { store = store; kept = old.kept; end = old.end; closed = true; disk = device_of new.disk; lines = lines }) _ text (tool_is store new lines old.kept old.end true same.0 same.1 (k.closes open_ refl)) says_it
          ∙ sym (keep_put t open_ below most ∙ ap (λ (m : Made). put t block m) all.made_is);
      faultless = all.faultless;
    }
keep_told store old new lines (Err (Damaged at)) text plain k says_it = absurd cc
keep_told store old new lines (Err NoMemory) text plain k says_it = absurd cc
keep_told store old new lines (Ok kept) text plain k says_it =
    let t = tool_of store old lines in
    let open_ = is_open store old new (Ok kept) k (λ e. cc) in
    elim (cases_lt old.kept store.stable) [
      | inr le ↦
          let none = k.none open_ le in
          let kept_is : kept ≡ old.kept = let e = none.0 in cc in record {
            told_is = pair_is (tool_of store new lines) t (kept_text old.kept) text (ap (λ (j : JournalState Memory). tool_of store j lines) none.1) (ap (λ (n : ℕ). Some (kept_text n)) (sym kept_is) ∙ says_it) ∙ sym (keep_none t open_ le);
            faultless = rw none.1 plain;
          }
      | inl below ↦
          let most = k.within (λ e. cc) (λ e. cc) open_ below in
          let block = next_block store old.kept in
          let puts = k.puts open_ below in
          let all = put_made old.disk new.disk old.end block true plain puts.done in record {
            told_is =
                pair_is (tool_of store new lines) (record { store = store; kept = block.to; end = old.end + 1 + length (behind_form block); closed = old.closed; disk = device_of new.disk; lines = lines }) (kept_text block.to) text
                (tool_is store new lines block.to (old.end + 1 + length (behind_form block)) old.closed (k.kept_is open_) puts.end_is (k.stays_open open_ (λ e. cc) ∙ sym open_))
                (ap (λ (n : ℕ). Some (kept_text n)) (sym (k.answer open_)) ∙ says_it)
                ∙ sym (keep_put t open_ below most ∙ ap (λ (m : Made). put t block m) all.made_is);
            faultless = all.faultless;
          }
    ]
