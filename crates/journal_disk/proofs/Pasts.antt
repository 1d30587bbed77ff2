-- Records of changes that grow.
use Rattle.std.proofs.Common.{◌≡◌, ℕ, ◌+◌, ◌-◌, ◌≤◌, ◌^◌, ◌<◌, Bool, true, false, List, [], ◌∷◌, ◌++◌, length, take, drop, refl, sym, ap, ◌∙◌, subst, suc, arith, append_assoc, length-append}
use Rattle.std.specs.Prelude.{◌||◌, if◌then◌else◌}
use Rattle.std.specs.List.{list_any}
use Rattle.std.proofs.lemmas.List.{append-nil, take-append-le, drop-append-le, take_all, drop_all, length-drop, length-take, take-append-drop, nil_from_length}
use Rattle.journal_disk.specs.declared.past.Change.{Change}
use Rattle.journal_disk.specs.declared.past.Change.TheVariants.{Write, Cut, Sync}
use Rattle.journal_disk.specs.Past.{Deed, Written, CutTo, Synced, count_of, deed_of, deeds_of, total, changed, file_after, file_of, is_sync, until_synced, IsDoable, AreDoable}

-- ---- the bytes of the writes

pub total-push : (past : List Change) (change : Change) → total (past ++ change ∷ []) ≡ total past + count_of change
total-push [] change = omega arith
total-push (first ∷ past) change = omega (arith, total-push past change)

deed-more : (change : Change) (bytes others : List ℕ) → count_of change ≤ length bytes → deed_of change (bytes ++ others) ≡ deed_of change bytes
deed-more (Write at count) bytes others enough = ap (λ (bs : List ℕ). Written at bs) (take-append-le count bytes others enough)
deed-more (Cut size) bytes others enough = refl
deed-more Sync bytes others enough = refl

pub deeds-append : (past more : List Change) (bytes others : List ℕ) → total past ≡ length bytes → deeds_of (past ++ more) (bytes ++ others) ≡ deeds_of past bytes ++ deeds_of more others
deeds-append [] more bytes others is =
    let none : bytes ≡ [] = nil_from_length bytes (omega arith) in
    ap (λ (bs : List ℕ). deeds_of more (bs ++ others)) none
deeds-append (change ∷ past) more bytes others is =
    let enough : count_of change ≤ length bytes = omega arith in
    let rest : deeds_of (past ++ more) (drop (count_of change) bytes ++ others) ≡ deeds_of past (drop (count_of change) bytes) ++ deeds_of more others = deeds-append past more (drop (count_of change) bytes) others (omega (arith, length-drop (count_of change) bytes)) in
    rw (drop-append-le (count_of change) bytes others enough, deed-more change bytes others enough, rest) refl

-- one change more, with its bytes
pub deeds-push : (past : List Change) (change : Change) (bytes others : List ℕ) → total past ≡ length bytes → deeds_of (past ++ change ∷ []) (bytes ++ others) ≡ deeds_of past bytes ++ deed_of change others ∷ []
deeds-push past change bytes others is = deeds-append past (change ∷ []) bytes others is

pub length-deeds : (past : List Change) (bytes : List ℕ) → length (deeds_of past bytes) ≡ length past
length-deeds [] bytes = refl
length-deeds (change ∷ past) bytes = ap (λ n. suc n) (length-deeds past (drop (count_of change) bytes))

-- ---- what they make of a file

pub file-append : (deeds more : List Deed) (file : List ℕ) → file_after (deeds ++ more) file ≡ file_after more (file_after deeds file)
file-append [] more file = refl
file-append (deed ∷ deeds) more file = file-append deeds more (changed deed file)

pub doable-push : (limit : ℕ) (deeds : List Deed) (deed : Deed) (file : List ℕ) → AreDoable limit deeds file → IsDoable limit deed (file_after deeds file) → AreDoable limit (deeds ++ deed ∷ []) file
doable-push limit [] deed file all one = (one, tt)
doable-push limit (first ∷ deeds) deed file all one = (all.0, doable-push limit deeds deed (changed first file) all.1 one)

doable_one : (limit more : ℕ) (deed : Deed) (file : List ℕ) → limit ≤ more → IsDoable limit deed file → IsDoable more deed file
doable_one limit more (Written at bytes) file le one = (one.0, omega (arith, one.1), one.2)
doable_one limit more (CutTo size) file le one = one
doable_one limit more Synced file le one = one

pub doable_within : (limit more : ℕ) (deeds : List Deed) (file : List ℕ) → limit ≤ more → AreDoable limit deeds file → AreDoable more deeds file
doable_within limit more [] file le all = tt
doable_within limit more (deed ∷ deeds) file le all = (doable_one limit more deed file le all.0, doable_within limit more deeds (changed deed file) le all.1)

-- ---- what was synced

any-push : (deeds : List Deed) (deed : Deed) → is_sync deed ≡ false → list_any is_sync (deeds ++ deed ∷ []) ≡ list_any is_sync deeds
any-push [] deed loose = rw loose refl
any-push (first ∷ deeds) deed loose = ap (λ (b : Bool). is_sync first || b) (any-push deeds deed loose)

pub synced-push : (deeds : List Deed) (deed : Deed) → is_sync deed ≡ false → until_synced (deeds ++ deed ∷ []) ≡ until_synced deeds
synced-push [] deed loose = rw loose refl
synced-push (first ∷ deeds) deed loose =
    rw (any-push deeds deed loose, synced-push deeds deed loose) refl

or_true : (b : Bool) → (b || true) ≡ true
or_true true = refl
or_true false = refl

any-synced : (deeds : List Deed) → list_any is_sync (deeds ++ Synced ∷ []) ≡ true
any-synced [] = refl
any-synced (first ∷ deeds) = rw (any-synced deeds) (or_true (is_sync first))

pub synced_all : (deeds : List Deed) → until_synced (deeds ++ Synced ∷ []) ≡ deeds ++ Synced ∷ []
synced_all [] = refl
synced_all (first ∷ deeds) =
    rw (any-synced deeds, or_true (is_sync first), synced_all deeds) refl

-- what was synced is a front
pub record Fronts (deeds : List Deed) : Type 0 where
  pub loose : List Deed
  pub is : deeds ≡ until_synced deeds ++ loose

fronts_if : (b : Bool) (deed : Deed) (deeds : List Deed) → Fronts deeds → (loose : List Deed) × (deed ∷ deeds ≡ (if b then deed ∷ until_synced deeds else []) ++ loose)
fronts_if true deed deeds rest = (rest.loose, ap (λ (ds : List Deed). deed ∷ ds) rest.is)
fronts_if false deed deeds rest = (deed ∷ deeds, refl)

pub fronts : (deeds : List Deed) → Fronts deeds
fronts [] = record { loose = []; is = refl }
fronts (deed ∷ deeds) =
    let made = fronts_if (list_any is_sync (deed ∷ deeds)) deed deeds (fronts deeds) in
    record { loose = made.0; is = made.1 }

doable-front : (limit : ℕ) (deeds more : List Deed) (file : List ℕ) → AreDoable limit (deeds ++ more) file → AreDoable limit deeds file
doable-front limit [] more file all = tt
doable-front limit (deed ∷ deeds) more file all = (all.0, doable-front limit deeds more (changed deed file) all.1)

pub doable_synced : (limit : ℕ) (deeds : List Deed) (file : List ℕ) → AreDoable limit deeds file → AreDoable limit (until_synced deeds) file
doable_synced limit deeds file all =
    let parts = fronts deeds in
    doable-front limit (until_synced deeds) parts.loose file (subst (λ (ds : List Deed). AreDoable limit ds file) parts.is all)

-- ---- the last change

-- the bytes in front of those of the last change
abbrev pub front_bytes : Change → List ℕ → List ℕ
front_bytes last bytes = take (length bytes - count_of last) bytes

pub record Popped (past : List Change) (last : Change) (bytes : List ℕ) : Type 0 where
  pub enough : count_of last ≤ length bytes
  pub bytes_are : total past ≡ length (front_bytes last bytes)
  pub deeds : deeds_of (past ++ last ∷ []) bytes ≡ deeds_of past (front_bytes last bytes) ++ deed_of last (drop (length bytes - count_of last) bytes) ∷ []

pub popped : (past : List Change) (last : Change) (bytes : List ℕ) → total (past ++ last ∷ []) ≡ length bytes → Popped past last bytes
popped past last bytes is =
    let sum = total-push past last in
    let front : total past ≡ length (front_bytes last bytes) = omega (arith, length-take (length bytes - count_of last) bytes) in
    record {
      enough = omega arith;
      bytes_are = front;
      deeds = ap (λ (bs : List ℕ). deeds_of (past ++ last ∷ []) bs) (sym (take-append-drop (length bytes - count_of last) bytes)) ∙ deeds-push past last (front_bytes last bytes) (drop (length bytes - count_of last) bytes) front;
    }

pub loose_dropped : (past : List Change) (last : Change) (bytes : List ℕ) → total (past ++ last ∷ []) ≡ length bytes → is_sync (deed_of last (drop (length bytes - count_of last) bytes)) ≡ false
    → until_synced (deeds_of past (front_bytes last bytes)) ≡ until_synced (deeds_of (past ++ last ∷ []) bytes)
loose_dropped past last bytes is loose =
    let all = popped past last bytes is in
    sym (ap until_synced all.deeds ∙ synced-push (deeds_of past (front_bytes last bytes)) _ loose)

pub synced_stays : (past : List Change) (bytes : List ℕ) → total (past ++ Sync ∷ []) ≡ length bytes → until_synced (deeds_of (past ++ Sync ∷ []) bytes) ≡ deeds_of (past ++ Sync ∷ []) bytes
synced_stays past bytes is =
    let all = popped past Sync bytes is in
    ap until_synced all.deeds ∙ synced_all (deeds_of past (front_bytes Sync bytes)) ∙ sym all.deeds

write_dropped : (past : List Change) (at count : ℕ) (bytes : List ℕ) → total (past ++ Write at count ∷ []) ≡ length bytes
    → (until_synced (deeds_of past (take (length bytes - count) bytes)) ≡ until_synced (deeds_of (past ++ Write at count ∷ []) bytes)) × (total past ≡ length (take (length bytes - count) bytes)) × (count ≤ length bytes)
write_dropped past at count bytes is =
    let all = popped past (Write at count) bytes is in (loose_dropped past (Write at count) bytes is refl, all.bytes_are, all.enough)

cut_dropped : (past : List Change) (size : ℕ) (bytes : List ℕ) → total (past ++ Cut size ∷ []) ≡ length bytes
    → (until_synced (deeds_of past bytes) ≡ until_synced (deeds_of (past ++ Cut size ∷ []) bytes)) × (total past ≡ length bytes)
cut_dropped past size bytes is =
    let all = popped past (Cut size) bytes is in
    let whole : take (length bytes - 0) bytes ≡ bytes = take_all (length bytes - 0) bytes (omega arith) in
    (ap (λ (bs : List ℕ). until_synced (deeds_of past bs)) (sym whole) ∙ loose_dropped past (Cut size) bytes is refl, all.bytes_are ∙ ap length whole)

-- the same where what was popped is known by equations
pub record Drops (past_was past : List Change) (bytes_was bytes : List ℕ) : Type 0 where
  pub left : until_synced (deeds_of past bytes) ≡ until_synced (deeds_of past_was bytes_was)
  pub bytes_are : total past ≡ length bytes

pub drops_write : (past_was past : List Change) (last : Change) (bytes_was bytes : List ℕ) (at count len : ℕ) → past_was ≡ past ++ last ∷ [] → last ≡ Write at count → total past_was ≡ length bytes_was → len ≡ length bytes_was → bytes ≡ take (len - count) bytes_was → Drops past_was past bytes_was bytes
drops_write past_was past last bytes_was bytes at count len past_is last_is is len_is bytes_is =
    let whole : past_was ≡ past ++ Write at count ∷ [] = past_is ∙ ap (λ (change : Change). past ++ change ∷ []) last_is in
    let dropped = write_dropped past at count bytes_was (ap total (sym whole) ∙ is) in
    let now : bytes ≡ take (length bytes_was - count) bytes_was = bytes_is ∙ ap (λ n. take (n - count) bytes_was) len_is in
    record {
      left = ap (λ (bs : List ℕ). until_synced (deeds_of past bs)) now ∙ dropped.0 ∙ ap (λ (p : List Change). until_synced (deeds_of p bytes_was)) (sym whole);
      bytes_are = dropped.1 ∙ ap length (sym now);
    }

pub enough_for : (past_was past : List Change) (last : Change) (bytes_was : List ℕ) (at count : ℕ) → past_was ≡ past ++ last ∷ [] → last ≡ Write at count → total past_was ≡ length bytes_was → count ≤ length bytes_was
enough_for past_was past last bytes_was at count past_is last_is is =
    let whole : past_was ≡ past ++ Write at count ∷ [] = past_is ∙ ap (λ (change : Change). past ++ change ∷ []) last_is in
    (write_dropped past at count bytes_was (ap total (sym whole) ∙ is)).2

pub drops_cut : (past_was past : List Change) (last : Change) (bytes_was : List ℕ) (size : ℕ) → past_was ≡ past ++ last ∷ [] → last ≡ Cut size → total past_was ≡ length bytes_was → Drops past_was past bytes_was bytes_was
drops_cut past_was past last bytes_was size past_is last_is is =
    let whole : past_was ≡ past ++ Cut size ∷ [] = past_is ∙ ap (λ (change : Change). past ++ change ∷ []) last_is in
    let dropped = cut_dropped past size bytes_was (ap total (sym whole) ∙ is) in
    record { left = dropped.0 ∙ ap (λ (p : List Change). until_synced (deeds_of p bytes_was)) (sym whole); bytes_are = dropped.1 }

pub stays_synced : (past_was past past_now : List Change) (last : Change) (bytes : List ℕ) → past_was ≡ past ++ last ∷ [] → last ≡ Sync → total past_was ≡ length bytes → past_now ≡ past ++ Sync ∷ [] → until_synced (deeds_of past_now bytes) ≡ deeds_of past_now bytes
stays_synced past_was past past_now last bytes past_is last_is is now_is =
    let whole : past_was ≡ past ++ Sync ∷ [] = past_is ∙ ap (λ (change : Change). past ++ change ∷ []) last_is in
    rw now_is (synced_stays past bytes (ap total (sym whole) ∙ is))
