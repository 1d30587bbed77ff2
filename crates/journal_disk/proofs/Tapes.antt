-- A file with its past, and one change more.
use Rattle.std.proofs.Common.{◌≡◌, ℕ, ◌+◌, ◌-◌, ◌≤◌, ◌<◌, ◌^◌, List, [], ◌∷◌, ◌++◌, length, take, drop, refl, sym, ap, ◌∙◌, subst, arith, length-append}
use Rattle.std.proofs.lemmas.List.{length_push, take_all, length-take}
use Rattle.journal_disk.specs.declared.past.Change.{Change}
use Rattle.journal_disk.specs.declared.past.Change.TheVariants.{Write, Cut, Sync}
use Rattle.journal_disk.specs.Disk.{Room, room_after}
use Rattle.journal_disk.specs.Past.{Deed, Written, CutTo, Synced, Taped, count_of, deed_of, deeds_of, total, changed, file_of, until_synced, IsDoable, AreDoable, IsTape, after_deed}
use Rattle.journal_disk.proofs.Pasts.{total-push, deeds-push, doable-push, doable_within, doable_synced}
use Rattle.journal_disk.proofs.Crashes.{file-push}

module _ (past : List Change) (bytes buffer : List ℕ) (len : ℕ) (room : Room) (past_room bytes_room : ℕ) (tape : IsTape past bytes buffer len room past_room bytes_room) (change : Change) (others : List ℕ) where
  -- what is there afterwards
  pub record Grown (past_now : List Change) (bytes_now buffer_now : List ℕ) (len_now : ℕ) (room_now : Room) (past_room_now bytes_room_now : ℕ) : Type 0 where
    pub past_is : past_now ≡ past ++ change ∷ []
    pub bytes_is : bytes_now ≡ bytes ++ others
    pub counted : count_of change ≡ length others
    pub doable : IsDoable (length buffer) (deed_of change others) (take len buffer)
    pub buffer_len : length buffer_now ≡ length buffer
    pub file_is : take len_now buffer_now ≡ changed (deed_of change others) (take len buffer)
    pub within : len_now ≤ length buffer
    pub short : len_now < 2 ^ 32
    pub longer : len_now ≤ len + length others
    pub calls_left : room_now.calls + 1 ≤ room.calls
    pub bytes_left : room_now.bytes + length others ≤ room.bytes
    pub past_grown : past_room ≤ past_room_now
    pub bytes_grown : bytes_room ≤ bytes_room_now

  pub grown_deeds : deeds_of (past ++ change ∷ []) (bytes ++ others) ≡ deeds_of past bytes ++ deed_of change others ∷ []
  grown_deeds = deeds-push past change bytes others tape.bytes_are

  grown_file : file_of (deeds_of (past ++ change ∷ []) (bytes ++ others)) ≡ changed (deed_of change others) (take len buffer)
  grown_file = ap file_of grown_deeds ∙ file-push (deeds_of past bytes) (deed_of change others) ∙ ap (changed (deed_of change others)) (sym tape.file)

  grown_doable : IsDoable (length buffer) (deed_of change others) (take len buffer) → AreDoable (length buffer) (deeds_of (past ++ change ∷ []) (bytes ++ others)) []
  grown_doable one =
      let at_file : IsDoable (length buffer) (deed_of change others) (file_of (deeds_of past bytes)) = subst (λ (f : List ℕ). IsDoable (length buffer) (deed_of change others) f) tape.file one in
      subst (λ (ds : List Deed). AreDoable (length buffer) ds []) (sym grown_deeds) (doable-push (length buffer) (deeds_of past bytes) (deed_of change others) [] tape.doable at_file)

  pub grown_tape : (past_now : List Change) (bytes_now buffer_now : List ℕ) (len_now : ℕ) (room_now : Room) (past_room_now bytes_room_now : ℕ) → Grown past_now bytes_now buffer_now len_now room_now past_room_now bytes_room_now
      → IsTape past_now bytes_now buffer_now len_now room_now past_room_now bytes_room_now
  grown_tape past_now bytes_now buffer_now len_now room_now past_room_now bytes_room_now grown =
      let made : IsTape (past ++ change ∷ []) (bytes ++ others) buffer_now len_now room_now past_room_now bytes_room_now = record {
        file = grown.file_is ∙ sym grown_file;
        within = omega (arith, grown.within, grown.buffer_len);
        short = grown.short;
        bytes_are = omega (arith, total-push past change, tape.bytes_are, length-append bytes others, grown.counted);
        doable = subst (λ n. AreDoable n (deeds_of (past ++ change ∷ []) (bytes ++ others)) []) (sym grown.buffer_len) (grown_doable grown.doable);
        room_calls = omega (arith, length_push past change, tape.room_calls, grown.calls_left, grown.past_grown);
        room_bytes = omega (arith, length-append bytes others, tape.room_bytes, grown.bytes_left, grown.bytes_grown);
        room_file = omega (arith, grown.longer, tape.room_file, grown.bytes_left, grown.buffer_len);
      } in
      let at_past = subst (λ (p : List Change). IsTape p (bytes ++ others) buffer_now len_now room_now past_room_now bytes_room_now) (sym grown.past_is) made in
      subst (λ (b : List ℕ). IsTape past_now b buffer_now len_now room_now past_room_now bytes_room_now) (sym grown.bytes_is) at_past

  -- what contracts see of it
  pub grown_view : (past_now : List Change) (bytes_now : List ℕ) (calls_now room_bytes_now : ℕ) → past_now ≡ past ++ change ∷ [] → bytes_now ≡ bytes ++ others → calls_now ≡ room.calls - 1 → room_bytes_now ≡ room.bytes - length others
      → (let now : Taped = record { past = deeds_of past_now bytes_now; room = record { calls = calls_now; bytes = room_bytes_now } } in let before : Taped = record { past = deeds_of past bytes; room = room } in now ≡ after_deed before (deed_of change others) (length others))
  grown_view past_now bytes_now calls_now room_bytes_now past_is bytes_is calls_is room_is = rw (past_is, bytes_is, calls_is, room_is, grown_deeds) refl

-- more room
pub roomier : (past : List Change) (bytes buffer buffer_now : List ℕ) (len : ℕ) (room room_now : Room) (past_room bytes_room past_room_now bytes_room_now : ℕ) → IsTape past bytes buffer len room past_room bytes_room
    → take len buffer_now ≡ take len buffer → length buffer ≤ length buffer_now → length past + room_now.calls ≤ past_room_now → length bytes + room_now.bytes ≤ bytes_room_now → len + room_now.bytes ≤ length buffer_now
    → IsTape past bytes buffer_now len room_now past_room_now bytes_room_now
roomier past bytes buffer buffer_now len room room_now past_room bytes_room past_room_now bytes_room_now tape same longer calls more file = record {
  file = same ∙ tape.file;
  within = omega (arith, tape.within, longer);
  short = tape.short;
  bytes_are = tape.bytes_are;
  doable = doable_within (length buffer) (length buffer_now) (deeds_of past bytes) [] longer tape.doable;
  room_calls = calls;
  room_bytes = more;
  room_file = file;
}

pub reserved : (past past_now : List Change) (bytes bytes_now buffer buffer_now : List ℕ) (len : ℕ) (room room_now : Room) (past_room bytes_room past_room_now bytes_room_now : ℕ) → IsTape past bytes buffer len room past_room bytes_room
    → past_now ≡ past → bytes_now ≡ bytes → take len buffer_now ≡ take len buffer → length buffer ≤ length buffer_now → length past + room_now.calls ≤ past_room_now → length bytes + room_now.bytes ≤ bytes_room_now → len + room_now.bytes ≤ length buffer_now
    → IsTape past_now bytes_now buffer_now len room_now past_room_now bytes_room_now
reserved past past_now bytes bytes_now buffer buffer_now len room room_now past_room bytes_room past_room_now bytes_room_now tape past_is bytes_is same longer calls more file =
    let made = roomier past bytes buffer buffer_now len room room_now past_room bytes_room past_room_now bytes_room_now tape same longer calls more file in
    let at_past = subst (λ (p : List Change). IsTape p bytes buffer_now len room_now past_room_now bytes_room_now) (sym past_is) made in
    subst (λ (b : List ℕ). IsTape past_now b buffer_now len room_now past_room_now bytes_room_now) (sym bytes_is) at_past

-- a size within the file is within its length
pub size_within : (past : List Change) (bytes buffer : List ℕ) (len : ℕ) (room : Room) (past_room bytes_room : ℕ) → IsTape past bytes buffer len room past_room bytes_room → (size : ℕ) → size ≤ length (file_of (deeds_of past bytes)) → size ≤ len
size_within past bytes buffer len room past_room bytes_room tape size le = omega (arith, ap length tape.file, length-take len buffer)

-- what is left of a file that was rewound
pub rewound_doable : (past past_now : List Change) (bytes bytes_now buffer : List ℕ) (len : ℕ) (room : Room) (past_room bytes_room : ℕ) → IsTape past bytes buffer len room past_room bytes_room
    → deeds_of past_now bytes_now ≡ until_synced (deeds_of past bytes) → AreDoable (length buffer) (deeds_of past_now bytes_now) []
rewound_doable past past_now bytes bytes_now buffer len room past_room bytes_room tape left =
    subst (λ (ds : List Deed). AreDoable (length buffer) ds []) (sym left) (doable_synced (length buffer) (deeds_of past bytes) [] tape.doable)

pub rewound_tape : (past past_now : List Change) (bytes bytes_now buffer buffer_now : List ℕ) (len len_now : ℕ) (room : Room) (past_room bytes_room past_room_now bytes_room_now : ℕ) → IsTape past bytes buffer len room past_room bytes_room
    → deeds_of past_now bytes_now ≡ until_synced (deeds_of past bytes) → total past_now ≡ length bytes_now → past_room ≤ past_room_now → bytes_room ≤ bytes_room_now → length past_now ≤ length past → length bytes_now ≤ length bytes
    → take len_now buffer_now ≡ file_of (deeds_of past_now bytes_now) → len_now ≤ length buffer_now → len_now < 2 ^ 32 → length buffer_now ≡ length buffer
    → IsTape past_now bytes_now buffer_now len_now (record { calls = 0; bytes = 0 }) past_room_now bytes_room_now
rewound_tape past past_now bytes bytes_now buffer buffer_now len len_now room past_room bytes_room past_room_now bytes_room_now tape left bytes_are past_grown bytes_grown fewer shorter file within short same = record {
  file = file;
  within = within;
  short = short;
  bytes_are = bytes_are;
  doable = subst (λ n. AreDoable n (deeds_of past_now bytes_now) []) (sym same) (rewound_doable past past_now bytes bytes_now buffer len room past_room bytes_room tape left);
  room_calls = omega (arith, tape.room_calls, past_grown, fewer);
  room_bytes = omega (arith, tape.room_bytes, bytes_grown, shorter);
  room_file = omega (arith, within);
}
