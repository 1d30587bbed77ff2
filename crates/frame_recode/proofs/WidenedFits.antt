-- Every envelope that fits in edition One fits in edition Two with its window widened.
use Rattle.std.proofs.Common.{◌≡◌, ℕ, zero, suc, ◌+◌, ◌-◌, ◌*◌, ◌/◌, ◌%◌, ◌^◌, ◌<◌, ◌≤◌, Bool, true, false, List, [], ◌∷◌, length, Option, None, Some, sym, ap, subst, ◌∙◌, arith, inl, inr}
use Rattle.std.specs.Prelude.{◌&&◌, nat_lt, nat_le, min, slice_index, All, if◌then◌else◌}
use Rattle.std.specs.List.{AllByRecursion}
use Rattle.std.proofs.Math.Nat.{pow-succ'}
use Rattle.std.proofs.lemmas.Bool.{and_from, cases_lt, eq-eqb, le-leb, le-ltb, lt-ltb, or_left}
use Rattle.std.proofs.lemmas.List.{length-map}
use Rattle.std.proofs.lemmas.List.Elements.{All-from_recursion}
use Rattle.rec_id.specs.declared.entry.Entry.{Entry}
use Rattle.rec_id.specs.declared.entry.Entry.TheVariants.{Kept as KeptEntry, Noop as NoopEntry, Gone as GoneEntry}
use Rattle.rec_id.specs.declared.item.Item.{Item}
use Rattle.rec_id.specs.declared.item.Body.{Body}
use Rattle.rec_id.specs.declared.item.Body.TheVariants.{Elsewhere, Kept, Noop, Open, Gone}
use Rattle.rec_id.specs.declared.item.Cell.{Cell}
use Rattle.rec_id.specs.declared.marks.Marks.{Marks}
use Rattle.rec_id.specs.Marks.{bit_of, bits_where, is_marked, is_seen, is_stale, stands_marked, words_where}
use Rattle.rec_id.proofs.MarkBits.{length-words_where}
use Rattle.view_config.specs.declared.edition.Edition.TheVariants.{One, Two}
use Rattle.lazy_msgs.specs.declared.msg.Envelope.{Envelope}
use Rattle.lazy_msgs.specs.declared.msg.Msg.{Msg}
use Rattle.lazy_msgs.specs.declared.msg.Msg.TheVariants.{Append, AppendAck, Put, DataAck, Rejected, Place, Placed, Copy, Copied, Order, Ordered, Stable, Probe, ProbeAck, TailReady, Fetch, Part, Flush, FlushCopy, Flushed, Seal, Sealed, SealedEmpty, NewView, Started, AskView, ViewIs, Claim, Trim, TrimAck, TrimmedAt}
use Rattle.lazy_msgs.specs.FrameLimits.{BodyFits, BytesFit, CellFits, EndAt, EntryFits, Fits, ItemFits, ListFits, MarksFit, MessageFits, OptionalFits, PlacedFits, WindowFits}
use Rattle.seen_window.specs.Image.{widened, widened_image}
use Rattle.frame_recode.specs.Widened.{widened_envelope, widened_message}

-- ---- the marks of a client

one_bit : (b : Bool) → (if b then 1 else 0) ≤ 1
one_bit true = omega arith
one_bit false = omega arith

off_bit : (b : Bool) → b ≡ false → (if b then 1 else 0) ≤ 0
off_bit true h = cc h
off_bit false h = omega arith

-- no bit of a word stands for a number below 1
low_bits : (count low top : ℕ) (told : ℕ → Bool) → bits_where count low (stands_marked top told) < 2 ^ min count (top - low)
low_bits zero low top told = let none : min 0 (top - low) ≡ 0 = omega arith in subst (λ (n : ℕ). 0 < 2 ^ n) (sym none) (omega arith)
low_bits (suc count) low top told = elim (cases_lt low top) [
  | inl inside ↦
      let rest = low_bits count (low + 1) top told in
      let exponent : min (suc count) (top - low) ≡ suc (min count (top - (low + 1))) = omega arith in
      let power : 2 ^ min (suc count) (top - low) ≡ 2 * 2 ^ min count (top - (low + 1)) = ap (λ (n : ℕ). 2 ^ n) exponent ∙ pow-succ' 2 (min count (top - (low + 1))) in
      let bit = one_bit (stands_marked top told low) in
      omega arith
  | inr past ↦
      let rest = low_bits count (low + 1) top told in
      let nothing : min (suc count) (top - low) ≡ 0 = omega arith in
      let none : min count (top - (low + 1)) ≡ 0 = omega arith in
      let small : bits_where count (low + 1) (stands_marked top told) < 1 = subst (λ (n : ℕ). bits_where count (low + 1) (stands_marked top told) < 2 ^ n) none rest in
      let off : stands_marked top told low ≡ false = ap (λ (b : Bool). b && told (top - low)) (le-ltb low top past) in
      let bit = off_bit (stands_marked top told low) off in
      let all : (if stands_marked top told low then 1 else 0) + 2 * bits_where count (low + 1) (stands_marked top told) < 1 = omega (arith, bit, small) in
      subst (λ (n : ℕ). bits_where (suc count) low (stands_marked top told) < 2 ^ n) (sym nothing) all
]

ends_at : (words low top : ℕ) (told : ℕ → Bool) → EndAt (top - low) (words_where words low (stands_marked top told))
ends_at zero low top told = tt
ends_at (suc words) low top told =
    let next : top - (low + 64) ≡ top - low - 64 = omega arith in
    (low_bits 64 low top told, subst (λ (n : ℕ). EndAt n (words_where words (low + 64) (stands_marked top told))) next (ends_at words (low + 64) top told))

odd_with : (b : Bool) (n : ℕ) → b ≡ true → ((if b then 1 else 0) + 2 * n) % 2 ≡ 1
odd_with true n h = omega arith
odd_with false n h = cc h

-- the greatest marked number is seen
highest_seen : (marks : Marks) → MarksFit One marks → 1 ≤ marks.top → is_seen marks marks.top ≡ true
highest_seen marks fits least =
    let first : marks.top - marks.top ≡ 0 = omega arith in
    let bit : slice_index marks.bits 0 / 1 % 2 ≡ 1 = omega (arith, fits.highest least) in
    or_left (is_marked marks marks.top) (is_stale marks marks.top)
    (and_from (nat_le marks.top marks.top) (bit_of marks.bits (marks.top - marks.top)) (le-leb marks.top marks.top (omega arith))
    (ap (bit_of marks.bits) first ∙ eq-eqb (slice_index marks.bits 0 / 1 % 2) 1 bit))

marks_fit : (marks : Marks) → MarksFit One marks → MarksFit Two (widened marks)
unfolding widened
marks_fit marks fits =
    let told : ℕ → Bool = is_seen marks in
    let whole : marks.top - 0 ≡ marks.top = omega arith in
    record {
      top = fits.top;
      words = length-words_where 64 0 (stands_marked marks.top (is_seen marks));
      highest = λ least.
          let set : stands_marked marks.top (is_seen marks) 0 ≡ true = and_from (nat_lt 0 marks.top) (is_seen marks (marks.top - 0)) (lt-ltb 0 marks.top least) (ap (is_seen marks) whole ∙ highest_seen marks fits least) in
          odd_with (stands_marked marks.top (is_seen marks) 0) (bits_where 63 1 (stands_marked marks.top (is_seen marks))) set;
      lowest = subst (λ (n : ℕ). EndAt n (words_where 64 0 (stands_marked marks.top (is_seen marks)))) whole (ends_at 64 0 marks.top (is_seen marks));
    }

each_marks_fit : (window : List Marks) → AllByRecursion (MarksFit One) window → AllByRecursion (MarksFit Two) (widened_image window)
each_marks_fit [] each = tt
each_marks_fit (marks ∷ window) each = (marks_fit marks each.0, each_marks_fit window each.1)

window_fits : (window : List Marks) → WindowFits One window → WindowFits Two (widened_image window)
window_fits window fits =
    let same = length-map window widened in
    let least = fits.least in
    let most = fits.most in
    record { least = omega arith; most = omega arith; each = each_marks_fit window fits.each }

narrow_each : (window : List Marks) → AllByRecursion (MarksFit One) window → AllByRecursion (λ (marks : Marks). length marks.bits ≡ 4) window
narrow_each [] each = tt
narrow_each (marks ∷ window) each = (each.0.words, narrow_each window each.1)

pub narrow : (window : List Marks) → WindowFits One window → All (λ (marks : Marks). length marks.bits ≡ 4) window
narrow window fits = All-from_recursion (λ (marks : Marks). length marks.bits ≡ 4) window (narrow_each window fits.each)

-- ---- data, and lists

bytes_fit : (bytes : List ℕ) → BytesFit One bytes → BytesFit Two bytes
bytes_fit bytes fits = omega arith

optional_fits : (bytes : Option (List ℕ)) → OptionalFits One bytes → OptionalFits Two bytes
optional_fits None fits = tt
optional_fits (Some bytes) fits = bytes_fit bytes fits

item_fits : (item : Item) → ItemFits One item → ItemFits Two item
item_fits item fits = record { id = fits.id; bytes = optional_fits item.bytes fits.bytes }

body_fits : (body : Body) → BodyFits One body → BodyFits Two body
body_fits Elsewhere fits = tt
body_fits (Kept bytes) fits = bytes_fit bytes fits
body_fits Noop fits = tt
body_fits Open fits = absurd fits
body_fits Gone fits = absurd fits

cell_fits : (cell : Cell) → CellFits One cell → CellFits Two cell
cell_fits cell fits = record { id = fits.id; body = body_fits cell.body fits.body }

entry_fits : (entry : Entry) → EntryFits One entry → EntryFits Two entry
entry_fits (KeptEntry id bytes) fits = (fits.0, bytes_fit bytes fits.1)
entry_fits (NoopEntry id) fits = fits
entry_fits (GoneEntry id) fits = absurd fits

placed_fits : (placed : ℕ × Entry) → PlacedFits One placed → PlacedFits Two placed
placed_fits placed fits = record { place = fits.place; entry = entry_fits placed.1 fits.entry }

each_fits : {A : Type 0} (P Q : A → Type 0) → ((x : A) → P x → Q x) → (xs : List A) → AllByRecursion P xs → AllByRecursion Q xs
each_fits P Q f [] each = tt
each_fits P Q f (x ∷ xs) each = (f x each.0, each_fits P Q f xs each.1)

list_fits : {A : Type 0} (limit : ℕ) (P Q : A → Type 0) → ((x : A) → P x → Q x) → (xs : List A) → ListFits limit P xs → ListFits limit Q xs
list_fits limit P Q f xs fits = record { count = fits.count; each = each_fits P Q f xs fits.each }

items_fit : (limit : ℕ) (items : List Item) → ListFits limit (ItemFits One) items → ListFits limit (ItemFits Two) items
items_fit limit items fits = list_fits limit (ItemFits One) (ItemFits Two) item_fits items fits

cells_fit : (limit : ℕ) (cells : List Cell) → ListFits limit (CellFits One) cells → ListFits limit (CellFits Two) cells
cells_fit limit cells fits = list_fits limit (CellFits One) (CellFits Two) cell_fits cells fits

-- ---- messages

pub message_fits : (msg : Msg) → MessageFits One msg → MessageFits Two (widened_message msg)
message_fits (Append view id bytes) fits = (fits.0, fits.1, optional_fits bytes fits.2)
message_fits (AppendAck view id) fits = fits
message_fits (Put id bytes) fits = (fits.0, bytes_fit bytes fits.1)
message_fits (DataAck view id) fits = fits
message_fits (Rejected id place) fits = fits
message_fits (Place view from items) fits = (fits.0, fits.1, items_fit 64 items fits.2)
message_fits (Placed view upto) fits = fits
message_fits (Copy view from cells) fits = (fits.0, fits.1, cells_fit 64 cells fits.2)
message_fits (Copied view upto) fits = fits
message_fits (Order view from ids) fits = fits
message_fits (Ordered view upto) fits = fits
message_fits (Stable view upto) fits = fits
message_fits (Probe view read) fits = fits
message_fits (ProbeAck view read) fits = fits
message_fits (TailReady view read tail) fits = fits
message_fits (Fetch read from to) fits = fits
message_fits (Part read from end entries) fits = (fits.0, fits.1, fits.2, list_fits 256 (PlacedFits One) (PlacedFits Two) placed_fits entries fits.3)
message_fits (Flush config from items) fits = (fits.0, fits.1, items_fit 4096 items fits.2)
message_fits (FlushCopy view from cells) fits = (fits.0, fits.1, cells_fit 4096 cells fits.2)
message_fits (Flushed view) fits = fits
message_fits (Seal view) fits = fits
message_fits (Sealed view bound window items) fits = (fits.0, fits.1, window_fits window fits.2, items_fit 4096 items fits.3)
message_fits (SealedEmpty view) fits = fits
message_fits (NewView config base window) fits = (fits.0, fits.1, window_fits window fits.2)
message_fits (Started view) fits = fits
message_fits AskView fits = fits
message_fits (ViewIs config) fits = fits
message_fits (Claim stable) fits = fits
message_fits (Trim read floor) fits = absurd fits.0
message_fits (TrimAck read) fits = absurd fits.0
message_fits (TrimmedAt read floor) fits = absurd fits.0

pub envelope_fits : (env : Envelope) → Fits One env → Fits Two (widened_envelope env)
envelope_fits env fits = record { from = fits.from; to = fits.to; time = fits.time; message = message_fits env.msg fits.message }
