-- A whole frame, found in the bytes that it is read from: what is decoded is spelled so, and what is spelled
-- so is decoded.
use Rattle.std.proofs.Common.{◌≡◌, ◌≢◌, ℕ, zero, suc, ◌+◌, ◌<◌, ◌≤◌, Bool, true, false, List, [], ◌∷◌, ◌++◌, length, Result, Ok, Err, refl, sym, ap, subst, ◌∙◌, arith, inl, inr, lit≤}
use Rattle.std.specs.Prelude.{nat_le, ◌&&◌, ◌==◌, ◌⊎◌, if◌then◌else◌, IfOk, IfErr}
use Rattle.std.proofs.lemmas.Bool.{cases_eq, leb-true, eqb-true}
use Rattle.std.proofs.lemmas.List.{append-nil}
use Rattle.view_config.specs.declared.edition.Edition.{Edition}
use Rattle.view_config.specs.declared.edition.Edition.TheVariants.{One, Two}
use Rattle.lazy_msgs.specs.declared.msg.Envelope.{Envelope}
use Rattle.lazy_msgs.specs.declared.msg.Msg.{Msg}
use Rattle.lazy_msgs.specs.declared.msg.Msg.TheVariants.{Append, AppendAck, Put, DataAck, Rejected, Place, Placed, Copy, Copied, Order, Ordered, Stable, Probe, ProbeAck, TailReady, Fetch, Part, Flush, FlushCopy, Flushed, Seal, Sealed, SealedEmpty, NewView, Started, AskView, ViewIs, Claim, Trim, TrimAck, TrimmedAt}
use Rattle.lazy_msgs.specs.Frame.{two, eight, version_of, kind_of, fields_form, frame}
use Rattle.lazy_msgs.specs.FrameLimits.{IsTwo, MessageFits, Fits}
use Rattle.wire_frames.specs.declared.offence.FrameError.{FrameError}
use Rattle.wire_frames.specs.declared.offence.FrameError.TheVariants.{Kind, Field, Memory}
use Rattle.wire_frames.specs.Readers.{Taken, ◌>>=◌, done, node_at, addressee_at, time_at, fields_at, edition_at, kind_at, last_kind, envelope_at, frame_at, ended, whole_at, four_fields}
use Rattle.wire_frames.proofs.AgainFrame.{reads_frame, frame_alone}
use Rattle.wire_frames.proofs.Bits.{both_true}
use Rattle.wire_frames.proofs.Found.{IsBytes, Found, Takes, takes_one, takes_two, takes_three, takes_four, takes_word, takes_counted, takes_node, takes_addressee, takes_time, behind_none, behind_done, behind_one, behind_same, behind_then}
use Rattle.wire_frames.proofs.FoundFields.{takes_id, takes_bytes, takes_optional, takes_item, takes_cell, takes_placed, takes_list, takes_config, takes_window}
use Rattle.lazy_msgs.specs.declared.limits.TheConstants.{BATCH_LIMIT, PENDING_LIMIT}
use Rattle.rec_id.specs.declared.limits.TheConstants.{READ_LIMIT}

-- a message of this kind that fits
abbrev OfKind : Edition → ℕ → Msg → Type 0
OfKind edition kind msg = MessageFits edition msg × (kind_of msg ≡ kind)

-- the edition has the kind
abbrev HasKind : Edition → ℕ → Type 0
HasKind edition kind = kind ≤ last_kind edition

abbrev TakesKind : Edition → ℕ → ℕ → Type 0
TakesKind edition size kind = HasKind edition kind → Takes (fields_at edition size kind) (fields_form edition) (OfKind edition kind)

two_alone : (edition : Edition) (kind : ℕ) → 29 ≤ kind → HasKind edition kind → IsTwo edition
two_alone One kind late has = absurd (omega arith)
two_alone Two kind late has = tt

kind_append : (edition : Edition) (size : ℕ) → TakesKind edition size 1
unfolding fields_at
kind_append edition size has = takes_three (λ view id bytes. Append view id bytes) (fields_form edition) (OfKind edition 1) (takes_counted size) (takes_id size) (takes_optional edition size) (λ view id bytes. refl) (λ view id bytes p q r. ((p, q, r), refl))

kind_append_ack : (edition : Edition) (size : ℕ) → TakesKind edition size 2
unfolding fields_at
kind_append_ack edition size has = takes_two (λ view id. AppendAck view id) (fields_form edition) (OfKind edition 2) (takes_counted size) (takes_id size) (λ view id. refl) (λ view id p q. ((p, q), refl))

kind_put : (edition : Edition) (size : ℕ) → TakesKind edition size 3
unfolding fields_at
kind_put edition size has = takes_two (λ id bytes. Put id bytes) (fields_form edition) (OfKind edition 3) (takes_id size) (takes_bytes edition) (λ id bytes. refl) (λ id bytes p q. ((p, q), refl))

kind_data_ack : (edition : Edition) (size : ℕ) → TakesKind edition size 4
unfolding fields_at
kind_data_ack edition size has = takes_two (λ view id. DataAck view id) (fields_form edition) (OfKind edition 4) (takes_counted size) (takes_id size) (λ view id. refl) (λ view id p q. ((p, q), refl))

kind_rejected : (edition : Edition) (size : ℕ) → TakesKind edition size 5
unfolding fields_at
kind_rejected edition size has = takes_two (λ id place. Rejected id place) (fields_form edition) (OfKind edition 5) (takes_id size) takes_word (λ id place. refl) (λ id place p q. ((p, q), refl))

kind_place : (edition : Edition) (size : ℕ) → TakesKind edition size 6
unfolding fields_at
kind_place edition size has = takes_three (λ view from items. Place view from items) (fields_form edition) (OfKind edition 6) (takes_counted size) takes_word (takes_list BATCH_LIMIT (takes_item edition size)) (λ view from items. refl) (λ view from items p q r. ((p, q, r), refl))

kind_placed : (edition : Edition) (size : ℕ) → TakesKind edition size 7
unfolding fields_at
kind_placed edition size has = takes_two (λ view upto. Placed view upto) (fields_form edition) (OfKind edition 7) (takes_counted size) takes_word (λ view upto. refl) (λ view upto p q. ((p, q), refl))

kind_copy : (edition : Edition) (size : ℕ) → TakesKind edition size 8
unfolding fields_at
kind_copy edition size has = takes_three (λ view from cells. Copy view from cells) (fields_form edition) (OfKind edition 8) (takes_counted size) takes_word (takes_list BATCH_LIMIT (takes_cell edition size)) (λ view from cells. refl) (λ view from cells p q r. ((p, q, r), refl))

kind_copied : (edition : Edition) (size : ℕ) → TakesKind edition size 9
unfolding fields_at
kind_copied edition size has = takes_two (λ view upto. Copied view upto) (fields_form edition) (OfKind edition 9) (takes_counted size) takes_word (λ view upto. refl) (λ view upto p q. ((p, q), refl))

kind_order : (edition : Edition) (size : ℕ) → TakesKind edition size 10
unfolding fields_at
kind_order edition size has = takes_three (λ view from ids. Order view from ids) (fields_form edition) (OfKind edition 10) (takes_counted size) takes_word (takes_list BATCH_LIMIT (takes_id size)) (λ view from ids. refl) (λ view from ids p q r. ((p, q, r), refl))

kind_ordered : (edition : Edition) (size : ℕ) → TakesKind edition size 11
unfolding fields_at
kind_ordered edition size has = takes_two (λ view upto. Ordered view upto) (fields_form edition) (OfKind edition 11) (takes_counted size) takes_word (λ view upto. refl) (λ view upto p q. ((p, q), refl))

kind_stable : (edition : Edition) (size : ℕ) → TakesKind edition size 12
unfolding fields_at
kind_stable edition size has = takes_two (λ view upto. Stable view upto) (fields_form edition) (OfKind edition 12) (takes_counted size) takes_word (λ view upto. refl) (λ view upto p q. ((p, q), refl))

kind_probe : (edition : Edition) (size : ℕ) → TakesKind edition size 13
unfolding fields_at
kind_probe edition size has = takes_two (λ view read. Probe view read) (fields_form edition) (OfKind edition 13) (takes_counted size) (takes_counted size) (λ view read. refl) (λ view read p q. ((p, q), refl))

kind_probe_ack : (edition : Edition) (size : ℕ) → TakesKind edition size 14
unfolding fields_at
kind_probe_ack edition size has = takes_two (λ view read. ProbeAck view read) (fields_form edition) (OfKind edition 14) (takes_counted size) (takes_counted size) (λ view read. refl) (λ view read p q. ((p, q), refl))

kind_tail_ready : (edition : Edition) (size : ℕ) → TakesKind edition size 15
unfolding fields_at
kind_tail_ready edition size has = takes_three (λ view read tail. TailReady view read tail) (fields_form edition) (OfKind edition 15) (takes_counted size) (takes_counted size) takes_word (λ view read tail. refl) (λ view read tail p q r. ((p, q, r), refl))

kind_fetch : (edition : Edition) (size : ℕ) → TakesKind edition size 16
unfolding fields_at
kind_fetch edition size has = takes_three (λ read from to. Fetch read from to) (fields_form edition) (OfKind edition 16) (takes_counted size) takes_word takes_word (λ read from to. refl) (λ read from to p q r. ((p, q, r), refl))

kind_part : (edition : Edition) (size : ℕ) → TakesKind edition size 17
unfolding fields_at
kind_part edition size has = takes_four (λ read from end entries. Part read from end entries) (fields_form edition) (OfKind edition 17) (takes_counted size) takes_word takes_word (takes_list READ_LIMIT (takes_placed edition size)) (λ read from end entries. refl) (λ read from end entries p q r s. ((p, q, r, s), refl))

kind_flush : (edition : Edition) (size : ℕ) → TakesKind edition size 18
unfolding fields_at
kind_flush edition size has = takes_three (λ config from items. Flush config from items) (fields_form edition) (OfKind edition 18) (takes_config size) takes_word (takes_list PENDING_LIMIT (takes_item edition size)) (λ config from items. refl) (λ config from items p q r. ((p, q, r), refl))

kind_flush_copy : (edition : Edition) (size : ℕ) → TakesKind edition size 19
unfolding fields_at
kind_flush_copy edition size has = takes_three (λ view from cells. FlushCopy view from cells) (fields_form edition) (OfKind edition 19) (takes_counted size) takes_word (takes_list PENDING_LIMIT (takes_cell edition size)) (λ view from cells. refl) (λ view from cells p q r. ((p, q, r), refl))

kind_flushed : (edition : Edition) (size : ℕ) → TakesKind edition size 20
unfolding fields_at
kind_flushed edition size has = takes_one (λ view. Flushed view) (fields_form edition) (OfKind edition 20) (takes_counted size) (λ view. refl) (λ view p. (p, refl))

kind_seal : (edition : Edition) (size : ℕ) → TakesKind edition size 21
unfolding fields_at
kind_seal edition size has = takes_one (λ view. Seal view) (fields_form edition) (OfKind edition 21) (takes_counted size) (λ view. refl) (λ view p. (p, refl))

kind_sealed : (edition : Edition) (size : ℕ) → TakesKind edition size 22
unfolding fields_at
kind_sealed edition size has = takes_four (λ view bound window items. Sealed view bound window items) (fields_form edition) (OfKind edition 22) (takes_counted size) takes_word (takes_window edition size) (takes_list PENDING_LIMIT (takes_item edition size)) (λ view bound window items. refl) (λ view bound window items p q r s. ((p, q, r, s), refl))

kind_sealed_empty : (edition : Edition) (size : ℕ) → TakesKind edition size 23
unfolding fields_at
kind_sealed_empty edition size has = takes_one (λ view. SealedEmpty view) (fields_form edition) (OfKind edition 23) (takes_counted size) (λ view. refl) (λ view p. (p, refl))

kind_new_view : (edition : Edition) (size : ℕ) → TakesKind edition size 24
unfolding fields_at
kind_new_view edition size has = takes_three (λ config base window. NewView config base window) (fields_form edition) (OfKind edition 24) (takes_config size) takes_word (takes_window edition size) (λ config base window. refl) (λ config base window p q r. ((p, q, r), refl))

kind_started : (edition : Edition) (size : ℕ) → TakesKind edition size 25
unfolding fields_at
kind_started edition size has = takes_one (λ view. Started view) (fields_form edition) (OfKind edition 25) (takes_counted size) (λ view. refl) (λ view p. (p, refl))

kind_ask_view : (edition : Edition) (size : ℕ) → TakesKind edition size 26
unfolding fields_at
kind_ask_view edition size has = behind_none (behind_done AskView refl (tt, refl))

kind_view_is : (edition : Edition) (size : ℕ) → TakesKind edition size 27
unfolding fields_at
kind_view_is edition size has = takes_one (λ config. ViewIs config) (fields_form edition) (OfKind edition 27) (takes_config size) (λ config. refl) (λ config p. (p, refl))

kind_claim : (edition : Edition) (size : ℕ) → TakesKind edition size 28
unfolding fields_at
kind_claim edition size has = takes_one (λ stable. Claim stable) (fields_form edition) (OfKind edition 28) takes_word (λ stable. refl) (λ stable p. (p, refl))

kind_trim : (edition : Edition) (size : ℕ) → TakesKind edition size 29
unfolding fields_at
kind_trim edition size has = takes_two (λ read floor. Trim read floor) (fields_form edition) (OfKind edition 29) (takes_counted size) takes_word (λ read floor. refl) (λ read floor p q. ((two_alone edition 29 (lit≤ tt) has, p, q), refl))

kind_trim_ack : (edition : Edition) (size : ℕ) → TakesKind edition size 30
unfolding fields_at
kind_trim_ack edition size has = takes_one (λ read. TrimAck read) (fields_form edition) (OfKind edition 30) (takes_counted size) (λ read. refl) (λ read p. ((two_alone edition 30 (lit≤ tt) has, p), refl))

kind_trimmed_at : (edition : Edition) (size : ℕ) → TakesKind edition size 31
unfolding fields_at
kind_trimmed_at edition size has = takes_two (λ read floor. TrimmedAt read floor) (fields_form edition) (OfKind edition 31) (takes_counted size) takes_word (λ read floor. refl) (λ read floor p q. ((two_alone edition 31 (lit≤ tt) has, p, q), refl))

-- P of so many numbers from the first on
abbrev EachFrom : (ℕ → Type 0) → ℕ → ℕ → Type 0
EachFrom P first zero = Unit {0}
EachFrom P first (suc count) = P first × EachFrom P (first + 1) count

each_at : (P : ℕ → Type 0) (first count n : ℕ) → EachFrom P first count → first ≤ n → n < first + count → P n
each_at P first zero n each least most = absurd (omega arith)
each_at P first (suc count) n each least most =
    elim (cases_eq first n) [
      | inl here ↦ subst P here each.0
      | inr later ↦ each_at P (first + 1) count n each.1 (omega (arith, later)) (omega arith)
    ]

at_most : (edition : Edition) (kind : ℕ) → kind ≤ last_kind edition → kind ≤ 31
at_most One kind has = omega arith
at_most Two kind has = has

takes_fields : (edition : Edition) (size kind : ℕ) → 1 ≤ kind → kind ≤ last_kind edition → Takes (fields_at edition size kind) (fields_form edition) (OfKind edition kind)
takes_fields edition size kind least has =
    let most : kind ≤ 31 = at_most edition kind has in
    each_at (TakesKind edition size) 1 31 kind
    (kind_append edition size, (kind_append_ack edition size, (kind_put edition size, (kind_data_ack edition size, (kind_rejected edition size, (kind_place edition size, (kind_placed edition size, (kind_copy edition size, (kind_copied edition size, (kind_order edition size, (kind_ordered edition size, (kind_stable edition size, (kind_probe edition size, (kind_probe_ack edition size, (kind_tail_ready edition size, (kind_fetch edition size, (kind_part edition size, (kind_flush edition size, (kind_flush_copy edition size, (kind_flushed edition size, (kind_seal edition size, (kind_sealed edition size, (kind_sealed_empty edition size, (kind_new_view edition size, (kind_started edition size, (kind_ask_view edition size, (kind_view_is edition size, (kind_claim edition size, (kind_trim edition size, (kind_trim_ack edition size, (kind_trimmed_at edition size, tt)))))))))))))))))))))))))))))))
    least (omega arith) has

known : {A : Type 0} (b : Bool) (offence : FrameError) (x y : A × List ℕ) → (if b then done x.0 x.1 else Err offence) ≡ done y.0 y.1 → (b ≡ true) × (x ≡ y)
known true offence x y is = (refl, cc)
known false offence x y is = absurd cc

kind_found : (edition : Edition) (bytes : List ℕ) (kind : ℕ) (rest : List ℕ) → IsBytes bytes → kind_at edition bytes ≡ Ok (kind, rest) → Found (λ n. n ∷ []) (λ n. (1 ≤ n) × (n ≤ last_kind edition)) bytes kind rest
unfolding kind_at
kind_found edition [] kind rest are is = absurd cc
kind_found edition (byte ∷ behind) kind rest are is =
    let passed = known (nat_le 1 byte && nat_le byte (last_kind edition)) (Kind byte) (byte, behind) (kind, rest) is in
    let tests = both_true (nat_le 1 byte) (nat_le byte (last_kind edition)) passed.0 in
    subst (λ (x : ℕ × List ℕ). Found (λ n. n ∷ []) (λ n. (1 ≤ n) × (n ≤ last_kind edition)) (byte ∷ behind) x.0 x.1) passed.1
    (record { front = record { parts = refl; are = λ i. are (suc i) }; fits = (leb-true 1 byte tests.0, leb-true byte (last_kind edition) tests.1) })

takes_kind : (edition : Edition) → Takes (kind_at edition) (λ n. n ∷ []) (λ n. (1 ≤ n) × (n ≤ last_kind edition))
takes_kind edition = record { found = kind_found edition }

-- which of three a value is that was taken
picked : {A : Type 0} (b c : Bool) (offence : FrameError) (x y z : A × List ℕ) → (if b then done x.0 x.1 else (if c then done y.0 y.1 else Err offence)) ≡ done z.0 z.1 → ((b ≡ true) × (x ≡ z)) ⊎ ((c ≡ true) × (y ≡ z))
picked true c offence x y z is = inl (refl, cc)
picked false true offence x y z is = inr (refl, cc)
picked false false offence x y z is = absurd cc

edition_found : (bytes : List ℕ) (edition : Edition) (rest : List ℕ) → IsBytes bytes → edition_at bytes ≡ Ok (edition, rest) → Found (λ e. version_of e ∷ []) (λ e. Unit {0}) bytes edition rest
unfolding edition_at
edition_found [] edition rest are is = absurd cc
edition_found (byte ∷ behind) edition rest are is =
    elim (picked (byte == 1) (byte == 2) (Field 0) (One, behind) (Two, behind) (edition, rest) is) [
      | inl one ↦ subst (λ (x : Edition × List ℕ). Found (λ e. version_of e ∷ []) (λ e. Unit {0}) (byte ∷ behind) x.0 x.1) one.1
          (record { front = record { parts = ap (λ (b : ℕ). b ∷ behind) (eqb-true byte 1 one.0); are = λ i. are (suc i) }; fits = tt })
      | inr two ↦ subst (λ (x : Edition × List ℕ). Found (λ e. version_of e ∷ []) (λ e. Unit {0}) (byte ∷ behind) x.0 x.1) two.1
          (record { front = record { parts = ap (λ (b : ℕ). b ∷ behind) (eqb-true byte 2 two.0); are = λ i. are (suc i) }; fits = tt })
    ]

takes_edition : Takes edition_at (λ e. version_of e ∷ []) (λ e. Unit {0})
takes_edition = record { found = edition_found }

-- what stands behind the version's byte
abbrev behind_version : Edition → Envelope → List ℕ
behind_version edition env = kind_of env.msg ∷ two env.from ++ two env.to ++ eight env.time ++ fields_form edition env.msg

abbrev behind_kind : Edition → Envelope → List ℕ
behind_kind edition env = two env.from ++ two env.to ++ eight env.time ++ fields_form edition env.msg

takes_behind_kind : (edition : Edition) (size kind : ℕ) → 1 ≤ kind → kind ≤ last_kind edition
    → Takes (four_fields (node_at size) (addressee_at size) (time_at size) (fields_at edition size kind) (λ from to time msg. record { from = from; to = to; time = time; msg = msg })) (behind_kind edition) (λ env. Fits edition env × (kind_of env.msg ≡ kind))
takes_behind_kind edition size kind least has =
    takes_four (λ from to time msg. record { from = from; to = to; time = time; msg = msg }) (behind_kind edition) (λ env. Fits edition env × (kind_of env.msg ≡ kind))
    (takes_node size) (takes_addressee size) (takes_time size) (takes_fields edition size kind least has) (λ from to time msg. refl)
    (λ from to time msg p q r s. (record { from = p; to = q; time = r; message = s.0 }, s.1))

takes_envelope : (edition : Edition) (size : ℕ) → Takes (envelope_at size edition) (behind_version edition) (Fits edition)
unfolding envelope_at
takes_envelope edition size =
    behind_none (behind_then (λ kind. four_fields (node_at size) (addressee_at size) (time_at size) (fields_at edition size kind) (λ from to time msg. record { from = from; to = to; time = time; msg = msg })) (behind_version edition) (Fits edition) (takes_kind edition) (λ kind fits.
    behind_same (takes_behind_kind edition size kind fits.0 fits.1) (λ env found. ap (λ (k : ℕ). k ∷ behind_kind edition env) found.1) (λ env found. found.0)))

takes_frame : (size : ℕ) → Takes (frame_at size) (λ found. frame found.0 found.1) (λ found. Fits found.0 found.1)
unfolding frame_at
takes_frame size =
    behind_none (behind_then (λ edition. envelope_at size edition >>= λ env. done (edition, env)) (λ found. frame found.0 found.1) (λ found. Fits found.0 found.1) takes_edition (λ edition fits.
    behind_one (λ env. (edition, env)) (λ found. frame found.0 found.1) (λ found. Fits found.0 found.1) (takes_envelope edition size) (λ env fits. refl) (λ env fits. fits)))

-- ---- all of the bytes

nothing_left : (size : ℕ) (read : Taken (Edition × Envelope)) (value : Edition × Envelope) → ended size read ≡ Ok value → read ≡ Ok (value, [])
nothing_left size (Ok (found, [])) value is = cc
nothing_left size (Ok (found, byte ∷ more)) value is = absurd cc
nothing_left size (Err offence) value is = absurd cc

pub whole_found : (bytes : List ℕ) (found : Edition × Envelope) → IsBytes bytes → whole_at bytes ≡ Ok found → Fits found.0 found.1 × (bytes ≡ frame found.0 found.1)
unfolding whole_at
whole_found bytes found are is =
    let all = (takes_frame (length bytes)).found bytes found [] are (nothing_left (length bytes) (frame_at (length bytes) bytes) found is) in
    (all.fits, all.front.parts ∙ append-nil (frame found.0 found.1))

pub whole_again : (edition : Edition) (env : Envelope) → Fits edition env → whole_at (frame edition env) ≡ Ok (edition, env)
unfolding whole_at
whole_again edition env fits =
    let bytes = frame edition env in
    let read : frame_at (length bytes) bytes ≡ Ok ((edition, env), []) = ap (frame_at (length bytes)) (sym (append-nil bytes)) ∙ (reads_frame edition (length bytes) env fits).again [] in
    rw read refl

pub is_form : (bytes : List ℕ) (result : Result (Edition × Envelope) FrameError) → IsBytes bytes → IfOk result (λ found. whole_at bytes ≡ Ok found)
    → IfOk result (λ found. Fits found.0 found.1 × (bytes ≡ frame found.0 found.1))
is_form bytes (Ok found) are is = whole_found bytes found are is
is_form bytes (Err offence) are is = tt

not_both : (read : Result (Edition × Envelope) FrameError) (offence : FrameError) (found : Edition × Envelope) → read ≡ Err offence → read ≡ Ok found → ⊥
not_both read offence found refused is = cc

pub is_no_form : (bytes : List ℕ) (result : Result (Edition × Envelope) FrameError) → IfErr result (λ offence. offence ≢ Memory → whole_at bytes ≡ Err offence)
    → IfErr result (λ offence. offence ≢ Memory → (edition : Edition) (env : Envelope) → Fits edition env → bytes ≢ frame edition env)
is_no_form bytes (Ok found) is = tt
is_no_form bytes (Err offence) is = λ other edition env fits same.
    let found : whole_at bytes ≡ Ok (edition, env) = ap whole_at same ∙ whole_again edition env fits in
    let refused = is other in
    not_both (whole_at bytes) offence (edition, env) refused found

-- the bytes are one envelope's form alone
pub is_same : (bytes : List ℕ) (result : Result (Edition × Envelope) FrameError) (edition : Edition) (env : Envelope) → Fits edition env → bytes ≡ frame edition env
    → IfOk result (λ found. Fits found.0 found.1 × (bytes ≡ frame found.0 found.1)) → IfOk result (λ found. found ≡ (edition, env))
is_same bytes (Ok found) edition env fits is form =
    let alone = frame_alone edition found.0 env found.1 [] fits form.0 (sym form.1 ∙ is ∙ sym (append-nil (frame edition env))) in
    rw (alone.1, alone.2) refl
is_same bytes (Err offence) edition env fits is form = tt
