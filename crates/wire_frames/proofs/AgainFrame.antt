-- A frame is read again as its envelope, so no two envelopes have one frame, and none begins another.
use Rattle.std.proofs.Common.{◌≡◌, ℕ, ◌≤◌, true, List, [], ◌∷◌, ◌++◌, Ok, refl, sym, ap, ◌∙◌, lit≤}
use Rattle.std.specs.Prelude.{nat_le, ◌&&◌}
use Rattle.std.proofs.lemmas.List.{append-nil}
use Rattle.rec_id.specs.Identity.{IsIdentity}
use Rattle.rec_id.specs.declared.item.Item.{Item}
use Rattle.rec_id.specs.declared.item.Cell.{Cell}
use Rattle.view_config.specs.declared.edition.Edition.{Edition}
use Rattle.view_config.specs.declared.edition.Edition.TheVariants.{One, Two}
use Rattle.lazy_msgs.specs.declared.msg.Envelope.{Envelope}
use Rattle.lazy_msgs.specs.declared.msg.Msg.{Msg}
use Rattle.lazy_msgs.specs.declared.msg.Msg.TheVariants.{Append, AppendAck, Put, DataAck, Rejected, Place, Placed, Copy, Copied, Order, Ordered, Stable, Probe, ProbeAck, TailReady, Fetch, Part, Flush, FlushCopy, Flushed, Seal, Sealed, SealedEmpty, NewView, Started, AskView, ViewIs, Claim, Trim, TrimAck, TrimmedAt}
use Rattle.lazy_msgs.specs.Frame.{two, eight, list_form, id_form, item_form, cell_form, placed_form, version_of, kind_of, fields_form, frame}
use Rattle.lazy_msgs.specs.FrameLimits.{ListFits, ItemFits, CellFits, PlacedFits, MessageFits, Fits}
use Rattle.wire_frames.specs.Laws.{OneForm}
use Rattle.wire_frames.specs.Readers.{Taken, ◌>>=◌, done, node_at, addressee_at, time_at, id_at, item_at, cell_at, placed_at, list_at, fields_at, edition_at, kind_at, last_kind, envelope_at, frame_at, four_fields}
use Rattle.wire_frames.proofs.Again.{Reads, reads_then, reads_done, reads_four, reads_counted, reads_node, reads_addressee, reads_time, reads_one, reads_two_fields, reads_three_fields, reads_four_fields}
use Rattle.wire_frames.proofs.AgainFields.{reads_id, reads_bytes, reads_optional, reads_item, reads_cell, reads_placed, reads_list, reads_config, reads_window}
use Rattle.lazy_msgs.specs.declared.limits.TheConstants.{BATCH_LIMIT, PENDING_LIMIT}
use Rattle.rec_id.specs.declared.limits.TheConstants.{READ_LIMIT}

reads_items : (edition : Edition) (size limit : ℕ) (items : List Item) → limit ≤ PENDING_LIMIT → ListFits limit (ItemFits edition) items → Reads (list_at limit (item_at edition size)) (list_form (item_form edition) items) items
reads_items edition size limit items small fits = reads_list limit (item_at edition size) (item_form edition) (ItemFits edition) small (reads_item edition size) items fits

reads_cells : (edition : Edition) (size limit : ℕ) (cells : List Cell) → limit ≤ PENDING_LIMIT → ListFits limit (CellFits edition) cells → Reads (list_at limit (cell_at edition size)) (list_form (cell_form edition) cells) cells
reads_cells edition size limit cells small fits = reads_list limit (cell_at edition size) (cell_form edition) (CellFits edition) small (reads_cell edition size) cells fits

reads_fields : (edition : Edition) (size : ℕ) (msg : Msg) → MessageFits edition msg → Reads (fields_at edition size (kind_of msg)) (fields_form edition msg) msg
unfolding fields_at
reads_fields edition size (Append view id bytes) fits = reads_three_fields (λ view id bytes. Append view id bytes) (reads_counted size view fits.0) (reads_id size id fits.1) (reads_optional edition size bytes fits.2)
reads_fields edition size (AppendAck view id) fits = reads_two_fields (λ view id. AppendAck view id) (reads_counted size view fits.0) (reads_id size id fits.1)
reads_fields edition size (Put id bytes) fits = reads_two_fields (λ id bytes. Put id bytes) (reads_id size id fits.0) (reads_bytes edition bytes fits.1)
reads_fields edition size (DataAck view id) fits = reads_two_fields (λ view id. DataAck view id) (reads_counted size view fits.0) (reads_id size id fits.1)
reads_fields edition size (Rejected id place) fits = reads_two_fields (λ id place. Rejected id place) (reads_id size id fits.0) (reads_four place fits.1)
reads_fields edition size (Place view from items) fits = reads_three_fields (λ view from items. Place view from items) (reads_counted size view fits.0) (reads_four from fits.1) (reads_items edition size BATCH_LIMIT items (lit≤ tt) fits.2)
reads_fields edition size (Placed view upto) fits = reads_two_fields (λ view upto. Placed view upto) (reads_counted size view fits.0) (reads_four upto fits.1)
reads_fields edition size (Copy view from cells) fits = reads_three_fields (λ view from cells. Copy view from cells) (reads_counted size view fits.0) (reads_four from fits.1) (reads_cells edition size BATCH_LIMIT cells (lit≤ tt) fits.2)
reads_fields edition size (Copied view upto) fits = reads_two_fields (λ view upto. Copied view upto) (reads_counted size view fits.0) (reads_four upto fits.1)
reads_fields edition size (Order view from ids) fits = reads_three_fields (λ view from ids. Order view from ids) (reads_counted size view fits.0) (reads_four from fits.1) (reads_list BATCH_LIMIT (id_at size) id_form IsIdentity (lit≤ tt) (reads_id size) ids fits.2)
reads_fields edition size (Ordered view upto) fits = reads_two_fields (λ view upto. Ordered view upto) (reads_counted size view fits.0) (reads_four upto fits.1)
reads_fields edition size (Stable view upto) fits = reads_two_fields (λ view upto. Stable view upto) (reads_counted size view fits.0) (reads_four upto fits.1)
reads_fields edition size (Probe view read) fits = reads_two_fields (λ view read. Probe view read) (reads_counted size view fits.0) (reads_counted size read fits.1)
reads_fields edition size (ProbeAck view read) fits = reads_two_fields (λ view read. ProbeAck view read) (reads_counted size view fits.0) (reads_counted size read fits.1)
reads_fields edition size (TailReady view read tail) fits = reads_three_fields (λ view read tail. TailReady view read tail) (reads_counted size view fits.0) (reads_counted size read fits.1) (reads_four tail fits.2)
reads_fields edition size (Fetch read from to) fits = reads_three_fields (λ read from to. Fetch read from to) (reads_counted size read fits.0) (reads_four from fits.1) (reads_four to fits.2)
reads_fields edition size (Part read from end entries) fits = reads_four_fields (λ read from end entries. Part read from end entries) (reads_counted size read fits.0) (reads_four from fits.1) (reads_four end fits.2) (reads_list READ_LIMIT (placed_at edition size) (placed_form edition) (PlacedFits edition) (lit≤ tt) (reads_placed edition size) entries fits.3)
reads_fields edition size (Flush config from items) fits = reads_three_fields (λ config from items. Flush config from items) (reads_config size config fits.0) (reads_four from fits.1) (reads_items edition size PENDING_LIMIT items (lit≤ tt) fits.2)
reads_fields edition size (FlushCopy view from cells) fits = reads_three_fields (λ view from cells. FlushCopy view from cells) (reads_counted size view fits.0) (reads_four from fits.1) (reads_cells edition size PENDING_LIMIT cells (lit≤ tt) fits.2)
reads_fields edition size (Flushed view) fits = reads_one (λ view. Flushed view) (reads_counted size view fits)
reads_fields edition size (Seal view) fits = reads_one (λ view. Seal view) (reads_counted size view fits)
reads_fields edition size (Sealed view bound window items) fits = reads_four_fields (λ view bound window items. Sealed view bound window items) (reads_counted size view fits.0) (reads_four bound fits.1) (reads_window edition size window fits.2) (reads_items edition size PENDING_LIMIT items (lit≤ tt) fits.3)
reads_fields edition size (SealedEmpty view) fits = reads_one (λ view. SealedEmpty view) (reads_counted size view fits)
reads_fields edition size (NewView config base window) fits = reads_three_fields (λ config base window. NewView config base window) (reads_config size config fits.0) (reads_four base fits.1) (reads_window edition size window fits.2)
reads_fields edition size (Started view) fits = reads_one (λ view. Started view) (reads_counted size view fits)
reads_fields edition size AskView fits = reads_done AskView
reads_fields edition size (ViewIs config) fits = reads_one (λ config. ViewIs config) (reads_config size config fits)
reads_fields edition size (Claim stable) fits = reads_one (λ stable. Claim stable) (reads_four stable fits)
reads_fields edition size (Trim read floor) fits = reads_two_fields (λ read floor. Trim read floor) (reads_counted size read fits.1) (reads_four floor fits.2)
reads_fields edition size (TrimAck read) fits = reads_one (λ read. TrimAck read) (reads_counted size read fits.1)
reads_fields edition size (TrimmedAt read floor) fits = reads_two_fields (λ read floor. TrimmedAt read floor) (reads_counted size read fits.1) (reads_four floor fits.2)

-- a kind that fits is one of its edition
kind_two : (msg : Msg) → (nat_le 1 (kind_of msg) && nat_le (kind_of msg) 31) ≡ true
kind_two (Append view id bytes) = refl
kind_two (AppendAck view id) = refl
kind_two (Put id bytes) = refl
kind_two (DataAck view id) = refl
kind_two (Rejected id place) = refl
kind_two (Place view from items) = refl
kind_two (Placed view upto) = refl
kind_two (Copy view from cells) = refl
kind_two (Copied view upto) = refl
kind_two (Order view from ids) = refl
kind_two (Ordered view upto) = refl
kind_two (Stable view upto) = refl
kind_two (Probe view read) = refl
kind_two (ProbeAck view read) = refl
kind_two (TailReady view read tail) = refl
kind_two (Fetch read from to) = refl
kind_two (Part read from end entries) = refl
kind_two (Flush config from items) = refl
kind_two (FlushCopy view from cells) = refl
kind_two (Flushed view) = refl
kind_two (Seal view) = refl
kind_two (Sealed view bound window items) = refl
kind_two (SealedEmpty view) = refl
kind_two (NewView config base window) = refl
kind_two (Started view) = refl
kind_two AskView = refl
kind_two (ViewIs config) = refl
kind_two (Claim stable) = refl
kind_two (Trim read floor) = refl
kind_two (TrimAck read) = refl
kind_two (TrimmedAt read floor) = refl

kind_one : (msg : Msg) → MessageFits One msg → (nat_le 1 (kind_of msg) && nat_le (kind_of msg) 28) ≡ true
kind_one (Append view id bytes) fits = refl
kind_one (AppendAck view id) fits = refl
kind_one (Put id bytes) fits = refl
kind_one (DataAck view id) fits = refl
kind_one (Rejected id place) fits = refl
kind_one (Place view from items) fits = refl
kind_one (Placed view upto) fits = refl
kind_one (Copy view from cells) fits = refl
kind_one (Copied view upto) fits = refl
kind_one (Order view from ids) fits = refl
kind_one (Ordered view upto) fits = refl
kind_one (Stable view upto) fits = refl
kind_one (Probe view read) fits = refl
kind_one (ProbeAck view read) fits = refl
kind_one (TailReady view read tail) fits = refl
kind_one (Fetch read from to) fits = refl
kind_one (Part read from end entries) fits = refl
kind_one (Flush config from items) fits = refl
kind_one (FlushCopy view from cells) fits = refl
kind_one (Flushed view) fits = refl
kind_one (Seal view) fits = refl
kind_one (Sealed view bound window items) fits = refl
kind_one (SealedEmpty view) fits = refl
kind_one (NewView config base window) fits = refl
kind_one (Started view) fits = refl
kind_one AskView fits = refl
kind_one (ViewIs config) fits = refl
kind_one (Claim stable) fits = refl
kind_one (Trim read floor) fits = absurd fits.0
kind_one (TrimAck read) fits = absurd fits.0
kind_one (TrimmedAt read floor) fits = absurd fits.0

kind_true : (edition : Edition) (msg : Msg) → MessageFits edition msg → (nat_le 1 (kind_of msg) && nat_le (kind_of msg) (last_kind edition)) ≡ true
kind_true Two msg fits = kind_two msg
kind_true One msg fits = kind_one msg fits

reads_kind : (edition : Edition) (msg : Msg) → MessageFits edition msg → Reads (kind_at edition) (kind_of msg ∷ []) (kind_of msg)
unfolding kind_at
reads_kind edition msg fits = record { again = λ rest. rw (kind_true edition msg fits) refl }

reads_edition : (edition : Edition) → Reads edition_at (version_of edition ∷ []) edition
unfolding edition_at
reads_edition One = record { again = λ rest. refl }
reads_edition Two = record { again = λ rest. refl }

-- what stands behind the version's byte
behind_version : Edition → Envelope → List ℕ
behind_version edition env = kind_of env.msg ∷ two env.from ++ two env.to ++ eight env.time ++ fields_form edition env.msg

reads_envelope : (edition : Edition) (size : ℕ) (env : Envelope) → Fits edition env → Reads (envelope_at size edition) (behind_version edition env) env
unfolding envelope_at behind_version
reads_envelope edition size env fits =
    reads_then (kind_at edition) (λ kind. four_fields (node_at size) (addressee_at size) (time_at size) (fields_at edition size kind) (λ from to time msg. record { from = from; to = to; time = time; msg = msg }))
    (kind_of env.msg ∷ []) (two env.from ++ two env.to ++ eight env.time ++ fields_form edition env.msg) (kind_of env.msg) env (reads_kind edition env.msg fits.message)
    (reads_four_fields (λ from to time msg. record { from = from; to = to; time = time; msg = msg })
    (reads_node size env.from fits.from) (reads_addressee size env.to fits.to) (reads_time size env.time fits.time) (reads_fields edition size env.msg fits.message))

pub reads_frame : (edition : Edition) (size : ℕ) (env : Envelope) → Fits edition env → Reads (frame_at size) (frame edition env) (edition, env)
unfolding frame_at behind_version
reads_frame edition size env fits =
    reads_then edition_at (λ found. envelope_at size found >>= λ env. done (found, env)) (version_of edition ∷ []) (behind_version edition env) edition (edition, env)
    (reads_edition edition) (reads_one (λ env. (edition, env)) (reads_envelope edition size env fits))

abbrev taken : (Edition × Envelope) × List ℕ → Taken (Edition × Envelope)
taken x = Ok x

taken_is : (x y : (Edition × Envelope) × List ℕ) → taken x ≡ taken y → x ≡ y
taken_is x y same = cc

pub frame_alone : OneForm
frame_alone first second a b more fits_a fits_b same =
    let longer : frame_at 0 (frame second b) ≡ done (first, a) more = ap (frame_at 0) same ∙ (reads_frame first 0 a fits_a).again more in
    let whole : frame_at 0 (frame second b) ≡ done (second, b) [] = ap (frame_at 0) (sym (append-nil (frame second b))) ∙ (reads_frame second 0 b fits_b).again [] in
    let found = taken_is ((second, b), []) ((first, a), more) (sym whole ∙ longer) in
    (sym (ap (λ (x : (Edition × Envelope) × List ℕ). x.1) found), ap (λ (x : (Edition × Envelope) × List ℕ). x.0.0) found, ap (λ (x : (Edition × Envelope) × List ℕ). x.0.1) found)
