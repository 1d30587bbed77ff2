-- What is printed of a script is made of whole texts, and bytes of whole texts are parted into them again.
use Rattle.std.proofs.Common.{◌≡◌, ℕ, List, [], ◌∷◌, ◌++◌, map, Bool, true, false, not, Option, Some, None, refl, sym, ap, ◌∙◌, subst, append_assoc, append-nil}
use Rattle.std.specs.Prelude.{◌==◌, filter, if◌then◌else◌, length, Result, Ok, Err, codes, decimal}
use Rattle.std.proofs.lemmas.Bool.{and_parts}
use Rattle.std.proofs.lemmas.Grind.{flat_map-append}
use Rattle.std.proofs.lemmas.List.Elements.{filter-append}
use Rattle.list_facts.specs.Lists.{In, Each}
use Rattle.list_facts.proofs.Cases.{by_test}
use Rattle.list_facts.proofs.Members.{each_append, each_in, each_left, filter_in, in_each, in_mapped}
use Rattle.rec_id.specs.Identity.{Identity}
use Rattle.rec_id.specs.declared.event.Ask.{Ask}
use Rattle.rec_id.specs.declared.event.Ask.TheVariants.{Range, Tail}
use Rattle.rec_id.specs.declared.entry.Entry.{Entry}
use Rattle.rec_id.specs.declared.event.Event.{Event}
use Rattle.rec_id.specs.declared.event.Event.TheVariants.{Invoke, Acked, Rejected, Begin, Answer, Seen, TrimAsk, TrimDone, Trimmed}
use Rattle.view_config.specs.declared.edition.Edition.{Edition}
use Rattle.view_config.specs.Shape.{Dimensions, IsShape}
use Rattle.log_law.specs.declared.verdict.Verdict.TheVariants.{Lawful}
use Rattle.lazy_msgs.specs.Frame.{frame}
use Rattle.lazy_msgs.specs.declared.refused.EventRefused.TheVariants.{NoMessage}
use Rattle.io_edges.specs.declared.status.Status.{Status}
use Rattle.io_edges.specs.declared.status.Status.TheVariants.{Done, Usage, BadLine, ReadFault, WriteFault, Memory, Limit}
use Rattle.lazy_msgs.specs.declared.input.WorldEvent.{WorldEvent}
use Rattle.lazy_msgs.specs.declared.msg.Envelope.{Envelope}
use Rattle.lazy_msgs.specs.declared.refused.EventRefused.{EventRefused}
use Rattle.lazy_rules.specs.Holders.{holders}
use Rattle.lazy_rules.specs.Lines.{line_told}
use Rattle.lazy_rules.specs.WorldState.{WorldState, first_world}
use Rattle.lazy_rules.specs.WorldRules.{message_at, refusal, run}
use Rattle.trace_script.specs.EntryTexts.{id_text, entry_text, parted, spaced}
use Rattle.trace_script.specs.EventTexts.{answer_text, ask_text, event_text, floor_text, read_text, tail_text}
use Rattle.trace_script.specs.RefusalTexts.{no_node_text, refused_text}
use Rattle.trace_script.specs.LineTexts.{line_text, lost_text, no_holder_text}
use Rattle.trace_script.specs.EndTexts.{bad_line_text, end_text, limit_text, read_fault_text}
use Rattle.trace_script.specs.FrameTexts.{frame_text}
use Rattle.trace_script.specs.VerdictTexts.{lost_verdict_text, verdict_text}
use Rattle.lazylog_trace.specs.declared.action.Asked.{Asked}
use Rattle.lazylog_trace.specs.declared.action.Asked.TheVariants.{Line, Verdict}
use Rattle.lazylog_trace.specs.declared.action.Action.{Action}
use Rattle.lazylog_trace.specs.declared.action.Action.TheVariants.{Nothing, Event as EventAction, NoNode, Deliveries, Holders, Message}
use Rattle.lazylog_trace.specs.Actions.{action_of}
use Rattle.lazylog_trace.specs.Apply.{action_texts, refusal_texts, own_texts}
use Rattle.script_streams.specs.Texts.{printed, with_newline}
use Rattle.lazylog_trace.specs.Shown.{event_texts, frame_shown, holder_said, holder_text, holder_texts}
use Rattle.lazylog_trace.specs.Output.{Progress, closing}
use Rattle.lazylog_trace.specs.Printed.{Prints, is_event_text, texts_from, texts_of}
use Rattle.lazylog_trace.proofs.PlainHistory.{IsClean, history_clean, line_flat}
use Rattle.trace_script.proofs.Newlines.{IsFlat, IsFlatEntry, flat_append, flat_decimal, flat_end, flat_frame, flat_id, flat_line, flat_lost, flat_lost_verdict, flat_no_node, flat_parted, flat_refused, flat_verdict, is_flat}
use Rattle.lazylog_trace.proofs.PlainEvents.{IsPlain}
use Rattle.lazylog_trace.proofs.OwnTexts.{IsOwnText, Made}

-- a text, whose only newline is its last byte
pub record IsWhole (line : List ℕ) : Type 0 where
  pub text : List ℕ
  pub is : line ≡ with_newline text
  pub flat : IsFlat text

whole : (text : List ℕ) → IsFlat text → IsWhole (with_newline text)
whole text flat = record { text = text; is = refl; flat = flat }

-- parting

same_byte : (b : Bool) → not b ≡ true → b ≡ false
same_byte true h = cc
same_byte false h = refl

part_text : (before text rest : List ℕ) → IsFlat text → texts_from before (text ++ 10 ∷ rest) ≡ (before ++ with_newline text) ∷ texts_from [] rest
part_text before [] rest flat = refl
part_text before (byte ∷ text) rest flat =
    let parts = and_parts (not (byte == 10)) (is_flat text) flat in
    ap (λ (b : Bool). if b then (before ++ byte ∷ []) ∷ texts_from [] (text ++ 10 ∷ rest) else texts_from (before ++ byte ∷ []) (text ++ 10 ∷ rest)) (same_byte (byte == 10) parts.0)
    ∙ part_text (before ++ byte ∷ []) text rest parts.1
    ∙ ap (λ (line : List ℕ). line ∷ texts_from [] rest) (append_assoc before (byte ∷ []) (with_newline text))

pub parted_again : (lines : List (List ℕ)) → Each IsWhole lines → texts_of (printed lines) ≡ lines
parted_again [] h = refl
parted_again (line ∷ lines) h =
    let first = h.0 in
    ap (λ (l : List ℕ). texts_of (l ++ printed lines)) first.is
    ∙ ap texts_of (append_assoc first.text (10 ∷ []) (printed lines))
    ∙ part_text [] first.text (printed lines) first.flat
    ∙ ap (λ (l : List ℕ). l ∷ texts_of (printed lines)) (sym first.is)
    ∙ ap (λ (more : List (List ℕ)). line ∷ more) (parted_again lines h.1)

-- events

flat_ask : (ask : Ask) → IsFlat (ask_text ask)
flat_ask (Range from to) = flat_append (decimal from) (codes " to " ++ decimal to) (flat_decimal from) (flat_decimal to)
flat_ask (Tail from) = flat_decimal from

flat_tail : (tail : Option ℕ) → IsFlat (tail_text tail)
flat_tail None = refl
flat_tail (Some t) = flat_decimal t

-- a client's read, with this behind it
flat_read : (client read : ℕ) (rest : List ℕ) → IsFlat rest → IsFlat (read_text client read rest)
flat_read client read rest flat = flat_append (decimal client) (codes " read " ++ (decimal read ++ rest)) (flat_decimal client) (flat_append (decimal read) rest (flat_decimal read) flat)

flat_answer : (client read from : ℕ) (entries : List Entry) (tail : Option ℕ) → Each IsFlatEntry entries → IsFlat (answer_text client read from entries tail)
flat_answer client read from entries tail clean =
    flat_read client read (codes " answered: from " ++ (decimal from ++ (codes ", tail " ++ (tail_text tail ++ (codes ": " ++ parted entry_text entries)))))
    (flat_append (decimal from) (codes ", tail " ++ (tail_text tail ++ (codes ": " ++ parted entry_text entries))) (flat_decimal from)
    (flat_append (tail_text tail) (codes ": " ++ parted entry_text entries) (flat_tail tail) (flat_parted entries clean)))

flat_spaced_ids : (ids : List Identity) → IsFlat (spaced id_text ids)
flat_spaced_ids [] = refl
flat_spaced_ids (id ∷ ids) = flat_append (id_text id) (spaced id_text ids) (flat_id id) (flat_spaced_ids ids)

flat_ids : (ids : List Identity) → IsFlat (parted id_text ids)
flat_ids [] = refl
flat_ids (id ∷ ids) = flat_append (id_text id) (spaced id_text ids) (flat_id id) (flat_spaced_ids ids)

flat_floor : (client : ℕ) (kind : List ℕ) (read : ℕ) (what : List ℕ) (floor : ℕ) → IsFlat kind → IsFlat what → IsFlat (floor_text client kind read what floor)
flat_floor client kind read what floor flat_kind flat_what =
    flat_append (decimal client) (codes " " ++ (kind ++ (codes " " ++ (decimal read ++ (codes " " ++ (what ++ (codes ": below " ++ decimal floor))))))) (flat_decimal client)
    (flat_append kind (codes " " ++ (decimal read ++ (codes " " ++ (what ++ (codes ": below " ++ decimal floor))))) flat_kind
    (flat_append (decimal read) (codes " " ++ (what ++ (codes ": below " ++ decimal floor))) (flat_decimal read)
    (flat_append what (codes ": below " ++ decimal floor) flat_what (flat_decimal floor))))

flat_event : (event : Event) → IsClean event → IsFlat (event_text event)
flat_event (Invoke id bytes) clean = flat_append (id_text id) (codes " invoked") (flat_id id) refl
flat_event (Acked id) clean = flat_append (id_text id) (codes " acked") (flat_id id) refl
flat_event (Rejected id place) clean = flat_append (id_text id) (codes " rejected at " ++ decimal place) (flat_id id) (flat_decimal place)
flat_event (Begin client read ask) clean = flat_read client read (codes " begun: " ++ ask_text ask) (flat_ask ask)
flat_event (Answer client read from entries tail) clean = flat_answer client read from entries tail clean
flat_event (Seen client from ids) clean =
    flat_append (decimal client) (codes " seen " ++ (decimal from ++ (codes ": " ++ parted id_text ids))) (flat_decimal client)
    (flat_append (decimal from) (codes ": " ++ parted id_text ids) (flat_decimal from) (flat_ids ids))
flat_event (TrimAsk client read floor) clean = flat_floor client (codes "trim") read (codes "begun") floor refl refl
flat_event (TrimDone client read floor) clean = flat_floor client (codes "trim") read (codes "done") floor refl refl
flat_event (Trimmed client read floor) clean = flat_floor client (codes "read") read (codes "trimmed") floor refl refl

clean_text : (event : Event) → IsClean event → IsWhole (with_newline (event_text event))
clean_text event clean = whole (event_text event) (flat_event event clean)

-- the texts that commands print of themselves

refusal_are : (refused : Option EventRefused) → Each IsWhole (refusal_texts refused)
refusal_are None = tt
refusal_are (Some refused) = (whole (refused_text refused) (flat_refused refused), tt)

module _ (shape : Dimensions) (formed : IsShape shape) where
  module _ (passed : List WorldEvent) (plain : Each IsPlain passed) where
    abbrev w : WorldState
    w = run passed (first_world shape)

    said_is : (asked : Asked) (holder : ℕ) (told : Result (List Entry) ℕ) → In holder (holders w) → line_told w holder ≡ told → IsWhole (with_newline (holder_said asked holder told))
    said_is Line holder (Ok line) among is = whole (line_text holder line) (flat_line holder line (line_flat shape formed passed plain holder line among is))
    said_is Line holder (Err shard) among is = whole (lost_text holder shard) (flat_lost holder shard)
    said_is Verdict holder (Ok line) among is = whole (verdict_text holder Lawful) (flat_verdict holder Lawful)
    said_is Verdict holder (Err shard) among is = whole (lost_verdict_text holder shard) (flat_lost_verdict holder shard)

    each_is : (asked : Asked) (nodes : List ℕ) → Each (λ holder. In holder (holders w)) nodes → Each IsWhole (map (holder_text w asked) nodes)
    each_is asked [] h = tt
    each_is asked (holder ∷ others) h = (said_is asked holder (line_told w holder) h.0 refl, each_is asked others h.1)

    holders_are : (asked : Asked) (nodes : List ℕ) → Each (λ holder. In holder (holders w)) nodes → Each IsWhole (holder_texts w asked nodes)
    holders_are asked [] h = (whole no_holder_text refl, tt)
    holders_are asked (holder ∷ others) h = each_is asked (holder ∷ others) h

    message_is : (edition : Edition) (number : ℕ) (message : Option Envelope) → IsWhole (with_newline (frame_shown edition number message))
    message_is edition number None = whole (refused_text (NoMessage number)) (flat_refused (NoMessage number))
    message_is edition number (Some message) = whole (frame_text number message.from message.to (frame edition message)) (flat_frame number message.from message.to (frame edition message))

    action_are : (action : Action) → Each IsWhole (action_texts w action)
    action_are Nothing = tt
    action_are (EventAction event) = refusal_are (refusal w event)
    action_are (NoNode word) = (whole (no_node_text word) (flat_no_node word), tt)
    action_are (Deliveries first count) = tt
    action_are (Holders asked) = holders_are asked (holders w) (in_each (λ holder. In holder (holders w)) (holders w) (λ holder among. among))
    action_are (Message number) = (message_is w.shape.edition number (message_at w number), tt)

  module _ (events : List WorldEvent) (plain : Each IsPlain events) where
    own_text : (line : List ℕ) → IsOwnText (first_world shape) events line → IsWhole line
    own_text line own =
        let way = own.on_way in
        let passed : Each IsPlain own.passed = each_left IsPlain own.passed way.rest (subst (Each IsPlain) way.is plain) in
        each_in IsWhole (own_texts (run own.passed (first_world shape)) own.command) (action_are own.passed passed (action_of own.command)) line own.among

    event_text_is : (told : List Event) (line : List ℕ) → told ≡ (run events (first_world shape)).history → In line (event_texts told) → IsWhole line
    event_text_is told line is among =
        let k = in_mapped (λ (event : Event). with_newline (event_text event)) line told among in
        let clean = each_in IsClean (run events (first_world shape)).history (history_clean shape formed events plain) k.0 (subst (λ (h : List Event). In k.0 h) is k.1) in
        subst IsWhole k.2 (clean_text k.0 clean)

    pub made_texts : (text : List ℕ) (told : List Event) (made : Made (first_world shape) events text told) → told ≡ (run events (first_world shape)).history → Each IsWhole made.lines
    made_texts text told made is = in_each IsWhole made.lines (λ line among. by_test (is_event_text line)
        (λ e. event_text_is told line is (subst (λ (lines : List (List ℕ)). In line lines) made.events_are (filter_in is_event_text made.lines line among e)))
        (λ e. own_text line (each_in (λ l. is_event_text l ≡ false → IsOwnText (first_world shape) events l) made.lines made.own line among e)))

-- the last text
pub record IsLast (end : Result Progress Status) : Type 0 where
  pub lines : List (List ℕ)
  pub is : closing end ≡ printed lines
  pub are : Each IsWhole lines
  pub other : filter is_event_text lines ≡ []

one_last : (end : Result Progress Status) (text : List ℕ) → closing end ≡ with_newline text → IsFlat text → filter is_event_text (with_newline text ∷ []) ≡ [] → IsLast end
one_last end text is flat other = record { lines = with_newline text ∷ []; is = is ∙ sym (append-nil (with_newline text)); are = (whole text flat, tt); other = other }

pub last_text_is : (end : Result Progress Status) → IsLast end
last_text_is (Ok r) = one_last (Ok r) (end_text r.world.events (length r.world.sent)) refl (flat_end r.world.events (length r.world.sent)) refl
last_text_is (Err (BadLine n)) = one_last (Err (BadLine n)) (bad_line_text n) refl (flat_decimal n) refl
last_text_is (Err (Limit n)) = one_last (Err (Limit n)) (limit_text n) refl (flat_decimal n) refl
last_text_is (Err ReadFault) = one_last (Err ReadFault) read_fault_text refl refl refl
last_text_is (Err Done) = record { lines = []; is = refl; are = tt; other = refl }
last_text_is (Err Usage) = record { lines = []; is = refl; are = tt; other = refl }
last_text_is (Err WriteFault) = record { lines = []; is = refl; are = tt; other = refl }
last_text_is (Err Memory) = record { lines = []; is = refl; are = tt; other = refl }

-- output that is made of texts, and the last text behind it
pub made_prints : (shape : Dimensions) → IsShape shape → (events : List WorldEvent) → Each IsPlain events → (text : List ℕ) (told : List Event) (end : Result Progress Status) → Made (first_world shape) events text told → told ≡ (run events (first_world shape)).history → Prints (text ++ closing end) told
made_prints shape formed events plain text told end made is =
    let last = last_text_is end in
    let all : List (List ℕ) = made.lines ++ last.lines in
    let text_is : text ++ closing end ≡ printed all = ap (λ (t : List ℕ). t ++ closing end) made.text_is ∙ ap (λ (t : List ℕ). printed made.lines ++ t) last.is ∙ sym (flat_map-append (λ (line : List ℕ). line) made.lines last.lines) in
    record {
      events_are =
          ap (λ (t : List ℕ). filter is_event_text (texts_of t)) text_is
          ∙ ap (filter is_event_text) (parted_again all (each_append IsWhole made.lines last.lines (made_texts shape formed events plain text told made is) last.are))
          ∙ filter-append is_event_text made.lines last.lines
          ∙ ap (λ (lines : List (List ℕ)). lines ++ filter is_event_text last.lines) made.events_are
          ∙ ap (λ (lines : List (List ℕ)). event_texts told ++ lines) last.other
          ∙ append-nil (event_texts told);
    }
