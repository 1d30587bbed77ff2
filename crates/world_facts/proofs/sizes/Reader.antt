-- The sizes of what a client's reads have and send.
use Rattle.world_facts.specs.Sizes.{Sized, line_limit}
use Rattle.lazy_msgs.specs.declared.msg.Msg.TheVariants.{Probe, ProbeAck, TailReady, Fetch as FetchMsg, Part, ViewIs, Trim, TrimAck, TrimmedAt}
use Rattle.lazy_msgs.specs.declared.input.Input.TheVariants.{Take, Tick, Ask as AskInput, Trim as TrimInput}
use Rattle.lazy_rules.specs.ReaderState.{ReaderState, Fetch, Force, Trimmer, Stage, Idle, Fetching, Probing, Trimming, outstanding}
use Rattle.rec_id.specs.declared.event.Ask.TheVariants.{Range, Tail}
use Rattle.rec_id.specs.declared.event.Event.TheVariants.{TrimAsk}
use Rattle.world_facts.proofs.sizes.Sends.{AreSized, numbered_all, to_all, two_lists, SizedInput}
use Rattle.lazy_msgs.specs.declared.refused.BeginRefused.{BeginRefused}
use Rattle.view_config.specs.declared.config.Config.{Config}
use Rattle.view_config.specs.Shape.{Dimensions}
use Rattle.view_config.specs.declared.edition.Edition.{Edition}
use Rattle.world_facts.specs.SizesOf.{IsAskOfWords, IsFetch, IsForce, IsStage, IsTrimmer, IsWanted, ReaderSized}
use Rattle.lazy_msgs.specs.FrameLimits.{IsCounted, IsTwo, IsWord}
use Rattle.world_facts.proofs.Claims.{Keeps}
use Rattle.lazy_msgs.specs.declared.msg.Msg.{Msg}
use Rattle.view_config.specs.declared.edition.Edition.TheVariants.{One, Two}
use Rattle.lazy_msgs.specs.declared.refused.TrimRefused.TheVariants.{Outstanding as TrimOutstanding, Ahead}
use Rattle.lazy_msgs.specs.declared.refused.BeginRefused.TheVariants.{Outstanding, Backward, Wide}
use Rattle.rec_id.specs.declared.limits.TheConstants.{READ_LIMIT}
use Rattle.world_facts.specs.MembersOf.{ReaderOf}
use Rattle.lazy_msgs.specs.Step.{Row}
use Rattle.rec_id.specs.History.{asked_from, answer_reach}
use Rattle.lazy_rules.specs.ReaderRules.{at_stage, begin_refusal, begins_read, begins_trim, fetch_first, fetch_in_turn, fetch_msg, forced_end, has_number, in_turn, lacks_part, new_fetch, new_force, on_ask, probes_all, range_refusal, trim_refusal, trim_sends, with_number, with_trimmer, answered, concludes, decides, fetches, opens, reminds, seeks, acked_force, acked_trim, ends_read, ends_trim, entries_in, fetches_in_turn, goes_on, is_trim_complete, on_part, on_probe_ack, on_reader_tick, on_reader_view_is, on_tail_ready, on_trim_ack, on_trimmed_at, probes_again, reader_row, reader_step, reader_took, with_part, with_tail, with_turn, awaits, entry_at, told_by_all}
use Rattle.lazy_rules.specs.Rows.{each_numbered, has_node, to_each, followed, stays, sends_all}
use Rattle.lazy_rules.specs.Roles.{first_of, primaries_of, replicas_of}
use Rattle.std.specs.Option.{is_none, option_map_or, option_to_list}
use Rattle.world_facts.proofs.Rows.{keeps_followed}
use Rattle.std.specs.List.{list_all, flat_map, range_with_len}
use Rattle.std.proofs.lemmas.Bool.{ltb-false, ltb-true}
use Rattle.std.specs.Prelude.{nat_le, nat_lt, filter, ◌==◌, if◌then◌else◌}
use Rattle.list_facts.proofs.Cases.{some_or_none, either}
use Rattle.std.proofs.Common.{ap, arith, not, refl, subst, sym, ◌≡◌, ◌+◌, ◌≤◌, ◌++◌, ◌∷◌, ◌^◌, ◌-◌, ◌∙◌, [], true, false, None, Some, ℕ, List, is_some, Bool, Option, length, zero, suc, length-append}
use Rattle.rec_id.specs.declared.entry.Entry.{Entry}
use Rattle.world_facts.proofs.goes.Sends.{GivenTo}
use Rattle.world_facts.specs.Members.{Goes, IsNamed}
use Rattle.lazy_msgs.specs.declared.input.Input.{Input}
use Rattle.lazy_rules.specs.Door.{is_turned_away}
use Rattle.rec_id.specs.declared.event.Ask.{Ask}

-- a read is answered with no more entries than it has places
one_or_none : {A : Type 0} (o : Option A) → length (option_to_list o) ≤ 1
one_or_none None = omega arith
one_or_none (Some x) = omega arith

few_found : (parts : List (Option (List (ℕ × Entry)))) (from count : ℕ) → length (flat_map (λ (place : ℕ). option_to_list (entry_at (told_by_all parts) place)) (range_with_len from count)) ≤ count
few_found parts from zero = omega arith
few_found parts from (suc count) =
    let one = one_or_none (entry_at (told_by_all parts) from) in
    let rest = few_found parts (from + 1) count in
    let both = length-append (option_to_list (entry_at (told_by_all parts) from)) (flat_map (λ (place : ℕ). option_to_list (entry_at (told_by_all parts) place)) (range_with_len (from + 1) count)) in
    omega arith

entries_within : (parts : List (Option (List (ℕ × Entry)))) (from end : ℕ) → length (entries_in parts from end) ≤ end - from
entries_within parts from end = few_found parts from (end - from)

from_word : (ask : Ask) → IsAskOfWords ask → IsWord (asked_from ask)
from_word (Range from to) h = h.0
from_word (Tail from) h = h

answer_word : (fetch : Fetch) (entries : List Entry) → IsFetch fetch → length entries ≤ fetch.end - asked_from fetch.ask → (tail : Option ℕ) → fetch.tail ≡ tail → IsWord (answer_reach (asked_from fetch.ask) entries tail)
answer_word fetch entries h few (Some tail) is = let most = h.tail tail is in omega arith
answer_word fetch [] h few None is = omega arith
answer_word fetch (entry ∷ entries) h few None is = let from = from_word fetch.ask h.ask.words in let end = h.end in omega arith

module _ (shape : Dimensions) (c : ℕ) where
  abbrev pub SizedReader : Row ReaderState → Type 0
  SizedReader = Keeps (ReaderSized shape) (λ (to : ℕ) (msg : Msg). Sized shape msg)

  module _ (r : ReaderState) (ok : ReaderOf shape c r) (own : ReaderSized shape r) where
    stay : SizedReader (stays r)
    stay = record { next = own; sends = tt }

    counted : IsCounted r.config.view
    counted = record { least = ok.config.view; word = own.view }

    -- a reader at another stage
    staged : (stage : Stage) → IsStage shape stage → ReaderSized shape (at_stage r stage)
    staged stage h = record { view = own.view; count = own.count; reach = own.reach; stage = h }

    quiet : (row : Row ReaderState) → row.next.config ≡ r.config → row.next.count ≡ r.count → row.next.reach ≡ r.reach → IsStage shape row.next.stage → AreSized shape row.sends → SizedReader row
    quiet row a b c stage sent = record {
      next = record { view = subst (λ (config : Config). IsWord config.view) (sym a) own.view; count = subst IsWord (sym b) own.count; reach = subst IsWord (sym c) own.reach; stage = stage };
      sends = sent;
    }

    -- a read is answered
    ends : (number : ℕ) (ask : Ask) (entries : List Entry) (tail : Option ℕ) → IsWord (answer_reach (asked_from ask) entries tail) → SizedReader (answered r number ask entries tail)
    ends number ask entries tail h = record { next = record { view = own.view; count = own.count; reach = (let old = own.reach in omega arith); stage = tt }; sends = tt }

    probing : (number : ℕ) (ask : Ask) → IsCounted number → IsWanted ask → SizedReader (probes_all r number ask)
    probing number ask h k = record {
      next = staged (Probing (new_force number ask)) (record { number = h; ask = k; tail = λ tail e. let wrong : None ≡ Some tail = e in absurd (let no : ⊥ = cc in no) });
      sends = to_all shape r.config.seq (Probe r.config.view number) (counted, h);
    }

    fetching : (number : ℕ) (ask : Ask) (end : ℕ) (tail : Option ℕ) → IsCounted number → IsWanted ask → IsWord end → end ≤ asked_from ask + READ_LIMIT → ((n : ℕ) → tail ≡ Some n → n ≤ line_limit) → SizedReader (fetches r number ask end tail)
    fetching number ask end tail h k word few told = record {
      next = staged (Fetching (new_fetch r number ask end tail)) (record { number = h; ask = k; end = word; few = few; tail = told });
      sends = to_all shape (primaries_of r.config) (FetchMsg number (asked_from ask) end) (h, record { least = from_word ask k.words; most = word; few = few });
    }

    fetch_says : (fetch : Fetch) → IsFetch fetch → Sized shape (fetch_msg fetch)
    fetch_says fetch h = (h.number, record { least = from_word fetch.ask h.ask.words; most = h.end; few = h.few })

    trim_says : (trimmer : Trimmer) → IsTrimmer shape trimmer → AreSized shape (trim_sends r trimmer)
    trim_says trimmer h = to_all shape (filter (λ (node : ℕ). not (has_node trimmer.acked node)) (replicas_of r.config)) (Trim trimmer.number trimmer.floor) (h.number, h.two, h.floor)

    first_fetches : (fetch : Fetch) → IsFetch fetch → (shard : ℕ) (nodes : List ℕ) → AreSized shape (fetch_first fetch shard nodes)
    first_fetches fetch h shard nodes = either (AreSized shape) (lacks_part fetch shard) (to_each (first_of nodes) (fetch_msg fetch)) [] (λ k. to_all shape (first_of nodes) (fetch_msg fetch) (fetch_says fetch h)) (λ k. tt)

    turn_fetches : (fetch : Fetch) → IsFetch fetch → (shard : ℕ) (nodes : List ℕ) → AreSized shape (fetch_in_turn fetch shard nodes)
    turn_fetches fetch h shard nodes = either (AreSized shape) (lacks_part fetch shard) (to_each (in_turn fetch.turn nodes) (fetch_msg fetch)) [] (λ k. to_all shape (in_turn fetch.turn nodes) (fetch_msg fetch) (fetch_says fetch h)) (λ k. tt)

    reminded : (fetch : Fetch) → IsFetch fetch → AreSized shape (reminds r fetch)
    reminded fetch h = either (AreSized shape) (is_some fetch.tail) (to_each (first_of r.config.seq) (Probe r.config.view fetch.number)) [] (λ k. to_all shape (first_of r.config.seq) (Probe r.config.view fetch.number) (counted, h.number)) (λ k. tt)

    again : (fetch : Fetch) → IsFetch fetch → AreSized shape (each_numbered (fetch_in_turn fetch) 0 r.config.shards ++ reminds r fetch)
    again fetch h = two_lists shape (each_numbered (fetch_in_turn fetch) 0 r.config.shards) (reminds r fetch) (numbered_all shape (fetch_in_turn fetch) (turn_fetches fetch h) 0 r.config.shards) (reminded fetch h)

    concluded : (force : Force) → IsForce force → (tail : ℕ) → tail ≤ line_limit → SizedReader (concludes r force tail)
    concluded force h tail most =
        let end : IsWord (forced_end force.ask tail) = omega arith in
        let limit = h.ask.few in
        either SizedReader (nat_le (forced_end force.ask tail) (asked_from force.ask)) (answered r force.number force.ask [] (Some tail)) (fetches r force.number force.ask (forced_end force.ask tail) (Some tail))
        (λ k. ends force.number force.ask [] (Some tail) (omega arith))
        (λ k. fetching force.number force.ask (forced_end force.ask tail) (Some tail) h.number h.ask end (omega arith) (λ n e. let is : tail ≡ n = cc in subst (λ (m : ℕ). m ≤ line_limit) is most))

    decided : (force : Force) → IsForce force → SizedReader (decides r force)
    decided force h =
        let waits : SizedReader (stays (at_stage r (Probing force))) = record { next = staged (Probing force) h; sends = tt } in
        either SizedReader (list_all (has_node force.acked) r.config.seq) (option_map_or (concludes r force) force.tail (stays (at_stage r (Probing force)))) (stays (at_stage r (Probing force)))
        (λ k. some_or_none SizedReader (concludes r force) force.tail (stays (at_stage r (Probing force))) (λ tail is. concluded force h tail (h.tail tail is)) (λ none. waits))
        (λ k. waits)

    -- Ask
    range_free : (b d : Bool) → is_none (if b then Some Backward else (if d then Some Wide else None)) ≡ true → d ≡ false
    range_free true d h = let wrong : false ≡ true = h in absurd (let no : ⊥ = cc in no)
    range_free false true h = let wrong : false ≡ true = h in absurd (let no : ⊥ = cc in no)
    range_free false false h = refl

    asked_free : (o : Option ℕ) (d : Option BeginRefused) → is_none (option_map_or (λ (number : ℕ). Some (Outstanding number)) o d) ≡ true → is_none d ≡ true
    asked_free None d h = h
    asked_free (Some number) d h = let wrong : false ≡ true = h in absurd (let no : ⊥ = cc in no)

    wanted : (ask : Ask) → IsAskOfWords ask → is_none (begin_refusal r ask) ≡ true → IsWanted ask
    wanted (Range from to) words free =
        let narrow = ltb-false READ_LIMIT (to - from) (range_free (nat_lt to from) (nat_lt READ_LIMIT (to - from)) (asked_free (outstanding r.stage) (range_refusal (Range from to)) free)) in
        record { words = words; few = omega arith }
    wanted (Tail from) words free = record { words = words; few = omega arith }

  -- the next number
  numbered : (r : ReaderState) (ok : ReaderOf shape c r) (own : ReaderSized shape r) → has_number r ≡ true → ReaderSized shape (with_number r)
  numbered r ok own h = record { view = own.view; count = ltb-true (r.count + 1) (2 ^ 32) h; reach = own.reach; stage = own.stage }

  module _ (r : ReaderState) (ok : ReaderOf shape c r) (own : ReaderSized shape r) where
    abbrev later_of : ReaderOf shape c (with_number r)
    later_of = record { shaped = ok.shaped; numbered = ok.numbered; config = ok.config }

    next_number : has_number r ≡ true → IsCounted (r.count + 1)
    next_number h = record { least = omega arith; word = ltb-true (r.count + 1) (2 ^ 32) h }

    sought : (ask : Ask) → IsWanted ask → has_number r ≡ true → SizedReader (seeks (with_number r) ask)
    sought (Range from to) h k =
        either SizedReader (from == to) (answered (with_number r) (r.count + 1) (Range from to) [] None) (fetches (with_number r) (r.count + 1) (Range from to) to None)
        (λ m. ends (with_number r) later_of (numbered r ok own k) (r.count + 1) (Range from to) [] None (let word = h.words.0 in omega arith))
        (λ m. fetching (with_number r) later_of (numbered r ok own k) (r.count + 1) (Range from to) to None (next_number k) h h.words.1 h.few (λ n e. let wrong : None ≡ Some n = e in absurd (let no : ⊥ = cc in no)))
    sought (Tail from) h k = probing (with_number r) later_of (numbered r ok own k) (r.count + 1) (Tail from) (next_number k) h

    begins : (ask : Ask) → IsWanted ask → SizedReader (begins_read r ask)
    begins ask h =
        either SizedReader (has_number r) (followed (opens r ask) (λ (after : ReaderState). seeks after ask)) (stays r)
        (λ k. keeps_followed (ReaderSized shape) (λ (to : ℕ) (msg : Msg). Sized shape msg) (opens r ask) (λ (after : ReaderState). seeks after ask) (record { next = numbered r ok own k; sends = tt }) (sought ask h k))
        (λ k. stay r ok own)

    asks : (ask : Ask) → IsAskOfWords ask → SizedReader (on_ask r ask)
    asks ask words =
        either SizedReader (is_none (begin_refusal r ask)) (begins_read r ask) (stays r)
        (λ h. begins ask (wanted r ok own ask words h)) (λ h. stay r ok own)

    begins_trims : (floor : ℕ) → IsWord floor → IsTwo shape.edition → SizedReader (begins_trim r floor)
    begins_trims floor word two =
        either SizedReader (has_number r)
        (record { next = with_trimmer r floor; sends = to_each (replicas_of r.config) (Trim (r.count + 1) floor); events = TrimAsk r.client (r.count + 1) floor ∷ [] })
        (stays r)
        (λ h. record {
          next = record { view = own.view; count = ltb-true (r.count + 1) (2 ^ 32) h; reach = own.reach; stage = record { number = next_number h; floor = word; two = two } };
          sends = to_all shape (replicas_of r.config) (Trim (r.count + 1) floor) (next_number h, two, word);
        })
        (λ h. stay r ok own)

    trim_free : (o : Option ℕ) (b : Bool) → is_none (option_map_or (λ (number : ℕ). Some (TrimOutstanding number)) o (if b then Some (Ahead r.reach) else None)) ≡ true → b ≡ false
    trim_free None false h = refl
    trim_free None true h = let wrong : false ≡ true = h in absurd (let no : ⊥ = cc in no)
    trim_free (Some number) b h = let wrong : false ≡ true = h in absurd (let no : ⊥ = cc in no)

    trims_in : (edition : Edition) → r.shape.edition ≡ edition → (floor : ℕ) → SizedReader (elim edition [ One ↦ stays r | Two ↦ if is_none (trim_refusal r floor) then begins_trim r floor else stays r ])
    trims_in One is floor = stay r ok own
    trims_in Two is floor =
        let two : IsTwo shape.edition = subst IsTwo (sym is ∙ ap (λ (d : Dimensions). d.edition) ok.shaped) tt in
        either SizedReader (is_none (trim_refusal r floor)) (begins_trim r floor) (stays r)
        (λ h. let below = ltb-false r.reach floor (trim_free (outstanding r.stage) (nat_lt r.reach floor) h) in let reach = own.reach in begins_trims floor (omega arith) two) (λ h. stay r ok own)

  -- messages, by the stage
  module _ (r : ReaderState) (ok : ReaderOf shape c r) where
    abbrev at : Stage → ReaderState
    at stage = record r { stage = stage }

    there : (stage : Stage) → ReaderOf shape c (at stage)
    there stage = record { shaped = ok.shaped; numbered = ok.numbered; config = ok.config }

    acks : (stage : Stage) → ReaderSized shape (at stage) → (sender view number : ℕ) → SizedReader (on_probe_ack (at stage) sender view number)
    acks Idle own sender view number = stay (at Idle) (there Idle) own
    acks (Fetching fetch) own sender view number = stay (at (Fetching fetch)) (there (Fetching fetch)) own
    acks (Probing force) own sender view number =
        let same = stay (at (Probing force)) (there (Probing force)) own in
        let more : SizedReader (decides (at (Probing force)) (acked_force force sender)) = decided (at (Probing force)) (there (Probing force)) own (acked_force force sender) (record { number = own.stage.number; ask = own.stage.ask; tail = own.stage.tail }) in
        search (either SizedReader, more, same) depth 12
    acks (Trimming trimmer) own sender view number = stay (at (Trimming trimmer)) (there (Trimming trimmer)) own

    tails : (stage : Stage) → ReaderSized shape (at stage) → (sender view number tail : ℕ) → tail ≤ line_limit → SizedReader (on_tail_ready (at stage) sender view number tail)
    tails Idle own sender view number tail most = stay (at Idle) (there Idle) own
    tails (Fetching fetch) own sender view number tail most = stay (at (Fetching fetch)) (there (Fetching fetch)) own
    tails (Probing force) own sender view number tail most =
        let same = stay (at (Probing force)) (there (Probing force)) own in
        let more : SizedReader (decides (at (Probing force)) (with_tail force tail)) = decided (at (Probing force)) (there (Probing force)) own (with_tail force tail)
        (record { number = own.stage.number; ask = own.stage.ask; tail = λ n e. let is : tail ≡ n = cc in subst (λ (k : ℕ). k ≤ line_limit) is most }) in
        search (either SizedReader, more, same) depth 12
    tails (Trimming trimmer) own sender view number tail most = stay (at (Trimming trimmer)) (there (Trimming trimmer)) own

    parts : (stage : Stage) → ReaderSized shape (at stage) → (sender number from end : ℕ) (entries : List (ℕ × Entry)) → SizedReader (on_part (at stage) sender number from end entries)
    parts Idle own sender number from end entries = stay (at Idle) (there Idle) own
    parts (Fetching fetch) own sender number from end entries =
        let here = at (Fetching fetch) in
        let same : SizedReader (stays here) = stay here (there (Fetching fetch)) own in
        let forced : SizedReader (probes_all here fetch.number fetch.ask) = probing here (there (Fetching fetch)) own fetch.number fetch.ask own.stage.number own.stage.ask in
        let gone : (shard : ℕ) → SizedReader (answered here fetch.number fetch.ask (entries_in (with_part fetch shard entries).parts (asked_from fetch.ask) fetch.end) fetch.tail) =
        λ shard. ends here (there (Fetching fetch)) own fetch.number fetch.ask (entries_in (with_part fetch shard entries).parts (asked_from fetch.ask) fetch.end) fetch.tail
        (answer_word fetch (entries_in (with_part fetch shard entries).parts (asked_from fetch.ask) fetch.end) own.stage (entries_within (with_part fetch shard entries).parts (asked_from fetch.ask) fetch.end) fetch.tail refl) in
        let kept : (shard : ℕ) → SizedReader (stays (at_stage here (Fetching (with_part fetch shard entries)))) =
        λ shard. quiet here (there (Fetching fetch)) own (stays (at_stage here (Fetching (with_part fetch shard entries)))) refl refl refl (record { number = own.stage.number; ask = own.stage.ask; end = own.stage.end; few = own.stage.few; tail = own.stage.tail }) tt in
        search (either SizedReader, some_or_none {A = ℕ} SizedReader, forced, gone, kept, same) depth 14
    parts (Probing force) own sender number from end entries = stay (at (Probing force)) (there (Probing force)) own
    parts (Trimming trimmer) own sender number from end entries = stay (at (Trimming trimmer)) (there (Trimming trimmer)) own

    ended : (stage : Stage) → ReaderSized shape (at stage) → (number floor : ℕ) → SizedReader (on_trimmed_at (at stage) number floor)
    ended Idle own number floor = stay (at Idle) (there Idle) own
    ended (Fetching fetch) own number floor =
        let here = at (Fetching fetch) in
        let same : SizedReader (stays here) = stay here (there (Fetching fetch)) own in
        let over : SizedReader (ends_read here number floor) = quiet here (there (Fetching fetch)) own (ends_read here number floor) refl refl refl tt tt in
        search (either SizedReader, over, same) depth 12
    ended (Probing force) own number floor = stay (at (Probing force)) (there (Probing force)) own
    ended (Trimming trimmer) own number floor = stay (at (Trimming trimmer)) (there (Trimming trimmer)) own

    trim_acks : (stage : Stage) → ReaderSized shape (at stage) → (sender number : ℕ) → SizedReader (on_trim_ack (at stage) sender number)
    trim_acks Idle own sender number = stay (at Idle) (there Idle) own
    trim_acks (Fetching fetch) own sender number = stay (at (Fetching fetch)) (there (Fetching fetch)) own
    trim_acks (Probing force) own sender number = stay (at (Probing force)) (there (Probing force)) own
    trim_acks (Trimming trimmer) own sender number =
        let here = at (Trimming trimmer) in
        let same : SizedReader (stays here) = stay here (there (Trimming trimmer)) own in
        let over : SizedReader (ends_trim here (acked_trim trimmer sender)) = quiet here (there (Trimming trimmer)) own (ends_trim here (acked_trim trimmer sender)) refl refl refl tt tt in
        let kept : SizedReader (stays (at_stage here (Trimming (acked_trim trimmer sender)))) = quiet here (there (Trimming trimmer)) own (stays (at_stage here (Trimming (acked_trim trimmer sender)))) refl refl refl (record { number = own.stage.number; floor = own.stage.floor; two = own.stage.two }) tt in
        search (either SizedReader, over, kept, same) depth 12

    goes_further : (stage : Stage) → ReaderSized shape (at stage) → SizedReader (goes_on (at stage))
    goes_further Idle own = stay (at Idle) (there Idle) own
    goes_further (Fetching fetch) own =
        let here = at (Fetching fetch) in
        quiet here (there (Fetching fetch)) own (sends_all here (each_numbered (fetch_first fetch) 0 here.config.shards)) refl refl refl own.stage (numbered_all shape (fetch_first fetch) (first_fetches here (there (Fetching fetch)) own fetch own.stage) 0 here.config.shards)
    goes_further (Probing force) own = probing (at (Probing force)) (there (Probing force)) own force.number force.ask own.stage.number own.stage.ask
    goes_further (Trimming trimmer) own =
        let here = at (Trimming trimmer) in
        either SizedReader (is_trim_complete here trimmer) (ends_trim here trimmer) (sends_all here (trim_sends here trimmer))
        (λ h. quiet here (there (Trimming trimmer)) own (ends_trim here trimmer) refl refl refl tt tt)
        (λ h. quiet here (there (Trimming trimmer)) own (sends_all here (trim_sends here trimmer)) refl refl refl own.stage (trim_says here (there (Trimming trimmer)) own trimmer own.stage))

    ticks : (stage : Stage) → ReaderSized shape (at stage) → SizedReader (on_reader_tick (at stage))
    ticks Idle own = stay (at Idle) (there Idle) own
    ticks (Fetching fetch) own =
        let here = at (Fetching fetch) in
        let turned : IsFetch (with_turn fetch) = record { number = own.stage.number; ask = own.stage.ask; end = own.stage.end; few = own.stage.few; tail = own.stage.tail } in
        either SizedReader (nat_lt (fetch.turn + 1) (2 ^ 32)) (fetches_in_turn here (with_turn fetch)) (stays here)
        (λ h. quiet here (there (Fetching fetch)) own (fetches_in_turn here (with_turn fetch)) refl refl refl turned (again here (there (Fetching fetch)) own (with_turn fetch) turned))
        (λ h. stay here (there (Fetching fetch)) own)
    ticks (Probing force) own =
        let here = at (Probing force) in
        quiet here (there (Probing force)) own (probes_again here force) refl refl refl own.stage (to_all shape (filter (awaits here force) here.config.seq) (Probe here.config.view force.number) (counted here (there (Probing force)) own, own.stage.number))
    ticks (Trimming trimmer) own =
        let here = at (Trimming trimmer) in
        quiet here (there (Trimming trimmer)) own (sends_all here (trim_sends here trimmer)) refl refl refl own.stage (trim_says here (there (Trimming trimmer)) own trimmer own.stage)

  module _ (r : ReaderState) (ok : ReaderOf shape c r) (own : ReaderSized shape r) where
    views : (config : Config) → IsNamed shape config → IsWord config.view → SizedReader (on_reader_view_is r config)
    views config named word =
        let later : ReaderOf shape c (record r { config = config }) = record { shaped = ok.shaped; numbered = ok.numbered; config = named } in
        let sized : ReaderSized shape (record r { config = config }) = record { view = word; count = own.count; reach = own.reach; stage = own.stage } in
        either SizedReader (nat_lt r.config.view config.view) (goes_on (record r { config = config })) (stays r)
        (λ h. goes_further (record r { config = config }) later r.stage sized) (λ h. stay r ok own)

    rows : (sender : ℕ) (msg : Msg) → Goes shape sender c msg → Sized shape msg → SizedReader (reader_row r sender msg)
    rows sender (ProbeAck view number) goes says = acks r ok r.stage own sender view number
    rows sender (TailReady view number tail) goes says = tails r ok r.stage own sender view number tail says.2
    rows sender (Part number from end entries) goes says = parts r ok r.stage own sender number from end entries
    rows sender (ViewIs config) goes says = views config goes.2 says.word
    rows sender (TrimAck number) goes says = trim_acks r ok r.stage own sender number
    rows sender (TrimmedAt number floor) goes says = ended r ok r.stage own number floor
    rows sender _ goes says = stay r ok own

    takes : (sender : ℕ) (msg : Msg) → Goes shape sender c msg → Sized shape msg → SizedReader (reader_took r sender msg)
    takes sender msg goes says =
        either SizedReader (is_turned_away r.shape sender msg) (stays r) (reader_row r sender msg)
        (λ h. stay r ok own) (λ h. rows sender msg goes says)

    pub reader_sized : (input : Input) → GivenTo shape c input → SizedInput shape input → SizedReader (reader_step r input)
    reader_sized (Take e) goes says = takes e.from e.msg goes says
    reader_sized Tick goes says = ticks r ok r.stage own
    reader_sized (AskInput ask) goes says = asks r ok own ask says
    reader_sized (TrimInput floor) goes says = trims_in r ok own r.shape.edition refl floor
    reader_sized _ goes says = stay r ok own
