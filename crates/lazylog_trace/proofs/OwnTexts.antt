-- The events among the texts that are printed, and those that commands print of themselves.
use Rattle.std.proofs.Common.{◌≡◌, ℕ, List, [], ◌∷◌, ◌++◌, map, Bool, true, false, Option, Some, None, refl, sym, ap, ◌∙◌, subst, append_assoc}
use Rattle.std.specs.Prelude.{filter, if◌then◌else◌, Result, Ok, Err}
use Rattle.std.proofs.lemmas.Grind.{flat_map-append}
use Rattle.std.proofs.lemmas.List.{map-append}
use Rattle.std.proofs.lemmas.List.Elements.{filter-append}
use Rattle.list_facts.specs.Lists.{In, Each, Front}
use Rattle.list_facts.proofs.Fronts.{front_append, front_trans}
use Rattle.world_facts.proofs.Runs.{run_append}
use Rattle.lazy_msgs.specs.declared.input.WorldEvent.{WorldEvent}
use Rattle.lazy_rules.specs.WorldRules.{run}
use Rattle.list_facts.proofs.Members.{each_append, each_weaker, in_each}
use Rattle.rec_id.specs.declared.entry.Entry.{Entry}
use Rattle.rec_id.specs.declared.event.Event.{Event}
use Rattle.rec_id.specs.declared.event.Event.TheVariants.{Invoke, Acked, Rejected, Begin, Answer, Seen, TrimAsk, TrimDone, Trimmed}
use Rattle.lazy_msgs.specs.declared.refused.EventRefused.{EventRefused}
use Rattle.lazy_msgs.specs.declared.msg.Envelope.{Envelope}
use Rattle.view_config.specs.declared.edition.Edition.{Edition}
use Rattle.lazy_rules.specs.Holders.{holders}
use Rattle.lazy_rules.specs.Lines.{line_told}
use Rattle.lazy_rules.specs.WorldState.{WorldState}
use Rattle.lazy_rules.specs.WorldRules.{message_at, refusal}
use Rattle.trace_script.specs.EventTexts.{event_text}
use Rattle.trace_script.specs.declared.command.Command.{Command}
use Rattle.lazylog_trace.specs.declared.action.Asked.{Asked}
use Rattle.lazylog_trace.specs.declared.action.Asked.TheVariants.{Line, Verdict}
use Rattle.lazylog_trace.specs.declared.action.Action.{Action}
use Rattle.lazylog_trace.specs.declared.action.Action.TheVariants.{Nothing, Event as EventAction, NoNode, Deliveries, Holders, Message}
use Rattle.lazylog_trace.specs.Actions.{action_of}
use Rattle.lazylog_trace.specs.Apply.{action_texts, refusal_texts, own_texts}
use Rattle.script_streams.specs.Texts.{printed, with_newline}
use Rattle.lazylog_trace.specs.Shown.{event_texts, frame_shown, holder_said, holder_text, holder_texts}
use Rattle.lazylog_trace.specs.Printed.{is_event_text}

-- a text that a command prints of itself, at a world on the way of these events
pub record IsOwnText (start : WorldState) (events : List WorldEvent) (line : List ℕ) : Type 0 where
  pub passed : List WorldEvent
  pub on_way : Front passed events
  pub command : Command
  pub among : In line (own_texts (run passed start) command)

-- the output is made of texts: those of what was told, each once and in order, and those that commands print of
-- themselves
pub record Made (start : WorldState) (events : List WorldEvent) (text : List ℕ) (told : List Event) : Type 0 where
  pub lines : List (List ℕ)
  pub text_is : text ≡ printed lines
  pub events_are : filter is_event_text lines ≡ event_texts told
  pub own : Each (λ line. is_event_text line ≡ false → IsOwnText start events line) lines

-- an event's text is one
event_is : (event : Event) → is_event_text (with_newline (event_text event)) ≡ true
event_is (Invoke id bytes) = refl
event_is (Acked id) = refl
event_is (Rejected id place) = refl
event_is (Begin client read ask) = refl
event_is (Answer client read from entries tail) = refl
event_is (Seen client from ids) = refl
event_is (TrimAsk client read floor) = refl
event_is (TrimDone client read floor) = refl
event_is (Trimmed client read floor) = refl

events_all : (events : List Event) → filter is_event_text (event_texts events) ≡ event_texts events
events_all [] = refl
events_all (event ∷ events) =
    ap (λ (b : Bool). if b then with_newline (event_text event) ∷ filter is_event_text (event_texts events) else filter is_event_text (event_texts events)) (event_is event)
    ∙ ap (λ (lines : List (List ℕ)). with_newline (event_text event) ∷ lines) (events_all events)

-- no text that a command prints of itself is one
abbrev IsOther : List ℕ → Type 0
IsOther line = is_event_text line ≡ false

refusals_other : (refused : Option EventRefused) → Each IsOther (refusal_texts refused)
refusals_other None = tt
refusals_other (Some refused) = (refl, tt)

said_other : (asked : Asked) (holder : ℕ) (line : Result (List Entry) ℕ) → IsOther (with_newline (holder_said asked holder line))
said_other Line holder (Ok line) = refl
said_other Line holder (Err shard) = refl
said_other Verdict holder (Ok line) = refl
said_other Verdict holder (Err shard) = refl

each_holder : (w : WorldState) (asked : Asked) (nodes : List ℕ) → Each IsOther (map (holder_text w asked) nodes)
each_holder w asked [] = tt
each_holder w asked (holder ∷ others) = (said_other asked holder (line_told w holder), each_holder w asked others)

holders_other : (w : WorldState) (asked : Asked) (nodes : List ℕ) → Each IsOther (holder_texts w asked nodes)
holders_other w asked [] = (refl, tt)
holders_other w asked (holder ∷ others) = each_holder w asked (holder ∷ others)

message_other : (edition : Edition) (number : ℕ) (message : Option Envelope) → IsOther (with_newline (frame_shown edition number message))
message_other edition number None = refl
message_other edition number (Some message) = refl

action_other : (w : WorldState) (action : Action) → Each IsOther (action_texts w action)
action_other w Nothing = tt
action_other w (EventAction event) = refusals_other (refusal w event)
action_other w (NoNode word) = (refl, tt)
action_other w (Deliveries first count) = tt
action_other w (Holders asked) = holders_other w asked (holders w)
action_other w (Message number) = (message_other w.shape.edition number (message_at w number), tt)

own_other : (w : WorldState) (command : Command) → Each IsOther (own_texts w command)
own_other w command = action_other w (action_of command)

others_none : (lines : List (List ℕ)) → Each IsOther lines → filter is_event_text lines ≡ []
others_none [] h = refl
others_none (line ∷ lines) h =
    ap (λ (b : Bool). if b then line ∷ filter is_event_text lines else filter is_event_text lines) h.0 ∙ others_none lines h.1

abbrev IsOwn : WorldState → List WorldEvent → List ℕ → Type 0
IsOwn start events line = is_event_text line ≡ false → IsOwnText start events line

own_each : (w : WorldState) (events : List WorldEvent) (command : Command) → Each (IsOwn w events) (own_texts w command)
own_each w events command = in_each (IsOwn w events) (own_texts w command) (λ line among other. record { passed = []; on_way = record { rest = events; is = refl }; command = command; among = among })

events_each : (w : WorldState) (events : List WorldEvent) (told : List Event) → Each (IsOwn w events) (event_texts told)
events_each w events [] = tt
events_each w events (event ∷ told) = (λ other. let wrong : true ≡ false = sym (event_is event) ∙ other in cc, events_each w events told)

pub made_nothing : (w : WorldState) (events : List WorldEvent) → Made w events [] []
made_nothing w events = record { lines = []; text_is = refl; events_are = refl; own = tt }

-- the texts of a command
pub made_command : (w : WorldState) (events : List WorldEvent) (command : Command) (told : List Event) → Made w events (printed (own_texts w command ++ event_texts told)) told
made_command w events command told = record {
  lines = own_texts w command ++ event_texts told;
  text_is = refl;
  events_are =
      filter-append is_event_text (own_texts w command) (event_texts told)
      ∙ ap (λ (lines : List (List ℕ)). lines ++ filter is_event_text (event_texts told)) (others_none (own_texts w command) (own_other w command))
      ∙ events_all told;
  own = each_append (IsOwn w events) (own_texts w command) (event_texts told) (own_each w events command) (events_each w events told);
}

-- one text behind another
module _ (start now : WorldState) (events more : List WorldEvent) (now_is : now ≡ run events start) where
  own_before : (line : List ℕ) → IsOwn start events line → IsOwn start (events ++ more) line
  own_before line h other =
      let own = h other in
      record { passed = own.passed; on_way = front_trans own.passed events (events ++ more) own.on_way (front_append events more); command = own.command; among = own.among }

  own_behind : (line : List ℕ) → IsOwn now more line → IsOwn start (events ++ more) line
  own_behind line h other =
      let own = h other in
      let way = own.on_way in
      record {
        passed = events ++ own.passed;
        on_way = record { rest = way.rest; is = ap (λ (later : List WorldEvent). events ++ later) way.is ∙ sym (append_assoc events own.passed way.rest) };
        command = own.command;
        among = subst (λ (w : WorldState). In line (own_texts w own.command)) (ap (run own.passed) now_is ∙ sym (run_append events own.passed start)) own.among;
      }

  pub made_append : (text next : List ℕ) (told later : List Event) → Made start events text told → Made now more next later → Made start (events ++ more) (text ++ next) (told ++ later)
  made_append text next told later p q = record {
    lines = p.lines ++ q.lines;
    text_is = ap (λ (t : List ℕ). t ++ next) p.text_is ∙ ap (λ (t : List ℕ). printed p.lines ++ t) q.text_is ∙ sym (flat_map-append (λ (line : List ℕ). line) p.lines q.lines);
    events_are =
        filter-append is_event_text p.lines q.lines
        ∙ ap (λ (lines : List (List ℕ)). lines ++ filter is_event_text q.lines) p.events_are
        ∙ ap (λ (lines : List (List ℕ)). event_texts told ++ lines) q.events_are
        ∙ sym (map-append (λ (event : Event). with_newline (event_text event)) told later);
    own = each_append (IsOwn start (events ++ more)) p.lines q.lines
        (each_weaker (IsOwn start events) (IsOwn start (events ++ more)) own_before p.lines p.own)
        (each_weaker (IsOwn now more) (IsOwn start (events ++ more)) own_behind q.lines q.own);
  }
