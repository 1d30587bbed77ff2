-- The run of a merge is what the nodes lived through.
use Rattle.std.proofs.Common.{◌≡◌, ◌⊎◌, ◌↔◌, ℕ, List, [], ◌∷◌, Option, Some, None, inl, inr, refl, sym, ap, ◌∙◌, subst}
use Rattle.std.specs.Prelude.{filter}
use Rattle.std.specs.Option.{option_map}
use Rattle.list_facts.specs.Lists.{In, Each}
use Rattle.list_facts.proofs.Members.{each_in, each_weaker, in_each}
use Rattle.view_config.specs.Shape.{Dimensions, node_of}
use Rattle.lazy_msgs.specs.declared.diary.Diary.{Diary}
use Rattle.lazy_msgs.specs.declared.input.Input.{Input}
use Rattle.lazy_msgs.specs.declared.input.Input.TheVariants.{Take, Tick, Grace, Crash, Post, Ask, Trim, Suspect, Peek}
use Rattle.lazy_msgs.specs.declared.input.WorldEvent.{WorldEvent}
use Rattle.lazy_msgs.specs.declared.msg.Envelope.{Envelope}
use Rattle.lazy_rules.specs.WorldRules.{run}
use Rattle.lazy_rules.specs.WorldState.{first_world}
use Rattle.world_facts.proofs.Forming.{first_formed}
use Rattle.diary_laws.specs.Closed.{AreClosed, all_sent}
use Rattle.diary_laws.specs.Formed.{AreDiaries, IsFormed, nodes_of}
use Rattle.diary_laws.specs.Lived.{IsCrashedIn, IsLived}
use Rattle.diary_laws.specs.Machines.{Machine, Step, last_state, state_behind, steps_from}
use Rattle.diary_laws.specs.Merges.{AreEventsOf, IsEventOf, IsFirstNumber, IsMerge, IsMerged, IsNumber, is_event, sent_by}
use Rattle.diary_laws.specs.Nodes.{NodeState, nodes_of_shape, state_at}
use Rattle.diary_laws.proofs.merges.Crashes.{crashes_are}
use Rattle.diary_laws.proofs.merges.Going.{behind, behind_all, goes_on}
use Rattle.diary_laws.proofs.merges.Parts.{HasDiary, diary_or_none, of_node, part_of_diary, part_of_none, rising_merge, steps_are}
use Rattle.diary_laws.proofs.runs.Due.{IsDueIn, all_due}
use Rattle.diary_laws.proofs.runs.Onward.{ran_all}
use Rattle.diary_laws.proofs.runs.Quiet.{nodes_quiet}
use Rattle.diary_laws.proofs.runs.Reached.{IsDue, Onward, Ran, Reached}
use Rattle.diary_laws.proofs.runs.Steady.{solid_first}

module _ (shape : Dimensions) where
  abbrev m : Machine
  m = nodes_of_shape shape

  none_on : (me : ℕ) (o : Option NodeState) → Onward shape me o []
  none_on me None = refl
  none_on me (Some s) = tt

  module _ (diaries : List Diary) (are : AreDiaries m diaries) (closed : AreClosed m diaries) (merged : List (Step NodeState)) (is : IsMerged m diaries merged) where
    formed_at : (diary : Diary) → In diary diaries → IsFormed m diary
    formed_at diary there = each_in (IsFormed m) diaries are.formed diary there

    -- the steps of a diary's node
    its_steps : (diary : Diary) (there : In diary diaries) → of_node diary.node merged ≡ filter is_event (steps_from m diary.node (formed_at diary there).start diary.entries)
    its_steps diary there = part_of_diary m diaries are merged is diary there ∙ ap (filter is_event) (steps_are m diary (formed_at diary there))

    diary_on : (diary : Diary) → In diary diaries → Onward shape diary.node (state_at (first_world shape) diary.node) (of_node diary.node merged)
    diary_on diary there =
        let formed = formed_at diary there in
        subst (λ (o : Option NodeState). Onward shape diary.node o (of_node diary.node merged)) (sym formed.first)
        (subst (Onward shape diary.node (Some formed.start)) (sym (its_steps diary there)) (goes_on m (nodes_quiet shape) diary.node 0 formed.start diary.entries formed.follows))

    first_on : (me : ℕ) → HasDiary m diaries me ⊎ (¬ In me (nodes_of diaries)) → Onward shape me (state_at (first_world shape) me) (of_node me merged)
    first_on me (inl k) = subst (λ (n : ℕ). Onward shape n (state_at (first_world shape) n) (of_node n merged)) k.own (diary_on k.diary k.there)
    first_on me (inr none) = subst (Onward shape me (state_at (first_world shape) me)) (sym (part_of_none m diaries are merged is me none)) (none_on me (state_at (first_world shape) me))

    at_first : Reached shape (first_world shape) [] merged
    at_first = record {
      form = first_formed shape;
      onward = λ me. first_on me (diary_or_none m me diaries);
      solid = λ me s h. solid_first shape (node_of shape me) s h;
      settled = tt;
      sent = refl;
      ended = λ me gone. absurd gone;
    }

    due : Each (IsDue shape (all_sent diaries) merged) merged
    due = each_weaker (IsDueIn m (all_sent diaries) merged) (IsDue shape (all_sent diaries) merged) (λ x h. record { event = h.event; justified = h.justified }) merged (all_due m (nodes_quiet shape) diaries are closed merged is)

    module _ (events : List WorldEvent) (become : AreEventsOf (IsNumber (sent_by merged)) merged events) where
      ran : Ran (first_world shape) merged events
      ran = ran_all shape (all_sent diaries) merged [] merged events (first_world shape) refl at_first (rising_merge m diaries merged is) due become

      state_of_diary : (diary : Diary) → In diary diaries → state_at (run events (first_world shape)) diary.node ≡ last_state m diary
      state_of_diary diary there =
          let formed = formed_at diary there in
          ran.states diary.node formed.start formed.first
          ∙ ap (λ (xs : List (Step NodeState)). Some (behind formed.start xs)) (its_steps diary there)
          ∙ ap Some (behind_all m (nodes_quiet shape) diary.node formed.start diary.entries)
          ∙ ap (option_map (λ (s : NodeState). state_behind m s diary.entries)) (sym formed.first)

      pub lived : IsLived shape diaries merged events
      lived = record {
        free = ran.free;
        states = in_each (λ (diary : Diary). state_at (run events (first_world shape)) diary.node ≡ last_state m diary) diaries state_of_diary;
        crashed = λ node. subst (λ (nodes : List ℕ). In node nodes ↔ IsCrashedIn diaries node) (sym ran.crashed) (crashes_are m diaries are merged is node);
        history = ran.history;
      }

-- the first of a message's numbers is one of them
any_number : (sent : List Envelope) (node : ℕ) (input : Input) (event : WorldEvent) → IsEventOf (IsFirstNumber sent) node input event → IsEventOf (IsNumber sent) node input event
any_number sent node (Take envelope) event h = record { number = h.number; numbered = h.numbered.is; is = h.is }
any_number sent node (Peek stable time replica from ids) event h = record { claim = h.claim; by = h.by; at = h.at; says = h.says; number = h.number; numbered = h.numbered.is; is = h.is }
any_number sent node Tick event h = h
any_number sent node Grace event h = h
any_number sent node Crash event h = h
any_number sent node (Post bytes) event h = h
any_number sent node (Ask ask) event h = h
any_number sent node (Trim floor) event h = h
any_number sent node (Suspect other) event h = h

any_numbers : (sent : List Envelope) (steps : List (Step NodeState)) (events : List WorldEvent) → AreEventsOf (IsFirstNumber sent) steps events → AreEventsOf (IsNumber sent) steps events
any_numbers sent [] [] h = tt
any_numbers sent [] (event ∷ events) h = absurd h
any_numbers sent (x ∷ xs) [] h = absurd h
any_numbers sent (x ∷ xs) (event ∷ events) h = (any_number sent x.node x.input event h.0, any_numbers sent xs events h.1)

pub merge_lived : (shape : Dimensions) (diaries : List Diary) (events : List WorldEvent) (is : IsMerge (nodes_of_shape shape) diaries events) → AreDiaries (nodes_of_shape shape) diaries → AreClosed (nodes_of_shape shape) diaries → IsLived shape diaries is.merged events
merge_lived shape diaries events is are closed = lived shape diaries are closed is.merged is.in_order events (any_numbers (sent_by is.merged) is.merged events is.become)
