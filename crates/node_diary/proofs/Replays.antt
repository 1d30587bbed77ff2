-- What diaries come to by themselves is what the run of their merge comes to.
use Rattle.std.proofs.Common.{◌≡◌, ℕ, List, [], ◌∷◌, ◌++◌, Result, Ok, Err, inl, inr, refl, sym, ap, ◌∙◌, subst}
use Rattle.std.specs.List.{flat_map}
use Rattle.list_facts.specs.Lists.{In}
use Rattle.list_facts.proofs.Members.{each_append}
use Rattle.rec_id.specs.declared.entry.Entry.{Entry}
use Rattle.rec_id.specs.declared.event.Event.{Event}
use Rattle.rec_id.specs.Lawful.{Lawful}
use Rattle.view_config.specs.Shape.{Dimensions}
use Rattle.lazy_msgs.specs.declared.diary.Diary.{Diary}
use Rattle.lazy_msgs.specs.declared.input.WorldEvent.{WorldEvent}
use Rattle.lazy_rules.specs.Holders.{holders}
use Rattle.lazy_rules.specs.Lines.{line_told}
use Rattle.lazy_rules.specs.WorldRules.{run}
use Rattle.lazy_rules.specs.WorldState.{WorldState, first_world}
use Rattle.log_facts.specs.LawfulLines.{AreLinesLawful}
use Rattle.all_rows.proofs.Everywhere.{lines_lawful}
use Rattle.all_rows.proofs.Rows.{all_rows}
use Rattle.diary_laws.specs.Merges.{IsMerge}
use Rattle.diary_laws.specs.Nodes.{nodes_of_shape}
use Rattle.diary_laws.specs.Snapshots.{HoldAlike}
use Rattle.diary_laws.proofs.holding.Same.{snapshot_alike}
use Rattle.diary_laws.proofs.runs.Merged.{merge_lived}
use Rattle.lazy_core.specs.declared.trail.HolderLine.{HolderLine}
use Rattle.lazy_core.specs.declared.trail.Trail.{Trail}
use Rattle.lazy_core.specs.Filled.{AreLawful, line_if, spared_line, spared_lines}
use Rattle.node_diary.specs.Folding.{IsHistoryOf, found_tellings, nodes_in_order}
use Rattle.diary_merge.specs.Merging.{AreWhole}
use Rattle.node_diary.specs.Replaying.{IsTrailOf}
use Rattle.node_diary.proofs.Histories.{history_told}
use Rattle.node_diary.proofs.Snapshots.{snapshot, w}

flat_agree : {A B : Type 0} (f g : A → List B) → ((x : A) → f x ≡ g x) → (xs : List A) → flat_map f xs ≡ flat_map g xs
flat_agree f g same [] = refl
flat_agree f g same (x ∷ xs) = ap (λ l. l ++ flat_map f xs) (same x) ∙ ap (λ l. g x ++ l) (flat_agree f g same xs)

lines_alike : (v r : WorldState) → HoldAlike v r → spared_lines v ≡ spared_lines r
lines_alike v r h =
    flat_agree (spared_line v) (spared_line r) (λ holder. ap (line_if holder) (h.lines holder)) (holders v) ∙ ap (flat_map (spared_line r)) h.holders

-- each line that isn't lost is lawful
lawful_if : (history : List Event) (holder : ℕ) (told : Result (List Entry) ℕ) → ((line : List Entry) → told ≡ Ok line → Lawful history line) → AreLawful history (line_if holder told)
lawful_if history holder (Ok line) h = (h line refl, tt)
lawful_if history holder (Err shard) h = tt

lawful_all : (r : WorldState) (nodes : List ℕ) → ((holder : ℕ) → In holder nodes → In holder (holders r)) → AreLinesLawful r → AreLawful r.history (flat_map (spared_line r) nodes)
lawful_all r [] among h = tt
lawful_all r (holder ∷ nodes) among h =
    each_append (λ (held : HolderLine). Lawful r.history held.line) (spared_line r holder) (flat_map (spared_line r) nodes)
    (lawful_if r.history holder (line_told r holder) (λ line told. h holder line (among holder (inl refl)) told))
    (lawful_all r nodes (λ other there. among other (inr there)) h)

module _ (shape : Dimensions) (diaries : List Diary) (whole : AreWhole shape diaries) (trail : Trail) (told : IsHistoryOf (flat_map (found_tellings shape diaries) (nodes_in_order shape)) trail.history) (lines : trail.lines ≡ spared_lines (w shape diaries whole.formed)) where
  pub trail_of : (events : List WorldEvent) → IsMerge (nodes_of_shape shape) diaries events → IsTrailOf shape events trail
  trail_of events is =
      let r : WorldState = run events (first_world shape) in
      let lived = merge_lived shape diaries events is whole.closed.are whole.closed.closed in
      let history : trail.history ≡ r.history = history_told shape diaries whole trail.history told is.merged is.in_order ∙ sym lived.history in
      let alike = snapshot_alike shape whole.formed diaries whole.closed.are is.merged events lived (w shape diaries whole.formed) (snapshot shape diaries whole.formed whole) in
      let same : trail.lines ≡ spared_lines r = lines ∙ lines_alike (w shape diaries whole.formed) r alike in
      record {
        history = history;
        lines = same;
        lawful = subst (λ (l : List HolderLine). AreLawful trail.history l) (sym same)
            (subst (λ (h : List Event). AreLawful h (spared_lines r)) (sym history) (lawful_all r (holders r) (λ holder there. there) (lines_lawful all_rows shape events whole.formed)));
      }
