-- The line of each holder that isn't lost is lawful: what a holder has goes on with the line.
use Rattle.std.proofs.Common.{◌≡◌, ℕ, ◌<◌, List, [], ◌∷◌, Bool, true, false, Option, Some, None, refl, sym, ap, ◌∙◌, subst, arith}
use Rattle.std.specs.Prelude.{◌==◌, if◌then◌else◌, filter, unwrap_or}
use Rattle.std.specs.Option.{option_map_or}
use Rattle.std.proofs.lemmas.Bool.{eqb-true, eqb-false, le-ltb}
use Rattle.list_facts.specs.Lists.{In}
use Rattle.list_facts.proofs.Members.{in_filter}
use Rattle.rec_id.specs.Lawful.{Lawful}
use Rattle.rec_id.specs.declared.marks.Marks.{Marks}
use Rattle.view_config.specs.Nodes.{taken_state}
use Rattle.view_config.specs.Shape.{Dimensions, IsShape}
use Rattle.view_config.specs.declared.config.Config.{Config}
use Rattle.world_facts.specs.MembersOf.{PhaseNamed}
use Rattle.lazy_rules.specs.ControlState.{Phase, Running, Sealing, Flushing, latest_started}
use Rattle.lazy_rules.specs.Holders.{Holding, holders, holding, holding_of, is_alive, member_holding, seq_numbered, shared_holding}
use Rattle.lazy_rules.specs.Lines.{first_stores, line_over}
use Rattle.lazy_rules.specs.SeqState.{SeqState}
use Rattle.lazy_rules.specs.WorldState.{WorldState}
use Rattle.log_facts.specs.Agreed.{Agreed, Kept}
use Rattle.log_facts.specs.Ghosts.{Ghost}
use Rattle.log_facts.specs.LawfulLines.{AreLinesLawful}
use Rattle.log_facts.specs.Parts.{no_seq, parts_of}
use Rattle.log_facts.specs.Promises.{holder_window, member_window, shared_window, window_of_member}
use Rattle.log_facts.specs.facts.OfLine.{BaseFacts}
use Rattle.log_facts.specs.facts.OfViews.{PhaseFacts}
use Rattle.log_facts.proofs.lines.Entries.{IsHeld}
use Rattle.log_facts.proofs.lines.Finals.{IsAgreed}
use Rattle.log_facts.proofs.lines.Holders.{line_lawful}
use Rattle.log_facts.proofs.lines.Stores.{told_line}

-- what a holder has, with its window, goes on with the line
abbrev pub GoesOn : Dimensions → Ghost → WorldState → Holding → List Marks → Type 0
GoesOn shape g w held window = IsHeld shape g w held.bound window held.items

-- so much is bound, and no item follows
abbrev pub unfilled : ℕ → Holding
unfilled bound = record { bound = bound; items = [] }

-- a number that no sequencing replica has stands for one of view 0
unseen : (shape : Dimensions) (node : ℕ) → (no_seq shape node).view ≡ 0
unseen shape node = ap (λ (b : Bool). if b then 1 else 0) (le-ltb shape.seq shape.seq (omega arith))

module _ (shape : Dimensions) (g : Ghost) (w : WorldState) (agreed : Agreed shape g (parts_of w)) where
  -- what the latest started view began with, where a member hasn't taken it
  base_goes_on : BaseFacts shape g.views g.log w.history → GoesOn shape g w (unfilled (g.views.bs g.views.lv)) (g.views.wn g.views.lv)
  base_goes_on base =
      let low = base.low in
      let high = agreed.line.low in
      record { held = base.held; whole = tt; least = omega arith; most = omega arith }

  -- a member of the latest started view, while that is the current one
  module _ (holder : ℕ) (config : Config) (live : g.views.cur ≡ g.views.lv) (named : config ≡ g.views.cf g.views.lv) (among : In holder config.seq) (shared : Holding) (marks : List Marks) (began : shared ≡ unfilled (g.views.bs g.views.lv)) (marked : marks ≡ g.views.wn g.views.lv) where
    abbrev s : SeqState
    s = (parts_of w).seqs holder

    absent : s.view < g.views.cur → GoesOn shape g w shared marks
    absent before =
        let member : In holder (g.views.cf g.views.cur).seq = subst (λ (n : ℕ). In holder (g.views.cf n).seq) (sym live) (subst (λ (c : Config). In holder c.seq) named among) in
        subst (λ (held : Holding). GoesOn shape g w held marks) (sym began)
        (subst (GoesOn shape g w (unfilled (g.views.bs g.views.lv))) (sym marked) (base_goes_on ((agreed.line.live (sym live)).absent holder member before)))

    own : s.view ≡ g.views.cur → GoesOn shape g w (record { bound = s.bound; items = s.pending }) s.window
    own taken =
        let member = agreed.line.members holder taken in
        record { held = member.held; whole = (agreed.seqs holder).items; least = member.least; most = member.most }

    pub member_goes_on : GoesOn shape g w (option_map_or (member_holding shared config.view) (seq_numbered w holder) shared) (option_map_or (member_window marks config.view) (seq_numbered w holder) marks)
    member_goes_on = by (seq_numbered w holder) refl
      where
        -- in its own view or in another one
        at_view : (seq : SeqState) → s ≡ seq → (b : Bool) → (seq.view == config.view) ≡ b → GoesOn shape g w (if b then record { bound = seq.bound; items = seq.pending } else shared) (if b then seq.window else marks)
        at_view seq is true same =
            let viewed : s.view ≡ seq.view = ap (λ (x : SeqState). x.view) is in
            let number : config.view ≡ g.views.lv = ap (λ (c : Config). c.view) named ∙ agreed.views.configs.numbered g.views.lv in
            let equal = eqb-true seq.view config.view same in
            subst (λ (x : SeqState). GoesOn shape g w (record { bound = x.bound; items = x.pending }) x.window) is (own (omega arith))
        at_view seq is false other =
            let viewed : s.view ≡ seq.view = ap (λ (x : SeqState). x.view) is in
            let number : config.view ≡ g.views.lv = ap (λ (c : Config). c.view) named ∙ agreed.views.configs.numbered g.views.lv in
            let apart = eqb-false seq.view config.view other in
            let known = (agreed.seqs holder).known in
            absent (omega arith)

        by : (o : Option SeqState) → seq_numbered w holder ≡ o → GoesOn shape g w (option_map_or (member_holding shared config.view) o shared) (option_map_or (member_window marks config.view) o marks)
        by None e =
            let some = agreed.views.started.some in
            let none : s.view ≡ 0 = ap (λ (x : Option SeqState). (unwrap_or x (no_seq w.shape holder)).view) e ∙ unseen w.shape holder in
            absent (omega arith)
        by (Some seq) e = at_view seq (ap (λ (x : Option SeqState). unwrap_or x (no_seq w.shape holder)) e) (seq.view == config.view) refl

  pub holder_goes_on : (holder : ℕ) → In holder (holders w) → GoesOn shape g w (holding w holder) (holder_window w holder)
  holder_goes_on holder h = by w.control.phase refl agreed.views.control.phase h
    where
      shared_in : (phase : Phase) → w.control.phase ≡ phase → shared_holding w.control ≡ shared_holding (record w.control { phase = phase })
      shared_in phase e = ap (λ (p : Phase). shared_holding (record w.control { phase = p })) e

      marks_in : (phase : Phase) → w.control.phase ≡ phase → shared_window w.control ≡ shared_window (record w.control { phase = phase })
      marks_in phase e = ap (λ (p : Phase). shared_window (record w.control { phase = p })) e

      based : unfilled w.control.base ≡ unfilled (g.views.bs g.views.lv)
      based = ap unfilled agreed.views.control.base

      by : (phase : Phase) → w.control.phase ≡ phase → PhaseFacts g.views phase → In holder (option_map_or (λ (config : Config). filter (is_alive w) config.seq) (latest_started phase) (taken_state ∷ []))
          → GoesOn shape g w (option_map_or (holding_of w holder) (latest_started phase) (shared_holding w.control)) (option_map_or (window_of_member w holder) (latest_started phase) (shared_window w.control))
      by (Running reign) e facts m =
          member_goes_on holder reign.config facts.live facts.config (in_filter (is_alive w) reign.config.seq holder m).0
          (shared_holding w.control) (shared_window w.control) (shared_in (Running reign) e ∙ based) (marks_in (Running reign) e ∙ agreed.views.control.window)
      by (Sealing change) e facts m =
          member_goes_on holder change.old facts.live facts.old (in_filter (is_alive w) change.old.seq holder m).0
          (shared_holding w.control) (shared_window w.control) (shared_in (Sealing change) e ∙ based) (marks_in (Sealing change) e ∙ agreed.views.control.window)
      by (Flushing taken) e facts m =
          let held = agreed.line.taken taken e in
          let low = held.low in
          let high = agreed.line.low in
          let has : GoesOn shape g w (record { bound = taken.from; items = taken.items }) taken.window = record { held = held.held; whole = held.whole; least = omega arith; most = omega arith } in
          subst (λ (held : Holding). GoesOn shape g w held (shared_window w.control)) (sym (shared_in (Flushing taken) e))
          (subst (GoesOn shape g w (record { bound = taken.from; items = taken.items })) (sym (marks_in (Flushing taken) e)) has)

-- the lines of a world with these facts are lawful
pub spared_lines_lawful : (shape : Dimensions) (w : WorldState) → IsShape shape → w.shape ≡ shape → PhaseNamed shape w.control.phase → Kept shape w → AreLinesLawful w
spared_lines_lawful shape w formed shaped named kept holder line h told =
    let is = told_line w holder line told in
    let agreed : IsAgreed shape kept.ghost w = record { formed = formed; shaped = shaped; named = named; agreed = kept.holds.agreed } in
    let goes = holder_goes_on shape kept.ghost w kept.holds.agreed holder h in
    let own : Lawful w.history (line_over shape (first_stores w) (holding w holder)) = line_lawful shape kept.ghost w agreed is.0 (holding w holder).bound (holder_window w holder) (holding w holder).items goes in
    subst (Lawful w.history) (ap (λ (d : Dimensions). line_over d (first_stores w) (holding w holder)) (sym shaped) ∙ is.1) own
