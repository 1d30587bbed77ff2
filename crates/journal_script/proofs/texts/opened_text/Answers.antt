use Rattle.std.proofs.Common.{◌≡◌, ◌++◌, ℕ, List, ap, sym, ◌∙◌, append_assoc, codes, decimal}
use Rattle.rec_id.specs.declared.entry.Entry.{Entry}
use Rattle.trace_script.specs.EntryTexts.{parted}
use Rattle.journal_script.specs.Texts.{opened_text, placed_text}
use Rattle.journal_script.proofs.texts.opened_text.Goals as goal

pub returns : goal.returns
returns c =
    let head = codes "opened: kept to " in
    let kept = decimal c.args.kept in
    let entries = parted placed_text c.as_slice.result.now in
    let items : c.into_bytes-out.result.items ≡ head ++ (kept ++ codes ": ") = rw (c.into_bytes-out.ensures.value) c.in_ok-format.ensures.ok in
    c.from_vec.ensures ∙ c.in_ok-put_entries.ensures ∙ ap (λ (l : List ℕ). l ++ entries) items
    ∙ ap (λ (l : List ℕ). head ++ l) (append_assoc kept (codes ": ") entries)
    ∙ ap (λ (l : List (ℕ × Entry)). opened_text c.args.kept l) c.as_slice.ensures
