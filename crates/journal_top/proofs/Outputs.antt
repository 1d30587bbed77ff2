-- One output and then another.
use Rattle.std.proofs.Common.{◌≡◌, ℕ, List, [], ◌∷◌, ◌++◌, refl, sym, ap, ◌∙◌, append_assoc, append-nil}
use Rattle.std.specs.Prelude.{Result, Ok, Err}
use Rattle.io_edges.specs.declared.status.Status.{Status}
use Rattle.script_streams.specs.Lines.{Lines}
use Rattle.journal_top.specs.Rules.{ToolState}
use Rattle.journal_top.specs.Output.{Output, all_output, behind, continued, continued_from, goes_on, line_output, lines_output, rest_output}

pub continued_ok : (t : Output) (r : ToolState) (more : ToolState → Output) → t.now ≡ Ok r → continued t more ≡ behind t (more r)
continued_ok t r more is = ap (λ (n : Result ToolState Status). continued_from t n more) is

pub continued_err : (t : Output) (status : Status) (more : ToolState → Output) → t.now ≡ Err status → continued t more ≡ t
continued_err t status more is = ap (λ (n : Result ToolState Status). continued_from t n more) is

-- three parts
behind_assoc : (first second third : Output) → behind (behind first second) third ≡ behind first (behind second third)
behind_assoc first second third = ap (λ (texts : List (List ℕ)). let made : Output = record { texts = texts; now = third.now } in made) (append_assoc first.texts second.texts third.texts)

pub continued_assoc : (t : Output) (second third : ToolState → Output) → continued (continued t second) third ≡ continued t (λ n. continued (second n) third)
continued_assoc t second third = by t.now refl
  where
    inside : (r : ToolState) (m : Result ToolState Status) → (second r).now ≡ m → continued (behind t (second r)) third ≡ behind t (continued (second r) third)
    inside r (Err status) e = continued_err (behind t (second r)) status third e ∙ ap (behind t) (sym (continued_err (second r) status third e))
    inside r (Ok next) e = continued_ok (behind t (second r)) next third e ∙ behind_assoc t (second r) (third next) ∙ ap (behind t) (sym (continued_ok (second r) next third e))

    by : (n : Result ToolState Status) → t.now ≡ n → continued (continued t second) third ≡ continued t (λ n. continued (second n) third)
    by (Err status) e = ap (λ (x : Output). continued x third) (continued_err t status second e) ∙ continued_err t status third e ∙ sym (continued_err t status (λ n. continued (second n) third) e)
    by (Ok r) e = ap (λ (x : Output). continued x third) (continued_ok t r second e) ∙ inside r (second r).now refl ∙ sym (continued_ok t r (λ n. continued (second n) third) e)

continued_same : (t : Output) (one other : ToolState → Output) → ((r : ToolState) → one r ≡ other r) → continued t one ≡ continued t other
continued_same t one other same = by t.now refl
  where
    by : (n : Result ToolState Status) → t.now ≡ n → continued t one ≡ continued t other
    by (Err status) e = continued_err t status one e ∙ sym (continued_err t status other e)
    by (Ok r) e = continued_ok t r one e ∙ ap (behind t) (same r) ∙ sym (continued_ok t r other e)

pub continued_none : (t : Output) → continued t goes_on ≡ t
continued_none t = by t.now refl
  where
    by : (n : Result ToolState Status) → t.now ≡ n → continued t goes_on ≡ t
    by (Err status) e = continued_err t status goes_on e
    by (Ok r) e =
        continued_ok t r goes_on e
        ∙ ap (λ (texts : List (List ℕ)). let made : Output = record { texts = texts; now = Ok r } in made) (append-nil t.texts)
        ∙ ap (λ (n : Result ToolState Status). let made : Output = record { texts = t.texts; now = n } in made) (sym e)

-- what begins an output
pub continued_begins : (t : Output) (more : ToolState → Output) → (rest : List (List ℕ)) × ((continued t more).texts ≡ t.texts ++ rest)
continued_begins t more = by t.now refl
  where
    by : (n : Result ToolState Status) → t.now ≡ n → (rest : List (List ℕ)) × ((continued t more).texts ≡ t.texts ++ rest)
    by (Err status) e = ([], ap (λ (x : Output). x.texts) (continued_err t status more e) ∙ sym (append-nil t.texts))
    by (Ok r) e = ((more r).texts, ap (λ (x : Output). x.texts) (continued_ok t r more e))

-- some lines, and those behind them
pub lines_append : (r : ToolState) (first second : List (List ℕ)) → lines_output r (first ++ second) ≡ continued (lines_output r first) (λ n. lines_output n second)
lines_append r [] second = refl
lines_append r (line ∷ first) second =
    continued_same (line_output r line) (λ n. lines_output n (first ++ second)) (λ n. continued (lines_output n first) (λ m. lines_output m second)) (λ n. lines_append n first second)
    ∙ sym (continued_assoc (line_output r line) (λ n. lines_output n first) (λ m. lines_output m second))

-- some lines before the others
abbrev pub after_lines : List (List ℕ) → Lines → Lines
after_lines first lines = record { whole = first ++ lines.whole; rest = lines.rest }

pub all_append : (r : ToolState) (first : List (List ℕ)) (lines : Lines) → all_output r (after_lines first lines) ≡ continued (lines_output r first) (λ n. all_output n lines)
all_append r first lines =
    ap (λ (t : Output). continued t (λ n. rest_output n lines.rest)) (lines_append r first lines.whole)
    ∙ continued_assoc (lines_output r first) (λ n. lines_output n lines.whole) (λ n. rest_output n lines.rest)

-- a line that went on
pub one_line : (r now : ToolState) (line : List ℕ) → (line_output r line).now ≡ Ok now → lines_output r (line ∷ []) ≡ line_output r line
one_line r now line on = continued_none (line_output r line)
