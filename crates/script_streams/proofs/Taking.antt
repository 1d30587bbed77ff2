-- What is taken of what was read ahead.
use Rattle.std.proofs.Common.{◌≡◌, ◌≢◌, ℕ, ◌+◌, ◌<◌, ◌≤◌, true, false, List, [], ◌∷◌, ◌++◌, length, take, drop, None, Some, refl, sym, ap, subst, ◌∙◌, append-nil, length-append, arith}
use Rattle.std.specs.Prelude.{Ok, Err, position}
use Rattle.std.proofs.Math.Seq.{drop-length}
use Rattle.std.proofs.lemmas.List.{drop-drop, length-take-le, take-append-drop, take_all}
use Rattle.script_streams.specs.Lines.{IsPlain, is_newline}
use Rattle.script_streams.specs.Reading.{Reading, TakesPart, with_part}
use Rattle.script_streams.specs.declared.line_reader.LineError.{LineError}
use Rattle.script_streams.specs.declared.line_reader.LineError.TheVariants.{TooLong, Failed, Memory}
use Rattle.script_streams.proofs.Pieces.{newline_at, no_newline}

module _ (old : Reading) where
  -- up to a newline, which is left out
  pub part_ended : (new : Reading) (i : ℕ) → position is_newline old.ahead ≡ Some i → new ≡ record (with_part old i) { ahead = drop 1 (drop i old.ahead) } → length (with_part old i).line ≤ old.most → TakesPart old new (Ok true)
  part_ended new i found is short =
      let at = newline_at old.ahead i found in
      let line_is : new.line ≡ old.line ++ take i old.ahead = ap (λ (r : Reading). r.line) is in
      let rest_is : new.ahead ≡ drop (i + 1) old.ahead = ap (λ (r : Reading). r.ahead) is ∙ drop-drop 1 i old.ahead in (
        record { piece = take i old.ahead; plain = at.plain; ahead = at.parts ∙ ap (λ (rest : List ℕ). take i old.ahead ++ 10 ∷ rest) (sym rest_is); line = line_is },
        subst (λ (line : List ℕ). length line ≤ old.most) (sym line_is) short,
      )

  -- all of it
  pub part_open : (new : Reading) (count : ℕ) → position is_newline old.ahead ≡ None → count ≡ length old.ahead → new ≡ with_part old count → length new.line ≤ old.most → TakesPart old new (Ok false)
  part_open new count none all is short =
      let whole : take count old.ahead ≡ old.ahead = take_all count old.ahead (omega arith) in
      let nothing : drop count old.ahead ≡ [] = ap (λ (n : ℕ). drop n old.ahead) all ∙ drop-length old.ahead in
      let line_is : new.line ≡ old.line ++ old.ahead = ap (λ (r : Reading). r.line) is ∙ ap (λ (piece : List ℕ). old.line ++ piece) whole in
      let rest_is : new.ahead ≡ [] = ap (λ (r : Reading). r.ahead) is ∙ nothing in (
        record { piece = old.ahead; plain = no_newline old.ahead none; ahead = sym (append-nil old.ahead) ∙ ap (λ (rest : List ℕ). old.ahead ++ rest) (sym rest_is); line = line_is },
        rest_is,
        short,
      )

  pub all_plain : (count : ℕ) → position is_newline old.ahead ≡ None → count ≡ length old.ahead → IsPlain (take count old.ahead)
  all_plain count none all = subst IsPlain (sym (take_all count old.ahead (omega arith))) (no_newline old.ahead none)

  -- it is too long, or there was no memory for it
  pub part_refused : (new : Reading) (count : ℕ) (e : LineError) → IsPlain (take count old.ahead) → count ≤ length old.ahead → e ≢ Failed →
      (e ≡ TooLong → (old.most < length old.line + count) × (new ≡ record old { ahead = drop count old.ahead })) → TakesPart old new (Err e)
  part_refused new count TooLong plain within other long =
      let is = long refl in
      let rest_is : new.ahead ≡ drop count old.ahead = ap (λ (r : Reading). r.ahead) is.1 in
      let size : length (take count old.ahead) ≡ count = length-take-le count old.ahead within in (
        take count old.ahead,
        plain,
        sym (take-append-drop count old.ahead) ∙ ap (λ (rest : List ℕ). take count old.ahead ++ rest) (sym rest_is),
        omega (arith, is.0, size, length-append old.line (take count old.ahead)),
        ap (λ (r : Reading). r.line) is.1,
      )
  part_refused new count Failed plain within other long = absurd (other refl)
  part_refused new count Memory plain within other long = tt
