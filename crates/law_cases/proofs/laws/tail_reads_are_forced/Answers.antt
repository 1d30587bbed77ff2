use Rattle.rec_id.specs.declared.limits.TheConstants.{READ_LIMIT}
use Rattle.std.proofs.Common.{ℕ, ◌-◌, ◌+◌, min, ap, sym, ◌∙◌}
use Rattle.law_cases.proofs.Consequences.{tail_forced, tail_count}
use Rattle.law_cases.proofs.laws.tail_reads_are_forced.Goals as goal

pub returns : goal.returns
returns c = record {
  forced = λ history line h start from entries tail told.
      tail_forced history line h.slices told.begun told.index told.client told.read start from entries tail told.later told.begins told.answers;
  from = λ history line h start from t entries told.
      (tail_count history line h.slices told.begun told.index told.client told.read start from entries t told.later told.begins told.answers).0;
  count = λ history line h start from t entries told.
      let k = tail_count history line h.slices told.begun told.index told.client told.read start from entries t told.later told.begins told.answers in
      k.1 ∙ ap (λ (n : ℕ). min (start + READ_LIMIT) t - n) (sym k.0);
}
