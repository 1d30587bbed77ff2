use Rattle.std.specs.Prelude.{ℕ, ◌+◌, List, [], ◌∷◌, ◌++◌, ◌&&◌, nat_le, if◌then◌else◌, codes, decimal}
use Rattle.log_law.specs.declared.verdict.Verdict.{Verdict}
use Rattle.log_law.specs.declared.verdict.Verdict.TheVariants.{Lawful, Broken}
use Rattle.trace_script.specs.Names.{holder_name}

-- A clause of the law is printed as its letter, the first one as `a`.
abbrev pub letter : ℕ → ℕ
letter clause = if nat_le 1 clause && nat_le clause 9 then 96 + clause else 63

abbrev pub law_text : ℕ → List ℕ → List ℕ
law_text holder says = codes "law " ++ (holder_name holder ++ (codes ": " ++ says))

abbrev pub verdict_says : Verdict → List ℕ
verdict_says Lawful = codes "lawful"
verdict_says (Broken clause first second) = codes "broken " ++ (letter clause ∷ (codes " " ++ (decimal first ++ (codes " " ++ decimal second))))

-- what the law says of the line of a holder
abbrev pub verdict_text : ℕ → Verdict → List ℕ
verdict_text holder verdict = law_text holder (verdict_says verdict)

-- a holder whose line is lost, by the first shard that is gone
abbrev pub lost_verdict_text : ℕ → ℕ → List ℕ
lost_verdict_text holder shard = law_text holder (codes "lost shard " ++ decimal shard)
